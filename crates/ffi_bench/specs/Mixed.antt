-- What the functions for the benchmark answer: a number made of what was read (times are left out), so that two programs can be compared.
use Rattle.std.specs.Prelude.{ℕ, ◌+◌, ◌%◌, ◌^◌, Bool, true, false, List, length}
use Rattle.error.specs.Writer.{writing}
use Rattle.lossy.specs.Lossy.{lossy_of}
use Rattle.lossy.specs.Marks.{marks_of, with_marks}
use Rattle.framing.specs.Read.{read_of, fresh}
use Rattle.load.specs.Load.{loading}
use Rattle.replication.specs.CopyData as C
use Rattle.pgoutput.specs.Boundary as B

-- a sum of 64 bits, the rest lost
abbrev pub plus : ℕ → ℕ → ℕ
plus a b = (a + b) % 2 ^ 64

abbrev pub bit : Bool → ℕ
bit true = 1
bit false = 0

abbrev pub copy_mixed : C.Said → ℕ
copy_mixed (C.w start end time from len) = plus (plus start end) len
copy_mixed (C.k end time reply) = plus end (bit reply)
copy_mixed (C.refused n) = n

abbrev pub boundary_mixed : B.Said → ℕ
boundary_mixed (B.begin final time xid) = plus final xid
boundary_mixed (B.commit position end time) = plus position end
boundary_mixed (B.message flag position pf pl cf cl) = plus (plus position pl) (plus cl (bit flag))
boundary_mixed B.no_boundary = 0
boundary_mixed (B.refused n) = n

-- how many bytes a fresh reader takes of a first message, and the payload buffer after it
abbrev pub read_taken : ℕ → List ℕ → List ℕ → ℕ × List ℕ
read_taken limit u p = let x = read_of limit fresh u false p in (x.2, x.3)

-- how many bytes of a lossy text were written, and the output after that
abbrev pub lossy_written : List ℕ → List ℕ → ℕ × List ℕ
lossy_written text out = let w = with_marks (marks_of text) (writing (length text) (lossy_of text) out) in (w.0.1, w.1)

-- how many bytes of a generated stream were written, and the output after that
abbrev pub load_written : ℕ → ℕ → List ℕ → ℕ × List ℕ
load_written seed messages out = let w = loading seed messages out in (w.0.1, w.1)
