-- The query of start_replication in its pieces.
use mathlib.Core.Path.{◌≡◌, ap, ◌∙◌}
use mathlib.Core.Bool.{Bool, true, false}
use mathlib.Core.List.{List, [], ◌∷◌, ◌++◌, append_assoc}
use Prim.Native.Nat.{ℕ, ◌+◌, ◌-◌, ◌/◌, ◌%◌, ◌≤◌}
use native.Mathlib.Omega.{arith}
use borrow.Author.Tests.{leb-true}
use lib.Dec.{leb}
use lib.ListN.{length, length-append}
use denote.Ref.{Bor}
use Rattle.wire.specs.Bytes.{be_bytes, placed}
use Rattle.wire.proofs.Laws.{by_test, length_put, placed_fits}
use Rattle.text.proofs.Laws.{numeral_length}
use Rattle.config.specs.OptionValue.{option_value}
use Rattle.frontend.specs.Frontend.{query}
use Rattle.frontend.proofs.Laws.{header_pieces, framed_header, length_framed}
use Rattle.lsn.specs.declared.Lsn.{Lsn}
use Rattle.lsn.specs.Position.{display_of}
use Rattle.lsn.proofs.Laws.{length_display}
use Rattle.request.specs.Request.{start_replication, end_text, payload_text}

-- a list keeps its length whether another is placed in it or has no room
pub length_placed : (d : List ℕ) (to : ℕ) (src : List ℕ) {r : ℕ} {q : List ℕ} → (r, q) ≡ placed d to src → length q ≡ length d
unfolding placed
length_placed d to src {r} {q} p =
    by_test (leb (to + length src) (length d))
    (λ t. let h = leb-true (to + length src) (length d) t in rw (placed_fits d to src h p).1 (length_put d src to h))
    (λ t. ap (λ (x : ℕ × List ℕ). length x.1) (simp t at p))

pub length_end : (b : Bool) → length (end_text b) ≤ 35
unfolding end_text
length_end true = omega arith
length_end false = omega arith

pub length_position : (v : ℕ) → length (display_of v) ≤ 41
length_position v = omega (arith, length_display v, numeral_length 16 20 (v / 4294967296), numeral_length 16 20 (v % 4294967296))

module _ (b : Bool) (slot : List ℕ) (names : List (Bor (List ℕ))) (p : Lsn) where
  payload_text_lem : start_replication b slot names p ++ (0 ∷ []) ≡ payload_text b slot names p
  unfolding start_replication end_text
  payload_text_lem = simp append_assoc

  -- the sum that the code makes
  pub length_request : length (query (start_replication b slot names p))
      ≡ length slot + 77 + length (display_of p.0) + length (option_value names) + length (end_text b)
  unfolding query
  length_request = rw payload_text_lem (length_framed 81 (payload_text b slot names p) ∙ simp length-append (omega arith))

  -- the pieces in the order in which they are written; n is the length of all
  pub pieces : (n : ℕ) → n ≡ length (query (start_replication b slot names p))
      → query (start_replication b slot names p) ≡ be_bytes 1 81 ++ (be_bytes 4 (n - 1) ++ payload_text b slot names p)
  unfolding query
  pieces n e =
      let k : length (query (start_replication b slot names p)) ≡ length (payload_text b slot names p) + 5 = rw payload_text_lem (length_framed 81 (payload_text b slot names p)) in
      let l : n - 1 ≡ length (payload_text b slot names p) + 4 = omega arith in
      rw (l, payload_text_lem)
      (framed_header 81 (payload_text b slot names p) ∙ rw (header_pieces 81 (length (payload_text b slot names p)) (omega arith)) (simp append_assoc))
