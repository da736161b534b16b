-- What the inner functions say. SCOPE 18.
use Rattle.std.specs.Prelude.{true, List, [], ◌∷◌, ℕ, zero, suc, eqb}
use Rattle.wire.specs.Bytes.{pick}
use Rattle.rows.specs.Layout.{Read, got, refused}
use Rattle.rows.specs.Head.{identifier_at}
use Rattle.touched.specs.declared.Files.{Files}
use Rattle.touched.specs.Touched.{files}

-- file f too; a number above 3 is no file's
abbrev pub with_file : ℕ → Files → Files
with_file f b =
    pick (eqb f 0) (files true b.one b.two b.three)
    (pick (eqb f 1) (files b.zero true b.two b.three)
    (pick (eqb f 2) (files b.zero b.one true b.three)
    (pick (eqb f 3) (files b.zero b.one b.two true) b)))

-- an identifier that was read, and those after it
abbrev pub and_then : Read ℕ → (ℕ → List ℕ) → List ℕ
and_then (got id j) f = id ∷ f j
and_then (refused n) f = []

-- n identifiers from place i on, up to the first that is cut
unfoldable pub identifiers_at : List ℕ → ℕ → ℕ → List ℕ
identifiers_at s zero i = []
identifiers_at s (suc n) i = and_then (identifier_at s i) (λ j. identifiers_at s n j)
