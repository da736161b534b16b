-- What the values of the code stand for.
use mathlib.Core.Path.{◌≡◌, refl, ap}
use mathlib.Core.List.{List, []}
use mathlib.Core.Option.{Option, some, none}
use Prim.Native.Nat.{ℕ, ◌*◌}
use lib.Dec.{leb}
use Rattle.wire.specs.Bytes.{pick}
use Rattle.relations.specs.Memory.{Memory, memory, columns, slot_in, count_in}
use Rattle.relations.specs.Answers.{Told, told_among}
use Rattle.relations.specs.VariantLaws.{VariantLaws}

same_told : (types flags lens names : List ℕ) (i : ℕ) (o : Option ℕ) (k : ℕ)
    → told_among (columns types flags lens names) i o k ≡ told_among (columns types flags lens []) i o k
same_told types flags lens names i none k = refl
same_told types flags lens names i (some n) k = refl

pub variant_laws : VariantLaws
variant_laws = record {
  read = λ r. refl;
  data_refused = λ r. refl;
  full = refl;
  large = refl;
  unmatched = refl;
  no_room = refl;
  accepted = refl;
  refused = λ r. refl;
  count = λ n. refl;
  not_held = refl;
  column = λ name key oid. refl;
  absent = refl;
  related = λ id n from. refl;
  other = refl;
  full_number = refl;
  large_number = refl;
  unmatched_number = refl;
  no_room_number = refl;
  full_kind = refl;
  large_kind = refl;
  unmatched_kind = refl;
  no_room_kind = refl;
  names_unread = λ held ids counts types flags lens names id k.
      let m : Memory = memory held ids counts (columns types flags lens []) in
      ap (λ (x : Option Told). pick (leb 64 (slot_in m id)) none x) (same_told types flags lens names (32 * slot_in m id) (count_in m id) k);
}
