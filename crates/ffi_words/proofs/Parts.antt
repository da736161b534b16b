-- The parts of an answered event lie in the payload buffer, and an event whose parts do is answered as it is.
use mathlib.Core.Path.{◌≡◌, refl}
use Prim.Native.Nat.{ℕ, min}
use native.Mathlib.Omega.{arith}
use Rattle.worker.specs.Events.{nothing, keep_alive, begin, commit, message, xlog_data, stopped_at}
use Rattle.ffi_words.specs.Step.{length_in, PartWithin, ClippedIsWithin, WithinIsUnchanged}

part_within : (n from len : ℕ) → PartWithin n (min from n) (length_in n from len)
part_within n from len = (omega arith, omega arith)

place_unchanged : (n from len : ℕ) → PartWithin n from len → min from n ≡ from
place_unchanged n from len h = omega arith

length_unchanged : (n from len : ℕ) → PartWithin n from len → length_in n from len ≡ len
length_unchanged n from len h = omega arith

pub clipped_is_within : ClippedIsWithin
clipped_is_within n nothing = tt
clipped_is_within n (keep_alive end time reply) = tt
clipped_is_within n (begin final time xid) = tt
clipped_is_within n (commit position end time) = tt
clipped_is_within n (message flag position pf pl cf cl) = (part_within n pf pl, part_within n cf cl)
clipped_is_within n (xlog_data start end time from len) = part_within n from len
clipped_is_within n (stopped_at reached) = tt

pub within_is_unchanged : WithinIsUnchanged
within_is_unchanged n nothing h = refl
within_is_unchanged n (keep_alive end time reply) h = refl
within_is_unchanged n (begin final time xid) h = refl
within_is_unchanged n (commit position end time) h = refl
within_is_unchanged n (message flag position pf pl cf cl) h =
    rw (length_unchanged n pf pl h.0, length_unchanged n cf cl h.1, place_unchanged n pf pl h.0, place_unchanged n cf cl h.1)
within_is_unchanged n (xlog_data start end time from len) h = rw (length_unchanged n from len h, place_unchanged n from len h)
within_is_unchanged n (stopped_at reached) h = refl
