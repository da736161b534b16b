-- What a question about opening hours is answered: refusals, and the first change as a search through the minutes of a week. What the answer says
-- about time is stated in Time.antt. 02, wish 11.
use Rattle.std.specs.Prelude.{ℕ, zero, suc, ◌+◌, ◌/◌, ◌%◌, Bool, false, ℤ, Result, Ok, Err}
use Rattle.std.proofs.Math.Option.{Option, some, none}
use Rattle.wire.specs.Answer.{maybe}
use Rattle.wire.specs.Bytes.{pick}
use Rattle.error.specs.Refusal.{usage}
use Rattle.hours.specs.declared.Hours.{Hours}
use Rattle.hours.specs.declared.Refusal.{Refusal}
use Rattle.hours.specs.declared.Refusal.TheVariants.{InvalidWindow, OffsetOutOfRange, MomentOutOfRange}
use Rattle.hours.specs.declared.Told.{Told}
use Rattle.hours.specs.Calendar.{minute, since_monday, open_at, is_open, is_within_windows, are_windows}
use Rattle.hours.specs.Code.{differs, moment_after}

-- the number of each refusal
abbrev pub number_of : Refusal → ℕ
number_of InvalidWindow = 32
number_of OffsetOutOfRange = 33
number_of MomentOutOfRange = 34

-- the kind of each refusal
abbrev pub kind_of : Refusal → ℕ
kind_of InvalidWindow = usage
kind_of OffsetOutOfRange = usage
kind_of MomentOutOfRange = usage

-- the first of n minutes, from the j-th after minute m of the week on, in which the hall's state is not that of minute m
unfoldable pub change_from : Hours → ℕ → ℕ → ℕ → Option ℕ
change_from h m zero j = none
change_from h m (suc n) j = pick (differs (open_at h ((m + j) % 10080)) (open_at h m)) (some j) (change_from h m n (suc j))

-- the first later moment at which the hall's state changes: the beginning of such a minute
unfoldable pub next_of : Hours → ℤ → Option ℤ
next_of h t =
    let since : ℕ = since_monday h.offset t in
    moment_after t (since % minute) (change_from h (since / minute) 10080 1)

-- the refusal's number, 0 for none, whether the hall is open, and when that changes: 32, then 33, then 34
unfoldable pub hours_of : Hours → ℤ → ℕ × (Bool × Option ℤ)
hours_of h t =
    pick (are_windows h.opens h.closes 7)
    (pick (is_within_windows 840 h.offset)
    (pick (is_within_windows 4611686018427387904 t) (0, (is_open h t, next_of h t)) (34, (false, none)))
    (33, (false, none)))
    (32, (false, none))

-- what an answer says
abbrev pub asked_of : Result Told Refusal → ℕ × (Bool × Option ℤ)
asked_of (Ok t) = (0, (t.is_open, maybe t.change))
asked_of (Err r) = (number_of r, (false, none))
