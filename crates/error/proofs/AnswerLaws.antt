-- The laws of lent inputs, of rooms and of answers.
use mathlib.Core.Path.{◌≡◌, refl, ap}
use mathlib.Core.List.{List, [], ◌∷◌}
use Prim.Native.Nat.{ℕ}
use native.Mathlib.Omega.{arith}
use lib.ListN.{length, length-append, get_or-eq_default}
use lib.Seq.{get_or-append_seam}
use borrow.Author.Tests.{le-leb, lt-leb}
use denote.Ref.{Bor}
use Rattle.error.specs.Inputs.{total, no_name}
use Rattle.error.specs.Writer.{counted}
use Rattle.error.specs.AnswerLaws.{bytes_of_names, InputLaws, RoomLaws, ValueLaws}
use Rattle.error.proofs.Cases.{count_laws}

all_names : (ns : List (Bor (List ℕ))) → total ns ≡ length (bytes_of_names ns)
unfolding total
all_names [] = refl
all_names (n ∷ ns) = rw (all_names ns, length-append)

one_name : (n : Bor (List ℕ)) → total (n ∷ []) ≡ length n.now
unfolding total
one_name n = omega arith

pub input_laws : InputLaws
input_laws =
    record {
      all_names = all_names;
      one_name = one_name;
      names_add_up = count_laws.names_add_up;
      at_place = λ a n b. ap (λ (x : Bor (List ℕ)). x.now) (get_or-append_seam a n b no_name);
      past = λ ns i h. ap (λ (x : Bor (List ℕ)). x.now) (get_or-eq_default ns no_name h);
    }

pub room_laws : RoomLaws
unfolding counted
room_laws = record { within = λ room n h. simp (le-leb _ _ h); past = λ room n h. simp (lt-leb _ _ h) }

pub value_laws : ValueLaws
value_laws =
    record {
      wrote = λ n. refl;
      refused = λ r. refl;
      fits = λ n. refl;
      over = refl;
      usage_is_one = refl;
      io_is_two = refl;
      protocol_is_three = refl;
      server_is_four = refl;
      too_large_is_five = refl;
      parse_lsn_is_six = refl;
    }
