-- The cases of specs/Cases.antt.
use Rattle.std.proofs.Common.{refl, [], ◌∷◌}
use Rattle.wire.specs.Find.{index_of}
use Rattle.pgoutput.specs.Boundary.{message_bytes}
use Rattle.thm_any_calls.specs.RunCases.{computed}
use Rattle.thm_unpublished.specs.Hidden.{hidden_in, hidden_at, DifferHidden}
use Rattle.thm_unpublished.specs.Same.{all_left_out}
use Rattle.thm_unpublished.specs.Cases.{agrees, passes, saying, HiddenCases, PublicCases}

-- each by computing the definitions
pub hidden_cases : HiddenCases
unfolding computed message_bytes index_of hidden_in hidden_at agrees all_left_out
hidden_cases =
    record {
      content_differs = refl;
      one_content = refl;
      other_content = refl;
      same_run = refl;
      left_out = refl;
      before_content = refl;
      content_first = refl;
      content_last = refl;
      after_content = refl;
      data_differ = refl;
      one_data = refl;
      other_data = refl;
      data_left_out = refl;
      same_run_too = refl;
    }

-- so the theorem is about them
pub content_related : DifferHidden 64 (saying (0x41 ∷ 0x42 ∷ [])) (saying (0x5A ∷ 0 ∷ []))
content_related = passes 64 (saying (0x41 ∷ 0x42 ∷ [])) (saying (0x5A ∷ 0 ∷ [])) hidden_cases.content_differs

-- each by computing the definitions
pub public_cases : PublicCases
unfolding computed message_bytes index_of hidden_in hidden_at agrees all_left_out
public_cases =
    record {
      commit_differs = refl;
      one_commit = refl;
      other_commit = refl;
      length_differs = refl;
      shorter = refl;
      first_differs = refl;
      as_other_data = refl;
      as_a_begin = refl;
      prefix_differs = refl;
      no_end = refl;
      no_length = refl;
    }
