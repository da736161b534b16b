-- Two streams that differ in hidden places and are both accepted; and what the wish does not promise: differences in public places do show. Each is
-- computed of the definitions. SCOPE 8.12; 02, wish 14.
use Rattle.std.specs.Prelude.{◌≡◌, refl, Bool, true, false, List, [], ◌∷◌, ℕ, zero, suc, ◌+◌, length, get_or, pos, eqb}
use Rattle.std.proofs.Common.{sym, ap, ◌∙◌, arith, eqb-true}
use Rattle.wire.specs.Bytes.{pick}
use Rattle.frames.specs.Message.{framed}
use Rattle.replication.specs.CopyData.{xlog_data}
use Rattle.pgoutput.specs.Boundary.{boundary_of, message_bytes}
use Rattle.pgoutput.specs.Boundary as B
use Rattle.worker.specs.Tests.{both}
use Rattle.thm_any_calls.specs.Happened as H
use Rattle.thm_any_calls.specs.Calls.{Played}
use Rattle.thm_any_calls.specs.RunCases.{settings, after, commit_at, refusals}
use Rattle.thm_unpublished.specs.Hidden.{hidden_at, DifferHidden}
use Rattle.thm_unpublished.specs.Same.{all_left_out}

-- ---- the relation as a test

-- two lists are as long, and the same but in hidden places, of which the first is place j
unfoldable pub agrees : (ℕ → Bool) → ℕ → List ℕ → List ℕ → Bool
agrees hidden j [] [] = true
agrees hidden j [] (y ∷ b) = false
agrees hidden j (x ∷ a) [] = false
agrees hidden j (x ∷ a) (y ∷ b) = both (pick (hidden j) true (eqb x y)) (agrees hidden (suc j) a b)

no_truth : {X : Type 0} → false ≡ true → X
no_truth e = let k : ◌≡◌ {A = ℕ} 0 1 = ap (λ (b : Bool). pick b 1 0) e in absurd (omega arith)

both_hold : (t u : Bool) → both t u ≡ true → (t ≡ true) × (u ≡ true)
both_hold true u e = (refl, e)
both_hold false u e = no_truth e

same_here : (t : Bool) (x y : ℕ) → pick t true (eqb x y) ≡ true → t ≡ false → x ≡ y
same_here true x y e f = no_truth (sym f)
same_here false x y e f = eqb-true x y e

as_long : (hidden : ℕ → Bool) (k : ℕ) (a b : List ℕ) → agrees hidden k a b ≡ true → length a ≡ length b
unfolding agrees
as_long hidden k [] [] e = refl
as_long hidden k [] (y ∷ b) e = no_truth e
as_long hidden k (x ∷ a) [] e = no_truth e
as_long hidden k (x ∷ a) (y ∷ b) e =
    ap suc (as_long hidden (suc k) a b (both_hold (pick (hidden k) true (eqb x y)) (agrees hidden (suc k) a b) e).1)

same_public : (hidden : ℕ → Bool) (k : ℕ) (a b : List ℕ) → agrees hidden k a b ≡ true → (j : ℕ) → hidden (k + j) ≡ false → get_or a j 0 ≡ get_or b j 0
unfolding agrees
same_public hidden k [] [] e j h = refl
same_public hidden k [] (y ∷ b) e j h = no_truth e
same_public hidden k (x ∷ a) [] e j h = no_truth e
same_public hidden k (x ∷ a) (y ∷ b) e zero h =
    let q : k + 0 ≡ k = omega arith in
    same_here (hidden k) x y (both_hold (pick (hidden k) true (eqb x y)) (agrees hidden (suc k) a b) e).0 (ap hidden (sym q) ∙ h)
same_public hidden k (x ∷ a) (y ∷ b) e (suc j) h =
    let q : suc k + j ≡ k + suc j = omega arith in
    same_public hidden (suc k) a b (both_hold (pick (hidden k) true (eqb x y)) (agrees hidden (suc k) a b) e).1 j (ap hidden q ∙ h)

-- streams that pass the test differ in hidden places alone
pub passes : (limit : ℕ) (a b : List ℕ) → agrees (hidden_at limit a) 0 a b ≡ true → DifferHidden limit a b
passes limit a b e =
    record {
      size = as_long (hidden_at limit a) 0 a b e;
      public = λ j h. let q : 0 + j ≡ j = omega arith in same_public (hidden_at limit a) 0 a b e j (ap (hidden_at limit a) q ∙ h);
    }

-- ---- streams

-- an XLogData with these data
abbrev pub lends : List ℕ → List ℕ
lends sent = framed 0x64 (xlog_data 1 2 (pos 0) sent)

-- a Message with flags 1, position 5 and prefix `p`
abbrev pub saying : List ℕ → List ℕ
saying content = lends (message_bytes 1 5 (0x70 ∷ []) content)

-- five steps of a run that is already open
abbrev pub played : List ℕ → Played
played bytes = after (settings false 0) bytes 5 false

-- hidden or public, where nothing but the stream is asked
abbrev pub test : List ℕ → List ℕ → Bool
test a b = agrees (hidden_at 64 a) 0 a b

-- a Message of refused data, after flags and position: `70`, and `70 00`
abbrev pub unended : List ℕ
unended = 0x4D ∷ 0 ∷ 0 ∷ 0 ∷ 0 ∷ 0 ∷ 0 ∷ 0 ∷ 0 ∷ 0 ∷ 0x70 ∷ []

abbrev pub uncounted : List ℕ
uncounted = 0x4D ∷ 0 ∷ 0 ∷ 0 ∷ 0 ∷ 0 ∷ 0 ∷ 0 ∷ 0 ∷ 0 ∷ 0x00 ∷ []

pub record HiddenCases : Type 0 where
  -- the content of a Message: both are accepted and hand on another content; the run is the same value
  pub content_differs : test (saying (0x41 ∷ 0x42 ∷ [])) (saying (0x5A ∷ 0 ∷ [])) ≡ true
  pub one_content : (played (saying (0x41 ∷ 0x42 ∷ []))).events ≡ H.message true 5 (0x70 ∷ []) (0x41 ∷ 0x42 ∷ []) ∷ []
  pub other_content : (played (saying (0x5A ∷ 0 ∷ []))).events ≡ H.message true 5 (0x70 ∷ []) (0x5A ∷ 0 ∷ []) ∷ []
  pub same_run : (played (saying (0x41 ∷ 0x42 ∷ []))).run ≡ (played (saying (0x5A ∷ 0 ∷ []))).run
  pub left_out : all_left_out (played (saying (0x5A ∷ 0 ∷ []))).events ≡ H.message true 5 (0x70 ∷ []) (0 ∷ 0 ∷ []) ∷ []
  -- its places: 5 bytes of header, 25 before the data, 10 before the prefix, the prefix and its zero byte, 4 of length
  pub before_content : hidden_at 64 (saying (0x41 ∷ 0x42 ∷ [])) 45 ≡ false
  pub content_first : hidden_at 64 (saying (0x41 ∷ 0x42 ∷ [])) 46 ≡ true
  pub content_last : hidden_at 64 (saying (0x41 ∷ 0x42 ∷ [])) 47 ≡ true
  pub after_content : hidden_at 64 (saying (0x41 ∷ 0x42 ∷ [])) 48 ≡ false
  -- other data: the first byte is public, those after it are not
  pub data_differ : test (lends (0x49 ∷ 0x41 ∷ 0x42 ∷ [])) (lends (0x49 ∷ 0x42 ∷ 0x4D ∷ [])) ≡ true
  pub one_data : (played (lends (0x49 ∷ 0x41 ∷ 0x42 ∷ []))).events ≡ H.xlog_data 1 2 (pos 0) (0x49 ∷ 0x41 ∷ 0x42 ∷ []) ∷ []
  pub other_data : (played (lends (0x49 ∷ 0x42 ∷ 0x4D ∷ []))).events ≡ H.xlog_data 1 2 (pos 0) (0x49 ∷ 0x42 ∷ 0x4D ∷ []) ∷ []
  pub data_left_out : all_left_out (played (lends (0x49 ∷ 0x42 ∷ 0x4D ∷ []))).events ≡ H.xlog_data 1 2 (pos 0) (0 ∷ 0 ∷ 0 ∷ []) ∷ []
  pub same_run_too : (played (lends (0x49 ∷ 0x41 ∷ 0x42 ∷ []))).run ≡ (played (lends (0x49 ∷ 0x42 ∷ 0x4D ∷ []))).run

-- what is not promised
pub record PublicCases : Type 0 where
  -- a Commit's position is public, and is handed on
  pub commit_differs : test (commit_at 0x200 0x50) (commit_at 0x201 0x50) ≡ false
  pub one_commit : all_left_out (played (commit_at 0x200 0x50)).events ≡ H.commit 0x200 0x50 (pos 0) ∷ []
  pub other_commit : all_left_out (played (commit_at 0x201 0x50)).events ≡ H.commit 0x201 0x50 (pos 0) ∷ []
  -- so is the length of a content: the second stream has the content `A` and a surplus byte
  pub length_differs :
      test (saying (0x41 ∷ 0x42 ∷ [])) (lends (0x4D ∷ 1 ∷ 0 ∷ 0 ∷ 0 ∷ 0 ∷ 0 ∷ 0 ∷ 0 ∷ 5 ∷ 0x70 ∷ 0 ∷ 0 ∷ 0 ∷ 0 ∷ 1 ∷ 0x41 ∷ 0x42 ∷ [])) ≡ false
  pub shorter :
      all_left_out (played (lends (0x4D ∷ 1 ∷ 0 ∷ 0 ∷ 0 ∷ 0 ∷ 0 ∷ 0 ∷ 0 ∷ 5 ∷ 0x70 ∷ 0 ∷ 0 ∷ 0 ∷ 0 ∷ 1 ∷ 0x41 ∷ 0x42 ∷ []))).events
      ≡ H.message true 5 (0x70 ∷ []) (0 ∷ []) ∷ []
  -- so is the first byte of other data: as `B` they are refused with 16
  pub first_differs : test (lends (0x49 ∷ 0x41 ∷ [])) (lends (0x42 ∷ 0x41 ∷ [])) ≡ false
  pub as_other_data : refusals (played (lends (0x49 ∷ 0x41 ∷ []))).observed ≡ 0 ∷ 0 ∷ 0 ∷ 0 ∷ 0 ∷ []
  pub as_a_begin : refusals (played (lends (0x42 ∷ 0x41 ∷ []))).observed ≡ 0 ∷ 0 ∷ 0 ∷ 16 ∷ 2 ∷ []
  -- data that begin with `M` and are refused have no hidden place: 17 and 15
  pub prefix_differs : test (lends unended) (lends uncounted) ≡ false
  pub no_end : boundary_of unended ≡ B.refused 17
  pub no_length : boundary_of uncounted ≡ B.refused 15
