-- What the answers of lossy text say, over all values: a length within a room, and the marks of a text that was written. SCOPE 2.6; 02, wish 7.
use Rattle.std.specs.Prelude.{◌≡◌, List, ℕ, ◌≤◌, ◌<◌, Some, None, Ok, Err}
use Rattle.std.proofs.Math.Option.{some, none}
use Rattle.error.specs.declared.Refusal.{Refusal}
use Rattle.error.specs.Refusal.{number_of}
use Rattle.lossy.specs.Marks.{measured, measure_of, with_marks, lossy_outcome}

pub record AnswerLaws : Type 0 where
  -- a length is answered exactly where the room has it
  pub within : (room n marks : ℕ) → n ≤ room → measured room n marks ≡ some (n, marks)
  pub past : (room n marks : ℕ) → room < n → measured room n marks ≡ none
  -- marks are answered exactly where the text was written
  pub written : (marks n : ℕ) (out : List ℕ) → with_marks marks ((0, n), out) ≡ ((0, n, marks), out)
  pub unwritten : (marks number n : ℕ) (out : List ℕ) → 1 ≤ number → with_marks marks ((number, n), out) ≡ ((number, n, 0), out)
  -- the values of each answer
  pub fits : (bytes marks : ℕ) → measure_of (Some (record { bytes = bytes; marks = marks })) ≡ some (bytes, marks)
  pub over : measure_of None ≡ none
  pub wrote : (bytes marks : ℕ) → lossy_outcome (Ok (record { bytes = bytes; marks = marks })) ≡ (0, bytes, marks)
  pub refused : (r : Refusal) → lossy_outcome (Err r) ≡ (number_of r, 0, 0)
