-- What each answer to a file's report says. SCOPE 4.5; 02, wish 5.
use Rattle.std.specs.Prelude.{◌≡◌, Ok, Err}
use Rattle.progress.specs.declared.files.FileRefusal.TheVariants.{NoSuchFile}
use Rattle.progress.specs.declared.files.Progress.{Progress}
use Rattle.progress.specs.Files.{file_verdict, file_kind, filed_by}

-- the refusal's number, 0 for none, with the progress that the answer has; the one refusal is 31, of kind 1 (usage)
pub record FiledSaid : Type 0 where
  pub of_accepted : (p : Progress) → filed_by (record { verdict = Ok tt; progress = p }) ≡ (0, p)
  pub of_refused : (p : Progress) → filed_by (record { verdict = Err NoSuchFile; progress = p }) ≡ (31, p)
  pub of_verdict : (file_verdict (Ok tt) ≡ 0) × (file_verdict (Err NoSuchFile) ≡ 31)
  pub of_kind : file_kind NoSuchFile ≡ 1
