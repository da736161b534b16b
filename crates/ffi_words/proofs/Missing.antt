-- Words that are not there count as 0.
use mathlib.Core.Path.{refl}
use Rattle.ffi_words.specs.Missing.{MissingWords}

pub missing_words : MissingWords
missing_words = record { settings = refl; reader = refl; cell = refl; run = refl; header = refl; event = refl }
