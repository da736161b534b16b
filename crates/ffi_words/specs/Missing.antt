-- Words are lent as arrays of a fixed length, and every list is read: words that are not there count as 0. SCOPE 9.1.
use Rattle.std.specs.Prelude.{◌≡◌, [], replicate}
use Rattle.ffi_words.specs.Words.{settings_of, reader_of, cell_of, run_of, header_words, seven_of}

pub record MissingWords : Type 0 where
  pub settings : settings_of [] ≡ settings_of (replicate 7 0)
  pub reader : reader_of [] ≡ reader_of (replicate 8 0)
  pub cell : cell_of [] ≡ cell_of (replicate 4 0)
  pub run : run_of [] ≡ run_of (replicate 64 0)
  -- a header has five bytes, and an event seven words
  pub header : header_words [] ≡ replicate 5 0
  pub event : seven_of [] ≡ replicate 7 0
