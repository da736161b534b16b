pub mod Numeral
pub mod TextCases
pub mod Spelling
pub mod Ascii
