-- The number of the lists of words is what specs/Abi.antt says.
use mathlib.Core.Path.{refl}
use Rattle.ffi_export.specs.Abi.{AbiNumber}

pub abi_number : AbiNumber
abi_number = refl
