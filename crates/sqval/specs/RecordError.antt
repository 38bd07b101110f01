-- The numbers of the refusals of a record (own).
use Rattle.std.specs.Prelude.{ℕ}
use Rattle.sqval.specs.declared.error.RecordError.{RecordError}
use Rattle.sqval.specs.declared.error.RecordError.TheVariants.{HeaderSize, TypeCut, InternalType, BodyCut, TrailingBytes, TooLarge, NoMemory}

abbrev pub number_of : RecordError → ℕ
number_of HeaderSize = 1
number_of TypeCut = 2
number_of InternalType = 3
number_of BodyCut = 4
number_of TrailingBytes = 5
number_of TooLarge = 6
number_of NoMemory = 7
