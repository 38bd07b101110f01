-- What a column holds (fileformat2, 2.1).
use Rattle.std.specs.Prelude.{ℕ, ℤ, List, map}
use Rattle.sqval.specs.declared.value.Value.{Value}
use Rattle.sqval.specs.declared.value.Value.TheVariants.{Null, Int, Real, Text, Blob}

-- the value of a column
pub data Datum : Type 0 where
  null : Datum
  integer : ℤ → Datum
  -- its eight bytes
  real : List ℕ → Datum
  text : List ℕ → Datum
  blob : List ℕ → Datum

-- a borrowed value is what it borrows
abbrev pub datum_of : Value → Datum
datum_of Null = null
datum_of (Int number) = integer number
datum_of (Real bytes) = real bytes
datum_of (Text bytes) = text bytes.now
datum_of (Blob bytes) = blob bytes.now

-- the values of a row
abbrev pub row_of : List Value → List Datum
row_of values = map datum_of values
