-- The values that columns keep as they are (datatype3, 3.1 and 3.2).
use Rattle.std.specs.Prelude.{Bool, true, false}
use Rattle.sqlite_value.specs.declared.value.Value.{Value}
use Rattle.sqlite_value.specs.declared.value.Value.TheVariants as value
use Rattle.sqdefaults.specs.declared.affinity.Affinity.{Affinity}
use Rattle.sqdefaults.specs.declared.affinity.Affinity.TheVariants.{Integer, Text, Blob, Real, Numeric}

-- A column of this affinity keeps this value, in which a number is whole only where it is an integer, as it is. That it doesn't is
-- said too where that depends on a text's letters, or an integer's size.
abbrev pub keeps : Affinity → Value → Bool
keeps affinity value.Null = true
keeps affinity (value.Blob bytes) = true
keeps Integer (value.Real x) = true
keeps Numeric (value.Real x) = true
keeps Real (value.Real x) = true
keeps Blob (value.Real x) = true
keeps Integer (value.Int n) = true
keeps Numeric (value.Int n) = true
keeps Blob (value.Int n) = true
keeps Text (value.Text bytes) = true
keeps Blob (value.Text bytes) = true
keeps _ _ = false
