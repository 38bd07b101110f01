-- The values that stand in texts of SQL (SQLite's lang_expr, "Literal Values").
use Rattle.sqval.specs.Datum.{Datum, null, integer, real, text, blob}
use Rattle.sqdefaults.specs.declared.literal.Literal.{Literal}
use Rattle.sqdefaults.specs.declared.literal.Literal.TheVariants.{Null, Int, Real, Text, Blob}

-- the value of a literal
abbrev pub datum_in : Literal → Datum
datum_in Null = null
datum_in (Int n) = integer n
datum_in (Real bytes) = real bytes
datum_in (Text bytes) = text bytes.items
datum_in (Blob bytes) = blob bytes.items
