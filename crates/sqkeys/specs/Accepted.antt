-- The values that columns take beside NULL (SQLite's datatype3, 3, and stricttables), as `PRAGMA integrity_check` has it.
use Rattle.std.specs.Prelude.{ℕ, ◌||◌, if◌then◌else◌, Bool, List, Option, Some, None, codes}
use Rattle.std.specs.Str.{str_eq_ignore_ascii_case}
use Rattle.sqkeys.specs.declared.accepts.Accepts.{Accepts}
use Rattle.sqkeys.specs.declared.accepts.Accepts.TheVariants as accept
use Rattle.sqdefaults.specs.declared.affinity.Affinity.{Affinity}
use Rattle.sqdefaults.specs.declared.affinity.Affinity.TheVariants.{Integer, Text, Blob, Real, Numeric}
use Rattle.sqdefaults.specs.Affinities.{affinity_of}

-- The affinity TEXT leaves no number, and NUMERIC, INTEGER and REAL no text that reads as one (datatype3, 3).
abbrev pub by_affinity : Affinity → Accepts
by_affinity Text = accept.NotNumbers
by_affinity Blob = accept.All
by_affinity Integer = accept.NotNumericTexts
by_affinity Real = accept.NotNumericTexts
by_affinity Numeric = accept.NotNumericTexts

-- the types of a STRICT table (stricttables, 2)
abbrev pub by_strict_type : List ℕ → Option Accepts
by_strict_type type =
    if str_eq_ignore_ascii_case type (codes "int") || str_eq_ignore_ascii_case type (codes "integer") then Some accept.Integers
    else (if str_eq_ignore_ascii_case type (codes "real") then Some accept.Numbers
    else (if str_eq_ignore_ascii_case type (codes "text") then Some accept.Texts
    else (if str_eq_ignore_ascii_case type (codes "blob") then Some accept.Blobs
    else (if str_eq_ignore_ascii_case type (codes "any") then Some accept.All else None))))

-- what a column takes whose type is this one
abbrev pub accepts_of : (is_strict : Bool) → (type : List ℕ) → Option Accepts
accepts_of is_strict type = if is_strict then by_strict_type type else Some (by_affinity (affinity_of type))

abbrev pub accepts_at : (is_strict : Bool) → Option (List ℕ × List ℕ) → Option Accepts
accepts_at is_strict (Some column) = accepts_of is_strict column.1
accepts_at is_strict None = None
