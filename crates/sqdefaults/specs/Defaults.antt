-- What stands for a column in a row that doesn't store it (SQLite's lang_altertable, "ALTER TABLE ADD COLUMN").
use Rattle.std.specs.Prelude.{ℕ, if◌then◌else◌, Bool, List, [], ◌∷◌, Option, Some, None, Result, Ok, Err, pos}
use Rattle.std.specs.Option.{option_or}
use Rattle.std.specs.Str.{str_eq_ignore_ascii_case}
use Rattle.hex.specs.Hex.{decode_of}
use Rattle.hex.specs.declared.error.FromHexError.{FromHexError}
use Rattle.sqlite_ast.specs.Layer.{Layer}
use Rattle.sqlite_ast.specs.declared.Expr.{Expr, out-Expr}
use Rattle.sqlite_ast.specs.declared.Expr.TheOpen.{Expr-F}
use Rattle.sqlite_ast.specs.declared.Rule.{Rule}
use Rattle.sqlite_ast.specs.declared.Rule.TheVariants.{Default}
use Rattle.sqlite_ast.specs.declared.Unary.TheVariants as unary
use Rattle.sqlite_sql.specs.Numeral.{is_numeral}
use Rattle.sqval.specs.Datum.{Datum, null, integer, blob}
use Rattle.sqdefaults.specs.declared.affinity.Affinity.{Affinity}
use Rattle.sqdefaults.specs.declared.affinity.Affinity.TheVariants.{Integer, Text, Blob, Real, Numeric}
use Rattle.sqdefaults.specs.Numbers.{as_real, of_text, of_numeral}

-- what the last of these rules says that says something
abbrev pub last_said : {A : Type 0} → (Rule → Option A) → List Rule → Option A
last_said says [] = None
last_said says (rule ∷ rules) = option_or (last_said says rules) (says rule)

-- the default that a rule says of the column of this name
abbrev pub default_in : (name : List ℕ) → Rule → Option Expr
default_in name (Default column e) = if str_eq_ignore_ascii_case column name then Some e else None
default_in name _ = None

-- a number that is written so; None where it is no decimal one
abbrev pub number_under : Affinity → List ℕ → Option Datum
number_under affinity t = if is_numeral t then Some (of_numeral affinity t) else None

-- the bytes of these hexadecimal digits
abbrev pub blob_of : Result (List ℕ) FromHexError → Option Datum
blob_of (Ok bytes) = Some (blob bytes)
blob_of (Err e) = None

-- 1 for TRUE and 0 for FALSE
abbrev pub truth_under : Affinity → Bool → Datum
truth_under Real is = as_real (integer (if is then pos 1 else pos 0))
truth_under _ is = integer (if is then pos 1 else pos 0)

-- a number behind a minus
abbrev pub negative_under : Affinity → Layer → Option Datum
negative_under affinity (Expr-F.Integer digits) = number_under affinity (45 ∷ digits)
negative_under affinity (Expr-F.Float digits) = number_under affinity (45 ∷ digits)
negative_under affinity _ = None

-- What an expression gives a column of an affinity: a literal, or a number behind a minus. None where it is another one.
abbrev pub literal_under : Affinity → Layer → Option Datum
literal_under affinity Expr-F.Null = Some null
literal_under affinity (Expr-F.Integer digits) = number_under affinity digits
literal_under affinity (Expr-F.Float digits) = number_under affinity digits
literal_under affinity (Expr-F.Text bytes) = Some (of_text affinity bytes)
literal_under affinity (Expr-F.Blob digits) = blob_of (decode_of digits)
literal_under affinity (Expr-F.Truth word is) = Some (truth_under affinity is)
literal_under affinity (Expr-F.Unary unary.Minus e) = negative_under affinity (out-Expr e)
literal_under affinity _ = None

unfoldable pub value_under : Affinity → Expr → Option Datum
value_under affinity e = literal_under affinity (out-Expr e)

abbrev pub default_by : Affinity → Option Expr → Option Datum
default_by affinity (Some e) = value_under affinity e
default_by affinity None = Some null

-- What stands for a column of this name and affinity where it isn't stored: its last DEFAULT, or NULL. None where that isn't
-- understood.
abbrev pub default_of : Affinity → (name : List ℕ) → List Rule → Option Datum
default_of affinity name rules = default_by affinity (last_said (default_in name) rules)
