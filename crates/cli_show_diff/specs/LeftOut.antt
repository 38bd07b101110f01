-- What a script leaves out of the changes between two databases (own).
use Rattle.std.specs.Prelude.{◌≡◌, ◌⊎◌, ◌&&◌, ◌||◌, ℕ, suc, ◌+◌, Bool, true, false, not, if◌then◌else◌, MatchOption, nat_eq, length, List, [], ◌∷◌, Option, Some}
use Rattle.std.specs.Borrow.{Bor}
use Rattle.std.specs.List.{list_any}
use Rattle.std.specs.Str.{str_eq_ignore_ascii_case}
use Rattle.sqtables.specs.declared.list.Object.{Object}
use Rattle.sqtables.specs.Objects.{IsTable}
use Rattle.cli_schema_text.specs.Names.{can_be_named}
use Rattle.cli_show_rows.specs.Dumps.{is_internal}
use Rattle.cli_show_diff.specs.declared.form.ChangeForm.{ChangeForm}
use Rattle.cli_show_diff.specs.declared.form.ChangeForm.TheVariants.{Lines, Json, Sql}
use Rattle.cli_show_diff.specs.Frames.{IsTextLeft, IsVirtualLeft, is_trigger}
use Rattle.cli_show_diff.specs.Pairs.{AreKept}
use Rattle.cli_show_diff.specs.Turns.{IsFound}

-- an object is asked for by its name, or none is by its name
abbrev pub is_asked : (names : List (List ℕ)) → Object → Bool
is_asked names o = nat_eq (length names) 0 || list_any (λ n. str_eq_ignore_ascii_case o.name.items n) names

-- An object of the old database that statements of the script name: a trigger, or a table that is asked for.
abbrev pub IsStated : (names : List (List ℕ)) → Object → Type 0
IsStated names o = (is_trigger o ≡ true) ⊎ (IsTable o × (is_asked names o ≡ true))

-- It is left out if none can name it, and a virtual table if the new database doesn't have the same.
abbrev pub IsOldLeft : (names : List (List ℕ)) → (news : List Object) → Object → Bool → Type 0
IsOldLeft names news o left = (IsStated names o × (left ≡ not (can_be_named o.name.items))) ⊎ ((¬ IsStated names o) × IsVirtualLeft news o left)

-- A table of the new database is made: the old one has none of its name, or one whose rows aren't compared with its own.
abbrev pub IsMade : (olds : List Object) → Object → Type 0
IsMade olds o = (found : Option (Bor Object)) × IsFound o.name.items olds found × MatchOption found (Unit {0}) (λ was. ¬ AreKept Sql was.now o)

-- Or it is there.
abbrev pub IsThere : (olds : List Object) → Object → Type 0
IsThere olds o = (was : Bor Object) × IsFound o.name.items olds (Some was) × AreKept Sql was.now o

-- Of the text of a table that is made, or of its name, whether it is left out: SQLite's own tables have none.
abbrev pub IsMadeLeft : Object → Bool → Type 0
IsMadeLeft o left = (text : Bool) × IsTextLeft o text × (left ≡ (not (can_be_named o.name.items) || (not (is_internal o.name.items) && text)))

-- No statement makes it: it is no table, none that is asked for, or it is there.
abbrev pub IsPassed : (names : List (List ℕ)) → (olds : List Object) → Object → Type 0
IsPassed names olds o = (¬ IsTable o) ⊎ (is_asked names o ≡ false) ⊎ IsThere olds o

-- Whether an object of the new database is left out, or its text: a trigger, a table that is asked for and made, or a virtual
-- table, if the old database doesn't have the same.
abbrev pub IsNewLeft : (names : List (List ℕ)) → (olds : List Object) → Object → Bool → Type 0
IsNewLeft names olds o left =
    ((is_trigger o ≡ true) × IsTextLeft o left)
    ⊎ (IsTable o × (is_asked names o ≡ true) × IsMade olds o × IsMadeLeft o left)
    ⊎ ((is_trigger o ≡ false) × IsPassed names olds o × IsVirtualLeft olds o left)

-- So many of these objects are.
abbrev pub HasCount : (Object → Bool → Type 0) → List Object → ℕ → Type 0
HasCount is [] n = n ≡ 0
HasCount is (o ∷ objects) n = (left : Bool) × (m : ℕ) × is o left × HasCount is objects m × (n ≡ (if left then suc m else m))

-- How many objects a script leaves out, or their texts; lines and objects of JSON leave out none.
abbrev pub LeavesOut : ChangeForm → (names : List (List ℕ)) → (olds news : List Object) → ℕ → Type 0
LeavesOut Lines names olds news n = n ≡ 0
LeavesOut (Json commit) names olds news n = n ≡ 0
LeavesOut Sql names olds news n =
    (a b : ℕ) × HasCount (IsOldLeft names news) olds a × HasCount (IsNewLeft names olds) news b × (n ≡ a + b)
