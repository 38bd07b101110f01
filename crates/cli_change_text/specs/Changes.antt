-- How a change of a table's rows is written (own).
use Rattle.std.specs.Prelude.{◌≡◌, ◌≢◌, ◌⊎◌, ℕ, suc, zero, ◌<◌, max, Bool, true, false, List, [], ◌∷◌, ◌++◌, length, map, codes, slice_get, Option, Some, None, ℤ}
use Rattle.sqval.specs.Datum.{Datum}
use Rattle.sqrows.specs.Rows.{Row}
use Rattle.sqtables.specs.declared.columns.Columns.{Columns}
use Rattle.sqtables.specs.Columns.{shown, shown_at}
use Rattle.sqdeep.specs.declared.text.Encoding.{Encoding}
use Rattle.cli_row_text.specs.declared.form.Notation.TheVariants.{Json, Sql}
use Rattle.cli_row_text.specs.Lines.{AreTexts, IsLine, IsText, form_of}
use Rattle.cli_row_text.specs.Printed.{led_by}
use Rattle.sqdiff.specs.Changes.{Change, inserted, deleted, changed}
use Rattle.sqkeydiff.specs.declared.key.KeyOrder.{KeyOrder}
use Rattle.cli_change_text.specs.declared.style.Writing.{Writing}
use Rattle.cli_change_text.specs.declared.style.Writing.TheVariants.{Line, Object, Removal, Arrival}
use Rattle.cli_change_text.specs.declared.style.Style.{Style}
use Rattle.cli_change_text.specs.declared.style.Naming.TheVariants.{InLine, InObject, InCondition}
use Rattle.cli_change_text.specs.Names.{IsRowName, column_text, names_of}

-- what the line of a row begins with that came, or went
abbrev pub sign_of : (comes : Bool) → List ℕ
sign_of true = codes "+ "
sign_of false = codes "- "

-- A line: the sign, what names the row, and the values as they stand in SQL.
abbrev pub IsLineOf : Encoding → (sign : List ℕ) → List (List ℕ) → (name : List ℕ) → List Datum → List ℕ → Type 0
IsLineOf encoding sign names name values t =
    (all : List ℕ) × AreTexts (form_of Sql encoding) names 0 values all × (t ≡ sign ++ (name ++ (codes ": " ++ (all ++ codes "\n"))))

-- the word for it in an object, and what the member begins with that has the row
abbrev pub word_of : (comes : Bool) → List ℕ
word_of true = codes "insert"
word_of false = codes "delete"

abbrev pub member_of : (comes : Bool) → List ℕ
member_of true = codes ",\"new\":{"
member_of false = codes ",\"old\":{"

-- A member of an object: the columns of a row under their names.
abbrev pub IsMember : Encoding → (member : List ℕ) → List (List ℕ) → List Datum → List ℕ → Type 0
IsMember encoding member names values t = (all : List ℕ) × AreTexts (form_of Json encoding) names 0 values all × (t ≡ member ++ (all ++ codes "}"))

-- what stands in an object before its rows
abbrev pub object_start : (head word name : List ℕ) → List ℕ
object_start head word name = head ++ (word ++ name)

-- An object: the table, what happened, what names the row, and the row.
abbrev pub IsObjectOf : Encoding → (head : List ℕ) → (comes : Bool) → List (List ℕ) → (name : List ℕ) → List Datum → List ℕ → Type 0
IsObjectOf encoding head comes names name values t =
    (one : List ℕ) × IsMember encoding (member_of comes) names values one × (t ≡ object_start head (word_of comes) name ++ (one ++ codes "}\n"))

-- the DELETE of the row that is named so
abbrev pub removal_text : (head name : List ℕ) → List ℕ
removal_text head name = head ++ (name ++ codes ";\n")

-- the INSERT of a row
abbrev pub IsArrival : Encoding → (head : List ℕ) → List (List ℕ) → (leads : Bool) → (rowid : Option ℤ) → List Datum → List ℕ → Type 0
IsArrival encoding head names leads rowid values t = IsLine (form_of Sql encoding) head names (led_by leads rowid) values t

-- The text of a row that came or went. In a script the DELETEs stand before the INSERTs, each in a text of its own.
abbrev pub IsOneText : Encoding → Writing → (head : List ℕ) → Columns → (leads : Bool) → (key : Option KeyOrder) → (comes : Bool) → Row → List Datum → List ℕ → Type 0
IsOneText encoding Line head columns leads key comes row values t =
    (name : List ℕ) × IsRowName encoding InLine columns key row name × IsLineOf encoding (sign_of comes) (names_of columns) name values t
IsOneText encoding (Object commit) head columns leads key comes row values t =
    (name : List ℕ) × IsRowName encoding InObject columns key row name × IsObjectOf encoding head comes (names_of columns) name values t
IsOneText encoding Removal head columns leads key true row values t = t ≡ []
IsOneText encoding Removal head columns leads key false row values t = (name : List ℕ) × IsRowName encoding InCondition columns key row name × (t ≡ removal_text head name)
IsOneText encoding Arrival head columns leads key true row values t = IsArrival encoding head (names_of columns) leads row.rowid values t
IsOneText encoding Arrival head columns leads key false row values t = t ≡ []

-- what stands before a column's change
abbrev pub mark_of : (begun : Bool) → List ℕ
mark_of true = codes ", "
mark_of false = []

-- A column's change: its name, what it was and what it is.
abbrev pub IsDifference : Encoding → Columns → (begun : Bool) → (j : ℕ) → (old new : Datum) → List ℕ → Type 0
IsDifference encoding columns begun j old new t =
    (was is : List ℕ) × IsText (form_of Sql encoding) old was × IsText (form_of Sql encoding) new is
    × (t ≡ mark_of begun ++ (column_text (slice_get (names_of columns) j) j ++ (codes " " ++ (was ++ (codes " -> " ++ is)))))

-- The changes of the columns from j on, so many: of each that shows another value in both rows.
abbrev pub AreDifferences : Encoding → Columns → (old new : Row) → (begun : Bool) → (j n : ℕ) → List ℕ → Type 0
AreDifferences encoding columns old new begun j zero t = t ≡ []
AreDifferences encoding columns old new begun j (suc n) t =
    ((shown_at columns old j ≡ shown_at columns new j) × AreDifferences encoding columns old new begun (suc j) n t)
    ⊎ ((shown_at columns old j ≢ shown_at columns new j) × ((own more : List ℕ) × IsDifference encoding columns begun j (shown_at columns old j) (shown_at columns new j) own
    × AreDifferences encoding columns old new true (suc j) n more × (t ≡ own ++ more)))

-- the columns of two rows: as many as one of them stores, or are defined
abbrev pub column_count : Columns → (old new : Row) → ℕ
column_count columns old new = max (max (length old.values) (length new.values)) (length columns.names.items)

-- The text of a row that has other values now.
abbrev pub IsChangedText : Encoding → Writing → (head : List ℕ) → Columns → (leads : Bool) → (key : Option KeyOrder) → (old new : Row) → List ℕ → Type 0
IsChangedText encoding Line head columns leads key old new t =
    (name all : List ℕ) × IsRowName encoding InLine columns key new name × AreDifferences encoding columns old new false 0 (column_count columns old new) all
    × (t ≡ codes "~ " ++ (name ++ (codes ": " ++ (all ++ codes "\n"))))
IsChangedText encoding (Object commit) head columns leads key old new t =
    (name was is : List ℕ) × IsRowName encoding InObject columns key new name
    × IsMember encoding (member_of false) (names_of columns) (shown columns old) was × IsMember encoding (member_of true) (names_of columns) (shown columns new) is
    × (t ≡ object_start head (codes "update") name ++ (was ++ (is ++ codes "}\n")))
IsChangedText encoding Removal head columns leads key old new t = (name : List ℕ) × IsRowName encoding InCondition columns key old name × (t ≡ removal_text head name)
IsChangedText encoding Arrival head columns leads key old new t = IsArrival encoding head (names_of columns) leads new.rowid (shown columns new) t

-- The text of a change.
abbrev pub IsChangeText : Encoding → Writing → (head : List ℕ) → Columns → (leads : Bool) → (key : Option KeyOrder) → Change → List ℕ → Type 0
IsChangeText encoding writing head columns leads key (inserted row) t = IsOneText encoding writing head columns leads key true row (shown columns row) t
IsChangeText encoding writing head columns leads key (deleted row) t = IsOneText encoding writing head columns leads key false row (shown columns row) t
IsChangeText encoding writing head columns leads key (changed old new) t = IsChangedText encoding writing head columns leads key old new t

-- the same behind what stands before the first one
abbrev pub IsTextIn : Style → Change → List ℕ → Type 0
IsTextIn style c t =
    (own : List ℕ) × IsChangeText style.encoding style.writing style.head.now style.columns.now style.leads style.key c own × (t ≡ style.before.now ++ own)
