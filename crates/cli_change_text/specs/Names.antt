-- How a row is told from the others of its table (own).
use Rattle.std.specs.Prelude.{◌≡◌, ℕ, suc, zero, ◌==◌, nat_eq, if◌then◌else◌, List, [], ◌++◌, map, codes, slice_get, position, Option, Some, None, unwrap_or, ℤ}
use Rattle.std.specs.Fmt.{decimal}
use Rattle.sqval.specs.Datum.{Datum, null, text}
use Rattle.sqrows.specs.Rows.{Row}
use Rattle.sqtables.specs.declared.columns.Columns.{Columns}
use Rattle.sqlite_value.specs.declared.keys.Collation.{Collation}
use Rattle.sqlite_value.specs.declared.keys.Collation.TheVariants.{Binary, NoCase, RTrim}
use Rattle.sqlite_value.specs.declared.keys.Order.{Order}
use Rattle.sqlite_value.specs.Keys.{first_key, later}
use Rattle.sqkeydiff.specs.declared.key.KeyOrder.{KeyOrder}
use Rattle.cli_row_text.specs.declared.form.Notation.{Notation}
use Rattle.cli_row_text.specs.declared.form.Notation.TheVariants.{Json, Sql}
use Rattle.sqdeep.specs.declared.text.Encoding.{Encoding}
use Rattle.cli_row_text.specs.Lines.{IsText, form_of, between_marks, integer_text, name_text}
use Rattle.cli_change_text.specs.declared.style.Naming.{Naming}
use Rattle.cli_change_text.specs.declared.style.Naming.TheVariants.{InLine, InObject, InCondition}

abbrev pub names_of : Columns → List (List ℕ)
names_of columns = map (λ n. n.items) columns.names.items

-- a column's name in quotes, or c1, c2 and so on where none is known
abbrev pub column_text : Option (List ℕ) → (j : ℕ) → List ℕ
column_text (Some name) j = between_marks 34 name
column_text None j = codes "c" ++ decimal (suc j)

-- the notation in which values stand
abbrev pub notation_in : Naming → Notation
notation_in InLine = Sql
notation_in InObject = Json
notation_in InCondition = Sql

-- the name of a column
abbrev pub name_at : Columns → Option ℕ → Option (List ℕ)
name_at columns (Some i) = slice_get (names_of columns) i
name_at columns None = None

-- the column that rows store at a place, and its name
abbrev pub column_at : Columns → (place : ℕ) → Option ℕ
column_at columns place = position (λ at. nat_eq at place) columns.places.items

abbrev pub stored_name : Columns → (place : ℕ) → Option (List ℕ)
stored_name columns place = name_at columns (column_at columns place)

abbrev pub label_in : Naming → Option (List ℕ) → (place : ℕ) → List ℕ
label_in InLine name place = column_text name place
label_in InObject name place = name_text name place
label_in InCondition name place = column_text name place

-- what stands between the name of a column and its value
abbrev pub sign_in : Naming → List ℕ
sign_in InLine = codes " "
sign_in InObject = codes ":"
sign_in InCondition = codes " IS "

-- what stands between two columns
abbrev pub mark_in : Naming → List ℕ
mark_in InLine = codes ", "
mark_in InObject = codes ","
mark_in InCondition = codes " AND "

abbrev pub mark_at : Naming → (place : ℕ) → List ℕ
mark_at naming place = if place == 0 then [] else mark_in naming

abbrev pub collation_text : Collation → List ℕ
collation_text Binary = codes " COLLATE BINARY"
collation_text NoCase = codes " COLLATE NOCASE"
collation_text RTrim = codes " COLLATE RTRIM"

-- In a condition a text is compared as the key has it, whatever the collation of its column is.
abbrev pub compared_by : Naming → Collation → Datum → List ℕ
compared_by InCondition collation (text bytes) = collation_text collation
compared_by _ collation value = []

-- what a row stores at a place
abbrev pub stored_in : List Datum → (place : ℕ) → Datum
stored_in values place = unwrap_or (slice_get values place) null

-- A column of a key: its name and the value that a row stores.
abbrev pub IsKeyColumn : Encoding → Naming → Columns → Collation → (place : ℕ) → Datum → List ℕ → Type 0
IsKeyColumn encoding naming columns collation place value t =
    (own : List ℕ) × IsText (form_of (notation_in naming) encoding) value own
    × (t ≡ mark_at naming place ++ (label_in naming (stored_name columns place) place ++ (sign_in naming ++ (own ++ compared_by naming collation value))))

-- The columns from a place on, so many: each as the order says that it is sorted.
abbrev pub AreKeyColumns : Encoding → Naming → Columns → Order → (values : List Datum) → (place n : ℕ) → List ℕ → Type 0
AreKeyColumns encoding naming columns order values place zero t = t ≡ []
AreKeyColumns encoding naming columns order values place (suc n) t =
    (own more : List ℕ) × IsKeyColumn encoding naming columns (first_key order).collation place (stored_in values place) own
    × AreKeyColumns encoding naming columns (later order) values (suc place) n more × (t ≡ own ++ more)

-- the text of a rowid, and what stands before it, before a key and behind it
abbrev pub rowid_text : Notation → (rowid : Option ℤ) → List ℕ
rowid_text notation (Some id) = integer_text notation id
rowid_text notation None = []

abbrev pub rowid_label : Naming → List ℕ
rowid_label InLine = []
rowid_label InObject = codes "\",\"rowid\":"
rowid_label InCondition = []

abbrev pub key_label : Naming → List ℕ
key_label InLine = []
key_label InObject = codes "\",\"key\":{"
key_label InCondition = []

abbrev pub key_end : Naming → List ℕ
key_end InLine = []
key_end InObject = codes "}"
key_end InCondition = []

-- What names a row: its rowid, or in a table WITHOUT ROWID the columns of its key, which it stores first.
abbrev pub IsRowName : Encoding → Naming → Columns → (key : Option KeyOrder) → Row → List ℕ → Type 0
IsRowName encoding naming columns None row t = t ≡ rowid_label naming ++ rowid_text (notation_in naming) row.rowid
IsRowName encoding naming columns (Some key) row t =
    (all : List ℕ) × AreKeyColumns encoding naming columns key.order row.values 0 key.width all × (t ≡ key_label naming ++ (all ++ key_end naming))
