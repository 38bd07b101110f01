-- The rules of a schema that its rows alone decide (fileformat2, 2.6).
use Rattle.std.specs.Prelude.{ℕ, Bool, false, not, ◌&&◌, ◌||◌, nat_eq, if◌then◌else◌, List, length, take, codes, Option, Some, None, pos}
use Rattle.std.specs.List.{list_any}
use Rattle.std.specs.Ordering.{int_eq}
use Rattle.std.specs.Str.{bytes_eq, str_eq_ignore_ascii_case}
use Rattle.sqschema.specs.Items.{Item}

-- the type of an object
abbrev pub is_table : Item → Bool
is_table x = bytes_eq x.kind (codes "table")

abbrev pub is_index : Item → Bool
is_index x = bytes_eq x.kind (codes "index")

abbrev pub is_view : Item → Bool
is_view x = bytes_eq x.kind (codes "view")

abbrev pub is_trigger : Item → Bool
is_trigger x = bytes_eq x.kind (codes "trigger")

-- it is one of the four
abbrev pub is_typed : Item → Bool
is_typed x = is_table x || is_index x || is_view x || is_trigger x

-- the text begins with this word, where ASCII's small letters are its capitals
abbrev pub begins : (sql word : List ℕ) → Bool
begins sql word = str_eq_ignore_ascii_case (take (length word) sql) word

-- an index that a constraint made has no text; each other object has one that begins with CREATE
abbrev pub has_text : (automatic : Bool) → Option (List ℕ) → Bool
has_text automatic None = automatic
has_text automatic (Some sql) = begins sql (codes "create ")

abbrev pub is_made : Item → Bool
is_made x = has_text (is_index x && begins x.name (codes "sqlite_autoindex_")) x.sql

-- the text is that of a virtual table
abbrev pub makes_virtual : Option (List ℕ) → Bool
makes_virtual None = false
makes_virtual (Some sql) = begins sql (codes "create virtual ")

-- views, triggers and virtual tables have no tree
abbrev pub is_treeless : Item → Bool
is_treeless x = is_view x || is_trigger x || (is_table x && makes_virtual x.sql)

-- the root is 0 just where there is no tree
abbrev pub is_rooted : Item → Bool
is_rooted x = if is_treeless x then int_eq x.root (pos 0) else not (int_eq x.root (pos 0))

-- Tables, views and indexes share their names, and triggers have names of their own (SQLite's lang_createtable,
-- lang_createindex and lang_createtrigger).
abbrev pub space_of : Item → ℕ
space_of x = if is_trigger x then 1 else 0

abbrev pub shares_name : (x y : Item) → Bool
shares_name x y = nat_eq (space_of x) (space_of y) && str_eq_ignore_ascii_case x.name y.name

-- no item before item i has its name
abbrev pub is_named_once : List Item → (i : ℕ) → Item → Bool
is_named_once xs i x = not (list_any (shares_name x) (take i xs))

-- y is the table of x, or of a trigger the view
abbrev pub owns : (x y : Item) → Bool
owns x y = (is_table y || (is_trigger x && is_view y)) && str_eq_ignore_ascii_case x.table y.name

-- A table or a view names itself as its table; an index and a trigger name one that is there.
abbrev pub is_owned : List Item → Item → Bool
is_owned xs x = if is_table x || is_view x then str_eq_ignore_ascii_case x.table x.name else list_any (owns x) xs
