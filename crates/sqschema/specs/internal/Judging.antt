-- Words of the functions that judge the items of a schema (own). No public contract cites them.
use Rattle.std.specs.Prelude.{◌≡◌, ◌<◌, ℕ, Bool, true, false, not, ◌&&◌, ◌||◌, List, ◌∷◌, slice_get, Some, Option, None}
use Rattle.std.specs.BTreeSet.{contains_by}
use Rattle.std.specs.Cmp.Lexicographic.{slice_cmp}
use Rattle.std.specs.List.{list_any}
use Rattle.std.specs.Ordering.{nat_cmp}
use Rattle.std.specs.Str.{bytes_eq, str_to_ascii_lowercase}
use Rattle.sqval.specs.Database.{Database}
use Rattle.sqpage.specs.Lists.{In}
use Rattle.schema_ast.specs.declared.tables.MadeTable.{MadeTable}
use Rattle.sqschema.specs.declared.names.Names.{Names}
use Rattle.sqschema.specs.declared.error.SchemaError.{SchemaError}
use Rattle.sqschema.specs.declared.error.SchemaError.TheVariants.{Unread, Object}
use Rattle.sqschema.specs.declared.fault.SchemaFault.TheVariants.{RootKind}
use Rattle.sqschema.specs.Items.{Item}
use Rattle.sqschema.specs.Rules.{is_table, is_view, is_typed, is_made, is_rooted}
use Rattle.sqschema.specs.Roots.{HasTree, IsAside, IsRootOf, IsTreeFor, IsUnderstood}
use Rattle.sqschema.specs.Schema.{ItemRefused, IsLimit}

-- P holds of each item and its index, or of the first n
abbrev pub AllAt : (P : ℕ → Item → Type 0) → List Item → Type 0
AllAt P xs = (i : ℕ) (x : Item) → slice_get xs i ≡ Some x → P i x

abbrev pub AllBelow : (P : ℕ → Item → Type 0) → List Item → (n : ℕ) → Type 0
AllBelow P xs n = (i : ℕ) → i < n → (x : Item) → slice_get xs i ≡ Some x → P i x

-- The rules that an item follows by itself.
pub record IsSoundAlone (x : Item) : Type 0 where
  pub formed : x.formed ≡ true
  pub typed : is_typed x ≡ true
  pub made : is_made x ≡ true
  pub rooted : is_rooted x ≡ true

-- Memory ran out, or a fault stands at an item.
abbrev pub Tells : Database → List Item → SchemaError → Type 0
Tells d xs (Unread e) = IsLimit e
Tells d xs (Object e) = (x : Item) × (slice_get xs e.row ≡ Some x) × ItemRefused d xs e.row x e.fault

-- the same of item i
abbrev pub TellsOf : Database → (i : ℕ) → Item → SchemaError → Type 0
TellsOf d i x (Unread e) = IsLimit e
TellsOf d i x (Object e) = (e.row ≡ i) × (e.fault ≡ RootKind) × ¬ HasTree d x

-- what a name is found by: its small letters behind the number of its space
abbrev pub key_of : (space : ℕ) → (name : List ℕ) → List ℕ
key_of space name = space ∷ str_to_ascii_lowercase name

-- the set has this key
abbrev pub holds : Names → (key : List ℕ) → Bool
holds names key = contains_by (λ k. slice_cmp nat_cmp key k.items) names.keys

-- y has a name that others may name as their table's
abbrev pub may_own : (views : Bool) → Item → Bool
may_own views y = is_table y || (views && is_view y)

-- the set has the names of these items that may be named so
abbrev pub HoldsOwners : (views : Bool) → List Item → Names → Type 0
HoldsOwners views xs names = (key : List ℕ) → holds names key ≡ list_any (λ y. may_own views y && bytes_eq key (key_of 0 y.name)) xs

-- it is said whether the text is understood as a table with rowids, or as one without
abbrev pub SaysRowids : (sql : Option (List ℕ)) → (said : Option Bool) → Type 0
SaysRowids sql None = (made : MadeTable) → ¬ IsUnderstood sql made
SaysRowids sql (Some rowids) =
    ((made : MadeTable) × IsUnderstood sql made) × ((made : MadeTable) → IsUnderstood sql made → rowids ≡ not made.without_rowid)

-- it is said whether page p begins a tree of a table, or one of an index
abbrev pub KindTells : Database → (p : ℕ) → (said : Option Bool) → Type 0
KindTells d p None = (table : Bool) → ¬ IsRootOf d table p
KindTells d p (Some table) = IsRootOf d table p

-- an item is a table whose text isn't understood
abbrev pub IsUnread : Item → Type 0
IsUnread x = (is_table x ≡ true) × ((made : MadeTable) → ¬ IsUnderstood x.sql made)

-- it is said whether a tree is one for an item, and whether that is known by its text
abbrev pub Fits : Item → (table : Bool) → (said : Option Bool) → Type 0
Fits x table None = ¬ IsTreeFor x table
Fits x table (Some true) = IsTreeFor x table × ¬ IsUnread x
Fits x table (Some false) = IsTreeFor x table × IsUnread x

-- it is said whether the item's text is understood, where that is asked
abbrev pub SaysAside : (understood : Bool) → Item → Type 0
SaysAside true x = ¬ IsAside x
SaysAside false x = IsAside x

-- These are the indexes of the first n items whose texts aren't understood.
pub record AreAsidesBelow (xs : List Item) (n : ℕ) (asides : List ℕ) : Type 0 where
  pub some : (i : ℕ) → In i asides → (x : Item) × (i < n) × (slice_get xs i ≡ Some x) × IsAside x
  pub each : (i : ℕ) (x : Item) → i < n → slice_get xs i ≡ Some x → IsAside x → In i asides
