-- What changed between the rows that a table WITHOUT ROWID had and those that it has (own; datatype3, 4.1 and 7).
use Rattle.std.specs.Prelude.{◌≡◌, ◌≢◌, ◌↔◌, ℕ, ℤ, List, [], ◌∷◌, map, take, Option, Some, None}
use Rattle.std.specs.declared.cmp.Ordering.TheVariants.{Less, Equal}
use Rattle.sqval.specs.Database.{Database}
use Rattle.sqpage.specs.Lists.{In}
use Rattle.sqrows.specs.Rows.{Row, HasRows}
use Rattle.sqlite_value.specs.declared.value.Value.{Value}
use Rattle.sqlite_value.specs.declared.keys.Order.{Order}
use Rattle.sqlite_value.specs.Keys.{entry_cmp}
use Rattle.sqkeys.specs.Columns.{value_of}
use Rattle.sqdiff.specs.Changes.{Change, inserted, deleted, changed}
use Rattle.sqkeydiff.specs.declared.key.KeyOrder.{KeyOrder}

-- The key of a row: its first values, as keys have them. A row with a rowid has none.
abbrev pub keyed : (rowid : Option ℤ) → List Value → Option (List Value)
keyed None values = Some values
keyed (Some id) values = None

abbrev pub key_of : (width : ℕ) → Row → Option (List Value)
key_of width row = keyed row.rowid (map value_of (take width row.values))

abbrev pub keys_of : (width : ℕ) → List Row → List (Option (List Value))
keys_of width rows = map (key_of width) rows

-- the key of the row that changed
abbrev pub key_in : (width : ℕ) → Change → Option (List Value)
key_in width (inserted r) = key_of width r
key_in width (deleted r) = key_of width r
key_in width (changed r s) = key_of width r

-- It is a key, and comes behind the one before it, if there is one.
abbrev pub IsAbove : Order → (before key : Option (List Value)) → Type 0
IsAbove order before None = ⊥
IsAbove order None (Some key) = Unit {0}
IsAbove order (Some low) (Some key) = entry_cmp order low key ≡ Less

-- Each of these is a key, which comes behind the one before it.
abbrev pub Ascend : Order → (before : Option (List Value)) → List (Option (List Value)) → Type 0
Ascend order before [] = Unit {0}
Ascend order before (key ∷ keys) = IsAbove order before key × Ascend order key keys

-- They are keys of which none comes before the other: under NOCASE also where their letters differ.
abbrev pub AreEqual : Order → (a b : Option (List Value)) → Type 0
AreEqual order (Some a) (Some b) = entry_cmp order a b ≡ Equal
AreEqual order _ _ = ⊥

-- none of these rows has a key equal to this one
abbrev pub IsFree : KeyOrder → Option (List Value) → List Row → Type 0
IsFree by key rows = (r : Row) → In r rows → ¬ AreEqual by.order (key_of by.width r) key

-- What came is a new row whose key equals no old one's; what went is an old row whose key equals no new one's; what changed is
-- an old row and the new one of an equal key, where their values differ.
abbrev pub IsKeyChangeOf : KeyOrder → (old new : List Row) → Change → Type 0
IsKeyChangeOf by old new (inserted r) = In r new × IsFree by (key_of by.width r) old
IsKeyChangeOf by old new (deleted r) = In r old × IsFree by (key_of by.width r) new
IsKeyChangeOf by old new (changed r s) =
    In r old × In s new × AreEqual by.order (key_of by.width r) (key_of by.width s) × (r.values ≢ s.values)

-- These are all the changes, each once, in the order of the keys.
abbrev pub AreKeyChanges : KeyOrder → (old new : List Row) → List Change → Type 0
AreKeyChanges by old new cs = Ascend by.order None (map (key_in by.width) cs) × ((c : Change) → In c cs ↔ IsKeyChangeOf by old new c)

-- The tables of these roots in two databases have rows whose keys ascend, and these are the changes.
abbrev pub HasKeyChanges : KeyOrder → Database → (old_root : ℕ) → Database → (new_root : ℕ) → List Change → Type 0
HasKeyChanges by d old_root e new_root cs =
    (old new : List Row) × HasRows d old_root old × HasRows e new_root new × Ascend by.order None (keys_of by.width old)
    × Ascend by.order None (keys_of by.width new) × AreKeyChanges by old new cs
