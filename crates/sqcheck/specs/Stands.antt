-- The condition of each fault, at a page (own).
use Rattle.std.specs.Prelude.{◌≡◌, ◌≢◌, ℕ, ◌<◌, ◌⊎◌, Bool, true, false, List, length, Option, ℤ, IsTrue}
use Rattle.sqval.specs.Bytes.{word}
use Rattle.sqval.specs.Database.{Database, page}
use Rattle.sqpage.specs.declared.cell.Cell.{Cell}
use Rattle.sqpage.specs.declared.fault.Fault.{Fault}
use Rattle.sqpage.specs.declared.fault.Fault.TheVariants as faults
use Rattle.sqpage.specs.declared.kind.Kind.{Kind}
use Rattle.sqpage.specs.Header.{HasMagic, HasPageSize, HasFractions, HasRoom, size_named}
use Rattle.sqpage.specs.Lists.{In, Every, Apart}
use Rattle.sqpage.specs.Freelist.{IsPage, usable_size, free_pages, next_in, leaf_count_in, most_leaves}
use Rattle.sqpage.specs.Page.{Page, is_interior, is_table, IsBtreePage}
use Rattle.sqpage.specs.Layout.{LayoutRefused}
use Rattle.sqpage.specs.PointerMaps.{lock_byte_page, IsPointerMap, IsEntryPlace}
use Rattle.sqpage.specs.declared.pointer_map.EntryPlace.{EntryPlace}
use Rattle.sqcheck.specs.Places.{overflow, holder, Node, Role, trunk, free_leaf, link, node, Spot, page_as, HasKind, IsCellAt, IsKeyBefore, IsRow, IsSchemaRow}
use Rattle.sqcheck.specs.WellFormed.{IsReached, IsSound, IsAutoVacuum, IsIncremental, SaysSo, IsLargestRoot, is_link, is_free, FirstLeaf, IsInOrder}

-- some key isn't behind the one before, or is behind the high bound
abbrev pub HasKeyOutOfOrder : Page → Node → Type 0
HasKeyOutOfOrder b x = (i : ℕ) × (cell : Cell) × (before : Option ℤ) × IsCellAt b i cell × IsKeyBefore b x i before × ¬ IsInOrder x before cell

-- the page is a b-tree page of some kind, and this holds of it
abbrev pub AsBtreePage : Database → (p : ℕ) → (Kind → Page → Type 0) → Type 0
AsBtreePage d p P = (kind : Kind) × IsBtreePage (page_as d kind p) × P kind (page_as d kind p)

-- the page is a leaf, and not on a level that the tree's leaves are to be on
abbrev pub IsUneven : (IsLevel : ℕ → Type 0) → Database → (p : ℕ) → Node → Type 0
IsUneven IsLevel d p x = (kind : Kind) × HasKind d kind p × (is_interior kind ≡ false) × (on : ℕ) × IsLevel on × (x.level ≢ on)

-- What is wrong with page p as one of a tree whose leaves are to be on such a level.
abbrev pub NodeRefusedBy : (IsLevel : ℕ → Type 0) → Database → Fault → (p : ℕ) → Node → Type 0
NodeRefusedBy IsLevel d faults.Kind p x = (kind : Kind) → HasKind d kind p → is_table kind ≢ x.table
NodeRefusedBy IsLevel d faults.CellOutside p x = (kind : Kind) × HasKind d kind p × ¬ IsBtreePage (page_as d kind p)
NodeRefusedBy IsLevel d faults.Overlap p x = AsBtreePage d p (λ kind b. LayoutRefused faults.Overlap b)
NodeRefusedBy IsLevel d faults.Freeblock p x = AsBtreePage d p (λ kind b. LayoutRefused faults.Freeblock b)
NodeRefusedBy IsLevel d faults.Fragments p x = AsBtreePage d p (λ kind b. LayoutRefused faults.Fragments b)
NodeRefusedBy IsLevel d faults.KeyOrder p x = AsBtreePage d p (λ kind b. HasKeyOutOfOrder b x)
NodeRefusedBy IsLevel d faults.Depth p x = (20 < x.level) ⊎ IsUneven IsLevel d p x
NodeRefusedBy IsLevel d faults.SchemaRecord p x = (x.schema ≡ true) × AsBtreePage d p (λ kind b. (is_interior kind ≡ false) × (i : ℕ) × (bytes : List ℕ) × IsRow d b i bytes × ((r : ℕ) → ¬ IsSchemaRow bytes r))
NodeRefusedBy IsLevel d _ p x = ⊥

-- What is wrong with a page in its role, where the leaves of each tree are to be on such a level.
abbrev pub PageWrongBy : (IsLevel : (tree on : ℕ) → Type 0) → Database → (p : ℕ) → Role → Fault → Type 0
PageWrongBy IsLevel d p trunk fault = (fault ≡ faults.FreeCount) × (most_leaves d < leaf_count_in (page d p))
PageWrongBy IsLevel d p free_leaf fault = ⊥
PageWrongBy IsLevel d p (link owner needed) fault = (fault ≡ faults.ChainLong) × (needed ≡ 1) × (next_in (page d p) ≢ 0)
PageWrongBy IsLevel d p (node x) fault = NodeRefusedBy (IsLevel x.tree) d fault p x

-- The same where that is the level of the tree's first leaf.
abbrev pub NodeRefused : Database → Fault → (p : ℕ) → Node → Type 0
NodeRefused d fault p x = NodeRefusedBy (FirstLeaf d x.tree 1) d fault p x

-- a place that counts names page p as one of a tree whose leaves are to be on such a level, and this is wrong with it
abbrev pub OnNodeBy : (IsLevel : (tree on : ℕ) → Type 0) → (Counts : Spot → Type 0) → Database → Fault → (p : ℕ) → Type 0
OnNodeBy IsLevel Counts d fault p = (s : Spot) × (x : Node) × Counts s × (s.page ≡ p) × IsPage d p × (s.role ≡ node x) × NodeRefusedBy (IsLevel x.tree) d fault p x

-- a place that counts names page p as one of a tree, and this is wrong with it
abbrev pub OnNode : (Counts : Spot → Type 0) → Database → Fault → (p : ℕ) → Type 0
OnNode Counts d fault p = (s : Spot) × (x : Node) × Counts s × (s.page ≡ p) × IsPage d p × (s.role ≡ node x) × NodeRefused d fault p x

-- These are all places of the freelist that count, each once. What is behind each is known.
pub record AreFreePlaces (Counts IsKnown : Spot → Type 0) (free : List Spot) : Type 0 where
  pub all : (s : Spot) → Counts s → is_free s.role ≡ true → In s free
  pub reached : Every (λ s. Counts s × (is_free s.role ≡ true)) free
  pub distinct : Apart free
  pub known : Every IsKnown free

-- nothing may name page p: the lock-byte page, and where pointer maps are asked for each of these
abbrev pub IsAsideWith : (maps : Bool) → Database → (size p : ℕ) → Type 0
IsAsideWith maps d size p = (p ≡ lock_byte_page size) ⊎ ((maps ≡ true) × IsAutoVacuum d × IsPointerMap size (usable_size d) p)

-- two places name page p, or one does, and the page is set aside
abbrev pub IsNamedTwice : (Counts : Spot → Type 0) → (maps : Bool) → Database → (size p : ℕ) → Type 0
IsNamedTwice Counts maps d size p =
    ((s t : Spot) × Counts s × Counts t × (s.place ≢ t.place) × (s.page ≡ p) × (t.page ≡ p))
    ⊎ (IsAsideWith maps d size p × (s : Spot) × Counts s × (s.page ≡ p))

-- an entry in page `map` doesn't say what names its page
abbrev pub HasWrongEntry : (Counts : Spot → Type 0) → Database → (size map : ℕ) → Type 0
HasWrongEntry Counts d size map = (s : Spot) × (entry : EntryPlace) × Counts s × IsEntryPlace size (usable_size d) s.page entry × (entry.map ≡ map) × ¬ SaysSo d entry s.place s.role

-- The condition of a fault of the file holds at page p, by the places that count. That something is missing among them
-- is told only where it is known what is behind each.
abbrev pub StandsBy : (Counts IsKnown : Spot → Type 0) → (maps : Bool) → Database → (size : ℕ) → Fault → (p : ℕ) → Type 0
StandsBy Counts IsKnown maps d size faults.Magic p = (p ≡ 1) × ¬ HasMagic (page d 1)
StandsBy Counts IsKnown maps d size faults.PageSize p = (p ≡ 1) × (¬ HasPageSize (page d 1) ⊎ (size_named (page d 1) ≢ size))
StandsBy Counts IsKnown maps d size faults.Fraction p = (p ≡ 1) × ¬ HasFractions (page d 1)
StandsBy Counts IsKnown maps d size faults.Reserved p = (p ≡ 1) × ¬ HasRoom (page d 1)
StandsBy Counts IsKnown maps d size faults.AutoVacuum p = (p ≡ 1) × (maps ≡ false) × (word (page d 1) 52 ≢ 0)
StandsBy Counts IsKnown maps d size faults.Kind p = OnNode Counts d faults.Kind p
StandsBy Counts IsKnown maps d size faults.CellOutside p = OnNode Counts d faults.CellOutside p
StandsBy Counts IsKnown maps d size faults.Overlap p = OnNode Counts d faults.Overlap p
StandsBy Counts IsKnown maps d size faults.Freeblock p = OnNode Counts d faults.Freeblock p
StandsBy Counts IsKnown maps d size faults.Fragments p = OnNode Counts d faults.Fragments p
StandsBy Counts IsKnown maps d size faults.ChainCut p = (s : Spot) × (owner needed : ℕ) × Counts s × (s.role ≡ link owner needed) × (holder s.place ≡ p) × ((s.page ≡ 0) ⊎ ((i : ℕ) × (s.place ≡ overflow p i) × (length d < needed)))
StandsBy Counts IsKnown maps d size faults.ChainLong p = (s : Spot) × (owner : ℕ) × Counts s × (s.page ≡ p) × IsPage d p × (s.role ≡ link owner 1) × (next_in (page d p) ≢ 0)
StandsBy Counts IsKnown maps d size faults.PageTwice p = IsPage d p × IsNamedTwice Counts maps d size p
StandsBy Counts IsKnown maps d size faults.PageOutside p = (s : Spot) × Counts s × (holder s.place ≡ p) × ¬ IsPage d s.page × (IsTrue (is_link s.role) → s.page ≢ 0)
StandsBy Counts IsKnown maps d size faults.PageUnused p = IsPage d p × (¬ IsAsideWith maps d size p) × ((s : Spot) → Counts s → IsKnown s × (s.page ≢ p))
StandsBy Counts IsKnown maps d size faults.KeyOrder p = OnNode Counts d faults.KeyOrder p
StandsBy Counts IsKnown maps d size faults.Depth p = OnNode Counts d faults.Depth p
StandsBy Counts IsKnown maps d size faults.FreeCount p =
    ((s : Spot) × Counts s × (s.page ≡ p) × IsPage d p × (s.role ≡ trunk) × (most_leaves d < leaf_count_in (page d p)))
    ⊎ ((p ≡ 1) × (free : List Spot) × AreFreePlaces Counts IsKnown free × (length free ≢ free_pages d))
StandsBy Counts IsKnown maps d size faults.SchemaRecord p = OnNode Counts d faults.SchemaRecord p
StandsBy Counts IsKnown maps d size faults.Source p = ⊥
StandsBy Counts IsKnown maps d size faults.NoMemory p = Unit {0}
StandsBy Counts IsKnown maps d size faults.PointerMap p =
    (maps ≡ true) × ((IsAutoVacuum d × (HasWrongEntry Counts d size p ⊎ ((p ≡ 1) × ((s : Spot) → Counts s → IsKnown s) × ¬ IsLargestRoot Counts (word (page d 1) 52)))) ⊎ ((p ≡ 1) × IsIncremental d × ¬ IsAutoVacuum d))

-- it is one of the header, or memory ran out
abbrev pub is_of_header : Fault → Bool
is_of_header faults.Magic = true
is_of_header faults.PageSize = true
is_of_header faults.Fraction = true
is_of_header faults.Reserved = true
is_of_header faults.AutoVacuum = true
is_of_header faults.NoMemory = true
is_of_header _ = false

-- The condition holds by the reached places. What is behind a place is known where its page is sound. Of a database of auto-vacuum only the header is judged where no pointer maps
-- are asked for.
pub record StandsWith (maps : Bool) (d : Database) (size : ℕ) (fault : Fault) (p : ℕ) : Type 0 where
  pub stands : StandsBy (IsReached d) (IsSound d) maps d size fault p
  pub judged : IsAutoVacuum d → (maps ≡ true) ⊎ (is_of_header fault ≡ true)

-- the same where auto-vacuum is refused
abbrev pub Stands : Database → (size : ℕ) → Fault → (p : ℕ) → Type 0
Stands = StandsWith false
