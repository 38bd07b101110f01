-- Well-formed databases (fileformat2, 1 and 2.6).
use Rattle.std.specs.Prelude.{◌≡◌, ◌≢◌, ℕ, suc, ◌+◌, ◌≤◌, ◌⊎◌, ◌==◌, if◌then◌else◌, Bool, true, false, List, length, map, Option, Some, ℤ, ◌<ℤ◌, ◌≤ℤ◌, count_by}
use Rattle.sqval.specs.Bytes.{word}
use Rattle.sqval.specs.Database.{Database, page}
use Rattle.sqval.specs.PageSize.{IsPageSize}
use Rattle.sqpage.specs.declared.cell.Cell.{Cell}
use Rattle.sqpage.specs.declared.kind.Kind.{Kind}
use Rattle.sqpage.specs.Header.{byte, HasMagic, HasFractions, HasRoom, size_named}
use Rattle.sqpage.specs.Lists.{In, Every, Apart}
use Rattle.sqpage.specs.Freelist.{IsPage, IsWithin, usable_size, free_pages, next_in, leaf_count_in, most_leaves}
use Rattle.sqpage.specs.Page.{Page, is_interior, is_table, head_at, cell_count, pointer, IsBtreePage}
use Rattle.sqpage.specs.Layout.{IsLaidOut}
use Rattle.sqpage.specs.PointerMaps.{lock_byte_page, IsPointerMap, IsEntryPlace, kind_code}
use Rattle.sqpage.specs.declared.pointer_map.EntryPlace.{EntryPlace}
use Rattle.sqpage.specs.declared.pointer_map.PointerKind.{PointerKind}
use Rattle.sqpage.specs.declared.pointer_map.PointerKind.TheVariants as kinds
use Rattle.sqcheck.specs.Places.{Place, next, holder, Node, Role, trunk, free_leaf, link, node, Spot, page_as, HasKind, IsCellAt, IsKeyBefore, IsRow, IsSchemaRow, IsReachedBy}
use Rattle.sqcheck.specs.declared.report.Report.{Report}

-- the header's largest root isn't 0 (fileformat2, 1.3.13)
abbrev pub IsAutoVacuum : Database → Type 0
IsAutoVacuum d = word (page d 1) 52 ≢ 0

-- the header asks for incremental vacuum
abbrev pub IsIncremental : Database → Type 0
IsIncremental d = word (page d 1) 64 ≢ 0

-- Nothing names page p, and it isn't unused: the lock-byte page, and with auto-vacuum each pointer map.
abbrev pub IsSetAside : Database → (size p : ℕ) → Type 0
IsSetAside d size p = (p ≡ lock_byte_page size) ⊎ (IsAutoVacuum d × IsPointerMap size (usable_size d) p)

-- The header of the file: SQLite's, for pages of this size, with room in each. Without `maps` it is none of auto-vacuum;
-- with them only one of auto-vacuum may ask for incremental vacuum.
pub record HasSoundHeader (maps : Bool) (d : Database) (size : ℕ) : Type 0 where
  pub magic : HasMagic (page d 1)
  pub page_size : size_named (page d 1) ≡ size
  pub fractions : HasFractions (page d 1)
  pub room : HasRoom (page d 1)
  pub plain : maps ≡ false → word (page d 1) 52 ≡ 0
  pub incremental : maps ≡ true → IsIncremental d → IsAutoVacuum d

-- Keys and bounds: one comes before another, or is at most another, where there are both.
abbrev pub IsBefore : (low key : Option ℤ) → Type 0
IsBefore (Some low) (Some key) = low <ℤ key
IsBefore _ _ = Unit {0}

abbrev pub IsAtMost : (high key : Option ℤ) → Type 0
IsAtMost (Some high) (Some key) = key ≤ℤ high
IsAtMost _ _ = Unit {0}

-- the key of a cell comes behind the one before, and is at most the page's high bound
abbrev pub IsInOrder : Node → (before : Option ℤ) → Cell → Type 0
IsInOrder x before cell = IsBefore before cell.rowid × IsAtMost x.high cell.rowid

-- The keys of a page rise within its bounds. Cells of an index have no key here.
abbrev pub KeysRise : Page → Node → Type 0
KeysRise b x = (i : ℕ) (cell : Cell) (before : Option ℤ) → IsCellAt b i cell → IsKeyBefore b x i before → IsInOrder x before cell

-- the number of the first child of an interior page
abbrev pub first_child : Page → ℕ
first_child b = if cell_count b == 0 then word b.used (head_at b.number + 8) else word b.used (pointer b 0)

-- From page p, which is on a level, the first children lead down to a leaf on this other level.
pub data FirstLeaf (d : Database) : (p level on : ℕ) → Type 0 where
  here : {p level : ℕ} → (kind : Kind) → HasKind d kind p → is_interior kind ≡ false → FirstLeaf d p level level
  down : {p level on : ℕ} → (kind : Kind) → HasKind d kind p → is_interior kind ≡ true → FirstLeaf d (first_child (page_as d kind p)) (suc level) on → FirstLeaf d p level on

-- A sound page of a tree but for the level of leaves: a b-tree page of the tree's kind, laid out soundly, its keys in
-- order, not too deep.
pub record IsSoundPage (d : Database) (p : ℕ) (x : Node) : Type 0 where
  pub kind : Kind
  pub page_is : IsBtreePage (page_as d kind p)
  pub same : is_table kind ≡ x.table
  pub laid_out : IsLaidOut (page_as d kind p)
  pub keys : KeysRise (page_as d kind p) x
  pub shallow : x.level ≤ 20

-- A sound page of a tree: where it is a leaf, on the level of the tree's first one.
pub record IsSoundNode (d : Database) (p : ℕ) (x : Node) : Type 0 where
  pub page : IsSoundPage d p x
  pub even : is_interior page.kind ≡ false → FirstLeaf d x.tree 1 x.level

-- The rows of a leaf of the schema's tree are rows of the schema.
abbrev pub HasSchemaRows : Database → (p : ℕ) → Node → Type 0
HasSchemaRows d p x = x.schema ≡ true → (kind : Kind) → HasKind d kind p → is_interior kind ≡ false → (i : ℕ) (bytes : List ℕ) → IsRow d (page_as d kind p) i bytes → (r : ℕ) × IsSchemaRow bytes r

-- The page is as its role wants it, where this is asked of a page of a tree.
abbrev pub IsSoundWith : (IsNode : (p : ℕ) → Node → Type 0) → Database → (p : ℕ) → Role → Type 0
IsSoundWith IsNode d p trunk = leaf_count_in (page d p) ≤ most_leaves d
IsSoundWith IsNode d p free_leaf = Unit {0}
IsSoundWith IsNode d p (link owner needed) = (needed ≤ length d) × (needed ≡ 1 → next_in (page d p) ≡ 0)
IsSoundWith IsNode d p (node x) = IsNode p x

abbrev pub IsSoundAs : Database → (p : ℕ) → Role → Type 0
IsSoundAs d = IsSoundWith (IsSoundNode d) d

-- the same of a page that is named as this, where it is one of a tree
abbrev pub HasSoundRows : Database → (p : ℕ) → Role → Type 0
HasSoundRows d p (node x) = HasSchemaRows d p x
HasSoundRows d p _ = Unit {0}

-- The place names a page that is as its role wants it.
pub record IsSound (d : Database) (s : Spot) : Type 0 where
  pub named : IsPage d s.page
  pub sound_as : IsSoundAs d s.page s.role

-- Reached are the places that sound pages lead to.
abbrev pub IsReached : Database → Spot → Type 0
IsReached d = IsReachedBy d (IsSound d)

abbrev pub is_free : Role → Bool
is_free trunk = true
is_free free_leaf = true
is_free _ = false

abbrev pub is_link : Role → Bool
is_link (link owner needed) = true
is_link _ = false

abbrev pub is_node : Role → Bool
is_node (node x) = true
is_node _ = false

-- a page of a tree on the first level is its root
abbrev pub is_root : Role → Bool
is_root (node x) = x.level == 1
is_root _ = false

-- the numbers that stand in the places
abbrev pub numbers : List Spot → List ℕ
numbers = map (λ s. s.page)

-- Each number from 1 to n but those that are set aside is in the list once, and no other.
pub record AreEachOnce (IsAside : ℕ → Type 0) (n : ℕ) (ps : List ℕ) : Type 0 where
  pub within : Every (λ p. IsWithin n p × ¬ IsAside p) ps
  pub distinct : Apart ps
  pub each : (p : ℕ) → IsWithin n p → ¬ IsAside p → In p ps

-- the kind that the entry of a named page says (fileformat2, 1.8)
abbrev pub link_kind : Place → PointerKind
link_kind (next p) = kinds.Overflow
link_kind _ = kinds.FirstOverflow

abbrev pub kind_named : Place → Role → PointerKind
kind_named place trunk = kinds.Free
kind_named place free_leaf = kinds.Free
kind_named place (link owner needed) = link_kind place
kind_named place (node x) = if x.level == 1 then kinds.Root else kinds.Child

-- the page that the entry says: the one that the place stands in, and 0 for a root and for the freelist
abbrev pub parent_by : PointerKind → (holder : ℕ) → ℕ
parent_by kinds.Root holder = 0
parent_by kinds.Free holder = 0
parent_by _ holder = holder

abbrev pub parent_named : Place → Role → ℕ
parent_named place role = parent_by (kind_named place role) (holder place)

-- the bytes of page `map` from `at` on are those of an entry that says so
abbrev pub SaysSo : Database → EntryPlace → Place → Role → Type 0
SaysSo d entry place role = (byte (page d entry.map) entry.at ≡ kind_code (kind_named place role)) × (word (page d entry.map) (entry.at + 1) ≡ parent_named place role)

-- The entry of the page that s names, where it has one, says so.
abbrev pub HasEntry : Database → (size : ℕ) → Spot → Type 0
HasEntry d size s = (entry : EntryPlace) → IsEntryPlace size (usable_size d) s.page entry → SaysSo d entry s.place s.role

-- n is the largest root that a place names which counts
abbrev pub IsLargestRoot : (Counts : Spot → Type 0) → (n : ℕ) → Type 0
IsLargestRoot Counts n = ((s : Spot) → Counts s → is_root s.role ≡ true → s.page ≤ n) × ((s : Spot) × Counts s × (is_root s.role ≡ true) × (s.page ≡ n))

-- The pointer maps say what names each page, and the header which root is the largest.
pub record AreMapped (d : Database) (size : ℕ) : Type 0 where
  pub entries : (s : Spot) → IsReached d s → HasEntry d size s
  pub largest : IsLargestRoot (IsReached d) (word (page d 1) 52)

-- A database of pages of this size is well formed: its header is sound, its reached places together name each page once
-- but those set aside, each of them is sound, each row of the schema is one, the freelist is as long as the header says,
-- and with auto-vacuum the pointer maps are right.
pub record WellFormedWith (maps : Bool) (d : Database) (size : ℕ) : Type 0 where
  pub size_is : IsPageSize size
  pub sized : Every (λ b. length b ≡ size) d
  pub header : HasSoundHeader maps d size
  pub places : List Spot
  pub all : (s : Spot) → IsReached d s → In s places
  pub reached : Every (IsReached d) places
  pub once : AreEachOnce (IsSetAside d size) (length d) (numbers places)
  pub sound : Every (IsSound d) places
  pub rows : Every (λ s. HasSoundRows d s.page s.role) places
  pub free : count_by (λ s. is_free s.role) places ≡ free_pages d
  pub mapped : IsAutoVacuum d → AreMapped d size

-- the same of one without auto-vacuum
abbrev pub WellFormed : Database → (size : ℕ) → Type 0
WellFormed = WellFormedWith false

-- how many pages there are, how many trees, and how many pages of each use
pub record IsReport (d : Database) (places : List Spot) (report : Report) : Type 0 where
  pub pages : report.pages ≡ length d
  pub trees : report.trees ≡ count_by (λ s. is_root s.role) places
  pub btree : report.btree ≡ count_by (λ s. is_node s.role) places
  pub overflow : report.overflow ≡ count_by (λ s. is_link s.role) places
  pub free : report.free ≡ count_by (λ s. is_free s.role) places
