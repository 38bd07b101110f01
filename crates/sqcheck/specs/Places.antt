-- Places: the fields of a database that name a page, and what they name it as (fileformat2, 1.5 to 1.7).
use Rattle.std.specs.Prelude.{◌≡◌, ◌≢◌, ℕ, suc, ◌+◌, ◌-◌, ◌<◌, ◌≤◌, ◌⊎◌, ◌==◌, ◌||◌, Bool, true, false, List, ◌∷◌, length, take, Option, None, unwrap_or, ℤ, pos}
use Rattle.sqval.specs.Bytes.{word}
use Rattle.sqval.specs.Database.{Database, page}
use Rattle.sqval.specs.Datum.{Datum, null, integer}
use Rattle.sqval.specs.Record.{IsRecord, most_bytes}
use Rattle.sqpage.specs.declared.cell.Cell.{Cell}
use Rattle.sqpage.specs.declared.kind.Kind.{Kind}
use Rattle.sqpage.specs.declared.kind.Kind.TheVariants.{TableLeaf}
use Rattle.sqpage.specs.Header.{byte}
use Rattle.sqpage.specs.Freelist.{IsPage, usable_size, first_trunk, next_in, leaf_count_in, leaf_in, most_leaves}
use Rattle.sqpage.specs.Page.{Page, code_of, is_interior, head_at, cell_count, IsCell}
use Rattle.sqpage.specs.Chain.{IsPayload, bytes_beyond, links}

-- A field that names a page: by the page that it stands in, and its number there.
pub data Place : Type 0 where
  -- in the file's header
  first_trunk_place : Place
  -- page 1, the root of the schema table, counts as named once
  first_root : Place
  -- the number that a trunk or an overflow page begins with
  next : (p : ℕ) → Place
  -- a trunk's leaf
  leaf : (p i : ℕ) → Place
  -- the first overflow page of a cell
  overflow : (p i : ℕ) → Place
  -- the left child of a cell; past the last cell the right child
  child : (p i : ℕ) → Place
  -- the root that the schema row of a cell names
  root : (p i : ℕ) → Place

-- the page that it stands in
abbrev pub holder : Place → ℕ
holder first_trunk_place = 1
holder first_root = 1
holder (next p) = p
holder (leaf p i) = p
holder (overflow p i) = p
holder (child p i) = p
holder (root p i) = p

-- A page of a tree: the tree's root, whether it is a table and the schema's, the level, of which the root's is 1, and the
-- bounds that the pages above set for a table's keys, the low one outside.
pub record Node : Type 0 where
  pub tree : ℕ
  pub table : Bool
  pub schema : Bool
  pub level : ℕ
  pub low : Option ℤ
  pub high : Option ℤ

-- What a page is named as. A link is the first of so many pages that are still needed, of the chain of a cell in page `owner`.
pub data Role : Type 0 where
  trunk : Role
  free_leaf : Role
  link : (owner needed : ℕ) → Role
  node : Node → Role

-- A place, the number that stands there, and what it names that page as.
pub record Spot : Type 0 where
  pub place : Place
  pub page : ℕ
  pub role : Role

abbrev pub spot : Place → (p : ℕ) → Role → Spot
spot place p role = record { place = place; page = p; role = role }

-- the usable part of page p, and the page as one of a b-tree
abbrev pub used_in : Database → (p : ℕ) → List ℕ
used_in d p = take (usable_size d) (page d p)

abbrev pub page_as : Database → Kind → (p : ℕ) → Page
page_as d kind p = record { used = used_in d p; number = p; kind = kind }

-- the page has this kind's type byte
abbrev pub HasKind : Database → Kind → (p : ℕ) → Type 0
HasKind d kind p = byte (used_in d p) (head_at p) ≡ code_of kind

-- this is cell i of a page
abbrev pub IsCellAt : Page → (i : ℕ) → Cell → Type 0
IsCellAt b i cell = (i < cell_count b) × IsCell b i cell

-- The key that comes before cell i: that of the cell before, or the low bound of the page. Behind a cell that can't be
-- read none is known.
abbrev pub IsKeyBefore : Page → Node → (i : ℕ) → Option ℤ → Type 0
IsKeyBefore b x i key =
    ((i ≡ 0) × (key ≡ x.low))
    ⊎ ((j : ℕ) × (cell : Cell) × (i ≡ suc j) × IsCellAt b j cell × (key ≡ cell.rowid))
    ⊎ ((j : ℕ) × (i ≡ suc j) × ((cell : Cell) → ¬ IsCellAt b j cell) × (key ≡ None))

-- one level below, between these bounds
abbrev pub below : Node → (low high : Option ℤ) → Role
below x low high = node (record { tree = x.tree; table = x.table; schema = x.schema; level = suc x.level; low = low; high = high })

-- The place of a trunk's leaf, or of the next trunk, where its number isn't 0.
abbrev pub InTrunk : Database → (p : ℕ) → Spot → Type 0
InTrunk d p t =
    ((leaf_count_in (page d p) ≤ most_leaves d) × (i : ℕ) × (i < leaf_count_in (page d p)) × (t ≡ spot (leaf p i) (leaf_in (page d p) i) free_leaf))
    ⊎ ((next_in (page d p) ≢ 0) × (t ≡ spot (next p) (next_in (page d p)) trunk))

-- The place of the next page of a chain, where one is needed.
abbrev pub InLink : Database → (p owner needed : ℕ) → Spot → Type 0
InLink d p owner needed t = (1 < needed) × (t ≡ spot (next p) (next_in (page d p)) (link owner (needed - 1)))

-- The place of the first overflow page of a cell, where not all of its payload is local.
abbrev pub InCell : Page → Spot → Type 0
InCell b t = (i : ℕ) × (cell : Cell) × IsCellAt b i cell × (0 < bytes_beyond cell) × (t ≡ spot (overflow b.number i) cell.overflow (link b.number (links cell)))

-- The place of a left child.
abbrev pub IsLeftChild : Page → Node → Spot → Type 0
IsLeftChild b x t = (i : ℕ) × (cell : Cell) × (low : Option ℤ) × IsCellAt b i cell × IsKeyBefore b x i low
    × (t ≡ spot (child b.number i) (unwrap_or cell.child 0) (below x low cell.rowid))

-- The place of the right child.
abbrev pub IsRightChild : Page → Node → Spot → Type 0
IsRightChild b x t = (low : Option ℤ) × IsKeyBefore b x (cell_count b) low
    × (t ≡ spot (child b.number (cell_count b)) (word b.used (head_at b.number + 8)) (below x low x.high))

-- The place of a chain or of a child in a page of a tree.
abbrev pub InNode : Database → (p : ℕ) → Node → Spot → Type 0
InNode d p x t = (kind : Kind) × HasKind d kind p
    × (InCell (page_as d kind p) t ⊎ ((is_interior kind ≡ true) × (IsLeftChild (page_as d kind p) x t ⊎ IsRightChild (page_as d kind p) x t)))

-- t is a place in page p, which is named as this.
abbrev pub InPageAs : Database → (p : ℕ) → Role → Spot → Type 0
InPageAs d p trunk t = InTrunk d p t
InPageAs d p free_leaf t = ⊥
InPageAs d p (link owner needed) t = InLink d p owner needed t
InPageAs d p (node x) t = InNode d p x t

-- t is a place in the page that s names, where that is a page.
abbrev pub StandsIn : Database → (s t : Spot) → Type 0
StandsIn d s t = IsPage d s.page × InPageAs d s.page s.role t

-- the root that the fourth column of a schema row names, or 0
abbrev pub IsRootIn : Datum → (r : ℕ) → Type 0
IsRootIn null r = r ≡ 0
IsRootIn (integer number) r = number ≡ pos r
IsRootIn _ r = ⊥

abbrev pub IsRootOf : List Datum → (r : ℕ) → Type 0
IsRootOf (type ∷ name ∷ table_name ∷ rootpage ∷ sql ∷ more) r = IsRootIn rootpage r
IsRootOf _ r = ⊥

-- The bytes are a row of the schema table that names this root, or none by 0. A row is within the limit on records (own).
pub record IsSchemaRow (bytes : List ℕ) (r : ℕ) : Type 0 where
  pub values : List Datum
  pub read : IsRecord values bytes
  pub short : length bytes ≤ most_bytes
  pub names : IsRootOf values r

-- the bytes of row i of a leaf of a table
pub record IsRow (d : Database) (b : Page) (i : ℕ) (bytes : List ℕ) : Type 0 where
  pub cell : Cell
  pub is : IsCellAt b i cell
  pub payload : IsPayload d cell bytes

-- whether page r is to be the root of a table: its type byte says so
abbrev pub names_table : Database → (r : ℕ) → Bool
names_table d r = (byte (used_in d r) (head_at r) == 13) || (byte (used_in d r) (head_at r) == 5)

abbrev pub root_of_tree : Database → (r : ℕ) → Role
root_of_tree d r = node (record { tree = r; table = names_table d r; schema = false; level = 1; low = None; high = None })

-- The root in a row of the schema.
abbrev pub InRow : Database → (p : ℕ) → Spot → Type 0
InRow d p t = HasKind d TableLeaf p × (i : ℕ) × (bytes : List ℕ) × (r : ℕ) × IsRow d (page_as d TableLeaf p) i bytes × IsSchemaRow bytes r × (r ≢ 0)
    × (t ≡ spot (root p i) r (root_of_tree d r))

-- The same where the page is named as one of the schema's tree.
abbrev pub InRowAs : Database → (p : ℕ) → Role → Spot → Type 0
InRowAs d p (node x) t = (x.schema ≡ true) × InRow d p t
InRowAs d p _ t = ⊥

-- t is the place of a root in a row of the page that s names, where that is a page of the schema's tree.
abbrev pub StandsInRow : Database → (s t : Spot) → Type 0
StandsInRow d s t = IsPage d s.page × InRowAs d s.page s.role t

-- page 1 as the root of the schema table
abbrev pub first_root_spot : Spot
first_root_spot = spot first_root 1 (node (record { tree = 1; table = true; schema = true; level = 1; low = None; high = None }))

abbrev pub first_trunk_spot : Database → Spot
first_trunk_spot d = spot first_trunk_place (first_trunk d) trunk

-- The places where all begins: the first trunk, where there is one, and the first root.
abbrev pub IsFirst : Database → Spot → Type 0
IsFirst d s = ((first_trunk d ≢ 0) × (s ≡ first_trunk_spot d)) ⊎ (s ≡ first_root_spot)

-- Reached through pages of which P holds: the first ones, and those in the pages and rows that a reached one of which P
-- holds leads to.
pub data IsReachedBy (d : Database) (P : Spot → Type 0) : Spot → Type 0 where
  first : {s : Spot} → IsFirst d s → IsReachedBy d P s
  stands_in : {s t : Spot} → IsReachedBy d P s → P s → StandsIn d s t → IsReachedBy d P t
  stands_in_row : {s t : Spot} → IsReachedBy d P s → P s → StandsInRow d s t → IsReachedBy d P t
