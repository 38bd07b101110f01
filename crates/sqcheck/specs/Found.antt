-- What is said of a damaged database: by the places that sound pages lead to, whatever is wrong elsewhere (own).
use Rattle.std.specs.Prelude.{◌≡◌, ◌≢◌, ℕ, ◌<◌, ◌⊎◌, Bool, true, false, List, length, map, if◌then◌else◌}
use Rattle.sqval.specs.Database.{Database, page}
use Rattle.sqpage.specs.declared.cell.Cell.{Cell}
use Rattle.sqpage.specs.declared.fault.CheckError.{CheckError}
use Rattle.sqpage.specs.declared.fault.Fault.{Fault}
use Rattle.sqpage.specs.declared.fault.Fault.TheVariants as faults
use Rattle.sqpage.specs.declared.kind.Kind.{Kind}
use Rattle.sqpage.specs.declared.kind.Kind.TheVariants.{TableLeaf, IndexLeaf}
use Rattle.sqpage.specs.Freelist.{IsPage, leaf_count_in, most_leaves}
use Rattle.sqpage.specs.Chain.{bytes_beyond}
use Rattle.sqpage.specs.Lists.{Every, Apart}
use Rattle.sqpage.specs.Page.{is_interior}
use Rattle.sqcheck.specs.declared.role.Role.{Role}
use Rattle.sqcheck.specs.declared.role.Role.TheVariants.{Btree}
use Rattle.sqcheck.specs.Places as places
use Rattle.sqcheck.specs.Places.{Node, trunk, link, node, root, holder, Spot, HasKind, IsCellAt, page_as, IsReachedBy}
use Rattle.sqcheck.specs.Roles.{IsRoleOf}
use Rattle.sqcheck.specs.Stands.{StandsBy, OnNodeBy, PageWrongBy, HasWrongEntry}
use Rattle.sqcheck.specs.WellFormed.{IsAutoVacuum, IsIncremental, IsSoundPage, IsSoundWith, is_root}

-- The place names a page that is as its role wants it, but that a leaf may be on another level than its tree's first one.
pub record IsWhole (d : Database) (s : Spot) : Type 0 where
  pub named : IsPage d s.page
  pub sound_as : IsSoundWith (IsSoundPage d) d s.page s.role

-- Found are the places that such pages lead to.
abbrev pub IsFound : Database → Spot → Type 0
IsFound d = IsReachedBy d (IsWhole d)

-- the kind that a page of a tree counts as whose type byte is none
abbrev pub leaf_of : (table : Bool) → Kind
leaf_of table = if table then TableLeaf else IndexLeaf

-- The role of page p, which is named as this, whatever its bytes are.
abbrev pub IsRoleIn : Database → (p : ℕ) → places.Role → Role → Type 0
IsRoleIn d p (node x) role = IsRoleOf d p (node x) role ⊎ (((kind : Kind) → ¬ HasKind d kind p) × (role ≡ Btree (leaf_of x.table) x.tree))
IsRoleIn d p named role = IsRoleOf d p named role

-- Page p has the role that a found place names it in.
abbrev pub HasFoundRole : Database → (p : ℕ) → Role → Type 0
HasFoundRole d p role = (s : Spot) × IsFound d s × (s.page ≡ p) × IsRoleIn d p s.role role

-- A leaf of the tree with this root was found on this level.
abbrev pub HasFoundLeaf : Database → (tree on : ℕ) → Type 0
HasFoundLeaf d tree on = (s : Spot) × (x : Node) × (kind : Kind) × IsFound d s × (s.role ≡ node x) × (x.tree ≡ tree) × (x.level ≡ on) × HasKind d kind s.page × (is_interior kind ≡ false)

-- The condition of a fault holds at page p by the places that were found. Leaves of a tree are on different levels where
-- two that were found are. Of the last two nothing is said here, nor of the numbers that page 1 says.
abbrev pub IsFoundFault : (maps : Bool) → Database → (size : ℕ) → Fault → (p : ℕ) → Type 0
IsFoundFault maps d size faults.Depth p = OnNodeBy (HasFoundLeaf d) (IsFound d) d faults.Depth p
IsFoundFault maps d size faults.FreeCount p = (s : Spot) × IsFound d s × (s.page ≡ p) × IsPage d p × (s.role ≡ trunk) × (most_leaves d < leaf_count_in (page d p))
IsFoundFault maps d size faults.PointerMap p = (maps ≡ true) × ((IsAutoVacuum d × HasWrongEntry (IsFound d) d size p) ⊎ ((p ≡ 1) × IsIncremental d × ¬ IsAutoVacuum d))
IsFoundFault maps d size faults.PageUnused p = ⊥
IsFoundFault maps d size faults.NoMemory p = ⊥
IsFoundFault maps d size fault p = StandsBy (IsFound d) (IsWhole d) maps d size fault p

-- What is wrong with the page that s names, as one of its role; or it begins a chain of more pages than there are, which is
-- told at the page that s stands in.
abbrev pub IsWrongAt : Database → Spot → CheckError → Type 0
IsWrongAt d s e = ((e.page ≡ s.page) × (e.fault ≢ faults.SchemaRecord) × PageWrongBy (HasFoundLeaf d) d s.page s.role e.fault)
    ⊎ ((e.page ≡ holder s.place) × (e.fault ≡ faults.ChainCut) × (owner needed : ℕ) × (s.role ≡ link owner needed) × (length d < needed))

-- What is wrong at a place: its page isn't as the role wants it, or is named twice, told there; or there is none, told at the
-- one that it stands in.
abbrev pub IsFaultOf : Database → Spot → CheckError → Type 0
IsFaultOf d s e = IsWrongAt d s e
    ⊎ ((e.page ≡ s.page) × (e.fault ≡ faults.PageTwice))
    ⊎ ((e.page ≡ holder s.place) × (¬ IsPage d s.page) × ((e.fault ≡ faults.PageOutside) ⊎ (e.fault ≡ faults.ChainCut)))

-- a root in a row that has no overflow pages
abbrev pub IsInShortRow : Database → Spot → Type 0
IsInShortRow d s = (p i : ℕ) × (s.place ≡ root p i) × ((cell : Cell) → IsCellAt (page_as d TableLeaf p) i cell → bytes_beyond cell ≡ 0)

-- The rows of the schema name more roots than there are pages.
abbrev pub HasManyRoots : Database → Type 0
HasManyRoots d = (ss : List Spot) × Every (λ s. IsFound d s × (is_root s.role ≡ true)) ss × Apart (map (λ s. s.place) ss) × (length d < length ss)
