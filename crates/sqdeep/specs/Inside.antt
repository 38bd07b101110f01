-- What a well-formed database holds (fileformat2, 1.3, 1.6, 1.8 and 2.1).
use Rattle.std.specs.Prelude.{◌≡◌, ◌≢◌, ◌⊎◌, ◌<◌, ℕ, Bool, Option, Some, None}
use Rattle.sqval.specs.Database.{Database}
use Rattle.sqpage.specs.declared.cell.Cell.{Cell}
use Rattle.sqpage.specs.declared.fault.Fault.TheVariants as checks
use Rattle.sqpage.specs.declared.kind.Kind.{Kind}
use Rattle.sqpage.specs.Source.{UnlessUnread}
use Rattle.sqcheck.specs.declared.role.Role.{Role}
use Rattle.sqcheck.specs.declared.role.Role.TheVariants.{Btree}
use Rattle.sqcheck.specs.Places.{page_as, IsCellAt}
use Rattle.sqcheck.specs.Roles.{HasRole}
use Rattle.sqcheck.specs.Stands.{StandsWith}
use Rattle.sqcheck.specs.WellFormed.{WellFormedWith, IsAutoVacuum}
use Rattle.sqdeep.specs.declared.fault.InnerFault.{InnerFault}
use Rattle.sqdeep.specs.declared.fault.InnerFault.TheVariants.{RootBehind}
use Rattle.sqdeep.specs.declared.fault.DeepError.{DeepError}
use Rattle.sqdeep.specs.declared.fault.DeepError.TheVariants.{Check, Inner}
use Rattle.sqdeep.specs.Headers.{HasKnownNumbers, HeaderRefused}
use Rattle.sqdeep.specs.Pages.{IsTidyPage, PageRefused}
use Rattle.sqdeep.specs.Records.{IsSoundCell, CellRefused}

-- page p is one of this kind in the tree with this root
abbrev pub IsOfTree : Database → (kind : Kind) → (root p : ℕ) → Type 0
IsOfTree d kind root p = HasRole d p (Btree kind root)

-- page p is the root of a tree
abbrev pub IsRoot : Database → (p : ℕ) → Type 0
IsRoot d p = (kind : Kind) × IsOfTree d kind p p

-- page p is of a tree, a chain or the freelist, and no root
abbrev pub IsNoRoot : Database → (p : ℕ) → Type 0
IsNoRoot d p = (role : Role) × HasRole d p role × ((kind : Kind) → role ≢ Btree kind p)

-- With pointer maps, so that a root never moves, each root comes before all pages that are none (fileformat2, 1.8).
abbrev pub AreRootsFirst : Database → Type 0
AreRootsFirst d = IsAutoVacuum d → (p q : ℕ) → IsRoot d p → IsNoRoot d q → p < q

-- Root p stands behind a page that is none.
abbrev pub IsRootBehind : Database → (p : ℕ) → Type 0
IsRootBehind d p = IsAutoVacuum d × IsRoot d p × (q : ℕ) × IsNoRoot d q × (q < p)

-- The header's numbers are known, roots come first, and each page of a tree and each of its cells is as it should.
pub record IsSoundInside (d : Database) : Type 0 where
  pub header : HasKnownNumbers d
  pub roots : AreRootsFirst d
  pub pages : (kind : Kind) (root p : ℕ) → IsOfTree d kind root p → IsTidyPage (page_as d kind p) root
  pub cells : (kind : Kind) (root p i : ℕ) (cell : Cell) → IsOfTree d kind root p → IsCellAt (page_as d kind p) i cell → IsSoundCell d cell

-- A fault of a page, at page 1 one of the header, at a root that it stands behind others, or one of cell i of a page.
abbrev pub StandsInside : Database → InnerFault → (p : ℕ) → (cell : Option ℕ) → Type 0
StandsInside d fault p None =
    ((p ≡ 1) × HeaderRefused d fault)
    ⊎ ((kind : Kind) × (root : ℕ) × IsOfTree d kind root p × PageRefused (page_as d kind p) root fault)
    ⊎ ((fault ≡ RootBehind) × IsRootBehind d p)
StandsInside d fault p (Some i) = (kind : Kind) × (root : ℕ) × (cell : Cell) × IsOfTree d kind root p × IsCellAt (page_as d kind p) i cell × CellRefused d cell fault

-- Why a database isn't found sound: a check refuses it, or it is well formed, and a fault stands inside.
abbrev pub DeepRefused : (gives : Type 0) → (maps : Bool) → Database → (size : ℕ) → DeepError → Type 0
DeepRefused gives maps d size (Check e) = UnlessUnread gives e.fault (StandsWith maps d size e.fault e.page)
DeepRefused gives maps d size (Inner e) = WellFormedWith maps d size × StandsInside d e.fault e.page e.cell

-- The database isn't well formed, unless a page couldn't be read or memory ran out; or it isn't sound inside.
abbrev pub RefutesSound : (maps : Bool) → Database → (size : ℕ) → DeepError → Type 0
RefutesSound maps d size (Check e) = e.fault ≢ checks.Source → e.fault ≢ checks.NoMemory → ¬ WellFormedWith maps d size
RefutesSound maps d size (Inner e) = ¬ IsSoundInside d
