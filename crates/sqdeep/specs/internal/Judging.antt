-- Words of the functions that judge a part of a database (own). No public contract cites them.
use Rattle.std.specs.Prelude.{◌≡◌, ◌≢◌, ◌<◌, ◌≤◌, ℕ, Bool, true, false, List, length, Some}
use Rattle.sqval.specs.Database.{Database}
use Rattle.sqval.specs.Datum.{Datum}
use Rattle.sqval.specs.PageSize.{IsPageSize}
use Rattle.sqval.specs.Record.{IsRecord, most_bytes}
use Rattle.sqpage.specs.declared.cell.Cell.{Cell}
use Rattle.sqpage.specs.declared.fault.CheckError.{CheckError}
use Rattle.sqpage.specs.declared.fault.Fault.TheVariants as checks
use Rattle.sqpage.specs.declared.kind.Kind.{Kind}
use Rattle.sqpage.specs.Chain.{payload_size, IsPayload}
use Rattle.sqpage.specs.Freelist.{IsPage, usable_size}
use Rattle.sqpage.specs.Layout.{IsLaidOut}
use Rattle.sqpage.specs.Lists.{Every}
use Rattle.sqpage.specs.Page.{Page, IsBtreePage}
use Rattle.sqcheck.specs.declared.role.Role.{Role}
use Rattle.sqcheck.specs.declared.role.Role.TheVariants.{Btree}
use Rattle.sqcheck.specs.Places.{page_as, IsCellAt}
use Rattle.sqcheck.specs.Roles.{HasRole}
use Rattle.sqdeep.specs.declared.fault.InnerFault.{InnerFault}
use Rattle.sqdeep.specs.declared.fault.InnerFault.TheVariants.{TooLong, NotRecord}
use Rattle.sqdeep.specs.declared.fault.DeepError.{DeepError}
use Rattle.sqdeep.specs.declared.fault.DeepError.TheVariants.{Check, Inner}
use Rattle.sqdeep.specs.declared.text.Encoding.{Encoding}
use Rattle.sqdeep.specs.Pages.{IsTidyPage}
use Rattle.sqdeep.specs.Records.{IsFormed, IsSoundCell, CellRefused}
use Rattle.sqdeep.specs.Inside.{IsOfTree, StandsInside}

-- A source has these pages, of this size, still, and reads them right and gives them if it did.
pub record SameSource (pages : Database) (size : ℕ) (right given : Type 0) (pages_now : Database) (size_now : ℕ) (right_now given_now : Type 0) : Type 0 where
  pub sized : IsPageSize size
  pub same_pages : pages_now ≡ pages
  pub same_size : size_now ≡ size
  pub still_right : right → right_now
  pub still_given : given → given_now

-- What is wrong with a payload.
abbrev pub RecordRefused : (bytes : List ℕ) → InnerFault → Type 0
RecordRefused bytes TooLong = most_bytes < length bytes
RecordRefused bytes NotRecord = (values : List Datum) → ¬ IsRecord values bytes
RecordRefused bytes _ = ⊥

-- The bytes are a record, whose texts are formed.
abbrev pub IsFormedRecord : Encoding → (bytes : List ℕ) → Type 0
IsFormedRecord encoding bytes = (values : List Datum) × IsRecord values bytes × Every (IsFormed encoding) values

-- They are a record, and a text of it isn't formed; or all are.
abbrev pub HasForm : (is_ill : Bool) → Encoding → (bytes : List ℕ) → Type 0
HasForm true encoding bytes = (values : List Datum) × IsRecord values bytes × ¬ Every (IsFormed encoding) values
HasForm false encoding bytes = IsFormedRecord encoding bytes

-- What is told of the payload of cell i of its page.
abbrev pub PayloadTells : Cell → (i : ℕ) → (bytes : List ℕ) → DeepError → Type 0
PayloadTells cell i bytes e = (fault : InnerFault) × (e ≡ Inner (record { fault = fault; page = cell.page; cell = Some i })) × RecordRefused bytes fault

-- A cell in a page of at most so many bytes.
pub record IsWithinPage (size : ℕ) (cell : Cell) : Type 0 where
  pub least : 480 ≤ cell.usable
  pub most : cell.usable ≤ size
  pub part : length cell.local.now ≤ payload_size cell

-- A page couldn't be read, or memory ran out.
abbrev pub IsCutOff : (given : Type 0) → CheckError → Type 0
IsCutOff given e = (e.fault ≢ checks.Source → e.fault ≡ checks.NoMemory) × (e.fault ≡ checks.Source → ¬ given)

-- Why a cell isn't found sound.
abbrev pub CellTells : (given : Type 0) → Database → Cell → (i : ℕ) → DeepError → Type 0
CellTells given d cell i (Check e) = IsCutOff given e
CellTells given d cell i (Inner e) = (e.page ≡ cell.page) × (e.cell ≡ Some i) × CellRefused d cell e.fault

-- Why a part of the database isn't found sound.
abbrev pub Tells : (given : Type 0) → Database → DeepError → Type 0
Tells given d (Check e) = IsCutOff given e
Tells given d (Inner e) = StandsInside d e.fault e.page e.cell

-- A page of a tree of a well-formed database: it is a b-tree page, laid out soundly, and its cells have payloads.
pub record IsOfSoundTree (d : Database) (kind : Kind) (root p : ℕ) : Type 0 where
  pub of_tree : IsOfTree d kind root p
  pub named : IsPage d p
  pub page_is : IsBtreePage (page_as d kind p)
  pub laid_out : IsLaidOut (page_as d kind p)
  pub payloads : (i : ℕ) (cell : Cell) → IsCellAt (page_as d kind p) i cell → (content : List ℕ) × IsPayload d cell content

-- it is said whether page p is the root
abbrev pub SaysRoot : (said : Bool) → (root p : ℕ) → Type 0
SaysRoot true root p = root ≡ p
SaysRoot false root p = root ≢ p

-- The first n cells of a page are sound.
abbrev pub AreSoundCells : Database → Page → (n : ℕ) → Type 0
AreSoundCells d b n = (i : ℕ) (cell : Cell) → i < n → IsCellAt b i cell → IsSoundCell d cell

-- The page and all of its cells are sound.
pub record IsSoundPage (d : Database) (b : Page) (root : ℕ) : Type 0 where
  pub tidy : IsTidyPage b root
  pub cells : (i : ℕ) (cell : Cell) → IsCellAt b i cell → IsSoundCell d cell

-- page p, where it is one of a tree, and all of its cells are sound
abbrev pub IsSoundAt : Database → (p : ℕ) → Type 0
IsSoundAt d p = (kind : Kind) (root : ℕ) → IsOfTree d kind root p → IsSoundPage d (page_as d kind p) root

-- What is known of the pages of trees of a well-formed database: each is of one kind and of one tree, and has no other
-- role.
pub record HasSoundTrees (d : Database) : Type 0 where
  pub named : (p : ℕ) (role : Role) → HasRole d p role → IsPage d p
  pub alone : (kind : Kind) (root p : ℕ) (role : Role) → IsOfTree d kind root p → HasRole d p role → role ≡ Btree kind root
  pub room : 480 ≤ usable_size d
  pub sound : (kind : Kind) (root p : ℕ) → IsOfTree d kind root p → IsOfSoundTree d kind root p
  pub once : (kind other : Kind) (root tree p : ℕ) → IsOfTree d kind root p → IsOfTree d other tree p → (other ≡ kind) × (tree ≡ root)
