-- The rows of the schema as a check reads them (fileformat2, 2.6). No public contract cites these words.
use Rattle.std.specs.Prelude.{◌≡◌, ◌≢◌, ℕ, suc, ◌<◌, ◌≤◌, IsSome, List, [], ◌∷◌, ◌++◌, length, map, take, true}
use Rattle.sqval.specs.Database.{Database}
use Rattle.sqpage.specs.declared.cell.Cell.{Cell}
use Rattle.sqpage.specs.declared.fault.CheckError.{CheckError}
use Rattle.sqpage.specs.declared.fault.Fault.TheVariants.{SchemaRecord}
use Rattle.sqpage.specs.declared.kind.Kind.TheVariants.{TableLeaf}
use Rattle.sqpage.specs.Lists.{In, Every, Apart}
use Rattle.sqpage.specs.Freelist.{IsPage}
use Rattle.sqpage.specs.Page.{IsBtreePage}
use Rattle.sqpage.specs.Chain.{IsPayload, payload_size}
use Rattle.sqcheck.specs.declared.schema.Root.{Root}
use Rattle.sqcheck.specs.Places.{holder, root, Node, node, Spot, spot, page_as, IsCellAt, IsRow, IsSchemaRow, InRow, root_of_tree}
use Rattle.sqcheck.specs.WellFormed.{IsReached}

-- A page that a reached place names as a leaf of the schema's tree: it is one, and its cells have payloads.
pub record IsRowsPage (d : Database) (p : ℕ) : Type 0 where
  pub spot : Spot
  pub x : Node
  pub reached : IsReached d spot
  pub names : spot.page ≡ p
  pub page : IsPage d p
  pub role : spot.role ≡ node x
  pub schema : x.schema ≡ true
  pub page_is : IsBtreePage (page_as d TableLeaf p)
  pub payloads : (i : ℕ) (cell : Cell) → IsCellAt (page_as d TableLeaf p) i cell → (content : List ℕ) × IsPayload d cell content

-- the rows below row n are rows of the schema
abbrev pub AreSchemaRows : Database → (p n : ℕ) → Type 0
AreSchemaRows d p n = (i : ℕ) (bytes : List ℕ) → i < n → IsRow d (page_as d TableLeaf p) i bytes → (r : ℕ) × IsSchemaRow bytes r

-- the place of the root in row n of page p
abbrev pub InRowAt : Database → (p n : ℕ) → Spot → Type 0
InRowAt d p n t = (bytes : List ℕ) × (r : ℕ) × IsRow d (page_as d TableLeaf p) n bytes × IsSchemaRow bytes r × (r ≢ 0) × (t ≡ spot (root p n) r (root_of_tree d r))

-- the place of a root in one of the first n rows of page p
abbrev pub InRowBelow : Database → (p n : ℕ) → Spot → Type 0
InRowBelow d p n t = (i : ℕ) × (bytes : List ℕ) × (r : ℕ) × (i < n) × IsRow d (page_as d TableLeaf p) i bytes × IsSchemaRow bytes r × (r ≢ 0)
    × (t ≡ spot (root p i) r (root_of_tree d r))

-- the place of a root in a row of one of the pages
abbrev pub InRowsOf : Database → List ℕ → Spot → Type 0
InRowsOf d pages t = (p : ℕ) × In p pages × InRow d p t

-- A root that was found is that of the place.
pub record IsRootAt (d : Database) (found : Root) (s : Spot) : Type 0 where
  pub page : found.page ≡ s.page
  pub stands : found.holder ≡ holder s.place
  pub role : s.role ≡ root_of_tree d s.page

-- the roots are those of the places, in order
abbrev pub RootsMatch : Database → List Root → List Spot → Type 0
RootsMatch d [] [] = Unit {0}
RootsMatch d (found ∷ roots) (s ∷ spots) = IsRootAt d found s × RootsMatch d roots spots
RootsMatch d _ _ = ⊥

-- The roots in all places of which P holds, and in no others, were found.
pub record Finds (d : Database) (P : Spot → Type 0) (old new : List Root) : Type 0 where
  pub roots : List Root
  pub spots : List Spot
  pub added : new ≡ old ++ roots
  pub match : RootsMatch d roots spots
  pub only : Every P spots
  pub all : (t : Spot) → P t → In t spots
  pub distinct : Apart (map (λ t. t.place) spots)

-- Of the roots that were found the first ones are kept, one more than there are pages.
abbrev pub AreKept : Database → (found kept : List Root) → Type 0
AreKept d found kept = kept ≡ take (suc (length d)) found

-- The same roots were found as by `Finds`, behind those of which `old` are kept, and `new` are kept of all.
abbrev pub KeepsFound : Database → (P : Spot → Type 0) → (old new : List Root) → Type 0
KeepsFound d P old new = (all : List Root) → AreKept d all old → (more : List Root) × Finds d P all more × AreKept d more new

-- A cell with a payload, in a page of at most so many bytes.
pub record HasPayloadWithin (size : ℕ) (cell : Cell) : Type 0 where
  pub payload : IsSome cell.payload
  pub least : 480 ≤ cell.usable
  pub most : cell.usable ≤ size
  pub part : length cell.local.now ≤ payload_size cell

-- the row in a cell names this root, and no other
abbrev pub IsRootBy : Database → Cell → (r : ℕ) → Type 0
IsRootBy d cell r = (bytes : List ℕ) × IsPayload d cell bytes × IsSchemaRow bytes r × ((q : ℕ) → IsSchemaRow bytes q → q ≡ r)

-- at the cell's page: what is in the cell is no row of the schema
abbrev pub IsNoRow : Database → Cell → CheckError → Type 0
IsNoRow d cell e = (e.page ≡ cell.page) × (bytes : List ℕ) × IsPayload d cell bytes × ((r : ℕ) → ¬ IsSchemaRow bytes r)

-- the same with the fault that says so
abbrev pub IsRowRefused : Database → Cell → CheckError → Type 0
IsRowRefused d cell e = (e.fault ≡ SchemaRecord) × (e.page ≡ cell.page) × (bytes : List ℕ) × IsPayload d cell bytes × ((r : ℕ) → ¬ IsSchemaRow bytes r)

-- each row of page p is one of the schema
abbrev pub AllSchemaRows : Database → (p : ℕ) → Type 0
AllSchemaRows d p = (i : ℕ) (bytes : List ℕ) → IsRow d (page_as d TableLeaf p) i bytes → (r : ℕ) × IsSchemaRow bytes r
