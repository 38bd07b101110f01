-- What a survey keeps of the places that were found (own). No public contract cites these words.
use Rattle.std.specs.Prelude.{◌≡◌, ◌≢◌, ℕ, ◌⊎◌, ◌<◌, ◌≤◌, Bool, true, false, List, [], ◌∷◌, ◌++◌, length, map, reverse, count_by, Option, Some, Result, Ok, Err}
use Rattle.sqval.specs.Bytes.{word}
use Rattle.sqval.specs.Database.{Database, page}
use Rattle.sqpage.specs.declared.cell.Cell.{Cell}
use Rattle.sqpage.specs.declared.kind.Kind.{Kind}
use Rattle.sqpage.specs.declared.kind.Kind.TheVariants.{TableLeaf}
use Rattle.sqpage.specs.declared.fault.CheckError.{CheckError}
use Rattle.sqpage.specs.declared.fault.Fault.TheVariants as faults
use Rattle.sqpage.specs.Lists.{In, Every, Apart}
use Rattle.sqpage.specs.Freelist.{IsPage, free_pages}
use Rattle.sqpage.specs.Page.{Page}
use Rattle.sqpage.specs.internal.Taking.{is_marked}
use Rattle.sqcheck.specs.declared.chart.Chart.{Chart}
use Rattle.sqcheck.specs.declared.item.Item.{Item}
use Rattle.sqcheck.specs.declared.node.Walk.{Walk}
use Rattle.sqcheck.specs.declared.role.Role.{Role}
use Rattle.sqcheck.specs.declared.role.Role.TheVariants.{Btree, FreeTrunk, FreeLeaf, Unused}
use Rattle.sqcheck.specs.declared.schema.Root.{Root}
use Rattle.sqcheck.specs.declared.tree.Tree.{Tree}
use Rattle.sqcheck.specs.declared.uses.Uses.{Uses}
use Rattle.sqcheck.specs.Found.{IsWhole, IsFound, IsRoleIn, HasFoundLeaf, IsFoundFault, IsWrongAt, IsInShortRow, HasManyRoots}
use Rattle.sqcheck.specs.Places as places
use Rattle.sqcheck.specs.Places.{Node, node, Spot, HasKind, StandsIn, StandsInRow, IsFirst, page_as, IsCellAt}
use Rattle.sqcheck.specs.Surveys.{role_at, Names, IsNamed, IsLookedAt, HasJudgedRole, HasFreeCount, IsLargestIn, IsNamedFault}
use Rattle.sqcheck.specs.Stands.{is_of_header, IsAsideWith}
use Rattle.sqcheck.specs.WellFormed.{IsAutoVacuum, HasSoundHeader, is_free, numbers}
use Rattle.sqcheck.specs.internal.Agenda.{AreCounted, NotRoot, NotSchema, Tour}
use Rattle.sqcheck.specs.internal.Charting.{ArePutDown}
use Rattle.sqcheck.specs.internal.Schema.{IsRootAt, RootsMatch}
use Rattle.sqcheck.specs.internal.Surveys.{Charts, IsEnd}
use Rattle.sqcheck.specs.internal.Walking.{IsItemOf, Match, IsSchemaLeaf}

-- the item is that of a found place
abbrev pub IsItemFound : Database → Tree → Item → Type 0
IsItemFound d tree it = (s : Spot) × IsFound d s × IsItemOf tree it s

-- a found place names page p as a leaf of the schema's tree, and it is a sound one
abbrev pub IsLeafFound : Database → (p : ℕ) → Type 0
IsLeafFound d p = (s : Spot) × IsFound d s × IsWhole d s × (s.page ≡ p) × IsSchemaLeaf d p s.role

-- the root is that of a found place
abbrev pub IsRootFound : Database → Root → Type 0
IsRootFound d root = (s : Spot) × IsFound d s × IsRootAt d root s

-- this is a cell of a leaf of the schema's tree that was found
abbrev pub IsCellFound : Database → Cell → Type 0
IsCellFound d cell = (i : ℕ) × IsLeafFound d cell.page × HasKind d TableLeaf cell.page × IsCellAt (page_as d TableLeaf cell.page) i cell

-- this is a leaf of the schema's tree that was found
abbrev pub IsPageFound : Database → Page → Type 0
IsPageFound d b = IsLeafFound d b.number × HasKind d TableLeaf b.number × (b ≡ page_as d TableLeaf b.number)

-- the level of leaves that was put down is that of a found leaf of the tree
abbrev pub IsLevelFound : Database → (root : ℕ) → (level : Option ℕ) → Type 0
IsLevelFound d root level = (on : ℕ) → level ≡ Some on → HasFoundLeaf d root on

-- faults hold by what was found
abbrev pub AreToldFound : (maps : Bool) → Database → (size : ℕ) → List CheckError → Type 0
AreToldFound maps d size = Every (λ e. IsFoundFault maps d size e.fault e.page)

-- Behind the old faults stand such ones.
pub record TellsFound (maps : Bool) (d : Database) (size : ℕ) (old new : List CheckError) : Type 0 where
  pub more : List CheckError
  pub is : new ≡ old ++ more
  pub found : AreToldFound maps d size more

-- a fault of the header is named
abbrev pub IsHeaderNamed : List CheckError → Type 0
IsHeaderNamed told = Names told (λ e. (e.page ≡ 1) × ((is_of_header e.fault ≡ true) ⊎ (e.fault ≡ faults.PointerMap)))

-- the fault of a row that was read is told, or none is
abbrev pub TellsRow : Result ℕ CheckError → (old new : List CheckError) → Type 0
TellsRow found old new = (new ≡ old) ⊎ ((e : CheckError) × (found ≡ Err e) × (e.fault ≡ faults.SchemaRecord) × ArePutDown old (e ∷ []) new)

-- the page was marked before the walk
abbrev pub IsBarred : (bars : List Bool) → (p : ℕ) → Type 0
IsBarred bars p = is_marked bars p ≡ true

-- a place was visited, is still to be followed, or a fault of it is named
abbrev pub IsDealtWith : Database → (visited pending : List Spot) → List CheckError → Spot → Type 0
IsDealtWith d visited pending told t = (In t visited ⊎ In t pending) ⊎ IsNamed d told t

-- A page is as its role wants it, all that stands in it is dealt with, and its rows are put aside; in `late` so are the
-- roots in these, unless there are too many.
pub record IsThrough (d : Database) (late : Bool) (visited pending : List Spot) (told : List CheckError) (rows : List ℕ) (v : Spot) : Type 0 where
  pub whole : IsWhole d v
  pub pages : (t : Spot) → StandsIn d v t → IsDealtWith d visited pending told t
  pub aside : IsSchemaLeaf d v.page v.role → In v.page rows
  pub roots : late ≡ true → (t : Spot) → StandsInRow d v t → IsInShortRow d t → IsDealtWith d visited pending told t ⊎ HasManyRoots d

-- it is so, or what is wrong with it is named
abbrev pub IsJudged : Database → (late : Bool) → (visited pending : List Spot) → List CheckError → (rows : List ℕ) → Spot → Type 0
IsJudged d late visited pending told rows v = IsThrough d late visited pending told rows v ⊎ Names told (IsWrongAt d v)

-- The pages that were put aside are sound leaves of the schema's tree, visited ones.
pub record AreLeaves (d : Database) (visited : List Spot) (rows : List ℕ) : Type 0 where
  pub only : Every (λ p. (s : Spot) × In s visited × IsWhole d s × (s.page ≡ p) × IsSchemaLeaf d p s.role) rows
  pub distinct : Apart rows

-- other than the header says so many of the visited places are of the freelist
abbrev pub FreeDiffers : Database → (visited : List Spot) → Type 0
FreeDiffers d visited = count_by (λ s. is_free s.role) visited ≢ free_pages d

-- the fault of a freelist that isn't as long as the header says
abbrev pub IsFreeCount : CheckError → Type 0
IsFreeCount e = (e.page ≡ 1) × (e.fault ≡ faults.FreeCount)

-- A fault holds by what was found, or, once the freelist was counted, by that count.
abbrev pub IsToldBy : (maps : Bool) → Database → (size : ℕ) → (counted : Bool) → (visited : List Spot) → CheckError → Type 0
IsToldBy maps d size counted visited e = IsFoundFault maps d size e.fault e.page ⊎ (IsFreeCount e × (counted ≡ true) × FreeDiffers d visited)

-- the root of a place's tree was visited, where the place isn't that
abbrev pub IsAboveOf : (visited : List Spot) → Spot → Type 0
IsAboveOf visited s = (x : Node) → s.role ≡ node x → (x.level ≡ 1) ⊎ In x.tree (numbers visited)

-- a page that is the root of its own tree is on the first level
abbrev pub IsProperRoot : Spot → Type 0
IsProperRoot v = (x : Node) → v.role ≡ node x → x.tree ≡ v.page → x.level ≡ 1

-- Roles were charted of the visited places, and faults told, behind those that there were first.
pub record Mapped (maps : Bool) (d : Database) (size : ℕ) (first : Chart) (bars : List Bool) (counted late : Bool) (visited pending : List Spot) (uses : Uses) (rows : List ℕ) (charted : List Role) (told : List CheckError) : Type 0 where
  pub tour : Tour d (IsFound d) (IsBarred bars) uses.marks.items visited pending
  pub barred : (p : ℕ) → IsPage d p → IsBarred bars p → IsAsideWith maps d size p
  pub long : length charted ≡ length d
  pub roles : Every (λ v. IsRoleIn d v.page v.role (role_at charted v.page)) visited
  pub others : (p : ℕ) → IsPage d p → ¬ In p (numbers visited) → role_at charted p ≡ role_at first.roles.items p
  pub counts : AreCounted visited uses.counts
  pub starts : (s : Spot) → IsFirst d s → IsDealtWith d visited pending told s
  pub judged : Every (IsJudged d late visited pending told rows) visited
  pub leaves : AreLeaves d visited rows
  pub early : late ≡ false → Every (λ v. NotRoot v.place) visited × Every (λ s. NotRoot s.place) pending
  pub plain : late ≡ true → Every (λ s. NotSchema s.role) pending
  pub more : List CheckError
  pub grows : told ≡ first.faults.items ++ more
  pub only : Every (IsToldBy maps d size counted visited) told
  pub trees : Every (IsAboveOf visited) pending
  pub proper : Every IsProperRoot visited
  pub free : counted ≡ true → Every (λ s. is_free s.role ≡ false) pending × (FreeDiffers d visited → Names told IsFreeCount)

-- Nothing is on the stack, and the rest is still to be followed.
pub record HasFound (maps : Bool) (d : Database) (size : ℕ) (first : Chart) (bars : List Bool) (counted late : Bool) (rest : List Spot) (uses : Uses) (walk : Walk) (chart : Chart) : Type 0 where
  pub visited : List Spot
  pub mapped : Mapped maps d size first bars counted late visited rest uses walk.rows.items chart.roles.items chart.faults.items

-- the fault of a largest root that isn't the one that the header says
abbrev pub IsLargestFault : CheckError → Type 0
IsLargestFault e = (e.page ≡ 1) × (e.fault ≡ faults.PointerMap)

-- The largest root of those that were counted is the one that the header says, or that is told.
abbrev pub TellsLargest : (maps : Bool) → Database → Uses → (old new : List CheckError) → Type 0
TellsLargest maps d uses old new = ((maps ≡ true → IsAutoVacuum d → uses.counts.largest_root ≡ word (page d 1) 52) × (new ≡ old))
    ⊎ ((e : CheckError) × IsLargestFault e × (maps ≡ true) × IsAutoVacuum d × (uses.counts.largest_root ≢ word (page d 1) 52) × ArePutDown old (e ∷ []) new)

-- Nothing is left to be followed, and the largest root was judged.
pub record HasAll (maps : Bool) (d : Database) (size : ℕ) (first : Chart) (bars : List Bool) (uses : Uses) (walk : Walk) (chart : Chart) : Type 0 where
  pub visited : List Spot
  pub told : List CheckError
  pub mapped : Mapped maps d size first bars true true visited [] uses walk.rows.items chart.roles.items told
  pub largest : TellsLargest maps d uses told chart.faults.items

-- The places on the stack are to be followed, and then the rest; the level of leaves is that of a found one.
pub record AreFound (maps : Bool) (d : Database) (size : ℕ) (first : Chart) (bars : List Bool) (counted late : Bool) (rest : List Spot) (tree : Tree) (uses : Uses) (walk : Walk) (chart : Chart) : Type 0 where
  pub visited : List Spot
  pub pending : List Spot
  pub match : Match tree (reverse walk.stack.items) pending
  pub level : IsLevelFound d tree.root walk.leaf_level
  pub mapped : Mapped maps d size first bars counted late visited (pending ++ rest) uses walk.rows.items chart.roles.items chart.faults.items

-- The item is that of the place that is to be followed next, and then those on the stack.
pub record ComesNext (maps : Bool) (d : Database) (size : ℕ) (first : Chart) (bars : List Bool) (counted late : Bool) (rest : List Spot) (tree : Tree) (it : Item) (uses : Uses) (walk : Walk) (chart : Chart) : Type 0 where
  pub visited : List Spot
  pub spot : Spot
  pub pending : List Spot
  pub is : IsItemOf tree it spot
  pub match : Match tree (reverse walk.stack.items) pending
  pub level : IsLevelFound d tree.root walk.leaf_level
  pub mapped : Mapped maps d size first bars counted late visited (spot ∷ (pending ++ rest)) uses walk.rows.items chart.roles.items chart.faults.items

-- A walk begins: nothing but these bars is marked, nothing counted or put aside, and the faults were found.
pub record Begins (maps : Bool) (d : Database) (size : ℕ) (uses : Uses) (walk : Walk) (chart : Chart) : Type 0 where
  pub sized : length uses.marks.items ≡ length d
  pub barred : (p : ℕ) → IsPage d p → IsBarred uses.marks.items p → IsAsideWith maps d size p
  pub long : length chart.roles.items ≡ length d
  pub rows : walk.rows.items ≡ []
  pub counts : AreCounted [] uses.counts
  pub told : AreToldFound maps d size chart.faults.items

-- a role that the page has as one of its role is charted
abbrev pub PutsRole : Database → (p : ℕ) → places.Role → (old new : List Role) → Type 0
PutsRole d p named old new = (role : Role) × IsRoleIn d p named role × Charts old p role new

-- no page has a role in the freelist or in a tree
abbrev pub HasNoFree : Database → List Role → Type 0
HasNoFree d roles = (p : ℕ) → IsPage d p → (¬ ((role_at roles p ≡ FreeTrunk) ⊎ (role_at roles p ≡ FreeLeaf))) × ((kind : Kind) (root : ℕ) → role_at roles p ≢ Btree kind root)

-- each page has the role that it had first, or one that a found place names it in, and was judged as that; and the first
-- places were looked at
pub record AreRolesFound (d : Database) (first roles : List Role) (told : List CheckError) : Type 0 where
  pub long : length roles ≡ length d
  pub starts : (s : Spot) → IsFirst d s → IsLookedAt d roles told s
  pub each : (p : ℕ) → IsPage d p → (role_at roles p ≡ role_at first p) ⊎ HasJudgedRole d roles told p (role_at roles p)

-- What a survey has in the end, which began with these roles.
pub record IsSurveyed (maps : Bool) (d : Database) (size : ℕ) (first roles : List Role) (told : List CheckError) : Type 0 where
  pub charted : AreRolesFound d first roles told
  pub only : Every (IsNamedFault maps d size roles) told
  pub header : (¬ HasSoundHeader maps d size) → IsHeaderNamed told
  pub unused : (p : ℕ) → IsPage d p → role_at roles p ≡ Unused → Names told (λ e. (e.page ≡ p) × (e.fault ≡ faults.PageUnused))
  pub free : (¬ HasFreeCount d roles) → Names told IsFreeCount
  pub largest : (¬ IsLargestIn maps d roles (word (page d 1) 52)) → Names told IsLargestFault

-- The root that a row names is added, where it names one and no more are kept than there are pages.
abbrev pub AddsRoot : (count holder : ℕ) → Result ℕ CheckError → (old new : List Root) → Type 0
AddsRoot count holder (Err e) old new = (new ≡ old) × ¬ IsEnd e.fault
AddsRoot count holder (Ok r) old new = ((r ≡ 0) × (new ≡ old))
    ⊎ ((r ≢ 0) × (new ≡ old ++ record { holder = holder; page = r } ∷ []))
    ⊎ ((new ≡ old) × (count < length old))

-- Roots in places of which P holds were added, no place twice; those in short rows all, unless there are too many.
pub record AddsRoots (d : Database) (P : Spot → Type 0) (old new : List Root) : Type 0 where
  pub more : List Root
  pub spots : List Spot
  pub added : new ≡ old ++ more
  pub match : RootsMatch d more spots
  pub only : Every P spots
  pub all : (t : Spot) → P t → IsInShortRow d t → In t spots ⊎ (length d < length new)
  pub distinct : Apart (map (λ t. t.place) spots)
