-- Words of the helper functions that walk over the places (own). No public contract cites them.
use Rattle.std.specs.Prelude.{◌≡◌, ◌≢◌, ℕ, ◌+◌, ◌<◌, ◌≤◌, ◌⊎◌, ◌==◌, if◌then◌else◌, Bool, true, false, List, [], ◌∷◌, ◌++◌, length, map, reverse, take, Option, Some, None, ℤ}
use Rattle.sqval.specs.Bytes.{word}
use Rattle.sqval.specs.Database.{Database, page}
use Rattle.sqpage.specs.declared.fault.CheckError.{CheckError}
use Rattle.sqpage.specs.declared.fault.Fault.{Fault}
use Rattle.sqpage.specs.declared.fault.Fault.TheVariants as faults
use Rattle.sqpage.specs.declared.kind.Kind.{Kind}
use Rattle.sqpage.specs.Lists.{In, Every, Apart}
use Rattle.sqpage.specs.Header.{byte}
use Rattle.sqpage.specs.PointerMaps.{IsEntryPlace, kind_code}
use Rattle.sqpage.specs.declared.pointer_map.EntryPlace.{EntryPlace}
use Rattle.sqpage.specs.declared.pointer_map.PointerKind.{PointerKind}
use Rattle.sqpage.specs.declared.pointer_map.PointerKind.TheVariants as kinds
use Rattle.sqpage.specs.Freelist.{IsPage, usable_size, most_leaves, leaf_count_in, leaf_in, next_in}
use Rattle.sqpage.specs.Page.{Page, is_interior, is_table, IsBtreePage}
use Rattle.sqpage.specs.Layout.{IsLaidOut}
use Rattle.sqpage.specs.declared.cell.Cell.{Cell}
use Rattle.sqpage.specs.Chain.{bytes_beyond, links}
use Rattle.sqpage.specs.internal.Taking.{Marks, MarkRefused}
use Rattle.sqcheck.specs.declared.item.Item.{Item}
use Rattle.sqcheck.specs.declared.item.Task.{Task}
use Rattle.sqcheck.specs.declared.item.Task.TheVariants.{Trunk, Leaf, Link, Node}
use Rattle.sqcheck.specs.declared.tree.Tree.{Tree}
use Rattle.sqcheck.specs.declared.node.Bounds.{Bounds}
use Rattle.sqcheck.specs.declared.node.RawPage.{RawPage}
use Rattle.sqcheck.specs.declared.node.Walk.{Walk}
use Rattle.sqcheck.specs.declared.role.Role as roles
use Rattle.sqcheck.specs.declared.uses.Uses.{Uses}
use Rattle.sqcheck.specs.internal.Counting.{AddsItem}
use Rattle.sqcheck.specs.Places.{Place, holder, Role, trunk, free_leaf, link, node, Spot, page_as, HasKind, used_in, InPageAs, InNode, InCell, IsLeftChild, IsRightChild, IsCellAt, spot, overflow, next, leaf}
use Rattle.sqcheck.specs.Places as places
use Rattle.sqcheck.specs.WellFormed.{IsAutoVacuum, IsSoundAs, IsSoundWith, IsSoundPage, IsSoundNode, KeysRise, FirstLeaf, kind_named, parent_by}
use Rattle.sqcheck.specs.Roles.{IsRoleOf}
use Rattle.sqcheck.specs.Stands.{PageWrongBy}

-- a page of the tree, on this level and with these bounds
abbrev pub node_in : Tree → (level : ℕ) (low high : Option ℤ) → places.Node
node_in tree level low high = record { tree = tree.root; table = tree.table; schema = tree.schema; level = level; low = low; high = high }

-- the same with what is known of it
abbrev pub node_of : Tree → Bounds → places.Node
node_of tree bounds = node_in tree bounds.level bounds.low bounds.high

-- the page was read of a database
abbrev pub IsRead : Database → RawPage → Type 0
IsRead d raw = used_in d raw.number ≡ take raw.usable raw.bytes.now

-- what an item's page is named as
abbrev pub role_of : Tree → Task → Role
role_of tree Trunk = trunk
role_of tree Leaf = free_leaf
role_of tree (Link owner needed first) = link owner needed
role_of tree (Node level low high) = node (node_in tree level low high)

-- the role of an item's page
abbrev pub IsRoleBy : Database → Tree → Item → roles.Role → Type 0
IsRoleBy d tree it role = IsRoleOf d it.page (role_of tree it.task) role

-- a link is the first of one page or more
abbrev pub IsProper : Task → Type 0
IsProper (Link owner needed first) = 0 < needed
IsProper _ = Unit {0}

-- the kind that the entry of a page that is named so is to say
abbrev pub kind_of : Task → PointerKind
kind_of Trunk = kinds.Free
kind_of Leaf = kinds.Free
kind_of (Link owner needed first) = if first then kinds.FirstOverflow else kinds.Overflow
kind_of (Node level low high) = if level == 1 then kinds.Root else kinds.Child

-- the item is that of the place
pub record IsItemOf (tree : Tree) (it : Item) (s : Spot) : Type 0 where
  pub page : it.page ≡ s.page
  pub stands : it.holder ≡ holder s.place
  pub role : s.role ≡ role_of tree it.task
  pub proper : IsProper it.task
  pub kind : kind_of it.task ≡ kind_named s.place s.role

-- the items are those of the places, in order
abbrev pub Match : Tree → List Item → List Spot → Type 0
Match tree [] [] = Unit {0}
Match tree (it ∷ its) (s ∷ ss) = IsItemOf tree it s × Match tree its ss
Match tree _ _ = ⊥

-- The items of all places of which P holds, and of no others, were put on the stack.
pub record Pushes (tree : Tree) (P : Spot → Type 0) (old new : List Item) : Type 0 where
  pub items : List Item
  pub spots : List Spot
  pub pushed : reverse new ≡ items ++ reverse old
  pub match : Match tree items spots
  pub only : Every P spots
  pub all : (t : Spot) → P t → In t spots
  pub distinct : Apart (map (λ t. t.place) spots)

-- The place of a chain's first page, in the cells from one on.
abbrev pub InCellFrom : Page → (from : ℕ) → Spot → Type 0
InCellFrom b from t = (i : ℕ) × (cell : Cell) × (from ≤ i) × IsCellAt b i cell × (0 < bytes_beyond cell) × (t ≡ spot (overflow b.number i) cell.overflow (link b.number (links cell)))

-- the place of a left or right child
abbrev pub IsChild : Page → places.Node → Spot → Type 0
IsChild b x t = IsLeftChild b x t ⊎ IsRightChild b x t

-- the same where the page is an interior one
abbrev pub IsBelow : Page → places.Node → Spot → Type 0
IsBelow b x t = (is_interior b.kind ≡ true) × IsChild b x t

-- The first page of a tree from the top of the stack on leads down to the tree's first leaf.
abbrev pub LeadsOn : Database → (root p : ℕ) → Task → (further : Type 0) → Type 0
LeadsOn d root p (Node level low high) further = (on : ℕ) → FirstLeaf d p level on → FirstLeaf d root 1 on
LeadsOn d root p _ further = further

abbrev pub TopLeads : Database → (root : ℕ) → List Item → Type 0
TopLeads d root [] = Unit {0}
TopLeads d root (it ∷ its) = LeadsOn d root it.page it.task (TopLeads d root its)

-- If it did, it does still.
abbrev pub KeepsLead : (old new : List Item) → Type 0
KeepsLead old new = (d : Database) (root : ℕ) → TopLeads d root (reverse old) → TopLeads d root (reverse new)

-- The level of the first leaf where it is known; and where it isn't, the next page leads to it.
abbrev pub IsLevelOf : Database → (root : ℕ) → (known : Option ℕ) → Type 0
IsLevelOf d root known = (on : ℕ) → known ≡ Some on → FirstLeaf d root 1 on

-- A page of a tree that is sound but for the level of its leaves, and the level of the first leaf before and after it.
pub record Judged (b : Page) (x : places.Node) (old new : Option ℕ) : Type 0 where
  pub page_is : IsBtreePage b
  pub same : is_table b.kind ≡ x.table
  pub laid_out : IsLaidOut b
  pub keys : KeysRise b x
  pub leaf : is_interior b.kind ≡ false → (new ≡ Some x.level) × ((old ≡ None) ⊎ (old ≡ Some x.level))
  pub interior : is_interior b.kind ≡ true → new ≡ old

-- The place of the next trunk, and those of a trunk's leaves from one on, by the trunk's bytes.
abbrev pub IsNextTrunk : List ℕ → (p : ℕ) → Spot → Type 0
IsNextTrunk b p t = (next_in b ≢ 0) × (t ≡ spot (next p) (next_in b) trunk)

abbrev pub IsLeafFrom : List ℕ → (p from : ℕ) → Spot → Type 0
IsLeafFrom b p from t = (i : ℕ) × (from ≤ i) × (i < leaf_count_in b) × (t ≡ spot (leaf p i) (leaf_in b i) free_leaf)

-- The page of an item was taken and counted.
abbrev pub Takes : (old new : Uses) → Item → Type 0
Takes old new it = Marks old.marks.items new.marks.items it.page × AddsItem old.counts new.counts it

-- It was, or nothing was.
abbrev pub TakesOrNot : (old new : Uses) → Item → Type 0
TakesOrNot old new it = Takes old new it ⊎ ((new.marks.items ≡ old.marks.items) × (new.counts ≡ old.counts))

-- An item was followed: its page is marked and as its role wants it, and the places in it are on the stack.
pub record Visits (d : Database) (tree : Tree) (it : Item) (marks new_marks : List Bool) (old new : List Item) : Type 0 where
  pub marked : Marks marks new_marks it.page
  pub sound : IsSoundAs d it.page (role_of tree it.task)
  pub pushes : Pushes tree (InPageAs d it.page (role_of tree it.task)) old new

-- the level of a tree's first leaf
abbrev pub IsFirstLevel : Database → (tree on : ℕ) → Type 0
IsFirstLevel d tree = FirstLeaf d tree 1

-- The same where that is the level of the tree's first leaf.
abbrev pub PageWrong : Database → (p : ℕ) → Role → Fault → Type 0
PageWrong d = PageWrongBy (IsFirstLevel d) d

-- a link that isn't followed: its number is 0, or it needs more pages than there are
abbrev pub IsCutLink : Database → Tree → Item → Fault → (at : ℕ) → Type 0
IsCutLink d tree it fault at = (fault ≡ faults.ChainCut) × (at ≡ it.holder) × (owner needed : ℕ) × (first : Bool) × (it.task ≡ Link owner needed first) × ((it.page ≡ 0) ⊎ (length d < needed))

abbrev pub LinksOn : Task → (p : ℕ) → Type 0
LinksOn (Link owner needed first) p = p ≢ 0
LinksOn _ p = Unit {0}

-- Why an item isn't followed: its page can't be taken, is wrong, or the chain is cut; or memory ran out.
abbrev pub FollowRefusedBy : (IsLevel : (tree on : ℕ) → Type 0) → Database → Tree → Item → (marks : List Bool) → Fault → (at : ℕ) → Type 0
FollowRefusedBy IsLevel d tree it marks fault at =
    (LinksOn it.task it.page × MarkRefused marks it.holder it.page fault at)
    ⊎ ((at ≡ it.page) × IsPage d it.page × PageWrongBy IsLevel d it.page (role_of tree it.task) fault)
    ⊎ IsCutLink d tree it fault at
    ⊎ (fault ≡ faults.NoMemory)

abbrev pub FollowRefused : Database → Tree → Item → (marks : List Bool) → Fault → (at : ℕ) → Type 0
FollowRefused d = FollowRefusedBy (IsFirstLevel d) d

-- this is the level that was put down
abbrev pub IsPutDown : (level : Option ℕ) → (tree on : ℕ) → Type 0
IsPutDown level tree on = level ≡ Some on

-- the same of a fault, where the level of leaves is the one that was put down
abbrev pub IsRefusal : Database → Tree → Item → Uses → Walk → CheckError → Type 0
IsRefusal d tree it uses walk e = FollowRefusedBy (IsPutDown walk.leaf_level) d tree it uses.marks.items e.fault e.page

-- it is so, unless a page couldn't be read
abbrev pub IsRefused : Database → Tree → Item → Uses → Walk → CheckError → Type 0
IsRefused d tree it uses walk e = e.fault ≢ faults.Source → IsRefusal d tree it uses walk e

-- The level of a tree's leaves is what it was, or that of page p, which is one of them.
abbrev pub LevelAt : Database → (p level : ℕ) → (old new : Option ℕ) → Type 0
LevelAt d p level old new = (new ≡ old) ⊎ ((kind : Kind) × HasKind d kind p × (is_interior kind ≡ false) × (new ≡ Some level))

-- the same of the page of an item
abbrev pub LevelAfter : Database → Item → (old new : Option ℕ) → Type 0
LevelAfter d it old new = (new ≡ old) ⊎ ((level : ℕ) × (low : Option ℤ) × (high : Option ℤ) × (it.task ≡ Node level low high) × LevelAt d it.page level old new)

-- page p is named as a leaf of the schema's tree, and is one
abbrev pub IsSchemaLeaf : Database → (p : ℕ) → Role → Type 0
IsSchemaLeaf d p (node x) = (x.schema ≡ true) × (kind : Kind) × HasKind d kind p × (is_interior kind ≡ false)
IsSchemaLeaf d p _ = ⊥

-- The leaves of the schema's tree are put aside.
abbrev pub PutsAside : Database → (p : ℕ) → Role → (old new : List ℕ) → Type 0
PutsAside d p role old new = (IsSchemaLeaf d p role × (new ≡ old ++ p ∷ [])) ⊎ ((¬ IsSchemaLeaf d p role) × (new ≡ old))

-- An item was followed, whatever is known of the level of leaves: its page is as its role wants it but for that, what
-- stands in it is on the stack, and its rows are put aside.
pub record Passes (d : Database) (tree : Tree) (it : Item) (old new : Walk) : Type 0 where
  pub sound : IsSoundWith (IsSoundPage d) d it.page (role_of tree it.task)
  pub pushes : Pushes tree (InPageAs d it.page (role_of tree it.task)) old.stack.items new.stack.items
  pub aside : PutsAside d it.page (role_of tree it.task) old.rows.items new.rows.items

-- What is known of the level of a tree's first leaf: it, or that the next page on the stack leads to it.
pub record Knows (d : Database) (root : ℕ) (known : Option ℕ) (stack : List Item) : Type 0 where
  pub level : IsLevelOf d root known
  pub leads : known ≡ None → TopLeads d root stack

-- the same where this item comes next
abbrev pub KnowsNext : Database → Tree → Item → Walk → Type 0
KnowsNext d tree it walk = Knows d tree.root walk.leaf_level (it ∷ reverse walk.stack.items)

-- A page of a tree was entered: it is sound, what stands in it is on the stack, and its rows are put aside.
pub record Enters (d : Database) (tree : Tree) (p : ℕ) (x : places.Node) (old new : Walk) : Type 0 where
  pub sound : IsSoundNode d p x
  pub pushes : Pushes tree (InNode d p x) old.stack.items new.stack.items
  pub aside : PutsAside d p (node x) old.rows.items new.rows.items
  pub knows : Knows d tree.root new.leaf_level (reverse new.stack.items)

-- a page of a tree was entered, whatever is known of the level of leaves
pub record Opens (d : Database) (tree : Tree) (p : ℕ) (x : places.Node) (old new : Walk) : Type 0 where
  pub sound : IsSoundPage d p x
  pub pushes : Pushes tree (InNode d p x) old.stack.items new.stack.items
  pub aside : PutsAside d p (node x) old.rows.items new.rows.items

-- what is known of the first leaf, where page p on a level comes next
pub record KnowsAt (d : Database) (root : ℕ) (known : Option ℕ) (p level : ℕ) : Type 0 where
  pub level_of : IsLevelOf d root known
  pub leads : known ≡ None → (on : ℕ) → FirstLeaf d p level on → FirstLeaf d root 1 on

-- the same is on the stack and put aside
pub record KeepsWalk (old new : Walk) : Type 0 where
  pub stack : new.stack.items ≡ old.stack.items
  pub rows : new.rows.items ≡ old.rows.items

-- An item was followed, with all that the walk keeps.
pub record Follows (d : Database) (tree : Tree) (it : Item) (uses new_uses : Uses) (old new : Walk) : Type 0 where
  pub visits : Visits d tree it uses.marks.items new_uses.marks.items old.stack.items new.stack.items
  pub counted : AddsItem uses.counts new_uses.counts it
  pub aside : PutsAside d it.page (role_of tree it.task) old.rows.items new.rows.items
  pub knows : Knows d tree.root new.leaf_level (reverse new.stack.items)

-- the bytes of page `map` from `at` on are those of the entry that an item's page is to have
abbrev pub EntrySays : Database → EntryPlace → Item → Type 0
EntrySays d entry it = (byte (page d entry.map) entry.at ≡ kind_code (kind_of it.task)) × (word (page d entry.map) (entry.at + 1) ≡ parent_by (kind_of it.task) it.holder)

-- entry `entry` is that of an item's page
abbrev pub IsEntryOf : Database → Item → EntryPlace → Type 0
IsEntryOf d it entry = IsEntryPlace (length (page d 1)) (usable_size d) it.page entry

-- With auto-vacuum the entry of an item's page says what names it.
abbrev pub IsMapped : Database → Item → Type 0
IsMapped d it = IsAutoVacuum d → (entry : EntryPlace) → IsEntryOf d it entry → EntrySays d entry it

-- It doesn't.
abbrev pub EntryRefused : Database → Item → Fault → (at : ℕ) → Type 0
EntryRefused d it fault at = (fault ≡ faults.PointerMap) × IsAutoVacuum d × (entry : EntryPlace) × IsEntryOf d it entry × (entry.map ≡ at) × ¬ EntrySays d entry it
