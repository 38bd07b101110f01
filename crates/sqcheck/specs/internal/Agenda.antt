-- A walk with an agenda (own). No public contract cites these words.
use Rattle.std.specs.Prelude.{◌≡◌, ℕ, ◌+◌, ◌≤◌, ◌⊎◌, List, ◌++◌, length, map, reverse, Bool, true, false, not, count_by}
use Rattle.sqval.specs.Database.{Database, page}
use Rattle.sqpage.specs.Lists.{In, Every, Apart}
use Rattle.sqpage.specs.Freelist.{IsWithin}
use Rattle.sqpage.specs.internal.Taking.{is_marked}
use Rattle.sqpage.specs.declared.fault.Fault.{Fault}
use Rattle.sqpage.specs.Source.{UnlessUnread}
use Rattle.sqcheck.specs.declared.node.Walk.{Walk}
use Rattle.sqcheck.specs.declared.uses.Counts.{Counts}
use Rattle.sqcheck.specs.declared.uses.Uses.{Uses}
use Rattle.sqcheck.specs.declared.tree.Tree.{Tree}
use Rattle.sqcheck.specs.Places.{Place, first_trunk_place, first_root, next, leaf, overflow, child, root, holder, Role, link, node, Spot, StandsIn, StandsInRow, IsFirst}
use Rattle.sqcheck.specs.declared.role.Role as roles
use Rattle.sqcheck.specs.internal.Roles.{TellsOf}
use Rattle.sqcheck.specs.WellFormed.{IsReached, IsAutoVacuum, IsSetAside, HasEntry, IsSound, HasSoundRows, numbers, is_root, is_node, is_link, is_free}
use Rattle.sqcheck.specs.Stands.{StandsBy}
use Rattle.sqcheck.specs.internal.Walking.{Match, Knows, IsSchemaLeaf}

-- the page that a place stands in, 0 for the two first ones
abbrev pub home : Place → ℕ
home first_trunk_place = 0
home first_root = 0
home (next p) = p
home (leaf p i) = p
home (overflow p i) = p
home (child p i) = p
home (root p i) = p

abbrev pub places : List Spot → List Place
places = map (λ s. s.place)

-- the place is none of these
abbrev pub Off : Place → List Spot → Type 0
Off q ss = Every (λ s. s.place ≡ q → ⊥) ss

-- it stands in no page, or in one that was taken
abbrev pub IsHome : List Bool → Place → Type 0
IsHome marks q = (home q ≡ 0) ⊎ (IsWithin (length marks) (home q) × (is_marked marks (home q) ≡ true))

-- it stands in no row of the schema
abbrev pub NotRoot : Place → Type 0
NotRoot (root p i) = ⊥
NotRoot _ = Unit {0}

-- the page isn't one of the schema's tree
abbrev pub NotSchema : Role → Type 0
NotSchema (node x) = x.schema ≡ false
NotSchema _ = Unit {0}

-- a link that no cell names needs no more pages than there are
abbrev pub LinkFits : Database → Spot → Type 0
LinkFits d s = (owner needed : ℕ) → s.role ≡ link owner needed → ((i : ℕ) × (s.place ≡ overflow (holder s.place) i)) ⊎ (needed ≤ length d)

-- page p is set aside, where pages are as long as the first one
abbrev pub IsAside : Database → (p : ℕ) → Type 0
IsAside d p = IsSetAside d (length (page d 1)) p

-- a fault that isn't one of the header stands, where pages are so long, and pointer maps are asked for if there are any
abbrev pub StandsAsked : Database → Fault → (at : ℕ) → Type 0
StandsAsked d fault at = (maps : Bool) (size : ℕ) → length (page d 1) ≡ size → (IsAutoVacuum d → maps ≡ true) → StandsBy (IsReached d) (IsSound d) maps d size fault at

-- the same, unless a page couldn't be read
abbrev pub StandsNow : (given : Type 0) → Database → Fault → (at : ℕ) → Type 0
StandsNow given d fault at = UnlessUnread given fault (StandsAsked d fault at)

-- Marked are the pages that are set aside.
abbrev pub MarksAside : Database → (marks : List Bool) → Type 0
MarksAside d marks = (p : ℕ) → IsWithin (length marks) p → (is_marked marks p ≡ true → IsAside d p) × (IsAside d p → is_marked marks p ≡ true)

-- Marked are these pages, none twice, and those set aside, which are none of them.
pub record AreMarked (Aside : ℕ → Type 0) (marks : List Bool) (pages : List ℕ) : Type 0 where
  pub only : (p : ℕ) → IsWithin (length marks) p → is_marked marks p ≡ true → In p pages ⊎ Aside p
  pub all : (p : ℕ) → In p pages → is_marked marks p ≡ true
  pub aside : (p : ℕ) → IsWithin (length marks) p → Aside p → is_marked marks p ≡ true
  pub within : Every (λ p. IsWithin (length marks) p × ¬ Aside p) pages
  pub distinct : Apart pages

-- The pages of the visited places are taken, and the pending ones are still to be followed: places that count, of which
-- none is visited or pending twice.
pub record Tour (d : Database) (Counts : Spot → Type 0) (Aside : ℕ → Type 0) (marks : List Bool) (visited pending : List Spot) : Type 0 where
  pub sized : length marks ≡ length d
  pub taken : AreMarked Aside marks (numbers visited)
  pub reached : Every Counts visited
  pub waiting : Every Counts pending
  pub apart : Apart (places pending)
  pub off : Every (λ v. Off v.place pending) visited
  pub homes : Every (λ v. IsHome marks v.place) visited
  pub waiting_homes : Every (λ s. IsHome marks s.place) pending
  pub fits : Every (LinkFits d) pending

-- The pages of the visited places are taken, in their order, and the pending ones are still to be followed. All that
-- stands in a page of a visited one is visited or pending; in `late` that is so of the roots in its rows too, and these
-- are sound.
pub record Agenda (d : Database) (late : Bool) (marks : List Bool) (visited pending : List Spot) : Type 0 where
  pub tour : Tour d (IsReached d) (IsAside d) marks visited pending
  pub room : length visited + count_by not marks ≤ length d
  pub sound : Every (IsSound d) visited
  pub starts : (s : Spot) → IsFirst d s → In s visited ⊎ In s pending
  pub closed : (s t : Spot) → In s visited → StandsIn d s t → In t visited ⊎ In t pending
  pub early : late ≡ false → Every (λ v. NotRoot v.place) visited × Every (λ s. NotRoot s.place) pending
  pub rooted : late ≡ true → (s t : Spot) → In s visited → StandsInRow d s t → In t visited ⊎ In t pending
  pub plain : late ≡ true → Every (λ s. NotSchema s.role) pending
  pub read : late ≡ true → Every (λ v. HasSoundRows d v.page v.role) visited

-- These places, and no others, stand in the page that s names.
pub record Stems (d : Database) (s : Spot) (under : List Spot) : Type 0 where
  pub only : Every (StandsIn d s) under
  pub all : (t : Spot) → StandsIn d s t → In t under
  pub distinct : Apart (places under)

-- The pages that were put aside are the leaves of the schema's tree among the visited ones.
pub record RowsAre (d : Database) (visited : List Spot) (rows : List ℕ) : Type 0 where
  pub all : (s : Spot) → In s visited → IsSchemaLeaf d s.page s.role → In s.page rows
  pub only : Every (λ p. (s : Spot) × In s visited × (s.page ≡ p) × IsSchemaLeaf d p s.role) rows
  pub distinct : Apart rows

-- how many visited places there are of each use, and which root of them is the largest
pub record AreCounted (visited : List Spot) (counts : Counts) : Type 0 where
  pub trees : counts.trees ≡ count_by (λ s. is_root s.role) visited
  pub btree : counts.btree ≡ count_by (λ s. is_node s.role) visited
  pub overflow : counts.overflow ≡ count_by (λ s. is_link s.role) visited
  pub free : counts.free ≡ count_by (λ s. is_free s.role) visited
  pub most : (s : Spot) → In s visited → is_root s.role ≡ true → s.page ≤ counts.largest_root
  pub one : (counts.largest_root ≡ 0) ⊎ ((s : Spot) × In s visited × (is_root s.role ≡ true) × (s.page ≡ counts.largest_root))

-- With auto-vacuum the entries of the pages of visited places say what names them.
abbrev pub AreEntered : Database → (visited : List Spot) → Type 0
AreEntered d visited = IsAutoVacuum d → Every (HasEntry d (length (page d 1))) visited

-- The walk stands so: these places were visited, those on the stack are pending, and then the rest.
pub record Walking (d : Database) (late : Bool) (tree : Tree) (visited rest : List Spot) (uses : Uses) (walk : Walk) : Type 0 where
  pub pending : List Spot
  pub match : Match tree (reverse walk.stack.items) pending
  pub agenda : Agenda d late uses.marks.items visited (pending ++ rest)
  pub knows : Knows d tree.root walk.leaf_level (reverse walk.stack.items)
  pub rows : RowsAre d visited walk.rows.items
  pub counted : AreCounted visited uses.counts
  pub entered : AreEntered d visited

-- It stands so with more places visited, and the visitor was told of them.
abbrev pub WalksOn : {A : Type 0} (saw : A → ℕ → roles.Role → A → Type 0) → Database → (late : Bool) → Tree → (visited rest : List Spot) → Uses → Walk → (old new : A) → Type 0
WalksOn saw d late tree visited rest uses walk old new = (more : List Spot) × Walking d late tree (visited ++ more) rest uses walk × TellsOf saw d old more new

-- Nothing is on the stack, and these places were visited.
pub record Stood (d : Database) (late : Bool) (visited rest : List Spot) (marks : List Bool) (put_aside : List ℕ) (counts : Counts) : Type 0 where
  pub agenda : Agenda d late marks visited rest
  pub rows : RowsAre d visited put_aside
  pub counted : AreCounted visited counts
  pub entered : AreEntered d visited
