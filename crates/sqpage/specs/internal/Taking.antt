-- Words of the helper functions that mark pages as taken or follow a chain (own). No public contract cites them.
use Rattle.std.specs.Prelude.{◌≡◌, ◌≢◌, ℕ, ◌-◌, ◌<◌, ◌≤◌, ◌⊎◌, List, [], ◌∷◌, ◌++◌, length, Bool, true, false, get_or, set, count_by, not}
use Rattle.sqval.specs.Database.{Database, page}
use Rattle.sqpage.specs.declared.fault.Fault.{Fault}
use Rattle.sqpage.specs.declared.fault.Fault.TheVariants as faults
use Rattle.sqpage.specs.Lists.{In, Every, Apart, each_from}
use Rattle.sqpage.specs.declared.cell.Cell.{Cell}
use Rattle.sqpage.specs.Freelist.{IsWithin, IsPage, Leads, most_leaves, leaf_count_in, leaf_in}
use Rattle.sqpage.specs.Chain.{links, contents, Follows}

-- whether page p is marked
abbrev pub is_marked : List Bool → (p : ℕ) → Bool
is_marked marks p = get_or marks (p - 1) false

-- Page p was not marked and is marked now.
pub record Marks (old new : List Bool) (p : ℕ) : Type 0 where
  pub above : 0 < p
  pub within : p ≤ length old
  pub was : is_marked old p ≡ false
  pub now_marked : new ≡ set old (p - 1) true

-- Page p, which page `holder` names, is not marked: it is no page, or was marked before.
abbrev pub MarkRefused : List Bool → (holder p : ℕ) → Fault → (at : ℕ) → Type 0
MarkRefused marks holder p faults.PageOutside at = (at ≡ holder) × ¬ ((0 < p) × (p ≤ length marks))
MarkRefused marks holder p faults.PageTwice at = (at ≡ p) × (0 < p) × (p ≤ length marks) × (is_marked marks p ≡ true)
MarkRefused marks holder p _ at = ⊥

-- The marks are those of these pages, which are within the count and none twice.
pub record AreTaken (marks : List Bool) (pages : List ℕ) : Type 0 where
  pub only : (p : ℕ) → IsWithin (length marks) p → is_marked marks p ≡ true → In p pages
  pub all : (p : ℕ) → In p pages → is_marked marks p ≡ true
  pub within : Every (IsWithin (length marks)) pages
  pub distinct : Apart pages

-- These pages were taken, in this order.
pub record TakesAll (old : List Bool) (before : List ℕ) (new : List Bool) (after : List ℕ) (pages : List ℕ) : Type 0 where
  pub added : after ≡ before ++ pages
  pub taken : AreTaken new after
  pub same_count : length new ≡ length old
  pub fewer_left : count_by not new ≤ count_by not old

-- Page p can't be taken: there is no such page, it is taken, or memory ran out.
abbrev pub TakeRefused : (n : ℕ) (taken : List ℕ) (holder p : ℕ) → Fault → (at : ℕ) → Type 0
TakeRefused n taken holder p faults.PageTwice at = (at ≡ p) × IsWithin n p × In p taken
TakeRefused n taken holder p faults.PageOutside at = (at ≡ holder) × ¬ IsWithin n p
TakeRefused n taken holder p faults.NoMemory at = Unit {0}
TakeRefused n taken holder p _ at = ⊥

-- A leaf of this trunk can't be taken; those before it were.
pub record LeafRefused (n : ℕ) (taken : List ℕ) (trunk : ℕ) (b : List ℕ) (fault : Fault) (at : ℕ) : Type 0 where
  pub index : ℕ
  pub below : index < leaf_count_in b
  pub within : Every (IsWithin n) (taken ++ each_from 0 index (leaf_in b))
  pub distinct : Apart (taken ++ each_from 0 index (leaf_in b))
  pub refused : TakeRefused n (taken ++ each_from 0 index (leaf_in b)) trunk (leaf_in b index) fault at

-- The trunk can't be taken, names too many leaves, or one of its leaves can't be taken.
abbrev pub TrunkRefused : Database → (taken : List ℕ) (holder trunk : ℕ) → Fault → (at : ℕ) → Type 0
TrunkRefused d taken holder trunk fault at =
    TakeRefused (length d) taken holder trunk fault at
    ⊎ ((fault ≡ faults.FreeCount) × (at ≡ trunk) × IsPage d trunk × ¬ In trunk taken × (most_leaves d < leaf_count_in (page d trunk)))
    ⊎ (IsPage d trunk × (leaf_count_in (page d trunk) ≤ most_leaves d) × LeafRefused (length d) (taken ++ trunk ∷ []) trunk (page d trunk) fault at)

-- The number p, which page `holder` names, is no page, or memory ran out.
abbrev pub LinkRefused : Database → (holder p : ℕ) → Fault → (at : ℕ) → Type 0
LinkRefused d holder p faults.PageOutside at = (at ≡ holder) × ¬ IsPage d p
LinkRefused d holder p faults.NoMemory at = Unit {0}
LinkRefused d holder p _ at = ⊥

-- The contents of a cell's whole chain were appended.
pub record AppendsChain (d : Database) (cell : Cell) (old new : List ℕ) : Type 0 where
  pub pages : List ℕ
  pub last : ℕ
  pub enough : length pages ≡ links cell
  pub follows : Follows d cell pages last 0
  pub appended : new ≡ old ++ contents d cell.usable pages

-- The pages of a cell's chain lead to a number that isn't 0, where they are as many as the cell needs or it is one of them.
pub record GoesOn (d : Database) (cell : Cell) : Type 0 where
  pub pages : List ℕ
  pub last : ℕ
  pub p : ℕ
  pub linked : Leads d cell.page cell.overflow pages last p
  pub nonzero : p ≢ 0
  pub too_far : (length pages ≡ links cell) ⊎ In p pages

-- Behind fewer pages of a cell's chain than it needs, the next one can't be taken.
pub record ChainStops (d : Database) (cell : Cell) (fault : Fault) (at : ℕ) : Type 0 where
  pub pages : List ℕ
  pub holder : ℕ
  pub p : ℕ
  pub follows : Follows d cell pages holder p
  pub few : length pages < links cell
  pub refused : TakeRefused (length d) pages holder p fault at
