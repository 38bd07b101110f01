-- Counting the pages of each use (own). No public contract cites these words.
use Rattle.std.specs.Prelude.{◌≡◌, ℕ, ◌+◌, ◌≤◌, ◌⊎◌, ◌==◌, if◌then◌else◌}
use Rattle.sqcheck.specs.declared.item.Item.{Item}
use Rattle.sqcheck.specs.declared.item.Task.{Task}
use Rattle.sqcheck.specs.declared.item.Task.TheVariants.{Trunk, Leaf, Link, Node}
use Rattle.sqcheck.specs.declared.uses.Counts.{Counts}

-- how much a page that is named so adds to each count
abbrev pub in_btree : Task → ℕ
in_btree (Node level low high) = 1
in_btree _ = 0

abbrev pub in_overflow : Task → ℕ
in_overflow (Link owner needed first) = 1
in_overflow _ = 0

abbrev pub in_freelist : Task → ℕ
in_freelist Trunk = 1
in_freelist Leaf = 1
in_freelist _ = 0

-- a page on the first level is a tree's root
abbrev pub in_trees : Task → ℕ
in_trees (Node level low high) = if level == 1 then 1 else 0
in_trees _ = 0

-- the page itself where it is a root, and 0
abbrev pub root_in : Task → (p : ℕ) → ℕ
root_in (Node level low high) p = if level == 1 then p else 0
root_in _ p = 0

-- the page of an item was counted
pub record AddsItem (old new : Counts) (it : Item) : Type 0 where
  pub trees : new.trees ≡ old.trees + in_trees it.task
  pub btree : new.btree ≡ old.btree + in_btree it.task
  pub overflow : new.overflow ≡ old.overflow + in_overflow it.task
  pub free : new.free ≡ old.free + in_freelist it.task
  pub kept : old.largest_root ≤ new.largest_root
  pub above : root_in it.task it.page ≤ new.largest_root
  pub one : (new.largest_root ≡ old.largest_root) ⊎ (new.largest_root ≡ root_in it.task it.page)
