-- Room for what is read and marked of a page (own). No public contract cites these words.
use Rattle.std.specs.Prelude.{ℕ, ◌+◌, ◌*◌, ◌≤◌, length}
use Rattle.sqcheck.specs.declared.node.Room.{Room}

-- There is room for the parts of each cell of a page with so many usable bytes, and for a mark on each byte.
pub record HoldsPage (usable : ℕ) (room : Room) : Type 0 where
  pub parts : usable ≤ 2 * length room.parts.items
  pub map : usable + 4 ≤ 64 * length room.map.items
