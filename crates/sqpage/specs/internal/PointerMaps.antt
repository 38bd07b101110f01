-- The lock-byte page and the pointer maps of a database of auto-vacuum (fileformat2, 1.4 and 1.8).
use Rattle.std.specs.Prelude.{◌≡◌, ℕ, ◌+◌, ◌<◌, ◌≤◌}
use Rattle.sqpage.specs.PointerMaps.{group_start, group_map}

-- page p stands in a group that has this map
pub record IsNear (size usable p map : ℕ) : Type 0 where
  pub group : ℕ
  pub low : group_start usable group ≤ p
  pub high : p < group_start usable (group + 1)
  pub map_is : map ≡ group_map size usable group
