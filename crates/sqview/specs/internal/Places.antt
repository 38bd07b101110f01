-- Places in a list for the first pages, and in a map for others (own).
use Rattle.std.specs.Prelude.{◌≡◌, ℕ, ◌+◌, ◌-◌, ◌≤◌, ◌==◌, cond, List, map, length, get_or, unwrap_or}
use Rattle.std.specs.List.{range_with_len}
use Rattle.std.specs.Ordering.{nat_cmp}
use Rattle.std.specs.BTreeMap.{BTreeMap, get, btree_map_len}
use Rattle.sqview.specs.Laid.{place_of}

-- by page, from 1: where its bytes begin in the log, 0 where the file's are current; and how many numbers are kept for that
pub record PlaceTable : Type 0 where
  pub items : List ℕ
  pub kept : ℕ

-- the place of page p: the list's, otherwise the map's, otherwise 0
abbrev pub place_in : (low : List ℕ) (high : BTreeMap ℕ ℕ) (p : ℕ) → ℕ
place_in low high p = get_or low (p - 1) (unwrap_or (get nat_cmp high p) 0)

-- the table of so many pages
abbrev pub table_of : (count : ℕ) (low : List ℕ) (high : BTreeMap ℕ ℕ) → PlaceTable
table_of count low high = record { items = map (place_in low high) (range_with_len 1 count); kept = length low + btree_map_len high }

-- the page's number and place are put down, where it is a page up to the count
abbrev pub Noted : (page at : ℕ) → (old new : List ℕ) → Type 0
Noted page at old new = (length new ≡ length old)
    × ((p : ℕ) → 1 ≤ p → p ≤ length old → place_of new p ≡ cond (page == p) at (place_of old p))
