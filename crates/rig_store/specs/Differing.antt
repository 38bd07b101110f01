-- In what the names show other things in an image than they do now (own).
use Rattle.std.specs.Prelude.{◌≡◌, ◌≢◌, ◌⊎◌, ◌↔◌, ℕ, ◌+◌, ◌*◌, ◌<◌, ◌≤◌, List, [], ◌∷◌, length, map, take, drop, get_or, Option, Some, None, option_map}
use Rattle.std.specs.List.{All, Contains}
use Rattle.rig_store.specs.declared.differing.Difference.{Difference}

-- the bytes of sector k, as far as there are any
abbrev pub sector_bytes : (sector k : ℕ) → List ℕ → List ℕ
sector_bytes sector k bytes = take sector (drop (k * sector) bytes)

-- sector k is in one of these ranges, each from its first to its last sector
abbrev pub InRanges : List (ℕ × ℕ) → (k : ℕ) → Type 0
InRanges [] k = ⊥
InRanges (r ∷ ranges) k = ((r.0 ≤ k) × (k ≤ r.1)) ⊎ InRanges ranges k

-- a file is shown and one is there now, and these differ in sector k
abbrev pub DifferIn : (sector : ℕ) → (shown now : Option (List ℕ)) → (k : ℕ) → Type 0
DifferIn sector (Some shown) (Some now) k = sector_bytes sector k shown ≢ sector_bytes sector k now
DifferIn sector _ _ k = ⊥

-- how long the file is that a name shows and the one that it has now, if there are such, and in which sectors these differ
pub record IsDifference (sector : ℕ) (shown now : Option (List ℕ)) (d : Difference) : Type 0 where
  pub shown_length : d.shown ≡ option_map (λ bytes. length bytes) shown
  pub now_length : d.now ≡ option_map (λ bytes. length bytes) now
  pub sectors : (k : ℕ) → InRanges d.sectors.items k ↔ DifferIn sector shown now k

-- the same of the name that it speaks of
abbrev pub IsDifferenceIn : (sector : ℕ) (image now : List (Option (List ℕ))) → Difference → Type 0
IsDifferenceIn sector image now d = IsDifference sector (get_or image d.name None) (get_or now d.name None) d

-- numbers from a least one on, each greater than the one before it
abbrev pub Rise : (least : ℕ) → List ℕ → Type 0
Rise least [] = Unit {0}
Rise least (n ∷ numbers) = (least ≤ n) × Rise (n + 1) numbers

-- Of so many names exactly those are told that show other bytes in an image than now, or a file where there is none, or none
-- where there is one; each once, in their order.
pub record AreDifferences (sector names : ℕ) (image now : List (Option (List ℕ))) (found : List Difference) : Type 0 where
  pub each : All (IsDifferenceIn sector image now) found
  pub told : (k : ℕ) → Contains (map (λ d. d.name) found) k ↔ ((k < names) × (get_or image k None ≢ get_or now k None))
  pub ordered : Rise 0 (map (λ d. d.name) found)
