-- A file as the modelled disk keeps it (own).
use Rattle.std.specs.Prelude.{◌≡◌, ◌⊎◌, ℕ, ◌+◌, ◌-◌, ◌*◌, ◌<◌, ◌≤◌, max, cond, nat_lt, nat_le, ◌&&◌, List, [], ◌∷◌, ◌++◌, length, get_or, take, drop}
use Rattle.crashdisk.specs.State.{FileState, Meets, Stale, longest}
use Rattle.crashdisk.specs.Solid.{IsSolid}
use Rattle.crashdisk.specs.declared.held.Held.{Held}
use Rattle.crashdisk.specs.declared.held.Change.{Change}
use Rattle.crashdisk.specs.Held.{last_of, before_last, is_odd, file_of, IsHeld}

-- a sector has a value, and its last one has the bytes of a sector
abbrev pub EndsWhole : (sector : ℕ) → List (List ℕ) → Type 0
EndsWhole sector values = (0 < length values) × (length (last_of values) ≡ sector)

-- A call that changes a file touches the sectors of a range, and those below its end that hold something past the present end.
abbrev pub Touches : (sector : ℕ) → FileState → (from to end k : ℕ) → Type 0
Touches sector s from to end k = Meets sector from to k ⊎ Stale sector s end k

-- What it puts at a place: its bytes, or those that were there below a place, or zeros.
abbrev pub put_byte : (from keep : ℕ) (bytes : List ℕ) (i was : ℕ) → ℕ
put_byte from keep bytes i was = cond (nat_le from i && nat_lt i (from + length bytes)) (get_or bytes (i - from) 0) (cond (nat_lt i keep) was 0)

-- of a list of sectors each is changed so, and the others are left
pub record EachOf (list : List ℕ) (R : ℕ → List (List ℕ) → List (List ℕ) → Type 0) (old new : List (List (List ℕ))) : Type 0 where
  pub count : length new ≡ length old
  pub left : (k : ℕ) → ((i : ℕ) → i < length list → get_or list i 0 ≡ k → ⊥) → get_or new k [] ≡ get_or old k []
  pub each : (i : ℕ) → i < length list → R i (get_or old (get_or list i 0) []) (get_or new (get_or list i 0) [])

-- numbers that rise, all below a bound
pub record AreRising (bound : ℕ) (list : List ℕ) : Type 0 where
  pub rising : (i j : ℕ) → i < j → j < length list → get_or list i 0 < get_or list j 0
  pub below : (i : ℕ) → i < length list → get_or list i 0 < bound

-- the value that a call gives sector k, where this was present
pub record IsPut (sector from keep : ℕ) (bytes : List ℕ) (k : ℕ) (was value : List ℕ) : Type 0 where
  pub long : length value ≡ sector
  pub each : (j : ℕ) → j < sector → get_or value j 0 ≡ put_byte from keep bytes (k * sector + j) (get_or was j 0)

-- it is the present one now
abbrev pub Gets : (sector from keep : ℕ) (bytes list : List ℕ) (i : ℕ) → List (List ℕ) → List (List ℕ) → Type 0
Gets sector from keep bytes list i old new = (value : List ℕ) × (new ≡ old ++ value ∷ []) × IsPut sector from keep bytes (get_or list i 0) (last_of old) value

-- without the last value
abbrev pub Loses : (i : ℕ) → List (List ℕ) → List (List ℕ) → Type 0
Loses i old new = new ≡ before_last old

-- the last value and the one before it change places, but where the new one is taken
abbrev pub swapped : List (List ℕ) → List (List ℕ)
swapped values = take (length values - 2) values ++ drop (length values - 2 + 1) values ++ get_or values (length values - 2) [] ∷ []

-- touched sector number i of a failed call: the new value stays the present one where entry i of the pick is odd
abbrev pub Takes : (pick : List ℕ) (i : ℕ) → List (List ℕ) → List (List ℕ) → Type 0
Takes pick i old new = new ≡ cond (is_odd (get_or pick i 0)) old (swapped old)

-- what holds of each file of a modelled disk
pub record Stands (sector : ℕ) (file : Held) : Type 0 where
  pub held : IsHeld sector file
  pub solid : IsSolid sector (file_of sector file)

-- a change that may be asked of a file of this length: it touches no place behind both ends, and each lies within the limit
pub record Suits (change : Change) (old : ℕ) : Type 0 where
  pub fits : change.to ≤ max change.end old
  pub to : change.to ≤ longest
  pub end : change.end ≤ longest
  pub reach : change.from + length change.bytes.now ≤ longest
  pub old_end : old ≤ longest

-- of some values the last alone, with zeros from a place on
pub record IsCutTo (end : ℕ) (old new : List (List ℕ)) : Type 0 where
  pub one : length new ≡ 1
  pub long : length (get_or new 0 []) ≡ length (last_of old)
  pub each : (j : ℕ) → get_or (get_or new 0 []) j 0 ≡ cond (nat_lt j end) (get_or (last_of old) j 0) 0

-- of some values each, with zeros from a place on
pub record IsEndedTo (end : ℕ) (old new : List (List ℕ)) : Type 0 where
  pub count : length new ≡ length old
  pub long : (n : ℕ) → n < length old → length (get_or new n []) ≡ length (get_or old n [])
  pub each : (n j : ℕ) → n < length old → get_or (get_or new n []) j 0 ≡ cond (nat_lt j end) (get_or (get_or old n []) j 0) 0

-- of some values, the one of this number is moved to the end
abbrev pub turned : ℕ → List (List ℕ) → List (List ℕ)
turned n values = take n values ++ drop (n + 1) values ++ get_or values n [] ∷ []
