-- A file as the modelled disk keeps it (own).
use Rattle.std.specs.Prelude.{◌≡◌, ◌⊎◌, ℕ, ◌+◌, ◌-◌, ◌*◌, ◌/◌, ◌%◌, ◌^◌, ◌<◌, ◌≤◌, Bool, true, false, cond, nat_lt, List, [], ◌∷◌, ◌++◌, length, get_or, take, drop, nat_eq, map}
use Rattle.crashdisk.specs.State.{Value, Same, FileState, Added, longest}
use Rattle.crashdisk.specs.declared.held.Held.{Held}

-- the bytes of a sector, as a value
abbrev pub value_of : (sector : ℕ) → List ℕ → Value
value_of sector bytes i = get_or bytes (i % sector) 0

-- of the values of a sector, the present one, and those before it
abbrev pub last_of : List (List ℕ) → List ℕ
last_of values = get_or values (length values - 1) []

abbrev pub before_last : List (List ℕ) → List (List ℕ)
before_last values = take (length values - 1) values

-- what a file lists whose sectors have these values
abbrev pub file_by : (sector : ℕ) (sectors : List (List (List ℕ))) (len least greatest : ℕ) → FileState
file_by sector sectors len least greatest = record {
  earlier = λ k. map (value_of sector) (before_last (get_or sectors k []));
  present = λ i. value_of sector (last_of (get_or sectors (i / sector) [])) i;
  len = len;
  least = least;
  greatest = greatest;
}

-- each sector has a value, and each value has the bytes of a sector
pub record AreWhole (sector : ℕ) (sectors : List (List (List ℕ))) : Type 0 where
  pub some : (k : ℕ) → k < length sectors → 0 < length (get_or sectors k [])
  pub long : (k n : ℕ) → k < length sectors → n < length (get_or sectors k []) → length (get_or (get_or sectors k []) n []) ≡ sector

-- a list of the touched sectors, rising
pub record IsListOf (touches : ℕ → Type 0) (list : List ℕ) : Type 0 where
  pub rising : (i j : ℕ) → i < j → j < length list → get_or list i 0 < get_or list j 0
  pub touched : (i : ℕ) → i < length list → touches (get_or list i 0)
  pub all : (k : ℕ) → touches k → (i : ℕ) × (i < length list) × (get_or list i 0 ≡ k)

-- what a failed call takes of the touched sectors
abbrev pub is_odd : ℕ → Bool
is_odd n = nat_eq (n % 2) 1

-- what a modelled file lists
abbrev pub file_of : ℕ → Held → FileState
file_of sector held = file_by sector held.sectors.items held.len held.least held.greatest

-- its sectors are of a size that a sector may have and whole, and not many more than a file has at most
pub record IsHeld (sector : ℕ) (held : Held) : Type 0 where
  pub positive : 0 < sector
  pub small : sector < 2 ^ 17
  pub whole : AreWhole sector held.sectors.items
  pub room : length held.sectors.items * sector ≤ longest + sector

-- What a failed call leaves of the touched sectors, the i-th of which is new where entry i of the pick is odd, and of the length.
pub record IsPicked (sector : ℕ) (touches : ℕ → Type 0) (target : Value) (end : ℕ) (pick : List ℕ) (new_len : Bool) (old new : FileState) : Type 0 where
  pub list : List ℕ
  pub all : IsListOf touches list
  pub each : (i : ℕ) → i < length list
      → ((is_odd (get_or pick i 0) ≡ true) × Added sector old new (get_or list i 0) old.present target) ⊎ ((is_odd (get_or pick i 0) ≡ false) × Added sector old new (get_or list i 0) target old.present)
  pub len : new.len ≡ cond new_len end old.len

-- Of so many values of sector k, the number of the one that is picked, counted from the oldest; without an entry it is the newest
-- one, or the oldest.
abbrev pub picked : (pick : List ℕ) (newest : Bool) (k count : ℕ) → ℕ
picked pick newest k count = cond (nat_lt k (length pick)) (get_or pick k 0 % count) (cond newest (count - 1) 0)

-- value number n of sector k is moved to the end, and is the present one now
pub record IsTurned (sector : ℕ) (old new : FileState) (k n : ℕ) : Type 0 where
  pub value : Value
  pub is : Same sector k value old.present
  pub earlier : new.earlier k ≡ take n (old.earlier k ++ value ∷ []) ++ drop (n + 1) (old.earlier k ++ value ∷ [])
  pub present : Same sector k new.present (get_or (old.earlier k ++ value ∷ []) n value)
