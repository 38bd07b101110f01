-- What a disk lists for each file, and what a crash may leave of it (own).
use Rattle.std.specs.Prelude.{◌≡◌, ◌≢◌, ◌⊎◌, ℕ, ◌+◌, ◌-◌, ◌/◌, ◌^◌, ◌<◌, ◌≤◌, min, max, Bool, cond, nat_lt, nat_le, ◌&&◌, IsTrue, List, [], ◌∷◌, ◌++◌, length, get_or}
use Rattle.std.specs.List.{Contains}

-- a power of two from 512 to 65536
abbrev pub IsSectorSize : ℕ → Type 0
IsSectorSize n = (k : ℕ) × (9 ≤ k) × (k ≤ 16) × (n ≡ 2 ^ k)

-- the most bytes of a file
abbrev pub longest : ℕ
longest = 1099511627776

-- The bytes of one sector, each by its place in the file. What it says of places in other sectors doesn't count.
abbrev pub Value : Type 0
Value = ℕ → ℕ

-- the same bytes in sector k
abbrev pub Same : (sector k : ℕ) → Value → Value → Type 0
Same sector k v w = (i : ℕ) → i / sector ≡ k → v i ≡ w i

-- the bytes of sector k that a file has are those of the value
abbrev pub Shows : (sector k : ℕ) → Value → List ℕ → Type 0
Shows sector k v c = (i : ℕ) → i / sector ≡ k → i < length c → get_or c i 0 ≡ v i

-- A file on a disk. The listed values of sector k since the last sync of the file that succeeded are
-- those of `earlier k`, oldest first, and then the present one.
pub record FileState : Type 0 where
  pub earlier : ℕ → List Value
  pub present : Value
  pub len : ℕ
  pub least : ℕ
  pub greatest : ℕ

-- a byte of the file as a read gives it
abbrev pub byte : FileState → ℕ → ℕ
byte s i = cond (nat_lt i s.len) (s.present i) 0

-- sector k of a file that a crash left: the present value, or an earlier one, or on a disk that tears anything
-- where the sector was touched since the last sync that succeeded or a later crash
abbrev pub OneListed : (sector : ℕ) → Bool → FileState → List ℕ → ℕ → Type 0
OneListed sector tears s c k =
    Shows sector k s.present c ⊎ (((v : Value) × Contains (s.earlier k) v × Shows sector k v c) ⊎ (IsTrue tears × (0 < length (s.earlier k)) × ((i : ℕ) → i / sector ≡ k → get_or c i 0 < 256)))

-- a file that a crash may leave
pub record IsImage (sector : ℕ) (tears : Bool) (s : FileState) (c : List ℕ) : Type 0 where
  pub least : s.least ≤ length c
  pub greatest : length c ≤ s.greatest
  pub each : (k : ℕ) → OneListed sector tears s c k

-- sector k has a place in this range
abbrev pub Meets : (sector from to k : ℕ) → Type 0
Meets sector from to k = (i : ℕ) × (from ≤ i) × (i < to) × (i / sector ≡ k)

-- what holds of the lists of each disk that keeps its word
pub record IsSound (sector : ℕ) (s : FileState) : Type 0 where
  pub least : s.least ≤ s.len
  pub greatest : s.len ≤ s.greatest
  pub within : s.greatest ≤ longest
  -- a sector with more than one value has a place in the file at its longest
  pub touched : (k : ℕ) → 0 < length (s.earlier k) → Meets sector 0 s.greatest k
  pub present_end : (i : ℕ) → s.greatest ≤ i → s.present i ≡ 0
  pub earlier_end : (k : ℕ) (v : Value) → Contains (s.earlier k) v → (i : ℕ) → i / sector ≡ k → s.greatest ≤ i → v i ≡ 0
  pub stale : (i : ℕ) → s.len ≤ i → s.present i ≢ 0 → 0 < length (s.earlier (i / sector))
  pub is_byte : (i : ℕ) → s.present i < 256
  pub earlier_is_byte : (k : ℕ) (v : Value) → Contains (s.earlier k) v → (i : ℕ) → i / sector ≡ k → v i < 256

-- below the new end, a sector whose present value isn't zero from the old end on
abbrev pub Stale : (sector : ℕ) → FileState → (end k : ℕ) → Type 0
Stale sector s end k = (s.len < end) × Meets sector 0 end k × ((i : ℕ) × (s.len ≤ i) × (i / sector ≡ k) × (s.present i ≢ 0))

-- what a write leaves at a place
abbrev pub written : FileState → ℕ → List ℕ → Value
written s at bytes i = cond (nat_le at i && nat_lt i (at + length bytes)) (get_or bytes (i - at) 0) (byte s i)

-- sector k is touched by a write of these bytes at a place
abbrev pub WriteTouches : (sector : ℕ) → FileState → ℕ → List ℕ → ℕ → Type 0
WriteTouches sector s at bytes k = Meets sector at (at + length bytes) k ⊎ Stale sector s (max s.len (at + length bytes)) k

-- what a change of the length leaves at a place
abbrev pub cut_to : FileState → ℕ → Value
cut_to s n i = cond (nat_lt i n) (byte s i) 0

-- sector k is touched by a change of the length to n
abbrev pub CutTouches : (sector : ℕ) → FileState → ℕ → ℕ → Type 0
CutTouches sector s n k = Meets sector n s.len k ⊎ Stale sector s n k

-- a sector that isn't touched
pub record Kept (sector : ℕ) (old new : FileState) (k : ℕ) : Type 0 where
  pub earlier : new.earlier k ≡ old.earlier k
  pub present : Same sector k new.present old.present

-- a touched sector has one value more: this one among the earlier ones, and that one present
pub record Added (sector : ℕ) (old new : FileState) (k : ℕ) (listed now : Value) : Type 0 where
  pub value : Value
  pub is : Same sector k value listed
  pub earlier : new.earlier k ≡ old.earlier k ++ value ∷ []
  pub present : Same sector k new.present now

-- A write or a change of the length, to this length, was carried out, or failed in the middle: each touched
-- sector and the length are old or new, and both are listed.
pub record Changed (sector : ℕ) (touches : ℕ → Type 0) (target : Value) (end : ℕ) (old new : FileState) : Type 0 where
  pub each : (k : ℕ) → ((touches k → ⊥) × Kept sector old new k) ⊎ (touches k × (Added sector old new k old.present target ⊎ Added sector old new k target old.present))
  pub least : new.least ≡ min old.least end
  pub greatest : new.greatest ≡ max old.greatest end
  pub len : (new.len ≡ old.len) ⊎ (new.len ≡ end)

-- it was carried out: what is new is present
pub record IsDone (sector : ℕ) (touches : ℕ → Type 0) (target : Value) (end : ℕ) (new : FileState) : Type 0 where
  pub present : (k : ℕ) → touches k → Same sector k new.present target
  pub len : new.len ≡ end

-- a sync that succeeded
pub record IsSynced (old new : FileState) : Type 0 where
  pub earlier : (k : ℕ) → new.earlier k ≡ []
  pub present : (i : ℕ) → new.present i ≡ byte old i
  pub len : new.len ≡ old.len
  pub least : new.least ≡ old.len
  pub greatest : new.greatest ≡ old.len

-- a sync that failed: any listed value may be the present one, and nothing leaves the lists or comes to them
pub record IsShuffled (sector : ℕ) (old new : FileState) : Type 0 where
  pub from : (k : ℕ) (v : Value) → Contains (new.earlier k) v → Same sector k v old.present ⊎ ((w : Value) × Contains (old.earlier k) w × Same sector k v w)
  pub present_from : (k : ℕ) → Same sector k new.present old.present ⊎ ((w : Value) × Contains (old.earlier k) w × Same sector k new.present w)
  pub count : (k : ℕ) → length (new.earlier k) ≡ length (old.earlier k)
  pub keeps : (k : ℕ) (w : Value) → Contains (old.earlier k) w → Same sector k w new.present ⊎ ((v : Value) × Contains (new.earlier k) v × Same sector k w v)
  pub keeps_present : (k : ℕ) → Same sector k old.present new.present ⊎ ((v : Value) × Contains (new.earlier k) v × Same sector k old.present v)
  pub len : new.len ≡ old.len
  pub least : new.least ≡ old.least
  pub greatest : new.greatest ≡ old.greatest

-- one list of bytes is all that a file may be after a crash
pub record IsSettled (s : FileState) (c : List ℕ) : Type 0 where
  pub earlier : (k : ℕ) → s.earlier k ≡ []
  pub present : (i : ℕ) → s.present i ≡ get_or c i 0
  pub len : s.len ≡ length c
  pub least : s.least ≡ length c
  pub greatest : s.greatest ≡ length c
  pub are_bytes : (i : ℕ) → get_or c i 0 < 256
