-- What a choice names (own).
use Rattle.std.specs.Prelude.{◌≡◌, ℕ, suc, ◌/◌, ◌%◌, ◌<◌, ◌≤◌, ◌^◌, min, max, Bool, IsTrue, true, false, ◌&&◌, cond, nat_lt, nat_eq, List, [], ◌∷◌, length, get_or, map, Option, Some, None}
use Rattle.std.specs.List.{range_with_len}
use Rattle.crashdisk.specs.State.{Value, FileState, IsImage, IsSound, longest}
use Rattle.crashdisk.specs.Solid.{is_sector_size}
use Rattle.crashdisk.specs.Held.{picked}
use Rattle.crashdisk.specs.declared.choice.FileChoice.{FileChoice}
use Rattle.crashdisk.specs.declared.choice.Rest.{Rest}
use Rattle.crashdisk.specs.declared.choice.Rest.TheVariants.{Oldest, Newest}

-- What a choice says of a file: the numbers of the values that sectors take, the bytes of torn sectors, whether the sectors
-- without a number take the newest value or the oldest, and the length.
pub record Naming : Type 0 where
  pub pick : List ℕ
  pub torn : List (ℕ × List ℕ)
  pub newest : Bool
  pub len : Option ℕ

abbrev pub is_newest : Rest → Bool
is_newest Oldest = false
is_newest Newest = true

-- what a choice of a file says
abbrev pub naming_of : FileChoice → Naming
naming_of choice = record { pick = choice.pick.items; torn = map (λ entry. (entry.0, entry.1.items)) choice.torn.items; newest = is_newest choice.rest; len = choice.len }

-- the newest values and the present length; the oldest ones and the least length
abbrev pub newest : Naming
newest = record { pick = []; torn = []; newest = true; len = None }

abbrev pub oldest : Naming
oldest = record { pick = []; torn = []; newest = false; len = Some 0 }

-- the length that is named, between the least and the greatest
abbrev pub named_len : Option ℕ → (least present greatest : ℕ) → ℕ
named_len None least present greatest = present
named_len (Some n) least present greatest = max least (min n greatest)

-- the first, if it is one, otherwise the other
abbrev pub or_else : Option (List ℕ) → Option (List ℕ) → Option (List ℕ)
or_else None other = other
or_else (Some bytes) other = Some bytes

-- the bytes of the last entry of sector k
abbrev pub last_torn : List (ℕ × List ℕ) → ℕ → Option (List ℕ)
last_torn [] k = None
last_torn (entry ∷ torn) k = or_else (last_torn torn k) (cond (nat_eq entry.0 k) (Some entry.1) None)

-- the bytes that sector k holds where it is torn, which only a touched one is
abbrev pub torn_here : (tears touched : Bool) → Naming → (k : ℕ) → Option (List ℕ)
torn_here tears touched naming k = cond (tears && touched) (last_torn naming.torn k) None

-- the byte at a place of these bytes, with zeros behind them; where there are none, this one
abbrev pub byte_by : Option (List ℕ) → (j b : ℕ) → ℕ
byte_by None j b = b
byte_by (Some bytes) j b = get_or bytes j 0

-- value number n of sector k, counted from the oldest; the last is the present one
abbrev pub listed : FileState → (k n : ℕ) → Value
listed s k n = get_or (s.earlier k) n s.present

-- the byte that a naming gives a place of sector k
abbrev pub named_byte : (sector : ℕ) (tears : Bool) → FileState → Naming → (k i : ℕ) → ℕ
named_byte sector tears s naming k i =
    byte_by (torn_here tears (nat_lt 0 (length (s.earlier k))) naming k) (i % sector) (listed s k (picked naming.pick naming.newest k (suc (length (s.earlier k)))) i)

-- the bytes of the file that it names
abbrev pub image_of : (sector : ℕ) (tears : Bool) → FileState → Naming → List ℕ
image_of sector tears s naming = map (λ i. named_byte sector tears s naming (i / sector) i) (range_with_len 0 (named_len naming.len s.least s.len s.greatest))

-- It can be said by a choice: numbers of listed values, sectors of 32 bits, bytes, and a length within the limit of a file.
pub record CanBeSaid (s : FileState) (naming : Naming) : Type 0 where
  pub pick : (k : ℕ) → get_or naming.pick k 0 ≤ length (s.earlier k)
  pub torn : (n : ℕ) → (get_or naming.torn n (0, [])).0 < 2 ^ 32
  pub bytes : (n j : ℕ) → get_or (get_or naming.torn n (0, [])).1 j 0 < 256
  pub len : (n : ℕ) → naming.len ≡ Some n → n ≤ longest

-- whatever a crash may leave of a file, some choice names it
abbrev pub EachImageIsNamed : Type 0
EachImageIsNamed = (sector : ℕ) (tears : Bool) (s : FileState) (c : List ℕ) → IsTrue (is_sector_size sector) → IsSound sector s → IsImage sector tears s c → (naming : Naming) × CanBeSaid s naming × (image_of sector tears s naming ≡ c)
