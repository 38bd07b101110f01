-- The choices of a crash, counted (own).
use Rattle.std.specs.Prelude.{◌≡◌, ℕ, zero, suc, ◌+◌, ◌-◌, ◌*◌, ◌/◌, ◌%◌, ◌<◌, true, cond, nat_lt, nat_eq, List, [], length, get_or, map, Some}
use Rattle.std.specs.List.{range_with_len}
use Rattle.crashdisk.specs.State.{FileState}
use Rattle.crashdisk.specs.Choice.{Naming, listed}

-- the sectors from 0 to the one with the last byte of the greatest length
abbrev pub sector_count : (sector greatest : ℕ) → ℕ
sector_count sector greatest = (greatest + sector - 1) / sector

-- how many values sector k has
abbrev pub value_count : FileState → (k : ℕ) → ℕ
value_count s k = suc (length (s.earlier k))

-- in how many ways the sectors below k can take one of their values each
abbrev pub ways : (counts : ℕ → ℕ) (k : ℕ) → ℕ
ways counts zero = 1
ways counts (suc k) = ways counts k * counts k

-- the number of the value that sector k takes in way n: the digits of n, that of sector 0 changing fastest
abbrev pub digit : (counts : ℕ → ℕ) (n k : ℕ) → ℕ
digit counts n k = n / ways counts k % counts k

-- the lengths: the least, each multiple of the sector size strictly between, and the greatest
abbrev pub length_count : (sector least greatest : ℕ) → ℕ
length_count sector least greatest = cond (nat_eq least greatest) 1 (2 + ((greatest - 1) / sector - least / sector))

abbrev pub length_at : (sector least greatest j : ℕ) → ℕ
length_at sector least greatest j = cond (nat_eq j 0) least (cond (nat_lt j (length_count sector least greatest - 1)) ((least / sector + j) * sector) greatest)

-- how many choices a file has
abbrev pub choice_count : (sector : ℕ) → FileState → ℕ
choice_count sector s = ways (value_count s) (sector_count sector s.greatest) * length_count sector s.least s.greatest

-- choice number n of a file, counted from 0; the digit of the length changes slowest
abbrev pub naming_at : (sector : ℕ) → FileState → (n : ℕ) → Naming
naming_at sector s n = record {
  pick = map (digit (value_count s) n) (range_with_len 0 (sector_count sector s.greatest));
  torn = [];
  newest = true;
  len = Some (length_at sector s.least s.greatest (n / ways (value_count s) (sector_count sector s.greatest) % length_count sector s.least s.greatest));
}

-- the file that has in each sector the value of the number that is its digit, and the length that is the last digit's
pub record HasDigits (sector : ℕ) (s : FileState) (n : ℕ) (image : List ℕ) : Type 0 where
  pub len : length image ≡ length_at sector s.least s.greatest (n / ways (value_count s) (sector_count sector s.greatest) % length_count sector s.least s.greatest)
  pub each : (i : ℕ) → i < length image → get_or image i 0 ≡ listed s (i / sector) (digit (value_count s) n (i / sector)) i

-- choice number n of both files: the digits of the database first, and then those of the log
pub record IsChoice (sector : ℕ) (db log : FileState) (n : ℕ) (of_db of_log : Naming) : Type 0 where
  pub db_named : of_db ≡ naming_at sector db n
  pub log_named : of_log ≡ naming_at sector log (n / choice_count sector db)

-- in each sector one of its values, and one of the lengths that are counted
pub record IsListed (sector : ℕ) (s : FileState) (image : List ℕ) : Type 0 where
  pub values : ℕ → ℕ
  pub below : (k : ℕ) → values k < value_count s k
  pub each : (i : ℕ) → i < length image → get_or image i 0 ≡ listed s (i / sector) (values (i / sector)) i
  pub j : ℕ
  pub short : j < length_count sector s.least s.greatest
  pub len : length image ≡ length_at sector s.least s.greatest j

-- two files of that kind are those of some number below the count
abbrev pub EachIsCounted : (sector : ℕ) (db log : FileState) → Type 0
EachIsCounted sector db log = (of_db of_log : List ℕ) → IsListed sector db of_db → IsListed sector log of_log
    → (n : ℕ) × (n < choice_count sector db * choice_count sector log) × HasDigits sector db n of_db × HasDigits sector log (n / choice_count sector db) of_log
