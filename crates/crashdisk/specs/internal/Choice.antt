-- What a choice names (own).
use Rattle.std.specs.Prelude.{◌≡◌, ℕ, ◌-◌, ◌<◌, Bool, cond, nat_lt, List, [], length, get_or}
use Rattle.crashdisk.specs.Held.{picked}
use Rattle.crashdisk.specs.Choice.{Naming, newest, torn_here, byte_by}

-- the bytes of sector k that are named where it has these values, oldest first, with zeros behind them
abbrev pub Names : (tears : Bool) → Naming → (k : ℕ) → (values : List (List ℕ)) → (bytes : List ℕ) → Type 0
Names tears naming k values bytes =
    (j : ℕ) → get_or bytes j 0 ≡ byte_by (torn_here tears (nat_lt 0 (length values - 1)) naming k) j (get_or (get_or values (picked naming.pick naming.newest k (length values)) []) j 0)

-- of the values of sector k the one that is named, alone, with zeros from a place on
pub record IsLeft (tears : Bool) (naming : Naming) (k end : ℕ) (old new : List (List ℕ)) : Type 0 where
  pub one : length new ≡ 1
  pub long : length (get_or new 0 []) ≡ length (get_or old (picked naming.pick naming.newest k (length old)) [])
  pub each : (j : ℕ) → j < length (get_or new 0 []) → get_or (get_or new 0 []) j 0
      ≡ cond (nat_lt j end) (byte_by (torn_here tears (nat_lt 0 (length old - 1)) naming k) j (get_or (get_or old (picked naming.pick naming.newest k (length old)) []) j 0)) 0
  pub are_bytes : (j : ℕ) → get_or (get_or new 0 []) j 0 < 256
