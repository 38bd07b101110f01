-- What holds of a modelled file, as a fact that has one proof (own).
use Rattle.std.specs.Prelude.{◌≡◌, ◌≢◌, ℕ, ◌*◌, ◌/◌, ◌<◌, ◌≤◌, Bool, ◌||◌, nat_eq, length}
use Rattle.std.specs.List.{Contains}
use Rattle.crashdisk.specs.State.{Value, FileState, longest}

-- the sizes of a sector
abbrev pub is_sector_size : ℕ → Bool
is_sector_size n = nat_eq n 512 || nat_eq n 1024 || nat_eq n 2048 || nat_eq n 4096 || nat_eq n 8192 || nat_eq n 16384 || nat_eq n 32768 || nat_eq n 65536

-- what each file keeps, with the first place of each touched sector
pub record IsSolid (sector : ℕ) (s : FileState) : Type 0 where
  pub least : s.least ≤ s.len
  pub greatest : s.len ≤ s.greatest
  pub within : s.greatest ≤ longest
  pub touched : (k : ℕ) → 0 < length (s.earlier k) → k * sector < s.greatest
  pub present_end : (i : ℕ) → s.greatest ≤ i → s.present i ≡ 0
  pub earlier_end : (k : ℕ) (v : Value) → Contains (s.earlier k) v → (i : ℕ) → i / sector ≡ k → s.greatest ≤ i → v i ≡ 0
  pub stale : (i : ℕ) → s.len ≤ i → s.present i ≢ 0 → 0 < length (s.earlier (i / sector))
  pub is_byte : (i : ℕ) → s.present i < 256
  pub earlier_is_byte : (k : ℕ) (v : Value) → Contains (s.earlier k) v → (i : ℕ) → i / sector ≡ k → v i < 256
