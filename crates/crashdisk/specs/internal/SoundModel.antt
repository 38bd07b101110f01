-- Why a modelled disk is sound (own).
use Rattle.std.specs.Prelude.{◌≡◌, ℕ, ◌+◌, ◌*◌, ◌/◌, ◌^◌, ◌<◌, ◌≤◌, false, IsTrue, []}
use Rattle.std.proofs.Common.{arith}
use Rattle.std.proofs.lemmas.Bool.Decides.{nat_tests}
use Rattle.std.proofs.Math.Nat.{le-div_iff_mul-le, div-lt_iff_lt-mul}
use Rattle.crashdisk.specs.State.{FileState, IsSound}
use Rattle.crashdisk.specs.Call.{DiskState, IsSoundDisk}
use Rattle.crashdisk.specs.Solid.{IsSolid, is_sector_size}

pub size_positive : (n : ℕ) → IsTrue (is_sector_size n) → (0 < n) × (n < 2 ^ 17)
size_positive n is = (grind (arith, nat_tests), grind (arith, nat_tests))

start_in : (sector k : ℕ) → 0 < sector → k * sector / sector ≡ k
start_in sector k positive =
    let low : k ≤ k * sector / sector = (le-div_iff_mul-le positive).1 (omega arith) in
    let high : k * sector / sector < k + 1 = (div-lt_iff_lt-mul positive).1 (omega arith) in
    omega arith

-- what is solid is sound
pub sound : (sector : ℕ) (s : FileState) → 0 < sector → IsSolid sector s → IsSound sector s
sound sector s positive is = record {
  least = is.least;
  greatest = is.greatest;
  within = is.within;
  touched = λ k some. (k * sector, omega arith, is.touched k some, start_in sector k positive);
  present_end = is.present_end;
  earlier_end = is.earlier_end;
  stale = is.stale;
  is_byte = is.is_byte;
  earlier_is_byte = is.earlier_is_byte;
}

pub sound_disk : (s : DiskState) → IsTrue (is_sector_size s.sector) → IsSolid s.sector s.db → IsSolid s.sector s.log → s.refused < 2 ^ 64 → (s.tears ≡ false → (s.kept ≡ []) × (s.handed ≡ [])) → IsSoundDisk s
sound_disk s is_size db log counted untorn =
    let positive = (size_positive s.sector is_size).0 in record {
      db = sound s.sector s.db positive db;
      log = sound s.sector s.log positive log;
      refused = counted;
      untorn = untorn;
    }
