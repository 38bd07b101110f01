-- Places and sectors.
use Rattle.crashdisk.proofs.Words.{Meets, ap, arith, div-lt_iff_lt-mul, div-mul-le_self, le-div_iff_mul-le, max, mod-eq-sub-div-mul, ℕ, ◌%◌, ◌*◌, ◌+◌, ◌-◌, ◌/◌, ◌<◌, ◌∙◌, ◌≡◌, ◌≤◌}

pub inside : (sector k i : ℕ) → 0 < sector → i / sector ≡ k → (k * sector ≤ i) × (i < k * sector + sector)
inside sector k i positive is = ((le-div_iff_mul-le positive).0 (omega arith), omega (arith, (div-lt_iff_lt-mul {k = sector} {x = i} {y = k + 1} positive).0 (omega arith)))

pub sector_at : (sector k i : ℕ) → 0 < sector → k * sector ≤ i → i < k * sector + sector → i / sector ≡ k
sector_at sector k i positive le lt =
    let low : k ≤ i / sector = (le-div_iff_mul-le positive).1 le in
    let high : i / sector < k + 1 = (div-lt_iff_lt-mul positive).1 (omega arith) in
    omega arith

pub place_in : (sector k i : ℕ) → i / sector ≡ k → i % sector ≡ i - k * sector
place_in sector k i is = mod-eq-sub-div-mul i sector ∙ ap (λ (n : ℕ). i - n * sector) is

pub sector_le : (sector i j : ℕ) → 0 < sector → i ≤ j → i / sector ≤ j / sector
sector_le sector i j positive le = (le-div_iff_mul-le positive).1 (omega (arith, div-mul-le_self i sector))

pub meets_range : (sector from to k : ℕ) → 0 < sector → Meets sector from to k → (from < to) × (from < k * sector + sector) × (k * sector < to)
meets_range sector from to k positive meets =
    let at = inside sector k meets.0 positive meets.3 in
    (omega (arith, meets.1, meets.2), omega (arith, at.1, meets.1), omega (arith, at.0, meets.2))

pub range_meets : (sector from to k : ℕ) → 0 < sector → from < to → from < k * sector + sector → k * sector < to → Meets sector from to k
range_meets sector from to k positive some low high =
    let i = max from (k * sector) in
    (i, omega arith, omega arith, sector_at sector k i positive (omega arith) (omega arith))
