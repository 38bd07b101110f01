-- Runs of pages: k pages from page q on, written at once.
use Rattle.crashdisk.proofs.Facts.{Bool, Db, DiskState, IsTrue, List, Ok, Spreads, Writes, ap, arith, byte, cases_lt, div-lt_iff_lt-mul, div-mul-le_self, get_or, inl, inr, le-div, length, lt-div-mul-add, mul-le-mul_right, mul_assoc, page_at, page_before, present_written, subst, sym, written_inside, written_outside, ℕ, ⊎_elim, ◌*◌, ◌+◌, ◌-◌, ◌/◌, ◌<◌, ◌∙◌, ◌≡◌, ◌≤◌, ◌⊎◌}
use Rattle.crashdisk.proofs.page.PlacesOfPages.{AreWhole}

times_more : (a k size : ℕ) → a * size + k * size ≡ (a + k) * size
times_more a k size = omega arith

-- where a run ends, the page behind it begins
pub run_end : (size q k : ℕ) → 1 ≤ q → page_at size q + k * size ≡ page_at size (q + k)
run_end size q k one = let e : q + k - 1 ≡ (q - 1) + k = omega arith in times_more (q - 1) k size ∙ ap (λ (n : ℕ). n * size) (sym e)

-- a place of one of its pages
pub run_place : (size q k j i : ℕ) → 1 ≤ q → j < k → i < size → (page_at size (q + j) + i ≡ page_at size q + (j * size + i)) × (j * size + i < k * size)
run_place size q k j i one lt lt_i =
    let more : (j + 1) * size ≤ k * size = mul-le-mul_right size (let le : j + 1 ≤ k = omega arith in le) in
    (omega (arith, run_end size q j one), omega arith)

-- a place of another page lies before it or behind it
pub run_apart : (size q k p i : ℕ) → 1 ≤ p → 1 ≤ q → (p < q) ⊎ (q + k ≤ p) → i < size → (page_at size p + i < page_at size q) ⊎ (page_at size q + k * size ≤ page_at size p + i)
run_apart size q k p i a b (inl lt) lt_i = inl (omega (arith, page_before size p q a lt))
run_apart size q k p i a b (inr le) lt_i =
    let more : (q + k - 1) * size ≤ (p - 1) * size = mul-le-mul_right size (let up : q + k - 1 ≤ p - 1 = omega arith in up) in
    inr (omega (arith, run_end size q k b))

-- a page is one of the run, or none of it
pub run_cases : (q k p : ℕ) → ((j : ℕ) × (j < k) × (p ≡ q + j)) ⊎ ((p < q) ⊎ (q + k ≤ p))
run_cases q k p = ⊎_elim (λ lt. inr (inl lt)) (λ ge. ⊎_elim
    (λ lt. inl (p - q, (let x : p - q < k = omega arith in x), (let y : p ≡ q + (p - q) = omega arith in y)))
    (λ le. inr (inr le)) (cases_lt p (q + k))) (cases_lt p q)

-- whole sectors that meet a range of whole sectors lie in it
range_sector : (sector a b i j : ℕ) → 1 ≤ sector → a * sector ≤ j → j < b * sector → j / sector ≡ i / sector → (a * sector ≤ i) × (i < b * sector)
range_sector sector a b i j pos from to same =
    let low : a ≤ i / sector = subst (λ (x : ℕ). a ≤ x) same (le-div a j sector pos from) in
    let high : i / sector < b = subst (λ (x : ℕ). x < b) same ((div-lt_iff_lt-mul {k = sector} {x = j} {y = b} pos).1 to) in
    let low_m : a * sector ≤ i / sector * sector = mul-le-mul_right sector low in
    let high_m : (i / sector + 1) * sector ≤ b * sector = mul-le-mul_right sector (let le : i / sector + 1 ≤ b = omega arith in le) in
    let is : i / sector * sector ≤ i = div-mul-le_self i sector in
    let below : i < i / sector * sector + sector = lt-div-mul-add pos in
    (omega arith, omega arith)

-- a write of a run stays in it
pub run_clear : (size sector q k i : ℕ) (tears : Bool) → (IsTrue tears → AreWhole size sector) → 1 ≤ sector → 1 ≤ q → Spreads sector tears (page_at size q) (page_at size q + k * size) i
    → (page_at size q ≤ i) × (i < page_at size q + k * size)
run_clear size sector q k i tears whole pos one (inl in_range) = in_range
run_clear size sector q k i tears whole pos one (inr torn) =
    let n : ℕ = (whole torn.0).0 in
    let is : size ≡ n * sector = (whole torn.0).1 in
    let j : ℕ = torn.1.0 in
    let begin : (q - 1) * n * sector ≡ page_at size q = mul_assoc (q - 1) n sector ∙ ap (λ (z : ℕ). (q - 1) * z) (sym is) in
    let finish : (q + k - 1) * n * sector ≡ page_at size q + k * size = mul_assoc (q + k - 1) n sector ∙ ap (λ (z : ℕ). (q + k - 1) * z) (sym is) ∙ sym (run_end size q k one) in
    let both = range_sector sector ((q - 1) * n) ((q + k - 1) * n) i j pos (omega (arith, torn.1.1)) (omega (arith, torn.1.2)) torn.1.3 in
    (omega (arith, both.0), omega (arith, both.1))

-- a run that was written
module _ {T : Type 0} {u : T} (size q k : ℕ) (bytes : List ℕ) (old new : DiskState) (one : 1 ≤ q) (long : length bytes ≡ k * size) (wrote : Writes Db (page_at size q) bytes (Ok u) old new) where
  pub run_inside : (j i : ℕ) → j < k → i < size → byte new.db (page_at size (q + j) + i) ≡ get_or bytes (j * size + i) 0
  run_inside j i lt lt_i =
      let place = run_place size q k j i one lt lt_i in
      let at : ℕ = page_at size (q + j) + i in
      let back : at - page_at size q ≡ j * size + i = omega (arith, place.0) in
      present_written Db (page_at size q) bytes old new wrote at ∙ written_inside old.db (page_at size q) bytes at (omega (arith, place.0)) (omega (arith, place.0, place.1, long)) ∙ ap (λ (n : ℕ). get_or bytes n 0) back

  pub run_outside : (i : ℕ) → (i < page_at size q) ⊎ (page_at size q + k * size ≤ i) → byte new.db i ≡ byte old.db i
  run_outside i out = present_written Db (page_at size q) bytes old new wrote i
      ∙ written_outside old.db (page_at size q) bytes i (⊎_elim (λ lt. inl lt) (λ le. inr (omega (arith, long))) out)
