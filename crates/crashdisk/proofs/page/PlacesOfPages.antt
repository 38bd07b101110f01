-- Places of pages.
use Rattle.crashdisk.proofs.Words.{Bool, IsSectorSize, IsTrue, Meets, Spreads, ap, arith, cases_lt, div-mul-le_self, inl, inr, le-div, lt-div-mul-add, mul-le-mul_right, mul_assoc, pow-add, pow-lt, pow_mono, subst, suc, sym, zero, ℕ, ⊎_elim, ◌*◌, ◌+◌, ◌-◌, ◌/◌, ◌<◌, ◌^◌, ◌∙◌, ◌≡◌, ◌≢◌, ◌≤◌, ◌⊎◌}

-- where page p begins
abbrev pub page_at : (size p : ℕ) → ℕ
page_at size p = (p - 1) * size

pub page_end : (size p : ℕ) → 1 ≤ p → page_at size p + size ≡ p * size
page_end size zero a = absurd (omega arith)
page_end size (suc p) a = let e : suc p - 1 ≡ p = omega arith in let m : (suc p - 1) * size ≡ p * size = ap (λ k. k * size) e in omega arith

pub page_before : (size p q : ℕ) → 1 ≤ p → p < q → page_at size p + size ≤ page_at size q
page_before size p q a b = let m : p * size ≤ (q - 1) * size = mul-le-mul_right size (let le : p ≤ q - 1 = omega arith in le) in omega (arith, page_end size p a)

-- a place of one page is no place of another
pub page_apart : (size p q i : ℕ) → 1 ≤ p → 1 ≤ q → p ≢ q → page_at size p ≤ i → i < page_at size p + size → page_at size q ≤ i → i < page_at size q + size → ⊥
page_apart size p q i a b ne c d e f = ⊎_elim (λ lt. omega (arith, page_before size p q a lt)) (λ ge. omega (arith, page_before size q p b (let lt : q < p = omega arith in lt))) (cases_lt p q)

-- a place of one of the first k pages lies below their end
pub page_within : (size p k i : ℕ) → 1 ≤ p → p ≤ k → i < size → page_at size p + i < k * size
page_within size p k i a b lt = let m : p * size ≤ k * size = mul-le-mul_right size b in omega (arith, page_end size p a)

-- ---- pages of whole sectors

abbrev pub AreWhole : (size sector : ℕ) → Type 0
AreWhole size sector = (n : ℕ) × (size ≡ n * sector)

pub sector_some : (sector : ℕ) → IsSectorSize sector → 512 ≤ sector
sector_some sector is = let m : 2 ^ 9 ≤ 2 ^ is.0 = pow_mono is.1 in omega (arith, is.3)

pub are_whole : (size sector : ℕ) → IsSectorSize size → IsSectorSize sector → sector ≤ size → AreWhole size sector
are_whole size sector a b le =
    let within : b.0 ≤ a.0 = ⊎_elim (λ lt. absurd (let m : 2 ^ a.0 < 2 ^ b.0 = pow-lt lt in omega (arith, a.3, b.3))) (λ ge. ge) (cases_lt a.0 b.0) in
    let split : a.0 ≡ (a.0 - b.0) + b.0 = omega arith in
    (2 ^ (a.0 - b.0), a.3 ∙ ap (λ k. 2 ^ k) split ∙ pow-add 2 (a.0 - b.0) b.0 ∙ ap (λ k. 2 ^ (a.0 - b.0) * k) (sym b.3))

-- each place of a sector that has one in a page lies in that page
sector_whole : (sector n q i j : ℕ) → 1 ≤ sector → 1 ≤ q → page_at (n * sector) q ≤ j → j < page_at (n * sector) q + n * sector → j / sector ≡ i / sector
    → (page_at (n * sector) q ≤ i) × (i < page_at (n * sector) q + n * sector)
sector_whole sector n q i j pos a from to same =
    let k : ℕ = i / sector in
    let begin : (q - 1) * n * sector ≡ page_at (n * sector) q = mul_assoc (q - 1) n sector in
    let finish : q * n * sector ≡ page_at (n * sector) q + n * sector = mul_assoc q n sector ∙ sym (page_end (n * sector) q a) in
    let low : (q - 1) * n ≤ k = subst (λ (x : ℕ). (q - 1) * n ≤ x) same (le-div ((q - 1) * n) j sector pos (omega arith)) in
    let low_m : (q - 1) * n * sector ≤ k * sector = mul-le-mul_right sector low in
    let i_low : k * sector ≤ i = div-mul-le_self i sector in
    let i_high : i < k * sector + sector = lt-div-mul-add pos in
    let j_low : k * sector ≤ j = subst (λ (x : ℕ). x * sector ≤ j) same (div-mul-le_self j sector) in
    ⊎_elim
    (λ lt. let up : (k + 1) * sector ≤ q * n * sector = mul-le-mul_right sector lt in (omega arith, omega arith))
    (λ ge. absurd (let up : q * n * sector ≤ k * sector = mul-le-mul_right sector ge in omega arith))
    (let c : (k + 1 ≤ q * n) ⊎ (q * n ≤ k) = ⊎_elim (λ x. inl (omega arith)) (λ x. inr x) (cases_lt k (q * n)) in c)

pub page_sector : (size sector q i j : ℕ) → AreWhole size sector → 1 ≤ sector → 1 ≤ q → page_at size q ≤ j → j < page_at size q + size → j / sector ≡ i / sector → (page_at size q ≤ i) × (i < page_at size q + size)
page_sector size sector q i j whole pos a from to same =
    let P : ℕ → Type 0 = λ z. page_at z q ≤ j → j < page_at z q + z → (page_at z q ≤ i) × (i < page_at z q + z) in
    let at : P (whole.0 * sector) = λ x y. sector_whole sector whole.0 q i j pos a x y same in
    let all : P size = subst P (sym whole.1) at in
    all from to

-- a write of a page stays in it
pub page_clear : (size sector q i : ℕ) (tears : Bool) → (IsTrue tears → AreWhole size sector) → 1 ≤ sector → 1 ≤ q → Spreads sector tears (page_at size q) (page_at size q + size) i
    → (page_at size q ≤ i) × (i < page_at size q + size)
page_clear size sector q i tears whole pos a (inl in_range) = in_range
page_clear size sector q i tears whole pos a (inr torn) = page_sector size sector q i torn.1.0 (whole torn.0) pos a torn.1.1 torn.1.2 torn.1.3

-- the end of a page is that of a sector
pub cut_clear : (size sector k i len : ℕ) → AreWhole size sector → 1 ≤ sector → i < k * size → Meets sector (k * size) len (i / sector) → ⊥
cut_clear size sector k i len whole pos lt meets =
    let n : ℕ = whole.0 in
    let j : ℕ = meets.0 in
    let is_whole : k * n * sector ≡ k * size = mul_assoc k n sector ∙ ap (λ z. k * z) (sym whole.1) in
    let low : k * n ≤ i / sector = subst (λ (x : ℕ). k * n ≤ x) meets.3 (le-div (k * n) j sector pos (omega (arith, meets.1))) in
    let low_m : k * n * sector ≤ i / sector * sector = mul-le-mul_right sector low in
    let is : i / sector * sector ≤ i = div-mul-le_self i sector in
    omega arith
