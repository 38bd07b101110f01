-- Each choice of listed values and counted lengths has a number.
use Rattle.crashdisk.proofs.Facts.{EachIsCounted, FileState, HasDigits, IsListed, IsSolid, List, add-mul, ap, arith, between, cases_lt, choice_count, digit, div-mul-add, false, inl, inr, length, length_at, length_count, listed, mod-mul-add, mul-add-lt, mul_assoc, mul_comm, sector_count, sector_there, subst, suc, sym, value_count, ways, zero, ℕ, ◌%◌, ◌*◌, ◌+◌, ◌/◌, ◌<◌, ◌∙◌, ◌≡◌, ◌≤◌}

-- the number with these digits
abbrev number : (counts values : ℕ → ℕ) (k : ℕ) → ℕ
number counts values zero = 0
number counts values (suc k) = values k * ways counts k + number counts values k

below : (counts values : ℕ → ℕ) → ((k : ℕ) → values k < counts k) → (k : ℕ) → number counts values k < ways counts k
below counts values each zero = omega arith
below counts values each (suc k) = mul-add-lt (values k) (ways counts k) (number counts values k) (counts k) (each k) (below counts values each k)

-- the same number, with what stands above its digits
regroup : (r v c w n : ℕ) → r * (w * c) + (v * w + n) ≡ (r * c + v) * w + n
regroup r v c w n = ap (λ (m : ℕ). m + (v * w + n)) (ap (λ (m : ℕ). r * m) (mul_comm w c) ∙ sym (mul_assoc r c w)) ∙ (omega (arith, add-mul (r * c) v w))

has_digit : (counts values : ℕ → ℕ) → ((k : ℕ) → values k < counts k) → (k r i : ℕ) → i < k → digit counts (r * ways counts k + number counts values k) i ≡ values i
has_digit counts values each zero r i lt = absurd (omega (arith, lt))
has_digit counts values each (suc k) r i lt =
    ap (λ (n : ℕ). digit counts n i) (regroup r (values k) (counts k) (ways counts k) (number counts values k)) ∙ elim (cases_lt i k) [
      | inl less ↦ has_digit counts values each k (r * counts k + values k) i less
      | inr past ↦ subst (λ (m : ℕ). digit counts ((r * counts k + values k) * ways counts k + number counts values k) m ≡ values m) (let last : k ≡ i = omega (arith, lt, past) in last)
          (ap (λ (q : ℕ). q % counts k) (div-mul-add (r * counts k + values k) (ways counts k) (number counts values k) (below counts values each k)) ∙ mod-mul-add r (counts k) (values k) (each k))
    ]

module _ (sector : ℕ) (s : FileState) (image : List ℕ) (positive : 0 < sector) (solid : IsSolid sector s) (is : IsListed sector s image) where
  abbrev counts : ℕ → ℕ
  counts = value_count s

  abbrev count : ℕ
  count = sector_count sector s.greatest

  abbrev lengths : ℕ
  lengths = length_count sector s.least s.greatest

  -- the number of the file
  abbrev pub number_of : ℕ
  number_of = is.j * ways counts count + number counts is.values count

  pub number_below : number_of < choice_count sector s
  number_below = mul-add-lt is.j (ways counts count) (number counts is.values count) lengths is.short (below counts is.values is.below count)

  -- with anything above its digits
  pub has_digits : (r : ℕ) → HasDigits sector s (r * choice_count sector s + number_of) image
  has_digits r =
      let top : r * choice_count sector s + number_of ≡ (r * lengths + is.j) * ways counts count + number counts is.values count = regroup r is.j lengths (ways counts count) (number counts is.values count) in
      let j_is : (r * choice_count sector s + number_of) / ways counts count % lengths ≡ is.j =
      ap (λ (n : ℕ). n / ways counts count % lengths) top
      ∙ ap (λ (q : ℕ). q % lengths) (div-mul-add (r * lengths + is.j) (ways counts count) (number counts is.values count) (below counts is.values is.below count))
      ∙ mod-mul-add r lengths is.j is.short in
      let long : length image ≤ s.greatest = subst (λ (l : ℕ). l ≤ s.greatest) (sym is.len) (between sector false s 0 positive solid.least solid.greatest is.j).1 in
      record {
        len = is.len ∙ ap (λ (j : ℕ). length_at sector s.least s.greatest j) (sym j_is);
        each = λ i lt. is.each i lt ∙ ap (λ (m : ℕ). listed s (i / sector) m i)
            (sym (ap (λ (n : ℕ). digit counts n (i / sector)) top ∙ has_digit counts is.values is.below count (r * lengths + is.j) (i / sector) (sector_there sector false s 0 positive solid.least solid.greatest i (omega (arith, lt, long)))));
      }

pub each_is_counted : (sector : ℕ) (db log : FileState) → 0 < sector → IsSolid sector db → IsSolid sector log → EachIsCounted sector db log
each_is_counted sector db log positive db_solid log_solid of_db of_log db_is log_is =
    let a = number_of sector db of_db positive db_solid db_is in
    let b = number_of sector log of_log positive log_solid log_is in
    let a_below = number_below sector db of_db positive db_solid db_is in
    let b_below = number_below sector log of_log positive log_solid log_is in
    let size = choice_count sector db in (
      b * size + a,
      mul-add-lt b size a (choice_count sector log) b_below a_below,
      has_digits sector db of_db positive db_solid db_is b,
      subst (λ (n : ℕ). HasDigits sector log n of_log) ((let none : 0 * choice_count sector log + b ≡ b = omega arith in none) ∙ sym (div-mul-add b size a a_below)) (has_digits sector log of_log positive log_solid log_is 0),
    )
