-- The digits of a choice.
use Rattle.crashdisk.proofs.Words.{Bool, FileState, HasDigits, IsSolid, IsTrue, List, Naming, None, Option, Some, [], ap, arith, byte_by, cases_lt, choice_count, cond, digit, div-div-eq-div-mul, div-lt_iff_lt-mul, div-mul-le_self, eqb_tells, false, get_or, get_or-map-range_with_len, image_of, inl, inr, is_sector_size, le-div_iff_mul-le, le-ltb, length, length-map-range_with_len, length_at, length_count, listed, lt-div-mul-add, lt-ltb, map, map-range_with_len_more, max, min, mod-eq_of_lt, mod-lt, mul-le-mul_right, mul-suc, naming_at, nat_eq, nat_lt, picked, range_with_len, refl, sector_count, size_positive, subst, suc, suc-mul, sym, torn_here, true, value_count, ways, zero, ℕ, ◌%◌, ◌*◌, ◌++◌, ◌+◌, ◌-◌, ◌/◌, ◌<◌, ◌↔◌, ◌∙◌, ◌∷◌, ◌≡◌, ◌≤◌}
use Rattle.crashdisk.proofs.image.ImageNamedByChoice.{image_at, image_len}

pub ways_more : (counts : ℕ → ℕ) (k : ℕ) → ways counts (k + 1) ≡ ways counts k * counts k
ways_more counts k = ap (λ (n : ℕ). ways counts n) (let one : k + 1 ≡ suc k = omega arith in one)

-- one sector more
pub digits_more : (counts : ℕ → ℕ) (n k rest count : ℕ) (old new : List ℕ) → old ≡ map (digit counts n) (range_with_len 0 k) → rest ≡ n / ways counts k → count ≡ counts k → new ≡ old ++ rest % count ∷ []
    → new ≡ map (digit counts n) (range_with_len 0 (k + 1))
digits_more counts n k rest count old new was is_rest is_count made =
    made ∙ ap (λ (l : List ℕ). l ++ rest % count ∷ []) was
    ∙ ap (λ (r : ℕ). map (digit counts n) (range_with_len 0 k) ++ r % count ∷ []) is_rest
    ∙ ap (λ (m : ℕ). map (digit counts n) (range_with_len 0 k) ++ (n / ways counts k) % m ∷ []) is_count
    ∙ sym (map-range_with_len_more (digit counts n) 0 k k (omega arith))

pub rest_more : (counts : ℕ → ℕ) (n k rest count : ℕ) → rest ≡ n / ways counts k → count ≡ counts k → rest / count ≡ n / ways counts (k + 1)
rest_more counts n k rest count is_rest is_count =
    ap (λ (r : ℕ). r / count) is_rest ∙ ap (λ (m : ℕ). n / ways counts k / m) is_count ∙ div-div-eq-div-mul n (ways counts k) (counts k) ∙ ap (λ (w : ℕ). n / w) (sym (ways_more counts k))

abbrev pub naming_by : List ℕ → List (ℕ × List ℕ) → ℕ → Naming
naming_by pick torn len = record { pick = pick; torn = torn; newest = true; len = Some len }

pub naming_is : (pick pick2 : List ℕ) (torn : List (ℕ × List ℕ)) (len len2 : ℕ) → pick ≡ pick2 → torn ≡ [] → len ≡ len2 → naming_by pick torn len ≡ naming_by pick2 [] len2
naming_is pick pick2 torn len len2 a b c = ap (λ p. naming_by p torn len) a ∙ ap (λ t. naming_by pick2 t len) b ∙ ap (λ l. naming_by pick2 [] l) c

pub some_both : (a b : ℕ) → 0 < a → 0 < b → 0 < a * b
some_both a (suc b) some less = omega (arith, some, mul-suc a b)
some_both a zero some less = absurd (omega (arith, less))

-- there is a choice at least
pub some_way : (s : FileState) (k : ℕ) → 0 < ways (value_count s) k
some_way s zero = omega arith
some_way s (suc k) = some_both (ways (value_count s) k) (suc (length (s.earlier k))) (some_way s k) (omega arith)

pub some_choice : (sector : ℕ) (s : FileState) → 0 < choice_count sector s
some_choice sector s = some_both (ways (value_count s) (sector_count sector s.greatest)) (length_count sector s.least s.greatest) (some_way s (sector_count sector s.greatest)) (some_length (nat_eq s.least s.greatest))
  where
    some_length : (b : Bool) → 0 < cond b 1 (2 + ((s.greatest - 1) / sector - s.least / sector))
    some_length true = omega arith
    some_length false = omega arith

-- nothing is left of a number exactly below the count of choices
pub none_left : (n a b m r : ℕ) → 0 < a → 0 < b → m ≡ n / a → r ≡ m / b → (r < 1) ↔ (n < a * b)
none_left n a b m r some less is_m is_r =
    subst (λ (x : ℕ). (x < 1) ↔ (n < a * b)) (sym (is_r ∙ ap (λ (x : ℕ). x / b) is_m ∙ div-div-eq-div-mul n a b)) (by (div-lt_iff_lt-mul {k = a * b} {x = n} {y = 1} (some_both a b some less)))
  where
    by : (n / (a * b) < 1) ↔ (n < 1 * (a * b)) → (n / (a * b) < 1) ↔ (n < a * b)
    by both = ((λ lt. omega (arith, both.0 lt)), (λ lt. both.1 (omega (arith, lt))))

suc-times : (a b : ℕ) → (a + 1) * b ≡ a * b + b
suc-times a b = omega arith

module _ (sector : ℕ) (tears : Bool) (s : FileState) (n : ℕ) (positive : 0 < sector) (least : s.least ≤ s.len) (greatest : s.len ≤ s.greatest) where
  -- a length that is named is one between the least and the greatest
  pub between : (j : ℕ) → (s.least ≤ length_at sector s.least s.greatest j) × (length_at sector s.least s.greatest j ≤ s.greatest)
  between j = elim (eqb_tells j 0) [
    | inl first ↦ subst (λ (b : Bool). (s.least ≤ cond b s.least (rest j)) × (cond b s.least (rest j) ≤ s.greatest)) (sym first.0) (omega arith, omega (arith, least, greatest))
    | inr later ↦ subst (λ (b : Bool). (s.least ≤ cond b s.least (rest j)) × (cond b s.least (rest j) ≤ s.greatest)) (sym later.0) (elim (cases_lt j (length_count sector s.least s.greatest - 1)) [
      | inl lt ↦ subst (λ (b : Bool). (s.least ≤ cond b (multiple j) s.greatest) × (cond b (multiple j) s.greatest ≤ s.greatest)) (sym (lt-ltb j (length_count sector s.least s.greatest - 1) lt)) (middle j later.1 lt)
      | inr past ↦ subst (λ (b : Bool). (s.least ≤ cond b (multiple j) s.greatest) × (cond b (multiple j) s.greatest ≤ s.greatest)) (sym (le-ltb j (length_count sector s.least s.greatest - 1) past)) (omega (arith, least, greatest), omega arith)
    ])
  ]
    where
      multiple : ℕ → ℕ
      multiple j = (s.least / sector + j) * sector

      rest : ℕ → ℕ
      rest j = cond (nat_lt j (length_count sector s.least s.greatest - 1)) ((s.least / sector + j) * sector) s.greatest

      few : (b : Bool) (j : ℕ) → (j ≡ 0 → ⊥) → j < cond b 1 (2 + ((s.greatest - 1) / sector - s.least / sector)) - 1 → s.least / sector + j ≤ (s.greatest - 1) / sector
      few true j some lt = absurd (omega (arith, lt))
      few false j some lt = omega (arith, lt, some)

      middle : (j : ℕ) → (j ≡ 0 → ⊥) → j < length_count sector s.least s.greatest - 1 → (s.least ≤ (s.least / sector + j) * sector) × ((s.least / sector + j) * sector ≤ s.greatest)
      middle j some lt =
          let up : s.least / sector + 1 ≤ s.least / sector + j = omega (arith, some) in (
            omega (arith, lt-div-mul-add {a = s.least} {b = sector} positive, mul-le-mul_right sector up, suc-times (s.least / sector) sector),
            omega (arith, mul-le-mul_right sector (few (nat_eq s.least s.greatest) j some lt), div-mul-le_self (s.greatest - 1) sector),
          )

  picked_is : (k : ℕ) → k < sector_count sector s.greatest → picked (map (digit (value_count s) n) (range_with_len 0 (sector_count sector s.greatest))) true k (suc (length (s.earlier k))) ≡ digit (value_count s) n k
  picked_is k lt =
      let pick = map (digit (value_count s) n) (range_with_len 0 (sector_count sector s.greatest)) in
      let long : length pick ≡ sector_count sector s.greatest = length-map-range_with_len (digit (value_count s) n) 0 (sector_count sector s.greatest) in
      ap (λ (b : Bool). cond b (get_or pick k 0 % suc (length (s.earlier k))) (suc (length (s.earlier k)) - 1)) (lt-ltb k (length pick) (omega (arith, long)))
      ∙ ap (λ (m : ℕ). m % suc (length (s.earlier k))) (get_or-map-range_with_len (digit (value_count s) n) 0 (sector_count sector s.greatest) k k 0 lt (omega arith))
      ∙ mod-eq_of_lt (mod-lt (n / ways (value_count s) k) (omega arith))

  pub sector_there : (i : ℕ) → i < s.greatest → i / sector < sector_count sector s.greatest
  sector_there i lt = omega (arith, (le-div_iff_mul-le {k = sector} {x = i / sector + 1} {y = s.greatest + sector - 1} positive).1 (omega (arith, div-mul-le_self i sector, suc-times (i / sector) sector)))

  untorn : (t b : Bool) (k : ℕ) → torn_here t b (naming_at sector s n) k ≡ None
  untorn true true k = refl
  untorn true false k = refl
  untorn false b k = refl

  exact : (l : ℕ) → (s.least ≤ l) × (l ≤ s.greatest) → max s.least (min l s.greatest) ≡ l
  exact l in_ = omega (arith, in_.0, in_.1)

  pub has_digits : HasDigits sector s n (image_of sector tears s (naming_at sector s n))
  has_digits =
      let j : ℕ = n / ways (value_count s) (sector_count sector s.greatest) % length_count sector s.least s.greatest in
      let l : ℕ = length_at sector s.least s.greatest j in
      let naming : Naming = naming_at sector s n in
      let long : length (image_of sector tears s naming) ≡ l = image_len sector tears s naming ∙ exact l (between j) in
      record {
        len = long;
        each = λ i lt.
            image_at sector tears s naming i (omega (arith, image_len sector tears s naming))
            ∙ ap (λ (torn : Option (List ℕ)). byte_by torn (i % sector) (listed s (i / sector) (picked naming.pick true (i / sector) (suc (length (s.earlier (i / sector))))) i)) (untorn tears (nat_lt 0 (length (s.earlier (i / sector)))) (i / sector))
            ∙ ap (λ (m : ℕ). listed s (i / sector) m i) (picked_is (i / sector) (sector_there i (omega (arith, long, (between j).1))));
      }

-- the same of a naming that has this number
pub named_digits : (sector : ℕ) (tears : Bool) (s : FileState) (n m : ℕ) (naming : Naming) → IsTrue (is_sector_size sector) → IsSolid sector s → naming ≡ naming_at sector s m → m ≡ n → HasDigits sector s n (image_of sector tears s naming)
named_digits sector tears s n m naming size solid is same =
    subst (λ (x : Naming). HasDigits sector s n (image_of sector tears s x)) (sym (is ∙ ap (λ (k : ℕ). naming_at sector s k) same)) (has_digits sector tears s n (size_positive sector size).0 solid.least solid.greatest)
