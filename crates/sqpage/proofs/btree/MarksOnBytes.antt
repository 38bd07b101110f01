-- Marks on the bytes of a page, by the bits of words.
use Rattle.std.proofs.Common.{◌≡◌, ◌≢◌, ℕ, zero, suc, ◌+◌, ◌-◌, ◌*◌, ◌/◌, ◌%◌, ◌^◌, ◌<◌, ◌≤◌, ◌⊎◌, List, length, min, max, replicate, get_or, set, true, false, bit_and, bit_or, refl, sym, ap, ◌∙◌, inl, inr, arith}
use Rattle.std.specs.Int.{bit_at, w64}
use Rattle.std.proofs.lemmas.Bool.{cases_lt, cases_eq}
use Rattle.std.proofs.lemmas.List.{get_or-set_same, get_or-set_other}
use Rattle.std.proofs.Math.Nat.{mul-sub, mul_comm, mod-eq_of_lt, pow-le-pow_right}
use Rattle.std.proofs.lemmas.Nat.{and_le_r, pow-add, pow_pos}
use Rattle.std.proofs.lemmas.Nat.Bits.{bit_at-zero, bit_at-lt, bit_at_and, bit_at_or, bit_at_mask_inside, bit_at_mask_below, bit_at_mask_above, bit_at-trailing_zeros, ones_shr}
use Rattle.sqpage.specs.Layout.{covers}
use Rattle.sqpage.specs.internal.Marking.{mark_at, SetsBits, HasBit, MarksSpan, IsTouched}

-- a place in a span, and one that isn't
pub covered : (at size place : ℕ) → covers (record { start = at; size = size }) place ≡ true → (at ≤ place) × (place < at + size)
covered at size place e = (grind arith, grind arith)

pub covering : (at size place : ℕ) → at ≤ place → place < at + size → covers (record { start = at; size = size }) place ≡ true
covering at size place le lt = grind arith

pub not_covered : (at size place : ℕ) → covers (record { start = at; size = size }) place ≡ false → (place < at) ⊎ (at + size ≤ place)
not_covered at size place e = elim (cases_lt place at) [
  | inl lt ↦ inl lt
  | inr ge ↦ elim (cases_lt place (at + size)) [
    | inl lt ↦ absurd (let h = covering at size place ge lt in cc)
    | inr ge' ↦ inr ge'
  ]
]

pub not_covering : (at size place : ℕ) → (place < at) ⊎ (at + size ≤ place) → covers (record { start = at; size = size }) place ≡ false
not_covering at size place (inl lt) = grind arith
not_covering at size place (inr ge) = grind arith

-- Marks are 0 or 1.
pub unmarked : (n place : ℕ) → mark_at (replicate n 0) place ≡ 0
unfolding mark_at
unmarked n place = ap (λ w. bit_at w (place % 64)) (zeros n (place / 64)) ∙ bit_at-zero (place % 64)
  where
    zeros : (n k : ℕ) → ◌≡◌ {A = ℕ} (get_or (replicate n 0) k 0) 0
    zeros zero k = refl
    zeros (suc n) zero = refl
    zeros (suc n) (suc k) = zeros n k

pub mark_at_most : (map : List ℕ) (place : ℕ) → mark_at map place ≤ 1
unfolding mark_at
mark_at_most map place = let lt = bit_at-lt (get_or map (place / 64) 0) (place % 64) in omega (arith, lt)

-- a word with a run of bits
pub run_of_bits : (low high : ℕ) → low < high → high ≤ 64 → ((2 ^ 64 - 1) / 2 ^ (64 - (high - low)) * 2 ^ low) % 2 ^ 64 ≡ 2 ^ high - 2 ^ low
run_of_bits low high lt most =
    let n : ℕ = high - low in
    let k : 64 - (64 - n) ≡ n = omega arith in
    let shifted : (2 ^ 64 - 1) / 2 ^ (64 - n) ≡ 2 ^ n - 1 = ones_shr 64 (64 - n) (omega arith) ∙ ap (λ m. 2 ^ m - 1) k in
    let whole : n + low ≡ high = omega arith in
    let product : (2 ^ n - 1) * 2 ^ low ≡ 2 ^ high - 2 ^ low =
    mul_comm (2 ^ n - 1) (2 ^ low) ∙ mul-sub (2 ^ low) (2 ^ n) 1 ∙ (let e : 2 ^ low * 2 ^ n ≡ 2 ^ high = mul_comm (2 ^ low) (2 ^ n) ∙ sym (pow-add 2 n low) ∙ ap (λ m. 2 ^ m) whole in omega (arith, e)) in
    let top : 2 ^ high ≤ 2 ^ 64 = pow-le-pow_right (let two : 0 < 2 = omega arith in two) most in
    let small : 2 ^ high - 2 ^ low < 2 ^ 64 = omega (arith, top, pow_pos low) in
    ap (λ m. (m * 2 ^ low) % 2 ^ 64) shifted ∙ ap (λ m. m % 2 ^ 64) product ∙ mod-eq_of_lt small

-- The bits of a word that a mask has.
pub sets_bits : (word low high : ℕ) → low < high → bit_and word (2 ^ high - 2 ^ low) ≡ 0 → SetsBits word (bit_or word (2 ^ high - 2 ^ low)) low high
sets_bits word low high lt none = record {
  free = λ i from to.
      let inside = bit_at_mask_inside low high i from to in
      let both = bit_at_and word (2 ^ high - 2 ^ low) i in
      let zero : bit_at (bit_and word (2 ^ high - 2 ^ low)) i ≡ 0 = ap (λ w. bit_at w i) none ∙ bit_at-zero i in
      least_of (bit_at word i) _ _ both inside zero (bit_at-lt word i);
  is_set = λ i from to.
      let inside = bit_at_mask_inside low high i from to in
      most_of (bit_at word i) _ _ (bit_at_or word (2 ^ high - 2 ^ low) i) inside (bit_at-lt word i);
  kept = λ i outside.
      let none = masked i outside in
      same_of (bit_at word i) _ _ (bit_at_or word (2 ^ high - 2 ^ low) i) none;
}
  where
    masked : (i : ℕ) → (i < low) ⊎ (high ≤ i) → bit_at (2 ^ high - 2 ^ low) i ≡ 0
    masked i (inl below) = bit_at_mask_below low high i below
    masked i (inr above) = bit_at_mask_above low high i above

    least_of : (a b m : ℕ) → m ≡ min a b → b ≡ 1 → m ≡ 0 → a < 2 → a ≡ 0
    least_of a b m e one none lt = grind arith

    most_of : (a b m : ℕ) → m ≡ max a b → b ≡ 1 → a < 2 → m ≡ 1
    most_of a b m e one lt = grind arith

    same_of : (a b m : ℕ) → m ≡ max a b → b ≡ 0 → m ≡ a
    same_of a b m e none = grind arith

pub has_bit : (word low high : ℕ) → low < high → 2 ^ high - 2 ^ low < 2 ^ 64 → bit_and word (2 ^ high - 2 ^ low) ≢ 0 → HasBit word low high
has_bit word low high lt small some =
    let n : ℕ = bit_and word (2 ^ high - 2 ^ low) in
    let found = bit_at-trailing_zeros w64 n (positive n some) (omega (arith, small, and_le_r word (2 ^ high - 2 ^ low))) in
    at _ found.1
  where
    positive : (n : ℕ) → n ≢ 0 → 0 < n
    positive zero ne = absurd (ne refl)
    positive (suc n) ne = omega arith

    one_of : (a b m : ℕ) → m ≡ min a b → m ≡ 1 → a < 2 → b < 2 → (a ≡ 1) × (b ≡ 1)
    one_of a b m e one la lb = (grind arith, grind arith)

    at : (i : ℕ) → bit_at (bit_and word (2 ^ high - 2 ^ low)) i ≡ 1 → HasBit word low high
    at i e =
        let both = bit_at_and word (2 ^ high - 2 ^ low) i in
        let mine = one_of (bit_at word i) (bit_at (2 ^ high - 2 ^ low) i) _ both e (bit_at-lt word i) (bit_at-lt (2 ^ high - 2 ^ low) i) in
        elim (cases_lt i low) [
          | inl below ↦ absurd (let z = bit_at_mask_below low high i below in omega (arith, z, mine.1))
          | inr from ↦ elim (cases_lt i high) [
            | inl to ↦ (i, from, to, mine.0)
            | inr above ↦ absurd (let z = bit_at_mask_above low high i above in omega (arith, z, mine.1))
          ]
        ]

-- A word of the map is another now.
mark_in : (map : List ℕ) (k w place : ℕ) → k < length map → place / 64 ≡ k → mark_at (set map k w) place ≡ bit_at w (place % 64)
unfolding mark_at
mark_in map k w place lt e = ap (λ j. bit_at (get_or (set map k w) j 0) (place % 64)) e ∙ ap (λ n. bit_at n (place % 64)) (get_or-set_same map k w 0 lt)

mark_out : (map : List ℕ) (k w place : ℕ) → place / 64 ≢ k → mark_at (set map k w) place ≡ mark_at map place
unfolding mark_at
mark_out map k w place ne = ap (λ n. bit_at n (place % 64)) (get_or-set_other map k (place / 64) w 0 ne)

mark_was : (map : List ℕ) (k place : ℕ) → place / 64 ≡ k → mark_at map place ≡ bit_at (get_or map k 0) (place % 64)
unfolding mark_at
mark_was map k place e = ap (λ j. bit_at (get_or map j 0) (place % 64)) e

-- A part of a span is marked, up to a place in a word, and then the next part, in that word.
module _ (old map : List ℕ) (at from to k : ℕ) (m : MarksSpan old map (record { start = at; size = from - at })) (le : at ≤ from) (lt : from < to) (word : k ≡ from / 64) (most : to ≤ k * 64 + 64) where
  pub part_touched : (end : ℕ) → to ≤ end → HasBit (get_or map k 0) (from % 64) (to - k * 64) → IsTouched old (record { start = at; size = end - at })
  part_touched end within h =
      let place : ℕ = k * 64 + h.0 in
      let here : place / 64 ≡ k = omega (arith, h.2) in
      let bit : place % 64 ≡ h.0 = omega (arith, h.2) in
      let low : from ≤ place = omega (arith, h.1) in
      let high : place < to = omega (arith, h.2) in
      record {
        place = place;
        in_it = covering at (end - at) place (omega arith) (omega arith);
        marked = sym (m.kept place (not_covering at (from - at) place (inr (omega arith)))) ∙ mark_was map k place here ∙ ap (λ i. bit_at (get_or map k 0) i) bit ∙ h.3;
      }

  pub part_marked : (w : ℕ) → k < length map → SetsBits (get_or map k 0) w (from % 64) (to - k * 64) → MarksSpan old (set map k w) (record { start = at; size = to - at })
  part_marked w inside b = record { free = free; marked = marked; kept = kept }
    where
      free : (place : ℕ) → covers (record { start = at; size = to - at }) place ≡ true → mark_at old place ≡ 0
      free place c = let h = covered at (to - at) place c in elim (cases_lt place from) [
        | inl before ↦ m.free place (covering at (from - at) place h.0 (omega arith))
        | inr behind ↦
            let here : place / 64 ≡ k = omega (arith, h.1) in
            sym (m.kept place (not_covering at (from - at) place (inr (omega arith)))) ∙ mark_was map k place here ∙ b.free (place % 64) (omega arith) (omega (arith, h.1))
      ]

      marked : (place : ℕ) → covers (record { start = at; size = to - at }) place ≡ true → mark_at (set map k w) place ≡ 1
      marked place c = let h = covered at (to - at) place c in elim (cases_lt place from) [
        | inl before ↦
            let was = m.marked place (covering at (from - at) place h.0 (omega arith)) in
            elim (cases_eq (place / 64) k) [
              | inl here ↦ mark_in map k w place inside here ∙ b.kept (place % 64) (inl (omega arith)) ∙ sym (mark_was map k place here) ∙ was
              | inr other ↦ mark_out map k w place other ∙ was
            ]
        | inr behind ↦
            let here : place / 64 ≡ k = omega (arith, h.1) in
            mark_in map k w place inside here ∙ b.is_set (place % 64) (omega arith) (omega (arith, h.1))
      ]

      kept : (place : ℕ) → covers (record { start = at; size = to - at }) place ≡ false → mark_at (set map k w) place ≡ mark_at old place
      kept place c =
          let was : mark_at map place ≡ mark_at old place = m.kept place (not_covering at (from - at) place (elim (not_covered at (to - at) place c) [ inl before ↦ inl before | inr behind ↦ inr (omega (arith, behind)) ])) in
          elim (cases_eq (place / 64) k) [
            | inl here ↦
                let outside : (place % 64 < from % 64) ⊎ (to - k * 64 ≤ place % 64) = elim (not_covered at (to - at) place c) [ inl before ↦ inl (omega (arith, before)) | inr behind ↦ inr (omega (arith, behind)) ] in
                mark_in map k w place inside here ∙ b.kept (place % 64) outside ∙ sym (mark_was map k place here) ∙ was
            | inr other ↦ mark_out map k w place other ∙ was
          ]

-- A word that has no bit set, and then all.
pub fills : (word : ℕ) → word ≡ 0 → SetsBits word (2 ^ 64 - 1) 0 64
fills word e = record {
  free = λ i from to. none i;
  is_set = λ i from to. bit_at_mask_inside 0 64 i from to;
  kept = λ i outside. elim outside [ inl below ↦ absurd (omega (arith, below)) | inr above ↦ bit_at_mask_above 0 64 i above ∙ sym (none i) ];
}
  where
    none : (i : ℕ) → bit_at word i ≡ 0
    none i = ap (λ w. bit_at w i) e ∙ bit_at-zero i

pub some_bit : (word : ℕ) → word < 2 ^ 64 → word ≢ 0 → HasBit word 0 64
some_bit zero small ne = absurd (ne refl)
some_bit (suc n) small ne = let found = bit_at-trailing_zeros w64 (suc n) (omega arith) small in (_, omega arith, found.0, found.1)

-- A span is marked up to a word, and then that word.
module _ (old map : List ℕ) (at k : ℕ) (m : MarksSpan old map (record { start = at; size = 64 * k - at })) (le : at ≤ 64 * k) where
  pub word_touched : (end : ℕ) → 64 * k + 64 ≤ end → HasBit (get_or map k 0) 0 64 → IsTouched old (record { start = at; size = end - at })
  word_touched end within h =
      let low : 64 * k % 64 ≡ 0 = omega arith in
      let high : 64 * k + 64 - k * 64 ≡ 64 = omega arith in
      part_touched old map at (64 * k) (64 * k + 64) k m le (omega arith) (omega arith) (omega arith) end within (rw (low, high) h)

  pub word_marked : (w : ℕ) → k < length map → SetsBits (get_or map k 0) w 0 64 → MarksSpan old (set map k w) (record { start = at; size = 64 * k + 64 - at })
  word_marked w inside b =
      let low : 64 * k % 64 ≡ 0 = omega arith in
      let high : 64 * k + 64 - k * 64 ≡ 64 = omega arith in
      part_marked old map at (64 * k) (64 * k + 64) k m le (omega arith) (omega arith) (omega arith) w inside (rw (low, high) b)
