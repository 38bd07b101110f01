-- What a read of a modelled file copies.
use Rattle.crashdisk.proofs.Below.{AreWhole, List, [], ap, arith, byte, byte_below, byte_past, cases_eq, cases_lt, div-lt_iff_lt-mul, drop, file_by, get_or, get_or-append_right, get_or-drop, get_or-replicate, get_or-take, get_or_append_left, get_or_past, inl, inr, inside, last_of, le-div_iff_mul-le, length, length-append, length-replicate, length-take-le, mul-le-mul_right, place_in, put_mid, put_mid-paste, refl, replicate, sector_le, sym, take, take_all, value_of, ℕ, ⊎_elim, ◌%◌, ◌*◌, ◌++◌, ◌+◌, ◌-◌, ◌/◌, ◌<◌, ◌∙◌, ◌≡◌, ◌≤◌, ◌⊎◌}

-- the bytes after a copy into their middle
module _ (a k : ℕ) (xs ys : List ℕ) (long : length ys ≡ k) (fits : a + k ≤ length xs) where
  pasted : put_mid a k xs ys ≡ (take a xs ++ ys) ++ drop (a + k) xs
  pasted = put_mid-paste a k xs ys ys k refl refl (sym long) ∙ ap (λ (l : List ℕ). (take a xs ++ l) ++ drop (a + k) xs) (take_all k ys (omega arith))

  front_long : length (take a xs) ≡ a
  front_long = length-take-le a xs (omega arith)

  both_long : length (take a xs ++ ys) ≡ a + k
  both_long = omega (arith, length-append (take a xs) ys, front_long)

  pub mid_inside : (i : ℕ) → a ≤ i → i < a + k → get_or (put_mid a k xs ys) i 0 ≡ get_or ys (i - a) 0
  mid_inside i le lt = ap (λ (l : List ℕ). get_or l i 0) pasted
      ∙ get_or_append_left (take a xs ++ ys) (drop (a + k) xs) 0 i (omega (arith, both_long)) ∙ get_or-append_right (take a xs) ys a i 0 front_long le

  pub mid_outside : (i : ℕ) → (i < a) ⊎ (a + k ≤ i) → get_or (put_mid a k xs ys) i 0 ≡ get_or xs i 0
  mid_outside i (inl lt) = ap (λ (l : List ℕ). get_or l i 0) pasted
      ∙ get_or_append_left (take a xs ++ ys) (drop (a + k) xs) 0 i (omega (arith, both_long)) ∙ get_or_append_left (take a xs) ys 0 i (omega (arith, front_long)) ∙ get_or-take a xs i 0 lt
  mid_outside i (inr le) =
      let same : a + k + (i - (a + k)) ≡ i = omega arith in
      ap (λ (l : List ℕ). get_or l i 0) pasted
      ∙ get_or-append_right (take a xs ++ ys) (drop (a + k) xs) (a + k) i 0 both_long le ∙ get_or-drop (a + k) xs (i - (a + k)) 0 ∙ ap (λ (j : ℕ). get_or xs j 0) same

-- a byte of a file, of its sector
module _ (sector len : ℕ) (xs : List (List (List ℕ))) (positive : 0 < sector) (whole : AreWhole sector xs) where
  pub byte_there : (k i : ℕ) → i / sector ≡ k → i < len → get_or (last_of (get_or xs k [])) (i - k * sector) 0 ≡ byte (file_by sector xs len 0 0) i
  byte_there k i is lt = sym (byte_below (file_by sector xs len 0 0) i lt ∙ ap (λ (j : ℕ). get_or (last_of (get_or xs j [])) (i % sector) 0) is ∙ ap (λ (j : ℕ). get_or (last_of (get_or xs k [])) j 0) (place_in sector k i is))

  pub byte_none : (k i : ℕ) → i / sector ≡ k → length xs ≤ k → byte (file_by sector xs len 0 0) i ≡ 0
  byte_none k i is past = elim (cases_lt i len) [
    | inl lt ↦ byte_below (file_by sector xs len 0 0) i lt ∙ ap (λ (v : List (List ℕ)). value_of sector (last_of v) i) (get_or_past xs (i / sector) [] (omega arith))
    | inr le ↦ byte_past (file_by sector xs len 0 0) i le
  ]

-- the bytes that are copied of the sectors below k
pub record Copied (sector len at n : ℕ) (xs : List (List (List ℕ))) (k : ℕ) (out : List ℕ) : Type 0 where
  pub long : length out ≡ n
  pub done : (i : ℕ) → i < n → (at + i) / sector < k → get_or out i 0 ≡ byte (file_by sector xs len 0 0) (at + i)
  pub left : (i : ℕ) → i < n → k ≤ (at + i) / sector → get_or out i 0 ≡ 0

pub none_copied : (sector len at n : ℕ) (xs : List (List (List ℕ))) (out : List ℕ) → 0 < sector → out ≡ replicate n 0 → Copied sector len at n xs (at / sector) out
none_copied sector len at n xs out positive is = record {
  long = ap (λ (l : List ℕ). length l) is ∙ length-replicate n 0;
  done = λ i lt below. absurd (omega (arith, sector_le sector at (at + i) positive (omega arith)));
  left = λ i lt above. ap (λ (l : List ℕ). get_or l i 0) is ∙ get_or-replicate n i 0 0 lt;
}

-- where sector k ends
pub sector_end : (sector k count : ℕ) → k < count → k * sector + sector ≤ count * sector
sector_end sector k count lt = omega (arith, mul-le-mul_right sector (let next : k + 1 ≤ count = omega arith in next))

-- a loop over the sectors
module _ (sector len at n end : ℕ) (xs : List (List (List ℕ))) (positive : 0 < sector) (whole : AreWhole sector xs) (is_end : end ≤ len) (is_end2 : (at + n ≤ end) ⊎ (len ≤ end)) where
  past_end : (i : ℕ) → i < n → end ≤ at + i → byte (file_by sector xs len 0 0) (at + i) ≡ 0
  past_end i lt le = byte_past (file_by sector xs len 0 0) (at + i) (⊎_elim (λ a. omega arith) (λ b. omega arith) is_end2)

  pub copied_more : (k : ℕ) (out new : List ℕ) (p : List ℕ) → Copied sector len at n xs k out → k < length xs → p ≡ last_of (get_or xs k []) → length new ≡ length out
      → ((i : ℕ) → i < length out → k * sector ≤ at + i → at + i < k * sector + length p → at + i < end → get_or new i 0 ≡ get_or p (at + i - k * sector) 0)
      → ((i : ℕ) → i < length out → (at + i < k * sector) ⊎ ((k * sector + length p ≤ at + i) ⊎ (end ≤ at + i)) → get_or new i 0 ≡ get_or out i 0)
      → Copied sector len at n xs (k + 1) new
  copied_more k out new p so_far there is_p same inner outer =
      let long : length p ≡ sector = ap (λ (l : List ℕ). length l) is_p ∙ whole.long k (length (get_or xs k []) - 1) there (omega (arith, whole.some k there)) in record {
        long = same ∙ so_far.long;
        done = λ i lt below. elim (cases_eq ((at + i) / sector) k) [
          | inl is ↦
              let range = inside sector k (at + i) positive is in
              elim (cases_lt (at + i) end) [
                | inl before ↦ inner i (omega (arith, so_far.long)) range.0 (omega (arith, range.1, long)) before ∙ ap (λ (l : List ℕ). get_or l (at + i - k * sector) 0) is_p ∙ byte_there sector len xs positive whole k (at + i) is (omega arith)
                | inr past ↦ outer i (omega (arith, so_far.long)) (inr (inr past)) ∙ so_far.left i lt (omega (arith, is)) ∙ sym (past_end i lt past)
              ]
          | inr ne ↦
              let first : at + i < k * sector = (div-lt_iff_lt-mul positive).0 (let less : (at + i) / sector < k = omega arith in less) in
              outer i (omega (arith, so_far.long)) (inl first) ∙ so_far.done i lt (omega arith)
        ];
        left = λ i lt above.
            let far : (k + 1) * sector ≤ at + i = (le-div_iff_mul-le positive).0 above in
            outer i (omega (arith, so_far.long)) (inr (inl (omega (arith, long)))) ∙ so_far.left i lt (omega arith);
      }

  -- the whole
  pub copied_all : (k : ℕ) (out : List ℕ) → Copied sector len at n xs k out → (end / sector < k) ⊎ (length xs ≤ k) → (i : ℕ) → i < n → get_or out i 0 ≡ byte (file_by sector xs len 0 0) (at + i)
  copied_all k out done far i lt = elim (cases_lt ((at + i) / sector) k) [
    | inl below ↦ done.done i lt below
    | inr above ↦ done.left i lt above ∙ sym (⊎_elim
        (λ over. past_end i lt (⊎_elim (λ before. absurd (omega (arith, sector_le sector (at + i) end positive (omega arith)))) (λ past. past) (cases_lt (at + i) end)))
        (λ none. byte_none sector len xs positive whole ((at + i) / sector) (at + i) refl (omega arith)) far)
  ]
