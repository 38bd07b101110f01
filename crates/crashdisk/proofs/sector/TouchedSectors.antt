-- The sectors that a call touches.
use Rattle.crashdisk.proofs.Below.{AreWhole, IsListOf, List, Touches, [], ap, append_assoc, arith, cases_lt, drop, file_by, get_or, get_or-drop, get_or_append_left, get_or_at, get_or_past, inl, inr, inside, last_of, length, length-append, length-drop, max, min, place_in, refl, replicate, replicate-append-replicate, sector_at, sector_le, subst, sym, value_of, ℕ, ⊎_elim, ◌%◌, ◌*◌, ◌++◌, ◌+◌, ◌-◌, ◌/◌, ◌<◌, ◌∙◌, ◌∷◌, ◌≡◌, ◌≢◌, ◌≤◌}

-- a list that is lengthened by one element more
pub grown_more : {A : Type 0} (now old : List A) (m n : ℕ) (z : A) → now ≡ old ++ replicate (m - n) z → n ≤ m → now ++ z ∷ [] ≡ old ++ replicate (m + 1 - n) z
grown_more now old m n z is le =
    let one : m - n + 1 ≡ m + 1 - n = omega arith in
    ap (λ l. l ++ z ∷ []) is ∙ append_assoc old (replicate (m - n) z) (z ∷ []) ∙ ap (λ l. old ++ l) (replicate-append-replicate (m - n) 1 z ∙ ap (λ j. replicate j z) one)

-- what a sector holds from a place on
module _ (sector k place n : ℕ) (sectors : List (List (List ℕ))) (p part : List ℕ) (positive : 0 < sector) (whole : AreWhole sector sectors) (there : k < length sectors) (is_p : p ≡ last_of (get_or sectors k []))
    (is_part : part ≡ drop n p) (is_n : n ≡ min (place - k * sector) (length p)) where
  long : length p ≡ sector
  long = ap (λ (l : List ℕ). length l) is_p ∙ whole.long k (length (get_or sectors k []) - 1) there (omega (arith, whole.some k there))

  present_at : (i : ℕ) → i / sector ≡ k → value_of sector (last_of (get_or sectors (i / sector) [])) i ≡ get_or p (i - k * sector) 0
  present_at i is = ap (λ (j : ℕ). value_of sector (last_of (get_or sectors j [])) i) is ∙ ap (λ (l : List ℕ). get_or l (i % sector) 0) (sym is_p) ∙ ap (λ (j : ℕ). get_or p j 0) (place_in sector k i is)

  part_at : (j : ℕ) → get_or part j 0 ≡ get_or p (n + j) 0
  part_at j = ap (λ (l : List ℕ). get_or l j 0) is_part ∙ get_or-drop n p j 0

  part_long : length part ≡ length p - n
  part_long = ap (λ (l : List ℕ). length l) is_part ∙ length-drop n p

  pub past_is : ((j : ℕ) × (j < length part) × (0 < get_or part j 0)) → (i : ℕ) × (place ≤ i) × (i / sector ≡ k) × (value_of sector (last_of (get_or sectors (i / sector) [])) i ≢ 0)
  past_is held =
      let j = held.0 in
      let i = k * sector + n + j in
      let lt : n + j < sector = omega (arith, held.1, part_long, long) in
      let at : i / sector ≡ k = sector_at sector k i positive (omega arith) (omega arith) in
      let back : i - k * sector ≡ n + j = omega arith in
      (i, omega (arith, is_n, long), at, λ zero_there. omega (arith, held.2, part_at j, ap (λ (m : ℕ). get_or p m 0) back, present_at i at, zero_there))

  pub is_past : ((i : ℕ) × (place ≤ i) × (i / sector ≡ k) × (value_of sector (last_of (get_or sectors (i / sector) [])) i ≢ 0)) → (j : ℕ) × (j < length part) × (0 < get_or part j 0)
  is_past held =
      let i = held.0 in
      let at = inside sector k i positive held.2 in
      let j = i - k * sector - n in
      let back : n + j ≡ i - k * sector = omega (arith, is_n, held.1, long, at.0, at.1) in
      (j, omega (arith, part_long, long, back, at.1, at.0), ⊎_elim (λ some. some) (λ none. absurd (held.3 (present_at i held.2 ∙ ap (λ (m : ℕ). get_or p m 0) (sym back) ∙ sym (part_at j) ∙ (let z : get_or part j 0 ≡ 0 = omega arith in z)))) (cases_lt 0 (get_or part j 0)))

-- of a sector that isn't there nothing is held
pub none_past : (sector k place : ℕ) (sectors : List (List (List ℕ))) → length sectors ≤ k → ((i : ℕ) × (place ≤ i) × (i / sector ≡ k) × (value_of sector (last_of (get_or sectors (i / sector) [])) i ≢ 0)) → ⊥
none_past sector k place sectors past held =
    held.3 (ap (λ (l : List (List ℕ)). value_of sector (last_of l) held.0) (ap (λ (j : ℕ). get_or sectors j []) held.2 ∙ get_or_past sectors k [] past))

-- the touched sectors below a bound, as they are found
pub record Below (touches : ℕ → Type 0) (bound : ℕ) (list : List ℕ) : Type 0 where
  pub below : (i : ℕ) → i < length list → get_or list i 0 < bound
  pub rising : (i j : ℕ) → i < j → j < length list → get_or list i 0 < get_or list j 0
  pub touched : (i : ℕ) → i < length list → touches (get_or list i 0)
  pub all : (k : ℕ) → touches k → k < bound → (i : ℕ) × (i < length list) × (get_or list i 0 ≡ k)

module _ (touches : ℕ → Type 0) (bound : ℕ) where
  pub none_below : ((k : ℕ) → touches k → bound ≤ k) → Below touches bound []
  none_below low = record { below = λ i lt. absurd (omega arith); rising = λ i j lt lt_j. absurd (omega arith); touched = λ i lt. absurd (omega arith); all = λ k t lt. absurd (omega (arith, low k t)) }

  pub one_skipped : (list : List ℕ) → Below touches bound list → (touches bound → ⊥) → Below touches (bound + 1) list
  one_skipped list found not = record {
    below = λ i lt. omega (arith, found.below i lt);
    rising = found.rising;
    touched = found.touched;
    all = λ k t lt. elim (cases_lt k bound) [ inl below ↦ found.all k t below | inr at ↦ absurd (not (subst touches (let is : k ≡ bound = omega arith in is) t)) ];
  }

  pub one_found : (list : List ℕ) → Below touches bound list → touches bound → Below touches (bound + 1) (list ++ bound ∷ [])
  one_found list found t =
      let more : length (list ++ bound ∷ []) ≡ length list + 1 = length-append list (bound ∷ []) in
      let was : (i : ℕ) → i < length list → get_or (list ++ bound ∷ []) i 0 ≡ get_or list i 0 = λ i lt. get_or_append_left list (bound ∷ []) 0 i lt in
      let now : (i : ℕ) → i ≡ length list → get_or (list ++ bound ∷ []) i 0 ≡ bound = λ i is. get_or_at list bound [] 0 i (sym is) in record {
        below = λ i lt. elim (cases_lt i (length list)) [ inl old ↦ omega (arith, was i old, found.below i old) | inr at ↦ omega (arith, now i (omega arith)) ];
        rising = λ i j lt lt_j. elim (cases_lt j (length list)) [
          | inl old ↦ omega (arith, was i (omega arith), was j old, found.rising i j lt old)
          | inr at ↦ omega (arith, was i (omega arith), now j (omega arith), found.below i (omega arith))
        ];
        touched = λ i lt. elim (cases_lt i (length list)) [ inl old ↦ subst touches (sym (was i old)) (found.touched i old) | inr at ↦ subst touches (sym (now i (omega arith))) t ];
        all = λ k tk lt. elim (cases_lt k bound) [
          | inl below ↦ let one = found.all k tk below in (one.0, omega (arith, one.1), was one.0 one.1 ∙ one.2)
          | inr at ↦ (length list, omega (arith, more), now (length list) refl ∙ (let is : bound ≡ k = omega arith in is))
        ];
      }

  pub all_below : (list : List ℕ) → Below touches bound list → ((k : ℕ) → touches k → k < bound) → IsListOf touches list
  all_below list found high = record { rising = found.rising; touched = found.touched; all = λ k t. found.all k t (high k t) }

-- where the touched sectors of a call lie
module _ (sector from to end len : ℕ) (sectors : List (List (List ℕ))) (positive : 0 < sector) where
  pub touched_from : (k : ℕ) → Touches sector (file_by sector sectors len 0 0) from to end k → min from len / sector ≤ k
  touched_from k (inl meets) = omega (arith, sector_le sector (min from len) meets.0 positive (omega (arith, meets.1)), meets.3)
  touched_from k (inr stale) = omega (arith, sector_le sector (min from len) stale.2.0 positive (omega (arith, stale.2.1)), stale.2.2)

  pub touched_to : (k place : ℕ) → (len < end → end ≤ place) → (end ≤ len → to ≤ place) → to ≤ max end len → Touches sector (file_by sector sectors len 0 0) from to end k → k < place / sector + 1
  touched_to k place a b c (inl meets) = omega (arith, sector_le sector meets.0 place positive (⊎_elim (λ lt. omega (arith, a lt, c, meets.2)) (λ le. omega (arith, b le, meets.2)) (cases_lt len end)), meets.3)
  touched_to k place a b c (inr stale) = omega (arith, sector_le sector stale.1.0 place positive (omega (arith, a stale.0, stale.1.2)), stale.1.3)

  -- each is held where those of the range are
  pub touched_there : (k : ℕ) → (from < to → to / sector < length sectors) → Touches sector (file_by sector sectors len 0 0) from to end k → k < length sectors
  touched_there k there (inl meets) = omega (arith, sector_le sector meets.0 to positive (omega (arith, meets.2)), meets.3, there (omega (arith, meets.1, meets.2)))
  touched_there k there (inr stale) = ⊎_elim
      (λ lt. lt)
      (λ past. absurd (none_past sector k len sectors past stale.2))
      (cases_lt k (length sectors))
