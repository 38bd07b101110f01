-- Each image is named by some choice.
use Rattle.crashdisk.proofs.Between.{Bool, CanBeSaid, EachImageIsNamed, FileState, IsImage, IsSound, IsTrue, List, Naming, None, OneListed, Option, Some, Value, [], ap, arith, byte_by, cases_eq, cases_lt, cond, div-mul-le_self, eq-eqb, eqb_tells, false, get_or, get_or-map-range_with_len, get_or_default, get_or_past, image_of, inl, inr, inside, is_sector_size, last_torn, length, length-map-range_with_len, listed, lt-ltb, map, mod-eq_of_lt, mod-lt, mul-le-mul_left, nat_eq, nat_lt, or_else, picked, place_in, range_with_len, refl, same_number_lists, sector_le, size_least, size_positive, subst, suc, sym, torn_here, true, zero, ℕ, ◌%◌, ◌&&◌, ◌*◌, ◌+◌, ◌-◌, ◌/◌, ◌<◌, ◌^◌, ◌∙◌, ◌∷◌, ◌≡◌, ◌≤◌}
use Rattle.crashdisk.proofs.image.ImageNamedByChoice.{image_at, image_len}

module _ (sector : ℕ) (tears : Bool) (s : FileState) (c : List ℕ) (positive : 0 < sector) (image : IsImage sector tears s c) where
  -- the number of the value that sector k has
  abbrev pub number_by : (k : ℕ) → OneListed sector tears s c k → ℕ
  number_by k (inl shows) = length (s.earlier k)
  number_by k (inr (inl one)) = one.1.0
  number_by k (inr (inr torn)) = 0

  number_le : (k : ℕ) (one : OneListed sector tears s c k) → number_by k one ≤ length (s.earlier k)
  number_le k (inl shows) = omega arith
  number_le k (inr (inl one)) = omega (arith, one.1.1)
  number_le k (inr (inr torn)) = omega arith

  -- its bytes
  abbrev pub bytes_of : ℕ → List ℕ
  bytes_of k = map (λ j. get_or c (k * sector + j) 0) (range_with_len 0 sector)

  abbrev pub entry_by : (k : ℕ) → OneListed sector tears s c k → List (ℕ × List ℕ) → List (ℕ × List ℕ)
  entry_by k (inl shows) entries = entries
  entry_by k (inr (inl one)) entries = entries
  entry_by k (inr (inr torn)) entries = (k, bytes_of k) ∷ entries

  -- those of the torn sectors below n
  abbrev pub entries_to : ℕ → List (ℕ × List ℕ)
  entries_to zero = []
  entries_to (suc k) = entry_by k (image.each k) (entries_to k)

  abbrev pub numbers_to : ℕ → List ℕ
  numbers_to n = map (λ k. number_by k (image.each k)) (range_with_len 0 n)

  abbrev pub torn_by : (k : ℕ) → OneListed sector tears s c k → Option (List ℕ)
  torn_by k (inl shows) = None
  torn_by k (inr (inl one)) = None
  torn_by k (inr (inr torn)) = Some (bytes_of k)

  -- one entry more for another sector changes nothing
  other_entry : (k j : ℕ) (one : OneListed sector tears s c k) (entries : List (ℕ × List ℕ)) → (k ≡ j → ⊥) → last_torn (entry_by k one entries) j ≡ last_torn entries j
  other_entry k j (inl shows) entries ne = refl
  other_entry k j (inr (inl one)) entries ne = refl
  other_entry k j (inr (inr torn)) entries ne = elim (eqb_tells k j) [
    | inl same ↦ absurd (ne same.1)
    | inr not ↦ ap (λ (b : Bool). or_else (last_torn entries j) (cond b (Some (bytes_of k)) None)) not.0 ∙ or_none (last_torn entries j)
  ]
    where
      or_none : (o : Option (List ℕ)) → or_else o None ≡ o
      or_none None = refl
      or_none (Some b) = refl

  none_above : (n j : ℕ) → n ≤ j → last_torn (entries_to n) j ≡ None
  none_above zero j le = refl
  none_above (suc k) j le = other_entry k j (image.each k) (entries_to k) (λ e. omega (arith, e)) ∙ none_above k j (omega arith)

  this_entry : (k : ℕ) (one : OneListed sector tears s c k) (entries : List (ℕ × List ℕ)) → last_torn entries k ≡ None → last_torn (entry_by k one entries) k ≡ torn_by k one
  this_entry k (inl shows) entries none = none
  this_entry k (inr (inl one)) entries none = none
  this_entry k (inr (inr torn)) entries none = ap (λ (o : Option (List ℕ)). or_else o (cond (nat_eq k k) (Some (bytes_of k)) None)) none ∙ ap (λ (b : Bool). cond b (Some (bytes_of k)) None) (eq-eqb k k refl)

  entry_at : (n j : ℕ) → j < n → last_torn (entries_to n) j ≡ torn_by j (image.each j)
  entry_at zero j lt = absurd (omega arith)
  entry_at (suc k) j lt = elim (cases_eq k j) [
    | inl same ↦ subst (λ (m : ℕ). last_torn (entry_by k (image.each k) (entries_to k)) m ≡ torn_by m (image.each m)) same (this_entry k (image.each k) (entries_to k) (none_above k k (omega arith)))
    | inr ne ↦ other_entry k j (image.each k) (entries_to k) ne ∙ entry_at k j (omega arith)
  ]

  abbrev pub naming : Naming
  naming = record { pick = numbers_to (length c / sector + 1); torn = entries_to (length c / sector + 1); newest = true; len = Some (length c) }

  pick_at : (k : ℕ) → k < length c / sector + 1 → picked (numbers_to (length c / sector + 1)) true k (suc (length (s.earlier k))) ≡ number_by k (image.each k)
  pick_at k lt =
      let long : length (numbers_to (length c / sector + 1)) ≡ length c / sector + 1 = length-map-range_with_len (λ j. number_by j (image.each j)) 0 (length c / sector + 1) in
      let le = number_le k (image.each k) in
      ap (λ (b : Bool). cond b (get_or (numbers_to (length c / sector + 1)) k 0 % suc (length (s.earlier k))) (suc (length (s.earlier k)) - 1)) (lt-ltb k (length (numbers_to (length c / sector + 1))) (omega (arith, long)))
      ∙ ap (λ (n : ℕ). n % suc (length (s.earlier k))) (get_or-map-range_with_len (λ j. number_by j (image.each j)) 0 (length c / sector + 1) k k 0 lt (omega arith))
      ∙ mod-eq_of_lt (omega arith)

  none_at : (i : ℕ) (b : Bool) (x : ℕ) → byte_by (cond b None None) (i % sector) x ≡ x
  none_at i true x = refl
  none_at i false x = refl

  byte_at : (k i : ℕ) → i / sector ≡ k → i < length c → (one : OneListed sector tears s c k)
      → byte_by (cond (tears && nat_lt 0 (length (s.earlier k))) (torn_by k one) None) (i % sector) (listed s k (number_by k one) i) ≡ get_or c i 0
  byte_at k i is lt (inl shows) = none_at i (tears && nat_lt 0 (length (s.earlier k))) (listed s k (length (s.earlier k)) i) ∙ ap (λ (v : Value). v i) (get_or_past (s.earlier k) (length (s.earlier k)) s.present (omega arith)) ∙ sym (shows i is lt)
  byte_at k i is lt (inr (inl one)) = none_at i (tears && nat_lt 0 (length (s.earlier k))) (listed s k one.1.0 i)
      ∙ ap (λ (v : Value). v i) (sym (get_or_default (s.earlier k) one.1.0 one.0 s.present one.1.1) ∙ one.1.2) ∙ sym (one.2 i is lt)
  byte_at k i is lt (inr (inr torn)) =
      ap (λ (t : Bool). byte_by (cond (t && nat_lt 0 (length (s.earlier k))) (Some (bytes_of k)) None) (i % sector) (listed s k 0 i)) torn.0
      ∙ ap (λ (t : Bool). byte_by (cond (true && t) (Some (bytes_of k)) None) (i % sector) (listed s k 0 i)) (lt-ltb 0 (length (s.earlier k)) torn.1)
      ∙ get_or-map-range_with_len (λ j. get_or c (k * sector + j) 0) 0 sector (i % sector) (i % sector) 0 (mod-lt i positive) (omega arith)
      ∙ ap (λ (j : ℕ). get_or c j 0) (let back : k * sector + i % sector ≡ i = omega (arith, place_in sector k i is, (inside sector k i positive is).0) in back)

  pub named : image_of sector tears s naming ≡ c
  named =
      let long : length (image_of sector tears s naming) ≡ length c = omega (arith, image_len sector tears s naming, image.least, image.greatest) in
      same_number_lists (image_of sector tears s naming) c long (λ i lt.
      let k : ℕ = i / sector in
      let below : k < length c / sector + 1 = omega (arith, sector_le sector i (length c) positive (omega (arith, long))) in
      image_at sector tears s naming i (omega (arith, image_len sector tears s naming))
      ∙ ap (λ (n : ℕ). byte_by (torn_here tears (nat_lt 0 (length (s.earlier k))) naming k) (i % sector) (listed s k n i)) (pick_at k below)
      ∙ ap (λ (o : Option (List ℕ)). byte_by (cond (tears && nat_lt 0 (length (s.earlier k))) o None) (i % sector) (listed s k (number_by k (image.each k)) i)) (entry_at (length c / sector + 1) k below)
      ∙ byte_at k i refl (omega (arith, long)) (image.each k))

  fit_by : (k : ℕ) (one : OneListed sector tears s c k) (entries : List (ℕ × List ℕ)) → ((m : ℕ) → (get_or entries m (0, [])).0 ≤ k) → (m : ℕ) → (get_or (entry_by k one entries) m (0, [])).0 ≤ suc k
  fit_by k (inl shows) entries fit m = omega (arith, fit m)
  fit_by k (inr (inl one)) entries fit m = omega (arith, fit m)
  fit_by k (inr (inr torn)) entries fit zero = omega arith
  fit_by k (inr (inr torn)) entries fit (suc m) = omega (arith, fit m)

  entries_fit : (n m : ℕ) → (get_or (entries_to n) m (0, [])).0 ≤ n
  entries_fit zero m = omega arith
  entries_fit (suc k) m = fit_by k (image.each k) (entries_to k) (λ j. entries_fit k j) m

  hold_by : ((i : ℕ) → get_or c i 0 < 256) → (k : ℕ) (one : OneListed sector tears s c k) (entries : List (ℕ × List ℕ)) → ((m j : ℕ) → get_or (get_or entries m (0, [])).1 j 0 < 256)
      → (m j : ℕ) → get_or (get_or (entry_by k one entries) m (0, [])).1 j 0 < 256
  hold_by are k (inl shows) entries hold m j = hold m j
  hold_by are k (inr (inl one)) entries hold m j = hold m j
  hold_by are k (inr (inr torn)) entries hold (suc m) j = hold m j
  hold_by are k (inr (inr torn)) entries hold zero j = elim (cases_lt j sector) [
    | inl lt ↦ subst (λ (b : ℕ). b < 256) (sym (get_or-map-range_with_len (λ i. get_or c (k * sector + i) 0) 0 sector j j 0 lt (omega arith))) (are (k * sector + j))
    | inr past ↦ subst (λ (b : ℕ). b < 256) (sym (get_or_past (bytes_of k) j 0 (omega (arith, length-map-range_with_len (λ i. get_or c (k * sector + i) 0) 0 sector)))) (omega arith)
  ]

  entries_hold : ((i : ℕ) → get_or c i 0 < 256) → (n m j : ℕ) → get_or (get_or (entries_to n) m (0, [])).1 j 0 < 256
  entries_hold are zero m j = omega arith
  entries_hold are (suc k) m j = hold_by are k (image.each k) (entries_to k) (λ a b. entries_hold are k a b) m j

  pub said : IsTrue (is_sector_size sector) → IsSound sector s → CanBeSaid s naming
  said size sound = record {
    pick = λ k. elim (cases_lt k (length c / sector + 1)) [
      | inl lt ↦ omega (arith, get_or-map-range_with_len (λ j. number_by j (image.each j)) 0 (length c / sector + 1) k k 0 lt (omega arith), number_le k (image.each k))
      | inr past ↦ omega (arith, get_or_past (numbers_to (length c / sector + 1)) k 0 (omega (arith, length-map-range_with_len (λ j. number_by j (image.each j)) 0 (length c / sector + 1))))
    ];
    torn = λ n. few (get_or (entries_to (length c / sector + 1)) n (0, [])).0 (entries_fit (length c / sector + 1) n);
    bytes = λ n j. entries_hold are (length c / sector + 1) n j;
    len = λ n e. omega (arith, ap (λ (o : Option ℕ). some_or o) e, image.greatest, sound.within);
  }
    where
      few : (m : ℕ) → m ≤ length c / sector + 1 → m < 2 ^ 32
      few m le = omega (arith, le, mul-le-mul_left (length c / sector) (size_least sector size), div-mul-le_self (length c) sector, image.greatest, sound.within)

      some_or : Option ℕ → ℕ
      some_or None = 0
      some_or (Some n) = n

      are : (i : ℕ) → get_or c i 0 < 256
      are i = elim (cases_lt i (length c)) [
        | inl lt ↦ elim (image.each (i / sector)) [
          | inl shows ↦ subst (λ (b : ℕ). b < 256) (sym (shows i refl lt)) (sound.is_byte i)
          | inr (inl one) ↦ subst (λ (b : ℕ). b < 256) (sym (one.2 i refl lt)) (sound.earlier_is_byte (i / sector) one.0 one.1 i refl)
          | inr (inr torn) ↦ torn.2 i refl
        ]
        | inr past ↦ subst (λ (b : ℕ). b < 256) (sym (get_or_past c i 0 past)) (omega arith)
      ]

pub each_image_is_named : EachImageIsNamed
each_image_is_named sector tears s c size sound image = let positive = (size_positive sector size).0 in
    (naming sector tears s c positive image, said sector tears s c positive image size sound, named sector tears s c positive image)
