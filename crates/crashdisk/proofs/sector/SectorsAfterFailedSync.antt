-- A sync that failed, and moved the picked value of each sector to the end.
use Rattle.crashdisk.proofs.Below.{AreWhole, Bool, Contains, Contains-append_cases, Contains-append_left, Contains-append_right, FileState, IsShuffled, IsTurned, List, Same, Value, [], ap, arith, before_last, before_pushed, cases_eq, cases_lt, cond, drop, drop-map, false, file_by, get_or, get_or-append_right, get_or-drop, get_or-map, get_or-take, get_or_append_left, get_or_default, get_or_past, inl, inr, last_of, length, length-append, length-drop, length-map, length-take-le, map, map-append, mod-lt, nat_lt, picked, refl, subst, suc, sym, take, take-map, true, turned, value_of, zero, ℕ, ⊎_elim, ◌%◌, ◌++◌, ◌+◌, ◌-◌, ◌<◌, ◌∙◌, ◌∷◌, ◌≡◌, ◌≤◌, ◌⊎◌}
use Rattle.crashdisk.proofs.sector.ValuesOfChangedSectors.{split_last, last_pushed}

-- without the value of number n
abbrev pub without : {X : Type 0} → ℕ → List X → List X
without n xs = take n xs ++ drop (n + 1) xs

pub length_without : {X : Type 0} (n : ℕ) (xs : List X) → n < length xs → length (without n xs) + 1 ≡ length xs
length_without n xs lt = omega (arith, length-append (take n xs) (drop (n + 1) xs), length-take-le n xs (omega arith), length-drop (n + 1) xs)

pub get_without_below : {X : Type 0} (n : ℕ) (xs : List X) (j : ℕ) (d : X) → n < length xs → j < n → get_or (without n xs) j d ≡ get_or xs j d
get_without_below n xs j d lt below = get_or_append_left (take n xs) (drop (n + 1) xs) d j (omega (arith, length-take-le n xs (omega arith))) ∙ get_or-take n xs j d below

pub get_without_past : {X : Type 0} (n : ℕ) (xs : List X) (j : ℕ) (d : X) → n < length xs → n ≤ j → get_or (without n xs) j d ≡ get_or xs (suc j) d
get_without_past n xs j d lt past =
    get_or-append_right (take n xs) (drop (n + 1) xs) n j d (length-take-le n xs (omega arith)) past
    ∙ get_or-drop (n + 1) xs (j - n) d
    ∙ ap (λ (i : ℕ). get_or xs i d) (let at : n + 1 + (j - n) ≡ suc j = omega arith in at)

pub picked_below : (pick : List ℕ) (newest : Bool) (k count : ℕ) → 0 < count → picked pick newest k count < count
picked_below pick newest k count some = by (nat_lt k (length pick)) newest
  where
    by : (b n : Bool) → cond b (get_or pick k 0 % count) (cond n (count - 1) 0) < count
    by true n = mod-lt (get_or pick k 0) some
    by false true = omega arith
    by false false = some

-- the values of a sector, as they are listed
pub listed_all : (sector : ℕ) (values : List (List ℕ)) → 0 < length values → map (value_of sector) values ≡ map (value_of sector) (before_last values) ++ value_of sector (last_of values) ∷ []
listed_all sector values some = ap (λ (v : List (List ℕ)). map (value_of sector) v) (split_last values some) ∙ map-append (value_of sector) (before_last values) (last_of values ∷ [])

pub listed_count : (sector : ℕ) (values : List (List ℕ)) → 0 < length values → suc (length (map (value_of sector) (before_last values))) ≡ length values
listed_count sector values some = omega (arith, ap (λ (l : List Value). length l) (listed_all sector values some), length-append (map (value_of sector) (before_last values)) (value_of sector (last_of values) ∷ []), length-map values (value_of sector))

module _ (sector : ℕ) (xs ys : List (List (List ℕ))) (len least greatest len2 least2 greatest2 : ℕ) where
  pub turned_at : (k n : ℕ) → 0 < length (get_or xs k []) → n < length (get_or xs k []) → get_or ys k [] ≡ turned n (get_or xs k [])
      → IsTurned sector (file_by sector xs len least greatest) (file_by sector ys len2 least2 greatest2) k n
  turned_at k n some lt is =
      let vs = get_or xs k [] in
      let all = listed_all sector vs some in record {
        value = value_of sector (last_of vs);
        is = λ i at. ap (λ (j : ℕ). value_of sector (last_of (get_or xs j [])) i) (sym at);
        earlier = ap (λ (v : List (List ℕ)). map (value_of sector) (before_last v)) is
            ∙ ap (λ (v : List (List ℕ)). map (value_of sector) v) (before_pushed (without n vs) (get_or vs n []))
            ∙ map-append (value_of sector) (take n vs) (drop (n + 1) vs)
            ∙ ap (λ (l : List Value). l ++ map (value_of sector) (drop (n + 1) vs)) (sym (take-map (value_of sector) n vs))
            ∙ ap (λ (l : List Value). take n (map (value_of sector) vs) ++ l) (sym (drop-map (value_of sector) (n + 1) vs))
            ∙ ap (λ (l : List Value). take n l ++ drop (n + 1) l) all;
        present = λ i at. ap (λ (j : ℕ). value_of sector (last_of (get_or ys j [])) i) at
            ∙ ap (λ (v : List (List ℕ)). value_of sector (last_of v) i) is
            ∙ ap (λ (v : List ℕ). value_of sector v i) (last_pushed (without n vs) (get_or vs n []))
            ∙ ap (λ (v : Value). v i) (sym (get_or-map (value_of sector) vs n [] (value_of sector (last_of vs)) lt))
            ∙ ap (λ (l : List Value). get_or l n (value_of sector (last_of vs)) i) all;
      }

  pub turned_past : (k n : ℕ) → get_or xs k [] ≡ [] → get_or ys k [] ≡ [] → n < 1 → IsTurned sector (file_by sector xs len least greatest) (file_by sector ys len2 least2 greatest2) k n
  turned_past k zero none left lt = record {
    value = λ i. 0;
    is = λ i at. sym (ap (λ (j : ℕ). value_of sector (last_of (get_or xs j [])) i) at ∙ ap (λ (v : List (List ℕ)). value_of sector (last_of v) i) none);
    earlier = ap (λ (v : List (List ℕ)). map (value_of sector) (before_last v)) left ∙ sym (ap (λ (v : List (List ℕ)). without 0 (map (value_of sector) (before_last v) ++ (λ i. 0) ∷ [])) none);
    present = λ i at. ap (λ (j : ℕ). value_of sector (last_of (get_or ys j [])) i) at ∙ ap (λ (v : List (List ℕ)). value_of sector (last_of v) i) left
        ∙ sym (ap (λ (v : List (List ℕ)). get_or (map (value_of sector) (before_last v) ++ (λ i. 0) ∷ []) 0 (λ i. 0) i) none);
  }
  turned_past k (suc n) none left lt = absurd (omega arith)

  pub turned_each : (pick : List ℕ) → AreWhole sector xs → length ys ≡ length xs
      → ((k : ℕ) → k < length xs → get_or ys k [] ≡ turned (picked pick true k (length (get_or xs k []))) (get_or xs k []))
      → (k : ℕ) → IsTurned sector (file_by sector xs len least greatest) (file_by sector ys len2 least2 greatest2) k (picked pick true k (suc (length (map (value_of sector) (before_last (get_or xs k []))))))
  turned_each pick whole count each k = elim (cases_lt k (length xs)) [
    | inl lt ↦
        let some = whole.some k lt in
        let same : suc (length (map (value_of sector) (before_last (get_or xs k [])))) ≡ length (get_or xs k []) = listed_count sector (get_or xs k []) some in
        subst (λ (m : ℕ). IsTurned sector (file_by sector xs len least greatest) (file_by sector ys len2 least2 greatest2) k (picked pick true k m)) (sym same)
        (turned_at k (picked pick true k (length (get_or xs k []))) some (picked_below pick true k (length (get_or xs k [])) some) (each k lt))
    | inr past ↦
        let none = get_or_past xs k [] past in
        turned_past k (picked pick true k (suc (length (map (value_of sector) (before_last (get_or xs k [])))))) none (get_or_past ys k [] (omega arith))
        (subst (λ (v : List (List ℕ)). picked pick true k (suc (length (map (value_of sector) (before_last v)))) < 1) (sym none) (picked_below pick true k 1 (omega arith)))
  ]

-- A sync that moved values to the end may be one that failed.
module _ (sector : ℕ) (old new : FileState) (n : ℕ → ℕ) (below : (k : ℕ) → n k < suc (length (old.earlier k))) (turns : (k : ℕ) → IsTurned sector old new k (n k)) where
  long_all : (k : ℕ) → length (old.earlier k ++ (turns k).value ∷ []) ≡ suc (length (old.earlier k))
  long_all k = omega (arith, length-append (old.earlier k) ((turns k).value ∷ []))

  -- a value that was listed
  was_listed : (k : ℕ) (v : Value) → Contains (old.earlier k ++ (turns k).value ∷ []) v → Same sector k v old.present ⊎ ((w : Value) × Contains (old.earlier k) w × Same sector k v w)
  was_listed k v has = elim (Contains-append_cases (old.earlier k) ((turns k).value ∷ []) v has) [
    | inl earlier ↦ inr (v, earlier, λ i at. refl)
    | inr now ↦ inl (λ i at. ap (λ (w : Value). w i) (sym (only (turns k).value v now)) ∙ (turns k).is i at)
  ]
    where
      only : (x v : Value) → Contains (x ∷ []) v → x ≡ v
      only x v (zero, lt, is) = is
      only x v (suc j, lt, is) = absurd (omega arith)

  -- each listed value is among those before, or is the present one
  is_listed : (k : ℕ) (w : Value) → Contains (old.earlier k ++ (turns k).value ∷ []) w → Same sector k w new.present ⊎ ((v : Value) × Contains (new.earlier k) v × Same sector k w v)
  is_listed k w (j, lt, is) =
      let all = old.earlier k ++ (turns k).value ∷ [] in
      let m = n k in
      let fits : m < length all = omega (arith, below k, long_all k) in
      elim (cases_lt j m) [
        | inl before ↦ inr (w, subst (λ (l : List Value). Contains l w) (sym (turns k).earlier) (j, omega (arith, length_without m all fits), get_without_below m all j w fits before ∙ is), λ i at. refl)
        | inr from ↦ elim (cases_eq j m) [
          | inl same ↦ inl (λ i at. ap (λ (v : Value). v i) (sym is) ∙ ap (λ (v : Value). v i) (get_or_default all j w (turns k).value lt) ∙ ap (λ (e : ℕ). get_or all e (turns k).value i) same ∙ sym ((turns k).present i at))
          | inr ne ↦ inr (w, subst (λ (l : List Value). Contains l w) (sym (turns k).earlier) (j - 1, omega (arith, length_without m all fits), get_without_past m all (j - 1) w fits (omega arith) ∙ ap (λ (e : ℕ). get_or all e w) (let next : suc (j - 1) ≡ j = omega arith in next) ∙ is), λ i at. refl)
        ]
      ]

  from_all : (k : ℕ) (v : Value) → Contains (new.earlier k) v → Contains (old.earlier k ++ (turns k).value ∷ []) v
  from_all k v has =
      let all = old.earlier k ++ (turns k).value ∷ [] in
      let m = n k in
      let fits : m < length all = omega (arith, below k, long_all k) in
      by (subst (λ (l : List Value). Contains l v) (turns k).earlier has) fits
    where
      by : Contains (without (n k) (old.earlier k ++ (turns k).value ∷ [])) v → n k < length (old.earlier k ++ (turns k).value ∷ []) → Contains (old.earlier k ++ (turns k).value ∷ []) v
      by (j, lt, is) fits = elim (cases_lt j (n k)) [
        | inl before ↦ (j, omega arith, sym (get_without_below (n k) (old.earlier k ++ (turns k).value ∷ []) j v fits before) ∙ is)
        | inr past ↦ (suc j, omega (arith, length_without (n k) (old.earlier k ++ (turns k).value ∷ []) fits), sym (get_without_past (n k) (old.earlier k ++ (turns k).value ∷ []) j v fits past) ∙ is)
      ]

  pub turned_shuffled : new.len ≡ old.len → new.least ≡ old.least → new.greatest ≡ old.greatest → IsShuffled sector old new
  turned_shuffled len least greatest = record {
    from = λ k v has. was_listed k v (from_all k v has);
    present_from = λ k.
        let fits : n k < length (old.earlier k ++ (turns k).value ∷ []) = omega (arith, below k, long_all k) in
        let one = get_or (old.earlier k ++ (turns k).value ∷ []) (n k) (turns k).value in
        ⊎_elim (λ same. inl (λ i at. (turns k).present i at ∙ same i at)) (λ w. inr (w.0, w.1, λ i at. (turns k).present i at ∙ w.2 i at))
        (was_listed k one (n k, fits, get_or_default (old.earlier k ++ (turns k).value ∷ []) (n k) one (turns k).value fits));
    count = λ k. let fits : n k < length (old.earlier k ++ (turns k).value ∷ []) = omega (arith, below k, long_all k) in
        omega (arith, ap (λ (l : List Value). length l) (turns k).earlier, length_without (n k) (old.earlier k ++ (turns k).value ∷ []) fits, long_all k);
    keeps = λ k w has. is_listed k w (Contains-append_left (old.earlier k) ((turns k).value ∷ []) w has);
    keeps_present = λ k.
        ⊎_elim (λ same. inl (λ i at. sym ((turns k).is i at) ∙ same i at)) (λ v. inr (v.0, v.1, λ i at. sym ((turns k).is i at) ∙ v.2 i at))
        (is_listed k (turns k).value (Contains-append_right (old.earlier k) ((turns k).value ∷ []) (turns k).value (0, omega arith, refl)));
    len = len;
    least = least;
    greatest = greatest;
  }
