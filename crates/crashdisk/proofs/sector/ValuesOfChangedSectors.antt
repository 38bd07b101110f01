-- What a change of some sectors lists.
use Rattle.crashdisk.proofs.Below.{Added, Changed, FileState, IsDone, IsPut, Kept, List, [], ap, arith, before_last, before_pushed, cases_lt, cut_to, drop, drop-append_seam, file_by, get_or, get_or-append_right, get_or-take, get_or_append_left, get_or_at, get_or_past, inl, inr, inside, last_of, length, length-append, length-take-le, map, map-append, max, min, mod-lt, nat_tests, place_in, put_byte, refl, replicate, suc, swapped, sym, take, take-append-le, take_all, take_more, value_of, zero, ℕ, ⊎_elim, ◌%◌, ◌*◌, ◌++◌, ◌+◌, ◌-◌, ◌/◌, ◌<◌, ◌∙◌, ◌∷◌, ◌≡◌, ◌⊎◌}

-- the values of a sector are those before the last, and the last
pub split_last : (values : List (List ℕ)) → 0 < length values → values ≡ before_last values ++ last_of values ∷ []
split_last values some =
    let n : ℕ = length values - 1 in
    let whole : n + 1 ≡ length values = omega arith in
    sym (take_all (n + 1) values (omega arith)) ∙ take_more values n [] (omega arith)

pub last_pushed : (values : List (List ℕ)) (v : List ℕ) → last_of (values ++ v ∷ []) ≡ v
last_pushed values v = get_or_at values v [] [] (length (values ++ v ∷ []) - 1) (omega (arith, length-append values (v ∷ [])))

-- the new value and the one before it change places
pub swapped_pushed : (values : List (List ℕ)) (v : List ℕ) → 0 < length values → swapped (values ++ v ∷ []) ≡ (before_last values ++ v ∷ []) ++ last_of values ∷ []
swapped_pushed values v some =
    let n : ℕ = length values - 1 in
    let two : length (values ++ v ∷ []) - 2 ≡ n = omega (arith, length-append values (v ∷ [])) in
    let one : n + 1 ≡ length values = omega arith in
    ap (λ (m : ℕ). take m (values ++ v ∷ []) ++ drop (m + 1) (values ++ v ∷ []) ++ get_or (values ++ v ∷ []) m [] ∷ []) two
    ∙ ap (λ (l : List (List ℕ)). l ++ drop (n + 1) (values ++ v ∷ []) ++ get_or (values ++ v ∷ []) n [] ∷ []) (take-append-le n values (v ∷ []) (omega arith))
    ∙ ap (λ (l : List (List ℕ)). before_last values ++ l ++ get_or (values ++ v ∷ []) n [] ∷ []) (ap (λ (m : ℕ). drop m (values ++ v ∷ [])) one ∙ drop-append_seam values (v ∷ []))
    ∙ ap (λ (l : List ℕ). before_last values ++ (v ∷ []) ++ l ∷ []) (get_or_append_left values (v ∷ []) [] n (omega arith))

-- lists of values of a sector's size
abbrev pub Long : ℕ → List (List ℕ) → Type 0
Long sector values = (n : ℕ) → n < length values → length (get_or values n []) ≡ sector

pub long_append : (sector : ℕ) (xs ys : List (List ℕ)) → Long sector xs → Long sector ys → Long sector (xs ++ ys)
long_append sector xs ys a b n lt = elim (cases_lt n (length xs)) [
  | inl below ↦ ap (λ (l : List ℕ). length l) (get_or_append_left xs ys [] n below) ∙ a n below
  | inr past ↦ ap (λ (l : List ℕ). length l) (get_or-append_right xs ys (length xs) n [] refl past) ∙ b (n - length xs) (omega (arith, length-append xs ys))
]

pub long_one : (sector : ℕ) (v : List ℕ) → length v ≡ sector → Long sector (v ∷ [])
long_one sector v is zero lt = is
long_one sector v is (suc n) lt = absurd (omega arith)

pub long_before : (sector : ℕ) (values : List (List ℕ)) → Long sector values → Long sector (before_last values)
long_before sector values long n lt =
    let all : length (take (length values - 1) values) ≡ length values - 1 = length-take-le (length values - 1) values (omega arith) in
    ap (λ (l : List ℕ). length l) (get_or-take (length values - 1) values n [] (omega arith)) ∙ long n (omega arith)

-- what a touched sector gets: its new value at the end, or before the last
pub record Taken (sector from keep : ℕ) (bytes : List ℕ) (k : ℕ) (old new : List (List ℕ)) : Type 0 where
  pub value : List ℕ
  pub is : new ≡ old ++ value ∷ []
  pub put : IsPut sector from keep bytes k (last_of old) value

pub record Left (sector from keep : ℕ) (bytes : List ℕ) (k : ℕ) (old new : List (List ℕ)) : Type 0 where
  pub value : List ℕ
  pub is : new ≡ (before_last old ++ value ∷ []) ++ last_of old ∷ []
  pub put : IsPut sector from keep bytes k (last_of old) value

module _ (sector from keep : ℕ) (bytes : List ℕ) (xs ys : List (List (List ℕ))) (len least greatest len2 least2 greatest2 : ℕ) (positive : 0 < sector) where
  old : FileState
  old = file_by sector xs len least greatest

  new : FileState
  new = file_by sector ys len2 least2 greatest2

  at_sector : (k i : ℕ) (zs : List (List (List ℕ))) → i / sector ≡ k → value_of sector (last_of (get_or zs (i / sector) [])) i ≡ get_or (last_of (get_or zs k [])) (i % sector) 0
  at_sector k i zs is = ap (λ (j : ℕ). get_or (last_of (get_or zs j [])) (i % sector) 0) is

  put_at : (k i : ℕ) (value : List ℕ) → i / sector ≡ k → IsPut sector from keep bytes k (last_of (get_or xs k [])) value → get_or value (i % sector) 0 ≡ put_byte from keep bytes i (value_of sector (last_of (get_or xs (i / sector) [])) i)
  put_at k i value is put =
      let at = inside sector k i positive is in
      let back : k * sector + i % sector ≡ i = omega (arith, place_in sector k i is, at.0) in
      put.each (i % sector) (mod-lt i positive) ∙ ap (λ (j : ℕ). put_byte from keep bytes j (get_or (last_of (get_or xs k [])) (i % sector) 0)) back ∙ ap (λ (b : ℕ). put_byte from keep bytes i b) (sym (at_sector k i xs is))

  pub kept_one : (k : ℕ) → get_or ys k [] ≡ get_or xs k [] → Kept sector (file_by sector xs len least greatest) (file_by sector ys len2 least2 greatest2) k
  kept_one k same = record {
    earlier = ap (λ (v : List (List ℕ)). map (value_of sector) (before_last v)) same;
    present = λ i is. at_sector k i ys is ∙ ap (λ (v : List (List ℕ)). get_or (last_of v) (i % sector) 0) same ∙ sym (at_sector k i xs is);
  }

  pub taken_one : (k : ℕ) → 0 < length (get_or xs k []) → Taken sector from keep bytes k (get_or xs k []) (get_or ys k [])
      → Added sector (file_by sector xs len least greatest) (file_by sector ys len2 least2 greatest2) k (file_by sector xs len least greatest).present (λ i. put_byte from keep bytes i (value_of sector (last_of (get_or xs (i / sector) [])) i))
  taken_one k some taken =
      let vs = get_or xs k [] in record {
        value = value_of sector (last_of vs);
        is = λ i is. sym (at_sector k i xs is);
        earlier = ap (λ (v : List (List ℕ)). map (value_of sector) (before_last v)) taken.is ∙ ap (λ (v : List (List ℕ)). map (value_of sector) v) (before_pushed vs taken.value ∙ split_last vs some) ∙ map-append (value_of sector) (before_last vs) (last_of vs ∷ []);
        present = λ i is. at_sector k i ys is ∙ ap (λ (v : List (List ℕ)). get_or (last_of v) (i % sector) 0) taken.is ∙ ap (λ (v : List ℕ). get_or v (i % sector) 0) (last_pushed vs taken.value) ∙ put_at k i taken.value is taken.put;
      }

  pub left_one : (k : ℕ) → Left sector from keep bytes k (get_or xs k []) (get_or ys k [])
      → Added sector (file_by sector xs len least greatest) (file_by sector ys len2 least2 greatest2) k (λ i. put_byte from keep bytes i (value_of sector (last_of (get_or xs (i / sector) [])) i)) (file_by sector xs len least greatest).present
  left_one k left =
      let vs = get_or xs k [] in record {
        value = value_of sector left.value;
        is = λ i is. put_at k i left.value is left.put;
        earlier = ap (λ (v : List (List ℕ)). map (value_of sector) (before_last v)) left.is ∙ ap (λ (v : List (List ℕ)). map (value_of sector) v) (before_pushed (before_last vs ++ left.value ∷ []) (last_of vs)) ∙ map-append (value_of sector) (before_last vs) (left.value ∷ []);
        present = λ i is. at_sector k i ys is ∙ ap (λ (v : List (List ℕ)). get_or (last_of v) (i % sector) 0) left.is ∙ ap (λ (v : List ℕ). get_or v (i % sector) 0) (last_pushed (before_last vs ++ left.value ∷ []) (last_of vs)) ∙ sym (at_sector k i xs is);
      }

  -- all of them
  pub changed_by : (touches : ℕ → Type 0) (end : ℕ) → (len2 ≡ len) ⊎ (len2 ≡ end) → least2 ≡ min least end → greatest2 ≡ max greatest end
      → ((k : ℕ) → ((touches k → ⊥) × (get_or ys k [] ≡ get_or xs k [])) ⊎ (touches k × (0 < length (get_or xs k [])) × (Taken sector from keep bytes k (get_or xs k []) (get_or ys k []) ⊎ Left sector from keep bytes k (get_or xs k []) (get_or ys k []))))
      → Changed sector touches (λ i. put_byte from keep bytes i (value_of sector (last_of (get_or xs (i / sector) [])) i)) end (file_by sector xs len least greatest) (file_by sector ys len2 least2 greatest2)
  changed_by touches end is_len is_least is_greatest each = record {
    each = λ k. elim (each k) [
      | inl kept ↦ inl (kept.0, kept_one k kept.1)
      | inr touched ↦ inr (touched.0, ⊎_elim (λ taken. inl (taken_one k touched.1 taken)) (λ left. inr (left_one k left)) touched.2)
    ];
    least = is_least;
    greatest = is_greatest;
    len = is_len;
  }

  -- where each touched sector was taken
  pub done_by : (touches : ℕ → Type 0) (end : ℕ) → len2 ≡ end → ((k : ℕ) → touches k → (0 < length (get_or xs k [])) × Taken sector from keep bytes k (get_or xs k []) (get_or ys k []))
      → IsDone sector touches (λ i. put_byte from keep bytes i (value_of sector (last_of (get_or xs (i / sector) [])) i)) end (file_by sector ys len2 least2 greatest2)
  done_by touches end is_len each = record { present = λ k t. (taken_one k (each k t).0 (each k t).1).present; len = is_len }

-- Sectors of zeros behind the last change nothing that is listed.
pub grown_same : (sector m len least greatest : ℕ) (xs : List (List (List ℕ))) → file_by sector (xs ++ replicate m (replicate sector 0 ∷ [])) len least greatest ≡ file_by sector xs len least greatest
grown_same sector m len least greatest xs =
    λ j. record { earlier = λ k. earlier k j; present = λ i. present i j; len = len; least = least; greatest = greatest }
  where
    zeros : List (List ℕ)
    zeros = replicate sector 0 ∷ []

    behind : (n k : ℕ) → (get_or (replicate n zeros) k [] ≡ zeros) ⊎ (get_or (replicate n zeros) k [] ≡ [])
    behind zero k = inr refl
    behind (suc n) zero = inl refl
    behind (suc n) (suc k) = behind n k

    zero_at : (n i : ℕ) → get_or {A = ℕ} (replicate n 0) i 0 ≡ 0
    zero_at zero i = refl
    zero_at (suc n) zero = refl
    zero_at (suc n) (suc i) = zero_at n i

    earlier : (k : ℕ) → map (value_of sector) (before_last (get_or (xs ++ replicate m zeros) k [])) ≡ map (value_of sector) (before_last (get_or xs k []))
    earlier k = elim (cases_lt k (length xs)) [
      | inl lt ↦ ap (λ (v : List (List ℕ)). map (value_of sector) (before_last v)) (get_or_append_left xs (replicate m zeros) [] k lt)
      | inr past ↦
          ap (λ (v : List (List ℕ)). map (value_of sector) (before_last v)) (get_or-append_right xs (replicate m zeros) (length xs) k [] refl past)
          ∙ ⊎_elim (λ e. ap (λ (v : List (List ℕ)). map (value_of sector) (before_last v)) e) (λ e. ap (λ (v : List (List ℕ)). map (value_of sector) (before_last v)) e) (behind m (k - length xs))
          ∙ sym (ap (λ (v : List (List ℕ)). map (value_of sector) (before_last v)) (get_or_past xs k [] past))
    ]

    present : (i : ℕ) → value_of sector (last_of (get_or (xs ++ replicate m zeros) (i / sector) [])) i ≡ value_of sector (last_of (get_or xs (i / sector) [])) i
    present i = elim (cases_lt (i / sector) (length xs)) [
      | inl lt ↦ ap (λ (v : List (List ℕ)). value_of sector (last_of v) i) (get_or_append_left xs (replicate m zeros) [] (i / sector) lt)
      | inr past ↦
          ap (λ (v : List (List ℕ)). value_of sector (last_of v) i) (get_or-append_right xs (replicate m zeros) (length xs) (i / sector) [] refl past)
          ∙ ⊎_elim (λ e. ap (λ (v : List (List ℕ)). value_of sector (last_of v) i) e ∙ zero_at sector (i % sector)) (λ e. ap (λ (v : List (List ℕ)). value_of sector (last_of v) i) e) (behind m (i / sector - length xs))
          ∙ sym (ap (λ (v : List (List ℕ)). value_of sector (last_of v) i) (get_or_past xs (i / sector) [] past))
    ]

-- what a change of the length puts
pub cut_is : (s : FileState) (n : ℕ) → (λ i. put_byte n (min n s.len) [] i (s.present i)) ≡ cut_to s n
cut_is s n = λ j. λ i. same i j
  where
    same : (i : ℕ) → put_byte n (min n s.len) [] i (s.present i) ≡ cut_to s n i
    same i = grind (arith, nat_tests)
