-- The bytes that a choice names, put to their places.
use Rattle.crashdisk.proofs.Between.{AreWhole, Bool, FileState, List, Names, Naming, [], ap, append-nil, arith, before_last, byte_by, cases_eq, cases_lt, div-lt_iff_lt-mul, drop, drop_all, ext_get_or, file_by, get_or, image_of, inl, inr, inside, le-div_iff_mul-le, length, length-append, length-drop, length-replicate, listed_count, map, named_byte, named_len, nat_lt, picked, place_in, put_mid, put_mid-paste, refl, replicate, sym, take, take_all, take_at, torn_here, value_of, ℕ, ⊎_elim, ◌%◌, ◌*◌, ◌++◌, ◌+◌, ◌-◌, ◌/◌, ◌<◌, ◌∙◌, ◌≡◌, ◌≤◌, ◌⊎◌}
use Rattle.crashdisk.proofs.image.ImageNamedByChoice.{image_at, image_len, listed_at}

-- a list with the bytes that are named is the file that is named
pub image_is : (sector : ℕ) (tears : Bool) (s : FileState) (naming : Naming) (bytes : List ℕ) → length bytes ≡ named_len naming.len s.least s.len s.greatest
    → ((i : ℕ) → i < length bytes → get_or bytes i 0 ≡ named_byte sector tears s naming (i / sector) i) → bytes ≡ image_of sector tears s naming
image_is sector tears s naming bytes long each =
    ext_get_or 0 bytes (image_of sector tears s naming) (long ∙ sym (image_len sector tears s naming)) (λ i lt. each i lt ∙ sym (image_at sector tears s naming i (omega (arith, long))))

-- those of the sectors below k were put
pub record Put (sector : ℕ) (tears : Bool) (naming : Naming) (xs : List (List (List ℕ))) (n k : ℕ) (out : List ℕ) : Type 0 where
  pub long : length out ≡ n
  pub done : (i : ℕ) → i < n → i / sector < k → get_or out i 0 ≡ named_byte sector tears (file_by sector xs 0 0 0) naming (i / sector) i
  pub left : (i : ℕ) → i < n → k ≤ i / sector → get_or out i 0 ≡ 0

module _ (sector : ℕ) (tears : Bool) (naming : Naming) (xs : List (List (List ℕ))) (n : ℕ) (positive : 0 < sector) (whole : AreWhole sector xs) where
  -- a byte of a sector, as it is named
  named_at : (k i : ℕ) → i / sector ≡ k → k < length xs → (bytes : List ℕ) → Names tears naming k (get_or xs k []) bytes
      → get_or bytes (i - k * sector) 0 ≡ named_byte sector tears (file_by sector xs 0 0 0) naming k i
  named_at k i is lt bytes names =
      let vs = get_or xs k [] in
      let s : FileState = file_by sector xs 0 0 0 in
      let same = listed_count sector vs (whole.some k lt) in
      let less : length vs - 1 ≡ length (map (value_of sector) (before_last vs)) = omega (arith, same) in
      let value : ℕ → ℕ = λ j. get_or (get_or vs (picked naming.pick naming.newest k (length vs)) []) j 0 in
      ap (λ (j : ℕ). get_or bytes j 0) (sym (place_in sector k i is))
      ∙ names (i % sector)
      ∙ ap (λ (m : ℕ). byte_by (torn_here tears (nat_lt 0 m) naming k) (i % sector) (value (i % sector))) less
      ∙ ap (λ (v : ℕ). byte_by (torn_here tears (nat_lt 0 (length (s.earlier k))) naming k) (i % sector) v) (sym (listed_at sector tears naming xs 0 0 0 whole k i is lt))

  pub put_more : (k : ℕ) (out new bytes : List ℕ) → Put sector tears naming xs n k out → k < length xs → Names tears naming k (get_or xs k []) bytes → length new ≡ length out
      → ((i : ℕ) → i < length out → k * sector ≤ i → i < k * sector + sector → get_or new i 0 ≡ get_or bytes (i - k * sector) 0)
      → ((i : ℕ) → (i < k * sector) ⊎ (k * sector + sector ≤ i) → get_or new i 0 ≡ get_or out i 0)
      → Put sector tears naming xs n (k + 1) new
  put_more k out new bytes so_far there names same inner outer = record {
    long = same ∙ so_far.long;
    done = λ i lt below. elim (cases_eq (i / sector) k) [
      | inl is ↦
          let range = inside sector k i positive is in
          inner i (omega (arith, so_far.long)) range.0 range.1 ∙ named_at k i is there bytes names ∙ ap (λ (j : ℕ). named_byte sector tears (file_by sector xs 0 0 0) naming j i) (sym is)
      | inr ne ↦
          let first : i < k * sector = (div-lt_iff_lt-mul positive).0 (let less : i / sector < k = omega arith in less) in
          outer i (inl first) ∙ so_far.done i lt (omega arith)
    ];
    left = λ i lt above.
        let far : (k + 1) * sector ≤ i = (le-div_iff_mul-le positive).0 above in
        outer i (inr (omega arith)) ∙ so_far.left i lt (omega arith);
  }

-- how long the part behind the old list is
pub part_long : (all old : List ℕ) (start n : ℕ) → length old ≡ start → all ≡ old ++ replicate n 0 → length (take (length all - start) (drop start all)) ≡ n
part_long all old start n from is =
    ap (λ (l : List ℕ). length l) (take_all (length all - start) (drop start all) (omega (arith, length-drop start all)))
    ∙ ap (λ (l : List ℕ). length (drop start l)) is ∙ length-drop start (old ++ replicate n 0) ∙ omega (arith, length-append old (replicate n 0), length-replicate {A = ℕ} n 0)

-- a list after its part behind the old one was filled
pub appended : (old all items part : List ℕ) (start n : ℕ) → length old ≡ start → all ≡ old ++ replicate n 0 → length part ≡ n → (end : ℕ) → end ≡ start + n
    → take end (put_mid start (length all - start) all part ++ drop (length (put_mid start (length all - start) all part)) items) ≡ old ++ part
appended old all items part start n from is long end at =
    let many : length all ≡ start + n = ap (λ (l : List ℕ). length l) is ∙ omega (arith, length-append old (replicate n 0), length-replicate {A = ℕ} n 0) in
    let mid : put_mid start (length all - start) all part ≡ old ++ part =
    put_mid-paste start (length all - start) all part part (length part) refl (omega arith) refl
    ∙ ap (λ (l : List ℕ). (take start all ++ l) ++ drop (start + length part) all) (take_all (length part) part (omega arith))
    ∙ ap (λ (l : List ℕ). (take start all ++ part) ++ l) (drop_all (start + length part) all (omega arith))
    ∙ append-nil (take start all ++ part)
    ∙ ap (λ (l : List ℕ). take start l ++ part) is
    ∙ ap (λ (l : List ℕ). l ++ part) (take_at old (replicate n 0) start from) in
    ap (λ (l : List ℕ). take end (l ++ drop (length l) items)) mid ∙ take_at (old ++ part) (drop (length (old ++ part)) items) end (omega (arith, length-append old part))
