-- A crash of a modelled file leaves what the choice names.
use Rattle.crashdisk.proofs.Between.{AreWhole, Bool, FileState, IsImage, IsLeft, IsSettled, IsSound, List, Naming, None, OneListed, Option, Some, Value, [], ap, arith, before_last, byte_by, cases_lt, cond, false, file_by, get_or, get_or-map, get_or-map-range_with_len, get_or-take, get_or_default, get_or_past, image_of, inl, inr, inside, last_of, le-ltb, length, length-map, length-map-range_with_len, listed, listed_count, lt-ltb, ltb-true, ltb_from_iff, map, mod-lt, named_byte, named_len, nat_lt, picked, picked_below, place_in, refl, subst, suc, sym, take, torn_here, true, value_of, ℕ, ◌%◌, ◌*◌, ◌-◌, ◌/◌, ◌<◌, ◌∙◌, ◌≡◌, ◌≤◌}

-- the named length is between the least and the greatest
pub len_between : (n : Option ℕ) (least present greatest : ℕ) → least ≤ present → present ≤ greatest → (least ≤ named_len n least present greatest) × (named_len n least present greatest ≤ greatest)
len_between None least present greatest a b = (a, b)
len_between (Some n) least present greatest a b = (omega arith, omega arith)

-- a byte of the named file
pub image_at : (sector : ℕ) (tears : Bool) (s : FileState) (naming : Naming) (i : ℕ) → i < named_len naming.len s.least s.len s.greatest
    → get_or (image_of sector tears s naming) i 0 ≡ named_byte sector tears s naming (i / sector) i
image_at sector tears s naming i lt = get_or-map-range_with_len (λ j. named_byte sector tears s naming (j / sector) j) 0 (named_len naming.len s.least s.len s.greatest) i i 0 lt (omega arith)

pub image_len : (sector : ℕ) (tears : Bool) (s : FileState) (naming : Naming) → length (image_of sector tears s naming) ≡ named_len naming.len s.least s.len s.greatest
image_len sector tears s naming = length-map-range_with_len (λ j. named_byte sector tears s naming (j / sector) j) 0 (named_len naming.len s.least s.len s.greatest)

-- where a sector is torn the disk tears, and the sector was touched
torn_only : (tears touched : Bool) (naming : Naming) (k : ℕ) (bytes : List ℕ) → torn_here tears touched naming k ≡ Some bytes → (tears ≡ true) × (touched ≡ true)
torn_only true true naming k bytes e = (refl, refl)
torn_only true false naming k bytes e = absurd (cc e)
torn_only false touched naming k bytes e = absurd (cc e)

-- The file that a choice names is an image.
pub image_named : (sector : ℕ) (tears : Bool) (s : FileState) (naming : Naming) → IsSound sector s → ((i : ℕ) → get_or (image_of sector tears s naming) i 0 < 256) → IsImage sector tears s (image_of sector tears s naming)
image_named sector tears s naming sound are = record {
  least = omega (arith, image_len sector tears s naming, (len_between naming.len s.least s.len s.greatest sound.least sound.greatest).0);
  greatest = omega (arith, image_len sector tears s naming, (len_between naming.len s.least s.len s.greatest sound.least sound.greatest).1);
  each = λ k. by k (torn_here tears (nat_lt 0 (length (s.earlier k))) naming k) refl;
}
  where
    by : (k : ℕ) (torn : Option (List ℕ)) → torn_here tears (nat_lt 0 (length (s.earlier k))) naming k ≡ torn → OneListed sector tears s (image_of sector tears s naming) k
    by k (Some bytes) e =
        let both = torn_only tears (nat_lt 0 (length (s.earlier k))) naming k bytes e in
        inr (inr (both.0, ltb-true 0 (length (s.earlier k)) both.1, λ i at. are i))
    by k None e =
        let n : ℕ = picked naming.pick naming.newest k (suc (length (s.earlier k))) in
        let shows : (i : ℕ) → i / sector ≡ k → i < length (image_of sector tears s naming) → get_or (image_of sector tears s naming) i 0 ≡ listed s k n i = λ i at lt.
        image_at sector tears s naming i (omega (arith, image_len sector tears s naming))
        ∙ ap (λ (j : ℕ). named_byte sector tears s naming j i) at
        ∙ ap (λ (torn : Option (List ℕ)). byte_by torn (i % sector) (listed s k n i)) e in
        elim (cases_lt n (length (s.earlier k))) [
          | inl lt ↦ inr (inl (listed s k n, (n, lt, get_or_default (s.earlier k) n (listed s k n) s.present lt), shows))
          | inr past ↦ inl (λ i at lt. shows i at lt ∙ ap (λ (v : Value). v i) (get_or_past (s.earlier k) n s.present past))
        ]

-- What is named of the sectors that are held.
module _ (sector : ℕ) (tears : Bool) (naming : Naming) (xs : List (List (List ℕ))) (len least greatest : ℕ) (whole : AreWhole sector xs) where
  -- the value that is picked, as it is listed
  pub listed_at : (k i : ℕ) → i / sector ≡ k → k < length xs → listed (file_by sector xs len least greatest) k (picked naming.pick naming.newest k (suc (length (map (value_of sector) (before_last (get_or xs k [])))))) i
      ≡ get_or (get_or (get_or xs k []) (picked naming.pick naming.newest k (length (get_or xs k []))) []) (i % sector) 0
  listed_at k i is lt =
      let vs = get_or xs k [] in
      let some = whole.some k lt in
      let same = listed_count sector vs some in
      let n : ℕ = picked naming.pick naming.newest k (length vs) in
      let below : n < length vs = picked_below naming.pick naming.newest k (length vs) some in
      let s : FileState = file_by sector xs len least greatest in
      ap (λ (m : ℕ). listed s k (picked naming.pick naming.newest k m) i) same
      ∙ elim (cases_lt n (length (map (value_of sector) (before_last vs)))) [
        | inl before ↦
            ap (λ (v : Value). v i) (get_or-map (value_of sector) (before_last vs) n [] s.present (omega (arith, length-map (before_last vs) (value_of sector))))
            ∙ ap (λ (v : List ℕ). get_or v (i % sector) 0) (get_or-take (length vs - 1) vs n [] (omega (arith, same)))
        | inr past ↦
            ap (λ (v : Value). v i) (get_or_past (map (value_of sector) (before_last vs)) n s.present past)
            ∙ ap (λ (j : ℕ). get_or (last_of (get_or xs j [])) (i % sector) 0) is
            ∙ ap (λ (m : ℕ). get_or (get_or vs m []) (i % sector) 0) (let last : length vs - 1 ≡ n = omega (arith, same, below, past) in last)
      ]

  -- a sector that isn't there holds zeros
  pub past_byte : (k i : ℕ) → i / sector ≡ k → length xs ≤ k → named_byte sector tears (file_by sector xs len least greatest) naming k i ≡ 0
  past_byte k i is past =
      let none = get_or_past xs k [] past in
      ap (λ (v : List (List ℕ)). byte_by (torn_here tears (nat_lt 0 (length (map (value_of sector) (before_last v)))) naming k) (i % sector) (get_or (map (value_of sector) (before_last v)) (picked naming.pick naming.newest k (suc (length (map (value_of sector) (before_last v))))) (file_by sector xs len least greatest).present i)) none
      ∙ ap (λ (torn : Option (List ℕ)). byte_by torn (i % sector) ((file_by sector xs len least greatest).present i)) (untorn tears)
      ∙ ap (λ (j : ℕ). get_or (last_of (get_or xs j [])) (i % sector) 0) is
      ∙ ap (λ (v : List (List ℕ)). get_or (last_of v) (i % sector) 0) none
    where
      untorn : (t : Bool) → torn_here t (nat_lt 0 0) naming k ≡ None
      untorn true = refl
      untorn false = refl

-- Each sector was left with the value that is named.
module _ (sector : ℕ) (tears : Bool) (naming : Naming) (xs ys : List (List (List ℕ))) (len least greatest end : ℕ) (positive : 0 < sector) (whole : AreWhole sector xs) (count : length ys ≡ length xs)
    (is_end : end ≡ named_len naming.len least len greatest)
    (each : (k : ℕ) → k < length xs → IsLeft tears naming k (end - k * sector) (get_or xs k []) (get_or ys k [])) where
  at : ℕ → ℕ
  at k = picked naming.pick naming.newest k (length (get_or xs k []))

  long_left : (k : ℕ) → k < length xs → length (get_or (get_or ys k []) 0 []) ≡ sector
  long_left k lt = (each k lt).long ∙ whole.long k (picked naming.pick naming.newest k (length (get_or xs k []))) lt (picked_below naming.pick naming.newest k (length (get_or xs k [])) (whole.some k lt))

  pub left_whole : AreWhole sector ys
  left_whole = record {
    some = λ k lt. omega (arith, (each k (omega (arith, count))).one);
    long = λ k n lt lt_n.
        let lt_k : k < length xs = omega (arith, count) in
        let first : n ≡ 0 = omega (arith, (each k lt_k).one) in
        ap (λ (m : ℕ). length (get_or (get_or ys k []) m [])) first ∙ long_left k lt_k;
  }

  within : (k i : ℕ) → i / sector ≡ k → nat_lt (i % sector) (end - k * sector) ≡ nat_lt i end
  within k i is =
      let at_ = inside sector k i positive is in
      ltb_from_iff (
        (λ yes_. let lt = ltb-true (i % sector) (end - k * sector) yes_ in omega (arith, place_in sector k i is, at_.0)),
        (λ lt. lt-ltb (i % sector) (end - k * sector) (omega (arith, place_in sector k i is, at_.0))),
      )

  pub left_present : (i : ℕ) → value_of sector (last_of (get_or ys (i / sector) [])) i ≡ cond (nat_lt i end) (named_byte sector tears (file_by sector xs len least greatest) naming (i / sector) i) 0
  left_present i = by (i / sector) refl
    where
      zero_both : (b : Bool) → ◌≡◌ {A = ℕ} 0 (cond b 0 0)
      zero_both true = refl
      zero_both false = refl

      by : (k : ℕ) → i / sector ≡ k → value_of sector (last_of (get_or ys k [])) i ≡ cond (nat_lt i end) (named_byte sector tears (file_by sector xs len least greatest) naming k i) 0
      by k is = elim (cases_lt k (length xs)) [
        | inl lt ↦
            let left = each k lt in
            let vs = get_or xs k [] in
            let same = listed_count sector vs (whole.some k lt) in
            let s : FileState = file_by sector xs len least greatest in
            let value : ℕ = get_or (get_or vs (picked naming.pick naming.newest k (length vs)) []) (i % sector) 0 in
            let less : length vs - 1 ≡ length (map (value_of sector) (before_last vs)) = omega (arith, same) in
            ap (λ (m : ℕ). get_or (get_or (get_or ys k []) m []) (i % sector) 0) (ap (λ (m : ℕ). m - 1) left.one)
            ∙ left.each (i % sector) (omega (arith, long_left k lt, mod-lt i positive))
            ∙ ap (λ (b : Bool). cond b (byte_by (torn_here tears (nat_lt 0 (length vs - 1)) naming k) (i % sector) value) 0) (within k i is)
            ∙ ap (λ (m : ℕ). cond (nat_lt i end) (byte_by (torn_here tears (nat_lt 0 m) naming k) (i % sector) value) 0) less
            ∙ ap (λ (v : ℕ). cond (nat_lt i end) (byte_by (torn_here tears (nat_lt 0 (length (s.earlier k))) naming k) (i % sector) v) 0) (sym (listed_at sector tears naming xs len least greatest whole k i is lt))
        | inr past ↦
            ap (λ (v : List (List ℕ)). get_or (last_of v) (i % sector) 0) (get_or_past ys k [] (omega (arith, count)))
            ∙ zero_both (nat_lt i end)
            ∙ ap (λ (v : ℕ). cond (nat_lt i end) v 0) (sym (past_byte sector tears naming xs len least greatest whole k i is past))
      ]

  pub left_settled : IsSettled (file_by sector ys end end end) (image_of sector tears (file_by sector xs len least greatest) naming)
  left_settled =
      let s : FileState = file_by sector xs len least greatest in
      let long : end ≡ length (image_of sector tears s naming) = is_end ∙ sym (image_len sector tears s naming) in record {
        earlier = λ k. elim (cases_lt k (length xs)) [
          | inl lt ↦ ap (λ (m : ℕ). map (value_of sector) (take (m - 1) (get_or ys k []))) (each k lt).one
          | inr past ↦ ap (λ (v : List (List ℕ)). map (value_of sector) (before_last v)) (get_or_past ys k [] (omega (arith, count)))
        ];
        present = λ i. left_present i ∙ sym (bytes i);
        len = long;
        least = long;
        greatest = long;
        are_bytes = λ i. subst (λ (b : ℕ). b < 256) (left_present i ∙ sym (bytes i)) (is_byte i);
      }
    where
      bytes : (i : ℕ) → get_or (image_of sector tears (file_by sector xs len least greatest) naming) i 0 ≡ cond (nat_lt i end) (named_byte sector tears (file_by sector xs len least greatest) naming (i / sector) i) 0
      bytes i = elim (cases_lt i end) [
        | inl lt ↦ image_at sector tears (file_by sector xs len least greatest) naming i (omega (arith, is_end)) ∙ ap (λ (b : Bool). cond b (named_byte sector tears (file_by sector xs len least greatest) naming (i / sector) i) 0) (sym (lt-ltb i end lt))
        | inr past ↦ get_or_past (image_of sector tears (file_by sector xs len least greatest) naming) i 0 (omega (arith, image_len sector tears (file_by sector xs len least greatest) naming, is_end)) ∙ ap (λ (b : Bool). cond b (named_byte sector tears (file_by sector xs len least greatest) naming (i / sector) i) 0) (sym (le-ltb i end past))
      ]

      is_byte : (i : ℕ) → value_of sector (last_of (get_or ys (i / sector) [])) i < 256
      is_byte i = elim (cases_lt (i / sector) (length xs)) [
        | inl lt ↦ subst (λ (m : ℕ). get_or (get_or (get_or ys (i / sector) []) (m - 1) []) (i % sector) 0 < 256) (sym (each (i / sector) lt).one) ((each (i / sector) lt).are_bytes (i % sector))
        | inr past ↦ subst (λ (v : List (List ℕ)). get_or (last_of v) (i % sector) 0 < 256) (sym (get_or_past ys (i / sector) [] (omega (arith, count)))) (omega arith)
      ]
