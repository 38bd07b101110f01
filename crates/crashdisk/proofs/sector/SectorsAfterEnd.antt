-- What an end leaves of a modelled file, and that it is solid.
use Rattle.crashdisk.proofs.Below.{AreWhole, Bool, Contains, FileState, IsEnded, IsEndedTo, IsSolid, List, Value, [], ap, arith, before_last, cases_lt, cond, div_ceil_times, ended, false, file_by, get_or, get_or-map, get_or-take, get_or_default, get_or_past, inl, inr, inside, last_of, le-ltb, length, length-map, length-take, longest, lt-ltb, map, min, mul-le-mul_right, nat_lt, place_in, refl, subst, sym, take, true, value_of, ℕ, ◌%◌, ◌*◌, ◌+◌, ◌-◌, ◌/◌, ◌<◌, ◌∙◌, ◌≡◌, ◌≤◌}

-- as many sectors as begin below an end
abbrev pub begun : (sector n : ℕ) → ℕ
begun sector n = n / sector + min 1 (n % sector)

module _ (sector n : ℕ) (positive : 0 < sector) where
  pub begins_below : (k : ℕ) → k < begun sector n → k * sector < n
  begins_below k lt =
      let more : (k + 1) * sector ≤ begun sector n * sector = mul-le-mul_right sector (let le : k + 1 ≤ begun sector n = omega arith in le) in
      omega (arith, more, (div_ceil_times n sector positive).1)

  pub begins_behind : (k : ℕ) → begun sector n ≤ k → n ≤ k * sector
  begins_behind k le = omega (arith, mul-le-mul_right sector le, (div_ceil_times n sector positive).0)

  -- a place below the end, in its sector and in the file
  pub cut_at : (k i x : ℕ) → i / sector ≡ k → cond (nat_lt (i % sector) (n - k * sector)) x 0 ≡ cond (nat_lt i n) x 0
  cut_at k i x at =
      let within = inside sector k i positive at in
      let place = place_in sector k i at in
      elim (cases_lt i n) [
        | inl lt ↦ ap (λ (b : Bool). cond b x 0) (lt-ltb (i % sector) (n - k * sector) (omega (arith, place, within.0)) ∙ sym (lt-ltb i n lt))
        | inr le ↦ ap (λ (b : Bool). cond b x 0) (le-ltb (i % sector) (n - k * sector) (omega (arith, place, within.0)) ∙ sym (le-ltb i n le))
      ]

module _ (sector n len least greatest : ℕ) (old mid new : List (List (List ℕ))) (positive : 0 < sector) (is : mid ≡ take (begun sector n) old) (count : length new ≡ length mid)
    (each : (k : ℕ) → k < length mid → IsEndedTo (n - k * sector) (get_or mid k []) (get_or new k [])) where
  kept : length new ≡ min (begun sector n) (length old)
  kept = count ∙ ap (λ (l : List (List (List ℕ))). length l) is ∙ length-take (begun sector n) old

  one : (k : ℕ) → k < length new → IsEndedTo (n - k * sector) (get_or old k []) (get_or new k [])
  one k lt = subst (λ (v : List (List ℕ)). IsEndedTo (n - k * sector) v (get_or new k [])) (ap (λ (l : List (List (List ℕ))). get_or l k []) is ∙ get_or-take (begun sector n) old k [] (omega (arith, kept))) (each k (omega (arith, count)))

  pub ended_whole : AreWhole sector old → AreWhole sector new
  ended_whole whole = record {
    some = λ k lt. omega (arith, (one k lt).count, whole.some k (omega (arith, kept)));
    long = λ k j lt lt_j. (one k lt).long j (omega (arith, (one k lt).count)) ∙ whole.long k j (omega (arith, kept)) (omega (arith, (one k lt).count));
  }

  pub ended_room : length old * sector ≤ longest + sector → length new * sector ≤ longest + sector
  ended_room room = omega (arith, room, mul-le-mul_right sector (let le : length new ≤ length old = omega (arith, kept) in le))

  value_at : (k j i : ℕ) → i / sector ≡ k → k < length new → j < length (get_or old k []) → value_of sector (get_or (get_or new k []) j []) i ≡ ended n (value_of sector (get_or (get_or old k []) j [])) i
  value_at k j i at lt lt_j = (one k lt).each j (i % sector) lt_j ∙ cut_at sector n positive k i (value_of sector (get_or (get_or old k []) j []) i) at

  listed : (values : List (List ℕ)) → length (map (value_of sector) (before_last values)) ≡ length values - 1
  listed values = length-map (before_last values) (value_of sector) ∙ length-take (length values - 1) values ∙ omega arith

  count_at : (k : ℕ) → length (map (value_of sector) (before_last (get_or new k []))) ≡ cond (nat_lt (k * sector) n) (length (map (value_of sector) (before_last (get_or old k [])))) 0
  count_at k = elim (cases_lt k (length new)) [
    | inl lt ↦
        let below : nat_lt (k * sector) n ≡ true = lt-ltb (k * sector) n (begins_below sector n positive k (omega (arith, kept))) in
        omega (arith, listed (get_or new k []), listed (get_or old k []), (one k lt).count, ap (λ (b : Bool). cond b (length (map (value_of sector) (before_last (get_or old k [])))) 0) below)
    | inr past ↦
        let none : length (get_or new k []) ≡ 0 = ap (λ (v : List (List ℕ)). length v) (get_or_past new k [] past) in
        let zero : length (map (value_of sector) (before_last (get_or new k []))) ≡ 0 = omega (arith, listed (get_or new k []), none) in
        zero ∙ sym (elim (cases_lt k (begun sector n)) [
          | inl lt ↦
              let gone : length (get_or old k []) ≡ 0 = ap (λ (v : List (List ℕ)). length v) (get_or_past old k [] (omega (arith, kept))) in
              let least_zero : length (map (value_of sector) (before_last (get_or old k []))) ≡ 0 = omega (arith, listed (get_or old k []), gone) in
              let below : nat_lt (k * sector) n ≡ true = lt-ltb (k * sector) n (begins_below sector n positive k lt) in
              ap (λ (b : Bool). cond b (length (map (value_of sector) (before_last (get_or old k [])))) 0) below ∙ least_zero
          | inr le ↦ ap (λ (b : Bool). cond b (length (map (value_of sector) (before_last (get_or old k [])))) 0) (le-ltb (k * sector) n (begins_behind sector n positive k le))
        ])
  ]

  each_at : (k j : ℕ) (v : Value) → j < length (map (value_of sector) (before_last (get_or new k []))) → (i : ℕ) → i / sector ≡ k
      → get_or (map (value_of sector) (before_last (get_or new k []))) j v i ≡ ended n (get_or (map (value_of sector) (before_last (get_or old k []))) j v) i
  each_at k j v lt_j i at =
      let less : j < length (get_or new k []) - 1 = omega (arith, listed (get_or new k [])) in
      elim (cases_lt k (length new)) [
        | inl lt ↦
            let old_less : j < length (get_or old k []) - 1 = omega (arith, (one k lt).count) in
            ap (λ (w : Value). w i) (value_is (get_or new k []) j v less) ∙ value_at k j i at lt (omega arith) ∙ ap (λ (w : Value). ended n w i) (sym (value_is (get_or old k []) j v old_less))
        | inr past ↦ absurd (omega (arith, ap (λ (v : List (List ℕ)). length v) (get_or_past new k [] past)))
      ]
    where
      value_is : (values : List (List ℕ)) (j : ℕ) (v : Value) → j < length values - 1 → get_or (map (value_of sector) (before_last values)) j v ≡ value_of sector (get_or values j [])
      value_is values j v lt = get_or-map (value_of sector) (before_last values) j [] v (omega (arith, length-take (length values - 1) values)) ∙ ap (value_of sector) (get_or-take (length values - 1) values j [] lt)

  present_at : AreWhole sector old → (i : ℕ) → value_of sector (last_of (get_or new (i / sector) [])) i ≡ ended n (λ (i : ℕ). value_of sector (last_of (get_or old (i / sector) [])) i) i
  present_at whole i =
      let k : ℕ = i / sector in
      elim (cases_lt k (length new)) [
        | inl lt ↦
            let same : length (get_or new k []) - 1 ≡ length (get_or old k []) - 1 = omega (arith, (one k lt).count) in
            ap (λ (j : ℕ). value_of sector (get_or (get_or new k []) j []) i) same ∙ value_at k (length (get_or old k []) - 1) i refl lt (omega (arith, whole.some k (omega (arith, kept))))
        | inr past ↦
            let none : value_of sector (last_of (get_or new k [])) i ≡ 0 = ap (λ (v : List (List ℕ)). value_of sector (last_of v) i) (get_or_past new k [] past) in
            none ∙ sym (elim (cases_lt k (begun sector n)) [
              | inl lt ↦ zero_or (nat_lt i n) (value_of sector (last_of (get_or old k [])) i) (ap (λ (v : List (List ℕ)). value_of sector (last_of v) i) (get_or_past old k [] (omega (arith, kept))))
              | inr le ↦ ap (λ (b : Bool). cond b (value_of sector (last_of (get_or old k [])) i) 0) (le-ltb i n (omega (arith, begins_behind sector n positive k le, (inside sector k i positive refl).0)))
            ])
      ]
    where
      zero_or : (b : Bool) (x : ℕ) → x ≡ 0 → cond b x 0 ≡ 0
      zero_or true x e = e
      zero_or false x e = refl

  pub ended_lists : AreWhole sector old → (len' least' greatest' : ℕ) → len' ≡ min len n → least' ≡ min least n → greatest' ≡ min greatest n
      → IsEnded sector n (file_by sector old len least greatest) (file_by sector new len' least' greatest')
  ended_lists whole len' least' greatest' a b c = record { count = count_at; each = each_at; present = present_at whole; len = a; least = b; greatest = c }

-- a file that was ended is as solid as it was
pub solid_ended : (sector n : ℕ) (old new : FileState) → 0 < sector → IsSolid sector old → IsEnded sector n old new → IsSolid sector new
solid_ended sector n old new positive solid is =
    let same : (i : ℕ) → i < n → new.present i ≡ old.present i = λ i lt. is.present i ∙ ap (λ (b : Bool). cond b (old.present i) 0) (lt-ltb i n lt) in
    let zero : (i : ℕ) → n ≤ i → new.present i ≡ 0 = λ i le. is.present i ∙ ap (λ (b : Bool). cond b (old.present i) 0) (le-ltb i n le) in
    let below : (k : ℕ) → 0 < length (new.earlier k) → (k * sector < n) × (length (new.earlier k) ≡ length (old.earlier k)) = λ k some. below_end k (k * sector) (is.count k) some in
    let was : (k : ℕ) (v : Value) → Contains (new.earlier k) v → (w : Value) × Contains (old.earlier k) w × ((i : ℕ) → i / sector ≡ k → v i ≡ ended n w i) = λ k v has. (
      get_or (old.earlier k) has.0 v,
      (has.0, omega (arith, has.1, (below k (omega (arith, has.1))).1), inside_list (old.earlier k) has.0 v (omega (arith, has.1, (below k (omega (arith, has.1))).1))),
      λ i at. ap (λ (u : Value). u i) (sym has.2) ∙ is.each k has.0 v has.1 i at,
    ) in record {
      least = omega (arith, is.least, is.len, solid.least);
      greatest = omega (arith, is.len, is.greatest, solid.greatest);
      within = omega (arith, is.greatest, solid.within);
      touched = λ k some. let b = below k some in omega (arith, b.0, is.greatest, solid.touched k (omega (arith, b.1)));
      present_end = λ i le. elim (cases_lt i n) [
        | inl lt ↦ same i lt ∙ solid.present_end i (omega (arith, is.greatest))
        | inr past ↦ zero i past
      ];
      earlier_end = λ k v has i at le.
          let w = was k v has in
          elim (cases_lt i n) [
            | inl lt ↦ w.2 i at ∙ ap (λ (b : Bool). cond b (w.0 i) 0) (lt-ltb i n lt) ∙ solid.earlier_end k w.0 w.1 i at (omega (arith, is.greatest))
            | inr past ↦ w.2 i at ∙ ap (λ (b : Bool). cond b (w.0 i) 0) (le-ltb i n past)
          ];
      stale = λ i le ne. elim (cases_lt i n) [
        | inl lt ↦
            let some = solid.stale i (omega (arith, is.len)) (λ e. ne (same i lt ∙ e)) in
            let begins : i / sector * sector < n = omega (arith, (inside sector (i / sector) i positive refl).0) in
            omega (arith, some, is.count (i / sector), ap (λ (b : Bool). cond b (length (old.earlier (i / sector))) 0) (lt-ltb (i / sector * sector) n begins))
        | inr past ↦ absurd (ne (zero i past))
      ];
      is_byte = λ i. elim (cases_lt i n) [
        | inl lt ↦ omega (arith, same i lt, solid.is_byte i)
        | inr past ↦ omega (arith, zero i past)
      ];
      earlier_is_byte = λ k v has i at.
          let w = was k v has in
          elim (cases_lt i n) [
            | inl lt ↦ omega (arith, w.2 i at, ap (λ (b : Bool). cond b (w.0 i) 0) (lt-ltb i n lt), solid.earlier_is_byte k w.0 w.1 i at)
            | inr past ↦ omega (arith, w.2 i at, ap (λ (b : Bool). cond b (w.0 i) 0) (le-ltb i n past))
          ];
    }
  where
    below_end : (k from : ℕ) → length (new.earlier k) ≡ cond (nat_lt from n) (length (old.earlier k)) 0 → 0 < length (new.earlier k) → (from < n) × (length (new.earlier k) ≡ length (old.earlier k))
    below_end k from e some = elim (cases_lt from n) [
      | inl lt ↦ (lt, e ∙ ap (λ (b : Bool). cond b (length (old.earlier k)) 0) (lt-ltb from n lt))
      | inr le ↦ absurd (omega (arith, some, e, ap (λ (b : Bool). cond b (length (old.earlier k)) 0) (le-ltb from n le)))
    ]

    inside_list : (xs : List Value) (j : ℕ) (v : Value) → j < length xs → get_or xs j (get_or xs j v) ≡ get_or xs j v
    inside_list xs j v lt = get_or_default xs j (get_or xs j v) v lt
