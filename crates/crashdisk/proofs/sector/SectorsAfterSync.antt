-- What a sync of a modelled file leaves.
use Rattle.crashdisk.proofs.Below.{AreWhole, IsCutTo, IsSynced, List, [], ap, arith, before_last, byte, byte_below, byte_past, cases_lt, cond, file_by, get_or, get_or_past, inl, inr, inside, last_of, length, map, nat_lt, nat_tests, place_in, refl, sym, take, value_of, ℕ, ◌%◌, ◌*◌, ◌-◌, ◌/◌, ◌<◌, ◌∙◌, ◌≡◌, ◌≤◌}

module _ (sector len least greatest : ℕ) (old new : List (List (List ℕ))) (positive : 0 < sector) (whole : AreWhole sector old) (count : length new ≡ length old)
    (each : (k : ℕ) → k < length old → IsCutTo (len - k * sector) (get_or old k []) (get_or new k [])) where
  pub settled_whole : AreWhole sector new
  settled_whole = record {
    some = λ k lt. omega (arith, (each k (omega arith)).one);
    long = λ k n lt lt_n.
        let cut = each k (omega arith) in
        ap (λ (j : ℕ). length (get_or (get_or new k []) j [])) (let first : n ≡ 0 = omega (arith, cut.one) in first) ∙ cut.long ∙ whole.long k (length (get_or old k []) - 1) (omega arith) (omega (arith, whole.some k (omega arith)));
  }

  earlier : (k : ℕ) → map (value_of sector) (before_last (get_or new k [])) ≡ []
  earlier k = elim (cases_lt k (length old)) [
    | inl lt ↦ ap (λ (n : ℕ). map (value_of sector) (take (n - 1) (get_or new k []))) (each k lt).one
    | inr past ↦ ap (λ (v : List (List ℕ)). map (value_of sector) (before_last v)) (get_or_past new k [] (omega arith))
  ]

  none_at : (i : ℕ) → length old ≤ i / sector → (xs : List (List (List ℕ))) → length xs ≡ length old → value_of sector (last_of (get_or xs (i / sector) [])) i ≡ 0
  none_at i past xs same = ap (λ (v : List (List ℕ)). value_of sector (last_of v) i) (get_or_past xs (i / sector) [] (omega arith))

  cut_at : (i : ℕ) → cond (nat_lt (i % sector) (len - i / sector * sector)) (value_of sector (last_of (get_or old (i / sector) [])) i) 0 ≡ byte (file_by sector old len least greatest) i
  cut_at i =
      let at = inside sector (i / sector) i positive refl in
      let place = place_in sector (i / sector) i refl in
      elim (cases_lt i len) [
        | inl lt ↦ below (i % sector) (len - i / sector * sector) (value_of sector (last_of (get_or old (i / sector) [])) i) (omega (arith, place, at.0)) ∙ sym (byte_below (file_by sector old len least greatest) i lt)
        | inr le ↦ above (i % sector) (len - i / sector * sector) (value_of sector (last_of (get_or old (i / sector) [])) i) (omega (arith, place, at.0)) ∙ sym (byte_past (file_by sector old len least greatest) i le)
      ]
    where
      below : (a b x : ℕ) → a < b → cond (nat_lt a b) x 0 ≡ x
      below a b x lt = grind (arith, nat_tests)

      above : (a b x : ℕ) → b ≤ a → cond (nat_lt a b) x 0 ≡ 0
      above a b x le = grind (arith, nat_tests)

  present : (i : ℕ) → value_of sector (last_of (get_or new (i / sector) [])) i ≡ byte (file_by sector old len least greatest) i
  present i = elim (cases_lt (i / sector) (length old)) [
    | inl lt ↦
        let cut = each (i / sector) lt in
        ap (λ (n : ℕ). get_or (get_or (get_or new (i / sector) []) (n - 1) []) (i % sector) 0) cut.one ∙ cut.each (i % sector) ∙ cut_at i
    | inr past ↦ none_at i past new count ∙ sym (elim (cases_lt i len) [
      | inl lt ↦ byte_below (file_by sector old len least greatest) i lt ∙ none_at i past old refl
      | inr le ↦ byte_past (file_by sector old len least greatest) i le
    ])
  ]

  pub settled_lists : IsSynced (file_by sector old len least greatest) (file_by sector new len len len)
  settled_lists = record { earlier = earlier; present = present; len = refl; least = refl; greatest = refl }
