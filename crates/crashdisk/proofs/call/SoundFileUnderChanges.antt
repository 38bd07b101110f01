-- What holds of the lists goes on holding.
use Rattle.crashdisk.proofs.Words.{Added, Changed, Contains, Contains-push_cases, CutTouches, FileState, IsSound, IsSynced, List, Meets, Value, WriteTouches, [], ap, arith, byte, cases_lt, cut_to, get_or, inl, inr, length, length-append, longest, max, nat_tests, refl, subst, sym, written, ℕ, ⊎_elim, ◌++◌, ◌+◌, ◌-◌, ◌/◌, ◌<◌, ◌∙◌, ◌∷◌, ◌≡◌, ◌≤◌, ◌⊎◌}

-- what a call puts there is a byte, and zero past the new end
pub record IsFit (sector : ℕ) (touches : ℕ → Type 0) (target : Value) (end : ℕ) (old : FileState) : Type 0 where
  pub past : (i : ℕ) → old.greatest ≤ i → end ≤ i → target i ≡ 0
  pub is_byte : (i : ℕ) → target i < 256
  pub cut : (i : ℕ) → end ≤ i → i < old.len → touches (i / sector)
  pub reach : (k : ℕ) → touches k → Meets sector 0 (max old.greatest end) k

pub meets_wider : (sector from to from2 to2 k : ℕ) → from2 ≤ from → to ≤ to2 → Meets sector from to k → Meets sector from2 to2 k
meets_wider sector from to from2 to2 k le le2 meets = (meets.0, omega (arith, meets.1), omega (arith, meets.2), meets.3)

module _ (sector : ℕ) (touches : ℕ → Type 0) (target : Value) (end : ℕ) (old new : FileState) (sound : IsSound sector old) (fit : IsFit sector touches target end old) (changed : Changed sector touches target end old new) where
  -- the present value is the old one or what the call puts there
  present : (i : ℕ) → (((touches (i / sector) → ⊥) × (new.earlier (i / sector) ≡ old.earlier (i / sector)) × (new.present i ≡ old.present i)) ⊎ ((0 < length (new.earlier (i / sector))) × ((new.present i ≡ old.present i) ⊎ (new.present i ≡ target i))))
  present i = elim (changed.each (i / sector)) [
    | inl kept ↦ inl (kept.0, kept.1.earlier, kept.1.present i refl)
    | inr touched ↦ inr (elim touched.1 [
      | inl taken ↦ (longer taken.value taken.earlier, inr (taken.present i refl))
      | inr left ↦ (longer left.value left.earlier, inl (left.present i refl))
    ])
  ]
    where
      longer : (v : Value) → new.earlier (i / sector) ≡ old.earlier (i / sector) ++ v ∷ [] → 0 < length (new.earlier (i / sector))
      longer v is = subst (λ (l : List Value). 0 < length l) (sym is) (omega (arith, length-append (old.earlier (i / sector)) (v ∷ [])))

  added_end : (k : ℕ) (listed now : Value) → Added sector old new k listed now → ((i : ℕ) → i / sector ≡ k → new.greatest ≤ i → listed i ≡ 0)
      → (v : Value) → Contains (new.earlier k) v → (i : ℕ) → i / sector ≡ k → new.greatest ≤ i → v i ≡ 0
  added_end k listed now added listed_end v has i e le =
      elim (Contains-push_cases (old.earlier k) added.value v (subst (λ (l : List Value). Contains l v) added.earlier has)) [
        | inl was ↦ sound.earlier_end k v was i e (omega (arith, changed.greatest))
        | inr is ↦ ap (λ (w : Value). w i) (sym is) ∙ added.is i e ∙ listed_end i e le
      ]

  added_byte : (k : ℕ) (listed now : Value) → Added sector old new k listed now → ((i : ℕ) → i / sector ≡ k → listed i < 256)
      → (v : Value) → Contains (new.earlier k) v → (i : ℕ) → i / sector ≡ k → v i < 256
  added_byte k listed now added listed_byte v has i e =
      elim (Contains-push_cases (old.earlier k) added.value v (subst (λ (l : List Value). Contains l v) added.earlier has)) [
        | inl was ↦ sound.earlier_is_byte k v was i e
        | inr is ↦ subst (λ (b : ℕ). b < 256) (sym (ap (λ (w : Value). w i) (sym is) ∙ added.is i e)) (listed_byte i e)
      ]

  pub sound_changed : end ≤ longest → IsSound sector new
  sound_changed short = record {
    least = omega (arith, sound.least, sound.greatest, changed.least, changed.len);
    greatest = omega (arith, sound.least, sound.greatest, changed.greatest, changed.len);
    within = omega (arith, sound.within, changed.greatest);
    touched = λ k some. elim (changed.each k) [
      | inl kept ↦ meets_wider sector 0 old.greatest 0 new.greatest k (omega arith) (omega (arith, changed.greatest)) (sound.touched k (subst (λ (l : List Value). 0 < length l) kept.1.earlier some))
      | inr touched ↦ meets_wider sector 0 (max old.greatest end) 0 new.greatest k (omega arith) (omega (arith, changed.greatest)) (fit.reach k touched.0)
    ];
    present_end = λ i le. elim (present i) [
      | inl kept ↦ kept.2 ∙ sound.present_end i (omega (arith, changed.greatest))
      | inr touched ↦ ⊎_elim (λ e. e ∙ sound.present_end i (omega (arith, changed.greatest))) (λ e. e ∙ fit.past i (omega (arith, changed.greatest)) (omega (arith, changed.greatest))) touched.1
    ];
    earlier_end = λ k v has i e le. elim (changed.each k) [
      | inl kept ↦ sound.earlier_end k v (subst (λ (l : List Value). Contains l v) kept.1.earlier has) i e (omega (arith, changed.greatest))
      | inr touched ↦ elim touched.1 [
        | inl taken ↦ added_end k old.present target taken (λ j f past. sound.present_end j (omega (arith, changed.greatest))) v has i e le
        | inr left ↦ added_end k target old.present left (λ j f past. fit.past j (omega (arith, changed.greatest)) (omega (arith, changed.greatest))) v has i e le
      ]
    ];
    stale = λ i le ne. elim (present i) [
      | inr touched ↦ touched.0
      | inl kept ↦ elim (cases_lt i old.len) [
        | inl below ↦ absurd (kept.0 (fit.cut i (omega (arith, changed.len)) below))
        | inr past ↦ subst (λ (l : List Value). 0 < length l) (sym kept.1) (sound.stale i past (λ z. ne (kept.2 ∙ z)))
      ]
    ];
    is_byte = λ i. elim (present i) [
      | inl kept ↦ subst (λ (b : ℕ). b < 256) (sym kept.2) (sound.is_byte i)
      | inr touched ↦ ⊎_elim (λ e. subst (λ (b : ℕ). b < 256) (sym e) (sound.is_byte i)) (λ e. subst (λ (b : ℕ). b < 256) (sym e) (fit.is_byte i)) touched.1
    ];
    earlier_is_byte = λ k v has i e. elim (changed.each k) [
      | inl kept ↦ sound.earlier_is_byte k v (subst (λ (l : List Value). Contains l v) kept.1.earlier has) i e
      | inr touched ↦ elim touched.1 [
        | inl taken ↦ added_byte k old.present target taken (λ j f. sound.is_byte j) v has i e
        | inr left ↦ added_byte k target old.present left (λ j f. fit.is_byte j) v has i e
      ]
    ];
  }

pub byte_below : (s : FileState) (i : ℕ) → i < s.len → byte s i ≡ s.present i
byte_below s i lt = grind (arith, nat_tests)

pub byte_past : (s : FileState) (i : ℕ) → s.len ≤ i → byte s i ≡ 0
byte_past s i le = grind (arith, nat_tests)

pub byte_is_byte : (sector : ℕ) (s : FileState) → IsSound sector s → (i : ℕ) → byte s i < 256
byte_is_byte sector s sound i = elim (cases_lt i s.len) [
  | inl lt ↦ subst (λ (b : ℕ). b < 256) (sym (byte_below s i lt)) (sound.is_byte i)
  | inr le ↦ subst (λ (b : ℕ). b < 256) (sym (byte_past s i le)) (omega arith)
]

pub written_inside : (s : FileState) (at : ℕ) (bytes : List ℕ) (i : ℕ) → at ≤ i → i < at + length bytes → written s at bytes i ≡ get_or bytes (i - at) 0
written_inside s at bytes i le lt = grind (arith, nat_tests)

pub written_outside : (s : FileState) (at : ℕ) (bytes : List ℕ) (i : ℕ) → (i < at) ⊎ (at + length bytes ≤ i) → written s at bytes i ≡ byte s i
written_outside s at bytes i (inl lt) = grind (arith, nat_tests)
written_outside s at bytes i (inr le) = grind (arith, nat_tests)

-- where a place lies
pub where_at : (at n i : ℕ) → ((at ≤ i) × (i < at + n)) ⊎ ((i < at) ⊎ (at + n ≤ i))
where_at at n i = elim (cases_lt i at) [
  | inl lt ↦ inr (inl lt)
  | inr le ↦ elim (cases_lt i (at + n)) [ inl lt ↦ inl (le, lt) | inr past ↦ inr (inr past) ]
]

abbrev pub AreBytes : List ℕ → Type 0
AreBytes bytes = (i : ℕ) → get_or bytes i 0 < 256

pub fit_write : (sector : ℕ) (old : FileState) (at : ℕ) (bytes : List ℕ) → IsSound sector old → AreBytes bytes
    → IsFit sector (WriteTouches sector old at bytes) (written old at bytes) (max old.len (at + length bytes)) old
fit_write sector old at bytes sound are = record {
  past = λ i le end_le. written_outside old at bytes i (inr (omega arith)) ∙ byte_past old i (omega arith);
  is_byte = λ i. elim (where_at at (length bytes) i) [
    | inl in_range ↦ subst (λ (b : ℕ). b < 256) (sym (written_inside old at bytes i in_range.0 in_range.1)) (are (i - at))
    | inr out ↦ subst (λ (b : ℕ). b < 256) (sym (written_outside old at bytes i out)) (byte_is_byte sector old sound i)
  ];
  cut = λ i le lt. absurd (omega arith);
  reach = λ k touched. ⊎_elim
      (λ meets. meets_wider sector at (at + length bytes) 0 (max old.greatest (max old.len (at + length bytes))) k (omega arith) (omega arith) meets)
      (λ stale. meets_wider sector 0 (max old.len (at + length bytes)) 0 (max old.greatest (max old.len (at + length bytes))) k (omega arith) (omega arith) stale.1) touched;
}

pub cut_below : (s : FileState) (n i : ℕ) → i < n → cut_to s n i ≡ byte s i
cut_below s n i lt = grind (arith, nat_tests)

pub cut_past : (s : FileState) (n i : ℕ) → n ≤ i → cut_to s n i ≡ 0
cut_past s n i le = grind (arith, nat_tests)

pub fit_cut : (sector : ℕ) (old : FileState) (n : ℕ) → IsSound sector old → IsFit sector (CutTouches sector old n) (cut_to old n) n old
fit_cut sector old n sound = record {
  past = λ i le end_le. cut_past old n i end_le;
  is_byte = λ i. elim (cases_lt i n) [
    | inl lt ↦ subst (λ (b : ℕ). b < 256) (sym (cut_below old n i lt)) (byte_is_byte sector old sound i)
    | inr le ↦ subst (λ (b : ℕ). b < 256) (sym (cut_past old n i le)) (omega arith)
  ];
  cut = λ i le lt. inl (i, le, lt, refl);
  reach = λ k touched. ⊎_elim
      (λ meets. meets_wider sector n old.len 0 (max old.greatest n) k (omega arith) (omega (arith, sound.greatest)) meets)
      (λ stale. meets_wider sector 0 n 0 (max old.greatest n) k (omega arith) (omega arith) stale.1) touched;
}

pub sound_synced : (sector : ℕ) (old new : FileState) → IsSound sector old → IsSynced old new → IsSound sector new
sound_synced sector old new sound synced = record {
  least = omega (arith, synced.least, synced.len);
  greatest = omega (arith, synced.greatest, synced.len);
  within = omega (arith, synced.greatest, sound.greatest, sound.within);
  touched = λ k some. absurd (omega (arith, some, ap (λ (l : List Value). length l) (synced.earlier k)));
  present_end = λ i le. synced.present i ∙ byte_past old i (omega (arith, synced.greatest));
  earlier_end = λ k v has i e le. absurd (none k v has);
  stale = λ i le ne. absurd (ne (synced.present i ∙ byte_past old i (omega (arith, synced.len))));
  is_byte = λ i. subst (λ (b : ℕ). b < 256) (sym (synced.present i)) (byte_is_byte sector old sound i);
  earlier_is_byte = λ k v has i e. absurd (none k v has);
}
  where
    none : (k : ℕ) (v : Value) → Contains (new.earlier k) v → ⊥
    none k v has = let lt : 0 < length (new.earlier k) = omega (arith, has.1) in omega (arith, ap (λ (l : List Value). length l) (synced.earlier k))
