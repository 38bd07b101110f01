-- Files of which a crash leaves one list of bytes.
use Rattle.crashdisk.proofs.Below.{ArePresent, Bool, FileState, IsImage, IsSettled, IsShuffled, IsSound, IsSynced, List, Value, [], ap, arith, byte, byte_below, byte_is_byte, byte_past, cases_lt, get_or, get_or_past, inl, inr, length, longest, refl, same_number_lists, subst, sym, ℕ, ◌/◌, ◌<◌, ◌∙◌, ◌∷◌, ◌≡◌, ◌≤◌}
use Rattle.crashdisk.proofs.sync.ImagesAfterSync.{only_present}

-- Where one list of bytes is settled, a crash leaves it and no other.
module _ (s : FileState) (c : List ℕ) (settled : IsSettled s c) where
  none : (k : ℕ) → 0 < length (s.earlier k) → ⊥
  none k some = omega (arith, some, ap (λ (l : List Value). length l) (settled.earlier k))

  pub settled_image : (sector : ℕ) (tears : Bool) → IsImage sector tears s c
  settled_image sector tears = record { least = omega (arith, settled.least); greatest = omega (arith, settled.greatest); each = λ k. inl (λ i e lt. sym (settled.present i)) }

  pub settled_one : (sector : ℕ) (tears : Bool) (d : List ℕ) → IsImage sector tears s d → d ≡ c
  settled_one sector tears d image =
      let long : length d ≡ length c = omega (arith, image.least, image.greatest, settled.least, settled.greatest) in
      same_number_lists d c long (λ i lt. only_present sector tears s d settled.earlier image i lt ∙ settled.present i)

  pub settled_byte : (i : ℕ) → byte s i ≡ get_or c i 0
  settled_byte i = elim (cases_lt i s.len) [
    | inl lt ↦ byte_below s i lt ∙ settled.present i
    | inr le ↦ byte_past s i le ∙ sym (get_or_past c i 0 (omega (arith, settled.len)))
  ]

  pub settled_sound : (sector : ℕ) → length c ≤ longest → IsSound sector s
  settled_sound sector short = record {
    least = omega (arith, settled.least, settled.len);
    greatest = omega (arith, settled.greatest, settled.len);
    within = omega (arith, settled.greatest);
    touched = λ k some. absurd (none k some);
    present_end = λ i le. settled.present i ∙ get_or_past c i 0 (omega (arith, settled.greatest));
    earlier_end = λ k v has i e le. absurd (none k (omega (arith, has.1)));
    stale = λ i le ne. absurd (ne (settled.present i ∙ get_or_past c i 0 (omega (arith, settled.len))));
    is_byte = λ i. subst (λ (b : ℕ). b < 256) (sym (settled.present i)) (settled.are_bytes i);
    earlier_is_byte = λ k v has i e. absurd (none k (omega (arith, has.1)));
  }

-- A sync that succeeds settles the present bytes.
pub settled_synced : (sector : ℕ) (old new : FileState) (c : List ℕ) → IsSound sector old → IsSynced old new → ArePresent old c → IsSettled new c
settled_synced sector old new c sound synced are =
    let same : (i : ℕ) → get_or c i 0 ≡ byte old i = λ i. elim (cases_lt i old.len) [
      | inl lt ↦ are.each i lt
      | inr le ↦ get_or_past c i 0 (omega (arith, are.len)) ∙ sym (byte_past old i le)
    ] in
    let bytes : (i : ℕ) → get_or c i 0 < 256 = λ i. subst (λ (b : ℕ). b < 256) (sym (same i)) (byte_is_byte sector old sound i) in
    assumption (λ (i : ℕ). synced.present i ∙ sym (same i), synced.len ∙ sym are.len, synced.least ∙ sym are.len, synced.greatest ∙ sym are.len, bytes)

-- What is settled stays so, also where a sync fails.
pub settled_shuffled : (sector : ℕ) (old new : FileState) (c : List ℕ) → IsSettled old c → IsShuffled sector old new → IsSettled new c
settled_shuffled sector old new c settled shuffled = record {
  earlier = λ k. none_left (new.earlier k) (shuffled.count k ∙ ap (λ (l : List Value). length l) (settled.earlier k));
  present = λ i. elim (shuffled.present_from (i / sector)) [
    | inl same ↦ same i refl ∙ settled.present i
    | inr one ↦ absurd (omega (arith, one.1.1, ap (λ (l : List Value). length l) (settled.earlier (i / sector))))
  ];
  len = shuffled.len ∙ settled.len;
  least = shuffled.least ∙ settled.least;
  greatest = shuffled.greatest ∙ settled.greatest;
  are_bytes = settled.are_bytes;
}
  where
    none_left : (l : List Value) → length l ≡ 0 → l ≡ []
    none_left [] e = refl
    none_left (v ∷ l) e = absurd (omega (arith, e))

-- Another sync that succeeds keeps it too.
pub settled_again : (old new : FileState) (c : List ℕ) → IsSettled old c → IsSynced old new → IsSettled new c
settled_again old new c settled synced =
    assumption (λ (i : ℕ). synced.present i ∙ settled_byte old c settled i, synced.len ∙ settled.len, synced.least ∙ settled.len, synced.greatest ∙ settled.len)
