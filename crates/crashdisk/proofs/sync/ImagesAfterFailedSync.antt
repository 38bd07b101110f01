-- A sync that failed adds no image.
use Rattle.crashdisk.proofs.Below.{Bool, FileState, IsImage, IsShuffled, IsSound, List, OneListed, arith, inl, inr, meets_wider, refl, subst, sym, ℕ, ◌/◌, ◌<◌, ◌∙◌}

module _ (sector : ℕ) (old new : FileState) (shuffled : IsShuffled sector old new) where
  one_shuffled : (tears : Bool) (c : List ℕ) (k : ℕ) → OneListed sector tears new c k → OneListed sector tears old c k
  one_shuffled tears c k (inl shows) = elim (shuffled.present_from k) [
    | inl same ↦ inl (λ i e lt. shows i e lt ∙ same i e)
    | inr one ↦ inr (inl (one.0, one.1, λ i e lt. shows i e lt ∙ one.2 i e))
  ]
  one_shuffled tears c k (inr (inl one)) = elim (shuffled.from k one.0 one.1) [
    | inl same ↦ inl (λ i e lt. one.2 i e lt ∙ same i e)
    | inr was ↦ inr (inl (was.0, was.1, λ i e lt. one.2 i e lt ∙ was.2 i e))
  ]
  one_shuffled tears c k (inr (inr torn)) = inr (inr (torn.0, omega (arith, torn.1, shuffled.count k), torn.2))

  pub image_shuffled : (tears : Bool) (c : List ℕ) → IsImage sector tears new c → IsImage sector tears old c
  image_shuffled tears c image = record {
    least = omega (arith, image.least, shuffled.least);
    greatest = omega (arith, image.greatest, shuffled.greatest);
    each = λ k. one_shuffled tears c k (image.each k);
  }

  pub sound_shuffled : IsSound sector old → IsSound sector new
  sound_shuffled sound = record {
    least = omega (arith, sound.least, shuffled.least, shuffled.len);
    greatest = omega (arith, sound.greatest, shuffled.greatest, shuffled.len);
    within = omega (arith, sound.within, shuffled.greatest);
    touched = λ k some. meets_wider sector 0 old.greatest 0 new.greatest k (omega arith) (omega (arith, shuffled.greatest)) (sound.touched k (omega (arith, some, shuffled.count k)));
    present_end = λ i le. elim (shuffled.present_from (i / sector)) [
      | inl same ↦ same i refl ∙ sound.present_end i (omega (arith, shuffled.greatest))
      | inr one ↦ one.2 i refl ∙ sound.earlier_end (i / sector) one.0 one.1 i refl (omega (arith, shuffled.greatest))
    ];
    earlier_end = λ k v has i e le. elim (shuffled.from k v has) [
      | inl same ↦ same i e ∙ sound.present_end i (omega (arith, shuffled.greatest))
      | inr one ↦ one.2 i e ∙ sound.earlier_end k one.0 one.1 i e (omega (arith, shuffled.greatest))
    ];
    stale = λ i le ne. elim (shuffled.present_from (i / sector)) [
      | inl same ↦ omega (arith, shuffled.count (i / sector), sound.stale i (omega (arith, shuffled.len)) (λ z. ne (same i refl ∙ z)))
      | inr one ↦ omega (arith, shuffled.count (i / sector), one.1.1)
    ];
    is_byte = λ i. elim (shuffled.present_from (i / sector)) [
      | inl same ↦ subst (λ (b : ℕ). b < 256) (sym (same i refl)) (sound.is_byte i)
      | inr one ↦ subst (λ (b : ℕ). b < 256) (sym (one.2 i refl)) (sound.earlier_is_byte (i / sector) one.0 one.1 i refl)
    ];
    earlier_is_byte = λ k v has i e. elim (shuffled.from k v has) [
      | inl same ↦ subst (λ (b : ℕ). b < 256) (sym (same i e)) (sound.is_byte i)
      | inr one ↦ subst (λ (b : ℕ). b < 256) (sym (one.2 i e)) (sound.earlier_is_byte k one.0 one.1 i e)
    ];
  }
