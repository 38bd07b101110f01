-- A sync that succeeds adds no image.
use Rattle.crashdisk.proofs.Below.{Bool, FileState, IsImage, IsSound, IsSynced, List, Value, [], ap, arith, byte_below, get_or, inl, inr, length, refl, ℕ, ◌/◌, ◌<◌, ◌∙◌, ◌≡◌}

-- Where no earlier value is listed, an image has the present bytes.
pub only_present : (sector : ℕ) (tears : Bool) (s : FileState) (c : List ℕ) → ((k : ℕ) → s.earlier k ≡ []) → IsImage sector tears s c → (i : ℕ) → i < length c → get_or c i 0 ≡ s.present i
only_present sector tears s c none image i lt =
    let untouched : 0 < length (s.earlier (i / sector)) → ⊥ = λ some. omega (arith, some, ap (λ (l : List Value). length l) (none (i / sector))) in
    elim (image.each (i / sector)) [
      | inl shows ↦ shows i refl lt
      | inr (inl one) ↦ absurd (untouched (omega (arith, one.1.1)))
      | inr (inr torn) ↦ absurd (untouched torn.1)
    ]

pub image_synced : (sector : ℕ) (tears : Bool) (old new : FileState) → IsSound sector old → IsSynced old new → (c : List ℕ) → IsImage sector tears new c → IsImage sector tears old c
image_synced sector tears old new sound synced c image = record {
  least = omega (arith, image.least, synced.least, sound.least);
  greatest = omega (arith, image.greatest, synced.greatest, sound.greatest);
  each = λ k. inl (λ i e lt. only_present sector tears new c synced.earlier image i lt ∙ synced.present i ∙ byte_below old i (omega (arith, image.greatest, synced.greatest)));
}
