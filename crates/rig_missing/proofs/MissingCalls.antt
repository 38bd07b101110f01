-- One more call that isn't down, or that is.
use Rattle.std.proofs.Common.{◌↔◌, inl, inr, ℕ, ◌<◌, List, [], ◌∷◌, ◌++◌, length, refl, sym, ◌∙◌, ap, subst, append_assoc}
use Rattle.rig_images.specs.declared.image.Image.{Image}
use Rattle.rig_missing.specs.Missing.{file_in, InRanges, IsOut, IsTold, AreMissing}
use Rattle.rig_missing.specs.internal.Telling.{IsMade, Tells}
use Rattle.rig_missing.specs.declared.change.Change.{Change}
use Rattle.rig_missing.specs.declared.missing.Missing.{Missing}

-- it is told with the sectors in which it isn't down
told_of : (sector : ℕ) (bytes : List ℕ) (c : Change) (later : List Change) (sectors : List (ℕ × ℕ)) (m : Missing) → ((k : ℕ) → InRanges sectors k ↔ IsOut sector bytes c later k)
    → 0 < length sectors → IsMade c sectors m → IsTold sector bytes c later m
told_of sector bytes c later sectors m out some made = record {
  number = made.number;
  kind = made.kind;
  subject = made.subject;
  place = made.place;
  count = made.count;
  some = subst (λ (l : List (ℕ × ℕ)). 0 < length l) (sym made.sectors) some;
  sectors = λ k. subst (λ (l : List (ℕ × ℕ)). InRanges l k ↔ IsOut sector bytes c later k) (sym made.sectors) (out k);
}

-- one call further, which is told or is down everywhere
pub calls_more : (sector : ℕ) (image : Image) (all later : List Change) (c : Change) (sectors : List (ℕ × ℕ)) (found new : List Missing)
    → ((rest : List Missing) → AreMissing sector image (c ∷ later) rest → AreMissing sector image all (found ++ rest))
    → ((k : ℕ) → InRanges sectors k ↔ IsOut sector (file_in c.subject image) c (c ∷ later) k) → Tells c sectors found new
    → (rest : List Missing) → AreMissing sector image later rest → AreMissing sector image all (new ++ rest)
calls_more sector image all later c sectors found new so_far out tells rest is = elim tells [
  | inl down ↦
      let none : (k : ℕ) → ¬ IsOut sector (file_in c.subject image) c (c ∷ later) k = λ k. λ h. subst (λ (l : List (ℕ × ℕ)). InRanges l k) down.0 ((out k).1 h) in
      subst (λ (l : List Missing). AreMissing sector image all (l ++ rest)) (sym down.1) (so_far rest (inr (none, is)))
  | inr told ↦
      let m = told.1.0 in
      let so : IsTold sector (file_in c.subject image) c (c ∷ later) m = told_of sector (file_in c.subject image) c (c ∷ later) sectors m out told.0 told.1.1 in
      subst (λ (l : List Missing). AreMissing sector image all l) (sym (ap (λ (l : List Missing). l ++ rest) told.1.2 ∙ append_assoc found (m ∷ []) rest)) (so_far (m ∷ rest) (inl (m, rest, refl, so, is)))
]
