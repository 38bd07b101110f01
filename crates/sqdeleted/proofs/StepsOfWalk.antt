-- The steps of a cursor over deleted cells, and what they leave.
use Rattle.std.proofs.Common.{◌≡◌, ◌∙◌, ◌↔◌, ℕ, ◌+◌, List, [], ◌∷◌, Some, inl, sym, ap, subst}
use Rattle.sqpage.specs.Header.{half}
use Rattle.sqpage.specs.Layout.{IsFreeblock}
use Rattle.sqpage.specs.declared.cell.Parts.{Parts}
use Rattle.sqdeleted.specs.declared.cell.DeletedCell.{DeletedCell}
use Rattle.sqdeleted.specs.declared.cursor.DeletedCells.{DeletedCells}
use Rattle.sqdeleted.specs.Deleted.{IsCellOf}
use Rattle.sqdeleted.specs.DeletedCursor.{IsLeft, AreLeft, CellsMove}
use Rattle.sqdeleted.specs.internal.Steps.{FindsNone, Finds, Opens, IsAtEnd}
use Rattle.sqdeleted.proofs.PlacesLeft.{Left, Places, no_places, same_places, first_place, opened, ended}

-- the same numbers
moved : (P : List ℕ → ℕ → ℕ → ℕ → ℕ → Type 0) (u v : List ℕ) (a b t w l m n k : ℕ) → u ≡ v → a ≡ b → t ≡ w → l ≡ m → n ≡ k → P u a t l n → P v b w m k
moved P u v a b t w l m n k e1 e2 e3 e4 e5 x =
    subst (λ (z : ℕ). P v b w m z) e5 (subst (λ (z : ℕ). P v b w z n) e4 (subst (λ (z : ℕ). P v b z l n) e3 (subst (λ (z : ℕ). P v z t l n) e2 (subst (λ (z : List ℕ). P z a t l n) e1 x))))

-- A cursor that has what another one has left.
module _ (old now : DeletedCells) (same : (p : ℕ) (c : Parts) → IsLeft old p c ↔ IsLeft now p c) where
  -- comes to the first cell of its gap
  pub found_first : (new : DeletedCells) (cell : DeletedCell) → now.used.now ≡ old.used.now → now.number ≡ old.number → Finds now new cell → CellsMove old new (Some cell)
  found_first new cell used number f =
      let stays = f.0 in
      let at : ℕ = f.1.0 in
      let c : Parts = f.1.1 in
      let told : IsCellOf old.used.now old.number at c cell =
      subst (λ (n : ℕ). IsCellOf old.used.now n at c cell) number (subst (λ (u : List ℕ). IsCellOf u now.number at c cell) used f.1.4) in (
        at,
        c,
        (same at c).1 (inl f.1.3),
        told,
        λ places m. same_places (IsLeft old) (IsLeft now) (at ∷ places) same
            (first_place now.used.now now.at now.to now.least now.next at c now.apart f.1.3 f.1.5 places
            (moved (λ u a t l n. Places (Left u a t l n) places) new.used.now now.used.now new.at (at + 1) new.to now.to new.least now.least new.next now.next stays.used f.1.2 stays.to stays.least stays.next m)),
      )

  -- whose gap has none, is at its end where no freeblock follows
  pub found_end : (mid : DeletedCells) → FindsNone now mid → IsAtEnd mid → AreLeft old []
  found_end mid f last =
      let stays = f.0 in
      no_places (IsLeft old) (λ p c l. ended now.used.now now.at now.to now.least now.next f.1
      (λ b e is. last b (e ∙ sym stays.next) (subst (λ (u : List ℕ). IsFreeblock u mid.least b) (sym stays.used) (subst (λ (m : ℕ). IsFreeblock now.used.now m b) (sym stays.least) is)))
      p c ((same p c).0 l))

  -- and else comes to the next freeblock with all that is left
  module _ (mid new : DeletedCells) (f : FindsNone now mid) (o : Opens mid new) where
    is_block : IsFreeblock now.used.now now.least o.block
    is_block = subst (λ (u : List ℕ). IsFreeblock u now.least o.block) f.0.used (subst (λ (m : ℕ). IsFreeblock mid.used.now m o.block) f.0.least o.is)

    next_half : half mid.used.now o.block.start ≡ half now.used.now o.block.start
    next_half = ap (λ (u : List ℕ). half u o.block.start) f.0.used

    behind : (p : ℕ) (c : Parts) → IsLeft now p c ↔ Left now.used.now (o.block.start + 4) (o.block.start + o.block.size) (o.block.start + o.block.size) (half now.used.now o.block.start) p c
    behind p c = opened now.used.now now.at now.to now.least now.next f.1 o.block (o.start ∙ f.0.next) is_block p c

    pub found_next : (p : ℕ) (c : Parts) → IsLeft old p c ↔ IsLeft new p c
    found_next p c = (
      λ l. moved (λ u a t l n. Left u a t l n p c) now.used.now new.used.now (o.block.start + 4) new.at (o.block.start + o.block.size) new.to (o.block.start + o.block.size) new.least
          (half now.used.now o.block.start) new.next (sym (o.used ∙ f.0.used)) (sym o.at) (sym o.to) (sym o.least) (sym (o.next ∙ next_half)) ((behind p c).0 ((same p c).0 l)),
      λ l. (same p c).1 ((behind p c).1
          (moved (λ u a t l n. Left u a t l n p c) new.used.now now.used.now new.at (o.block.start + 4) new.to (o.block.start + o.block.size) new.least (o.block.start + o.block.size)
          new.next (half now.used.now o.block.start) (o.used ∙ f.0.used) o.at o.to o.least (o.next ∙ next_half) l)),
    )
