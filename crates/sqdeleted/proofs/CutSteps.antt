-- The steps of a cursor over cells that lost their first four bytes, and what they leave.
use Rattle.std.proofs.Common.{◌≡◌, ◌∙◌, ℕ, ◌+◌, List, [], ◌∷◌, Some, sym, ap, subst}
use Rattle.sqpage.specs.Header.{half}
use Rattle.sqpage.specs.Layout.{IsFreeblock}
use Rattle.sqdeleted.specs.Cut.{AreCutFrom, AreFilled}
use Rattle.sqdeleted.specs.CutCursor.{AreCutLeft, CutsMove}
use Rattle.sqdeleted.specs.declared.cut.CutCell.{CutCell}
use Rattle.sqdeleted.specs.declared.cut_cursor.CutCells.{CutCells}
use Rattle.sqdeleted.specs.declared.whole.WholeCells.{WholeCells}
use Rattle.sqdeleted.specs.internal.Rests.{FindsNoCut, FindsCut, OpensCut, IsAtLast}
use Rattle.sqdeleted.proofs.CutPlaces.{more_cut, next_cuts, no_cuts}
use Rattle.sqdeleted.proofs.CutValues.{cut_filled}

-- the same numbers
moved : (u v : List ℕ) (x y : WholeCells) (p q a b t w l m n k : ℕ) (cells : List CutCell) → u ≡ v → x ≡ y → p ≡ q → a ≡ b → t ≡ w → l ≡ m → n ≡ k
    → AreCutFrom u x p a t l n cells → AreCutFrom v y q b w m k cells
moved u v x y p q a b t w l m n k cells e1 e2 e3 e4 e5 e6 e7 z =
    subst (λ (i : ℕ). AreCutFrom v y q b w m i cells) e7 (subst (λ (i : ℕ). AreCutFrom v y q b w i n cells) e6 (subst (λ (i : ℕ). AreCutFrom v y q b i l n cells) e5
    (subst (λ (i : ℕ). AreCutFrom v y q i t l n cells) e4 (subst (λ (i : ℕ). AreCutFrom v y i a t l n cells) e3 (subst (λ (i : WholeCells). AreCutFrom v i p a t l n cells) e2
    (subst (λ (i : List ℕ). AreCutFrom i x p a t l n cells) e1 z))))))

pub found_filled : (now new : CutCells) (cell : CutCell) → FindsCut now new cell → AreFilled cell.types.now cell.bodies.now
found_filled now new cell f = cut_filled now.used.now now.whole.now.begin.items now.to f.1.0 now.number f.1.0 f.1.1 cell f.1.3.0.left f.1.4

-- A cursor of which another one has what is left.
module _ (old now : CutCells) (same : (cells : List CutCell) → AreCutLeft now cells → AreCutLeft old cells) where
  -- comes to the first one of its gap
  pub found_cut : (new : CutCells) (cell : CutCell) → FindsCut now new cell → CutsMove old new (Some cell)
  found_cut new cell f cells left =
      let s = f.0 in
      same (cell ∷ cells) (more_cut now.used.now now.whole.now now.number now.at now.to now.least now.next f.1.0 f.1.1 cell cells f.1.3 f.1.4
      (moved new.used.now now.used.now new.whole.now now.whole.now new.number now.number new.at f.1.1.end new.to now.to new.least now.least new.next now.next cells
      s.used s.whole s.number f.1.2 s.to s.least s.next left))

  -- whose gap has none, is at its end where no freeblock follows
  pub found_no_more : (mid : CutCells) → FindsNoCut now mid → IsAtLast mid → AreCutLeft old []
  found_no_more mid f last =
      let s = f.0 in
      same [] (no_cuts now.used.now now.whole.now now.number now.at now.to now.least now.next f.1
      (λ b e is. last b (e ∙ sym s.next) (subst (λ (u : List ℕ). IsFreeblock u mid.least b) (sym s.used) (subst (λ (m : ℕ). IsFreeblock now.used.now m b) (sym s.least) is))))

  -- and else comes to the next freeblock with all that is left
  pub found_next_cuts : (mid new : CutCells) → FindsNoCut now mid → OpensCut mid new → (cells : List CutCell) → AreCutLeft new cells → AreCutLeft old cells
  found_next_cuts mid new f o cells left =
      let s = f.0 in
      let used : new.used.now ≡ now.used.now = o.used ∙ s.used in
      let is : IsFreeblock now.used.now now.least o.block =
      subst (λ (u : List ℕ). IsFreeblock u now.least o.block) s.used (subst (λ (m : ℕ). IsFreeblock mid.used.now m o.block) s.least o.is) in
      let next : new.next ≡ half now.used.now o.block.start = o.next ∙ ap (λ (u : List ℕ). half u o.block.start) s.used in
      same cells (next_cuts now.used.now now.whole.now now.number now.at now.to now.least now.next o.block cells f.1 (o.start ∙ s.next) is
      (moved new.used.now now.used.now new.whole.now now.whole.now new.number now.number new.at o.block.start new.to (o.block.start + o.block.size) new.least (o.block.start + o.block.size)
      new.next (half now.used.now o.block.start) cells used (o.whole ∙ s.whole) (o.number ∙ s.number) o.at o.to o.least next left))
