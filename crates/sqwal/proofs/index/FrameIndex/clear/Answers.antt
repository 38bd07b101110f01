use Rattle.std.proofs.Common.{◌≡◌, [], List, ℕ, length, sym, ◌∙◌, ap, subst, arith}
use Rattle.std.specs.Prelude.{vec_capacity}
use Rattle.sqwal.specs.Index.{FrameTable}
use Rattle.sqwal.specs.internal.Chains.{IsIndex, table_of}
use Rattle.sqwal.proofs.find.FrameChainsOfPages.{zeros, index_cleared, table_cleared}
use Rattle.sqwal.proofs.index.FrameIndex.clear.Goals as goal

pub invariant_of-self : goal.invariant_of-self
invariant_of-self c =
    let newest : List ℕ = c.self.inside.newest.items in
    let room : ℕ = c.self.inside.room in
    let len : c.self.inside.newest.len ≡ length newest = omega arith in
    let none : c.fill.new.self.items ≡ zeros (length newest) = c.fill.ensures.items (λ y e. e) ∙ ap zeros len in
    let fits = c.self.invariant.fits in
    let same = c.clear.ensures.capacity in
    subst (λ (l : List ℕ). IsIndex l c.clear.new.self.items room (vec_capacity c.clear.new.self)) (sym none)
    (subst (λ (l : List ℕ). IsIndex (zeros (length newest)) l room (vec_capacity c.clear.new.self)) (sym c.clear.ensures.items)
    (index_cleared newest c.self.inside.earlier.items room (vec_capacity c.self.inside.earlier) (vec_capacity c.clear.new.self) c.self.invariant (omega arith)))

pub returns : goal.returns
returns c =
    let newest : List ℕ = c.self.inside.newest.items in
    let room : ℕ = c.self.inside.room in
    let len : c.self.inside.newest.len ≡ length newest = omega arith in
    let none : c.fill.new.self.items ≡ zeros (length newest) = c.fill.ensures.items (λ y e. e) ∙ ap zeros len in
    ap (λ (l : List ℕ). table_of l c.clear.new.self.items room) none
    ∙ ap (λ (l : List ℕ). table_of (zeros (length newest)) l room) c.clear.ensures.items
    ∙ table_cleared newest c.self.inside.earlier.items room
    ∙ ap (λ (t : FrameTable). record t { pages = [] }) c.self.view_is
