use Rattle.std.proofs.Common.{◌≡◌, ◌+◌, ◌-◌, List, ℕ, length, max, sym, ◌∙◌, ap, subst, arith}
use Rattle.std.specs.Prelude.{vec_capacity}
use Rattle.sqwal.specs.internal.Chains.{IsIndex, named}
use Rattle.sqwal.proofs.find.FrameChainsOfPages.{resized, index_grown, pages_grown}
use Rattle.sqwal.proofs.index.FrameIndex.grow.Goals as goal

pub invariant_of-self-2 : goal.invariant_of-self-2
invariant_of-self-2 c =
    let newest : List ℕ = c.self.inside.newest.items in
    let earlier : List ℕ = c.self.inside.earlier.items in
    let pages : ℕ = c.max-pages.result in
    let len : c.self.inside.newest.len ≡ length newest = omega arith in
    let len_2 : c.self.inside.earlier.len ≡ length earlier = omega arith in
    let same = c.in_ok-reserve.ensures.items in
    let count = c.in_ok-reserve.ensures.len in
    let most : pages ≡ max (length newest) (c.args.bound + 1) = omega arith in
    let items = resized newest c.reserve.new.self.items c.resize.new.self.items pages c.reserve.new.self.len same (omega arith) (omega arith) (rw c.unwrap.ensures at c.resize.ensures.items) in
    let fits = c.self.invariant.fits in
    let more : ℕ = c.max-self-inside.result in
    let wider = c.in_ok-reserve-2.ensures.capacity in
    let enough = c.in_ok-reserve-2.ensures.ok in
    let kept = c.in_ok-reserve-2.ensures.len in
    subst (λ (l : List ℕ). IsIndex c.resize.new.self.items l more (vec_capacity c.reserve-2.new.self)) (sym c.in_ok-reserve-2.ensures.items)
    (index_grown newest earlier c.resize.new.self.items c.self.inside.room (vec_capacity c.self.inside.earlier) (pages - length newest) more (vec_capacity c.reserve-2.new.self) c.self.invariant items (omega arith) (omega arith) (omega arith))

pub returns-clause-pages : goal.returns-clause-pages
returns-clause-pages c =
    let newest : List ℕ = c.self.inside.newest.items in
    let earlier : List ℕ = c.self.inside.earlier.items in
    let pages : ℕ = c.max-pages.result in
    let len : c.self.inside.newest.len ≡ length newest = omega arith in
    let same = c.in_ok-reserve.ensures.items in
    let items = resized newest c.reserve.new.self.items c.resize.new.self.items pages c.reserve.new.self.len same (omega arith) (omega arith) (rw c.unwrap.ensures at c.resize.ensures.items) in
    ap (λ (l : List ℕ). named c.resize.new.self.items l (length l)) c.in_ok-reserve-2.ensures.items
    ∙ pages_grown newest earlier c.resize.new.self.items c.self.inside.room (vec_capacity c.self.inside.earlier) (pages - length newest) c.args.self.now c.self.invariant c.self.view_is items
