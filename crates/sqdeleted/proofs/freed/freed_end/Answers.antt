use Rattle.std.proofs.Common.{◌≡◌, ◌⊎◌, ◌∙◌, ℕ, ◌+◌, ◌<◌, ◌≤◌, List, length, arith, inl, inr, sym, subst}
use Rattle.sqpage.specs.Header.{half}
use Rattle.sqdeleted.proofs.FreedPlaces.{none_freed, misnamed, freed_here}
use Rattle.sqdeleted.proofs.freed.freed_end.Goals as goal

pub returns-in_err-size : goal.returns-in_err-size
returns-in_err-size c = rw c.from_residual.ensures (none_freed c.args.used.now c.args.at c.freeblock_size.result c.in_err-size.was c.freeblock_size.ensures.found)

pub overflow_add-last : goal.overflow_add-last
overflow_add-last c =
    let is = (c.freeblock_size.ensures.found c.in_ok-size.size).0 c.in_ok-size.was in
    let within : c.args.at + c.in_ok-size.size ≤ length c.args.used.now = is.within in
    omega (arith, within, c.requires.0)

names : (used : List ℕ) (at last next : ℕ) → next ≡ half used at → ((next ≡ 0 → ⊥) × (last < next)) ⊎ (next ≡ 0) → (half used at ≡ 0) ⊎ (last < half used at)
names used at last next e (inl w) = inr (subst (λ (n : ℕ). last < n) e w.1)
names used at last next e (inr z) = inl (sym e ∙ z)

pub returns : goal.returns
returns c =
    let is = (c.freeblock_size.ensures.found c.in_ok-size.size).0 c.in_ok-size.was in
    freed_here c.args.used.now c.args.at c.in_ok-size.size is
    (names c.args.used.now c.args.at (c.args.at + c.in_ok-size.size) c.half_at-next.result c.half_at-next.ensures.value c.else-next-ne0.either)

pub returns-then-next-last : goal.returns-then-next-last
returns-then-next-last c =
    misnamed c.args.used.now c.args.at c.in_ok-size.size c.half_at-next.result c.half_at-next.ensures.value ((c.freeblock_size.ensures.found c.in_ok-size.size).0 c.in_ok-size.was)
    c.if-next-ne0.true c.if-next-last.true
