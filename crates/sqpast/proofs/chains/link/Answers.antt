use Rattle.std.proofs.Common.{◌≡◌, ◌-◌, ◌≤◌, ℕ, length, get_or, set, sym, ◌∙◌, subst, arith}
use Rattle.std.proofs.lemmas.Grind.{get_or_default_zero}
use Rattle.sqpast.specs.internal.Chains.{AreChainsFrom}
use Rattle.sqpast.proofs.known.FramesByPage.{linked, unlinked}
use Rattle.sqpast.proofs.chains.link.Goals as goal
use Rattle.sqpast.proofs.chains.link.Goals.{else-page-gt0-via-then-page-gt0+else-page-len, else-page-gt0-via-else-page-gt0}

pub returns-then-page-len-clause-chains : goal.returns-then-page-len-clause-chains
returns-then-page-len-clause-chains c = λ size w front pages names some are.
    let first = c.args.first.now.items in
    let next = c.args.next.now.items in
    let within : c.args.page ≤ length first = omega (arith, c.if-page-len.true, c.len.ensures) in
    let at : c.index.result.now ≡ get_or first (c.args.page - 1) 0 = c.index.ensures ∙ get_or_default_zero first (c.args.page - 1) c.index.result.now (omega arith) in
    subst (λ (n : ℕ). AreChainsFrom size w front pages (c.args.frame - 1) (set first (c.args.page - 1) c.args.frame) (set next (c.args.frame - 1) n)) (sym at)
    (linked size w front pages c.args.frame c.args.page first next names some c.requires.0 c.requires.1 are within)

pub returns-else-page-gt0-clause-chains : goal.returns-else-page-gt0-clause-chains
returns-else-page-gt0-clause-chains c = λ size w front pages names some are.
    elim c.else-page-gt0.branch [
      | else-page-gt0-via-then-page-gt0+else-page-len x ↦ unlinked size w front pages c.args.frame c.args.page c.args.first.now.items c.args.next.now.items names some c.requires.0 c.requires.1 are (omega (arith, x.if-page-len.false, x.len.ensures))
      | else-page-gt0-via-else-page-gt0 x ↦ absurd (omega (arith, x.if-page-gt0.false, some))
    ]
