use Rattle.std.proofs.Common.{◌<◌, ◌^◌, ◌++◌, length, take, inl, inr, refl, ap, ◌∙◌, arith}
use Rattle.sqpage.specs.declared.fault.Fault.TheVariants as faults
use Rattle.sqpage.specs.Chain.{contents}
use Rattle.sqpage.proofs.chain.OverflowChains.{refused, cut, more_than, at_most}
use Rattle.sqpage.proofs.overflow.payload.Goals as goal

pub returns-then-needed-from-clause-err : goal.returns-then-needed-from-clause-err
returns-then-needed-from-clause-err g c = λ right. (
  λ is. absurd cc,
  λ other. refused (g.S.PageSource.pages c.args.source.now) c.args.cell.now faults.ChainCut c.args.cell.now.page
      (inl (refl, refl, more_than c.from.result c.links_of-needed.result _ _ (c.from.ensures ∙ c.count.ensures) c.links_of-needed.ensures c.if-needed-from.true)),
)

-- The chain needs no more pages than there are.
pub returns-in-Err-clause-err : goal.returns-in-Err-clause-err
returns-in-Err-clause-err g c = λ right.
    let broken = c.in-Err.ensures.err right in (
      broken.0,
      λ other. refused (g.S.PageSource.pages c.args.source.now) c.args.cell.now c.in-Err.refusal.fault c.in-Err.refusal.page
          (inr (at_most c.from.result c.links_of-needed.result _ _ (c.from.ensures ∙ c.count.ensures) c.links_of-needed.ensures c.if-needed-from.false, broken.1 other)),
    )

pub returns-in-Ok-clause-ok : goal.returns-in-Ok-clause-ok
returns-in-Ok-clause-ok g c = λ right.
    let d = g.S.PageSource.pages c.args.source.now in
    let cell = c.args.cell.now in
    let a = c.in-Ok.ensures.ok right in
    let mid = c.append.new.out in
    let old = c.args.out.now in
    let small : length mid.items < 2 ^ 64 = omega (arith, mid.ok.0, mid.ok.1, mid.small) in (
      take c.unwrap_or-size.result (cell.local.now ++ contents d cell.usable a.pages),
      record { pages = a.pages; last = a.last; enough = a.enough; follows = a.follows; content_is = ap (λ s. take s (cell.local.now ++ contents d cell.usable a.pages)) c.unwrap_or-size.ensures },
      c.truncate.ensures.items ∙ cut old.items cell.local.now (contents d cell.usable a.pages) mid.items c.len-before.result c.unwrap_or-size.result c.saturating_add.result a.appended (c.len-before.ensures ∙ old.ok.0) c.saturating_add.ensures small,
    )
