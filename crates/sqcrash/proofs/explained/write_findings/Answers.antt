use Rattle.std.proofs.Common.{inl, inr, List, length, ap, subst, arith}
use Rattle.std.proofs.lemmas.List.{take_all}
use Rattle.std.proofs.lemmas.List.Folds.{length-flat_map-take}
use Rattle.sqcrash.specs.Lines.{asked_texts, texts_of}
use Rattle.sqcrash.specs.Told.{Told}
use Rattle.sqcrash.specs.Writes.{Writes}
use Rattle.sqcrash.proofs.WrittenTexts.{writes_none, writes_next}
use Rattle.sqcrash.proofs.PassedRefusals.{passed}
use Rattle.sqcrash.proofs.explained.write_findings.Goals as goal

pub loop-finding-init : goal.loop-finding-init
loop-finding-init g c = writes_none c.args.plan.lines c.args.told (g.O.Write.contents c.args.out.now)

pub loop-finding-preserved : goal.loop-finding-preserved
loop-finding-preserved g c =
    writes_next (asked_texts c.args.plan c.args.at) c.args.plan.lines c.args.findings.now c.loop-finding.finding-index c.finding-item.result c.finding-item.result
    c.args.told c.loop-finding.count c.in_ok-next.next
    (g.O.Write.contents c.args.out.now) (g.O.Write.contents c.loop-finding.out) (g.O.Write.contents c.write_asked.new.out) c.loop-finding-test.true c.finding-item.is
    c.loop-finding.invariant c.in_ok-next.ensures

pub returns : goal.returns
returns g c =
    let plan = c.args.plan in
    subst (λ (l : List Told). Writes plan.lines (texts_of plan c.args.at l) c.args.told c.loop-finding.count (g.O.Write.contents c.args.out.now) (g.O.Write.contents c.loop-finding.out))
    (take_all c.loop-finding.finding-index c.args.findings.now c.loop-finding-test.false) c.loop-finding.invariant

pub returns-in_err-next : goal.returns-in_err-next
returns-in_err-next g c =
    let plan = c.args.plan in
    let found = c.args.findings.now in
    let i = c.loop-finding.finding-index in
    let x = c.finding-item.result in
    let fits = length-flat_map-take (asked_texts plan c.args.at) found i x c.loop-finding-test.true in
    let same = ap (λ (y : Told). length (asked_texts plan c.args.at y)) c.finding-item.is in
    let count = c.loop-finding.invariant.0 in
    passed c.from_residual.result _ _ _ c.from_residual.ensures.1
    (elim c.in_err-next.ensures [
      | inl unwritten ↦ inl unwritten
      | inr many ↦ inr (many.0, omega (arith, many.1, same, fits, count))
    ])
