use Rattle.std.proofs.Common.{Bool, [], ◌∷◌, cond, length, subst}
use Rattle.std.specs.Result.{MatchResult}
use Rattle.sqcrash.specs.Lines.{finding_text}
use Rattle.sqcrash.specs.Refusals.{WriteRefused}
use Rattle.sqcrash.specs.Writes.{Writes}
use Rattle.sqcrash.proofs.WrittenTexts.{writes_none}
use Rattle.sqcrash.proofs.explained.write_asked.Goals as goal

pub returns-then-not-is_told : goal.returns-then-not-is_told
returns-then-not-is_told g c =
    let plan = c.args.plan in
    let old = g.O.Write.contents c.args.out.now in
    let text = finding_text plan.style plan.why c.args.at c.args.finding.now in
    subst (λ (b : Bool). Writes plan.lines (cond b (text ∷ []) []) c.args.told c.args.told old old) c.if-not-is_told.ensures (writes_none plan.lines c.args.told old)

pub returns : goal.returns
returns g c =
    let plan = c.args.plan in
    let old = g.O.Write.contents c.args.out.now in
    let new = g.O.Write.contents c.write_one.new.out in
    let text = finding_text plan.style plan.why c.args.at c.args.finding.now in
    subst
    (λ (b : Bool). MatchResult c.write_one.result (λ n. Writes plan.lines (cond b (text ∷ []) []) c.args.told n old new) (WriteRefused c.args.told (length (cond b (text ∷ []) []))))
    c.if-not-is_told.ensures c.write_one.ensures
