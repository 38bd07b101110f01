use Rattle.std.proofs.Common.{ℕ, List, sym, subst}
use Rattle.std.specs.Io.KnownBytes.{Appends}
use Rattle.sqcrash.specs.Lines.{finding_text}
use Rattle.sqcrash.proofs.AppendedBytes.{appends_none}
use Rattle.sqcrash.proofs.WrittenTexts.{one_beyond, one_within}
use Rattle.sqcrash.proofs.explained.write_one.Goals as goal

pub returns-then-not-is_within : goal.returns-then-not-is_within
returns-then-not-is_within g c =
    let old = g.O.Write.contents c.args.out.now in
    let text = finding_text c.args.plan.style c.args.plan.why c.args.at c.args.finding.now in (
      c.in_ok-count.ensures,
      subst (λ (t : List ℕ). Appends old old t) (sym (one_beyond c.args.plan.lines c.args.told text c.if-not-is_within.ensures)) (appends_none old),
    )

pub returns : goal.returns
returns g c =
    let old = g.O.Write.contents c.args.out.now in
    let new = g.O.Write.contents c.write_finding.new.out in
    let text = finding_text c.args.plan.style c.args.plan.why c.args.at c.args.finding.now in (
      c.in_ok-count.ensures,
      subst (λ (t : List ℕ). Appends old new t) (sym (one_within c.args.plan.lines c.args.told text c.if-not-is_within.ensures)) c.in_ok-write_finding.ensures,
    )
