use Rattle.std.proofs.Common.{sym, subst}
use Rattle.rig_judge.specs.declared.judgment.Judgment.{Judgment}
use Rattle.sqcrash.specs.Keeping.{Keeps, kept_of}
use Rattle.sqcrash.proofs.KeptImages.{keeps_none}
use Rattle.sqcrash.proofs.survey.keep_wrong.Goals as goal

pub returns-in-Kept-clause-kept : goal.returns-in-Kept-clause-kept
returns-in-Kept-clause-kept g c =
    let old = g.K.Keeper.kept c.args.keeper.now in
    subst (λ (j : Judgment). Keeps old old (kept_of c.args.number j c.args.image.now)) (sym c.in-Kept.is) (keeps_none old)
