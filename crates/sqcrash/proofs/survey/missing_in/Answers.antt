use Rattle.std.proofs.lemmas.Result.{MatchResult-weaker}
use Rattle.sqcrash.specs.Runs.{run_of}
use Rattle.sqcrash.proofs.ShownImages.{explained}
use Rattle.sqcrash.proofs.survey.missing_in.Goals as goal

pub returns-in_default-clause-explained : goal.returns-in_default-clause-explained
returns-in_default-clause-explained c = λ shows.
    MatchResult-weaker c.missing.result c.missing.ensures
    (λ found is. explained (run_of c.args.run.now) c.args.image.now c.args.shown.now c.args.judgment found.items c.in_default.not-Kept shows is) (λ refusal is. tt)
