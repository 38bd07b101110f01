use Rattle.std.proofs.Common.{ℕ, Option, refl, subst}
use Rattle.std.proofs.lemmas.Result.{MatchResult-weaker}
use Rattle.sqcrash.specs.Runs.{run_of}
use Rattle.sqcrash.specs.Surveys.{ShowsBy, shown_of}
use Rattle.sqcrash.proofs.shown.shrunk_by.Goals as goal

pub returns-in-Some : goal.returns-in-Some
returns-in-Some c =
    let run = run_of c.args.run.now in
    let image = c.args.image.now in
    MatchResult-weaker c.shrunk.result c.shrunk.ensures (λ shrunk is. subst (λ (o : Option ℕ). ShowsBy o run c.args.judgment image (shown_of image shrunk)) c.in-Some.ensures is) (λ refusal is. is)

pub returns-in-None : goal.returns-in-None
returns-in-None c =
    let image = c.args.image.now in
    subst (λ (o : Option ℕ). ShowsBy o (run_of c.args.run.now) c.args.judgment image image) c.in-None.ensures refl
