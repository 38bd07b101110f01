use Rattle.std.proofs.Common.{sym, subst}
use Rattle.rig_images.specs.declared.image.Image.{Image}
use Rattle.sqcrash.specs.Runs.{run_of}
use Rattle.sqcrash.specs.Surveys.{Shows}
use Rattle.sqcrash.proofs.survey.Survey.judge.Goals as goal

pub returns-clause-judged : goal.returns-clause-judged
returns-clause-judged g c = λ scan.
    let shows = subst (λ (x : Image). Shows (run_of c.args.run.now) c.in_ok-judgment.judgment c.args.image.now x) (sym c.shown_of-shown.ensures) c.in_ok-shrunk.ensures in (
      c.in_ok-judgment.judgment,
      c.in_ok-missing.missing.items,
      record { judged = c.in_ok-judgment.ensures.judged scan; missing = c.in_ok-missing.ensures.explained shows },
      c.in_ok-add.ensures,
    )

pub returns-clause-kept : goal.returns-clause-kept
returns-clause-kept g c = λ scan.
    let shows = subst (λ (x : Image). Shows (run_of c.args.run.now) c.in_ok-judgment.judgment c.args.image.now x) (sym c.shown_of-shown.ensures) c.in_ok-shrunk.ensures in
    (c.in_ok-judgment.judgment, c.shown_of-shown.result.now, c.in_ok-judgment.ensures.judged scan, shows, c.in_ok-keep_wrong.ensures.kept)
