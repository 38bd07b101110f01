use Rattle.std.proofs.Common.{◌≡◌, List, length}
use Rattle.sqcrash.specs.Runs.{run_of}
use Rattle.sqcrash.specs.Surveys.{Judged, Tells, AreNumbered}
use Rattle.sqcrash.proofs.survey.survey_numbered.Given as goal

abbrev pub invariant-loop-n : goal.invariant-loop-n
invariant-loop-n g l = (judged : List Judged) × (length judged ≡ l.n) × AreNumbered (run_of l.run) l.counts 0 judged × Tells (run_of l.run) judged l.fn.survey l.survey
