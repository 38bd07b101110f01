use Rattle.std.proofs.Common.{◌<◌, length, map}
use Rattle.rig_play.specs.Plays.{epoch_now}
use Rattle.rig_images.specs.Left.{MayLeaveIn}
use Rattle.sqcrash.specs.Surveys.{IsFixedScan}
use Rattle.rig_families.specs.Versions.{named_of}
use Rattle.sqcrash.specs.Runs.{run_of}
use Rattle.sqcrash.specs.Samples.{IsDrawing}
use Rattle.sqcrash.proofs.sample.survey_redrawn.Given as goal

abbrev pub invariant-loop-n : goal.invariant-loop-n
invariant-loop-n g l = (MayLeaveIn (run_of l.run).files (epoch_now (run_of l.run).files) l.image × IsFixedScan l.fixed l.image l.scan) × (is : IsDrawing (map (λ v. named_of v) l.prefixes.versions.items) (run_of l.run) l.fn.limit l.fn.survey l.sample l.survey) × (0 < l.n → 0 < length is.so.judged)
