use Rattle.std.proofs.Common.{◌<◌, length, map}
use Rattle.rig_families.specs.Versions.{named_of}
use Rattle.rig_images.specs.Left.{MayLeave}
use Rattle.sqcrash.specs.Runs.{run_of}
use Rattle.sqcrash.specs.Samples.{IsDrawing}
use Rattle.sqcrash.proofs.sample.survey_drawn.Given as goal

abbrev pub invariant-loop-n : goal.invariant-loop-n
invariant-loop-n g l = (MayLeave (run_of l.run).files l.image) × (is : IsDrawing (map (λ v. named_of v) l.prefixes.versions.items) (run_of l.run) l.fn.limit l.fn.survey l.sample l.survey) × (0 < l.n → 0 < length is.so.judged)
