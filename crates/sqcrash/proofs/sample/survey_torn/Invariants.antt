use Rattle.std.proofs.Common.{◌<◌, length}
use Rattle.rig_images.specs.Torn.{MayLeaveTorn}
use Rattle.sqcrash.specs.Runs.{run_of}
use Rattle.sqcrash.specs.Samples.{IsSampled}
use Rattle.sqcrash.proofs.sample.survey_torn.Given as goal

abbrev pub invariant-loop-n : goal.invariant-loop-n
invariant-loop-n g l = (MayLeaveTorn (run_of l.run).files l.which l.image) × (so : IsSampled (MayLeaveTorn (run_of l.run).files l.which) (run_of l.run) l.fn.limit l.fn.survey l.sample l.survey) × (0 < l.n → 0 < length so.judged)
