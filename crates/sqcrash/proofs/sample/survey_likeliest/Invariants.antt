use Rattle.std.proofs.Common.{map}
use Rattle.rig_families.specs.Likeliest.{AreFamilies}
use Rattle.rig_families.specs.Versions.{named_of, version_now}
use Rattle.rig_families.specs.Members.{IsKept}
use Rattle.sqcrash.specs.Runs.{run_of}
use Rattle.sqcrash.specs.internal.Samples.{IsTaking}
use Rattle.sqcrash.proofs.sample.survey_likeliest.Given as goal

abbrev pub invariant-loop-n : goal.invariant-loop-n
invariant-loop-n g l =
    IsTaking (map (λ v. named_of v) l.prefixes.versions.items) (version_now (run_of l.run).files) (run_of l.run) l.fn.limit l.fn.survey l.sample l.survey l.n
    × AreFamilies (run_of l.run).files l.prefixes.versions.items l.families
    × IsKept (run_of l.run).files (version_now (run_of l.run).files) l.families.but l.image
