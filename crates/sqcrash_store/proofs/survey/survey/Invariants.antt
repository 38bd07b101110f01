use Rattle.std.proofs.Common.{◌≡◌, nat_eq, List}
use Rattle.std.specs.HashSet.{contains}
use Rattle.std.specs.Io.KnownBytes.{Appends}
use Rattle.rig_store.specs.Stores.{store_of}
use Rattle.sqcrash_store.specs.Judged.{Judged, Keeps, kept_among}
use Rattle.sqcrash_store.specs.Surveys.{judging_of, with_images, lines_from}
use Rattle.sqcrash_store.specs.internal.Surveys.{IsSurveyed}
use Rattle.sqcrash_store.proofs.survey.survey.Given as goal

abbrev pub invariant-loop-n : goal.invariant-loop-n
invariant-loop-n g l = (judged : List Judged)
    × IsSurveyed g.J.Judge.says (judging_of l.bench) (store_of l.point.store.now) l.point.crash l.n l.next (λ q. contains nat_eq l.keys q) judged
    × (l.tally ≡ with_images l.fn.before judged)
    × Appends (g.O.Write.contents l.initial.out) (g.O.Write.contents l.out) (lines_from (judging_of l.bench) l.fn.before judged)
    × Keeps (g.J.Judge.kept l.initial.judge) (g.J.Judge.kept l.judge) (kept_among l.bench.plan judged)
