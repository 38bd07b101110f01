use Rattle.std.proofs.Common.{◌≡◌, ℕ, List, take}
use Rattle.sqcrash.specs.Rigs.{rig_of, JudgesAll}
use Rattle.sqcrash.specs.Writes.{Writes}
use Rattle.sqcrash.proofs.program.judge_records.Given as goal

abbrev pub invariant-loop-call : goal.invariant-loop-call
invariant-loop-call g l = record {
  judged : (texts : List (List ℕ))
      × JudgesAll l.fn.plan l.bytes (take l.call-index l.call-items) (rig_of l.initial.rig) (rig_of l.rig) texts
      × Writes l.fn.plan.lines texts 0 l.told (g.O.Write.contents l.initial.out) (g.O.Write.contents l.out);
  plan : l.rig.plan ≡ l.fn.plan;
}
