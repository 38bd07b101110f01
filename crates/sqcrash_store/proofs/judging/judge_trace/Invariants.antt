use Rattle.std.proofs.Common.{ℕ, List, take}
use Rattle.std.specs.Io.KnownBytes.{Appends}
use Rattle.sqcrash_store.specs.Judged.{Judged, Keeps}
use Rattle.sqcrash_store.specs.Surveys.{judging_of}
use Rattle.sqcrash_store.specs.Rigs.{PlaysAll, rig_of, no_rig}
use Rattle.sqcrash_store.proofs.judging.judge_trace.Given as goal

abbrev pub invariant-loop-call : goal.invariant-loop-call
invariant-loop-call g l = (lines : List ℕ) × (kept : List Judged)
    × PlaysAll g.J.Judge.says (judging_of l.bench) (take l.call-index l.call-items) (no_rig l.fn.plan) (rig_of l.rig) lines kept
    × Appends (g.O.Write.contents l.initial.out) (g.O.Write.contents l.out) lines
    × Keeps (g.J.Judge.kept l.initial.judge) (g.J.Judge.kept l.judge) kept
