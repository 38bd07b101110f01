use Rattle.std.proofs.Common.{take, []}
use Rattle.rig_store.specs.Stores.{store_of}
use Rattle.sqcrash_store.specs.Judged.{Keeps}
use Rattle.sqcrash_store.specs.States.{TakesAll, none_taken}
use Rattle.sqcrash_store.proofs.states.take_states.Given as goal

abbrev pub invariant-loop-call : goal.invariant-loop-call
invariant-loop-call g l =
    TakesAll g.J.Judge.says l.trace (take l.call-index l.calls) (none_taken l.fn.plan) (record { store = store_of l.store; states = l.states.items })
    × Keeps (g.J.Judge.kept l.fn.judge) (g.J.Judge.kept l.judge) []
