use Rattle.std.proofs.Common.{◌≡◌, ◌+◌, ℕ, List, Option, Ok, sym, subst, arith}
use Rattle.rig_store.specs.Calls.{carried, IsCallAt, AreCalls}
use Rattle.rig_store.specs.internal.Calls.{NextAnswer}
use Rattle.rig_store.specs.declared.call.Call.{Call}
use Rattle.rig_store.proofs.ConsecutiveCalls.{calls_more}
use Rattle.rig_store.proofs.call.calls_from.Goals as goal

pub loop-calls-preserved : goal.loop-calls-preserved
loop-calls-preserved c =
    let b = c.args.bytes.now in
    let at = c.loop-calls.at in
    let r = c.in-Some.call in
    let next : ℕ = r.from + c.carried.result in
    let here : IsCallAt b at r = subst (λ (o : Option Call). NextAnswer b at (Ok o)) c.in-Some.is c.in_ok-call.ensures in
    let is : next ≡ at + 40 + carried r = omega (arith, here.head.from, c.carried.ensures) in record {
      there = omega (arith, here.within, is);
      calls = subst (λ (l : List Call). AreCalls b c.args.start l next) (sym c.in_ok-push.ensures.items) (calls_more b c.args.start c.loop-calls.calls.items at next r c.loop-calls.invariant.calls here is);
    }
