use Rattle.std.proofs.Common.{◌≡◌, ◌+◌, ℕ, List, Option, Ok, sym, subst, arith}
use Rattle.rig_play.specs.Trace.{carried, IsRecordAt, AreRecords}
use Rattle.rig_play.specs.internal.Trace.{NextAnswer}
use Rattle.rig_play.specs.declared.trace.Record.{Record}
use Rattle.rig_play.proofs.ConsecutiveRecords.{records_more}
use Rattle.rig_play.proofs.trace.records_from.Goals as goal

pub loop-records-preserved : goal.loop-records-preserved
loop-records-preserved c =
    let b = c.args.bytes.now in
    let at = c.loop-records.at in
    let r = c.in-Some.record in
    let next : ℕ = r.from + c.carried.result in
    let here : IsRecordAt b at r = subst (λ (o : Option Record). NextAnswer b at (Ok o)) c.in-Some.is c.in_ok-record.ensures in
    let is : next ≡ at + 40 + carried r = omega (arith, here.head.from, c.carried.ensures) in record {
      there = omega (arith, here.within, is);
      records = subst (λ (l : List Record). AreRecords b c.args.start l next) (sym c.in_ok-push.ensures.items) (records_more b c.args.start c.loop-records.records.items at next r c.loop-records.invariant.records here is);
    }
