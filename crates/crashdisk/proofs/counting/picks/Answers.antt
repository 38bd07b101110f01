use Rattle.crashdisk.proofs.Facts.{digits_more, file_by, rest_more, value_count}
use Rattle.crashdisk.proofs.counting.picks.Goals as goal

pub loop-k-preserved : goal.loop-k-preserved
loop-k-preserved c =
    let counts = value_count (file_by c.args.sector c.args.sectors.now 0 0 0) in
    record {
      named = digits_more counts c.args.n.now c.loop-k.k c.loop-k.rest c.count_values-values.result c.loop-k.pick.items c.push.new.self.items c.loop-k.invariant.named c.loop-k.invariant.rest c.count_values-values.ensures c.in_ok-push.ensures.items;
      rest = rest_more counts c.args.n.now c.loop-k.k c.loop-k.rest c.count_values-values.result c.loop-k.invariant.rest c.count_values-values.ensures;
    }
