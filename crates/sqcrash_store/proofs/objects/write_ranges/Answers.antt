use Rattle.sqcrash_store.specs.Objects.{range_object}
use Rattle.sqcrash_store.proofs.MembersWritten.{member_next}
use Rattle.sqcrash_store.proofs.objects.write_ranges.Goals as goal

pub loop-i-preserved : goal.loop-i-preserved
loop-i-preserved g c =
    member_next range_object c.args.ranges.now c.loop-i.i (0, 0) (g.O.Write.contents c.args.out.now) (g.O.Write.contents c.loop-i.out) (g.O.Write.contents c.write_range.new.out)
    c.loop-i-test.true c.loop-i.invariant c.in_ok-write_range.ensures
