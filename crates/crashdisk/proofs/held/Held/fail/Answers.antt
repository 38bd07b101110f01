use Rattle.crashdisk.proofs.Between.{held_in_part, made_in_part, two_made}
use Rattle.crashdisk.proofs.held.Held.fail.Goals as goal

pub take_picked-requires-clause-two : goal.take_picked-requires-clause-two
take_picked-requires-clause-two c = two_made c.args.sector c.args.change.now c.in_ok-touched.touched.items c.as_slice-list.result.now c.args.self.now c.prepare.new.self c.prepare.new.self c.prepare.ensures.same c.prepare.ensures.held c.as_slice-list.ensures.value c.in_ok-touched.ensures.list c.append.new.sectors.items c.in_ok-append.ensures.ok

pub returns-clause-held : goal.returns-clause-held
returns-clause-held c = held_in_part c.args.sector c.args.change.now c.in_ok-touched.touched.items c.as_slice-list.result.now c.args.self.now c.prepare.new.self _ c.prepare.ensures.same c.prepare.ensures.held c.as_slice-list.ensures.value c.in_ok-touched.ensures.list c.append.new.sectors.items c.in_ok-append.ensures.ok
    c.args.part.now c.as_slice.result.now c.as_slice.ensures.value c.take_picked.ensures

pub returns-clause-made : goal.returns-clause-made
returns-clause-made c = made_in_part c.args.sector c.args.change.now c.in_ok-touched.touched.items c.as_slice-list.result.now c.args.self.now c.prepare.new.self _ c.prepare.ensures.same c.prepare.ensures.held c.as_slice-list.ensures.value c.in_ok-touched.ensures.list c.append.new.sectors.items c.in_ok-append.ensures.ok
    c.args.part.now c.as_slice.result.now c.as_slice.ensures.value c.take_picked.ensures c.len-self.ensures c.min-self.ensures c.max-self.ensures
