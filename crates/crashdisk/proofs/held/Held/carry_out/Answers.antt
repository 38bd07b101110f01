use Rattle.crashdisk.proofs.Between.{held_made, is_made, refl}
use Rattle.crashdisk.proofs.held.Held.carry_out.Goals as goal

pub returns-clause-held : goal.returns-clause-held
returns-clause-held c = held_made c.args.sector c.args.change.now c.in_ok-list.list.items c.deref.result.now c.args.self.now c.prepare.new.self _ c.prepare.ensures.same c.prepare.ensures.held c.deref.ensures.value c.in_ok-list.ensures.list c.in_ok-append.ensures.ok

pub returns-clause-made : goal.returns-clause-made
returns-clause-made c = is_made c.args.sector c.args.change.now c.in_ok-list.list.items c.deref.result.now c.args.self.now c.prepare.new.self _ c.prepare.ensures.same c.prepare.ensures.held c.deref.ensures.value c.in_ok-list.ensures.list c.in_ok-append.ensures.ok
    refl c.min-self.ensures c.max-self.ensures
