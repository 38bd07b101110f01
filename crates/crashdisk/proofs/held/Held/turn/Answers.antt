use Rattle.crashdisk.proofs.Between.{turned_each}
use Rattle.crashdisk.proofs.held.Held.turn.Goals as goal

pub returns-clause-turned : goal.returns-clause-turned
returns-clause-turned c =
    let self = c.args.self.now in
    turned_each c.args.sector self.sectors.items c.turn_each.new.sectors.items self.len self.least self.greatest self.len self.least self.greatest c.args.pick.now c.requires.whole c.turn_each.ensures.count c.turn_each.ensures.each
