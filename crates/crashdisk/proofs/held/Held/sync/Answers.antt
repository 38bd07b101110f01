use Rattle.crashdisk.proofs.Between.{held_again, settled_lists, settled_whole}
use Rattle.crashdisk.proofs.held.Held.sync.Goals as goal

pub returns-clause-held : goal.returns-clause-held
returns-clause-held c =
    let old = c.args.self.now in
    held_again c.args.sector old _ c.requires c.settle.ensures.count (settled_whole c.args.sector old.len old.least old.greatest old.sectors.items c.settle.new.sectors.items c.requires.positive c.requires.whole c.settle.ensures.count c.settle.ensures.each)

pub returns-clause-synced : goal.returns-clause-synced
returns-clause-synced c =
    let old = c.args.self.now in
    settled_lists c.args.sector old.len old.least old.greatest old.sectors.items c.settle.new.sectors.items c.requires.positive c.requires.whole c.settle.ensures.count c.settle.ensures.each
