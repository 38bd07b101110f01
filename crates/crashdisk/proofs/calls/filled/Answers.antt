use Rattle.crashdisk.proofs.Facts.{file_of, filled_settled, rules}
use Rattle.crashdisk.proofs.calls.filled.Goals as goal

pub returns-clause-settled : goal.returns-clause-settled
returns-clause-settled c =
    let changed = c.in_ok-write_held.ensures.answered.changed in
    filled_settled c.args.sector c.args.bytes.now (file_of c.args.sector c.empty-held.result) (file_of c.args.sector c.write_held.new.held) (file_of c.args.sector c.sync_held.new.held)
    (c.empty-held.ensures.settled c.args.sector) (λ i. search (rules, c.type_inv.bytes i)) changed.0 changed.1 c.sync_held.ensures.synced
