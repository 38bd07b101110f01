use Rattle.sqdeleted.proofs.BeginsOfRecords.{whole_record}
use Rattle.sqdeleted.proofs.cell.DeletedCell.record.Goals as goal

pub returns-in-Err-clause-whole : goal.returns-in-Err-clause-whole
returns-in-Err-clause-whole c = λ few all begins.
    let w = whole_record c.args.self.now.payload c.args.self.now.local.now begins all in
    absurd ((c.in-Err.ensures.read w.0).1 (few, w.1))
