use Rattle.sqdeleted.proofs.BeginsOfRecords.{too_small, not_begun, begun}
use Rattle.sqdeleted.proofs.header.begins_record.Goals as goal

pub returns-in_default-clause-not : goal.returns-in_default-clause-not
returns-in_default-clause-not c = λ e b short. c.in_default.ensures b.header b.size b.has

pub returns-then-size-header-clause-not : goal.returns-then-size-header-clause-not
returns-then-size-header-clause-not c = λ e b short.
    let h = c.in-Some.ensures in
    too_small c.args.size c.in-Some.header h.0 c.args.bytes.now h.1 c.if-size-header.true b

pub returns-clause-yes : goal.returns-clause-yes
returns-clause-yes c = λ e.
    let h = c.in-Some.ensures in
    let w = c.are_types.ensures.yes e in
    begun c.args.size c.in-Some.header h.0 c.in-Some.types.now c.args.bytes.now h.1 h.2 w.0 c.if-size-header.false w.1 w.2 w.3 w.4

pub returns-clause-not : goal.returns-clause-not
returns-clause-not c = λ e.
    let h = c.in-Some.ensures in
    not_begun c.args.size c.in-Some.header h.0 c.in-Some.types.now c.args.bytes.now h.1 h.2 c.if-size-header.false (c.are_types.ensures.not e)
