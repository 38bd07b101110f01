use Rattle.sqworld.proofs.Facts.{Begins, Refused, ap, began, number_of, rules, state_of, stepped_still, sym, ◌+◌}
use Rattle.sqworld.proofs.session.Session.begin.Goals as goal

pub returns-in-Ok-clause-serves : goal.returns-in-Ok-clause-serves
returns-in-Ok-clause-serves c page_size =
    began page_size c.args.self.now c.hold.new.self c.begin.new.self c.in-Ok.reader (c.args.self.now.first + c.len.result) c.hold.result c.hold.ensures.wal c.hold.ensures.first c.hold.ensures.slots c.hold.ensures.reply
    (ap (λ n. c.args.self.now.first + n) (search rules)) c.in-Ok.ensures.disk (c.in-Ok.ensures.begins.holds tt)

pub returns-in-Err-clause-serves : goal.returns-in-Err-clause-serves
returns-in-Err-clause-serves c page_size = stepped_still page_size c.args.self.now c.begin.new.self Begins (Refused (number_of c.in-Err.error)) (Refused c.number.result) (ap Refused (sym c.number.ensures)) (λ size logs calls. ap state_of c.in-Err.ensures.disk) (λ past fits may. c.in-Err.ensures.begins.holds tt past fits)
