use Rattle.sqworld.proofs.Facts.{ap, ended, found_slot, set, sym, ◌∙◌}
use Rattle.sqworld.proofs.session.Session.end.Goals as goal

pub returns-clause-serves : goal.returns-clause-serves
returns-clause-serves c page_size =
    ended page_size c.args.self.now c.end.new.self _ c.args.number c.in-Some.i c.in-Some-take.reader c.in-Some.ensures.1 c.in-Some.ensures.0
    (found_slot c.args.self.now.slots.items c.in-Some.i c.index_mut.result.now _ c.in-Some.ensures.0 c.index_mut.ensures.value (sym c.take.ensures.value ∙ c.in-Some-take.is))
    (ap (λ slot. set c.args.self.now.slots.items c.in-Some.i slot) c.take.ensures.after) c.end.ensures.disk (λ past n fits got. c.end.ensures.step tt past n fits got)
