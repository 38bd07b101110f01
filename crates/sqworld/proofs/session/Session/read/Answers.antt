use Rattle.sqworld.proofs.Facts.{Page, answer_of, answered, ap, filled, found_slot, is_token, length, no_read, number_of, rules, sym, was_read, ◌∙◌, ◌≡◌}
use Rattle.sqworld.proofs.session.Session.read.Goals as goal

pub returns-in_default-index-clause-serves : goal.returns-in_default-index-clause-serves
returns-in_default-index-clause-serves c = no_read c.args.page_size c.args.self.now c.args.number c.args.page
    (is_token c.args.self.now.first c.in-Some.i c.args.number c.args.self.now.slots.items c.in-Some.ensures.1 ∙ found_slot c.args.self.now.slots.items c.in-Some.i c.index.result.now _ c.in-Some.ensures.0 c.index.ensures c.in_default-index.is)

pub returns-clause-serves : goal.returns-clause-serves
returns-clause-serves c =
    let long : length c.deref_mut.result.now ≡ c.args.page_size = search rules in
    let told : answered number_of (λ _. Page c.read-answer.new.out) c.read-answer.result ≡ answer_of c.page_outcome.result =
    sym (c.page_outcome.ensures ∙ ap (λ b. answered number_of (λ _. Page b) c.read-answer.result) (filled c.in_ok-out.out.items c.read-answer.new.out c.in_ok-out.out.len (search rules) (search rules))) in
    was_read c.args.page_size c.args.self.now c.read-answer.new.self c.args.number c.args.page c.in-Some.i c.in-Some-index.reader (answered number_of (λ _. Page c.read-answer.new.out) c.read-answer.result) (answer_of c.page_outcome.result) told c.in-Some.ensures.1 c.in-Some.ensures.0
    (found_slot c.args.self.now.slots.items c.in-Some.i c.index.result.now _ c.in-Some.ensures.0 c.index.ensures c.in-Some-index.is) (c.read-answer.ensures.disk.holds tt).looks
    (λ past n fits got size. (c.read-answer.ensures.disk.holds tt).step past n fits got (long ∙ sym size))
