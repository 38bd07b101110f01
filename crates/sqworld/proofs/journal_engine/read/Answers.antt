use Rattle.sqworld.proofs.Facts.{Page, answer_of, answered, ap, filled, length, rules, stepped, sym, ◌∙◌, ◌≡◌}
use Rattle.rollcore.specs.Machine.{Reads}
use Rattle.rollcore.specs.Refusal.{number_of}
use Rattle.sqworld.proofs.journal_engine.read.Goals as goal

pub returns : goal.returns
returns c =
    let long : length c.deref_mut.result.now ≡ c.args.page_size = search rules in
    let told : answered number_of (λ _. Page c.read-answer.new.out) c.read-answer.result ≡ answer_of c.page_outcome.result =
    sym (c.page_outcome.ensures ∙ ap (λ b. answered number_of (λ _. Page b) c.read-answer.result) (filled c.in_ok-out.out.items c.read-answer.new.out c.in_ok-out.out.len (search rules) (search rules))) in
    stepped c.args.page_size c.args.roll.now c.read-answer.new.self (Reads c.args.page) (answered number_of (λ _. Page c.read-answer.new.out) c.read-answer.result) (answer_of c.page_outcome.result) told (λ size sector calls. (c.read-answer.ensures.disk.holds tt).looks)
    (λ past size fits. (c.read-answer.ensures.disk.holds tt).step past fits (long ∙ sym size))
