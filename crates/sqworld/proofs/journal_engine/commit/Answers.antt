use Rattle.sqworld.proofs.Facts.{Commits, Done, answer_of, answered, ap, lent, numbered, state_of, stepped, subst, sym, ◌∙◌, ◌≡◌}
use Rattle.rollcore.specs.Fits.{StepsTo}
use Rattle.rollcore.specs.Refusal.{number_of}
use Rattle.sqworld.proofs.journal_engine.commit.Goals as goal

pub returns : goal.returns
returns c page_size =
    let pages : lent c.deref.result.now ≡ numbered c.args.pages.now = ap lent c.deref.ensures.value ∙ c.in_ok-all.ensures in
    stepped page_size c.args.roll.now c.commit.new.self (Commits (numbered c.args.pages.now) c.args.size c.args.nonces.now) (answered number_of (λ _. Done) c.commit.result) (answer_of c.outcome.result) (sym c.outcome.ensures) (λ size sector calls. calls)
    (λ past size fits. subst (λ p. StepsTo past (Commits p c.args.size c.args.nonces.now) (answered number_of (λ _. Done) c.commit.result) c.commit.new.self.core (state_of c.args.roll.now.disk) (state_of c.commit.new.self.disk)) pages ((c.commit.ensures.disk.holds tt).step past fits))
