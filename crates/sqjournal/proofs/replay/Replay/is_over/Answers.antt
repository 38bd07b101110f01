use Rattle.std.specs.Prelude.{false}
use Rattle.std.proofs.Common.{◌≡◌, true}
use Rattle.sqjournal.proofs.read.SettledJournal.{settled, ends_whole, over_judged, open_unjudged}
use Rattle.sqjournal.proofs.replay.Replay.is_over.Goals as goal

pub returns-in-Some-clause-whole : goal.returns-in-Some-clause-whole
returns-in-Some-clause-whole c b t = (
  λ yes. ends_whole b c.args.self.now c.in-Some.reading t c.in-Some.is (c.is_over.ensures.0 yes),
  λ whole. c.is_over.ensures.1 (over_judged b c.args.self.now c.in-Some.reading t c.in-Some.is whole),
)

pub returns-in-Some-clause-settled : goal.returns-in-Some-clause-settled
returns-in-Some-clause-settled c = λ yes b t. settled b c.args.self.now c.in-Some.reading t c.in-Some.is (c.is_over.ensures.0 yes)

pub returns-in-None-clause-whole : goal.returns-in-None-clause-whole
returns-in-None-clause-whole c b t = (
  λ yes. absurd (let no : false ≡ true = yes in cc),
  λ whole. absurd (open_unjudged b c.args.self.now t c.in-None.is whole),
)
