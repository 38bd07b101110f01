use Rattle.sqcheck.proofs.Words.{Kind, None, Option, Some, inl, inr, ◌≡◌, ◌≢◌}
use Rattle.sqcheck.proofs.survey.kind_or_leaf.Goals as goal

pub returns-in-Some : goal.returns-in-Some
returns-in-Some c = inl ((c.of.ensures c.in-Some.kind).0 c.in-Some.is)
