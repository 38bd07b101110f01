use Rattle.std.proofs.Common.{inl, inr}
use Rattle.cli_words.proofs.words.cells_of.Goals as goal

pub returns-in-Some : goal.returns-in-Some
returns-in-Some c = inr (inl (c.requires.deleted.0 c.if-not-deleted.false, inr (_, c.in-Some.ensures)))
