use Rattle.std.proofs.Common.{inl, inr}
use Rattle.cli_words.proofs.words.part_of.Goals as goal

pub returns-then-pages-3 : goal.returns-then-pages-3
returns-then-pages-3 c =
    inl (c.in-Some.text.now, c.in-Some.ensures, inr (inr (inr (c.stands_in-pages.ensures.yes c.if-pages-3.true))))
