use Rattle.std.proofs.Common.{◌≡◌, take}
use Rattle.sqval.specs.internal.JudgedPages.{numbers_of}
use Rattle.sqval.proofs.commit.sort_numbers.Given as goal

abbrev pub invariant-loop-x : goal.invariant-loop-x
invariant-loop-x l = l.numbers.items ≡ numbers_of (take l.x-index l.pages)
