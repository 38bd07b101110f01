use Rattle.std.proofs.Common.{ℕ, ◌+◌, ◌-◌, ◌<◌, List, length}
use Rattle.sqpage.specs.Layout.{Span, AreFreeblocks}
use Rattle.sqdeep.proofs.SpacedBlocks.{Going}
use Rattle.sqdeep.proofs.pages.are_spaced.Given as goal

-- the blocks so far are spaced
abbrev pub invariant-places : goal.invariant-places
invariant-places l = record {
  small : l.at < 65536;
  going : (from : ℕ) (blocks : List Span) → AreFreeblocks l.used from l.first blocks → Going l.used l.fn.least l.least l.at blocks;
}

abbrev pub decreases-places : goal.decreases-places
decreases-places l = length l.used + 1 - l.least
