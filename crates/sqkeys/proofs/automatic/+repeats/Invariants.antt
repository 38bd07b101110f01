use Rattle.std.proofs.Common.{length}
use Rattle.sqkeys.proofs.automatic.+repeats.Given as goal

abbrev pub decreases-repeats : goal.decreases-repeats
decreases-repeats l = length l.named.now
