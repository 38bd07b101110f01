-- Whether the header of a database counts more pages than there are by its log (fileformat2, 1.3.7).
use Rattle.std.specs.Prelude.{◌≡◌, ◌<◌, ◌≤◌}
use Rattle.sqpast.specs.declared.used.Counts.{Counts}
use Rattle.sqdeepjudge.specs.declared.verdict.Damage.TheVariants.{Cut, Excess}
use Rattle.sqdeepjudge.specs.declared.verdict.DeepVerdict.{DeepVerdict}
use Rattle.sqdeepjudge.specs.declared.verdict.DeepVerdict.TheVariants.{Damaged}

-- That fault is found exactly if no page is missing and the header's count, 0 if it isn't valid, is above the pages that there are;
-- and it is the count.
abbrev pub FindsExcess : Counts → DeepVerdict → Type 0
FindsExcess counts (Damaged (Cut p)) = Unit {0}
FindsExcess counts (Damaged (Excess n)) = (n ≡ counts.named) × (counts.all < n)
FindsExcess counts _ = counts.named ≤ counts.all
