use Rattle.std.proofs.Common.{◌-◌, ℕ, List}
use Rattle.sqview.specs.Logs.{HasRead}
use Rattle.cli_show.proofs.RecordPlaces.{Sought}
use Rattle.cli_show.proofs.records.number_in.Given as goal

abbrev pub invariant-loop-low : goal.invariant-loop-low
invariant-loop-low l = (journal : List ℕ) (read : HasRead journal l.replay) → Sought read.front l.at l.low l.high

abbrev pub decreases-loop-low : goal.decreases-loop-low
decreases-loop-low l = l.high - l.low
