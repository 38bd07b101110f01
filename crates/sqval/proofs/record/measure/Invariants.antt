use Rattle.std.proofs.Common.{◌≡◌, ℕ, ◌+◌, ◌-◌, ◌^◌, ◌≤◌, List, length, min, sum_by}
use Rattle.sqval.specs.Serial.{body_size}
use Rattle.sqval.specs.Record.{Lead}
use Rattle.sqval.proofs.record.measure.Given as goal

-- what is behind: the types that were read
pub record Measured (types rest : List ℕ) (count size : ℕ) : Type 0 where
  pub serials : List ℕ
  pub lead : Lead serials types rest
  pub counted : count ≡ length serials
  pub few : count + length rest ≤ length types
  pub sized : size ≡ min (sum_by body_size serials) (2 ^ 64 - 1)

abbrev pub invariant-loop-rest : goal.invariant-loop-rest
invariant-loop-rest l = Measured l.initial.rest l.rest l.count l.size

abbrev pub decreases-loop-rest : goal.decreases-loop-rest
decreases-loop-rest l = length l.rest
