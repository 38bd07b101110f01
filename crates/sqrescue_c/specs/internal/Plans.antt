-- Which recovery is planned.
use Rattle.std.specs.Prelude.{◌≢◌, ℕ, ◌==◌, cond, List, Ok}
use Rattle.sqview.specs.Logs.{CountsAnswer}
use Rattle.sqview.specs.declared.logs.LogInUse.{LogInUse}
use Rattle.sqview.specs.declared.logs.LogInUse.TheVariants.{Neither, Wal, Journal}

-- the number of the recovery from the log that counts, of a view at this front
abbrev pub number_in : LogInUse → (front : ℕ) → ℕ
number_in Neither front = 0
number_in Wal front = cond (front == 0) 2 1
number_in (Journal header) front = 3

-- one of the two counts, and it is this
pub record CountsSome (wal journal : List ℕ) (log : LogInUse) : Type 0 where
  pub counts : CountsAnswer wal journal (Ok log)
  pub some : log ≢ Neither
