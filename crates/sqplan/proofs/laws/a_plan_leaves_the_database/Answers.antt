use Rattle.sqplan.proofs.CarriedOutPlans.{database, file_kept, log_emptied, header_zeroed}
use Rattle.sqplan.proofs.ShownMeanwhile.{shown}
use Rattle.sqplan.proofs.laws.a_plan_leaves_the_database.Goals as goal

pub returns-clause-database : goal.returns-clause-database
returns-clause-database c = λ plan file log some. (
  λ which. database plan file log plan.recovery which,
  λ which none. file_kept plan file log plan.recovery which none,
)

pub returns-clause-log : goal.returns-clause-log
returns-clause-log c = λ plan file log. (
  λ which. log_emptied plan file log plan.recovery which,
  λ which long. header_zeroed plan file log plan.recovery which long,
)

pub returns-clause-meanwhile : goal.returns-clause-meanwhile
returns-clause-meanwhile c = λ plan file log k. shown plan file log plan.recovery k
