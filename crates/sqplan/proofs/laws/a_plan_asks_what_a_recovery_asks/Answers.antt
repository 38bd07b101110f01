use Rattle.sqplan.proofs.CarriedOutPlans.{asks_fold, asks_replay}
use Rattle.sqplan.proofs.laws.a_plan_asks_what_a_recovery_asks.Goals as goal

pub returns : goal.returns
returns c = λ most plan file log some fits. (
  λ which. asks_fold plan file log most fits plan.recovery which,
  λ which. asks_replay plan file log most fits plan.recovery which,
)
