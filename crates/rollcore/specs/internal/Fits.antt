-- What fits an engine: the history of its databases, which is handed along from call to call and stored nowhere (own).
use Rattle.sqval.specs.Answers.{Answer}
use Rattle.crashdisk.specs.Call.{DiskState}
use Rattle.rollcore.specs.Machine.{State, Act}
use Rattle.rollcore.specs.declared.roll.Roll.{Roll}
use Rattle.rollcore.specs.Fits.{StepsTo}

-- the same of an engine
abbrev pub Steps : {D : Type 0} → (state_of : D → DiskState) → (old new : Roll D) → State → Act → Answer → Type 0
Steps state_of old new past act answer = StepsTo past act answer new.core (state_of old.disk) (state_of new.disk)
