-- How the engine of a run over a rollback journal, or the disk without one, goes from one event to the next (own).
use Rattle.std.specs.Prelude.{ℕ}
use Rattle.crashdisk.specs.Model.{state_of}
use Rattle.crashdisk.specs.declared.model.ModelDisk.{ModelDisk}
use Rattle.sqval.specs.Answers.{Answer, Done, Refused}
use Rattle.rollcore.specs.Machine.{Act}
use Rattle.rollcore.specs.Fits.{Fits}
use Rattle.rollcore.specs.declared.roll.Roll.{Roll}
use Rattle.sqworld.specs.declared.journal_event.JEvent.{JEvent}
use Rattle.sqworld.specs.declared.journal_event.JEvent.TheVariants.{StopAfter, StopAtSync, Fail}
use Rattle.sqworld.specs.JournalEngines.{Serves}

-- the same of an engine that is there
abbrev pub RollServes : (page_size : ℕ) (old new : Roll ModelDisk) → Act → Answer → Type 0
RollServes page_size old new act answer =
    Serves page_size (λ past. Fits state_of old past) (λ past. Fits state_of new past) (state_of old.disk) (state_of new.disk) act answer

-- what is answered where no engine is there
abbrev pub closed_answer : JEvent → Answer
closed_answer (StopAfter n) = Done
closed_answer (StopAtSync n) = Done
closed_answer (Fail call part) = Done
closed_answer event = Refused 1
