-- What fits an engine: the history of its databases and the logs that were made, which are handed along from call to
-- call and stored nowhere (own).
use Rattle.std.specs.Prelude.{IsTrue}
use Rattle.crashdisk.specs.Call.{DiskState}
use Rattle.sqval.specs.Answers.{Answer}
use Rattle.walcore.specs.Machine.{Act}
use Rattle.walcore.specs.declared.state.Core.{Core}
use Rattle.walcore.specs.Fits.{Past, FitsCore, StepsTo}

-- the same, of a core that is open
abbrev pub TakesOpen : Act → Answer → (old new : Core) → (before after : DiskState) → Type 0
TakesOpen act answer old new before after = (past : Past) → FitsCore past old before → IsTrue old.is_open → StepsTo past past.tokens act answer new before after
