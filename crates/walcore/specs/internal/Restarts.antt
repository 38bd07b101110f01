-- What a restart asks of a core, and what it leaves of it (fileformat2, 4.4; refusals are own).
use Rattle.std.specs.Prelude.{◌≡◌, ◌≢◌, true, false, [], Result, Ok, Err}
use Rattle.walcore.specs.internal.Opening.{IsNewCore}
use Rattle.walcore.specs.declared.opening.NewLog.{NewLog}
use Rattle.walcore.specs.declared.state.Core.{Core}
use Rattle.walcore.specs.declared.error.WalError.{WalError}
use Rattle.walcore.specs.declared.error.WalError.TheVariants.{Closed, NotDrained, ReadersOpen}

-- the core is open, its database is in the file, and nobody reads
pub record MayRestart (core : Core) : Type 0 where
  pub is_open : core.is_open ≡ true
  pub drained : core.drained ≡ true
  pub unread : core.marks.items ≡ []

-- whether a log may be begun anew, or the first reason why not
abbrev pub RestartJudged : {T : Type 0} → Core → Result T WalError → Type 0
RestartJudged core (Ok _) = MayRestart core
RestartJudged core (Err Closed) = core.is_open ≡ false
RestartJudged core (Err NotDrained) = (core.is_open ≡ true) × (core.drained ≡ false)
RestartJudged core (Err ReadersOpen) = (core.is_open ≡ true) × (core.drained ≡ true) × (core.marks.items ≢ [])
RestartJudged core (Err _) = ⊥

-- it holds the new log and the database that it had
abbrev pub IsRestarted : NewLog → (old new : Core) → Type 0
IsRestarted l old new = MayRestart old → IsNewCore old.page_size old.size l new

-- it is closed, with the readers that it had
pub record IsClosed (old new : Core) : Type 0 where
  pub page_size : new.page_size ≡ old.page_size
  pub is_open : new.is_open ≡ false
  pub marks : new.marks.items ≡ old.marks.items

-- what becomes of a core once its header was written, or was not
abbrev pub TakesOver : {T : Type 0} → NewLog → (old new : Core) → (begun result : Result T WalError) → Type 0
TakesOver l old new (Ok done) result = (result ≡ Ok done) × IsRestarted l old new
TakesOver l old new (Err error) result = (result ≡ Err error) × IsClosed old new
