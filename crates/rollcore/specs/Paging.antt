-- What reads do (own).
use Rattle.std.specs.Prelude.{◌≡◌, ◌≢◌, ℕ, ◌<◌, ◌≤◌, true, false, List, Result, Ok, Err}
use Rattle.sqval.specs.Answers.{Page}
use Rattle.crashdisk.specs.Call.{DiskState}
use Rattle.crashdisk.specs.Keeps.{LooksOnce}
use Rattle.rollcore.specs.Machine.{State, Reads}
use Rattle.rollcore.specs.Fits.{FitsCore, StepsTo}
use Rattle.rollcore.specs.declared.state.Core.{Core}
use Rattle.rollcore.specs.declared.error.RollError.{RollError}
use Rattle.rollcore.specs.declared.error.RollError.TheVariants.{Closed, PageZero, PageAboveSize, BadLength, Device}
use Rattle.recovery.specs.Moments.{answered}
use Rattle.rollcore.specs.Refusal.{number_of}

-- the first refusal that holds of a read of this page, into a buffer of `room` bytes
unfoldable pub ReadJudged : {T : Type 0} → Core → (page room : ℕ) → Result T RollError → Type 0
ReadJudged core page room (Ok _) = (core.is_open ≡ true) × (1 ≤ page) × (page ≤ core.size) × (room ≡ core.page_size)
ReadJudged core page room (Err Closed) = core.is_open ≡ false
ReadJudged core page room (Err PageZero) = (core.is_open ≡ true) × (page ≡ 0)
ReadJudged core page room (Err PageAboveSize) = (core.is_open ≡ true) × (1 ≤ page) × (core.size < page)
ReadJudged core page room (Err BadLength) = (core.is_open ≡ true) × (1 ≤ page) × (page ≤ core.size) × (room ≢ core.page_size)
ReadJudged core page room (Err _) = ⊥

-- What a read of this page into a buffer of `room` bytes answers, whether its disk keeps its word or not: the first refusal
-- that holds, which changes nothing; where none holds it is done, or refused by Device.
abbrev pub ReadAnswers : {T D : Type 0} → Core → (page room : ℕ) → Result T RollError → (old new : D) → Type 0
ReadAnswers core page room (Ok done) old new = ReadJudged core page room (Ok done)
ReadAnswers core page room (Err Device) old new = ReadJudged {T = Unit {0}} core page room (Ok tt)
ReadAnswers {T = T} core page room (Err e) old new = ReadJudged {T = T} core page room (Err e) × (new ≡ old)

-- A page of so many bytes is read, by one call at most: a row of the machine.
pub record ReadsPage {T : Type 0} (page long : ℕ) (out : List ℕ) (result : Result T RollError) (old new : Core) (before after : DiskState) : Type 0 where
  pub step : (past : State) → FitsCore past old before → long ≡ past.page_size → StepsTo past (Reads page) (answered number_of (λ _. Page out) result) new before after
  pub looks : LooksOnce before after
