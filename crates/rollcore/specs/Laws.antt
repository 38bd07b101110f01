-- What holds of every run (own).
use Rattle.std.specs.Prelude.{◌≡◌, ◌⊎◌, ◌+◌, ◌<◌, ◌≤◌, Bool, true, false, length, take}
use Rattle.sqval.specs.Database.{page}
use Rattle.sqval.specs.Answers.{Answer, Done, Page, told}
use Rattle.rollcore.specs.Machine.{State, Act, Opens, Commits, Reads, Crashes, Sets, commit_refusal, read_refusal}
use Rattle.recovery.specs.Histories.{newest}

-- the floor is a place of the history
abbrev pub IsSane : State → Type 0
IsSane s = s.floor < length s.history

-- what is known to be durable stays: no floor falls, and the databases up to it stand; nor does the page size change
pub record Keeps (old new : State) : Type 0 where
  pub page_size : new.page_size ≡ old.page_size
  pub floor : old.floor ≤ new.floor
  pub durable : take (old.floor + 1) new.history ≡ take (old.floor + 1) old.history

-- ---- What is answered where memory is ample and the disk refuses no call.

-- what each call answers
abbrev pub expected : State → Act → Answer
expected s (Opens found) = Done
expected s (Commits pages size nonces) = told (commit_refusal s pages size nonces) Done
expected s (Reads number) = told (read_refusal s number) (Page (page (newest s.history) number))
expected s (Crashes left) = Done
expected s Sets = Done

-- ---- What may stand in its place.

-- a call that may want memory
abbrev pub takes_memory : Act → Bool
takes_memory (Opens found) = true
takes_memory (Commits pages size nonces) = true
takes_memory _ = false

-- a call of the engine
abbrev pub needs_disk : Act → Bool
needs_disk (Crashes left) = false
needs_disk Sets = false
needs_disk _ = true

abbrev pub is_opening : Act → Bool
is_opening (Opens found) = true
is_opening act = false
