-- How an engine and its readers go from one call to the next (own).
use Rattle.std.specs.Prelude.{◌≡◌, ℕ, ◌<◌, ◌≤◌, List, ◌++◌, replicate, Option, None}
use Rattle.crashdisk.specs.Call.{DiskState, HasCalls}
use Rattle.crashdisk.specs.Keeps.{LooksOnce}
use Rattle.crashdisk.specs.Model.{state_of}
use Rattle.sqval.specs.Answers.{Answer, Refused}
use Rattle.walcore.specs.Machine.{Act, Begins, Reads, Ends, Crashes, Sets, Step}
use Rattle.walcore.specs.Changes.{MayChange}
use Rattle.walcore.specs.Making.{Makes, Permits}
use Rattle.walcore.specs.Fits.{Past, FitsCore}
use Rattle.walcore.specs.declared.reader.Reader.{Reader}
use Rattle.sqworld.specs.declared.session.Session.{Session}

-- the tokens of all readers, where the first ones are forgotten
abbrev pub tokens_by : (first : ℕ) → List (Option Reader) → List (Option Reader)
tokens_by first slots = replicate first None ++ slots

abbrev pub tokens_of : Session → List (Option Reader)
tokens_of session = tokens_by session.first session.slots.items

-- what fits an engine and its readers
pub record FitsSession (past : Past) (session : Session) : Type 0 where
  pub core : FitsCore past session.wal.core (state_of session.wal.disk)
  pub tokens : past.tokens ≡ tokens_of session

-- Where a reader begins or ends nothing is done to the disk, and where it reads at most one call that changes no byte.
-- Otherwise nothing is done but calls of the disk, which ask for no other changes than this call of an engine may, with pages
-- of this size and with these logs made; unless the event sets a stop or a failure, or is a crash.
abbrev pub OnlyCalls : (size : ℕ) (logs : List (List ℕ)) → Act → (old new : DiskState) → Type 0
OnlyCalls size logs Sets old new = Unit {0}
OnlyCalls size logs (Crashes left) old new = Unit {0}
OnlyCalls size logs Begins old new = new ≡ old
OnlyCalls size logs (Ends reader) old new = new ≡ old
OnlyCalls size logs (Reads reader page) old new = LooksOnce old new
OnlyCalls size logs act old new = HasCalls (MayChange act size logs) old new

-- The machine goes on by a row of its table, what is handed along fits again, and the disk's sectors are the same.
pub record ServesTo (past : Past) (act : Act) (answer : Answer) (FitsNext : Past → Type 0) (old new : DiskState) : Type 0 where
  pub next : Past
  pub refused : old.refused ≤ new.refused
  -- a refused call of the disk is told
  pub told : old.refused < new.refused → answer ≡ Refused 15
  pub row : Step past.state act answer old.refused new.refused next.state
  pub makes : Makes past.state.page_size old.sector old.tears past.made act answer next.made
  pub fits : FitsNext next
  pub sector : new.sector ≡ old.sector
  pub tears : new.tears ≡ old.tears
  pub calls : OnlyCalls past.state.page_size next.made.logs act old new

-- One event, for whatever fits.
abbrev pub Serves : (page_size : ℕ) (FitsOld FitsNext : Past → Type 0) (old new : DiskState) → Act → Answer → Type 0
Serves page_size FitsOld FitsNext old new act answer =
    (past : Past) → past.state.page_size ≡ page_size → FitsOld past → Permits past.made act answer → ServesTo past act answer FitsNext old new
