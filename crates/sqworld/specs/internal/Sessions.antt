-- How an engine and its readers go from one call to the next (own).
use Rattle.std.specs.Prelude.{ℕ, ◌+◌, length}
use Rattle.crashdisk.specs.Model.{state_of}
use Rattle.sqval.specs.Answers.{Answer}
use Rattle.walcore.specs.Machine.{Act}
use Rattle.sqworld.specs.declared.session.Session.{Session}
use Rattle.sqworld.specs.Sessions.{FitsSession, Serves}

-- how many readers have begun
abbrev pub begun_by : Session → ℕ
begun_by session = session.first + length session.slots.items

-- the same of an engine and its readers
abbrev pub SessionServes : (page_size : ℕ) (old new : Session) → Act → Answer → Type 0
SessionServes page_size old new act answer =
    Serves page_size (λ past. FitsSession past old) (λ past. FitsSession past new) (state_of old.wal.disk) (state_of new.wal.disk) act answer
