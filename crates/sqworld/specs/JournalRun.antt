-- The events of a run over a rollback journal as the machine sees them (own).
use Rattle.std.specs.Prelude.{Bool, true, false, Option, Some, None}
use Rattle.rollcore.specs.Machine.{Act, Opens, Commits, Reads, Crashes, Sets}
use Rattle.sqworld.specs.Run.{numbered, files_of, left_of}
use Rattle.sqworld.specs.declared.journal_event.JEvent.{JEvent}
use Rattle.sqworld.specs.declared.journal_event.JEvent.TheVariants.{Open, Commit, Read, StopAfter, StopAtSync, Fail, Crash, CrashAt}
use Rattle.sqworld.specs.declared.reply.Found.{Found}
use Rattle.sqworld.specs.declared.reply.Crashed.{Crashed as CrashedLog}

-- What happens at an event: an opening with what it found, and a crash with what it left on a disk that tears.
abbrev pub act_of : JEvent → Option Found → Option CrashedLog → Act
act_of Open (Some found) crashed = Opens (files_of found)
act_of Open None crashed = Sets
act_of (Commit pages size nonces) found crashed = Commits (numbered pages.items) size nonces.items
act_of (Read page) found crashed = Reads page
act_of (StopAfter n) found crashed = Sets
act_of (StopAtSync n) found crashed = Sets
act_of (Fail call part) found crashed = Sets
act_of (Crash choice) found (Some crashed) = Crashes (Some (left_of crashed))
act_of (Crash choice) found None = Crashes None
act_of (CrashAt n) found (Some crashed) = Crashes (Some (left_of crashed))
act_of (CrashAt n) found None = Crashes None

abbrev pub is_opening : JEvent → Bool
is_opening Open = true
is_opening _ = false

abbrev pub is_crash : JEvent → Bool
is_crash (Crash choice) = true
is_crash (CrashAt n) = true
is_crash _ = false
