-- The events and the replies of a run as the machine sees them (own).
use Rattle.std.specs.Prelude.{ℕ, Bool, true, false, List, map, Option, Some, None, Vec}
use Rattle.std.specs.declared.alloc.Global.{Global}
use Rattle.sqval.specs.Database.{Pages}
use Rattle.sqval.specs.Answers.{Files, Answer, Done, Reader, Page, Complete, Partial, NoReader, Refused, Crashed}
use Rattle.walcore.specs.Machine.{Act, Opens, Commits, Syncs, Begins, Reads, Ends, Checkpoints, Restarts, Crashes, Sets}
use Rattle.sqworld.specs.declared.event.Event.{Event}
use Rattle.sqworld.specs.declared.event.Event.TheVariants.{Open, Commit, Sync, Checkpoint, Restart, Begin, Read, End, StopAfter, StopAtSync, Fail, Crash, CrashAt}
use Rattle.sqworld.specs.declared.reply.Reply.{Reply}
use Rattle.sqworld.specs.declared.reply.Reply.TheVariants.{Done as ReplyDone, Reader as ReplyReader, Page as ReplyPage, Complete as ReplyComplete, Partial as ReplyPartial, NoReader as ReplyNoReader, Refused as ReplyRefused}
use Rattle.sqworld.specs.declared.reply.Found.{Found}
use Rattle.sqworld.specs.declared.reply.Crashed.{Crashed as CrashedLog}

-- pages by their numbers
abbrev pub numbered : List (ℕ × Vec ℕ Global) → Pages
numbered pages = map (λ p. (p.0, p.1.items)) pages

-- what was found, what was left, and what was answered
abbrev pub files_of : Found → Files
files_of found = record { db = found.db.items; log = found.log.items }

abbrev pub left_of : CrashedLog → Crashed
left_of crashed = record { log = crashed.log.items; kept = crashed.kept.items; handed = numbered crashed.handed.items }

abbrev pub answer_of : Reply → Answer
answer_of ReplyDone = Done
answer_of (ReplyReader number) = Reader number
answer_of (ReplyPage bytes) = Page bytes.items
answer_of ReplyComplete = Complete
answer_of ReplyPartial = Partial
answer_of ReplyNoReader = NoReader
answer_of (ReplyRefused number) = Refused number

-- What happens at an event: an opening with what it found, and a crash with what it left on a disk that tears.
abbrev pub act_of : Event → Option Found → Option CrashedLog → Act
act_of (Open salts) (Some found) crashed = Opens salts (files_of found)
act_of (Open salts) None crashed = Sets
act_of (Commit pages size) found crashed = Commits (numbered pages.items) size
act_of Sync found crashed = Syncs
act_of Checkpoint found crashed = Checkpoints
act_of (Restart salt2) found crashed = Restarts salt2
act_of Begin found crashed = Begins
act_of (Read reader page) found crashed = Reads reader page
act_of (End reader) found crashed = Ends reader
act_of (StopAfter n) found crashed = Sets
act_of (StopAtSync n) found crashed = Sets
act_of (Fail call part) found crashed = Sets
act_of (Crash choice) found (Some crashed) = Crashes (Some (left_of crashed))
act_of (Crash choice) found None = Crashes None
act_of (CrashAt n) found (Some crashed) = Crashes (Some (left_of crashed))
act_of (CrashAt n) found None = Crashes None

abbrev pub is_opening : Event → Bool
is_opening (Open salts) = true
is_opening _ = false

abbrev pub is_crash : Event → Bool
is_crash (Crash choice) = true
is_crash (CrashAt n) = true
is_crash _ = false
