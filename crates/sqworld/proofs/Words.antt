-- What the proofs cite of the definitions and of the libraries below.
pub use Rattle.crashdisk.specs.Call.{Change, DiskState, HasCalls}
pub use Rattle.crashdisk.specs.Keeps.{LooksOnce, SameFiles}
pub use Rattle.crashdisk.specs.Model.{state_of}
pub use Rattle.crashdisk.specs.Stop.{no_stops}
pub use Rattle.crashdisk.specs.declared.choice.Choice.{Choice}
pub use Rattle.crashdisk.specs.declared.file.File.TheVariants.{Db, Log}
pub use Rattle.crashdisk.specs.declared.model.ModelDisk.{ModelDisk}
pub use Rattle.recovery.specs.Files.{AreFiles}
pub use Rattle.recovery.specs.Histories.{newest}
pub use Rattle.recovery.specs.Moments.{answered}
pub use Rattle.rollcore.specs.Fits.{Fits, FitsDisk}
pub use Rattle.rollcore.specs.Machine.{Commits, closed, read_refusal}
pub use Rattle.sqval.specs.Answers.{Answer, Crashed, Done, Files, NoReader, Page, Reader as ReaderAnswer, Refused, Refuses}
pub use Rattle.sqval.specs.CommitFaults.{first_true}
pub use Rattle.sqval.specs.JudgedPages.{lent}
pub use Rattle.sqval.specs.Runs.{IsRun, Moment, Runs}
pub use Rattle.sqworld.specs.Engines.{EngineServes, FailsAt, FitsEngine, Happens, IsCalm, IsLeftAt, IsLeftBy, IsSetTo, Rests, SaysLeft, chosen, disk_of, model_of, stopping_after, stopping_at_sync}
pub use Rattle.sqworld.specs.JournalEngines.{Answers}
pub use Rattle.sqworld.specs.Pages.{ArePages, pages_of}
pub use Rattle.sqworld.specs.Run.{act_of, answer_of, files_of, is_crash, is_opening, numbered}
pub use Rattle.sqworld.specs.Sessions.{FitsSession, OnlyCalls, Serves, ServesTo, tokens_by, tokens_of}
pub use Rattle.sqworld.specs.Stepping.{HasServed, ServesNext}
pub use Rattle.sqworld.specs.WorldKinds.{IsComplete, WorldKind, count_of, lacks, moment, moments, moments_of, rest, start_of, taken}
pub use Rattle.sqworld.specs.Worlds.{AnswersOn, BeginsOn, Fitting, Goings, IsRunOf, LifeOn, Served}
pub use Rattle.sqworld.specs.declared.base.Base.{Base}
pub use Rattle.sqworld.specs.declared.event.Event.{Event}
pub use Rattle.sqworld.specs.declared.journal_engine.JournalEngine.{JournalEngine}
pub use Rattle.sqworld.specs.declared.journal_event.JEvent.{JEvent}
pub use Rattle.sqworld.specs.declared.reply.Crashed.{Crashed as CrashedLog}
pub use Rattle.sqworld.specs.declared.reply.Found.{Found}
pub use Rattle.sqworld.specs.declared.reply.Reply.{Reply}
pub use Rattle.sqworld.specs.declared.reply.Reply.TheVariants.{Done as ReplyDone, Reader as ReplyReader}
pub use Rattle.sqworld.specs.declared.reply.Run.{Run}
pub use Rattle.sqworld.specs.declared.session.Session.{Session}
pub use Rattle.sqworld.specs.declared.wal_engine.WalEngine.{WalEngine}
pub use Rattle.sqworld.specs.declared.wal_engine.WalEngine.TheVariants.{Closed, Open}
pub use Rattle.sqworld.specs.internal.Engines.{IsAlone, begun_of, closed_answer}
pub use Rattle.sqworld.specs.internal.Sessions.{SessionServes}
pub use Rattle.sqworld.specs.internal.Worlds.{Goes, IsLawful, IsNoted, given_moment, list_of}
pub use Rattle.std.proofs.Common.{Bool, Err, Global, IfOk, IsTrue, List, None, Ok, OnOk, Option, Result, Some, Vec, [], add-one, ap, append_assoc, arith, cond, drop, false, get_or, inl, inr, is_some, length, length-append, nat_lt, not, refl, replicate, rules, set, slice_get, subst, suc, sym, take, true, zero, ℕ, ◌&&◌, ◌++◌, ◌+◌, ◌<◌, ◌==◌, ◌∙◌, ◌∷◌, ◌≡◌, ◌≢◌, ◌≤◌, ◌⊎◌}
pub use Rattle.std.proofs.lemmas.List.{append-nil, length-replicate, map-append, take-append-le}
pub use Rattle.std.specs.List.{concat, cons_option, count_by, filter_map, list_any}
pub use Rattle.walcore.specs.Fits.{AreTogether, FitsAlone, FitsCore, GivenUpTo, Past, StepsTo, none_open, without_token}
pub use Rattle.walcore.specs.Machine.{Act, Begins, Checkpoints, EndStep, Ends, Opens, ReadStep, Reads, Restarts, Sets, State, Step, Syncs, call_refusal, commit_refusal, forgotten, gone, reader_at, restart_refusal}
pub use Rattle.walcore.specs.Making.{Made, Makes, Permits}
pub use Rattle.walcore.specs.Refusal.{number_of}
pub use Rattle.walcore.specs.declared.reader.Reader.{Reader}
pub use Rattle.walcore.specs.declared.wal.Wal.{Wal}
