-- What the proofs of both engines cite of databases, disks and restores.
pub use Rattle.crashdisk.proofs.byte.FixedBytes.{image_present}
pub use Rattle.crashdisk.proofs.call.DisksAfterCalls.{later_cut, later_same, later_still, later_sync, later_wider, none_ok, place_read, place_refused, told_ok}
pub use Rattle.crashdisk.proofs.call.EffectsOfCalls.{counted_grows, present_steady, present_synced, present_written, steady_syncs}
pub use Rattle.crashdisk.proofs.call.SequencesOfCalls.{one_sync}
pub use Rattle.crashdisk.proofs.call.SoundDiskUnderCalls.{sound_cuts, sound_new}
pub use Rattle.crashdisk.proofs.call.SoundFileUnderChanges.{written_inside, written_outside}
pub use Rattle.crashdisk.proofs.call.WritesInOneRange.{started, then_write}
pub use Rattle.crashdisk.proofs.page.PlacesOfPages.{page_end}
pub use Rattle.crashdisk.proofs.page.RecoverablePages.{sector_within, suits_by}
pub use Rattle.crashdisk.proofs.sync.BytesOfSyncedLog.{down_cuts, down_writes, synced_down}
pub use Rattle.crashdisk.specs.Call.{IsNew}
pub use Rattle.crashdisk.specs.Facts.{HasFixed, IsFixed}
pub use Rattle.crashdisk.specs.Keeps.{IsSameDisk, TearsPages}
pub use Rattle.crashdisk.specs.State.{IsSectorSize}
pub use Rattle.crashdisk.specs.internal.Facts.{AltersFile}
pub use Rattle.recovery.proofs.Below.{during, AreBytes, ArePages, ArePresent, Change, Changed, ChangedBy, Cuts, Database, Db, DiskError, DiskState, Failed, File, FileState, Filling, HadRefusal, HasCalls, InFile, IsClear, IsCrash, IsFile, IsImage, IsJust, IsLogDurable, IsLong, IsSettled, IsSound, IsSoundDisk, IsSteady, KeepsBytes, KeepsLog, Later, Log, Looks, MayBeLeft, MayBeRead, MayRefuse, NoMemory, Repeats, SameFiles, ShowsAlone, SinceSync, Spreads, Still, Stopped, Suits, SyncStep, Syncs, TellsRefusal, Told, TooLong, Unwritten, WriteTouches, Writes, ZeroSteps, alters_write, byte, calls_then, calls_wider, counted, cut_below, down_by, down_one, down_present, down_syncs, file_count, file_syncs, get_or-file_page, had_refusal, image_elsewhere, image_same, image_still, keeps_cut, keeps_same, keeps_still, keeps_then, keeps_write, later_then, later_write, longest, mid_inside, no_calls, one_write, page_at, page_by_bytes, page_within, part, passed, present_byte, present_cut, present_image, present_in, present_list, refusal_after, run_apart, run_cases, run_inside, run_outside, same_files, sector_some, settled_image, settled_one, settled_sync, since_db, size_some, sound_crash, sound_syncs, sound_writes, steady_writes, still, still_looks, still_sound, still_then, suits_still, suits_syncs, suits_writes, sync, sync_done, sync_later, sync_refused, table, told_err, with_write, write, written}
pub use Rattle.recovery.proofs.AnswersOfSteps.{copy_done, goes_on, may_after, stays, still_bytes, zero_db, zero_refused}
pub use Rattle.recovery.proofs.FilledFile.{filling_cuts, filling_still, filling_writes}
pub use Rattle.recovery.proofs.NarrowedImages.{Narrows, alone_looks, alone_same, alone_still, alone_syncs, narrows_still, narrows_syncs}
pub use Rattle.recovery.proofs.OverwrittenLog.{Overwritten, written_read}
pub use Rattle.recovery.proofs.PhasesOfRestore.{down_read, down_still, may_down, restored_shows, restored_step, restored_syncs, restoring_shows, restoring_syncs, unwritten_begins, unwritten_shows, unwritten_still, unwritten_syncs}
pub use Rattle.recovery.proofs.ShownDatabase.{crash_shows, read_cases, shows_by}
pub use Rattle.recovery.proofs.ToldRefusals.{called_quiet, passes_device, quiet_ok, quiet_same, tells_again, tells_called, tells_ok, tells_quiet, tells_sync, tells_then}
pub use Rattle.recovery.proofs.ZeroedFront.{front_bytes, front_listed, front_stands, front_torn, zero_at, zeroed_restored}
pub use Rattle.recovery.specs.Files.{AreFiles}
pub use Rattle.recovery.specs.Histories.{at, last, newest}
pub use Rattle.recovery.specs.Logs.{Agrees, ShowsWhole}
pub use Rattle.recovery.specs.Moments.{IsExpected, answered}
pub use Rattle.sqval.proofs.database.AnswersOfEngine.{IsOf, accepted, if_err, is_above, is_closed, is_zero, match_err, none_above, refused_of, refuses_cause, refuses_first}
pub use Rattle.sqval.proofs.database.CommittedDatabase.{length-apply, number_at, page-apply}
pub use Rattle.sqval.proofs.database.FaultlessCommit.{IsFaultless, faultless, held_applied, none_both, one_none}
pub use Rattle.sqval.proofs.page.FilePages.{count_rest, count_zero, length-file_page}
pub use Rattle.sqval.proofs.page.PageNumbers.{lent_length}
pub use Rattle.sqval.proofs.page.PageSizes.{one_of}
pub use Rattle.sqval.specs.Answers.{Answer, Complete, Done, Files, HasCause, NoReader, Page, Partial, PlainStep, Reader, Refused, Refuses, told}
pub use Rattle.sqval.specs.Bytes.{word}
pub use Rattle.sqval.specs.CommitFaults.{first_true, most_bytes, page_faults}
pub use Rattle.sqval.specs.Database.{Pages, apply, file_page, page, supplied}
pub use Rattle.sqval.specs.Held.{IsHeld}
pub use Rattle.sqval.specs.JudgedPages.{lent}
pub use Rattle.sqval.specs.Limits.{Bounds, greatest, usual}
pub use Rattle.sqval.specs.PageSize.{IsPageSize}
pub use Rattle.sqval.specs.Runs.{Moment, Runs}
