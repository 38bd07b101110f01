-- The same, with all facts that the proofs of functions cite.
pub use Rattle.walcore.proofs.Between.{Answer, AreBytes, AreFiles, AreMade, ArePages, ArePresent, AreTogether, BadLength, Begins, Bool, Bor, Brings, BroughtOver, BroughtTo, CallSyncs, CanBring, CheckpointStep, Checkpointed, Checkpoints, Closed, ClosedBy, Closes, CommitStep, Commits, Core, Counts, Database, Db, Device, DiskError, DiskState, Done, EndStep, Ends, Err, File, FileState, Files, Filling, Finds, FitsAlone, FitsCore, FitsDisk, FrameStep, FrameTable, FramesAnswer, GivenUpTo, Going, HadRefusal, HasCalls, HasCause, HasMadeHeader, HasNewSalts, HeaderSteps, IfBegun, IsBegun, IsBehind, IsBound, IsBoundary, IsClosed, IsCopy, IsCore, IsDurable, IsExtended, IsFrame, IsFrameHead, IsHeaderOf, IsHeld, IsImage, IsIndexed, IsJust, IsLast, IsLeast, IsLeft, IsLog, IsLogDurable, IsNewCore, IsNewLog, IsNewest, IsNewestDurable, IsOk, IsOldest, IsPageSize, IsPresent, IsReady, IsRecovered, IsRepeated, IsRestarted, IsSameDisk, IsSoundDisk, IsSumOf, IsTable, IsTrue, IsUncommitted, IsValidFrame, IsView, KeepsCore, KeepsLog, KeepsUncommitted, KnowsLast, KnowsLog, Later, LeavesJust, List, Log, Made, MadeByCommit, MadeByCopy, MadeByRestart, MadeBySync, Makes, MayBegin, MayChange, MayFill, MayFillWithin, MayFold, MayRefuse, MayRestart, NewLog, NoChance, NoMemory, None, NotDrained, Ok, OnErr, OnOk, OpenRefused, OpenedTo, Opens, Option, Page, PageAboveSize, PageSize, PageZero, Pages, Past, PrepareAnswer, Prepares, ReadStep, Reader, ReaderAnswer, ReadersOpen, Reads, ReadsPlace, RecoverAnswer, Refused, Refuses, RestAnswer, RestartJudged, Restarts, RestartsAnew, Rests, Result, ShowsAlone, ShowsHistory, ShowsWhole, Some, Stands, State, StepsTo, Still, Suits, Sum, SyncStep, Syncs, SyncsBehind, SyncsBy, SyncsCopy, SyncsFrames, TakesOver, TearsPages, TellsRefusal, Told, TooLarge, TookWithin, Unnamed, WalError, WalHeader, Writes, [], agrees_by, all_are_newest, all_newest, alone_looks, alone_same, alone_still, alone_syncs, answer_of, answered, ap, apply, arith, at, at_slot, begun, below_more, big_number, bound_at, boundary_same, byte, call_refusal, called_quiet, calls_then, calls_wider, cases_eq, checkpointed, closed, commit_refusal, committed, common_steps, cond, content_of, content_whole, copied_keeps, copied_length, copied_none, copied_some, copies_at, copies_may, copy_done, count_rest, count_whole, count_zero, counted_grows, crash_shows, cut_later, device_refused, down_present, down_still, down_syncs, drop, drop_at, drop_bytes, during, emptied, empty_down, end_cut, end_cut_shows, end_err, end_refused, end_shows, end_told, ended, ends_down, ends_end, ends_fronted, ends_long, extended_count, extended_exists, extended_front, false, fed, few_frames, few_refusals, file_judged, file_page, files_looked, files_synced, fill_may, filled_later, filled_same, first_err, first_permits, first_then, first_true, fits_crash, fits_prepared, fits_still, fold_after, fold_empty, fold_end, fold_looked, fold_sync, forgotten, found_alone, found_syncs, frame_at-end, frame_end-le, frame_end-zero, frame_plan, front_unique, front_unlooked, front_unread, fronted_keeps, get_or, get_or-drop, get_or-take, goes_on, gone, had_refusal, has_begun, has_mark, header_may, headers_narrow, history_narrows, hit_last, hit_none, if_err, if◌then◌else◌, image_elsewhere, image_present, index_with, inl, inr, is_above, is_closed, is_due, is_found, is_some, is_zero, judged, judged_large, judged_none, judged_other, just_file, just_shows, keeps_same, keeps_still, keeps_then, kept_runs, last, later_same, later_still, later_sync, later_then, later_wider, later_write, least_begun, least_ends, left_apart, left_grown, left_put, left_skips, length, length-append, length-drop, length-set, length-take-le, length_still, length_syncs, lent, lent_length, list_any, lit≤, long_cut, long_end, long_ended, longest, made_begun, made_passes, makes_once, makes_some, map, mark_pushed, mark_there, match_err, may_after, may_open, most_bytes, most_frames, named_size, narrows_syncs, nat_tests, ne_eqb, new_log_is, newest, newest_calls, no_calls, no_early_complete, no_lost_sync, no_memory, no_other_page, no_return, no_skipped, none_above, none_front, none_ok, none_open, none_times, not, not_fed, nothing_may, number_of, of, oldest_place, one_sync, one_write, opened, page_by_bytes, page_fits, page_least, page_most, page_of, page_same, part, passed, passes_device, place_read, place_refused, plan_bare, plan_folds, plan_memory, plan_none, plan_refused, plan_some, planned_none, planned_refused, planned_some, planned_uncopied, played_commits_refused, played_forgotten, played_lost, played_lost_for_good, played_stopped, played_sync_failed, played_synced, played_two_readers, played_waits, present_by, present_byte, present_image, present_in, present_last, present_list, present_syncs, present_written, put_mid, put_two, quiet_err, quiet_ok, quiet_same, read_folds, read_none, read_planned, read_plans, read_refusal, read_scan, read_some, reader_above, reader_at, ready_pages, ready_still, ready_synced, recover_counted, recover_unfolded, recover_unjudged, recover_unsynced, refl, refusal_after, refusal_of, refuses_cause, refuses_first, removed, restart_refusal, restarted, rules, run_inside, same_files, same_front, same_number_lists, same_one, sane_runs, sane_start, scanning_shows, scanning_still, scanning_syncs, sector_some, set, settled_read, shown, since_db, size_of, size_same, slice_get, some_is_older, sound_syncs, sound_writes, stands_shows, start, stays, step_of, still, still_looks, still_sound, still_then, subst, suc, suits_by, sum_by-cons, sym, sync_refused, synced, synced_down, synced_files, synced_first, synced_same, table, table_more, table_none, take, take-append-drop, take_at, take_bytes, take_rest, tells_cut, tells_end, tells_header, tells_ok, tells_quiet, tells_sync, tells_then, times, together_map, together_push, together_set, told_device, told_done, told_err, told_ok, true, uncounted, unfolded, unjudged, unsynced, usual, valid_below, view_exists, view_made, wal_log, wanted_high, wanted_low, whole_at, whole_synced, word, word_fits, writing_at, writing_begins, writing_shows, written_inside, zero, ℕ, ⊎_elim, ◌%◌, ◌&&◌, ◌*◌, ◌++◌, ◌+◌, ◌-◌, ◌/◌, ◌<◌, ◌==◌, ◌^◌, ◌↔◌, ◌∙◌, ◌∷◌, ◌≡◌, ◌≢◌, ◌≤◌, ◌⊎◌}
unfoldable pub use Rattle.walcore.proofs.Between.{CopyAnswer, PlaceAnswer, SizeAnswer, frame_at, frame_end, page, summed}
pub use Rattle.walcore.proofs.checkpoint.DiskInvariantUnderCheckpoint.{filling_stands, settled_just, stands_count, stands_filling, stands_still, stands_valid, stands_view}
pub use Rattle.walcore.proofs.commit.FitAfterCommit.{Planned, disk_by, facts_stand, fits_closed, fits_new, knows_more, knows_same, planned, present_bytes, state_new}
pub use Rattle.walcore.proofs.commit.LogAfterFrameWrite.{IsFrameAt, Reaches, frame_failed, frame_known, frame_may, frame_place, frame_put, frame_quiet, frame_refused, frame_stands}
pub use Rattle.walcore.proofs.commit.SequenceOfFrameWrites.{frames_off, frames_on, going_none, size_most}
pub use Rattle.walcore.proofs.disk.DiskInvariantUnderCalls.{stands_fewer, stands_synced, stands_syncs}
pub use Rattle.walcore.proofs.machine.FitOfNewDisk.{base_fits, made_nothing}
pub use Rattle.walcore.proofs.machine.FitOfSettledFiles.{beside_fits, left_made, opened_shows}
pub use Rattle.walcore.proofs.machine.FitOverEmptyLog.{HasNoReader, at_last, fresh_core}
pub use Rattle.walcore.proofs.machine.FitUnderUnchangedFiles.{SameCore, core_same, fits_disk_still, fits_same, same_core}
pub use Rattle.walcore.proofs.openings.ShownDatabaseAfterOpening.{agrees_after, agrees_looked, agrees_synced, agrees_then, folded_empty, header_alone, on_ok, still_empty, synced_empty}
pub use Rattle.walcore.proofs.restart.NewHeaderOverLog.{begin_shows, begin_stands, restart_shows}
pub use Rattle.walcore.proofs.sync.LogWithRepeatedFrame.{behind_copy, behind_even, behind_same, behind_whole, index_to, index_to-low, repeated_stands}
