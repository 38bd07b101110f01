-- The same, with the facts that stand on those.
pub use Rattle.walcore.proofs.Below.{Act, Agrees, AllPass, AltersFile, Answer, AreBytes, AreCommitted, AreFiles, AreMade, AreMarks, ArePages, ArePresent, AreTogether, AreWhole, BadLength, Begins, Bool, Bor, Bounds, Brings, BroughtOver, BroughtTo, CallSyncs, CanBring, ChangedBy, CheckpointStep, Checkpointed, Checkpoints, Closed, ClosedBy, Closes, CommitStep, Commits, Contains, Contains-push_cases, Core, Counts, Database, Db, Device, DiskError, DiskState, Done, EndStep, Ends, Err, Failed, File, FileState, Files, Filling, Finds, FitsAlone, FitsCore, FitsDisk, FoldAnswerWithin, Folded, FoldsWithin, FrameStep, FrameTable, FramesAnswer, GivenUpTo, Going, HadRefusal, HasCalls, HasCause, HasFixed, HasFrame, HasMadeHeader, HasNewSalts, HeaderSteps, HoldsFrames, IfBegun, IsApplied, IsBegun, IsBehind, IsBound, IsBoundary, IsClosed, IsCommit, IsCopy, IsCore, IsDurable, IsEmptyDurable, IsEra, IsExtended, IsFaultless, IsFit, IsFixed, IsFrameHead, IsFront, IsHeader, IsHeaderOf, IsHeld, IsImage, IsIndexed, IsJust, IsLast, IsLeast, IsLeft, IsLog, IsLogDurable, IsNew, IsNewCore, IsNewLog, IsNewest, IsNewestDurable, IsOk, IsOldest, IsOver, IsPageSize, IsPresent, IsReady, IsRecovered, IsRepeated, IsRestarted, IsSameDisk, IsSectorSize, IsSettled, IsSoundDisk, IsSumOf, IsTable, IsTrue, IsUncommitted, IsValidFrame, IsView, KeepsCore, KeepsLog, KeepsUncommitted, KnowsLast, KnowsLog, Later, LeavesJust, List, Log, Made, MadeByCommit, MadeByCopy, MadeByRestart, MadeBySync, Makes, MayBeRead, MayBegin, MayChange, MayExtend, MayFill, MayFillWithin, MayFold, MayOpen, MayRefuse, MayRestart, NewLog, NoChance, NoMemory, None, NotDrained, Ok, OnErr, OnOk, OpenRefused, OpenedTo, Opens, Option, Page, PageAboveSize, PageSize, PageZero, Pages, Past, PrepareAnswer, Prepares, ReadStep, Reader, ReaderAnswer, ReadersOpen, Reads, ReadsPlace, RecoverAnswer, Refused, Refuses, RestAnswer, RestartJudged, Restarts, RestartsAnew, Rests, Result, SameFiles, SameLog, Show, ShowsAlone, ShowsHistory, ShowsWhole, SinceSync, Some, Spreads, Stands, State, Step, StepsTo, Still, Stopped, Suits, Sum, SyncStep, Syncs, SyncsBehind, SyncsBy, SyncsCopy, SyncsFrames, TakesOver, TearsPages, TellsRefusal, Told, TooLarge, TooLong, TookWithin, Unnamed, WalError, WalHeader, WriteTouches, Writes, [], all_decided, all_newest, all_same, alone_looks, alone_read, alone_same, alone_still, alone_syncs, answer_of, answered, ap, apply, arith, at, at_slot, beginning, beginning_beside, begun, begun_log, below_more, big_number, bound_at, byte, call_refusal, called_quiet, calls_then, calls_wider, cases_eq, cases_lt, checkpointed, closed, commit_refusal, committed, common_steps, cond, content_long, content_of, copied_keeps, copied_length, copies_may, copy_done, count_rest, count_zero, counted, counted_grows, crash_shows, div-eq_of_lt, div-mul-le_self, down_left, down_one, down_present, down_still, down_syncs, drop, drop_at, during, emptied, end_refused, end_told, ended, ends_down, ends_end, ends_fronted, ends_long, era_begin, era_more, extended_count, extended_front, false, fed, few_frames, few_refusals, file_page, file_syncs, fill_may, filled_just, filled_later, filled_same, filling_other, first_err, first_permits, first_then, first_true, fixed_synced, fixed_syncs, fixed_writes, fixed_written, fold_sync, forgotten, frame_at-end, frame_at-suc, frame_end-head, frame_end-le, frame_end-suc, frame_end-zero, frame_plan, front_exists, front_unique, fronted_keeps, get_or, get_or-append_right, get_or-drop, get_or-file_page, get_or-map, get_or-map-range_with_len, get_or-take, get_or_append_left, get_or_past, goes_on, gone, had_refusal, has_begun, has_mark, header_decided, header_may, header_of_same, header_same, hit_last, hit_none, if_err, if◌then◌else◌, image_elsewhere, image_present, image_same, image_still, image_sync, image_write, inl, inr, is_above, is_closed, is_due, is_some, is_zero, judged, judged_large, judged_none, judged_other, keeps_same, keeps_still, keeps_then, last, later_same, later_still, later_sync, later_then, later_wider, later_write, le-div, left_apart, left_put, left_skips, length, length-append, length-apply, length-drop, length-file_page, length-map-range_with_len, length-set, length-take-le, length_still, length_syncs, lent, lent_length, list_any, lit<, lit≤, long_cut, long_end, long_ended, longest, lt-div-mul-add, made_before, made_begun, made_here, made_more, made_passes, map, mark_pushed, mark_there, match_err, max, may_after, min, most_bytes, most_frames, most_pages, mul-le-mul_left, mul-le-mul_right, named_or_not, named_size, narrows_syncs, nat_lt, nat_tests, ne_eqb, newest, newest_calls, no_calls, no_memory, none_above, none_ok, none_open, none_times, not, not_fed, nothing_may, number_of, of, one_sync, one_synced, one_write, opened, over_same, page_by_bytes, page_fits, page_least, page_most, page_of, page_same, part, part_same, passed, passes_device, place_read, place_refused, plan_bare, plan_memory, plan_none, plan_refused, plan_some, pow_mono, present_by, present_byte, present_image, present_in, present_list, present_more, present_syncs, present_writes, present_written, put_mid, put_two, quiet_err, quiet_ok, quiet_same, range_with_len, read_cases, read_none, read_planned, read_refusal, read_scan, read_some, reader_at, refl, refusal_after, refusal_of, refuses_cause, refuses_first, removed, restart_refusal, restarted, rules, run_inside, same_files, same_number_lists, same_one, sector_some, sector_within, set, settled_one, settled_read, shown, since_db, size_of, size_same, slice_get, sound_new, sound_syncs, sound_writes, start, started, stays, step_of, still, still_looks, still_sound, still_then, subst, suc, suits_by, suits_same, suits_still, suits_syncs, suits_writes, sum_by-cons, summed_same, sym, sync_refused, synced, synced_down, synced_first, synced_same, syncs_untorn, table, table_more, table_none, take, take-append-drop, take-take, take_all, take_at, take_less, take_rest, tells_cut, tells_end, tells_header, tells_ok, tells_quiet, tells_sync, tells_then, then_write, times, together_map, together_push, together_set, told_device, told_done, told_err, told_ok, told_refused, true, unnamed_same, unsynced, untorn, usual, valid_below, view_made, wal_log, wanted_high, wanted_low, with_write, word, word_fits, write, writes_untorn, written, written_inside, zero, ℕ, ⊎_elim, ◌%◌, ◌&&◌, ◌*◌, ◌++◌, ◌+◌, ◌-◌, ◌/◌, ◌<◌, ◌==◌, ◌^◌, ◌↔◌, ◌∙◌, ◌∷◌, ◌≡◌, ◌≢◌, ◌≤◌, ◌⊎◌}
unfoldable pub use Rattle.walcore.proofs.Below.{CopyAnswer, PlaceAnswer, SizeAnswer, frame_at, frame_end, page, summed}
pub use Rattle.walcore.proofs.commit.EraAfterCommit.{commit_era, content_whole, index_at, index_low, index_with}
pub use Rattle.walcore.proofs.commit.FitOfPreparedCore.{fits_prepared, ready_granted, ready_most, ready_pages}
pub use Rattle.walcore.proofs.commit.FramesOfAcceptedCommit.{are_committed, are_frames}
pub use Rattle.walcore.proofs.crash.FitAfterCrash.{fits_crash}
pub use Rattle.walcore.proofs.crash.FrontOfSurvivingLog.{boundary_same, just_file, same_front}
pub use Rattle.walcore.proofs.crash.HistoryInCrashImages.{down_head, down_image, present_last, stands_shows}
pub use Rattle.walcore.proofs.crash.NarrowedImages.{headers_narrow, history_narrows, left_grown}
pub use Rattle.walcore.proofs.folds.AnswerOfParts.{copies_at, empty_down, fits_still, fold_after, fold_empty, fold_looked, plan_folds, planned_none, planned_refused, planned_some, planned_uncopied, read_folds, read_plans, view_exists, writing_at}
pub use Rattle.walcore.proofs.folds.FinalSteps.{cut_later, end_cut, end_err, fold_end}
pub use Rattle.walcore.proofs.folds.PhasesOfFold.{agrees_by, copied_none, copied_some, scanning_shows, scanning_still, scanning_syncs, writing_begins, writing_shows}
pub use Rattle.walcore.proofs.folds.ZeroedHeader.{end_cut_shows, end_shows, zeros_bad}
pub use Rattle.walcore.proofs.log.BytesOfNextFrame.{drop_bytes, next_frame, take_bytes}
pub use Rattle.walcore.proofs.log.ExistenceOfExtendedLog.{IsFrame, extended_exists}
pub use Rattle.walcore.proofs.machine.ExistenceOfMadeLogs.{makes_some}
pub use Rattle.walcore.proofs.machine.ImpossibleRuns.{no_early_complete, no_lost_sync, no_other_page, no_return, no_skipped}
pub use Rattle.walcore.proofs.machine.StepInvariants.{kept_runs, sane_runs, sane_start}
pub use Rattle.walcore.proofs.machine.UniquenessOfMadeLogs.{makes_once}
pub use Rattle.walcore.proofs.machine.WorkedRuns.{played_commits_refused, played_forgotten, played_lost, played_lost_for_good, played_stopped, played_sync_failed, played_synced, played_two_readers, played_waits}
pub use Rattle.walcore.proofs.openings.FoundFiles.{found_alone, found_syncs, is_found}
pub use Rattle.walcore.proofs.openings.HeaderOfNewLog.{new_log_is}
pub use Rattle.walcore.proofs.openings.RecoveredFiles.{none_front, ready_still, ready_synced, recover_counted, recover_unfolded, recover_unjudged, recover_unsynced, synced_files, whole_at}
pub use Rattle.walcore.proofs.openings.RefusalBeforeWrites.{count_whole, file_judged, front_unlooked, front_unread}
pub use Rattle.walcore.proofs.openings.RefusalOfOpening.{device_refused, files_looked, files_synced, may_open, uncounted, unfolded, unjudged, whole_synced}
pub use Rattle.walcore.proofs.read.OldestReaderMark.{all_are_newest, least_begun, least_ends, oldest_place, reader_above, some_is_older}
pub use Rattle.walcore.proofs.restart.ShownDatabaseDuringRestart.{altered_rest, just_shows, turned_shows}
