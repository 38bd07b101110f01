-- The same, with the facts that stand on no others.
pub use Rattle.walcore.proofs.Words.{Act, Agrees, All, AllPass, AltersFile, Answer, AreBytes, AreCommitted, AreFiles, AreMade, AreMarks, ArePages, ArePresent, AreTogether, AreWhole, AreWords, BadLength, Begins, BeginsLog, Big, Bool, Bor, Bounds, Brings, BroughtOver, BroughtTo, CallSyncs, CanBring, Changed, ChangedBy, CheckpointStep, Checkpointed, Checkpoints, Closed, ClosedBy, Closes, CommitStep, Commits, CommitsRefused, Contains, Contains-push_cases, Copied, Copies, Core, CountAnswer, Counts, CutSteps, CutTouches, Cuts, Database, Db, Device, DiskError, DiskState, Done, EndStep, EndSteps, Ends, EndsBy, Err, Extends, Failed, File, FileFault, FileJudged, FileState, Filed, Files, Filling, Finds, FitsAlone, FitsCore, FitsDisk, FoldAnswer, FoldAnswerWithin, Folded, FoldsWithin, Forgotten, FrameStep, FrameTable, FramesAnswer, FrontJudged, GivenUpTo, GoesOn, Going, HadRefusal, HasCalls, HasCause, HasFixed, HasFrame, HasMadeHeader, HasNewSalts, HasNewest, HeaderSteps, HoldsFrames, IfBegun, IfErr, IsAppended, IsApplied, IsBegun, IsBehind, IsBound, IsBoundary, IsClosed, IsCommit, IsCopy, IsCore, IsCounted, IsCrash, IsDurable, IsEmptyDurable, IsEra, IsExtended, IsFaultless, IsFile, IsFit, IsFitWithin, IsFixed, IsFrameHead, IsFront, IsHeader, IsHeaderOf, IsHeld, IsImage, IsInForce, IsIndexed, IsJust, IsLast, IsLeast, IsLeft, IsLengthOf, IsLog, IsLogDurable, IsNew, IsNewCore, IsNewLog, IsNewest, IsNewestDurable, IsOfOtherSize, IsOfSize, IsOk, IsOldest, IsOver, IsPageSize, IsPlan, IsPresent, IsReady, IsRecovered, IsRepeated, IsRestarted, IsSameDisk, IsSane, IsSectorSize, IsSettled, IsSound, IsSoundDisk, IsSteady, IsSumOf, IsTable, IsTooLarge, IsTrue, IsUncommitted, IsUnder, IsValidFrame, IsView, Keeps, KeepsBytes, KeepsCore, KeepsLength, KeepsLog, KeepsUncommitted, KnowsLast, KnowsLog, Later, LeavesJust, List, Log, Looks, Lost, LostForGood, Made, MadeByCommit, MadeByCopy, MadeByRestart, MadeBySync, Makes, MayBeRead, MayBegin, MayChange, MayExtend, MayFill, MayFillWithin, MayFold, MayFoldWithin, MayOpen, MayRefuse, MayRestart, Moment, Narrows, NewLog, NoChance, NoEarlyComplete, NoLostSync, NoMemory, NoOtherPage, NoReturn, NoSkipped, None, NotDrained, Ok, OnErr, OnOk, OpenRefused, OpenedTo, Opens, Option, Order, Page, PageAboveSize, PageSize, PageZero, Pages, Passes, Past, Plan, PrepareAnswer, Prepares, ReadStep, Reader, ReaderAnswer, ReadersOpen, Reads, ReadsPlace, RecoverAnswer, Refused, Refuses, Repeats, RestAnswer, RestartJudged, Restarts, RestartsAnew, Restored, Rests, Result, Runs, SameFiles, SameLog, Scanning, SectorAbovePage, Show, ShowsAlone, ShowsHistory, ShowsOne, ShowsWhole, SinceSync, Some, Spreads, Stands, State, Step, StepsTo, Still, Stopped, Suits, Sum, SyncFailed, SyncStep, Synced, Syncs, SyncsBehind, SyncsBy, SyncsCopy, SyncsFrames, TakesOver, TearsPages, TellsRefusal, Told, TooLarge, TooLong, TookWithin, TwoReaders, Unnamed, Waits, WalError, WalHeader, WriteTouches, Writes, Writing, ZeroSteps, [], above_some, all_decided, all_newest, all_same, alone_looks, alone_read, alone_same, alone_still, alone_syncs, answer_of, answered, ap, appended, apply, arith, at, beginning, beginning_beside, begun, below_end, below_more, big_bytes, big_number, byte, call_refusal, called_quiet, calls_then, calls_wider, cases_eq, cases_lt, checkpointed, closed, commit_refusal, commit_same, committed, common_steps, cond, content_of, content_same, copied_keeps, copy_done, count_rest, count_zero, counted, counted_grows, crash_shows, cut_to, div-eq_of_lt, div-mul-le_self, down_by, down_one, down_present, down_still, down_syncs, drop, drop-take, drop_at, during, end_later, end_refused, end_settled, end_told, ended, ext_get_or, false, few_frames, file_count, file_page, file_syncs, filled_just, filling_other, first_true, fixed_synced, fixed_syncs, fixed_writes, fixed_written, forgotten, frame_at-end, frame_at-head, frame_at-suc, frame_end-head, frame_end-le, frame_end-suc, frame_end-zero, frame_plan, front_bytes, front_exists, front_listed, front_stands, front_torn, front_unique, get_or, get_or-append, get_or-append_right, get_or-append_seam, get_or-drop, get_or-file_page, get_or-map, get_or-map-range_with_len, get_or-take, get_or_append_left, get_or_at, get_or_past, goes_on, goes_on_none, goes_on_pair, gone, had_refusal, has_begun, has_mark, header_decided, header_of_same, header_same, if_err, if◌then◌else◌, image_elsewhere, image_present, image_same, image_still, image_sync, image_write, inl, inr, is_above, is_bound, is_closed, is_due, is_some, is_zero, keeps_same, keeps_still, keeps_then, last, later_cut, later_same, later_still, later_sync, later_then, later_wider, later_write, le-div, length, length-append, length-apply, length-drop, length-file_page, length-map-range_with_len, length-replicate, length-set, length-take, length-take-le, length_push, lent, lent_length, list_all, list_any, lit<, lit≤, longest, lt-div-mul-add, map, match_err, max, may_after, may_down, min, mod-eq-sub-div-mul, mod_below, most_bytes, most_frames, most_pages, mul-le-mul_left, mul-le-mul_right, named_or_not, named_size, narrows_crash, narrows_still, narrows_syncs, nat_lt, nat_tests, ne_eqb, newest, no_calls, no_memory, none_above, none_ok, none_open, not, not_torn, number, number_of, number_once, of, one_sync, one_synced, one_write, opened, order_of, order_same, over_same, page-apply, page_by_bytes, page_of, page_pairs, page_same, page_within, part, part_same, passed, passes_device, place_read, place_refused, pow_mono, present_byte, present_image, present_in, present_list, present_written, put_mid, put_two, quiet_err, quiet_ok, quiet_same, range_with_len, read_cases, read_refusal, reader_at, refl, refusal_after, refusal_of, refuses_cause, refuses_first, replicate, restart_refusal, restarted, restored_by, restored_down, restored_shows, restored_step, restored_syncs, restoring_keeps, restoring_shows, restoring_syncs, rules, same_files, same_number_lists, sector_some, sector_within, set, settled_one, settled_present, settled_sync, shown, shows_by, since_db, size_of, size_same, size_some, slice_get, sound_crash, sound_cuts, sound_new, sound_syncs, sound_writes, start, started, stays, steady_cut, still, still_bytes, still_looks, still_sound, still_then, subst, suc, suits_by, suits_same, suits_still, suits_syncs, suits_writes, sum_0, sum_1, sum_by, sum_by-cons, summed_same, supplied, supplied_found, sym, sync_later, sync_refused, synced, synced_down, table, take, take-append-drop, take-append-le, take-take, take_add, take_all, take_at, take_less, take_rest, tells_end, tells_ok, tells_quiet, tells_sync, tells_then, then_write, times, told_device, told_done, told_err, told_ok, told_refused, true, true≢false, unnamed_same, unwrap_or, unwritten_begins, unwritten_shows, unwritten_still, unwritten_syncs, usual, view_file, view_same, view_unique, wal_log, with_write, word, word_fits, word_in, word_same, words, write, written, written_inside, zero, zero_at, zeroed_restored, ℕ, ⊎_elim, ◌%◌, ◌&&◌, ◌*◌, ◌++◌, ◌+◌, ◌-◌, ◌/◌, ◌<◌, ◌==◌, ◌^◌, ◌↔◌, ◌∙◌, ◌∷◌, ◌≡◌, ◌≢◌, ◌≤◌, ◌⊎◌}
unfoldable pub use Rattle.walcore.proofs.Words.{CopyAnswer, EndAnswer, FoldedAnswer, LogRefused, PlaceAnswer, PlanAnswer, ReadAnswer, SizeAnswer, frame_at, frame_end, page, summed}
pub use Rattle.walcore.proofs.commit.AcceptedCommit.{cond_none, few_refusals, granted, room_enough}
pub use Rattle.walcore.proofs.crash.ImagesOfSyncedLog.{down_left}
pub use Rattle.walcore.proofs.disk.PermittedChanges.{copies_may, filled_same, fold_sync, header_may, may_sync, newest_calls, nothing_may, synced_same}
pub use Rattle.walcore.proofs.disk.ToldRefusals.{tells_cut, tells_header}
pub use Rattle.walcore.proofs.disk.UntornDisk.{syncs_untorn, untorn, writes_untorn}
pub use Rattle.walcore.proofs.folds.CallsOnDatabaseFile.{fill_may, filled_later}
pub use Rattle.walcore.proofs.folds.CopiedPages.{content_long, hit_last, hit_none, left_apart, left_put, left_skips, page_fits, run_inside, view_made}
pub use Rattle.walcore.proofs.folds.LengthOfDatabaseFile.{copied_length, ends_down, ends_end, ends_fronted, ends_long, fronted_keeps, length_still, length_syncs, long_cut, long_end, long_ended}
pub use Rattle.walcore.proofs.folds.PlanOfScannedLog.{fit_none, front_zero, judged, judged_large, judged_none, judged_other, page_least, page_most, plan_bare, plan_memory, plan_none, plan_refused, plan_some, read_none, read_planned, read_scan, read_some, table_more, table_none, valid_below, wanted_high, wanted_low}
pub use Rattle.walcore.proofs.folds.ScanOfLogPrefix.{fed, not_fed, settled_read}
pub use Rattle.walcore.proofs.log.BytesOfEqualWords.{take_on, word_next}
pub use Rattle.walcore.proofs.log.CommitOfExtendedLog.{extended_applied, extended_count, extended_front, extended_inner}
pub use Rattle.walcore.proofs.log.EraOfExtendedLog.{era_begin, era_more}
pub use Rattle.walcore.proofs.log.ExtensionByFrames.{IsGrown, grown_all, grown_next, grown_none}
pub use Rattle.walcore.proofs.log.GrowthOfMadeLogs.{begun_log, made_before, made_begun, made_cases, made_here, made_more, same_log}
pub use Rattle.walcore.proofs.log.LogOfHeaderAlone.{append_bytes, begun_by, begun_exists, numbers_bytes}
pub use Rattle.walcore.proofs.log.PresentFrames.{present_by, present_more, present_syncs, present_writes}
pub use Rattle.walcore.proofs.machine.SatisfiablePremises.{first_permits, made_passes}
pub use Rattle.walcore.proofs.machine.StepAnswers.{step_of}
pub use Rattle.walcore.proofs.machine.StepTargets.{Targets, step_in}
pub use Rattle.walcore.proofs.machine.StepsOfRun.{after, end, first_opening, go, next, on_base, opening}
pub use Rattle.walcore.proofs.openings.InitialSync.{first_err, first_then, synced_first, unsynced}
pub use Rattle.walcore.proofs.read.MarksOfReaders.{apart_one, at_slot, bound_at, emptied, mark_pushed, mark_there, none_times, removed, same_one, together_map, together_push, together_set}
