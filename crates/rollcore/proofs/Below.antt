-- The same, with the facts that stand on no others.
pub use Rattle.rollcore.proofs.Words.{Act, AddsPart, Agrees, Answer, AreAll, AreChanged, AreChanges, AreCold, AreFiles, AreFresh, AreFull, AreOf, ArePages, ArePlaced, ArePresent, ArePut, AreRecords, AreSegments, AreSome, AreTurned, AreWhole, AreWithin, Asks, BadLength, Becomes, Bool, Bor, BreakSteps, CallsRefused, Change, Changed, Closed, Closes, Commits, Committed, Contains, Contains-append_cases, Contains-append_left, Contains-push, Contains-push_cases, Core, CountAnswer, Cuts, Database, Db, Device, DiskError, DiskState, Done, End, EndSteps, Ended, Ends, EndsBy, Err, FileState, Filed, Files, FilesAnswer, Filling, Finishes, FitsCore, FitsDisk, FrontAnswer, GivenUpTo, HadRefusal, Harmless, HasCalls, HasCause, HasCount, HasEntry, HasHeaderAt, HasMagic, HasOthers, HasParts, HasRead, Header, HeaderAnswer, Heading, IfErr, InFile, IsAboveLimit, IsAt, IsBelow, IsClear, IsCore, IsCrash, IsFaultless, IsFirst, IsFit, IsHeader, IsHeaderOf, IsHeld, IsHot, IsIdle, IsImage, IsJournal, IsJournaled, IsJust, IsLacking, IsLeft, IsLogDurable, IsLong, IsMade, IsNew, IsNewCore, IsNonDecreasingBy, IsNonDecreasingBy-from_sort_by_key, IsPageSize, IsPermutation, IsPlan, IsPlanWithin, IsPrepared, IsReady, IsRecord, IsReplay, IsRestored, IsRolledBack, IsSameDisk, IsSane, IsSectorSize, IsSettled, IsSmall, IsSound, IsSoundDisk, IsSteady, IsTooLargeWithin, IsTrue, IsWithin, JournalHeader, Journaled, Keeps, KeepsBytes, KeepsCore, KeepsLog, KeepsParts, Later, LeavesFiles, LeavesParts, List, Log, LogsRecord, Looks, LosesMagic, MatchOption, MayBeLeft, MayBeRead, MayChange, MayCommit, MayFill, MayOpen, MayRecover, MayRefuse, MayReplay, MayReplayWithin, Meets, Moment, Names, NamesSectors, NoHalf, NoLostCommit, NoMemory, None, Ok, OnOk, OpenRefused, OpenedTo, Option, Overwritten, Page, PageAboveSize, PageSize, PageStep, PageZero, Pages, PartAnswer, Parted, Plan, Prepared, PreparedAnswer, PutAnswer, PutPagesAnswer, PutsZero, ReadAnswers, Reads, Record, RecordStep, Recorded, Recording, Records, RecordsAnswer, RecoverAnswer, RecoveredAt, Refused, RefusedFor, Refuses, Repeats, Replay, ReplayAnswer, Replayed, Rests, RestsAt, Result, RollError, Runs, SameBelow, SameFiles, Says, SectorAbovePage, Segment, SegmentAnswer, SegmentsAnswer, Short, Show, ShowsAlone, ShowsEither, ShowsHistory, ShowsOne, ShowsWhole, SinceSync, SizeJudged, Sizes, Some, Spreads, StandOthers, StandsWhole, State, Steady, Step, StepsTo, Still, Stop, Stopped, StoppedLate, StopsAtHeader, StopsAtRecord, Suits, Sum, SyncStep, SyncedBy, Syncs, TakesNonces, TearsJournal, TearsPages, Tells, TellsRefusal, TooLarge, Took, Unharmed, Unnamed, Unwritten, Why, WriteTouches, Writes, Writing, ZeroSteps, [], all_records, alone_looks, alone_same, alone_syncs, alters_write, answered, ap, append-nil, append_assoc, appended, apply, arith, at, big_bytes, big_number, byte, byte_below, bytes_eq, bytes_eq-Decides, calls_wider, cases_Bool, cases_eq, cases_lt, change_at, closed, comes, commit_refusal, committed, cond, content_at, copied_keeps, copy_done, count_rest, count_zero, counted_grows, crash_shows, cut_clear, cut_off, div-lt_iff_lt-mul, div-mul-add, down_by, down_cuts, down_one, down_present, down_read, down_syncs, down_writes, drop, drop-drop, drop-map, drop_all, drop_at, during, end_later, end_told, ended, entries, entry_of, ext_get_or, false, faultless, file_count, file_page, file_syncs, filling_wider, first_true, flat_map, four, front_bytes, front_listed, front_stands, front_torn, get_or, get_or-append_right, get_or-drop, get_or-file_page, get_or-map, get_or-replicate, get_or-take, get_or_append_left, get_or_past, goes_on, had_refusal, has_count, header_bytes, held_applied, if_err, image_elsewhere, image_listed, image_present, image_same, inl, inr, is_above, is_closed, is_page_size, is_zero, journal_log, last, last_content, later_cut, later_still, later_sync, later_then, later_wider, later_write, length, length-append, length-apply, length-drop, length-map, length-replicate, length-take, length-take-le, lent, lit<, lit≤, log_syncs, long_done, longest, magic, map-append, map_more, match_err, max, may_after, may_down, min, most_bytes, mul-le-mul_left, mul-le-mul_right, narrows_crash, narrows_same, narrows_still, narrows_syncs, nat_le, nat_lt, nat_tests, new_numbers, newest, next_header, next_place, no_calls, none_above, none_ok, not_from_Decides, number_of, old_pages, on_ok_weaker, one_journal, one_of, opened, page_apart, page_at, page_by_bytes, page_clear, page_end, page_faults, page_is_clear, page_sector, page_within, pages_of, part, part_front, part_more, parts_of, passed, place_read, place_refused, present_byte, present_image, present_in, present_list, present_steady, present_synced, present_written, put_at, read_refusal, record_bytes, record_len, record_plan, recorded, records_end, refl, refusal_after, refusal_of, refuses_cause, refuses_first, replicate, restored_shows, restored_step, restoring_by, restoring_shows, restoring_syncs, reverse, reverse-append, rules, same_files, same_len_mid, same_number_lists, same_sound, sector_some, sector_within, segments_of, set_len, settled_image, settled_one, settled_synced, shows_by, size_bounds, size_some, sizes, sizes_of, slice_get, sound_crash, sound_new, sound_writes, start, started, stays, steady_cuts, steady_syncs, steady_writes, still, still_bytes, still_looks, still_sound, still_then, subst, suc, suits_by, suits_cuts, suits_syncs, suits_writes, sum_by_more_le, supplied, sym, sync, sync_later, sync_refused, table, take, take-add, take-append-le, take-map, take-suc, take-take, take_all, take_at, take_more, tells_again, tells_end, tells_ok, then_sync, then_write, three, to_the_end, told_device, told_done, told_err, told_ok, torn_sector, true, untouched, unwrap_or, unwritten_begins, unwritten_shows, unwritten_still, unwritten_syncs, where_at, whole_pages, whole_write, word, word_more, write, written, written_inside, written_outside, written_read, zero, zero_at, zero_refused, zeroed, zeroed_restored, ℕ, ⊎_elim, ◌*◌, ◌++◌, ◌+◌, ◌-◌, ◌/◌, ◌<◌, ◌==◌, ◌^◌, ◌↔◌, ◌∙◌, ◌∷◌, ◌≡◌, ◌≢◌, ◌≤◌, ◌⊎◌}
unfoldable pub use Rattle.rollcore.proofs.Words.{CopyAnswer, EndAnswer, PlaceAnswer, PlanAnswer, ReadAnswer, ReadJudged, RolledAnswer, nonce_sum, page}
pub use Rattle.rollcore.proofs.commit.AcceptedCommit.{granted, segments_enough}
pub use Rattle.rollcore.proofs.commit.DatabaseOfWrittenPages.{are_changed, changes_few, cut_by, each_page, fresh_by, just_after, of_by, pages_after, slice_at, slice_within, turned_slice}
pub use Rattle.rollcore.proofs.commit.ListedChanges.{are_changes, cut_off_more, more_no, more_yes, recorded_few, there}
pub use Rattle.rollcore.proofs.crash.NarrowedImages.{ends_narrow, history_narrows, sectors_narrow}
pub use Rattle.rollcore.proofs.disk.InvariantsOfCalls.{asks_broken, goes_broken, sectors_go, suits_go}
pub use Rattle.rollcore.proofs.disk.PermittedChanges.{front_may, header_may, record_may, recover_may, replay_may, zero_may}
pub use Rattle.rollcore.proofs.disk.ToldRefusals.{asks_as, asks_device, asks_done, asks_err, asks_same, asks_step, asks_still, asks_then, asks_wider, one_page, told_same, told_then}
pub use Rattle.rollcore.proofs.journal.EquivalentJournals.{SameBehind, header_within, hot_long, hot_same, hot_within, part_same, rolled_same, size_same, word_same, zeros_cold}
pub use Rattle.rollcore.proofs.journal.WholeSegments.{end_above, end_count, end_within, full_begun, full_ends, full_header, full_join, full_kept, full_more, full_none, next_above, next_of, part_at, records_kept, records_more, records_same, word_at}
pub use Rattle.rollcore.proofs.machine.StepAnswers.{step_of}
pub use Rattle.rollcore.proofs.machine.StepTargets.{Targets, step_in}
pub use Rattle.rollcore.proofs.machine.StepsOfRun.{after, end, first_opening, go, next, on_base, opening}
pub use Rattle.rollcore.proofs.openings.InitialSync.{opens_err, sync_fails, sync_goes}
pub use Rattle.rollcore.proofs.openings.MagicAsRead.{break_failed, break_unread, magic_read, magic_there, puts_zero}
pub use Rattle.rollcore.proofs.replays.FinalSteps.{end_answer, sync_down, zero_done}
pub use Rattle.rollcore.proofs.replays.LastRecordOfPage.{count_is, entries_of, entry_is, entry_named, entry_within, flat_is, made_all, made_apart, made_length, made_other, made_run, named_or, no_entry, records_are, records_of, rolled_exists}
unfoldable pub use Rattle.rollcore.proofs.replays.LastRecordOfPage.{made}
pub use Rattle.rollcore.proofs.replays.PlanOfScannedLog.{count_whole, judged_below, judged_fit, judged_large, plan_memory, plan_none, plan_refused, plan_some, read_planned, read_scan, scan_cold, scan_read}
pub use Rattle.rollcore.proofs.replays.ScanOfLogPrefix.{fed, had_refusal_any, not_fed, scan_long, settled_read}
