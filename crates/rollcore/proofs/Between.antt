-- The same, with the facts that stand on those.
pub use Rattle.rollcore.proofs.Below.{AddsPart, AreChanged, AreChanges, AreFiles, AreFresh, AreOf, ArePages, ArePlaced, ArePresent, ArePut, AreRecords, AreSome, AreTurned, AreWhole, AreWithin, Asks, Becomes, Bool, Bor, BreakSteps, Change, Changed, Closes, Commits, Contains, Contains-append_cases, Contains-append_left, Contains-push_cases, Core, Cuts, Database, Db, Device, DiskError, DiskState, Done, EndSteps, Ended, Ends, EndsBy, Err, FileState, Files, Finishes, FitsCore, FitsDisk, HadRefusal, Harmless, HasCalls, HasEntry, HasParts, HasRead, HeaderAnswer, Heading, InFile, IsAt, IsClear, IsFaultless, IsFit, IsHeaderOf, IsHeld, IsHot, IsImage, IsJournaled, IsJust, IsLogDurable, IsNew, IsNonDecreasingBy, IsNonDecreasingBy-from_sort_by_key, IsPageSize, IsPermutation, IsReady, IsRecord, IsSameDisk, IsSectorSize, IsSettled, IsSound, IsSoundDisk, IsSteady, IsTrue, JournalHeader, Journaled, KeepsCore, KeepsParts, Later, LeavesParts, List, Log, LogsRecord, Looks, MayBeRead, MayChange, MayCommit, MayRecover, MayReplay, MayReplayWithin, Meets, Names, NamesSectors, NoHalf, NoLostCommit, NoMemory, None, Ok, OnOk, OpenRefused, Option, Overwritten, PageSize, PageStep, Pages, PartAnswer, Parted, Plan, Prepared, PreparedAnswer, PutAnswer, PutPagesAnswer, PutsZero, Record, RecordStep, Recorded, Recording, RecordsAnswer, Refused, RefusedFor, Refuses, Replay, Rests, RestsAt, Result, RollError, SameBelow, SegmentAnswer, SegmentsAnswer, Show, ShowsEither, ShowsWhole, SinceSync, Some, Spreads, State, Steady, StepsTo, Still, Suits, SyncStep, SyncedBy, Syncs, TakesNonces, TearsJournal, TearsPages, Tells, TellsRefusal, TooLarge, Unharmed, WriteTouches, Writes, ZeroSteps, [], after, alone_looks, alone_same, alone_syncs, alters_write, answered, ap, append-nil, append_assoc, appended, apply, are_changed, are_changes, arith, asks_as, asks_broken, asks_device, asks_done, asks_err, asks_same, asks_step, asks_still, asks_then, asks_wider, big_bytes, break_failed, break_unread, byte, cases_eq, cases_lt, change_at, changes_few, closed, comes, commit_refusal, committed, cond, copied_keeps, copy_done, count_is, count_rest, count_whole, count_zero, counted_grows, crash_shows, cut_by, cut_clear, cut_off, cut_off_more, div-lt_iff_lt-mul, div-mul-add, down_by, down_cuts, down_one, down_present, down_read, down_syncs, down_writes, drop, drop-drop, drop-map, drop_all, drop_at, during, each_page, end_answer, end_count, end_later, end_told, ended, ends_narrow, entry_is, false, faultless, fed, file_count, first_opening, first_true, fresh_by, front_may, get_or, get_or-append_right, get_or-file_page, get_or-map, get_or-replicate, get_or-take, get_or_append_left, get_or_past, goes_broken, goes_on, granted, had_refusal, header_bytes, header_may, held_applied, hot_long, if_err, inl, inr, journal_log, judged_below, judged_fit, judged_large, just_after, last, later_cut, later_still, later_sync, later_then, later_wider, later_write, length, length-append, length-apply, length-drop, length-map, length-replicate, length-take, length-take-le, lent, lit≤, log_syncs, longest, magic_read, magic_there, map-append, map_more, match_err, max, min, more_no, more_yes, most_bytes, mul-le-mul_left, mul-le-mul_right, narrows_still, nat_le, nat_lt, nat_tests, new_numbers, newest, next_above, next_header, next_of, next_place, no_calls, no_entry, none_ok, not_fed, number_of, of_by, old_pages, on_ok_weaker, one_page, opened, opening, opens_err, page_apart, page_at, page_clear, page_end, page_faults, page_is_clear, page_sector, page_within, pages_after, pages_of, part, parts_of, passed, place_read, place_refused, plan_memory, plan_none, plan_refused, plan_some, present_byte, present_image, present_in, present_list, present_steady, present_written, put_at, puts_zero, read_planned, read_scan, record_bytes, record_may, record_plan, recorded, recorded_few, records_end, records_more, records_same, recover_may, refl, refusal_after, refusal_of, replay_may, replicate, rules, same_len_mid, same_number_lists, scan_cold, scan_long, scan_read, sector_some, segments_enough, segments_of, settled_one, settled_read, settled_synced, size_bounds, size_some, sizes, slice_at, slice_within, sound_new, start, started, stays, steady_cuts, steady_syncs, steady_writes, step_of, still_looks, still_sound, still_then, subst, suc, suits_by, suits_cuts, suits_go, suits_syncs, suits_writes, sum_by_more_le, sym, sync_down, sync_fails, sync_goes, sync_later, sync_refused, table, take, take-add, take-map, take-suc, take_all, take_at, take_more, tells_again, tells_end, tells_ok, then_sync, then_write, there, three, told_device, told_done, told_err, told_ok, told_same, told_then, torn_sector, true, turned_slice, untouched, unwritten_begins, unwritten_shows, unwritten_still, unwritten_syncs, where_at, whole_pages, word, written, written_inside, written_outside, written_read, zero, zero_done, zero_may, zero_refused, zeroed, ℕ, ⊎_elim, ◌*◌, ◌++◌, ◌+◌, ◌-◌, ◌/◌, ◌<◌, ◌^◌, ◌↔◌, ◌∙◌, ◌∷◌, ◌≡◌, ◌≢◌, ◌≤◌, ◌⊎◌}
unfoldable pub use Rattle.rollcore.proofs.Below.{EndAnswer, ReadJudged, nonce_sum, page}
pub use Rattle.rollcore.proofs.crash.FitAfterCrash.{fits_crash}
pub use Rattle.rollcore.proofs.journal.JournalWithNewHeader.{headed_cold, headed_new, headed_same, headed_torn, hot_or, journaled_front, journaled_same, part_new, parts_kept}
pub use Rattle.rollcore.proofs.journal.RecordAndHeaderBytes.{gate_same, length-record, record_is}
pub use Rattle.rollcore.proofs.journal.RestoredDatabase.{begins, journaled_cold, journaled_hot, sector_told, shows, zero_gate, zeroed_gate}
pub use Rattle.rollcore.proofs.journal.UnharmedOldDatabase.{at_by, has_others, image_read, sectors_of, unharmed_by, unharmed_still}
pub use Rattle.rollcore.proofs.machine.StepInvariants.{kept_runs, sane_runs, sane_start}
pub use Rattle.rollcore.proofs.machine.WorkedRuns.{played_calls_refused, played_committed, played_stopped, played_stopped_late}
pub use Rattle.rollcore.proofs.openings.ErasedMagic.{cold_alone, front_failed, front_none, front_synced, front_unsynced, magic_long}
pub use Rattle.rollcore.proofs.openings.RecoveredFiles.{broken, few_some, fits_rested, given_up, is_found, misjudged, opened_to, replayed, same_count, same_page, settled, small_some, unbroken, uncounted, unplanned, unreplayed, unsettled}
pub use Rattle.rollcore.proofs.openings.RefusalOfOpening.{break_refuses, broken_refused, cold_leaves, count_opens, count_refuses, files_err, files_opened, files_refused, from_err, hot_leaves, hot_opens, no_tears, read_refuses, refused_device, replay_refuses, settled_refused, size_refuses, synced_files, tears_pages}
pub use Rattle.rollcore.proofs.read.ContentOfReadPage.{fits_disk_still, fits_still, read_answer, read_file, read_judged, refused_answer}
pub use Rattle.rollcore.proofs.replays.AnswerOfParts.{look_unread, pages_at, plan_cold, plan_replays, planned, read_cold, read_looked, read_plans, read_refused, read_torn, replay_after, rolled_copy, rolled_done, rolled_end, rolled_present, sync_unreplayed, synced_present, torn_still, within_some, writing_at}
pub use Rattle.rollcore.proofs.replays.CopiedPages.{has_within, left_apart, left_put, left_skips, rolled_made, run_named}
pub use Rattle.rollcore.proofs.replays.DecisivePrefixOfJournal.{read_count, read_entry, read_first}
pub use Rattle.rollcore.proofs.replays.LengthOfDatabaseFile.{ends_ended, ends_hot, ends_resynced, fit_named, named_by, rolled_length}
pub use Rattle.rollcore.proofs.replays.PhasesOfReplay.{agrees_by, fit_begins, writing_keeps, writing_shows}
pub use Rattle.rollcore.proofs.replays.ZeroedHeader.{end_shows, zeroed_listed, zeroed_torn}
