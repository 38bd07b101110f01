-- The same, with all facts that the proofs of functions cite.
pub use Rattle.rollcore.proofs.Between.{AreChanges, AreFiles, AreFresh, AreOf, ArePlaced, ArePut, AreSome, AreTurned, AreWithin, Asks, Bool, BreakSteps, Change, Commits, Database, Db, Device, DiskState, Done, EndsBy, Err, FileState, Files, HasEntry, HasParts, HasRead, HeaderAnswer, InFile, IsFit, IsLogDurable, IsNonDecreasingBy, IsNonDecreasingBy-from_sort_by_key, IsPageSize, IsPermutation, IsReady, IsSectorSize, IsTrue, Journaled, KeepsCore, Later, LeavesParts, List, Log, Looks, MayCommit, MayRecover, MayReplay, MayReplayWithin, Names, NoMemory, None, Ok, OnOk, OpenRefused, Option, PageSize, Pages, Parted, Plan, PreparedAnswer, PutAnswer, PutPagesAnswer, Record, RecordStep, Recording, RecordsAnswer, RefusedFor, Replay, RestsAt, Result, RollError, SegmentAnswer, SegmentsAnswer, Some, StepsTo, TakesNonces, TearsPages, TooLarge, Writes, [], agrees_by, alone_looks, alone_same, alone_syncs, answered, ap, append_assoc, apply, are_changes, arith, asks_as, asks_broken, asks_device, asks_done, asks_err, asks_same, asks_step, asks_still, asks_then, asks_wider, big_bytes, break_failed, break_refuses, break_unread, broken, broken_refused, byte, cases_lt, change_at, cold_alone, cold_leaves, cond, copied_keeps, copy_done, count_is, count_opens, count_refuses, count_rest, count_whole, count_zero, crash_shows, cut_off, cut_off_more, down_by, down_present, down_syncs, drop, during, end_told, ends_hot, ends_narrow, ends_resynced, entry_is, false, faultless, fed, few_some, files_err, files_opened, files_refused, fit_begins, fit_named, fits_crash, fits_disk_still, fits_still, from_err, front_failed, front_may, front_none, front_synced, front_unsynced, get_or, get_or-map, given_up, goes_broken, goes_on, granted, has_within, header_bytes, header_may, hot_leaves, hot_opens, if_err, inl, inr, is_found, journal_log, judged_below, judged_fit, judged_large, kept_runs, later_cut, later_still, later_sync, later_then, later_wider, later_write, left_apart, left_put, left_skips, length, length-drop, length-map, length-take, length-take-le, lent, longest, look_unread, magic_read, magic_there, map_more, match_err, misjudged, more_no, more_yes, most_bytes, mul-le-mul_right, named_by, narrows_still, nat_le, nat_tests, new_numbers, next_header, next_of, next_place, no_entry, no_tears, not_fed, number_of, old_pages, on_ok_weaker, one_page, opened_to, opens_err, page_end, pages_at, pages_of, parts_of, passed, place_read, place_refused, plan_cold, plan_memory, plan_none, plan_refused, plan_replays, plan_some, planned, played_calls_refused, played_committed, played_stopped, played_stopped_late, present_in, present_list, put_at, puts_zero, read_answer, read_cold, read_count, read_entry, read_file, read_first, read_judged, read_looked, read_planned, read_plans, read_refused, read_refuses, read_scan, read_torn, record_bytes, record_may, record_plan, recorded, recover_may, refl, refusal_of, refused_answer, refused_device, replay_after, replay_may, replay_refuses, replayed, replicate, rolled_copy, rolled_done, rolled_end, rolled_length, rolled_made, rolled_present, rules, run_named, same_len_mid, sane_runs, sane_start, scan_cold, scan_long, scan_read, sector_some, segments_of, settled, settled_read, settled_refused, size_bounds, size_refuses, sizes, small_some, start, stays, step_of, still_looks, still_sound, still_then, subst, sum_by_more_le, sym, sync_fails, sync_goes, sync_later, sync_refused, sync_unreplayed, synced_files, synced_present, table, take, take-map, tears_pages, tells_again, tells_ok, there, told_device, told_done, told_same, told_then, torn_sector, torn_still, true, unbroken, uncounted, unplanned, unreplayed, unsettled, unwritten_begins, unwritten_shows, unwritten_still, unwritten_syncs, within_some, writing_at, writing_keeps, writing_shows, zero_may, zeroed, ℕ, ⊎_elim, ◌*◌, ◌++◌, ◌+◌, ◌-◌, ◌<◌, ◌^◌, ◌↔◌, ◌∙◌, ◌∷◌, ◌≡◌, ◌≤◌, ◌⊎◌}
unfoldable pub use Rattle.rollcore.proofs.Between.{ReadJudged, nonce_sum}
pub use Rattle.rollcore.proofs.commit.AppendedPages.{Grown, grown_all, grown_failed, grown_none, grown_old, grown_put, lent_at, lent_length}
pub use Rattle.rollcore.proofs.commit.CompletedCommit.{cut_done, cut_failed, cut_pages, ends_log, finishes, held_after, of_pages, put_after, put_harmless, some_changes}
pub use Rattle.rollcore.proofs.commit.OverwrittenPages.{Turned, lent_content, turned_all, turned_cut, turned_failed, turned_none, turned_put}
pub use Rattle.rollcore.proofs.commit.SegmentsOfCommit.{before_part, enough, kept_same, kept_then, part_after, part_back, part_cases, part_forth, part_fresh, part_limit, part_numbered, part_short, part_some, part_somes, part_turned, part_within, parts_all, parts_begin, parts_end, places_few, ready_kept, ready_placed}
pub use Rattle.rollcore.proofs.commit.StepOfCommit.{changed_here, commit_step, few_records, fits_kept, put_here, refusal_open, refused_step}
pub use Rattle.rollcore.proofs.journal.DurableRecords.{break_file, break_later, harmless_after, settle_failed}
pub use Rattle.rollcore.proofs.journal.RecordsOfOldPages.{GoneTo, framed, gone_end, gone_fits, gone_none, gone_off, gone_on, middle, page_in, record_fits, step_put, step_unread, step_unwritten}
pub use Rattle.rollcore.proofs.journal.StepsOfSegmentHeader.{header_done, header_failed, header_unsynced}
pub use Rattle.rollcore.proofs.journal.WritesBehindHeader.{recording_begins}
pub use Rattle.rollcore.proofs.machine.FitOfSettledFiles.{base_fits, down_fits, settled_fits}
pub use Rattle.rollcore.proofs.machine.ImpossibleRuns.{no_half, no_lost_commit}
