-- What the proofs cite of the definitions and of the libraries below.
pub use Rattle.byteorder.specs.Endian.{big_bytes, big_number}
pub use Rattle.crashdisk.proofs.byte.FixedBytes.{whole_write}
pub use Rattle.crashdisk.proofs.byte.SettledFiles.{settled_synced}
pub use Rattle.crashdisk.proofs.call.EffectsOfCalls.{steady_cuts}
pub use Rattle.crashdisk.proofs.call.SoundFileUnderChanges.{byte_below, byte_past, where_at}
pub use Rattle.crashdisk.proofs.call.UnchangingCalls.{same_sound}
pub use Rattle.crashdisk.proofs.call.WritesInOneRange.{then_sync}
pub use Rattle.crashdisk.proofs.image.OriginOfImages.{comes}
pub use Rattle.crashdisk.proofs.page.ClearPlacesOfPage.{page_is_clear, untouched, whole_pages}
pub use Rattle.crashdisk.proofs.page.PlacesOfPages.{cut_clear, page_apart, page_clear, page_sector}
pub use Rattle.crashdisk.proofs.page.RecoverablePages.{suits_cuts}
pub use Rattle.crashdisk.proofs.sync.BytesOfSyncedLog.{image_listed, log_syncs}
pub use Rattle.crashdisk.specs.Call.{EndsWithin, SyncedBy, set_len}
pub use Rattle.crashdisk.specs.Keeps.{StandsWhole}
pub use Rattle.crashdisk.specs.State.{Meets}
pub use Rattle.crashdisk.specs.internal.Facts.{Steady}
unfoldable pub use Rattle.crashdisk.specs.internal.Keeps.{PlaceAnswer}
pub use Rattle.recovery.proofs.CopiedRuns.{copied_keeps}
pub use Rattle.recovery.proofs.EndOfRestore.{end_later, end_refused, end_settled, end_told, ended, long_done, tells_end, told_device, told_done}
pub use Rattle.recovery.proofs.FilledFile.{filling_wider}
pub use Rattle.recovery.proofs.NarrowedImages.{narrows_crash, narrows_same}
pub use Rattle.recovery.proofs.PhasesOfRestore.{restoring_by}
pub use Rattle.recovery.proofs.Words.{Agrees, Answer, AreFiles, ArePages, ArePresent, Changed, Cuts, Database, Db, DiskError, DiskState, Done, Failed, File, FileState, Files, Filling, HadRefusal, HasCalls, HasCause, InFile, IsClear, IsCrash, IsExpected, IsFaultless, IsHeld, IsImage, IsJust, IsLogDurable, IsLong, IsNew, IsOf, IsPageSize, IsSameDisk, IsSectorSize, IsSettled, IsSound, IsSoundDisk, IsSteady, KeepsBytes, KeepsLog, Later, Log, Looks, MayBeLeft, MayBeRead, MayRefuse, Moment, Narrows, Overwritten, Page, Pages, PlainStep, Refused, Refuses, Repeats, Runs, SameFiles, ShowsAlone, ShowsWhole, SinceSync, Spreads, Still, Suits, SyncStep, Syncs, TearsPages, TellsRefusal, Unwritten, WriteTouches, Writes, ZeroSteps, accepted, alone_looks, alone_same, alone_syncs, alters_write, answered, apply, at, byte, calls_wider, copy_done, count_rest, count_zero, counted, counted_grows, crash_shows, cut_below, down_by, down_cuts, down_one, down_present, down_read, down_syncs, down_writes, during, faultless, file_count, file_syncs, first_true, front_bytes, front_listed, front_stands, front_torn, get_or-file_page, goes_on, had_refusal, held_applied, if_err, image_elsewhere, image_present, image_same, is_above, is_closed, is_zero, last, later_cut, later_same, later_still, later_sync, later_then, later_wider, later_write, length-apply, length-file_page, lent, longest, match_err, may_after, may_down, most_bytes, narrows_still, narrows_syncs, newest, no_calls, none_above, none_both, none_ok, number_at, one_none, one_of, page-apply, page_at, page_by_bytes, page_end, page_faults, page_within, part, passed, place_read, place_refused, present_byte, present_cut, present_image, present_in, present_list, present_steady, present_synced, present_written, refusal_after, refused_of, refuses_cause, refuses_first, restored_shows, restored_step, restoring_shows, restoring_syncs, same_files, sector_some, sector_within, settled_image, settled_one, settled_sync, shows_by, size_some, sound_crash, sound_new, sound_writes, started, stays, steady_syncs, steady_writes, still, still_bytes, still_looks, still_sound, still_then, suits_by, suits_syncs, suits_writes, supplied, sync, sync_later, sync_refused, synced_down, table, tells_again, tells_called, tells_ok, then_write, told, told_err, told_ok, unwritten_begins, unwritten_shows, unwritten_still, unwritten_syncs, word, write, written, written_inside, written_outside, written_read, zero_at, zero_refused, zeroed_restored}
pub use Rattle.recovery.specs.Copying.{IsMade, MayFill}
unfoldable pub use Rattle.recovery.specs.Scanning.{PieceAnswer, ScanAnswer}
unfoldable pub use Rattle.recovery.specs.Steps.{CopyAnswer}
pub use Rattle.recovery.specs.internal.Steps.{EndSteps}
pub use Rattle.rollcore.specs.Alone.{AreWhole, HasHeaderAt, Show, journal_log}
pub use Rattle.rollcore.specs.Changes.{Asks, MayChange, MayCommit, MayRecover, MayReplay, MayReplayWithin}
pub use Rattle.rollcore.specs.Commits.{AreChanged, KeepsCore, LeavesParts, TakesNonces}
pub use Rattle.rollcore.specs.Fits.{FitsCore, FitsDisk, GivenUpTo, IsCore, NamesSectors, OpenedTo, Rests, ShowsHistory, StepsTo}
pub use Rattle.rollcore.specs.Journaling.{AreFull, HasParts, next_place, old_pages, parts_of, record_bytes, sizes}
pub use Rattle.rollcore.specs.Laws.{IsSane, Keeps, expected, needs_disk, takes_memory}
pub use Rattle.rollcore.specs.Lengths.{EndsBy}
pub use Rattle.rollcore.specs.Machine.{Act, CommitStep, Commits, Crashes, OpenStep, Opens, ReadStep, Reads, Sets, State, Step, appended, closed, commit_refusal, committed, opened, read_refusal, recorded, refusal_of, segments_of, start}
pub use Rattle.rollcore.specs.Opening.{AgreesSynced, IsAboveLimit, LeavesFiles, LosesMagic, MayOpen, OpenRefused, RefusedFor, RefusedSynced}
pub use Rattle.rollcore.specs.Paging.{ReadAnswers}
unfoldable pub use Rattle.rollcore.specs.Paging.{ReadJudged}
pub use Rattle.rollcore.specs.Refusal.{number_of}
pub use Rattle.rollcore.specs.Replaying.{IsIdle, IsTooLargeWithin, ReplayAnswer, TearsJournal, zeroed}
pub use Rattle.rollcore.specs.Rows.{CallsRefused, Committed, IsRunOn, NoHalf, NoLostCommit, Stopped, StoppedLate, three}
pub use Rattle.rollcore.specs.declared.changes.Change.{Change}
pub use Rattle.rollcore.specs.declared.copying.Records.{Records}
pub use Rattle.rollcore.specs.declared.error.RollError.{RollError}
pub use Rattle.rollcore.specs.declared.error.RollError.TheVariants.{BadLength, Closed, Device, NoMemory, NoMemory as WalNoMemory, PageAboveSize, PageSize, SectorAbovePage, TooLarge}
pub use Rattle.rollcore.specs.declared.plan.Plan.{Plan}
pub use Rattle.rollcore.specs.declared.replaying.Replayed.{Replayed}
pub use Rattle.rollcore.specs.declared.state.Core.{Core}
pub use Rattle.rollcore.specs.internal.Commits.{AreChanges, ArePlaced, AreWithin, Closes, Ends, IsReady, PutAnswer, ShowsEither, change_at}
pub use Rattle.rollcore.specs.internal.Committing.{RestsAt}
pub use Rattle.rollcore.specs.internal.Copying.{Finishes}
pub use Rattle.rollcore.specs.internal.Journaling.{HasOthers, IsHeaderOf, IsJournaled, IsPrepared, SameBelow, Tells}
pub use Rattle.rollcore.specs.internal.Lengths.{ShowsOne}
pub use Rattle.rollcore.specs.internal.Listing.{cut_off}
pub use Rattle.rollcore.specs.internal.Opening.{AreCold, BreakSteps, CountAnswer, FilesAnswer, FrontAnswer, IsNewCore, PutsZero, RecoverAnswer, RecoveredAt, SizeJudged}
pub use Rattle.rollcore.specs.internal.Phases.{Filed, Unnamed, Writing}
pub use Rattle.rollcore.specs.internal.Plans.{IsBelow, IsFit, IsPlan, IsPlanWithin, IsSmall, IsWithin}
unfoldable pub use Rattle.rollcore.specs.internal.Plans.{JudgeAnswer, PlanAnswer, ReadAnswer}
pub use Rattle.rollcore.specs.internal.RecordPlan.{IsLacking, IsLeft, IsReplay, record_plan}
pub use Rattle.rollcore.specs.internal.Segments.{AddsPart, AreFresh, AreOf, ArePut, AreSome, AreTurned, Becomes, Ended, Harmless, HeaderAnswer, Heading, IsAt, Journaled, KeepsParts, LogsRecord, PageStep, PartAnswer, Parted, Prepared, PreparedAnswer, PutPagesAnswer, RecordStep, Recorded, Recording, RecordsAnswer, SegmentAnswer, SegmentsAnswer, StandOthers, Unharmed, new_numbers, pages_of}
pub use Rattle.rollcore.specs.internal.Steps.{HasRead, IsWithoutHeader, journal_scan, torn_sector}
unfoldable pub use Rattle.rollcore.specs.internal.Steps.{EndAnswer, RolledAnswer, ScanRefused}
pub use Rattle.sqjournal.proofs.journal.DependenceOnPrefix.{part_front, part_more, word_more, word_part}
pub use Rattle.sqjournal.proofs.journal.RecordsOfEntries.{content_at, contents}
pub use Rattle.sqjournal.proofs.journal.WordsOfHeader.{four, put_at}
pub use Rattle.sqjournal.proofs.read.BytesTakenByReplay.{has_count}
pub use Rattle.sqjournal.proofs.read.JournalOfTakenBytes.{size_bounds}
pub use Rattle.sqjournal.proofs.read.UniquenessOfReading.{one_journal}
pub use Rattle.sqjournal.specs.Header.{HasMagic, IsRefused, Names, header_bytes, magic, next_header}
pub use Rattle.sqjournal.specs.Journal.{AreAll, AreRecords, AreSegments, IsFirst, IsHeader, IsHot, IsJournal, IsRecord, Segment, Sizes, StopsAtHeader, StopsAtRecord, entries, entry_of, placed, record_len, records_end, sizes_of, to_the_end}
unfoldable pub use Rattle.sqjournal.specs.NonceSum.{nonce_sum}
pub use Rattle.sqjournal.specs.Restored.{IsRestored, IsRolledBack, all_records, last_content}
pub use Rattle.sqjournal.specs.Took.{HasCount, HasEntry, Says}
unfoldable pub use Rattle.sqjournal.specs.Took.{Took}
pub use Rattle.sqjournal.specs.declared.error.JournalError.{JournalError}
pub use Rattle.sqjournal.specs.declared.error.JournalError.TheVariants.{NotAJournal, SectorSize, TooLong}
pub use Rattle.sqjournal.specs.declared.header.JournalHeader.{JournalHeader}
pub use Rattle.sqjournal.specs.declared.reading.Record.{Record}
pub use Rattle.sqjournal.specs.declared.reading.Why.{Why}
pub use Rattle.sqjournal.specs.declared.reading.Why.TheVariants.{End, Header, PageZero, Short, Sum}
pub use Rattle.sqjournal.specs.declared.replay.Replay.{Replay}
pub use Rattle.sqjournal.specs.declared.replay.Stop.{Stop}
pub use Rattle.sqval.proofs.database.FaultlessCommit.{above_supplied, supplied_here}
pub use Rattle.sqval.proofs.page.PageNumbers.{distinct}
pub use Rattle.sqval.proofs.page.PageSizes.{is_page_size}
unfoldable pub use Rattle.sqval.specs.Database.{file_page, page}
pub use Rattle.sqval.specs.internal.JudgedPages.{numbers_of}
pub use Rattle.std.proofs.Common.{Bool, Err, IfErr, IsTrue, List, MatchOption, MatchResult, None, Ok, OnOk, Option, Result, Some, [], ap, append-nil, append_assoc, arith, cond, drop, drop-drop, drop_at, ext_get_or, false, get_or, get_or-drop, get_or-take, if◌then◌else◌, inl, inr, length, length-append, length-drop, length-take, length-take-le, lit<, lit≤, map, max, min, nat_le, nat_lt, refl, replicate, reverse, rules, slice_get, subst, suc, sym, take, take-append-drop, take-take, take_all, take_at, true, unwrap_or, zero, zero-add, ℕ, ⊎_elim, ◌%◌, ◌*◌, ◌++◌, ◌+◌, ◌-◌, ◌/◌, ◌<◌, ◌==◌, ◌^◌, ◌↔◌, ◌∙◌, ◌∷◌, ◌≡◌, ◌≢◌, ◌≤◌, ◌⊎◌}
pub use Rattle.std.proofs.Math.Nat.{div-lt_iff_lt-mul, div-mul-le_self, lt-div-mul-add, mod-eq-sub-div-mul, mul-le-mul_left, mul-le-mul_right}
pub use Rattle.std.proofs.Math.Seq.{take-add, take-suc}
pub use Rattle.std.proofs.lemmas.Bool.{cases_Bool, cases_eq, cases_lt}
pub use Rattle.std.proofs.lemmas.Bool.Decides.{nat_tests, not_from_Decides}
pub use Rattle.std.proofs.lemmas.Grind.{same_number_lists}
pub use Rattle.std.proofs.lemmas.List.{drop-map, drop_all, get_or-append_right, get_or-map, get_or-replicate, get_or_append_left, get_or_at, get_or_past, length-map, length-replicate, length_push, map-append, map_more, reverse-append, take-append-le, take-map, take_more}
pub use Rattle.std.proofs.lemmas.List.Elements.{Contains-append_cases, Contains-append_left, Contains-append_right, Contains-push, Contains-push_cases}
pub use Rattle.std.proofs.lemmas.List.FromFn.{get_or-map-range_with_len, length-map-range_with_len}
pub use Rattle.std.proofs.lemmas.List.Sorted.{All-permutation, Contains-permutation, IsNonDecreasingBy-from_sort_by_key, IsPermutation-map, length_permutation}
pub use Rattle.std.proofs.lemmas.List.Sums.{sum_by-cons, sum_by_more_le}
pub use Rattle.std.proofs.lemmas.Map.Keys.{IsDistinct-IsPermutation, IsStrictlyIncreasing-from_distinct, below_from_sorted, sorted_from_strictly_increasing}
pub use Rattle.std.proofs.lemmas.Nat.{div-mul-add, le-div}
pub use Rattle.std.proofs.lemmas.Option.{get_or_from_slice_get, slice_get-get_or, slice_get_within}
pub use Rattle.std.proofs.lemmas.Result.{on_ok_weaker}
pub use Rattle.std.proofs.lemmas.Slice.Eq.{bytes_eq-Decides}
pub use Rattle.std.specs.Borrow.{Bor}
pub use Rattle.std.specs.List.{All, AllByRecursion, Contains, flat_map, range_with_len, sum_by}
unfoldable pub use Rattle.std.specs.List.{IsDistinct}
pub use Rattle.std.specs.List.Sorted.{IsNonDecreasing, IsNonDecreasingBy, IsPermutation, IsStrictlyIncreasing}
pub use Rattle.std.specs.Str.{bytes_eq}
pub use borrow.Rule.Slice.PartMut.{same_len_mid}
