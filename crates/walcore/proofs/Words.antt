-- What the proofs cite of the definitions and of the libraries below.
pub use Rattle.byteorder.specs.Endian.{big_bytes, big_number}
pub use Rattle.byteorder.specs.Numbers.{big_from-take}
pub use Rattle.crashdisk.proofs.byte.SteadyBytes.{steady_cut}
pub use Rattle.crashdisk.proofs.call.DisksAfterCalls.{told_refused}
pub use Rattle.crashdisk.proofs.call.EffectsOfCalls.{fixed_synced, fixed_syncs, fixed_writes, fixed_written, image_sync, image_write, one_synced}
pub use Rattle.crashdisk.proofs.image.OriginOfImages.{not_torn}
pub use Rattle.crashdisk.proofs.page.RecoverablePages.{suits_same}
pub use Rattle.crashdisk.proofs.sync.BytesOfSyncedLog.{settled_present}
pub use Rattle.crashdisk.specs.Call.{Nothing, Syncs as CallSyncs, of, set_len}
pub use Rattle.crashdisk.specs.State.{CutTouches, cut_to}
unfoldable pub use Rattle.crashdisk.specs.internal.Keeps.{PlaceAnswer}
pub use Rattle.recovery.proofs.AnswersOfSteps.{no_memory}
pub use Rattle.recovery.proofs.CopiedRuns.{copied_keeps}
pub use Rattle.recovery.proofs.EndOfRestore.{end_later, end_refused, end_settled, end_told, long_done, long_else, long_syncs, long_zero, tells_end, told_device, told_done}
pub use Rattle.recovery.proofs.FilledFile.{filled_just, filling_other}
pub use Rattle.recovery.proofs.NarrowedImages.{alone_read, narrows_crash}
pub use Rattle.recovery.proofs.PhasesOfRestore.{restored_by, restored_down, restoring_keeps}
pub use Rattle.recovery.proofs.ToldRefusals.{quiet_err}
pub use Rattle.recovery.proofs.Words.{Agrees, AltersFile, Answer, AreBytes, AreFiles, ArePages, ArePresent, Bounds, Change, Changed, ChangedBy, Complete, Cuts, Database, Db, DiskError, DiskState, Done, Failed, File, FileState, Files, Filling, HadRefusal, HasCalls, HasCause, HasFixed, IsCrash, IsExpected, IsFaultless, IsFile, IsFixed, IsHeld, IsImage, IsJust, IsLogDurable, IsLong, IsNew, IsOf, IsPageSize, IsSameDisk, IsSectorSize, IsSettled, IsSound, IsSoundDisk, IsSteady, KeepsBytes, KeepsLog, Later, Log, Looks, MayBeLeft, MayBeRead, MayRefuse, Moment, Narrows, NoReader, Page, Pages, Partial, PlainStep, Refused, Refuses, Repeats, Runs, SameFiles, ShowsAlone, ShowsWhole, SinceSync, Spreads, Still, Stopped, Suits, SyncStep, Syncs, TearsPages, TellsRefusal, Told, TooLong, WriteTouches, Writes, ZeroSteps, accepted, alone_looks, alone_same, alone_still, alone_syncs, answered, apply, at, byte, called_quiet, calls_then, calls_wider, copy_done, count_rest, count_zero, counted, counted_grows, crash_shows, down_by, down_one, down_present, down_read, down_still, down_syncs, during, faultless, file_count, file_syncs, first_true, front_bytes, front_listed, front_stands, front_torn, get_or-file_page, goes_on, greatest, had_refusal, if_err, image_elsewhere, image_present, image_same, image_still, is_above, is_closed, is_zero, keeps_same, keeps_still, keeps_then, last, later_cut, later_same, later_still, later_sync, later_then, later_wider, later_write, length-apply, length-file_page, lent, lent_length, longest, match_err, may_after, may_down, most_bytes, narrows_still, narrows_syncs, newest, no_calls, none_above, none_both, none_ok, number_at, one_none, one_of, one_sync, one_write, page-apply, page_by_bytes, page_faults, page_within, part, passed, passes_device, place_read, place_refused, present_byte, present_image, present_in, present_list, present_synced, present_written, quiet_ok, quiet_same, read_cases, refusal_after, refused_of, refuses_cause, refuses_first, restored_shows, restored_step, restored_syncs, restoring_shows, restoring_syncs, same_files, sector_some, sector_within, settled_image, settled_one, settled_sync, shows_by, since_db, size_some, sound_crash, sound_cuts, sound_new, sound_syncs, sound_writes, started, stays, still, still_bytes, still_looks, still_sound, still_then, suits_by, suits_still, suits_syncs, suits_writes, supplied, sync, sync_later, sync_refused, synced_down, table, tells_called, tells_ok, tells_quiet, tells_sync, tells_then, then_write, told, told_err, told_ok, unwritten_begins, unwritten_shows, unwritten_still, unwritten_syncs, usual, with_write, word, write, written, written_inside, written_outside, zero_at, zeroed_restored}
pub use Rattle.recovery.specs.Copying.{IsMade}
unfoldable pub use Rattle.recovery.specs.Scanning.{PieceAnswer, ScanAnswer}
unfoldable pub use Rattle.recovery.specs.Steps.{CopyAnswer}
pub use Rattle.recovery.specs.internal.Phases.{Restored}
pub use Rattle.recovery.specs.internal.Reading.{ReadsPlace}
pub use Rattle.recovery.specs.internal.Steps.{EndSteps}
pub use Rattle.sqval.proofs.database.CommittedDatabase.{supplied_at, supplied_found, supplied_none}
pub use Rattle.sqval.proofs.database.FaultlessCommit.{above_some, number_once}
pub use Rattle.sqval.proofs.page.PageSizes.{IsOneOf}
pub use Rattle.sqval.specs.Answers.{Reader as ReaderAnswer, is_accepted}
unfoldable pub use Rattle.sqval.specs.Database.{file_page, page}
pub use Rattle.sqwal.proofs.checksum.Sums.{goes_on_none, goes_on_pair}
pub use Rattle.sqwal.proofs.feed.ScanAnswers.{few_frames}
pub use Rattle.sqwal.proofs.log.DependenceOnPrefix.{all_same, below_end, commit_same, content_same, frame_at-end, frame_at-head, frame_at-suc, frame_end-head, frame_end-le, frame_end-suc, frame_end-zero, header_same, order_same, page_same, part_same, size_same, summed_same, take_less, word_same}
pub use Rattle.sqwal.proofs.log.ExistenceOfFront.{all_decided, front_exists, header_decided}
pub use Rattle.sqwal.proofs.log.LogWithAppendedFrame.{IsAppended, appended, header_of_same, word_fits}
pub use Rattle.sqwal.proofs.log.PartsOfBytes.{take_add, word_in}
pub use Rattle.sqwal.proofs.log.UniquenessOfView.{front_none, front_unique, last_same, named_or_not, over_same, unnamed_same, view_file, view_same, view_unique}
pub use Rattle.sqwal.proofs.log.WrittenHeadersAndFrames.{front_words, header_made, page_pairs, put_two}
pub use Rattle.sqwal.specs.Answers.{IsCommittedWithin, LogRefusedWithin}
pub use Rattle.sqwal.specs.Frames.{AllPass, IsCommit, IsFrameHead, IsFront, IsValidFrame, Passes, content_of, page_of, size_of}
unfoldable pub use Rattle.sqwal.specs.Frames.{frame_at, frame_end, summed}
pub use Rattle.sqwal.specs.Header.{HeaderRefused, IsHeader, IsHeaderOf, named_size, order_of}
pub use Rattle.sqwal.specs.Index.{FrameTable, IsNewest}
pub use Rattle.sqwal.specs.Log.{IsLog}
pub use Rattle.sqwal.specs.Refusal.{most_frames}
pub use Rattle.sqwal.specs.Sums.{GoesOn, IsSumOf, sum_0, sum_1}
unfoldable pub use Rattle.sqwal.specs.Sums.{number, words}
pub use Rattle.sqwal.specs.Took.{IsSettledWithin, TookWithin}
pub use Rattle.sqwal.specs.View.{IsLast, IsOver, IsView, Unnamed}
pub use Rattle.sqwal.specs.declared.error.WalFormatError.{WalFormatError}
pub use Rattle.sqwal.specs.declared.error.WalFormatError.TheVariants.{HeaderSum, NotAWal, UnknownVersion}
pub use Rattle.sqwal.specs.declared.header.WalHeader.{WalHeader}
pub use Rattle.sqwal.specs.declared.scan.Front.{Front}
pub use Rattle.sqwal.specs.declared.scan.Scan.{Scan}
pub use Rattle.sqwal.specs.declared.sum.Order.{Order}
pub use Rattle.sqwal.specs.declared.sum.Order.TheVariants.{Big, Little}
pub use Rattle.sqwal.specs.declared.sum.Sum.{Sum}
pub use Rattle.std.proofs.Common.{Bool, Bor, Err, IfErr, IsFalse, IsOk, IsTrue, List, None, Ok, OnErr, OnOk, Option, Result, Some, [], ap, arith, below_more, cond, drop, drop_at, ext_get_or, false, get_or, get_or-append-add, get_or-drop, get_or-set_other, get_or-set_same, get_or-take, if◌then◌else◌, inl, inr, is_some, length, length-append, length-drop, length-set, length-take, length-take-le, lit<, lit≤, map, max, min, nat_eq, nat_lt, ne_eqb, not, refl, replicate, rules, set, slice_get, slice_index, subst, suc, sym, take, take-append-drop, take-take, take_all, take_at, true, true≢false, unwrap_or, zero, ℕ, ⊎_elim, ◌%◌, ◌&&◌, ◌*◌, ◌++◌, ◌+◌, ◌-◌, ◌/◌, ◌<◌, ◌==◌, ◌^◌, ◌↔◌, ◌∙◌, ◌∷◌, ◌≡◌, ◌≢◌, ◌≤◌, ◌⊎◌}
pub use Rattle.std.proofs.Math.ListN.{get_or-append}
pub use Rattle.std.proofs.Math.Nat.{div-eq_of_lt, div-mul-le_self, lt-div-mul-add, mod-eq-sub-div-mul, mul-le-mul_left, mul-le-mul_right}
pub use Rattle.std.proofs.Math.Pow.{pow_mono}
pub use Rattle.std.proofs.Math.Seq.{get_or-append_right, get_or-append_seam}
pub use Rattle.std.proofs.lemmas.Bool.{cases_eq, cases_lt}
pub use Rattle.std.proofs.lemmas.Bool.Decides.{nat_tests}
pub use Rattle.std.proofs.lemmas.Grind.{common_steps, same_number_lists}
pub use Rattle.std.proofs.lemmas.List.{drop-take, get_or-map, get_or_append_left, get_or_at, get_or_default, get_or_past, length-replicate, length_push, take-append-le, take_rest}
pub use Rattle.std.proofs.lemmas.List.Elements.{Contains-get_or, Contains-push_cases}
pub use Rattle.std.proofs.lemmas.List.FromFn.{get_or-map-range_with_len, length-map-range_with_len}
pub use Rattle.std.proofs.lemmas.List.Sums.{sum_by-cons, sum_by-remove, sum_by-set, sum_by_push}
pub use Rattle.std.proofs.lemmas.Nat.{le-div, mod_below}
pub use Rattle.std.specs.Int.{byte_at, bytes_high_first}
pub use Rattle.std.specs.List.{All, Contains, flat_map, list_all, list_any, range_with_len, remove, sum_by}
pub use Rattle.walcore.specs.Alone.{AreWhole, Show, wal_log}
pub use Rattle.walcore.specs.Bringing.{IsOldest, LeavesJust, answer_of}
pub use Rattle.walcore.specs.Changes.{MayBegin, MayChange, MayExtend, MayFill, MayFillWithin, MayFold, MayFoldWithin}
pub use Rattle.walcore.specs.CommitRefusals.{most_pages, refusal_of}
pub use Rattle.walcore.specs.Commits.{Prepares, SameLog}
pub use Rattle.walcore.specs.Era.{IsBoundary, IsEra, IsUnder, shown}
pub use Rattle.walcore.specs.Fits.{AreTogether, FitsAlone, FitsCore, FitsDisk, GivenUpTo, IsBound, IsCore, IsIndexed, IsLeft, IsNewestDurable, OpenedTo, Past, ShowsOne, StepsTo, beginning, beginning_beside, has_mark, none_open, times}
pub use Rattle.walcore.specs.Folding.{FoldAnswer, FoldAnswerWithin, FoldsWithin, IsEmptyDurable, IsOfOtherSize, IsTooLargeWithin}
pub use Rattle.walcore.specs.Laws.{IsSane, Keeps, at_end, expected, needs_disk, takes_memory}
pub use Rattle.walcore.specs.Lengths.{EndsBy, IsLengthOf, KeepsLength}
pub use Rattle.walcore.specs.LogLaws.{AreWords, HasNewest, IsInForce}
pub use Rattle.walcore.specs.Machine.{Act, BeginStep, Begins, CheckpointStep, Checkpoints, CommitStep, Commits, Crashes, EndStep, Ends, OpenStep, Opens, ReadStep, Reads, RestartStep, Restarts, Sets, State, Step, all_newest, begun, call_refusal, checkpointed, closed, commit_refusal, committed, ended, forgotten, gone, is_bound, opened, read_refusal, reader_at, restart_refusal, restarted, start, synced}
pub use Rattle.walcore.specs.Made.{AreMade, HasNewSalts, IsBegun, IsExtended, NoChance}
pub use Rattle.walcore.specs.Making.{BeginsLog, Copies, Extends, IfBegun, Made, MadeByCommit, MadeByCopy, MadeByRestart, MadeBySync, Makes, Permits, RestartsAnew, has_begun, nothing}
pub use Rattle.walcore.specs.Opening.{FileFault, IsCounted, MayOpen, OpenRefused, OpensOn, OpensSynced}
pub use Rattle.walcore.specs.Paging.{Finds}
pub use Rattle.walcore.specs.Plans.{IsFit, IsFitWithin, IsTable}
pub use Rattle.walcore.specs.Refusal.{number_of}
pub use Rattle.walcore.specs.Rows.{CommitsRefused, Forgotten, IsRunOn, Lost, LostForGood, NoEarlyComplete, NoLostSync, NoOtherPage, NoReturn, NoSkipped, SyncFailed, Synced, TwoReaders, Waits}
pub use Rattle.walcore.specs.Standing.{AreMarks, HasMadeHeader, HoldsFrames, IsBehind, IsPresent, ShowsHistory, Stands}
pub use Rattle.walcore.specs.Uncommitted.{IsUncommitted, KeepsUncommitted}
pub use Rattle.walcore.specs.declared.copying.Frames.{Frames}
pub use Rattle.walcore.specs.declared.error.WalError.{WalError}
pub use Rattle.walcore.specs.declared.error.WalError.TheVariants.{BadLength, Closed, Device, NoMemory, NoMemory as WalNoMemory, NotDrained, PageAboveSize, PageSize, PageZero, ReadersOpen, SectorAbovePage, TooLarge}
pub use Rattle.walcore.specs.declared.folding.Folded.{Folded}
pub use Rattle.walcore.specs.declared.opening.NewLog.{NewLog}
pub use Rattle.walcore.specs.declared.plan.Plan.{Plan}
pub use Rattle.walcore.specs.declared.reader.Reader.{Reader}
pub use Rattle.walcore.specs.declared.state.Core.{Core}
pub use Rattle.walcore.specs.declared.wal.Checkpointed.{Checkpointed}
pub use Rattle.walcore.specs.internal.Bringing.{Brings, BroughtOver, BroughtTo, CanBring, ClosedBy, IsLeast}
unfoldable pub use Rattle.walcore.specs.internal.Bringing.{SizeAnswer}
pub use Rattle.walcore.specs.internal.Commits.{Closes, Counts, IsReady, PrepareAnswer, RestAnswer, Rests}
pub use Rattle.walcore.specs.internal.Era.{IsApplied, IsDurable}
pub use Rattle.walcore.specs.internal.Folding.{IsTooLarge}
pub use Rattle.walcore.specs.internal.FramePlan.{frame_plan}
pub use Rattle.walcore.specs.internal.Going.{FrameStep, FramesAnswer, Going, HasFrame, KeepsCore, KnowsLog}
pub use Rattle.walcore.specs.internal.Lengths.{IsFronted}
pub use Rattle.walcore.specs.internal.Opening.{CountAnswer, FileJudged, FrontJudged, HeaderSteps, IsNewCore, IsNewLog, IsRecovered, RecoverAnswer}
pub use Rattle.walcore.specs.internal.Phases.{Filed, IsOfSize, Scanning, Writing}
pub use Rattle.walcore.specs.internal.Plans.{IsCopy, IsPlan}
unfoldable pub use Rattle.walcore.specs.internal.Plans.{JudgeAnswer, LogRefused, PlanAnswer, ReadAnswer, wanted_page}
pub use Rattle.walcore.specs.internal.Restarts.{IsClosed, IsRestarted, MayRestart, RestartJudged, TakesOver}
pub use Rattle.walcore.specs.internal.Standing.{AreCommitted}
pub use Rattle.walcore.specs.internal.Steps.{Copied, CutSteps, IsWithoutHeader, wal_scan}
unfoldable pub use Rattle.walcore.specs.internal.Steps.{EndAnswer, FoldedAnswer, ScanRefused}
pub use Rattle.walcore.specs.internal.Syncing.{IsRepeated, KnowsLast, SyncsBehind, SyncsBy, SyncsCopy, SyncsFrames, is_due}
pub use borrow.Rule.Slice.PartMut.{put_mid}
