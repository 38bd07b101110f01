-- What the proofs cite of the definitions and of the libraries below.
pub use Rattle.crashdisk.proofs.byte.FixedBytes.{alters_write, whole_write}
pub use Rattle.crashdisk.proofs.byte.SettledFiles.{settled_image, settled_one, settled_synced}
pub use Rattle.crashdisk.proofs.call.DisksAfterCalls.{later_then, later_write, sync_done, sync_later, sync_refused, told_err}
pub use Rattle.crashdisk.proofs.call.EffectsOfCalls.{image_elsewhere, image_looks, image_sync, present_cut, present_list, settled_sync, steady_cuts, steady_writes}
pub use Rattle.crashdisk.proofs.call.SequencesOfCalls.{calls_then, calls_wider, no_calls, one_cut, one_write}
pub use Rattle.crashdisk.proofs.call.SoundDiskUnderCalls.{sound_crash, sound_syncs, sound_writes}
pub use Rattle.crashdisk.proofs.call.SoundFileUnderChanges.{byte_is_byte, cut_below}
pub use Rattle.crashdisk.proofs.call.UnchangingCalls.{had_refusal, image_same, image_still, keeps_cut, keeps_same, keeps_still, keeps_then, keeps_write, present_in, refusal_after, same_files, same_sound, still, still_looks, still_sound, still_then}
pub use Rattle.crashdisk.proofs.image.OriginOfImages.{table}
pub use Rattle.crashdisk.proofs.page.ClearPlacesOfPage.{page_is_clear, whole_pages}
pub use Rattle.crashdisk.proofs.page.PlacesOfPages.{cut_clear, page_at, page_within, sector_some}
pub use Rattle.crashdisk.proofs.page.RecoverablePages.{suits_cuts, suits_still, suits_syncs, suits_writes}
pub use Rattle.crashdisk.proofs.page.RunsOfPages.{run_apart, run_cases, run_clear, run_inside, run_outside}
pub use Rattle.crashdisk.proofs.sector.BytesOfRead.{mid_inside}
pub use Rattle.crashdisk.proofs.sync.BytesOfSyncedLog.{down_by, down_one, down_present, down_present_one, down_syncs, file_syncs, log_syncs, piece_read, present_byte, present_image, since_db}
pub use Rattle.crashdisk.specs.Call.{ArePresent, Change, ChangedBy, Cuts, DiskState, Elsewhere, HasCalls, IsCrash, IsSoundDisk, Looks, SinceSync, Syncs, Writes, counted, set_len, sync, with_write, write}
pub use Rattle.crashdisk.specs.Keeps.{HadRefusal, IsLogDurable, IsLong, KeepsBytes, Later, SameFiles, StandsWhole, Still, Suits, TellsRefusal}
pub use Rattle.crashdisk.specs.State.{Changed, FileState, IsImage, IsSettled, IsSound, Meets, WriteTouches, byte, longest, written}
pub use Rattle.crashdisk.specs.declared.error.DiskError.{DiskError}
pub use Rattle.crashdisk.specs.declared.error.DiskError.TheVariants.{Failed, NoMemory, Stopped, TooLong}
pub use Rattle.crashdisk.specs.declared.file.File.{File}
pub use Rattle.crashdisk.specs.declared.file.File.TheVariants.{Db, Log}
pub use Rattle.crashdisk.specs.internal.Call.{InFile}
pub use Rattle.crashdisk.specs.internal.Facts.{IsClear, IsSteady, Spreads}
pub use Rattle.crashdisk.specs.internal.Keeps.{KeepsLog, SyncStep, Told}
pub use Rattle.recovery.proofs.DisksDuringCalls.{during}
pub use Rattle.recovery.specs.Copying.{Begins, Copies, CopiesPages, IsMade, IsWithin, MayFill, PlanKind, Skips}
pub use Rattle.recovery.specs.Files.{ArePages}
pub use Rattle.recovery.specs.Logs.{LogKind, MayBeLeft, MayBeRead, ShowsAlone}
pub use Rattle.recovery.specs.Phases.{Filling}
pub use Rattle.recovery.specs.Scanning.{IsSoundKind, ScanKind}
unfoldable pub use Rattle.recovery.specs.Scanning.{PieceAnswer, ScanAnswer}
pub use Rattle.recovery.specs.Steps.{Ends, GoesOn}
unfoldable pub use Rattle.recovery.specs.Steps.{CopyAnswer}
pub use Rattle.recovery.specs.declared.copying.Run.{Run}
pub use Rattle.recovery.specs.internal.Copying.{Upto}
unfoldable pub use Rattle.recovery.specs.internal.Copying.{RunAnswer}
pub use Rattle.recovery.specs.internal.Files.{IsFiled}
pub use Rattle.recovery.specs.internal.Logs.{Repeats}
pub use Rattle.recovery.specs.internal.Phases.{Restored, Restoring, Unwritten}
unfoldable pub use Rattle.recovery.specs.internal.Scanning.{PiecesAnswer}
pub use Rattle.recovery.specs.internal.Steps.{EndSteps, MayRefuse, ZeroSteps}
pub use Rattle.sqval.proofs.database.AnswersOfEngine.{passed}
pub use Rattle.sqval.proofs.page.FilePages.{file_count, get_or-file_page, page_by_bytes, size_some}
pub use Rattle.sqval.specs.Bytes.{AreBytes, part}
pub use Rattle.sqval.specs.Database.{Database, IsFile}
unfoldable pub use Rattle.sqval.specs.Database.{file_page, page}
pub use Rattle.sqval.specs.Held.{IsJust}
pub use Rattle.std.proofs.Math.Nat.{div-eq_of_lt, mul-le-mul_left, mul-le-mul_right}
pub use Rattle.std.proofs.lemmas.Bool.{cases_lt}
pub use Rattle.std.proofs.lemmas.List.{get_or-replicate, get_or_past, length-replicate, take-replicate}
pub use Rattle.std.proofs.lemmas.Nat.{le-div}
pub use borrow.Rule.Slice.PartMut.{put_mid}
