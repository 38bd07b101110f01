-- The same, with the facts that stand on those.
pub use Rattle.crashdisk.proofs.Below.{Alters, AltersFile, AreBytes, ArePresent, AreWhole, Bool, CanBeSaid, Change, Changed, ChangedBy, Comes, Contains, Contains-push_cases, CrashesSettle, CutTouches, Cuts, CutsAddTheNew, Db, DiskError, DiskState, EachImageIsNamed, EachIsCounted, Elsewhere, EndsWithin, Err, Failed, File, FileState, Fixed, From, HadRefusal, HasCalls, HasDigits, HasFixed, IfOk, Image, ImagesAreListed, InFile, IsAnswered, IsClear, IsCrash, IsDone, IsErr, IsFit, IsFixed, IsImage, IsLeft, IsListOf, IsListed, IsLogDurable, IsMade, IsNew, IsSectorSize, IsSettled, IsShuffled, IsSolid, IsSound, IsSoundDisk, IsSteady, IsSynced, IsTrue, KeepsLog, Later, List, Log, Looks, Meets, Names, Naming, NewOrOld, NoMemory, None, Nothing, Ok, OneListed, Option, OthersAddNothing, Result, Same, SameFiles, SameImages, SinceSync, Some, Spreads, Steady, Still, Stopped, Suits, SyncStep, SyncedBy, Syncs, SyncsSettle, Told, TooLong, Touches, Value, WriteTouches, Writes, WritesAddTheNew, [], add-mul, ap, append-nil, arith, before_last, by_answer, by_change, by_sync, byte, byte_below, byte_by, byte_past, calls_then, calls_wider, cases_eq, cases_lt, choice_count, comes, cond, counted, counted_within, cut_below, cut_past, cut_to, digit, div-div-eq-div-mul, div-lt_iff_lt-mul, div-mul-add, div-mul-le_self, drop, drop_all, eq-eqb, eqb_tells, ext_get_or, false, file_by, file_of, fit_cut, fit_write, from_sector, get_or, get_or-drop, get_or-map, get_or-map-range_with_len, get_or-table, get_or-take, get_or_default, get_or_past, handed_db, handed_writes, image_of, images_changed, inl, inr, inside, is_ok, is_sector_size, kept_of, last_of, last_torn, le-div, le-div_iff_mul-le, le-ltb, length, length-append, length-drop, length-map, length-map-range_with_len, length-replicate, length-table, length-take, length-take-le, length_at, length_count, listed, longest, lt-div-mul-add, lt-ltb, ltb-true, ltb_from_iff, map, max, min, mod-eq_of_lt, mod-lt, mod-mul-add, mul-add-lt, mul-le-mul_left, mul-le-mul_right, mul_assoc, mul_comm, named_byte, named_len, naming_at, naming_of, nat_eq, nat_lt, no_calls, not, of, one_cut, one_look, one_sync, one_write, or_else, other, page_at, page_before, picked, place_in, put_mid, put_mid-paste, range_with_len, refl, replicate, rules, same_number_lists, sector_count, sector_le, set_len, size_positive, slice_index_or, sound, sound_changed, sound_disk, sound_synced, state_of, subst, suc, sym, sync, table, take, take-add, take_all, take_at, torn_here, true, value_count, value_of, ways, where_at, with_write, write, writing, written, written_inside, written_outside, zero, ℕ, ⊎_elim, ◌%◌, ◌&&◌, ◌*◌, ◌++◌, ◌+◌, ◌-◌, ◌/◌, ◌<◌, ◌^◌, ◌↔◌, ◌∙◌, ◌∷◌, ◌≡◌, ◌≤◌, ◌⊎◌}
unfoldable pub use Rattle.crashdisk.proofs.Below.{PlaceAnswer}
pub use Rattle.crashdisk.proofs.byte.FixedBytes.{alters_write, byte_cut, byte_written, fixed_sync, stale_before, whole_write}
pub use Rattle.crashdisk.proofs.byte.SettledFiles.{settled_again, settled_byte, settled_image, settled_one, settled_shuffled, settled_sound, settled_synced}
pub use Rattle.crashdisk.proofs.call.AnswersOfCalls.{answered_handed, cut_answered, greatest_changed, left_since}
pub use Rattle.crashdisk.proofs.image.ImagesOfEndedFile.{ends_each_image}
pub use Rattle.crashdisk.proofs.sector.BytesOfRead.{Copied, copied_all, copied_more, mid_inside, mid_outside, none_copied, sector_end}
pub use Rattle.crashdisk.proofs.sector.FileFromChangedSectors.{all_there, held_again, held_grown, held_in_part, held_made, if_ok, is_made, made_in_part, two_made}
pub use Rattle.crashdisk.proofs.sector.SectorsAfterEnd.{ended_lists, ended_room, ended_whole, solid_ended}
pub use Rattle.crashdisk.proofs.sector.SectorsAfterFailedSync.{listed_count, picked_below, turned_each, turned_shuffled}
pub use Rattle.crashdisk.proofs.sector.SectorsAfterSync.{settled_lists, settled_whole}
pub use Rattle.crashdisk.proofs.sector.SolidityOfSoundFiles.{size_is, size_least, solid}
pub use Rattle.crashdisk.proofs.sector.TouchedSectors.{Below, all_below, grown_more, is_past, none_below, one_found, one_skipped, past_is, touched_from, touched_there, touched_to}
pub use Rattle.crashdisk.proofs.sector.ValuesOfChangedSectors.{grown_same}
pub use Rattle.crashdisk.proofs.sync.ImagesAfterFailedSync.{image_shuffled, sound_shuffled}
pub use Rattle.crashdisk.proofs.sync.ImagesAfterSync.{image_synced, only_present}
