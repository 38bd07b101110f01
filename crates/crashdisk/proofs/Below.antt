-- The same, with the facts that stand on no others.
pub use Rattle.crashdisk.proofs.Words.{Added, Alters, AltersFile, ArePresent, AreRising, AreWhole, Bool, Bor, CanBeSaid, Change, Changed, ChangedBy, Contains, Contains-append_cases, Contains-append_left, Contains-append_right, Contains-push_cases, CrashesSettle, CutTouches, Cuts, CutsAddTheNew, Db, DiskError, DiskState, EachImageIsNamed, EachIsCounted, EachOf, Elsewhere, EndsEachImage, EndsWhole, EndsWithin, Err, Failed, File, FileState, Fixed, Gets, Global, HadRefusal, HasCalls, HasDigits, HasFixed, Held, IfOk, Image, ImagesAreListed, InFile, Intent, IsAnswered, IsClear, IsCrash, IsCutTo, IsDone, IsEnded, IsEndedTo, IsErr, IsFixed, IsHeld, IsImage, IsLeft, IsListOf, IsListed, IsLogDurable, IsMade, IsMadeInPart, IsNew, IsPicked, IsPut, IsSectorSize, IsSettled, IsShuffled, IsSolid, IsSound, IsSoundDisk, IsSteady, IsSynced, IsTrue, IsTurned, KeepsLog, Kept, Later, Left, List, Log, Looks, Loses, Manner, MatchOption, Meets, Names, Naming, NewOrOld, NoMemory, None, Nothing, Ok, OneListed, Option, OthersAddNothing, Part, Result, Same, SameFiles, SameImages, Since, SinceSync, Some, Spreads, Stale, Steady, Still, Stopped, Suits, SyncStep, SyncedBy, Syncs, SyncsSettle, Takes, Told, TooLong, Touches, Value, Vec, WriteTouches, Writes, WritesAddTheNew, [], add-mul, ap, append-nil, append_assoc, arith, before_last, by_answer, byte, byte_by, cases_eq, cases_lt, changing, choice_count, cond, counted, cut_to, cutting, digit, div-div-eq-div-mul, div-lt_iff_lt-mul, div-mul-add, div-mul-le_self, div_ceil_times, drop, drop-append_seam, drop-map, drop_all, ended, eq-eqb, eqb_tells, ext_get_or, false, file_by, file_of, get_or, get_or-append_right, get_or-drop, get_or-map, get_or-map-range_with_len, get_or-replicate, get_or-take, get_or_append_left, get_or_at, get_or_default, get_or_past, handed_writes, image_of, inl, inr, is_odd, is_ok, is_sector_size, kept_bytes, kept_of, last_of, last_torn, le-div, le-div_iff_mul-le, le-ltb, length, length-append, length-drop, length-map, length-map-range_with_len, length-replicate, length-take, length-take-le, length_at, length_count, listed, longest, lt-div-mul-add, lt-ltb, ltb-true, ltb_from_iff, map, map-append, max, min, mod-eq_of_lt, mod-lt, mod-mul-add, mul-add-lt, mul-le-mul_left, mul-le-mul_right, mul_assoc, mul_comm, named_byte, named_len, naming_at, naming_of, nat_eq, nat_lt, nat_tests, not, of, or_else, other, picked, put_byte, put_mid, put_mid-paste, range_with_len, refl, replicate, replicate-append-replicate, rules, same_number_lists, sector_count, set-get_or, set_len, size_positive, slice_index_or, sound, sound_disk, state_of, subst, suc, swapped, sym, sync, take, take-add, take-append-le, take-map, take_all, take_at, take_more, torn_here, true, turned, value_count, value_of, ways, with_write, write, writing, written, zero, ℕ, ⊎_elim, ◌%◌, ◌&&◌, ◌*◌, ◌++◌, ◌+◌, ◌-◌, ◌/◌, ◌<◌, ◌^◌, ◌↔◌, ◌∙◌, ◌∷◌, ◌≡◌, ◌≢◌, ◌≤◌, ◌⊎◌}
unfoldable pub use Rattle.crashdisk.proofs.Words.{PlaceAnswer}
pub use Rattle.crashdisk.proofs.call.CasesOfAnswers.{by_change, by_sync, counted_within, handed_db}
pub use Rattle.crashdisk.proofs.call.SequencesOfCalls.{calls_then, calls_wider, no_calls, one_cut, one_look, one_sync, one_write}
pub use Rattle.crashdisk.proofs.call.SoundFileUnderChanges.{AreBytes, IsFit, byte_below, byte_is_byte, byte_past, cut_below, cut_past, fit_cut, fit_write, meets_wider, sound_changed, sound_synced, where_at, written_inside, written_outside}
pub use Rattle.crashdisk.proofs.image.OriginOfImages.{Comes, From, comes, from_sector, get_or-table, images_changed, length-table, table}
pub use Rattle.crashdisk.proofs.image.TornSectorsOfChoice.{torn_more}
pub use Rattle.crashdisk.proofs.page.PlacesOfPages.{are_whole, page_at, page_before, page_sector, sector_some}
pub use Rattle.crashdisk.proofs.sector.PlacesInSectors.{inside, meets_range, place_in, range_meets, sector_at, sector_le}
pub use Rattle.crashdisk.proofs.sector.SectorBySectorChanges.{before_pushed, find, not_yet, one_more, rising_take, undone}
