-- The same, with all facts that the proofs of functions cite.
pub use Rattle.crashdisk.proofs.Between.{ArePresent, Bool, Change, Contains, Contains-push_cases, Cuts, Db, DiskError, DiskState, EachIsCounted, Elsewhere, EndsWithin, Err, Failed, File, FileState, HadRefusal, HasCalls, HasDigits, InFile, IsAnswered, IsErr, IsImage, IsListed, IsLogDurable, IsSectorSize, IsSettled, IsSolid, IsSound, IsSoundDisk, IsTrue, KeepsLog, Later, List, Log, Looks, Names, NoMemory, Nothing, Ok, OneListed, Result, SameFiles, SinceSync, Spreads, Still, Stopped, Suits, SyncStep, SyncedBy, Syncs, Told, TooLong, Writes, [], add-mul, ap, arith, byte, byte_below, byte_past, calls_then, calls_wider, cases_lt, choice_count, cond, counted, cut_answered, digit, div-div-eq-div-mul, div-lt_iff_lt-mul, div-mul-add, div-mul-le_self, drop, false, file_by, file_of, get_or, get_or-drop, get_or-take, get_or_default, get_or_past, handed_db, held_again, image_of, inl, inr, is_ok, le-div, length, length-drop, length-take-le, length_at, length_count, listed, longest, lt-div-mul-add, map, mod-mul-add, mul-add-lt, mul-le-mul_right, mul_assoc, mul_comm, named_byte, naming_at, naming_of, no_calls, not, of, one_cut, one_look, one_sync, one_write, page_at, page_before, range_with_len, refl, replicate, rules, same_number_lists, sector_count, set_len, settled_one, settled_sound, size_positive, solid, sound, subst, suc, sym, sync, take, take-add, take_all, true, value_count, ways, with_write, write, writing, written_inside, written_outside, zero, ℕ, ⊎_elim, ◌%◌, ◌*◌, ◌++◌, ◌+◌, ◌-◌, ◌/◌, ◌<◌, ◌^◌, ◌∙◌, ◌∷◌, ◌≡◌, ◌≤◌, ◌⊎◌}
unfoldable pub use Rattle.crashdisk.proofs.Between.{PlaceAnswer}
pub use Rattle.crashdisk.proofs.call.EffectsOfCalls.{counted_grows, counted_rises, image_elsewhere, image_sync, images_by_sync, present_written, settled_sync, settled_syncs}
pub use Rattle.crashdisk.proofs.call.SoundDiskUnderCalls.{sound_cut, sound_cuts, sound_looks, sound_of, sound_syncs, sound_writes, sound_written}
pub use Rattle.crashdisk.proofs.image.BytesNamedByChoice.{Put, appended, image_is, part_long, put_more}
pub use Rattle.crashdisk.proofs.image.ChoiceForEachImage.{each_image_is_named}
pub use Rattle.crashdisk.proofs.image.DigitsOfChoice.{between, digits_more, named_digits, naming_is, none_left, rest_more, sector_there, some_choice}
pub use Rattle.crashdisk.proofs.image.ImageNamedByChoice.{image_len, image_named, left_settled, left_whole, len_between}
pub use Rattle.crashdisk.proofs.image.ImagesOfCalls.{images_crashed, images_cut, images_listed, images_spared, images_synced, images_written}
pub use Rattle.crashdisk.proofs.sync.WrittenAndSyncedFile.{filled_settled}
