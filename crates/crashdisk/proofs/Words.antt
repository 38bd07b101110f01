-- What the proofs cite of the definitions and of the library.
pub use Rattle.crashdisk.specs.Call.{ArePresent, Change, ChangedBy, Cuts, DiskState, Elsewhere, EndsWithin, GoesThrough, HasCalls, IsCall, IsCrash, IsNew, IsSoundDisk, Looks, Nothing, SinceSync, SyncedBy, Syncs, Writes, counted, kept_of, of, other, set_len, sync, with_write, write}
pub use Rattle.crashdisk.specs.Choice.{CanBeSaid, EachImageIsNamed, Naming, byte_by, image_of, last_torn, listed, named_byte, named_len, naming_of, or_else, torn_here}
pub use Rattle.crashdisk.specs.Count.{EachIsCounted, HasDigits, IsListed, choice_count, digit, length_at, length_count, naming_at, sector_count, value_count, ways}
pub use Rattle.crashdisk.specs.Ending.{EndsEachImage, IsEnded, ended}
pub use Rattle.crashdisk.specs.Facts.{HasFixed, IsFixed}
pub use Rattle.crashdisk.specs.Held.{AreWhole, IsHeld, IsListOf, IsPicked, IsTurned, before_last, file_by, file_of, is_odd, last_of, picked, value_of}
pub use Rattle.crashdisk.specs.Images.{CrashesSettle, CutsAddTheNew, Image, ImagesAreListed, IsMade, IsOldOrNew, OthersAddNothing, SameImages, SyncsSettle, WritesAddTheNew}
pub use Rattle.crashdisk.specs.Keeps.{HadRefusal, IsLogDurable, Later, SameFiles, Still, Suits}
pub use Rattle.crashdisk.specs.Model.{state_of}
pub use Rattle.crashdisk.specs.Since.{handed_writes, kept_bytes}
pub use Rattle.crashdisk.specs.Solid.{IsSolid, is_sector_size}
pub use Rattle.crashdisk.specs.State.{Added, Changed, CutTouches, FileState, IsDone, IsImage, IsSectorSize, IsSettled, IsShuffled, IsSound, IsSynced, Kept, Meets, OneListed, Same, Shows, Stale, Value, WriteTouches, byte, cut_to, longest, written}
pub use Rattle.crashdisk.specs.declared.calls.Manner.{Manner}
pub use Rattle.crashdisk.specs.declared.error.DiskError.{DiskError}
pub use Rattle.crashdisk.specs.declared.error.DiskError.TheVariants.{Failed, NoMemory, Stopped, TooLong}
pub use Rattle.crashdisk.specs.declared.file.File.{File}
pub use Rattle.crashdisk.specs.declared.file.File.TheVariants.{Db, Log}
pub use Rattle.crashdisk.specs.declared.held.Held.{Held}
pub use Rattle.crashdisk.specs.declared.held.Part.{Part}
pub use Rattle.crashdisk.specs.declared.since.Since.{Since}
pub use Rattle.crashdisk.specs.internal.Answer.{Intent, IsAnswered, IsMadeInPart, changing, cutting, writing}
pub use Rattle.crashdisk.specs.internal.Call.{InFile}
pub use Rattle.crashdisk.specs.internal.Choice.{IsLeft, Names}
pub use Rattle.crashdisk.specs.internal.Facts.{Alters, AltersFile, Fixed, IsClear, IsSteady, NewOrOld, Spreads, Steady}
pub use Rattle.crashdisk.specs.internal.Held.{AreRising, EachOf, EndsWhole, Gets, IsCutTo, IsEndedTo, IsPut, Loses, Takes, Touches, put_byte, swapped, turned}
pub use Rattle.crashdisk.specs.internal.Keeps.{KeepsLog, SyncStep, Told}
unfoldable pub use Rattle.crashdisk.specs.internal.Keeps.{PlaceAnswer}
pub use Rattle.crashdisk.specs.internal.Since.{Left, by_answer}
pub use Rattle.crashdisk.specs.internal.SoundModel.{size_positive, sound, sound_disk}
pub use Rattle.std.proofs.Common.{Bool, Bor, Err, Global, IfOk, IsErr, IsTrue, List, MatchOption, None, Ok, Option, Result, Some, Vec, [], ap, append_assoc, arith, cond, drop, false, get_or, inl, inr, is_ok, length, length-append, length-drop, map, max, min, mul-suc, mul_assoc, nat_eq, nat_lt, not, refl, replicate, rules, set, slice_index_or, subst, suc, sym, take, true, zero, ℕ, ⊎_elim, ◌%◌, ◌&&◌, ◌*◌, ◌++◌, ◌+◌, ◌-◌, ◌/◌, ◌<◌, ◌^◌, ◌↔◌, ◌∙◌, ◌∷◌, ◌≡◌, ◌≢◌, ◌≤◌, ◌⊎◌}
pub use Rattle.std.proofs.Math.Nat.{add-mul, div-div-eq-div-mul, div-lt_iff_lt-mul, div-mul-le_self, le-div_iff_mul-le, lt-div-mul-add, mod-eq-sub-div-mul, mod-eq_of_lt, mod-lt, mul-le-mul_left, mul-le-mul_right, mul_comm, suc-mul}
pub use Rattle.std.proofs.Math.Pow.{pow-lt, pow_mono}
pub use Rattle.std.proofs.Math.Seq.{drop-append_seam, take-add}
pub use Rattle.std.proofs.lemmas.Bool.{cases_eq, cases_lt, eq-eqb, le-ltb, lt-ltb, ltb-true, ltb_from_iff}
pub use Rattle.std.proofs.lemmas.Bool.Decides.{eqb_tells, nat_tests}
pub use Rattle.std.proofs.lemmas.Grind.{div_ceil_times, same_number_lists}
pub use Rattle.std.proofs.lemmas.List.{append-nil, drop-map, drop_all, ext_get_or, get_or-append_right, get_or-drop, get_or-map, get_or-replicate, get_or-set_other, get_or-set_same, get_or-take, get_or_append_left, get_or_at, get_or_default, get_or_past, length-map, length-replicate, length-set, length-take, length-take-le, map-append, replicate-append-replicate, set-get_or, take-append-le, take-map, take_all, take_at, take_more}
pub use Rattle.std.proofs.lemmas.List.Elements.{Contains-append_cases, Contains-append_left, Contains-append_right, Contains-push, Contains-push_cases}
pub use Rattle.std.proofs.lemmas.List.FromFn.{get_or-map-range_with_len, length-map-range_with_len, map-range_with_len_more}
pub use Rattle.std.proofs.lemmas.Nat.{div-mul-add, le-div, mod-mul-add, mul-add-lt, pow-add}
pub use Rattle.std.proofs.lemmas.Slice.{put_mid-paste}
pub use Rattle.std.specs.List.{Contains, range_with_len}
pub use borrow.Rule.Slice.PartMut.{put_mid}
