-- Which images each call of a disk adds.
use Rattle.crashdisk.proofs.Between.{ArePresent, Bool, Changed, ChangedBy, CrashesSettle, CutTouches, CutsAddTheNew, Db, DiskError, DiskState, Err, Failed, File, FileState, Image, ImagesAreListed, IsImage, IsMade, IsSettled, IsShuffled, IsSynced, List, Log, NoMemory, Ok, OthersAddNothing, Result, SameImages, Stopped, SyncedBy, SyncsSettle, TooLong, Value, WriteTouches, WritesAddTheNew, [], ap, arith, cut_to, image_shuffled, images_changed, inl, inr, length, max, of, only_present, other, refl, settled_image, settled_one, subst, sym, written, ℕ, ◌+◌, ◌/◌, ◌<◌, ◌↔◌, ◌∙◌, ◌≡◌}

pub images_listed : ImagesAreListed
images_listed sector tears s c = (λ image. (image.least, image.greatest, image.each), λ parts. record { least = parts.0; greatest = parts.1; each = parts.2 })

-- ---- A change that was made.

changed_by_made : (sector : ℕ) (touches : ℕ → Type 0) (target : Value) (end : ℕ) (result : Result (Unit {0}) DiskError) (old new : FileState) → IsMade result → ChangedBy sector touches target end result old new → Changed sector touches target end old new
changed_by_made sector touches target end (Ok v) old new made by = by.0
changed_by_made sector touches target end (Err Failed) old new made by = by
changed_by_made sector touches target end (Err Stopped) old new made by = absurd made
changed_by_made sector touches target end (Err TooLong) old new made by = absurd made
changed_by_made sector touches target end (Err NoMemory) old new made by = absurd made

changed_by_none : (sector : ℕ) (touches : ℕ → Type 0) (target : Value) (end : ℕ) (result : Result (Unit {0}) DiskError) (old new : FileState) → (IsMade result → ⊥) → ChangedBy sector touches target end result old new → new ≡ old
changed_by_none sector touches target end (Ok v) old new none by = absurd (none tt)
changed_by_none sector touches target end (Err Failed) old new none by = absurd (none tt)
changed_by_none sector touches target end (Err Stopped) old new none by = by
changed_by_none sector touches target end (Err TooLong) old new none by = by
changed_by_none sector touches target end (Err NoMemory) old new none by = by

-- the sectors of the disk stay
at_old : {P : Type 0} (f : File) (old new : DiskState) (c : List ℕ) → new.sector ≡ old.sector → new.tears ≡ old.tears → IsImage old.sector old.tears (of f new) c ↔ P → Image f new c ↔ P
at_old {P} f old new c sector tears is =
    subst (λ (n : ℕ). IsImage n new.tears (of f new) c ↔ P) (sym sector) (subst (λ (b : Bool). IsImage old.sector b (of f new) c ↔ P) (sym tears) is)

pub images_written : WritesAddTheNew
images_written f at bytes result old new c made wrote =
    let touches = WriteTouches old.sector (of f old) at bytes in
    let target = written (of f old) at bytes in
    let end = max (of f old).len (at + length bytes) in
    at_old f old new c wrote.elsewhere.sector wrote.elsewhere.tears
    (images_changed old.sector old.tears touches target end (of f old) (of f new) (changed_by_made old.sector touches target end result (of f old) (of f new) made wrote.file) c)

pub images_cut : CutsAddTheNew
images_cut f n result old new c made cut =
    let touches = CutTouches old.sector (of f old) n in
    let target = cut_to (of f old) n in
    at_old f old new c cut.elsewhere.sector cut.elsewhere.tears
    (images_changed old.sector old.tears touches target n (of f old) (of f new) (changed_by_made old.sector touches target n result (of f old) (of f new) made cut.file) c)

-- ---- A sync.

synced_present : (sector : ℕ) (tears : Bool) (old new : FileState) (c : List ℕ) → IsSynced old new → IsImage sector tears new c → ArePresent old c
synced_present sector tears old new c synced image =
    let long : length c ≡ old.len = omega (arith, image.least, image.greatest, synced.least, synced.greatest) in
    record { len = long; each = λ i lt. only_present sector tears new c synced.earlier image i (omega (arith, long)) ∙ synced.present i }

present_synced : (sector : ℕ) (tears : Bool) (old new : FileState) (c : List ℕ) → IsSynced old new → ArePresent old c → IsImage sector tears new c
present_synced sector tears old new c synced are = record {
  least = omega (arith, synced.least, are.len);
  greatest = omega (arith, synced.greatest, are.len);
  each = λ k. inl (λ i e lt. are.each i (omega (arith, are.len)) ∙ sym (synced.present i));
}

pub images_synced : SyncsSettle
images_synced f done old new c synced = (synced_present new.sector new.tears (of f old) (of f new) c synced.file, present_synced new.sector new.tears (of f old) (of f new) c synced.file)

-- ---- A call that adds nothing.

same_images : (f : File) (old new : DiskState) → new.sector ≡ old.sector → new.tears ≡ old.tears → of f new ≡ of f old → SameImages f old new
same_images f old new sector tears is c =
    at_old f old new c sector tears (subst (λ (s : FileState). IsImage old.sector old.tears s c ↔ Image f old c) (sym is) (λ image. image, λ image. image))

images_shuffled : (sector : ℕ) (tears : Bool) (old new : FileState) (c : List ℕ) → IsShuffled sector old new → IsImage sector tears new c ↔ IsImage sector tears old c
images_shuffled sector tears old new c shuffled = (
  image_shuffled sector old new shuffled tears c,
  image_shuffled sector new old (record {
    from = shuffled.keeps;
    present_from = shuffled.keeps_present;
    count = λ k. sym (shuffled.count k);
    keeps = shuffled.from;
    keeps_present = shuffled.present_from;
    len = sym shuffled.len;
    least = sym shuffled.least;
    greatest = sym shuffled.greatest;
  }) tears c,
)

sync_spares : (f : File) (e : DiskError) (old new : DiskState) → new.sector ≡ old.sector → new.tears ≡ old.tears → SyncedBy {T = Unit {0}} old.sector (Err e) (of f old) (of f new) → SameImages f old new
sync_spares f Failed old new sector tears by = λ c. at_old f old new c sector tears (images_shuffled old.sector old.tears (of f old) (of f new) c by)
sync_spares f Stopped old new sector tears by = same_images f old new sector tears by
sync_spares f TooLong old new sector tears by = same_images f old new sector tears by
sync_spares f NoMemory old new sector tears by = same_images f old new sector tears by

looked_at : (f : File) (old new : DiskState) → new.db ≡ old.db → new.log ≡ old.log → of f new ≡ of f old
looked_at Db old new db log = db
looked_at Log old new db log = log

other_of : (f : File) (s : DiskState) → of (other (other f)) s ≡ of f s
other_of Db s = refl
other_of Log s = refl

pub images_spared : OthersAddNothing
images_spared f old new (inl (at, bytes, result, none, wrote)) =
    same_images f old new wrote.elsewhere.sector wrote.elsewhere.tears
    (changed_by_none old.sector (WriteTouches old.sector (of f old) at bytes) (written (of f old) at bytes) (max (of f old).len (at + length bytes)) result (of f old) (of f new) none wrote.file)
images_spared f old new (inr (inl (n, result, none, cut))) =
    same_images f old new cut.elsewhere.sector cut.elsewhere.tears
    (changed_by_none old.sector (CutTouches old.sector (of f old) n) (cut_to (of f old) n) n result (of f old) (of f new) none cut.file)
images_spared f old new (inr (inr (inl (e, synced)))) = sync_spares f e old new synced.elsewhere.sector synced.elsewhere.tears synced.file
images_spared f old new (inr (inr (inr (inl (end, result, looked))))) = same_images f old new looked.sector looked.tears (looked_at f old new looked.db looked.log)
images_spared f old new (inr (inr (inr (inr (result, elsewhere))))) = same_images f old new elsewhere.sector elsewhere.tears (sym (other_of f new) ∙ elsewhere.other ∙ other_of f old)

-- ---- A crash.

settled_images : (sector : ℕ) (tears : Bool) (s : FileState) (c d : List ℕ) → IsSettled s d → IsImage sector tears s c ↔ (c ≡ d)
settled_images sector tears s c d settled =
    (settled_one s d settled sector tears c, λ is. subst (λ (x : List ℕ). IsImage sector tears s x) (sym is) (settled_image s d settled sector tears))

pub images_crashed : CrashesSettle
images_crashed db log old new crash =
    ((crash.db_image, crash.log_image), λ c. (settled_images new.sector new.tears new.db c db crash.db_left, settled_images new.sector new.tears new.log c log crash.log_left))
