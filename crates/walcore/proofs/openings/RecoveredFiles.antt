-- What an opening has when it has folded what it found.
use Rattle.walcore.proofs.Below.{Agrees, AreFiles, AreMade, ArePresent, CountAnswer, Database, Device, DiskError, DiskState, EndsBy, Err, FileFault, FileJudged, Files, FitsDisk, FoldAnswer, Folded, IsEmptyDurable, IsFront, IsHeader, IsHeld, IsImage, IsJust, IsLeft, IsLogDurable, IsTooLarge, IsValidFrame, KeepsLength, Later, List, Log, MayFold, MayRefuse, NoChance, NoMemory, Ok, PageSize, Past, RecoverAnswer, Result, SectorAbovePage, Show, ShowsAlone, Still, Syncs, TearsPages, TooLarge, WalError, [], ap, arith, at, down_by, down_left, down_present, file_count, frame_end, frame_end-le, frame_end-suc, front_zero, had_refusal, image_still, inl, inr, later_still, later_sync, later_then, length, may_after, most_bytes, most_frames, named_size, narrows_still, narrows_syncs, present_image, present_in, present_list, refl, refusal_after, size_of, size_some, subst, suc, suits_by, sym, synced_down, wal_log, word_same, ℕ, ⊎_elim, ◌*◌, ◌<◌, ◌∙◌, ◌∷◌, ◌≡◌, ◌≤◌}
use Rattle.walcore.proofs.crash.NarrowedImages.{left_narrows}
use Rattle.walcore.proofs.openings.FoundFiles.{IsFound, is_found, found_syncs, found_alone, found_length, alone_one}

-- ---- what is found is of this page size, and not too large

module _ (size : ℕ) (logs : List (List ℕ)) (w : List ℕ) (made : AreMade size logs) (chance : NoChance logs w) where
  named : IsHeader (named_size w) w → named_size w ≡ size
  named header =
      let from = chance.header header in
      let log = made.each from.0 from.1 in
      word_same w from.0 32 8 from.2 (omega arith) ∙ log.1.header.named

  many : (k n : ℕ) → n ≤ k → frame_end size (suc k) ≤ frame_end size n → ⊥
  many k n le over = omega (arith, frame_end-le size n k le, frame_end-suc size k)

  not_many : (k : ℕ) → most_frames ≤ k → IsValidFrame (named_size w) w (suc k) → ⊥
  not_many k most valid =
      let from = chance.frame (suc k) valid in
      let log = made.each from.0 from.1 in
      let e : named_size w ≡ size = named (valid.each 1 (omega arith) valid.first).header in
      let over : frame_end size (suc k) ≤ length from.0 = subst (λ (n : ℕ). frame_end n (suc k) ≤ length from.0) e from.2 in
      many k log.0 (omega (arith, log.2)) (omega (arith, log.1.whole))

  not_large : (db : List ℕ) (d : Database) → Show size db w d → length d * size ≤ most_bytes → IsTooLarge w → ⊥
  not_large db d shows few large = ⊎_elim
      (λ valid. not_many most_frames (omega arith) valid)
      (λ is.
      let shown = shows is.0 is.2 in
      let over : most_bytes < size_of size w is.0 * size = subst (λ (n : ℕ). most_bytes < size_of n w is.0 * n) (shown.0 is.1) is.3 in
      let same : length d * size ≡ size_of size w is.0 * size = ap (λ n. n * size) (shown.1.some is.1) in
      omega arith)
      large

  -- so a fold is refused by want of memory, or by the disk
  fold_refused : (db : List ℕ) (d : Database) (s t : DiskState) → (TearsPages size s → ⊥) → Show size db w d → length d * size ≤ most_bytes → (e : WalError) → FoldAnswer size db w (Err e) s t → MayRefuse NoMemory Device e s t
  fold_refused db d s t fits shows few SectorAbovePage x = absurd (fits x.0)
  fold_refused db d s t fits shows few TooLarge x = absurd (not_large db d shows few x.1)
  fold_refused db d s t fits shows few PageSize x = absurd (x.2.1 (named x.2.0))
  fold_refused db d s t fits shows few NoMemory x = inl refl
  fold_refused db d s t fits shows few Device x = inr (refl, x.1)
  fold_refused db d s t fits shows few _ x = absurd x

-- ---- with an empty log the file is just the database

pub none_front : (size : ℕ) → IsFront (named_size []) [] 0
none_front size = front_zero size [] (λ header. let long = header.whole in omega arith)

pub just_alone : (size : ℕ) (d : Database) (t : DiskState) → IsLogDurable t [] → ShowsAlone wal_log size d t → EndsBy (length d * size) t → (db : List ℕ) → IsImage t.sector t.tears t.db db → IsJust size d db
just_alone size d t durable alone ends db image =
    let left = down_left [] t durable in
    let view = (alone.images db [] image left 0 (none_front size)).1 in
    record {
      long = ends db [] image (inr left) (none_front size);
      each = λ p a b. view.over.other p a b (λ i one le. absurd (omega arith));
    }

-- ---- recovery

no_bytes : (w : List ℕ) (n : ℕ) → n ≡ length w → n ≡ 0 → w ≡ []
no_bytes [] n a b = refl
no_bytes (x ∷ xs) n a b = absurd (omega (arith, a, b))

-- The found files stand there, with nothing of the log unsynced.
pub record IsReady (past : Past) (found : Files) (s a : DiskState) : Type 0 where
  pub later : Later (MayFold past.state.page_size) s a
  pub is : IsFound past found.log a
  pub durable : IsLogDurable a found.log
  pub db : ArePresent a.db found.db
  pub left : IsLeft past.state.page_size past.made.logs past.state.history past.state.floor a

-- so after the sync
pub record SyncedFiles (found : Files) (s : DiskState) : Type 0 where
  pub db : ArePresent s.db found.db
  pub log : ArePresent s.log found.log
  pub empty : IsEmptyDurable s

count_is : (n m size : ℕ) (db : List ℕ) → 1 ≤ size → length db ≡ n * size → length db ≡ m * size → n ≡ m
count_is n m size db some a b = file_count size db n some a ∙ sym (file_count size db m some b)

module _ (past : Past) (found : Files) (s : DiskState) (fits : FitsDisk past s) (are : AreFiles s found) (chance : NoChance past.made.logs found.log) where
  pub recover_unsynced : {T : Type 0} (e : DiskError) (called : Result T DiskError) (q : Result ℕ WalError) (t : DiskState) → called ≡ Err e → Syncs Log called s t → q ≡ Err Device → RecoverAnswer past found q s t
  recover_unsynced e called q t was synced is = subst (λ (x : Result ℕ WalError). RecoverAnswer past found x s t) (sym is) (
    later_sync Log called s t (inr tt) fits.suits.sound synced,
    inr (refl, had_refusal called e 0 s t fits.suits.sound.refused was synced.within (omega arith) synced.elsewhere.refused),
    left_narrows s t (narrows_syncs wal_log Log called s t fits.suits.sound synced) past.state.page_size past.made.logs past.state.history past.state.floor fits.left,
  )

  pub ready_synced : {T : Type 0} {u : T} (a : DiskState) → Syncs Log (Ok u) s a → IsReady past found s a
  ready_synced {T = T} {u = u} a synced = record {
    later = later_sync Log (Ok u) s a (inr tt) fits.suits.sound synced;
    is = found_syncs past found.log (Ok u) s a fits.suits.sound synced (is_found past found s fits are chance);
    durable = synced_down found.log s a fits.suits.sound are.log synced;
    db = present_in s.db a.db found.db synced.elsewhere.other are.db;
    left = left_narrows s a (narrows_syncs wal_log Log (Ok u) s a fits.suits.sound synced) past.state.page_size past.made.logs past.state.history past.state.floor fits.left;
  }

  pub ready_still : (a b : DiskState) → IsReady past found s a → Still a b → IsReady past found s b
  ready_still a b ready still = record {
    later = later_then s a b ready.later (later_still a b ready.later.sound still);
    is = record { place = ready.is.place; floor = ready.is.floor; within = ready.is.within; newest = ready.is.newest; shows = λ db image. ready.is.shows db (image_still a b still db image) };
    durable = down_by found.log a b ready.durable still.log still.tears still.kept still.handed;
    db = present_in a.db b.db found.db still.db ready.db;
    left = left_narrows a b (narrows_still wal_log a b still) past.state.page_size past.made.logs past.state.history past.state.floor ready.left;
  }

  -- when all is ready
  module _ (a : DiskState) (ready : IsReady past found s a) where
    first : Later (MayFold past.state.page_size) s a
    first = ready.later

    is : IsFound past found.log a
    is = ready.is

    durable : IsLogDurable a found.log
    durable = ready.durable

    db_present : ArePresent a.db found.db
    db_present = ready.db

    pub synced_files : SyncedFiles found a
    synced_files = record {
      db = db_present;
      log = down_present found.log a durable;
      empty = λ zero. subst (λ (w : List ℕ). IsLogDurable a w) (no_bytes found.log a.log.len durable.settled.len zero) durable;
    }

    held : IsHeld past.state.page_size (at past.state.history is.place)
    held = fits.held is.place is.within

    db_image : IsImage a.sector a.tears a.db found.db
    db_image = present_image a.sector a.tears a.db found.db first.sound.db db_present

    whole : TearsPages past.state.page_size a → ⊥
    whole = (suits_by past.state.page_size s a fits.suits first.sound first.sector first.tears).whole

    pub whole_at : (size : ℕ) → past.state.page_size ≡ size → TearsPages size a → ⊥
    whole_at size same = subst (λ (n : ℕ). TearsPages n a → ⊥) same whole

    -- a look at the files
    pub recover_unjudged : {T : Type 0} (size : ℕ) (same : past.state.page_size ≡ size) (b : DiskState) → Still a b → (e : WalError) (r : Result T WalError) (q : Result ℕ WalError) → r ≡ Err e → FileJudged size found.db found.log r a b → q ≡ Err e → RecoverAnswer past found q s b
    recover_unjudged {T = T} size same b still e r q was judged given = subst (λ (x : Result ℕ WalError). RecoverAnswer past found x s b) (sym given) (
      later_then s a b first (later_still a b first.sound still),
      may_after NoMemory Device e s a b first.refused (⊎_elim
          (λ answer. fold_refused past.state.page_size past.made.logs found.log fits.made chance found.db (at past.state.history is.place) a b whole (is.shows found.db db_image).shows held.few e answer)
          (λ fault. absurd (no_fault e ((is.shows found.db db_image).whole fault.2) fault.3))
          (judged_at (Err e) (subst (λ (x : Result T WalError). FileJudged size found.db found.log x a b) was judged))),
      left_narrows a b (narrows_still wal_log a b still) past.state.page_size past.made.logs past.state.history past.state.floor ready.left,
    )
      where
        judged_at : (x : Result T WalError) → FileJudged size found.db found.log x a b → FileJudged past.state.page_size found.db found.log x a b
        judged_at x = subst (λ (n : ℕ). FileJudged n found.db found.log x a b) (sym same)

        no_fault : (x : WalError) → length found.db ≡ length (at past.state.history is.place) * past.state.page_size → FileFault past.state.page_size (length found.db) x → ⊥
        no_fault PageSize long none = none.1 (length (at past.state.history is.place)) held.some (sym long)
        no_fault TooLarge long over = omega (arith, over, long, held.few)
        no_fault _ long x = x

    -- then a fold
    module _ (size : ℕ) (same : past.state.page_size ≡ size) (b : DiskState) (called : Later (MayFold size) a b) (agreed : Agrees wal_log size a b) (lasted : KeepsLength size a b) where
      then : Later (MayFold past.state.page_size) a b
      then = subst (λ (n : ℕ). Later (MayFold n) a b) (sym same) called

      agrees : Agrees wal_log past.state.page_size a b
      agrees = subst (λ (n : ℕ). Agrees wal_log n a b) (sym same) agreed

      lengths : KeepsLength past.state.page_size a b
      lengths = subst (λ (n : ℕ). KeepsLength n a b) (sym same) lasted

      answer_at : (r : Result Folded WalError) → FoldAnswer size found.db found.log r a b → FoldAnswer past.state.page_size found.db found.log r a b
      answer_at r answer = subst (λ (n : ℕ). FoldAnswer n found.db found.log r a b) (sym same) answer

      alone : ShowsAlone wal_log past.state.page_size (at past.state.history is.place) b
      alone = agrees found.log (at past.state.history is.place) durable (found_alone past found.log a first.sound durable is)

      ends : EndsBy (length (at past.state.history is.place) * past.state.page_size) b
      ends = lengths found.log (length (at past.state.history is.place) * past.state.page_size) durable (found_length past found.log a first.sound found.db db_present is)

      left : IsLeft past.state.page_size past.made.logs past.state.history past.state.floor b
      left = inr (alone_one past.state.page_size past.state.history past.state.floor is.place b is.floor is.within alone ends)

      pub recover_unfolded : (e : WalError) (r : Result Folded WalError) (q : Result ℕ WalError) → r ≡ Err e → FoldAnswer size found.db found.log r a b → q ≡ Err e → RecoverAnswer past found q s b
      recover_unfolded e r q was answer given = subst (λ (x : Result ℕ WalError). RecoverAnswer past found x s b) (sym given) (
        later_then s a b first then,
        may_after NoMemory Device e s a b first.refused (fold_refused past.state.page_size past.made.logs found.log fits.made chance found.db (at past.state.history is.place) a b whole (is.shows found.db db_image).shows held.few e
            (answer_at (Err e) (subst (λ (x : Result Folded WalError). FoldAnswer size found.db found.log x a b) was answer))),
        left,
      )

      -- then a look at the file's length
      module _ (f : Folded) (r : Result Folded WalError) (was : r ≡ Ok f) (answer : FoldAnswer size found.db found.log r a b) (c : DiskState) (still : Still b c) where
        empty : IsLogDurable b []
        empty = (subst (λ (x : Result Folded WalError). FoldAnswer size found.db found.log x a b) was answer).3.log

        just : (db : List ℕ) → IsImage b.sector b.tears b.db db → IsJust past.state.page_size (at past.state.history is.place) db
        just = just_alone past.state.page_size (at past.state.history is.place) b empty alone ends

        last : Later (MayFold past.state.page_size) b c
        last = later_still b c then.sound still

        all : Later (MayFold past.state.page_size) s c
        all = later_then s a c first (later_then a b c then last)

        db_long : b.db.len ≡ length (at past.state.history is.place) * past.state.page_size
        db_long = let now = present_list b.db in sym now.len ∙ (just _ (present_image b.sector b.tears b.db _ then.sound.db now)).long

        counted : (q : Result ℕ WalError) → CountAnswer past.state.page_size b.db.len q b c → RecoverAnswer past found q s c
        counted (Ok n) x =
            let now = present_list b.db in (
              all,
              record {
                place = is.place;
                floor = is.floor;
                within = is.within;
                newest = is.newest;
                shown = (is.shows found.db db_image).shows;
                durable = down_by [] b c empty still.log still.tears still.kept still.handed;
                file = λ db image. just db (image_still b c still db image);
                count = count_is n (length (at past.state.history is.place)) past.state.page_size _ (omega (arith, size_some past.state.page_size fits.suits.pages)) (now.len ∙ sym x.1) (now.len ∙ db_long);
              },
            )
        counted (Err PageSize) x = absurd (x.1 (length (at past.state.history is.place)) held.some (sym db_long))
        counted (Err TooLarge) x = absurd (omega (arith, x, db_long, held.few))
        counted (Err Device) x = (all, inr (refl, refusal_after s b c (omega (arith, first.refused, then.refused)) x), left_narrows b c (narrows_still wal_log b c still) past.state.page_size past.made.logs past.state.history past.state.floor left)
        counted (Err _) x = absurd x

        pub recover_counted : (q : Result ℕ WalError) → CountAnswer size b.db.len q b c → RecoverAnswer past found q s c
        recover_counted q x = counted q (subst (λ (n : ℕ). CountAnswer n b.db.len q b c) (sym same) x)
