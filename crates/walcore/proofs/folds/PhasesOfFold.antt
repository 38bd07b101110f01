-- The parts of a fold keep what shows one database.
use Rattle.walcore.proofs.Below.{Agrees, ArePages, ArePresent, Copied, Database, Db, Device, DiskError, DiskState, Filed, Filling, IsFile, IsFront, IsImage, IsLast, IsLogDurable, IsOfOtherSize, IsOfSize, IsValidFrame, IsView, KeepsLog, List, Log, Ok, Result, Scanning, Show, ShowsAlone, Still, Suits, SyncStep, Syncs, Unnamed, WalError, Writing, ap, arith, byte, cases_eq, content_long, down_syncs, front_unique, get_or, get_or-file_page, image_present, inl, inr, length, length-file_page, named_or_not, named_size, page, present_list, refl, restored_down, restored_shows, restored_step, restored_syncs, restoring_keeps, restoring_shows, restoring_syncs, size_of, subst, suits_still, suits_syncs, sym, table, unwritten_begins, unwritten_shows, unwritten_still, unwritten_syncs, view_file, wal_log, ℕ, ⊎_elim, ◌∙◌, ◌≡◌, ◌≤◌}

-- ---- Nothing was written yet.

module _ (size : ℕ) (d : Database) (w : List ℕ) where
  scanning_begins : (s : DiskState) → Suits size s → IsLogDurable s w → ShowsAlone wal_log size d s → Scanning size d w s
  scanning_begins s suits durable alone = record { suits = suits; log = unwritten_begins wal_log size d w s durable alone }

  pub scanning_shows : (s : DiskState) → Scanning size d w s → ShowsAlone wal_log size d s
  scanning_shows s is = unwritten_shows wal_log size d w s is.log

  pub scanning_still : (old new : DiskState) → Scanning size d w old → Still old new → Scanning size d w new
  scanning_still old new is still = record { suits = suits_still size old new is.suits still; log = unwritten_still wal_log size d w old new is.log still }

  pub scanning_syncs : {T : Type 0} (result : Result T DiskError) (old new : DiskState) → Scanning size d w old → Syncs Log result old new → Scanning size d w new
  scanning_syncs result old new is synced = record { suits = suits_syncs size Log result old new is.suits synced; log = unwritten_syncs wal_log size d w result old new is.log synced }

pub agrees_by : (size : ℕ) (old new : DiskState) → Suits size old → ((w : List ℕ) (d : Database) → Scanning size d w old → ShowsAlone wal_log size d new) → Agrees wal_log size old new
agrees_by size old new suits shows w d durable alone = shows w d (scanning_begins size d w old suits durable alone)

-- ---- Pages are written.

module _ (size : ℕ) (w : List ℕ) (m : ℕ) (d : Database) where
  -- each page of a view is a whole one
  pub view_long : (db : List ℕ) → IsValidFrame size w m → IsView size db w m d → (p : ℕ) → 1 ≤ p → p ≤ length d → length (page d p) ≡ size
  view_long db valid view p one le = ⊎_elim
      (λ un. ap length (view.over.other p one le un) ∙ length-file_page size db p)
      (λ last. ap length (view.over.logged p last.0 one le last.1) ∙ content_long size m last.0 w valid last.1.first last.1.within)
      (named_or_not size w m p)

  -- so it begins
  pub writing_begins : (s : DiskState) → Scanning size d w s → 1 ≤ m → IsFront (named_size w) w m → Writing size w m d s
  writing_begins s is some front =
      let now : List ℕ = table s.db.len (byte s.db) in
      let image : IsImage s.sector s.tears s.db now = image_present s.sector s.tears s.db is.suits.sound.db in
      let named : named_size w ≡ size = (is.log.shows now image m front).0 some in
      let view : IsView size now w m d = (is.log.shows now image m front).1 in
      let here : IsFront size w m = subst (λ (z : ℕ). IsFront z w m) named front in
      let valid : IsValidFrame size w m = ⊎_elim (λ z. absurd (omega (arith, some))) (λ v. v.0) here.is in
      record {
        front = here;
        named = named;
        count = view.some some;
        pages = record {
          file = record {
            suits = is.suits;
            full = view_long now valid view;
            steady = λ p i a b un lt x image_x. sym (get_or-file_page size x p i lt) ∙ ap (λ c. get_or c i 0) (sym (((is.log.shows x image_x m front).1).over.other p a b un));
          };
          durable = is.log.durable;
          shows = λ db other k front_k.
              let at : k ≡ m = front_unique size w k m (subst (λ (z : ℕ). IsFront z w k) named front_k) here in (
                λ some_k. named,
                record {
                  none = λ z. absurd (omega (arith, some));
                  some = λ some_k. view.some some ∙ ap (size_of size w) (sym at);
                  over = record {
                    logged = λ p i a b last. view.over.logged p i a b (subst (λ (j : ℕ). IsLast size w j p i) at last);
                    other = λ p a b un. other p a b (subst (λ (j : ℕ). Unnamed size w j p) at un);
                  };
                },
              );
        };
      }

  pub writing_shows : (s : DiskState) → Writing size w m d s → ShowsAlone wal_log size d s
  writing_shows s is = restoring_shows wal_log size d (Unnamed size w m) w s is.pages

  -- the file is written, and the log is left alone
  pub writing_keeps : (old new : DiskState) → Writing size w m d old → KeepsLog old new → Filling size d (Unnamed size w m) new → Writing size w m d new
  writing_keeps old new is keeps file = record { front = is.front; named = is.named; count = is.count; pages = restoring_keeps wal_log size d (Unnamed size w m) w old new is.pages keeps file }

  pub writing_step : {T : Type 0} (result : Result T WalError) (old new : DiskState) → Writing size w m d old → SyncStep Device Db result old new → ShowsAlone wal_log size d new
  writing_step result old new is step = restoring_shows wal_log size d (Unnamed size w m) w new (restoring_syncs wal_log size d (Unnamed size w m) w Db step.0 old new is.pages step.2)

  -- all pages are there, and then durable
  filed_step : {T : Type 0} (u : T) (old new : DiskState) → Writing size w m d old → ArePages size d old.db → SyncStep {T = T} Device Db (Ok u) old new → Filed size d w new
  filed_step u old new is pages step = record {
    suits = suits_syncs size Db step.0 old new is.pages.file.suits step.2;
    durable = down_syncs w Db step.0 old new is.pages.durable step.2;
    of_size = λ header. is.named;
    all = restored_step wal_log size d (Unnamed size w m) w Device u old new is.pages pages step;
  }

-- ---- The file has all pages.

-- a file of the pages shows them with a log that has no valid frame
show_none : (size : ℕ) (d : Database) (db v : List ℕ) (k : ℕ) → IsFile size db d → k ≡ 0 → (1 ≤ k → named_size v ≡ size) × IsView size db v k d
show_none size d db v k file z = (λ some. absurd (omega arith), subst (λ (j : ℕ). IsView size db v j d) (sym z) (view_file size db v d file))

-- and with one that shows them where it has such a frame
pub show_left : (size : ℕ) (d : Database) (db v : List ℕ) → IsFile size db d → (IsValidFrame (named_size v) v 1 → Show size db v d) → Show size db v d
show_left size d db v file other k front = ⊎_elim
    (λ z. show_none size d db v k file z)
    (λ valid. other (record { first = omega arith; each = λ j a b. valid.0.each j a (omega (arith, valid.0.first)) }) k front)
    front.is

of_same_size : (size : ℕ) (w : List ℕ) → (IsOfOtherSize size w → ⊥) → IsOfSize size w
of_same_size size w same header = ⊎_elim (λ e. e) (λ ne. absurd (same (header, ne))) (cases_eq (named_size w) size)

module _ (size : ℕ) (d : Database) (w : List ℕ) where
  -- with front 0 it has them from the start
  filed_none : (s : DiskState) → Scanning size d w s → IsFront (named_size w) w 0 → IsOfSize size w → Filed size d w s
  filed_none s is front of_size = record {
    suits = is.suits;
    durable = is.log.durable;
    of_size = of_size;
    all = restored_down wal_log size d w s is.suits.sound is.log.durable
        (λ db image.
        let view = (is.log.shows db image 0 front).1 in
        record { count = view.none refl; each = λ p a b. view.over.other p a b (λ i x y. absurd (omega arith)) })
        (λ db file k front_k. show_none size d db w k file (front_unique (named_size w) w k 0 front_k front));
  }

  filed_again : {T : Type 0} (result : Result T WalError) (old new : DiskState) → Filed size d w old → SyncStep Device Db result old new → Filed size d w new
  filed_again result old new is step = record {
    suits = suits_syncs size Db step.0 old new is.suits step.2;
    durable = down_syncs w Db step.0 old new is.durable step.2;
    of_size = is.of_size;
    all = restored_syncs wal_log size d Db step.0 old new is.all step.2;
  }

-- ---- The pages are copied, and the file synced.

module _ (size : ℕ) (w : List ℕ) (m : ℕ) (d : Database) where
  pub copied_some : (old mid new : DiskState) → Scanning size d w old → Still old mid → 1 ≤ m → IsFront (named_size w) w m → (Writing size w m d mid → Writing size w m d new)
      → ((db : List ℕ) → ArePresent mid.db db → IsView size db w m d → ArePages size d new.db) → Copied size w m d new
  copied_some old mid new is still some front writes copies =
      let begun : Scanning size d w mid = scanning_still size d w old mid is still in
      let now : List ℕ = table mid.db.len (byte mid.db) in
      inl (writes (writing_begins size w m d mid begun some front), copies now (present_list mid.db) (begun.log.shows now (image_present mid.sector mid.tears mid.db begun.suits.sound.db) m front).1)

  pub copied_none : (old mid : DiskState) → Scanning size d w old → Still old mid → m ≡ 0 → IsFront (named_size w) w m → (IsOfOtherSize size w → ⊥) → Copied size w m d mid
  copied_none old mid is still none front same =
      inr (filed_none size d w mid (scanning_still size d w old mid is still) (subst (λ (k : ℕ). IsFront (named_size w) w k) none front) (of_same_size size w same))

  -- the file is synced, or not
  pub copied_shows : {T : Type 0} (result : Result T WalError) (old new : DiskState) → Copied size w m d old → SyncStep Device Db result old new → ShowsAlone wal_log size d new
  copied_shows result old new (inl is) step = writing_step size w m d result old new is.0 step
  copied_shows result old new (inr is) step = restored_shows wal_log size d new (filed_again size d w result old new is step).all

  pub copied_down : {T : Type 0} (u : T) (old new : DiskState) → Copied size w m d old → SyncStep {T = T} Device Db (Ok u) old new → Filed size d w new
  copied_down u old new (inl is) step = filed_step size w m d u old new is.0 is.1 step
  copied_down u old new (inr is) step = filed_again size d w (Ok u) old new is step
