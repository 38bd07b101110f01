-- What an opening finds, and how its fold keeps it.
use Rattle.walcore.proofs.Below.{AreFiles, ArePresent, Bool, Database, DiskError, DiskState, EndsBy, Files, FitsDisk, IsImage, IsLeft, IsLengthOf, IsLogDurable, IsSoundDisk, IsTrue, List, Log, MayBeRead, NoChance, Past, Result, Show, ShowsAlone, ShowsOne, ShowsWhole, Syncs, [], ap, arith, at, down_one, false, file_syncs, get_or, inl, inr, last, length, newest, present_image, refl, shows_by, size_of, subst, sym, true, wal_log, ℕ, ⊎_elim, ◌*◌, ◌<◌, ◌∙◌, ◌≡◌, ◌≤◌}
use Rattle.walcore.proofs.machine.ImpossibleRuns.{show_unique}

-- the files that an opening finds show one database with each file that may be left
pub record IsFound (past : Past) (w : List ℕ) (s : DiskState) : Type 0 where
  pub place : ℕ
  pub floor : past.state.floor ≤ place
  pub within : place < length past.state.history
  pub newest : IsTrue past.state.is_open → place ≡ last past.state.history
  pub shows : (db : List ℕ) → IsImage s.sector s.tears s.db db → ShowsWhole wal_log past.state.page_size db w (at past.state.history place)

-- the place of one that is shown
module _ (past : Past) (found : Files) (s : DiskState) (fits : FitsDisk past s) (are : AreFiles s found) (chance : NoChance past.made.logs found.log) where
  found_read : MayBeRead wal_log s found.log
  found_read = inl (present_image s.sector false s.log found.log fits.suits.sound.log are.log)

  found_left : IsLeft past.state.page_size past.made.logs past.state.history past.state.floor s
      → (k : ℕ) × (past.state.floor ≤ k) × (k < length past.state.history) × ((db : List ℕ) → IsImage s.sector s.tears s.db db → ShowsWhole wal_log past.state.page_size db found.log (at past.state.history k))
  found_left (inl is) = is.0 found.log found_read chance
  found_left (inr is) = (is.0, is.1, is.2, λ db image. is.3 db found.log image found_read)

  found_db : IsImage s.sector s.tears s.db found.db
  found_db = present_image s.sector s.tears s.db found.db fits.suits.sound.db are.db

  by_open : (b : Bool) → b ≡ past.state.is_open → (k : ℕ) → past.state.floor ≤ k → k < length past.state.history
      → ((db : List ℕ) → IsImage s.sector s.tears s.db db → ShowsWhole wal_log past.state.page_size db found.log (at past.state.history k)) → IsFound past found.log s
  by_open false e k low lt shows = record { place = k; floor = low; within = lt; newest = λ opens. absurd (cc (opens, e)); shows = shows }
  by_open true e k low lt shows =
      let now = fits.present (subst (λ (x : Bool). IsTrue x) e refl) found are chance in
      let same : at past.state.history k ≡ newest past.state.history = show_unique past.state.page_size found.db found.log (at past.state.history k) (newest past.state.history) (shows found.db found_db).shows now.shows in
      record {
        place = last past.state.history;
        floor = let f = fits.floor in omega arith;
        within = let f = fits.floor in omega arith;
        newest = λ opens. refl;
        shows = λ db image. subst (λ (d : Database). ShowsWhole wal_log past.state.page_size db found.log d) same (shows db image);
      }

  pub is_found : IsFound past found.log s
  is_found = let k = found_left fits.left in by_open past.state.is_open refl k.0 k.1 k.2 k.3

module _ (past : Past) (w : List ℕ) where
  pub found_syncs : {T : Type 0} (result : Result T DiskError) (s t : DiskState) → IsSoundDisk s → Syncs Log result s t → IsFound past w s → IsFound past w t
  found_syncs result s t sound synced is = record {
    place = is.place;
    floor = is.floor;
    within = is.within;
    newest = is.newest;
    shows = λ db image. is.shows db (file_syncs Log result s t sound synced db image);
  }

  -- so all that is left shows it
  pub found_alone : (s : DiskState) → IsSoundDisk s → IsLogDurable s w → (is : IsFound past w s) → ShowsAlone wal_log past.state.page_size (at past.state.history is.place) s
  found_alone s sound durable is = shows_by wal_log past.state.page_size (at past.state.history is.place) s sound (λ v. v ≡ w)
      (λ v left. down_one w s durable s.sector s.tears v left.image)
      (λ v image. down_one w s durable s.sector false v image)
      (λ db v image e. subst (λ (x : List ℕ). Show past.state.page_size db x (at past.state.history is.place)) (sym e) (is.shows db image).shows)

  -- in files of whole pages
  pub found_length : (s : DiskState) → IsSoundDisk s → (db : List ℕ) → ArePresent s.db db → (is : IsFound past w s) → IsLengthOf past.state.page_size w (length (at past.state.history is.place) * past.state.page_size) s
  found_length s sound db are is = record {
    none = λ front x image. (is.shows x image).whole front;
    some = λ m one front.
        let view = (is.shows db (present_image s.sector s.tears s.db db sound.db are)).shows m front in
        ap (λ n. n * past.state.page_size) (view.1.some one ∙ ap (λ k. size_of k w m) (sym (view.0 one)));
  }

-- what shows one database alone, and in files of its length, shows it whole
pub alone_one : (size : ℕ) (h : List Database) (floor k : ℕ) (s : DiskState) → floor ≤ k → k < length h → ShowsAlone wal_log size (get_or h k []) s → EndsBy (length (get_or h k []) * size) s → ShowsOne size h floor s
alone_one size h floor k s low lt alone ends = (
  k,
  low,
  lt,
  λ db w image may. record {
    shows = ⊎_elim (λ listed. alone.listed db w image listed) (λ left. alone.images db w image left) may;
    whole = λ front. ends db w image may front;
  },
)
