-- What it takes that all shows one database, and that it stays shown.
use Rattle.std.proofs.Common.{◌≡◌, ◌⊎◌, inl, inr, ℕ, Bool, true, false, List, refl, sym, subst}
use Rattle.recovery.proofs.Below.{Database, IsImage, DiskState, IsSoundDisk, IsCrash, present_image, sound_crash, settled_one, LogKind, MayBeLeft, MayBeRead, ShowsAlone}

module _ (kind : LogKind) where
  -- Where each log that may be left, or has listed values alone, has a property that makes it show the database, all shows it.
  pub shows_by : (size : ℕ) (d : Database) (s : DiskState) → IsSoundDisk s → (P : List ℕ → Type 0) → ((v : List ℕ) → MayBeLeft kind s v → P v) → ((v : List ℕ) → IsImage s.sector false s.log v → P v)
      → ((db v : List ℕ) → IsImage s.sector s.tears s.db db → P v → kind.Show size db v d) → ShowsAlone kind size d s
  shows_by size d s sound P left listed show = record {
    images = λ db w image may. show db w image (left w may);
    listed = λ db w image values. show db w image (listed w values);
    present = λ db w are_db are_log. show db w (present_image s.sector s.tears s.db db sound.db are_db) (listed w (present_image s.sector false s.log w sound.log are_log));
  }

  -- what a crash leaves shows what was shown
  pub crash_shows : (size : ℕ) (d : Database) (db log : List ℕ) (old new : DiskState) → IsSoundDisk old → ShowsAlone kind size d old → IsCrash db log old new → (old.tears ≡ true → kind.AreWhole old.kept old.handed log) → ShowsAlone kind size d new
  crash_shows size d db log old new sound shows crashed whole =
      let left : kind.Show size db log d = shows.images db log crashed.db_image (record { image = crashed.log_image; whole = whole }) in
      shows_by size d new (sound_crash db log old new sound crashed) (λ v. v ≡ log)
      (λ v may. settled_one new.log log crashed.log_left new.sector new.tears v may.image)
      (λ v image. settled_one new.log log crashed.log_left new.sector false v image)
      (λ c v image e. subst (λ (x : List ℕ). kind.Show size c x d) (sym e) (subst (λ (x : List ℕ). kind.Show size x log d) (sym (settled_one new.db db crashed.db_left new.sector new.tears c image)) left))

  -- a log that may be read is of listed values, or a disk that tears left it
  pub read_cases : (s : DiskState) (w : List ℕ) → MayBeRead kind s w → IsImage s.sector false s.log w ⊎ ((s.tears ≡ true) × IsImage s.sector true s.log w × kind.AreWhole s.kept s.handed w)
  read_cases s w (inl listed) = inl listed
  read_cases s w (inr left) = by s.tears refl left.image
    where
      by : (tears : Bool) → tears ≡ s.tears → IsImage s.sector tears s.log w → IsImage s.sector false s.log w ⊎ ((s.tears ≡ true) × IsImage s.sector true s.log w × kind.AreWhole s.kept s.handed w)
      by true e image = inr (sym e, image, left.whole (sym e))
      by false e image = inl image
