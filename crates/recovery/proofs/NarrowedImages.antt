-- A call that adds no log to those that may be read, and no file to those that may be left.
use Rattle.std.proofs.Common.{◌≡◌, ◌⊎◌, inl, inr, ⊎_elim, ℕ, Bool, true, false, List, sym, ◌∙◌, subst, [], Result, Ok, Err}
use Rattle.recovery.proofs.Below.{Database, FileState, IsImage, DiskState, IsSoundDisk, Syncs, Looks, SinceSync, IsCrash, Still, SameFiles, File, Db, Log, DiskError, present_image, since_db, file_syncs, log_syncs, settled_one, settled_synced, sound_syncs, image_sync, image_looks, same_files, same_sound, image_same, present_in, LogKind, MayBeLeft, MayBeRead, ShowsAlone}
use Rattle.recovery.proofs.ShownDatabase.{read_cases, shows_by}

-- no log may be read, and no file is left, that might not have been before
pub record Narrows (kind : LogKind) (s t : DiskState) : Type 0 where
  pub sector : t.sector ≡ s.sector
  pub tears : t.tears ≡ s.tears
  pub log : (w : List ℕ) → MayBeRead kind t w → MayBeRead kind s w
  pub file : (db : List ℕ) → IsImage t.sector t.tears t.db db → IsImage s.sector s.tears s.db db

module _ (kind : LogKind) where
  -- where the logs that may be read come from the same cases
  pub read_from : (s t : DiskState) → t.tears ≡ s.tears → ((w : List ℕ) → IsImage t.sector false t.log w → IsImage s.sector false s.log w)
      → (s.tears ≡ true → (w : List ℕ) → IsImage t.sector true t.log w → kind.AreWhole t.kept t.handed w → IsImage s.sector false s.log w ⊎ (IsImage s.sector true s.log w × kind.AreWhole s.kept s.handed w))
      → (w : List ℕ) → MayBeRead kind t w → MayBeRead kind s w
  read_from s t tears listed torn w may = ⊎_elim
      (λ image. inl (listed w image))
      (λ left.
      let was : s.tears ≡ true = sym tears ∙ left.0 in
      ⊎_elim
      (λ image. inl image)
      (λ is. inr (record { image = subst (λ (b : Bool). IsImage s.sector b s.log w) (sym was) is.0; whole = λ e. is.1 }))
      (torn was w left.1 left.2))
      (read_cases kind t w may)

  -- calls that left the log alone
  pub same_left : (s t : DiskState) → t.sector ≡ s.sector → t.tears ≡ s.tears → t.log ≡ s.log → t.kept ≡ s.kept → t.handed ≡ s.handed → (w : List ℕ) → MayBeRead kind t w → MayBeRead kind s w
  same_left s t sector tears log kept handed = read_from s t tears (λ w image. back false w image)
      (λ torn w image whole. inr (back true w image, subst (λ (x : List ℕ). kind.AreWhole x s.handed w) kept (subst (λ (x : List (ℕ × List ℕ)). kind.AreWhole t.kept x w) handed whole)))
    where
      back : (b : Bool) (w : List ℕ) → IsImage t.sector b t.log w → IsImage s.sector b s.log w
      back b w image = subst (λ (n : ℕ). IsImage n b s.log w) sector (subst (λ (x : FileState). IsImage t.sector b x w) log image)

  -- calls that changed no byte
  pub narrows_same : (a b : DiskState) → SameFiles a b → Narrows kind a b
  narrows_same a b is = record { sector = is.sector; tears = is.tears; log = same_left a b is.sector is.tears is.log is.kept is.handed; file = image_same a b is }

  pub narrows_still : (a b : DiskState) → Still a b → Narrows kind a b
  narrows_still a b is = narrows_same a b (same_files a b is)

  module _ {T : Type 0} where
    torn_log : (result : Result T DiskError) (s t : DiskState) → IsSoundDisk s → s.tears ≡ true → Syncs Log result s t → SinceSync true Log result s t
        → (w : List ℕ) → IsImage t.sector true t.log w → kind.AreWhole t.kept t.handed w → IsImage s.sector false s.log w ⊎ (IsImage s.sector true s.log w × kind.AreWhole s.kept s.handed w)
    torn_log (Ok u) s t sound torn synced since w image whole =
        let settled = settled_synced s.sector s.log t.log t.kept sound.log synced.file since.0 in
        let e : w ≡ t.kept = settled_one t.log t.kept settled t.sector true w image in
        inl (subst (λ (x : List ℕ). IsImage s.sector false s.log x) (sym e) (present_image s.sector false s.log t.kept sound.log since.0))
    torn_log (Err e) s t sound torn synced since w image whole = inr (
      subst (λ (b : Bool). IsImage s.sector b s.log w) torn (image_sync Log (Err e) s t sound.log synced w (subst (λ (b : Bool). IsImage t.sector b t.log w) (sym (synced.elsewhere.tears ∙ torn)) image)),
      subst (λ (kept : List ℕ). kind.AreWhole kept s.handed w) since.0 (subst (λ (handed : List (ℕ × List ℕ)). kind.AreWhole t.kept handed w) since.1 whole),
    )

    -- A sync, whatever was answered.
    pub narrows_syncs : (f : File) (result : Result T DiskError) (s t : DiskState) → IsSoundDisk s → Syncs f result s t → Narrows kind s t
    narrows_syncs Log result s t sound synced = record {
      sector = synced.elsewhere.sector;
      tears = synced.elsewhere.tears;
      log = read_from s t synced.elsewhere.tears
          (λ w image. log_syncs s.sector false result s.log t.log sound.log synced.file w (subst (λ (n : ℕ). IsImage n false t.log w) synced.elsewhere.sector image))
          (λ torn. torn_log result s t sound torn synced (subst (λ (b : Bool). SinceSync b Log result s t) torn synced.since));
      file = file_syncs Log result s t sound synced;
    }
    narrows_syncs Db result s t sound synced =
        let since = since_db [] s.tears result s t synced.since in
        record {
          sector = synced.elsewhere.sector;
          tears = synced.elsewhere.tears;
          log = same_left s t synced.elsewhere.sector synced.elsewhere.tears synced.elsewhere.other since.0 since.1;
          file = file_syncs Db result s t sound synced;
        }

    -- A look.
    pub narrows_looks : (end : ℕ) (result : Result T DiskError) (s t : DiskState) → Looks end result s t → Narrows kind s t
    narrows_looks end result s t looked = record {
      sector = looked.sector;
      tears = looked.tears;
      log = same_left s t looked.sector looked.tears looked.log looked.kept looked.handed;
      file = image_looks Db end result s t looked;
    }

  -- What a crash leaves, where a disk that tears put together by chance nothing that must stand whole.
  pub narrows_crash : (db log : List ℕ) (s t : DiskState) → IsCrash db log s t → (s.tears ≡ true → kind.AreWhole s.kept s.handed log) → Narrows kind s t
  narrows_crash db log s t crashed whole = record {
    sector = crashed.sector;
    tears = crashed.tears;
    log = λ w may.
        let is : w ≡ log = ⊎_elim (λ image. settled_one t.log log crashed.log_left t.sector false w image) (λ left. settled_one t.log log crashed.log_left t.sector true w left.1) (read_cases kind t w may) in
        inr (subst (λ (x : List ℕ). MayBeLeft kind s x) (sym is) (record { image = crashed.log_image; whole = whole }));
    file = λ x image. subst (λ (y : List ℕ). IsImage s.sector s.tears s.db y) (sym (settled_one t.db db crashed.db_left t.sector t.tears x image)) crashed.db_image;
  }

-- ---- What is shown alone stays shown.

module _ (kind : LogKind) (size : ℕ) (d : Database) where
  -- where whatever may be read shows it
  pub alone_read : (t : DiskState) → IsSoundDisk t → ((db w : List ℕ) → IsImage t.sector t.tears t.db db → MayBeRead kind t w → kind.Show size db w d) → ShowsAlone kind size d t
  alone_read t sound shows = shows_by kind size d t sound (λ w. MayBeRead kind t w) (λ w left. inr left) (λ w listed. inl listed) shows

  pub read_alone : (s : DiskState) → ShowsAlone kind size d s → (db w : List ℕ) → IsImage s.sector s.tears s.db db → MayBeRead kind s w → kind.Show size db w d
  read_alone s alone db w image may = ⊎_elim (λ listed. alone.listed db w image listed) (λ left. alone.images db w image left) may

  pub alone_narrows : (s t : DiskState) → IsSoundDisk t → Narrows kind s t → ShowsAlone kind size d s → ShowsAlone kind size d t
  alone_narrows s t sound narrows alone = alone_read t sound (λ db w image may. read_alone s alone db w (narrows.file db image) (narrows.log w may))

  pub alone_same : (s t : DiskState) → IsSoundDisk s → SameFiles s t → ShowsAlone kind size d s → ShowsAlone kind size d t
  alone_same s t sound same alone = alone_narrows s t (same_sound s t sound same) (narrows_same kind s t same) alone

  pub alone_still : (s t : DiskState) → IsSoundDisk s → Still s t → ShowsAlone kind size d s → ShowsAlone kind size d t
  alone_still s t sound still alone = alone_same s t sound (same_files s t still) alone

  module _ {T : Type 0} where
    pub alone_looks : (end : ℕ) (r : Result T DiskError) (s t : DiskState) → Looks end r s t → ShowsAlone kind size d s → ShowsAlone kind size d t
    alone_looks end r s t looked alone =
        let narrows = narrows_looks kind end r s t looked in
        record {
          images = λ db w image left. read_alone s alone db w (narrows.file db image) (narrows.log w (inr left));
          listed = λ db w image values. read_alone s alone db w (narrows.file db image) (narrows.log w (inl values));
          present = λ db w are_db are_log. alone.present db w (present_in t.db s.db db (sym looked.db) are_db) (present_in t.log s.log w (sym looked.log) are_log);
        }

    pub alone_syncs : (f : File) (r : Result T DiskError) (s t : DiskState) → IsSoundDisk s → Syncs f r s t → ShowsAlone kind size d s → ShowsAlone kind size d t
    alone_syncs f r s t sound synced alone = alone_narrows s t (sound_syncs f r s t sound synced) (narrows_syncs kind f r s t sound synced) alone
