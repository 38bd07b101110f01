-- How long the file is that may be left, while a journal is replayed into it.
use Rattle.rollcore.proofs.Below.{ArePages, AreWhole, Bool, Database, Db, Device, DiskError, DiskState, EndSteps, EndsBy, InFile, IsFit, IsHot, IsImage, IsLogDurable, IsLong, IsRolledBack, IsSectorSize, IsSound, IsSoundDisk, Later, List, Log, MayBeRead, Ok, Overwritten, Result, RollError, SameBehind, SyncStep, Syncs, Writes, ZeroSteps, [], ap, arith, cond, down_read, down_syncs, ends_narrow, false, get_or, image_elsewhere, journal_log, length, length-replicate, long_done, may_down, narrows_syncs, refl, replicate, sector_some, sectors_go, sound_writes, subst, sym, sync_later, torn_sector, true, word, word_same, written_read, zero_at, ℕ, ⊎_elim, ◌*◌, ◌∙◌, ◌∷◌, ◌≡◌, ◌≤◌}
use Rattle.rollcore.proofs.replays.ZeroedHeader.{zeroed_listed, zeroed_torn}

-- where a hot journal names no smaller sectors than those that tear
abbrev pub IsNamed : List ℕ → DiskState → Type 0
IsNamed w s = s.tears ≡ true → s.sector ≤ word w 20

-- ---- the log alone is left

module _ (w : List ℕ) (s : DiskState) (durable : IsLogDurable s w) where
  pub ends_down : (n : ℕ) → ((IsHot w → ⊥) → IsLong n s) → (IsHot w → IsNamed w s) → EndsBy n s
  ends_down n long names = record {
    cold = λ db v image may cold. long (λ hot. cold (subst IsHot (sym (down_read journal_log w s durable v may)) hot)) db image;
    sectors = λ torn v may hot. subst (λ (x : List ℕ). s.sector ≤ word x 20) (sym (down_read journal_log w s durable v may)) (names (subst IsHot (down_read journal_log w s durable v may) hot) torn);
  }

  pub ends_hot : (n : ℕ) → IsHot w → IsNamed w s → EndsBy n s
  ends_hot n hot names = ends_down n (λ cold. absurd (cold hot)) (λ here. names)

pub named_by : (w : List ℕ) (s t : DiskState) → t.sector ≡ s.sector → t.tears ≡ s.tears → IsNamed w s → IsNamed w t
named_by w s t sector tears names torn = subst (λ (n : ℕ). n ≤ word w 20) (sym sector) (names (sym tears ∙ torn))

pub fit_named : (w : List ℕ) (s : DiskState) → IsFit (torn_sector s) w → IsNamed w s
fit_named w s fit torn = subst (λ (b : Bool). cond b s.sector 0 ≤ word w 20) torn fit.sector

module _ {T : Type 0} (old new : DiskState) where
  -- a sync of the file, whatever was answered
  ends_settled : (n : ℕ) (w : List ℕ) (r : Result T RollError) → SyncStep Device Db r old new → IsLogDurable old w → IsHot w → IsNamed w old → EndsBy n new
  ends_settled n w r step durable hot names = ends_hot w new (down_syncs w Db step.0 old new durable step.2) n hot (named_by w old new step.2.elsewhere.sector step.2.elsewhere.tears names)

-- ---- the header is zeroed

zeros : List ℕ
zeros = replicate 28 0

short : length zeros ≡ 28
unfolding zeros
short = length-replicate {A = ℕ} 28 0

none : (i : ℕ) → get_or zeros i 0 ≡ 0
unfolding zeros
none = zero_at 28

same_word : (w v : List ℕ) → SameBehind (word w 20) w v → word v 20 ≡ word w 20
same_word w v s = word_same v w 20 s.long (λ i a b. s.front i (omega arith))

module _ (w : List ℕ) (old new : DiskState) (sound : IsSoundDisk old) (sectors : IsSectorSize old.sector) (durable : IsLogDurable old w) (hot : IsHot w) (names : IsNamed w old) where
  wide : 512 ≤ old.sector
  wide = sector_some old.sector sectors

  abbrev Names : List ℕ → Type 0
  Names v = IsHot v → word v 20 ≡ word w 20

  listed_word : IsSound old.sector new.log → Overwritten 0 zeros old new → (v : List ℕ) → IsImage old.sector false new.log v → Names v
  listed_word after changed v image here = ap (λ (x : List ℕ). word x 20) (zeroed_listed old.sector w zeros old.log new.log wide durable.settled hot short none sound.log after changed v image here)

  torn_word : old.tears ≡ true → IsSound old.sector new.log → Overwritten 0 zeros old new → (v : List ℕ) → IsImage old.sector true new.log v → AreWhole w ((0, zeros) ∷ []) v → Names v
  torn_word torn after changed v image whole here =
      same_word w v (zeroed_torn old.sector w zeros old.log new.log wide durable.settled hot short none sound.log after changed v (names torn) image whole here)

  written_word : {T : Type 0} (result : Result T DiskError) → Writes Log 0 zeros result old new → (v : List ℕ) → MayBeRead journal_log new v → Names v
  written_word result wrote = written_read journal_log Names w 0 zeros old new sound durable (λ here. refl) listed_word torn_word result wrote

  ends_written : {T : Type 0} (n : ℕ) (result : Result T DiskError) → Writes Log 0 zeros result old new → IsLong n old → EndsBy n new
  ends_written n result wrote long = record {
    cold = λ db v image may cold. long db (image_elsewhere Log result old new wrote.elsewhere db image);
    sectors = λ torn v may here. subst (λ (k : ℕ). new.sector ≤ k) (sym (written_word result wrote v may here)) (named_by w old new wrote.elsewhere.sector wrote.elsewhere.tears names torn);
  }

module _ {T : Type 0} (w : List ℕ) (old new : DiskState) (sound : IsSoundDisk old) (sectors : IsSectorSize old.sector) (durable : IsLogDurable old w) (hot : IsHot w) (names : IsNamed w old) where
  ends_zeroed : (n : ℕ) (r : Result T RollError) → ZeroSteps Device 28 r old new → IsLong n old → EndsBy n new
  unfolding zeros
  ends_zeroed n r steps long = ⊎_elim
      (λ failed. ends_written w old new sound sectors durable hot names n failed.0 failed.3 long)
      (λ done.
      let mid = sound_writes Log 0 zeros (Ok done.1.0) old done.0 sound done.1.1 in
      ends_narrow done.0 new (narrows_syncs journal_log Log done.2.0 done.0 new mid done.2.2) n
      (ends_written w old done.0 sound sectors durable hot names n (Ok done.1.0) done.1.1 long))
      steps

-- the file is synced, and then the header zeroed
pub ends_ended : {T : Type 0} (w : List ℕ) (old new : DiskState) → IsSoundDisk old → IsSectorSize old.sector → IsLogDurable old w → IsHot w → IsNamed w old → (r : Result T RollError) → EndSteps Device 28 r old new → EndsBy old.db.len new
ends_ended w old new sound sectors durable hot names r steps = ⊎_elim
    (λ failed. ends_settled old new old.db.len w r failed.1 durable hot names)
    (λ done.
    let goes : Later (InFile Db) old done.0 = sync_later Device Db (Ok done.1.0) old done.0 refl sound done.1.1 in
    ends_zeroed w done.0 new goes.sound (sectors_go old done.0 goes sectors) (down_syncs w Db done.1.1.0 old done.0 durable done.1.1.2) hot (named_by w old done.0 goes.sector goes.tears names) old.db.len r done.2 (long_done old.db.len Device done.1.0 old done.0 refl done.1.1))
    steps

-- the pages that a hot journal restores
pub rolled_length : (w db : List ℕ) (d : Database) (n : ℕ) (b : DiskState) → ArePages n d b.db → IsRolledBack db w d → n ≡ word w 24 → b.db.len ≡ word w 16 * word w 24
rolled_length w db d n b pages rolled same = pages.len ∙ ap (λ (k : ℕ). k * n) rolled.count ∙ ap (λ (k : ℕ). word w 16 * k) same

-- the log that is durable is synced again, whatever was answered
pub ends_resynced : {T : Type 0} (n : ℕ) (w : List ℕ) (result : Result T DiskError) (old new : DiskState) → IsLogDurable old w → Syncs Log result old new → EndsBy n old → EndsBy n new
ends_resynced n w result old new durable synced ends = ends_down w new (down_syncs w Log result old new durable synced) n
    (λ cold db image. ends.cold db w (image_elsewhere Log result old new synced.elsewhere db image) (may_down journal_log w old durable) cold)
    (λ hot. named_by w old new synced.elsewhere.sector synced.elsewhere.tears (λ torn. ends.sectors torn w (may_down journal_log w old durable) hot))
