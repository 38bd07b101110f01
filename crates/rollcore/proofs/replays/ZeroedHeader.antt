-- While zeros are written over a journal's first header, the journal is what it was, or isn't hot.
use Rattle.rollcore.proofs.Below.{ArePages, AreWhole, Bool, Changed, Database, Device, DiskState, EndSteps, FileState, Filed, IsHot, IsImage, IsRestored, IsSettled, IsSound, List, Repeats, Result, RollError, SameBehind, ShowsAlone, WriteTouches, Writing, ZeroSteps, [], arith, cases_lt, false, front_bytes, front_listed, front_stands, front_torn, get_or, get_or_past, hot_long, hot_same, journal_log, length, length-replicate, max, may_down, part, replicate, restored_shows, rolled_same, sector_some, size_same, subst, sym, true, word, written, zero_at, zeroed_restored, zeros_cold, ℕ, ⊎_elim, ◌+◌, ◌∙◌, ◌∷◌, ◌≡◌, ◌≤◌}
use Rattle.rollcore.proofs.replays.PhasesOfReplay.{synced_shows, synced_filed}

-- a journal that says the same restores the same
pub restored_same : (size : ℕ) (db w v : List ℕ) (d : Database) → SameBehind (word w 20) w v → IsHot w → IsRestored size db w d → IsRestored size db v d
restored_same size db w v d same hot is = record {
  hot = λ here. ((is.hot hot).0 ∙ sym (size_same w v same hot), rolled_same w v same hot db d (is.hot hot).1);
  cold = λ cold. absurd (cold (hot_same w v same hot));
}

-- The hot journal w was durable, and zeros are written, or half written, at its front.
module _ (sector : ℕ) (w zeros : List ℕ) (log new : FileState) (wide : 512 ≤ sector) (settled : IsSettled log w) (hot : IsHot w) (short : length zeros ≡ 28) (none : (i : ℕ) → get_or zeros i 0 ≡ 0)
    (sound : IsSound sector log) (after : IsSound sector new) (changed : Changed sector (WriteTouches sector log 0 zeros) (written log 0 zeros) (max log.len (0 + length zeros)) log new) where
  -- it is as long as before
  same_length : (tears : Bool) (v : List ℕ) → IsImage sector tears new v → length v ≡ length w
  same_length tears v image =
      omega (arith, hot_long w hot, short, image.greatest, image.least, changed.greatest, changed.least, settled.greatest, settled.len, settled.least)

  -- where the disk doesn't tear
  pub zeroed_listed : (v : List ℕ) → IsImage sector false new v → IsHot v → v ≡ w
  zeroed_listed v image hot_v =
      front_listed 28 sector w zeros log new short none (omega (arith, wide)) settled sound after changed v image (same_length false v image) (omega (arith, hot_long w hot)) (λ z. zeros_cold v (z 0 (omega arith)) hot_v)

  -- where it tears, and no header comes together by chance
  pub zeroed_torn : (v : List ℕ) → sector ≤ word w 20 → IsImage sector true new v → AreWhole w ((0, zeros) ∷ []) v → IsHot v → SameBehind (word w 20) w v
  zeroed_torn v small image whole hot_v =
      let long = same_length true v image in
      let head : part v 0 28 ≡ part w 0 28 = front_stands 28 w zeros v none (λ z. zeros_cold v (z 0 (omega arith)) hot_v) (whole.first hot_v) in
      record {
        long = long;
        front = front_bytes 28 w v head;
        behind = λ i le. ⊎_elim
            (λ lt. front_torn 28 sector w zeros log new short none (omega (arith, wide)) settled sound after changed (omega (arith, wide)) v image i lt (omega (arith, le, small)))
            (λ past. get_or_past v i 0 (omega (arith, long)) ∙ sym (get_or_past w i 0 past))
            (cases_lt i (length w));
      }

-- ---- The header is zeroed, or not: all that may be left shows what the file has.

module _ (size : ℕ) (w : List ℕ) (d : Database) (old : DiskState) (is : Filed size d w old) where
  here : Repeats journal_log size d w
  here = is.all.log w (may_down journal_log w old is.durable)

  by_hot : (v : List ℕ) → (IsHot v → Repeats journal_log size d v) → Repeats journal_log size d v
  by_hot v repeats db file = record { hot = λ hot. (repeats hot db file).hot hot; cold = λ cold. file }

  zeroed_shows : {T : Type 0} (result : Result T RollError) (new : DiskState) → ZeroSteps Device 28 result old new → ShowsAlone journal_log size d new
  zeroed_shows result new steps =
      let wide : 512 ≤ old.sector = sector_some old.sector is.suits.sectors in
      let n : length {A = ℕ} (replicate 28 0) ≡ 28 = length-replicate {A = ℕ} 28 0 in
      restored_shows journal_log size d new (zeroed_restored journal_log size d w 28 old is.all is.durable
      (λ s after changed v image. by_hot v (λ hot. subst (λ (x : List ℕ). Repeats journal_log size d x)
      (sym (zeroed_listed old.sector w (replicate 28 0) old.log s.log wide is.durable.settled is.hot n (zero_at 28) is.suits.sound.log after changed v image hot)) here))
      (λ s torn after changed v image whole. by_hot v (λ hot db file.
      let same = zeroed_torn old.sector w (replicate 28 0) old.log s.log wide is.durable.settled is.hot n (zero_at 28) is.suits.sound.log after changed v (is.sectors torn) image whole hot in
      restored_same size db w v d same is.hot (here db file)))
      Device result new steps)

-- the file is synced, and the header zeroed, or not
pub end_shows : {T : Type 0} (size : ℕ) (w : List ℕ) (d : Database) (result : Result T RollError) (old new : DiskState) → Writing size w d old → ArePages size d old.db → EndSteps Device 28 result old new → ShowsAlone journal_log size d new
end_shows size w d result old new is pages steps = ⊎_elim
    (λ failed. synced_shows size w d result old new is failed.1)
    (λ done. zeroed_shows size w d done.0 (synced_filed size w d done.1.0 old done.0 is pages done.1.1) result new done.2)
    steps
