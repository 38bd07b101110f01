-- Zeros are written, or half written, over the front of a log that is durable.
use Rattle.std.proofs.Common.{◌≡◌, inl, inr, ⊎_elim, ℕ, ◌+◌, ◌-◌, ◌/◌, ◌<◌, ◌≤◌, max, Bool, true, false, List, [], ◌∷◌, length, get_or, replicate, sym, ◌∙◌, ap, subst, arith, Result, Ok, get_or-take, ext_get_or}
use Rattle.recovery.proofs.Below.{get_or-replicate, get_or_past, length-replicate, cases_lt, le-div, div-eq_of_lt, part, Database, FileState, IsImage, IsSound, WriteTouches, written, Changed, IsSettled, DiskState, Writes, IsLogDurable, StandsWhole, Spreads, Log, DiskError, alters_write, whole_write, settled_one, sound_writes, LogKind, Repeats, Restored, ZeroSteps}
use Rattle.crashdisk.proofs.sync.BytesOfSyncedLog.{one_write}
use Rattle.recovery.proofs.OverwrittenLog.{Overwritten, written_read}
use Rattle.recovery.proofs.PhasesOfRestore.{may_down, restored_by, restored_syncs}

pub zero_at : (count i : ℕ) → ◌≡◌ {A = ℕ} (get_or (replicate count 0) i 0) 0
zero_at count i = ⊎_elim (λ lt. get_or-replicate count i 0 0 lt) (λ past. get_or_past (replicate count 0) i 0 (omega (arith, length-replicate {A = ℕ} count 0))) (cases_lt i count)

zero_plus : (i : ℕ) → 0 + i ≡ i
zero_plus i = omega arith

-- what stands whole at the front isn't of the zeros
pub front_stands : (count : ℕ) (w zeros v : List ℕ) → ((i : ℕ) → get_or zeros i 0 ≡ 0) → (((i : ℕ) → i < count → get_or v i 0 ≡ 0) → ⊥) → StandsWhole w ((0, zeros) ∷ []) v 0 count → part v 0 count ≡ part w 0 count
front_stands count w zeros v none stays stands = ⊎_elim
    (λ kept. kept.1)
    (λ lies.
    let P : ℕ × List ℕ → Type 0 = λ y. part v 0 count ≡ part y.1 (0 - y.0) count in
    let z : part v 0 count ≡ part zeros 0 count = subst P (sym (one_write zeros lies.0 lies.1)) lies.4 in
    absurd (stays (λ i lt. sym (get_or-take count v i 0 lt) ∙ ap (λ y. get_or y i 0) z ∙ get_or-take count zeros i 0 lt ∙ none i)))
    stands

-- and so the bytes there are the same
pub front_bytes : (count : ℕ) (w v : List ℕ) → part v 0 count ≡ part w 0 count → (i : ℕ) → i < count → get_or v i 0 ≡ get_or w i 0
front_bytes count w v same i lt = sym (get_or-take count v i 0 lt) ∙ ap (λ y. get_or y i 0) same ∙ get_or-take count w i 0 lt

module _ (count sector : ℕ) (w zeros : List ℕ) (log new : FileState) (n : length zeros ≡ count) (none : (i : ℕ) → get_or zeros i 0 ≡ 0) (short : count ≤ sector) (settled : IsSettled log w) (sound : IsSound sector log) (after : IsSound sector new)
    (changed : Changed sector (WriteTouches sector log 0 zeros) (written log 0 zeros) (max log.len (0 + length zeros)) log new) where
  is_w : (tears : Bool) (v : List ℕ) → IsImage sector tears log v → v ≡ w
  is_w tears v image = settled_one log w settled sector tears v image

  in_first : (i : ℕ) → i < count → i / sector ≡ 0
  in_first i lt = div-eq_of_lt (omega arith)

  -- behind the places that the write may touch it is as before
  same_rest : (tears : Bool) (v : List ℕ) → IsImage sector tears new v → (i : ℕ) → i < length w → (Spreads sector tears 0 (0 + length zeros) i → ⊥) → get_or v i 0 ≡ get_or w i 0
  same_rest tears v image i lt out =
      let was = (alters_write sector tears 0 zeros log new sound after changed).comes v image in
      let e : was.file ≡ w = is_w tears was.file was.image in
      ⊎_elim
      (λ same. same ∙ ap (λ (x : List ℕ). get_or x i 0) e)
      (λ past. absurd (omega (arith, past.0, settled.len)))
      (was.each i (omega (arith, ap (λ (x : List ℕ). length x) e)) out)

  -- where the disk doesn't tear, the front is zeros, or all is as before
  pub front_listed : (v : List ℕ) → IsImage sector false new v → length v ≡ length w → count ≤ length w → (((i : ℕ) → i < count → get_or v i 0 ≡ 0) → ⊥) → v ≡ w
  front_listed v image long within stays =
      let front : (i : ℕ) → i < count → get_or v i 0 ≡ get_or w i 0 = ⊎_elim
      (λ put. absurd (stays (λ i lt. ap (λ (j : ℕ). get_or v j 0) (sym (zero_plus i)) ∙ put i (omega arith) ∙ none i)))
      (λ was. λ i lt. ap (λ (j : ℕ). get_or v j 0) (sym (zero_plus i)) ∙ was.2 i (omega arith) ∙ ap (λ (j : ℕ). get_or was.0 j 0) (zero_plus i) ∙ ap (λ (x : List ℕ). get_or x i 0) (is_w false was.0 was.1))
      (whole_write sector 0 zeros log new sound changed (λ i le lt. in_first i (omega arith) ∙ sym (in_first 0 (omega arith))) v image (omega arith)) in
      ext_get_or 0 v w long (λ i lt. ⊎_elim
      (λ a. front i a)
      (λ b. same_rest false v image i (omega arith) (λ spreads. ⊎_elim (λ in_range. omega (arith, in_range.1)) (λ torn. cc torn.0) spreads))
      (cases_lt i count))

  -- where it tears, all behind the first sector is
  pub front_torn : 1 ≤ sector → (v : List ℕ) → IsImage sector true new v → (i : ℕ) → i < length w → sector ≤ i → get_or v i 0 ≡ get_or w i 0
  front_torn some v image i lt far = same_rest true v image i lt beyond
    where
      beyond : Spreads sector true 0 (0 + length zeros) i → ⊥
      beyond (inl in_range) = omega (arith, in_range.1)
      beyond (inr torn) =
          let first : torn.1.0 / sector ≡ 0 = in_first torn.1.0 (omega (arith, torn.1.2)) in
          let more : 1 ≤ i / sector = le-div 1 i sector (omega arith) (omega arith) in
          omega (arith, torn.1.3)

-- Each log that may be left then shows the database with the file that has its pages.
module _ (kind : LogKind) (size : ℕ) (d : Database) (w : List ℕ) (count : ℕ) (old : DiskState) (is : Restored kind size d old) (durable : IsLogDurable old w)
    (listed : (new : DiskState) → IsSound old.sector new.log → Overwritten 0 (replicate count 0) old new → (v : List ℕ) → IsImage old.sector false new.log v → Repeats kind size d v)
    (torn : (new : DiskState) → old.tears ≡ true → IsSound old.sector new.log → Overwritten 0 (replicate count 0) old new
    → (v : List ℕ) → IsImage old.sector true new.log v → kind.AreWhole w ((0, replicate count 0) ∷ []) v → Repeats kind size d v) where
  zeros_restored : {T : Type 0} (result : Result T DiskError) (new : DiskState) → Writes Log 0 (replicate count 0) result old new → Restored kind size d new
  zeros_restored result new wrote = restored_by kind size d result old new is (sound_writes Log 0 (replicate count 0) result old new is.sound wrote) wrote.elsewhere
      (written_read kind (λ (v : List ℕ). Repeats kind size d v) w 0 (replicate count 0) old new is.sound durable (is.log w (may_down kind w old durable)) (listed new) (torn new) result wrote)

  pub zeroed_restored : {T E : Type 0} (device : E) (result : Result T E) (new : DiskState) → ZeroSteps device count result old new → Restored kind size d new
  zeroed_restored device result new steps = ⊎_elim
      (λ failed. zeros_restored failed.0 new failed.3)
      (λ done. restored_syncs kind size d Log done.2.0 done.0 new (zeros_restored (Ok done.1.0) done.0 done.1.1) done.2.2)
      steps
