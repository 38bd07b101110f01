-- While zeros are written over the log's header, it is the log that it was, or has no valid frame; and so is the header of a log that is cut then.
use Rattle.walcore.proofs.Below.{AreWhole, Bool, Changed, ChangedBy, Copied, CutSteps, CutTouches, Cuts, Database, Device, DiskError, DiskState, EndSteps, Err, Failed, FileState, Filed, IsHeader, IsImage, IsLogDurable, IsOfSize, IsSettled, IsSound, IsSoundDisk, IsSteady, IsValidFrame, List, Log, MayBeRead, Ok, Repeats, Restored, Result, Show, ShowsAlone, Stopped, Syncs, TooLong, WalError, WriteTouches, ZeroSteps, [], ap, arith, byte, cases_lt, cut_to, down_one, drop, ext_get_or, false, frame_at, frame_at-suc, frame_end, frame_end-suc, frame_end-zero, front_bytes, front_listed, front_stands, front_torn, get_or, get_or-drop, get_or-take, header_same, length, length-replicate, max, may_down, named_size, none_ok, not_torn, part, present_byte, present_list, present_written, read_cases, refl, replicate, restored_by, restored_shows, restored_syncs, sector_some, sector_within, size_some, sound_cuts, sound_writes, steady_cut, subst, sym, synced_down, table, take, told_ok, true, wal_log, word, written, written_inside, zero_at, zeroed_restored, ℕ, ⊎_elim, ◌+◌, ◌-◌, ◌<◌, ◌∙◌, ◌∷◌, ◌≡◌, ◌≤◌}
use Rattle.recovery.proofs.Words.{NoMemory}
use Rattle.crashdisk.proofs.sync.BytesOfSyncedLog.{one_write}
use Rattle.recovery.proofs.EndOfRestore.{ended}
use Rattle.walcore.proofs.folds.PhasesOfFold.{show_left, copied_shows, copied_down}

-- Zeros at the front are no header.
pub zeros_bad : (size : ℕ) (w : List ℕ) → ((i : ℕ) → i < 4 → get_or w i 0 ≡ 0) → IsHeader size w → ⊥
zeros_bad size w zeros is =
    let z0 : get_or (take 4 w) 0 0 ≡ 0 = get_or-take 4 w 0 0 (omega arith) ∙ zeros 0 (omega arith) in
    let z1 : get_or (take 4 w) 1 0 ≡ 0 = get_or-take 4 w 1 0 (omega arith) ∙ zeros 1 (omega arith) in
    let z2 : get_or (take 4 w) 2 0 ≡ 0 = get_or-take 4 w 2 0 (omega arith) ∙ zeros 2 (omega arith) in
    let z3 : get_or (take 4 w) 3 0 ≡ 0 = get_or-take 4 w 3 0 (omega arith) ∙ zeros 3 (omega arith) in
    let z : word w 0 ≡ 0 = omega arith in
    ⊎_elim (λ e. omega arith) (λ e. omega arith) is.magic

first_end : (size : ℕ) → frame_end size 1 ≡ 56 + size
first_end size = omega (arith, frame_end-suc size 0, frame_end-zero size)

-- nor does a frame lie in them
frame_stands : (w zeros v : List ℕ) → length zeros ≡ 32 → AreWhole w ((0, zeros) ∷ []) v → IsValidFrame (named_size v) v 1 → part v 32 (24 + named_size v) ≡ part w 32 (24 + named_size v)
frame_stands w zeros v short whole valid =
    let u : ℕ = named_size v in
    let at : frame_at u 1 ≡ 32 = frame_at-suc u 0 ∙ frame_end-zero u in
    ⊎_elim
    (λ stands. subst (λ (a : ℕ). part v a (24 + u) ≡ part w a (24 + u)) at stands.1)
    (λ lies.
    let P : ℕ × List ℕ → Type 0 = λ y. frame_at u 1 + (24 + u) ≤ y.0 + length y.1 in
    let z : frame_at u 1 + (24 + u) ≤ 0 + length zeros = subst P (sym (one_write zeros lies.0 lies.1)) lies.3 in
    absurd (omega (arith, z, short, at)))
    (whole.frame 1 valid)

-- header and first frame together
front_same : (w v : List ℕ) (u : ℕ) → part v 0 32 ≡ part w 0 32 → part v 32 (24 + u) ≡ part w 32 (24 + u) → (i : ℕ) → i < 56 + u → get_or v i 0 ≡ get_or w i 0
front_same w v u head frame i lt = ⊎_elim
    (λ a. front_bytes 32 w v head i a)
    (λ b.
    let j : 32 + (i - 32) ≡ i = omega arith in
    let from : (y : List ℕ) → get_or (part y 32 (24 + u)) (i - 32) 0 ≡ get_or y i 0 = λ y. get_or-take (24 + u) (drop 32 y) (i - 32) 0 (omega arith) ∙ get_or-drop 32 y (i - 32) 0 ∙ ap (λ k. get_or y k 0) j in
    sym (from v) ∙ ap (λ y. get_or y (i - 32) 0) frame ∙ from w)
    (cases_lt i 32)

-- The log w was durable, and zeros are written, or half written, at its front.
module _ (sector : ℕ) (w zeros : List ℕ) (log new : FileState) (wide : 512 ≤ sector) (settled : IsSettled log w) (short : length zeros ≡ 32) (none : (i : ℕ) → get_or zeros i 0 ≡ 0)
    (sound : IsSound sector log) (after : IsSound sector new) (changed : Changed sector (WriteTouches sector log 0 zeros) (written log 0 zeros) (max log.len (0 + length zeros)) log new) where
  -- with a valid frame it is as long as before
  same_length : (tears : Bool) (v : List ℕ) → IsImage sector tears new v → IsValidFrame (named_size v) v 1 → (568 ≤ length w) × (length v ≡ length w)
  same_length tears v image valid =
      let pass = valid.each 1 (omega arith) (omega arith) in
      let large : 512 ≤ named_size v = size_some (named_size v) pass.header.is_size in
      let long : 568 ≤ length v = omega (arith, pass.whole, first_end (named_size v)) in
      let enough : 568 ≤ length w = omega (arith, image.greatest, changed.greatest, settled.greatest, settled.len) in
      (enough, omega (arith, image.greatest, image.least, changed.greatest, changed.least, settled.greatest, settled.len, settled.least))

  -- where the disk doesn't tear
  zeroed_listed : (v : List ℕ) → IsImage sector false new v → IsValidFrame (named_size v) v 1 → v ≡ w
  zeroed_listed v image valid =
      let long = same_length false v image valid in
      let pass = valid.each 1 (omega arith) (omega arith) in
      front_listed 32 sector w zeros log new short none (omega (arith, wide)) settled sound after changed v image long.1 (omega (arith, long.0)) (λ z. zeros_bad (named_size v) v (λ i lt. z i (omega arith)) pass.header)

  -- where it tears, and no header and no frame comes together by chance
  zeroed_torn : (size : ℕ) (v : List ℕ) → sector ≤ size → IsOfSize size w → IsImage sector true new v → AreWhole w ((0, zeros) ∷ []) v → IsValidFrame (named_size v) v 1 → v ≡ w
  zeroed_torn size v small of_size image whole valid =
      let long = same_length true v image valid in
      let u : ℕ = named_size v in
      let header : IsHeader u v = (valid.each 1 (omega arith) (omega arith)).header in
      let head : part v 0 32 ≡ part w 0 32 = front_stands 32 w zeros v none (λ z. zeros_bad u v (λ i lt. z i (omega arith)) header) (whole.header header) in
      let frame : part v 32 (24 + u) ≡ part w 32 (24 + u) = frame_stands w zeros v short whole valid in
      let header_w : IsHeader u w = header_same u v w 32 head (omega arith) (omega (arith, long.0)) header in
      let other : named_size w ≡ u = header_w.named in
      let named : named_size w ≡ size = of_size (subst (λ (z : ℕ). IsHeader z w) (sym other) header_w) in
      ext_get_or 0 v w long.1 (λ i lt. ⊎_elim
      (λ a. front_same w v u head frame i a)
      (λ b. front_torn 32 sector w zeros log new short none (omega (arith, wide)) settled sound after changed (omega (arith, wide)) v image i (omega (arith, long.1)) (omega (arith, named, other)))
      (cases_lt i (56 + u)))

-- ---- The header is zeroed, or not: all that may be left shows what the file has.

module _ (size : ℕ) (d : Database) (w : List ℕ) (old : DiskState) (is : Filed size d w old) where
  wide : 512 ≤ old.sector
  wide = sector_some old.sector is.suits.sectors

  thirty_two : length {A = ℕ} (replicate 32 0) ≡ 32
  thirty_two = length-replicate {A = ℕ} 32 0

  same_repeats : (v : List ℕ) → (IsValidFrame (named_size v) v 1 → v ≡ w) → Repeats wal_log size d v
  same_repeats v same db file = show_left size d db v file (λ valid. subst (λ (x : List ℕ). Show size db x d) (sym (same valid)) (is.all.log w (may_down wal_log w old is.durable) db file))

  pub header_zeroed : {T : Type 0} (result : Result T WalError) (new : DiskState) → ZeroSteps Device 32 result old new → Restored wal_log size d new
  header_zeroed result new steps = zeroed_restored wal_log size d w 32 old is.all is.durable
      (λ s after changed v image. same_repeats v (λ valid. zeroed_listed old.sector w (replicate 32 0) old.log s.log wide is.durable.settled thirty_two (zero_at 32) is.suits.sound.log after changed v image valid))
      (λ s torn after changed v image whole. same_repeats v (λ valid. zeroed_torn old.sector w (replicate 32 0) old.log s.log wide is.durable.settled thirty_two (zero_at 32) is.suits.sound.log after changed size v (sector_within size old is.suits torn) is.of_size image whole valid))
      Device result new steps

  pub zeroed_shows : {T : Type 0} (result : Result T WalError) (new : DiskState) → ZeroSteps Device 32 result old new → ShowsAlone wal_log size d new
  zeroed_shows result new steps = restored_shows wal_log size d new (header_zeroed result new steps)

-- ---- The log has zeros for a header, and is cut.

-- zeros in what was kept, and nothing handed over, are no header where none comes together by chance
kept_bad : (kept v : List ℕ) → ((i : ℕ) → i < 32 → get_or kept i 0 ≡ 0) → AreWhole kept [] v → IsHeader (named_size v) v → ⊥
kept_bad kept v zeros whole header = ⊎_elim
    (λ stands. zeros_bad (named_size v) v (λ i lt. sym (get_or-take 32 v i 0 (omega arith)) ∙ ap (λ (y : List ℕ). get_or y i 0) stands.1 ∙ get_or-take 32 kept i 0 (omega arith) ∙ zeros i (omega arith)) header)
    (λ lies. omega (arith, lies.1.1))
    (whole.header header)

-- the zeros are durable
zeros_down : {T : Type 0} (u : T) (old new : DiskState) → IsSoundDisk old → ZeroSteps {T = T} Device 32 (Ok u) old new → (w : List ℕ) × IsLogDurable new w × ((i : ℕ) → i < 32 → get_or w i 0 ≡ 0)
zeros_down {T = T} u old new sound steps = ⊎_elim
    (λ failed. absurd (none_ok Device failed.0 (Ok u) u failed.1 refl failed.2))
    (λ done.
    let w : List ℕ = table done.0.log.len (byte done.0.log) in
    let short : length {A = ℕ} (replicate 32 0) ≡ 32 = length-replicate {A = ℕ} 32 0 in
    let t = told_ok Device done.2.0 (Ok u) u refl done.2.1 in (
      w,
      synced_down w done.0 new (sound_writes Log 0 (replicate 32 0) (Ok done.1.0) old done.0 sound done.1.1) (present_list done.0.log) (subst (λ (x : Result T DiskError). Syncs Log x done.0 new) t.1 done.2.2),
      λ i lt. present_byte done.0.log w (present_list done.0.log) i ∙ present_written Log 0 (replicate 32 0) old done.0 done.1.1 i ∙ written_inside old.log 0 (replicate 32 0) i (omega arith) (omega (arith, short, lt)) ∙ zero_at 32 (i - 0),
    ))
    steps

module _ (size : ℕ) (d : Database) (w : List ℕ) (old : DiskState) (is : Restored wal_log size d old) (durable : IsLogDurable old w) (zeros : (i : ℕ) → i < 32 → get_or w i 0 ≡ 0) where
  zero_here : (i : ℕ) → i < 32 → IsSteady old.sector false old.log i 0
  zero_here i lt c image = ap (λ (x : List ℕ). get_or x i 0) (down_one w old durable old.sector false c image) ∙ zeros i lt

  cut_listed : {T : Type 0} (n : ℕ) (result : Result T DiskError) (new : DiskState) → ChangedBy old.sector (CutTouches old.sector old.log n) (cut_to old.log n) n result old.log new.log → (i : ℕ) → i < 32 → IsSteady old.sector false new.log i 0
  cut_listed n (Ok u) new changed i lt = steady_cut old.sector false n old.log new.log i 0 is.sound.log changed.0 (zero_here i lt) (λ past. refl) (λ torn. absurd (not_torn refl torn)) (λ torn. absurd (not_torn refl torn))
  cut_listed n (Err Failed) new changed i lt = steady_cut old.sector false n old.log new.log i 0 is.sound.log changed (zero_here i lt) (λ past. refl) (λ torn. absurd (not_torn refl torn)) (λ torn. absurd (not_torn refl torn))
  cut_listed n (Err Stopped) new same i lt = subst (λ (s : FileState). IsSteady old.sector false s i 0) (sym same) (zero_here i lt)
  cut_listed n (Err TooLong) new same i lt = subst (λ (s : FileState). IsSteady old.sector false s i 0) (sym same) (zero_here i lt)
  cut_listed n (Err NoMemory) new same i lt = subst (λ (s : FileState). IsSteady old.sector false s i 0) (sym same) (zero_here i lt)

  cut_bad : {T : Type 0} (n : ℕ) (result : Result T DiskError) (new : DiskState) → Cuts Log n result old new → (v : List ℕ) → MayBeRead wal_log new v → IsHeader (named_size v) v → ⊥
  cut_bad n result new cut v may = ⊎_elim
      (λ image. zeros_bad (named_size v) v (λ i lt. cut_listed n result new cut.file i (omega arith) v (subst (λ (m : ℕ). IsImage m false new.log v) cut.elsewhere.sector image)))
      (λ torn. kept_bad new.kept v (λ i lt. ap (λ (x : List ℕ). get_or x i 0) (cut.kept ∙ durable.kept (sym cut.elsewhere.tears ∙ torn.0)) ∙ zeros i lt)
      (subst (λ (x : List (ℕ × List ℕ)). AreWhole new.kept x v) (cut.handed ∙ durable.handed) torn.2))
      (read_cases wal_log new v may)

  cut_restored : {T : Type 0} (n : ℕ) (result : Result T DiskError) (new : DiskState) → Cuts Log n result old new → Restored wal_log size d new
  cut_restored n result new cut = restored_by wal_log size d result old new is (sound_cuts Log n result old new is.sound cut) cut.elsewhere
      (λ v may db file. show_left size d db v file (λ valid. absurd (cut_bad n result new cut v may (valid.each 1 (omega arith) (omega arith)).header)))

  log_cut : {T : Type 0} (result : Result T WalError) (new : DiskState) → CutSteps result old new → Restored wal_log size d new
  log_cut result new steps = ⊎_elim
      (λ failed. cut_restored 0 failed.0 new failed.3)
      (λ done. restored_syncs wal_log size d Log done.2.0 done.0 new (cut_restored 0 (Ok done.1.0) done.0 done.1.1) done.2.2)
      steps

-- the log is cut, or not
cut_shows : {T U : Type 0} (u : U) (result : Result T WalError) (size : ℕ) (d : Database) (w : List ℕ) (old mid new : DiskState) → Filed size d w old → ZeroSteps {T = U} Device 32 (Ok u) old mid → CutSteps result mid new → ShowsAlone wal_log size d new
cut_shows u result size d w old mid new is zero cut =
    let zeros = zeros_down u old mid is.suits.sound zero in
    restored_shows wal_log size d new (log_cut size d zeros.0 mid (header_zeroed size d w old is (Ok u) mid zero) zeros.1 zeros.2 result new cut)

-- ---- The end of a fold.

-- the database is synced, and the header zeroed, or not
pub end_shows : {T : Type 0} (size : ℕ) (w : List ℕ) (m : ℕ) (d : Database) (result : Result T WalError) (old new : DiskState) → Copied size w m d old → EndSteps Device 32 result old new → ShowsAlone wal_log size d new
end_shows size w m d result old new is steps = ⊎_elim
    (λ failed. copied_shows size w m d result old new is failed.1)
    (λ done. zeroed_shows size d w done.0 (copied_down size w m d done.1.0 old done.0 is done.1.1) result new done.2)
    steps

pub end_cut_shows : {T U : Type 0} (size : ℕ) (w : List ℕ) (m : ℕ) (d : Database) (u : U) (result : Result T WalError) (old mid new : DiskState) → Copied size w m d old → EndSteps {T = U} Device 32 (Ok u) old mid → CutSteps result mid new → ShowsAlone wal_log size d new
end_cut_shows size w m d u result old mid new is steps cut =
    let done = ended Device 32 u old mid steps in
    cut_shows u result size d w done.0 mid new (copied_down size w m d done.1.0 old done.0 is done.1.1) done.2 cut
