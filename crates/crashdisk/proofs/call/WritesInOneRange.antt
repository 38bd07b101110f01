-- What runs of calls leave that write in one range of a file.
use Rattle.crashdisk.proofs.Between.{Alters, AltersFile, Bool, ChangedBy, DiskError, DiskState, Err, Failed, File, FileState, IsImage, IsSound, List, NoMemory, Ok, Result, Spreads, Stopped, SyncedBy, Syncs, TooLong, WriteTouches, Writes, alters_write, arith, by_change, by_sync, calls_then, image_shuffled, image_synced, inl, inr, length, max, no_calls, of, one_sync, one_write, refl, subst, sym, written, ℕ, ⊎_elim, ◌+◌, ◌∙◌, ◌≤◌}
use Rattle.crashdisk.proofs.call.SoundDiskUnderCalls.{sound_written, sound_sync}

-- On the states of one file.
module _ (sector : ℕ) (tears : Bool) where
  pub spreads_wider : (from to from2 to2 i : ℕ) → from2 ≤ from → to ≤ to2 → Spreads sector tears from to i → Spreads sector tears from2 to2 i
  spreads_wider from to from2 to2 i le le2 (inl in_range) = inl (omega (arith, in_range.0), omega (arith, in_range.1))
  spreads_wider from to from2 to2 i le le2 (inr torn) = inr (torn.0, (torn.1.0, omega (arith, torn.1.1), omega (arith, torn.1.2), torn.1.3))

  narrows : (from to : ℕ) (old new : FileState) → IsSound sector new → old.least ≤ new.least → old.len ≤ new.len → ((c : List ℕ) → IsImage sector tears new c → IsImage sector tears old c) → AltersFile sector tears from to old new
  narrows from to old new sound least len same = record {
    sound = sound;
    least = least;
    len = len;
    comes = λ c image. record { file = c; image = same c image; shorter = omega arith; reaches = omega arith; whole = λ inside. refl; each = λ i lt out. inl refl };
  }

  pub file_same : (from to : ℕ) (old : FileState) → IsSound sector old → AltersFile sector tears from to old old
  file_same from to old sound = narrows from to old old sound (omega arith) (omega arith) (λ c image. image)

  file_wider : (from to from2 to2 : ℕ) (old new : FileState) → from2 ≤ from → to ≤ to2 → AltersFile sector tears from to old new → AltersFile sector tears from2 to2 old new
  file_wider from to from2 to2 old new le le2 alters = record {
    sound = alters.sound;
    least = alters.least;
    len = alters.len;
    comes = λ c image. let was = alters.comes c image in record {
      file = was.file;
      image = was.image;
      shorter = was.shorter;
      reaches = was.reaches;
      whole = λ inside. was.whole (omega arith);
      each = λ i lt out. was.each i lt (λ spreads. out (spreads_wider from to from2 to2 i le le2 spreads));
    };
  }

  file_then : (from to : ℕ) (old mid new : FileState) → AltersFile sector tears from to old mid → AltersFile sector tears from to mid new → AltersFile sector tears from to old new
  file_then from to old mid new first second = record {
    sound = second.sound;
    least = omega (arith, first.least, second.least);
    len = omega (arith, first.len, second.len);
    comes = λ c image.
        let near = second.comes c image in
        let far = first.comes near.file near.image in record {
          file = far.file;
          image = far.image;
          shorter = omega (arith, near.shorter, far.shorter);
          reaches = omega (arith, near.reaches, far.reaches, first.len);
          whole = λ inside. far.whole inside ∙ near.whole (omega (arith, first.len));
          each = λ i lt out. ⊎_elim
              (λ e. ⊎_elim (λ e2. inl (e ∙ e2)) (λ past. inr (past.0, e ∙ past.1)) (far.each i lt out))
              (λ past. inr (omega (arith, past.0, first.len), past.1))
              (near.each i (omega (arith, far.shorter)) out);
        };
  }

  file_written : {T : Type 0} (at : ℕ) (bytes : List ℕ) (result : Result T DiskError) (old new : FileState) → IsSound sector old → IsSound sector new
      → ChangedBy sector (WriteTouches sector old at bytes) (written old at bytes) (max old.len (at + length bytes)) result old new → AltersFile sector tears at (at + length bytes) old new
  file_written at bytes result old new sound after = by_change (λ s. AltersFile sector tears at (at + length bytes) old s) sector (WriteTouches sector old at bytes) (written old at bytes) (max old.len (at + length bytes)) result old new
      (alters_write sector tears at bytes old new sound after) (file_same at (at + length bytes) old sound)

  file_synced : {T : Type 0} (from to : ℕ) (result : Result T DiskError) (old new : FileState) → IsSound sector old → IsSound sector new → SyncedBy sector result old new → AltersFile sector tears from to old new
  file_synced from to result old new sound after = by_sync (λ s. AltersFile sector tears from to old s) sector result old new
      (λ synced. narrows from to old new after (omega (arith, synced.least, sound.least)) (omega (arith, synced.len)) (image_synced sector tears old new sound synced))
      (λ shuffled. narrows from to old new after (omega (arith, shuffled.least)) (omega (arith, shuffled.len)) (image_shuffled sector old new shuffled tears))
      (file_same from to old sound)

-- Each further call, whatever it answers: cite one of these for each prefix of the calls of a function.
module _ (f : File) (from to : ℕ) where
  -- before the first call
  pub started : (old : DiskState) → IsSound old.sector (of f old) → Alters f from to old old
  started old sound = record { sector = refl; tears = refl; other = refl; calls = no_calls old; file = file_same old.sector old.tears from to (of f old) sound }

  -- two runs
  pub then : (old mid new : DiskState) → Alters f from to old mid → Alters f from to mid new → Alters f from to old new
  then old mid new first second = record {
    sector = second.sector ∙ first.sector;
    tears = second.tears ∙ first.tears;
    other = second.other ∙ first.other;
    calls = calls_then old mid new first.calls second.calls;
    file = file_then old.sector old.tears from to (of f old) (of f mid) (of f new) first.file
        (subst (λ (s : ℕ). AltersFile s old.tears from to (of f mid) (of f new)) first.sector (subst (λ (b : Bool). AltersFile mid.sector b from to (of f mid) (of f new)) first.tears second.file));
  }

  pub sound_now : (old mid : DiskState) → Alters f from to old mid → IsSound mid.sector (of f mid)
  sound_now old mid so_far = subst (λ (s : ℕ). IsSound s (of f mid)) (sym so_far.sector) so_far.file.sound

  -- one sync more
  pub then_sync : {T : Type 0} (result : Result T DiskError) (old mid new : DiskState) → Alters f from to old mid → Syncs f result mid new → Alters f from to old new
  then_sync result old mid new so_far synced = then old mid new so_far (record {
    sector = synced.elsewhere.sector;
    tears = synced.elsewhere.tears;
    other = synced.elsewhere.other;
    calls = one_sync f result mid new refl synced;
    file = file_synced mid.sector mid.tears from to result (of f mid) (of f new) (sound_now old mid so_far) (sound_sync mid.sector result (of f mid) (of f new) (sound_now old mid so_far) synced.file) synced.file;
  })

  -- one write more
  pub then_write : {T : Type 0} (at : ℕ) (bytes : List ℕ) (result : Result T DiskError) (old mid new : DiskState) → from ≤ at → at + length bytes ≤ to → Alters f from to old mid → Writes f at bytes result mid new → Alters f from to old new
  then_write at bytes result old mid new le le2 so_far wrote = then old mid new so_far (record {
    sector = wrote.elsewhere.sector;
    tears = wrote.elsewhere.tears;
    other = wrote.elsewhere.other;
    calls = one_write f at bytes result mid new refl wrote;
    file = file_wider mid.sector mid.tears at (at + length bytes) from to (of f mid) (of f new) le le2
        (file_written mid.sector mid.tears at bytes result (of f mid) (of f new) (sound_now old mid so_far)
        (sound_written mid.sector at bytes result (of f mid) (of f new) (sound_now old mid so_far) wrote.are_bytes wrote.within wrote.file) wrote.file);
  })
