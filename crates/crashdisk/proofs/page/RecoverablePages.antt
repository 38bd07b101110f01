-- A call leaves a disk one on which pages are recovered.
use Rattle.crashdisk.proofs.Facts.{Cuts, DiskError, DiskState, File, IsSectorSize, IsSoundDisk, List, Looks, Result, SameFiles, Still, Suits, Syncs, Writes, cases_lt, sound_cuts, sound_looks, sound_syncs, sound_writes, subst, sym, true, ℕ, ⊎_elim, ◌∙◌, ◌≡◌, ◌≤◌}
use Rattle.crashdisk.proofs.call.UnchangingCalls.{same_sound, same_files}

-- a sector that tears is no larger than a page
pub sector_within : (size : ℕ) (s : DiskState) → Suits size s → s.tears ≡ true → s.sector ≤ size
sector_within size s suits torn = ⊎_elim (λ lt. absurd (suits.whole (torn, lt))) (λ ge. ge) (cases_lt size s.sector)

pub suits_by : (size : ℕ) (old new : DiskState) → Suits size old → IsSoundDisk new → new.sector ≡ old.sector → new.tears ≡ old.tears → Suits size new
suits_by size old new suits sound sector tears = record {
  sound = sound;
  sectors = subst (λ (n : ℕ). IsSectorSize n) (sym sector) suits.sectors;
  pages = suits.pages;
  whole = λ tears_pages. suits.whole (sym tears ∙ tears_pages.0, rw sector at tears_pages.1);
}

pub suits_same : (size : ℕ) (old new : DiskState) → Suits size old → SameFiles old new → Suits size new
suits_same size old new suits same = suits_by size old new suits (same_sound old new suits.sound same) same.sector same.tears

pub suits_still : (size : ℕ) (old new : DiskState) → Suits size old → Still old new → Suits size new
suits_still size old new suits still = suits_same size old new suits (same_files old new still)

module _ {T : Type 0} (size : ℕ) where
  pub suits_writes : (f : File) (at : ℕ) (bytes : List ℕ) (result : Result T DiskError) (old new : DiskState) → Suits size old → Writes f at bytes result old new → Suits size new
  suits_writes f at bytes result old new suits wrote = suits_by size old new suits (sound_writes f at bytes result old new suits.sound wrote) wrote.elsewhere.sector wrote.elsewhere.tears

  pub suits_cuts : (f : File) (n : ℕ) (result : Result T DiskError) (old new : DiskState) → Suits size old → Cuts f n result old new → Suits size new
  suits_cuts f n result old new suits cut = suits_by size old new suits (sound_cuts f n result old new suits.sound cut) cut.elsewhere.sector cut.elsewhere.tears

  pub suits_syncs : (f : File) (result : Result T DiskError) (old new : DiskState) → Suits size old → Syncs f result old new → Suits size new
  suits_syncs f result old new suits synced = suits_by size old new suits (sound_syncs f result old new suits.sound synced) synced.elsewhere.sector synced.elsewhere.tears
