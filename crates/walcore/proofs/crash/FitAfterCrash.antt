-- What fits a disk after a crash.
use Rattle.walcore.proofs.Below.{AreWhole, DiskState, FitsAlone, IsCrash, List, Option, Past, Reader, [], ap, forgotten, gone, length, narrows_crash, none_open, refl, sound_crash, suc, suits_by, sym, true, wal_log, ℕ, ◌∙◌, ◌∷◌, ◌≡◌}
use Rattle.walcore.proofs.crash.NarrowedImages.{left_narrows}

all_there : (tokens : List (Option Reader)) → length (none_open tokens) ≡ length tokens
all_there [] = refl
all_there (x ∷ tokens) = ap suc (all_there tokens)

all_forgotten : (readers : List (Option ℕ)) → length (forgotten readers) ≡ length readers
all_forgotten [] = refl
all_forgotten (x ∷ readers) = ap suc (all_forgotten readers)

pub fits_crash : (past : Past) (db log : List ℕ) (s t : DiskState) → IsCrash db log s t → (s.tears ≡ true → AreWhole s.kept s.handed log) → FitsAlone past s
    → FitsAlone (record { state = gone past.state; made = past.made; tokens = none_open past.tokens }) t
fits_crash past db log s t crashed whole fits = record {
  disk = record {
    suits = suits_by past.state.page_size s t fits.disk.suits (sound_crash db log s t fits.disk.suits.sound crashed) crashed.sector crashed.tears;
    floor = fits.disk.floor;
    held = fits.disk.held;
    made = fits.disk.made;
    left = left_narrows s t (narrows_crash wal_log db log s t crashed whole) past.state.page_size past.made.logs past.state.history past.state.floor fits.disk.left;
    present = λ is. absurd (cc is);
  };
  count = all_there past.tokens ∙ (fits.count ∙ sym (all_forgotten past.state.readers));
}
