-- What fits a disk fits it after a crash, as the machine is then.
use Rattle.rollcore.proofs.Below.{AreWhole, DiskState, FitsDisk, IsCrash, List, State, closed, history_narrows, journal_log, narrows_crash, sectors_narrow, sound_crash, suits_by, true, ℕ, ◌≡◌}

pub fits_crash : (past : State) (db log : List ℕ) (s t : DiskState) → IsCrash db log s t → (s.tears ≡ true → AreWhole s.kept s.handed log) → FitsDisk past s → FitsDisk (closed past) t
fits_crash past db log s t crashed whole fits =
    let narrows = narrows_crash journal_log db log s t crashed whole in
    record {
      suits = suits_by past.page_size s t fits.suits (sound_crash db log s t fits.suits.sound crashed) crashed.sector crashed.tears;
      floor = fits.floor;
      held = fits.held;
      left = history_narrows s t narrows past.page_size past.history past.floor fits.left;
      sectors = sectors_narrow s t narrows fits.sectors;
      present = λ is. absurd (cc is);
    }
