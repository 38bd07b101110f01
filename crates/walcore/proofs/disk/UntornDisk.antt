-- A disk as if it didn't tear: what a crash leaves of it then is listed, and each call does to it what it did.
use Rattle.walcore.proofs.Words.{DiskError, DiskState, List, Log, Result, Syncs, Writes, [], false, refl, ℕ}

abbrev pub untorn : DiskState → DiskState
untorn s = record { sector = s.sector; tears = false; db = s.db; log = s.log; refused = s.refused; kept = []; handed = []; settings = s.settings }

module _ {T : Type 0} (result : Result T DiskError) (s t : DiskState) where
  pub writes_untorn : (at : ℕ) (bytes : List ℕ) → Writes Log at bytes result s t → Writes Log at bytes result (untorn s) (untorn t)
  writes_untorn at bytes wrote = record {
    elsewhere = record { sector = wrote.elsewhere.sector; tears = refl; other = wrote.elsewhere.other; refused = wrote.elsewhere.refused };
    kept = refl;
    handed = refl;
    are_bytes = wrote.are_bytes;
    settings = wrote.settings;
    heeds = wrote.heeds;
    within = wrote.within;
    file = wrote.file;
  }

  pub syncs_untorn : Syncs Log result s t → Syncs Log result (untorn s) (untorn t)
  syncs_untorn synced = record {
    elsewhere = record { sector = synced.elsewhere.sector; tears = refl; other = synced.elsewhere.other; refused = synced.elsewhere.refused };
    since = (refl, refl);
    settings = synced.settings;
    heeds = synced.heeds;
    within = synced.within;
    file = synced.file;
  }
