-- Where a page lies, and which log counts (own).
use Rattle.std.specs.Prelude.{◌≡◌, ◌≢◌, ℕ, ◌≤◌, nat_eq, cond, List, []}
use Rattle.sqval.specs.Database.{page}
use Rattle.sqjournal.specs.Journal.{IsHot}
use Rattle.sqview.specs.Laid.{laid, part_or_zeros}
use Rattle.sqrescue_c.specs.declared.view.Handle.{Handle}
use Rattle.sqrescue_c.specs.declared.place.PagePlace.{PagePlace}

-- page p of a view is the bytes from this place on of the file or of the log, with zeros past its end
abbrev pub IsPageAt : Handle → (p : ℕ) → PagePlace → Type 0
IsPageAt h p out = page (laid h.page_size h.pages h.db.now h.log.now h.places.now) p
    ≡ part_or_zeros h.page_size out.at (cond (nat_eq out.is_of_log 0) h.db.now h.log.now)

-- the number of the log that counts: a hot journal, otherwise a write-ahead log that isn't empty
pub record IsLog (wal journal : List ℕ) (number : ℕ) : Type 0 where
  pub neither : number ≡ 0 → (¬ IsHot journal) × (wal ≡ [])
  pub logged : number ≡ 1 → (¬ IsHot journal) × (wal ≢ [])
  pub rolled : number ≡ 2 → IsHot journal × (wal ≡ [])
  pub greatest : number ≤ 2
