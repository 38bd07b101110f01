-- When all that a crash may leave shows one database (own).
use Rattle.std.specs.Prelude.{◌≡◌, ◌⊎◌, ℕ, ◌+◌, List, ◌∷◌, []}
use Rattle.sqval.specs.Database.{Database}
use Rattle.sqjournal.specs.Header.{next_header}
use Rattle.sqjournal.specs.Journal.{Segment, Sizes, sizes_of, records_end, IsHot, IsJournal}
use Rattle.sqjournal.specs.Restored.{IsRestored}
use Rattle.sqjournal.specs.declared.reading.Why.{Why}
use Rattle.crashdisk.specs.Keeps.{StandsWhole}
use Rattle.recovery.specs.Logs.{LogKind}

-- the header of a segment stands at this place, the first segment beginning at another
abbrev pub HasHeaderAt : Sizes → (from : ℕ) → List Segment → (at : ℕ) → Type 0
HasHeaderAt z from [] at = ⊥
HasHeaderAt z from (s ∷ segments) at = (at ≡ from) ⊎ HasHeaderAt z (next_header z.sector (records_end z (from + z.sector) s.records)) segments at

-- the 28 bytes of the first header of a hot journal, and of each later header, stand whole
pub record AreWhole (kept : List ℕ) (handed : List (ℕ × List ℕ)) (w : List ℕ) : Type 0 where
  pub first : IsHot w → StandsWhole kept handed w 0 28
  pub later : (segments : List Segment) (end : ℕ) (why : Why) → IsJournal w segments end why
      → (at : ℕ) → HasHeaderAt (sizes_of w) 0 segments at → StandsWhole kept handed w at 28

-- a file and its journal show a database of pages of this size
abbrev pub Show : (size : ℕ) (db w : List ℕ) → Database → Type 0
Show size db w d = IsRestored size db w d

-- a rollback journal as a kind of log; one that isn't hot is idle
abbrev pub journal_log : LogKind
journal_log = record { IsIdle = λ w. IsHot w → ⊥; AreWhole = AreWhole; Show = Show }
