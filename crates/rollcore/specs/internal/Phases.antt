-- The steps of a replay by what stands on the disk meanwhile (fileformat2, 3; that all which a crash may leave shows one
-- database at each step is own).
use Rattle.std.specs.Prelude.{◌≡◌, ℕ, ◌≤◌, true, List, length, None}
use Rattle.sqval.specs.Bytes.{word}
use Rattle.sqval.specs.Database.{Database, Pages}
use Rattle.sqjournal.specs.Journal.{Segment, IsHot, IsJournal}
use Rattle.sqjournal.specs.Restored.{all_records, last_content}
use Rattle.sqjournal.specs.declared.reading.Why.{Why}
use Rattle.crashdisk.specs.Call.{DiskState}
use Rattle.rollcore.specs.Alone.{journal_log}
use Rattle.crashdisk.specs.Keeps.{IsLogDurable, Suits}
use Rattle.recovery.specs.internal.Phases.{Restoring, Restored}

-- no record of a journal names page p
abbrev pub Unnamed : (records : Pages) → (p : ℕ) → Type 0
Unnamed records p = last_content records p ≡ None

-- pages of records are written into the file, or its length is set
pub record Writing (size : ℕ) (w : List ℕ) (d : Database) (s : DiskState) : Type 0 where
  pub hot : IsHot w
  pub named : size ≡ word w 24
  pub sectors : s.tears ≡ true → s.sector ≤ word w 20
  pub segments : List Segment
  pub at : ℕ
  pub why : Why
  pub is : IsJournal w segments at why
  pub count : length d ≡ word w 16
  pub pages : Restoring journal_log size d (Unnamed (all_records segments)) w s

-- the file has all pages, and the journal is as it was
pub record Filed (size : ℕ) (d : Database) (w : List ℕ) (s : DiskState) : Type 0 where
  pub suits : Suits size s
  pub durable : IsLogDurable s w
  pub hot : IsHot w
  pub sectors : s.tears ≡ true → s.sector ≤ word w 20
  pub all : Restored journal_log size d s
