-- What the scan of a rollback journal answers.
use Rattle.std.specs.Prelude.{◌≡◌, ℕ, ◌<◌, ◌≤◌, List, length, get_or}
use Rattle.sqval.specs.Bytes.{word}
use Rattle.sqjournal.specs.Journal.{IsHot}
use Rattle.sqjournal.specs.Took.{Says, Refuses}
use Rattle.sqjournal.specs.declared.error.JournalError.{JournalError}
use Rattle.sqjournal.specs.declared.reading.Record.{Record as Entry}
use Rattle.sqjournal.specs.declared.replay.Stop.{Stop}
use Rattle.sqrescue_c.specs.Statuses.{journal_status, journal_why}
use Rattle.sqrescue_c.specs.declared.journal.Record.{Record}
use Rattle.sqrescue_c.specs.declared.journal.JournalReport.{JournalReport}

-- how many records count, where and why the journal ends, and the words of its first header where it is hot
pub record IsReplayed (b : List ℕ) (out : JournalReport) : Type 0 where
  pub entries : List Entry
  pub stop : Stop
  pub says : Says b entries stop
  pub counted : out.records ≡ length entries
  pub at : out.stop ≡ stop.at
  pub why : out.why ≡ journal_why stop.why
  pub hot : IsHot b → (out.page_size ≡ word b 24) × (out.sector ≡ word b 20) × (out.pages ≡ word b 16)
  pub cold : (¬ IsHot b) → (out.page_size ≡ 0) × (out.sector ≡ 0) × (out.pages ≡ 0)

-- the page that a record holds, and where its bytes begin
pub record IsRecordOf (entry : Entry) (it : Record) : Type 0 where
  pub page : it.page ≡ entry.page
  pub at : it.at ≡ entry.at

abbrev pub no_entry : Entry
no_entry = record { page = 0; at = 0 }

-- the first n records
abbrev pub AreRecordsOf : List Entry → (n : ℕ) → List Record → Type 0
AreRecordsOf entries n records = (i : ℕ) (d : Record) → i < n → IsRecordOf (get_or entries i no_entry) (get_or records i d)

-- the array begins with the n records of the journal that count
pub record BeginsWithRecords (b : List ℕ) (n : ℕ) (records : List Record) : Type 0 where
  pub entries : List Entry
  pub stop : Stop
  pub says : Says b entries stop
  pub counted : n ≡ length entries
  pub long : n ≤ length records
  pub each : AreRecordsOf entries n records

-- the refusal of this number
pub record JournalRefused (b : List ℕ) (number : ℕ) : Type 0 where
  pub error : JournalError
  pub numbered : number ≡ journal_status error
  pub refused : Refuses b error
