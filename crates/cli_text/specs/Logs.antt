-- How a write-ahead log and a journal are printed (own).
use Rattle.std.specs.Prelude.{ℕ, ◌-◌, ◌==◌, if◌then◌else◌, List, [], ◌∷◌, ◌++◌, Option, None, Some, slice_get, codes}
use Rattle.std.specs.List.{enumerate_from, flat_map, zip}
use Rattle.std.specs.Option.{option_map_or}
use Rattle.sqwal.specs.Answers.{AreEntriesWithin, HeaderFound, IsCommittedWithin}
use Rattle.sqwal.specs.Stops.{IsStop}
use Rattle.sqwal.specs.declared.header.WalHeader.{WalHeader}
use Rattle.sqwal.specs.declared.scan.Entry.{Entry}
use Rattle.sqwal.specs.declared.scan.Front.{Front}
use Rattle.sqwal.specs.declared.scan.Stop.{Stop as FrameStop}
use Rattle.sqjournal.specs.Journal.{IsFirst}
use Rattle.sqjournal.specs.Took.{Says}
use Rattle.sqjournal.specs.declared.header.JournalHeader.{JournalHeader}
use Rattle.sqjournal.specs.declared.reading.Record.{Record}
use Rattle.sqjournal.specs.declared.replay.Stop.{Stop as RecordStop}
use Rattle.cli_words.specs.declared.requests.Style.{Style}
use Rattle.cli_words.specs.declared.requests.Style.TheVariants.{Lines, Json}
use Rattle.cli_text.specs.Facts.{number_text, object_text, salts_text, word_text}
use Rattle.cli_text.specs.Verdicts.{none_text}
use Rattle.cli_text.specs.Words.{stop_word, record_stop_word}

-- what a write-ahead log shows: its header, its valid frames, its front, and where and why they stop
pub record Log : Type 0 where
  pub header : Option WalHeader
  pub entries : List Entry
  pub front : Front
  pub stop : FrameStop

-- a log of the bytes b, of at most so many frames, shows this
pub record ShowsLog (most : ℕ) (b : List ℕ) (log : Log) : Type 0 where
  pub header : HeaderFound b log.header
  pub entries : AreEntriesWithin most b log.entries
  pub front : IsCommittedWithin most b log.front
  pub stop : IsStop b log.stop.frame log.stop.why

-- what kind of log it is
abbrev pub kind_text : Style → (kind : List ℕ) → List ℕ
kind_text Lines kind = kind
kind_text Json kind = word_text Json (codes "log") kind

-- that a write-ahead log is shorter than its header
abbrev pub cut_text : Style → List ℕ
cut_text style = object_text style (word_text style (codes "wal") (codes "cut") ∷ [])

-- the header of a write-ahead log
abbrev pub log_start_text : Style → WalHeader → List ℕ
log_start_text style h = object_text style (
    kind_text style (codes "wal")
    ∷ number_text style (codes "pagesize") h.page_size
    ∷ number_text style (codes "sequence") h.sequence
    ∷ salts_text style (codes "salts") h.salt1 h.salt2 ∷ [])

-- a frame by its number
abbrev pub frame_text : Style → (i : ℕ) → Entry → List ℕ
frame_text style i entry = object_text style (
    number_text style (codes "frame") i
    ∷ number_text style (codes "page") entry.page
    ∷ number_text style (codes "size") entry.size ∷ [])

-- a log's front and where it stops
abbrev pub front_text : Style → Front → FrameStop → List ℕ
front_text style front stop = object_text style (
    number_text style (codes "front") front.frames
    ∷ number_text style (codes "size") front.size
    ∷ word_text style (codes "stop") (stop_word stop.why)
    ∷ number_text style (codes "at") stop.frame ∷ [])

-- the frames by their numbers, from 1
abbrev pub frames_text : Style → List Entry → List ℕ
frames_text style entries = flat_map (λ e. frame_text style e.0 e.1) (enumerate_from 1 entries)

-- a write-ahead log with this header, which may be missing
abbrev pub headed_text : Style → Log → Option WalHeader → List ℕ
headed_text style log None = cut_text style
headed_text style log (Some h) =
    log_start_text style h ++ (frames_text style log.entries ++ front_text style log.front log.stop)

-- a write-ahead log
abbrev pub log_text : Style → Log → List ℕ
log_text style log = headed_text style log log.header

-- the size of the database at a frame, 0 where there is no such frame
abbrev pub size_at : List Entry → (frame : ℕ) → ℕ
size_at entries frame = if frame == 0 then 0 else option_map_or (λ e. e.size) (slice_get entries (frame - 1)) 0

-- the last frame before each commit, and its own last frame
abbrev pub spans : (commits : List ℕ) → List (ℕ × ℕ)
spans commits = zip (0 ∷ commits) commits

-- a commit by its number: its frames are those behind the frame before it
abbrev pub commit_text : Style → List Entry → (i before frame : ℕ) → List ℕ
commit_text style entries i before frame = object_text style (
    number_text style (codes "commit") i
    ∷ number_text style (codes "frame") frame
    ∷ number_text style (codes "pages") (frame - before)
    ∷ number_text style (codes "size") (size_at entries frame) ∷ [])

-- commits by their numbers, from 1
abbrev pub commits_lines : Style → List Entry → (commits : List ℕ) → List ℕ
commits_lines style entries commits =
    flat_map (λ c. commit_text style entries c.0 c.1.0 c.1.1) (enumerate_from 1 (spans commits))

-- the commits of a log with this header, which may be missing, and its front and where it stops
abbrev pub headed_commits : Style → Log → (commits : List ℕ) → Option WalHeader → List ℕ
headed_commits style log commits None = cut_text style
headed_commits style log commits (Some h) =
    commits_lines style log.entries commits ++ front_text style log.front log.stop

-- the commits of a log
abbrev pub commits_text : Style → Log → (commits : List ℕ) → List ℕ
commits_text style log commits = headed_commits style log commits log.header

-- what a journal shows: its first header where it is hot, its records, and where and why they stop
pub record Journal : Type 0 where
  pub first : Option JournalHeader
  pub records : List Record
  pub stop : RecordStop

-- a journal of the bytes b shows this
pub record ShowsJournal (b : List ℕ) (journal : Journal) : Type 0 where
  pub first : IsFirst b journal.first
  pub records : Says b journal.records journal.stop

-- the first header of a hot journal
abbrev pub journal_start_text : Style → JournalHeader → List ℕ
journal_start_text style h = object_text style (
    kind_text style (codes "journal")
    ∷ number_text style (codes "pagesize") h.page_size
    ∷ number_text style (codes "sector") h.sector
    ∷ number_text style (codes "first") h.first_size ∷ [])

-- a record by its number
abbrev pub record_text : Style → (i : ℕ) → Record → List ℕ
record_text style i r = object_text style (
    number_text style (codes "record") i
    ∷ number_text style (codes "page") r.page
    ∷ number_text style (codes "at") r.at ∷ [])

-- the records by their numbers, from 1
abbrev pub records_text : Style → List Record → List ℕ
records_text style records = flat_map (λ r. record_text style r.0 r.1) (enumerate_from 1 records)

-- where a journal stops
abbrev pub journal_stop_text : Style → RecordStop → List ℕ
journal_stop_text style stop = object_text style (
    word_text style (codes "stop") (record_stop_word stop.why)
    ∷ number_text style (codes "at") stop.at ∷ [])

-- a hot journal
abbrev pub hot_text : Style → JournalHeader → List Record → RecordStop → List ℕ
hot_text style h records stop = journal_start_text style h ++ (records_text style records ++ journal_stop_text style stop)

-- a journal with this first header, which may be missing
abbrev pub begun_text : Style → Journal → Option JournalHeader → List ℕ
begun_text style journal None = none_text style (codes "log")
begun_text style journal (Some h) = hot_text style h journal.records journal.stop

-- a journal
abbrev pub journal_text : Style → Journal → List ℕ
journal_text style journal = begun_text style journal journal.first
