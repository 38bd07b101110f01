-- What is noted of a database file's length, and of what of a log isn't recovered (fileformat2, 1.3.7; walformat, 2.1; own).
use Rattle.std.specs.Prelude.{◌≡◌, ℕ, ◌+◌, ◌-◌, ◌*◌, ◌/◌, ◌==◌, ◌&&◌, ◌||◌, not, nat_lt, max, if◌then◌else◌, List, ◌++◌, Option, None, Some, codes}
use Rattle.std.specs.Fmt.{decimal}
use Rattle.sqval.specs.Bytes.{word}
use Rattle.sqpage.specs.Header.{HasMagic, HasPageSize, size_named}
use Rattle.sqwal.specs.Answers.{HeaderFound, IsCommittedWithin}
use Rattle.sqwal.specs.Stops.{IsStop}
use Rattle.sqwal.specs.declared.header.WalHeader.{WalHeader}
use Rattle.sqwal.specs.declared.scan.Front.{Front}
use Rattle.sqwal.specs.declared.scan.Stop.{Stop}
use Rattle.sqwal.specs.declared.scan.Why.{Why}
use Rattle.sqwal.specs.declared.scan.Why.TheVariants as whys
use Rattle.cli_facts.specs.Quoted.{name_text}
use Rattle.cli_files.specs.declared.note.Named.{Named}
use Rattle.cli_files.specs.declared.note.Note.{Note}
use Rattle.cli_files.specs.declared.note.Note.TheVariants.{Cut, Rest, Shorter, Dropped, Unused, Excess}

-- how many bytes the pages have that a header names
abbrev pub named_length : Named → ℕ
named_length named = named.pages * named.size

-- a file of this length ends before the pages that its header names
abbrev pub cut_text : (name : List ℕ) → (length : ℕ) → Named → List ℕ
cut_text name length named =
    name ++ (codes " ends at byte " ++ (decimal length ++ (codes ", before the " ++ (decimal named.pages ++ (codes " pages of "
    ++ (decimal named.size ++ codes " bytes that its header names: what is missing is taken as zeros"))))))

-- it goes on for so many bytes behind them
abbrev pub rest_text : (name : List ℕ) → (bytes : ℕ) → Named → List ℕ
rest_text name bytes named =
    name ++ (codes " goes on for " ++ (decimal bytes ++ (codes " bytes behind the " ++ (decimal named.pages
    ++ codes " pages that its header names: these aren't looked at"))))

-- it is shorter than they are
abbrev pub short_text : (name : List ℕ) → (length : ℕ) → Named → List ℕ
short_text name length named =
    name ++ (codes ": " ++ (decimal length ++ (codes " bytes, shorter than the " ++ (decimal named.pages ++ (codes " pages of "
    ++ (decimal named.size ++ codes " bytes that its header names"))))))

-- why the frames of a log stop
abbrev pub why_word : Why → List ℕ
why_word whys.End = codes "End"
why_word whys.Cut = codes "Cut"
why_word whys.Salt = codes "Salt"
why_word whys.PageZero = codes "PageZero"
why_word whys.Sum = codes "Sum"

-- so many whole frames, and bytes in all, behind a front are dropped
abbrev pub drop_text : (frames bytes : ℕ) → Stop → List ℕ
drop_text frames bytes stop =
    decimal frames ++ (codes " frames, " ++ (decimal bytes ++ (codes " bytes behind the front are dropped: stop "
    ++ (why_word stop.why ++ (codes " at " ++ decimal stop.frame)))))

-- the header of a database counts so many pages, and so many are above them
abbrev pub unused_text : (pages named : ℕ) → List ℕ
unused_text pages named =
    codes "the header counts " ++ (decimal named ++ (codes " pages: the " ++ (decimal pages
    ++ codes " above them aren't judged, since SQLite doesn't use them")))

-- it counts more than there are
abbrev pub excess_text : (all named : ℕ) → List ℕ
excess_text all named =
    codes "the header counts " ++ (decimal named ++ (codes " pages, but there are " ++ (decimal all
    ++ codes " by the log: SQLite calls that malformed")))

-- the text of a note
abbrev pub note_text : Note → List ℕ
note_text (Cut path length named) = cut_text (name_text path.0.now) length named
note_text (Rest path bytes named) = rest_text (name_text path.0.now) bytes named
note_text (Shorter path length named) = short_text (name_text path.0.now) length named
note_text (Dropped frames bytes stop) = drop_text frames bytes stop
note_text (Unused pages named) = unused_text pages named
note_text (Excess all named) = excess_text all named

-- The header of a database names pages: it has the magic and a page size, and its count of pages counts.
abbrev pub NamesPages : (head : List ℕ) → Option Named → Type 0
NamesPages head (Some named) = HasMagic head × HasPageSize head × (word head 24 ≡ word head 92)
    × (named.pages ≡ word head 28) × (named.size ≡ size_named head)
NamesPages head None = ¬ (HasMagic head × HasPageSize head × (word head 24 ≡ word head 92))

-- What is noted of a file of this name and length that no log counts beside: that it ends before the pages that its
-- header names, or goes on behind them, unless it names none.
abbrev pub alone_text : (name : List ℕ) → (length : ℕ) → Option Named → Option (List ℕ)
alone_text name length None = None
alone_text name length (Some named) =
    if nat_lt length (named_length named) then Some (cut_text name length named)
    else if not (named_length named == 0) && nat_lt (named_length named) length then Some (rest_text name (length - named_length named) named)
    else None

-- what is noted of one beside a log that counts: that it is shorter than they are
abbrev pub shorter_text : (name : List ℕ) → (length : ℕ) → Option Named → Option (List ℕ)
shorter_text name length None = None
shorter_text name length (Some named) = if nat_lt length (named_length named) then Some (short_text name length named) else None

-- What is noted of a database of so many pages, of which its header counts so many, 0 if that count isn't valid.
abbrev pub counts_text : (all named : ℕ) → Option (List ℕ)
counts_text all named =
    if (named == 0) || (named == all) then None
    else if nat_lt named all then Some (unused_text (all - named) named)
    else Some (excess_text all named)

-- the bytes of a log of this length behind its front
abbrev pub bytes_behind : (length : ℕ) → Front → ℕ
bytes_behind length front = length - max front.end 32

-- what is noted of a log of this length with this header and front, which stops so: how much stands behind the front
abbrev pub dropped_text : (length : ℕ) → Option WalHeader → Front → Stop → Option (List ℕ)
dropped_text length None front stop = None
dropped_text length (Some header) front stop =
    if bytes_behind length front == 0 then None
    else Some (drop_text (bytes_behind length front / (header.page_size + 24)) (bytes_behind length front) stop)

-- This is noted of the log with these bytes.
pub record IsDropped (most : ℕ) (wal : List ℕ) (length : ℕ) (text : Option (List ℕ)) : Type 0 where
  pub header : Option WalHeader
  pub front : Front
  pub stop : Stop
  pub named : HeaderFound wal header
  pub committed : IsCommittedWithin most wal front
  pub stops : IsStop wal stop.frame stop.why
  pub text_is : text ≡ dropped_text length header front stop
