-- A file as it was, and files of which nothing was read.
use Rattle.std.specs.Prelude.{◌≡◌, ℕ, List}
use Rattle.sqview.specs.Ahead.{IsUnread}
use Rattle.sqview.specs.declared.read_ahead.ReadAhead.{ReadAhead}
use Rattle.cli_show.specs.declared.contents.Contents.{Contents}

-- the file has its bytes still, and gives them if it gave them
pub record KeepsBytes {F : Type 0} (bytes : F → List ℕ) (gives : F → Type 0) (old new : F) : Type 0 where
  pub same_bytes : bytes new ≡ bytes old
  pub still_gives : gives old → gives new

-- each of the three is given
abbrev pub AreGiven : {F : Type 0} → (gives : F → Type 0) → Contents F → Type 0
AreGiven gives files = gives files.db × gives files.wal × gives files.journal

-- nothing was read ahead of any of the three, and so many bytes of the database are read at once
pub record AreUnread {F : Type 0} (files : Contents F) (most : ℕ) (ahead : Contents (ReadAhead F)) : Type 0 where
  pub db : IsUnread files.db most ahead.db
  pub wal : IsUnread files.wal 0 ahead.wal
  pub journal : IsUnread files.journal 0 ahead.journal

-- their bytes
abbrev pub contents_of : {F : Type 0} → (bytes : F → List ℕ) → Contents F → Contents (List ℕ)
contents_of bytes files = record { db = bytes files.db; wal = bytes files.wal; journal = bytes files.journal }
