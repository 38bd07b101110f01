-- What is read ahead of a file.
use Rattle.std.specs.Prelude.{◌≡◌, ℕ, length}
use Rattle.sqview.specs.declared.read_ahead.ReadAhead.{ReadAhead}

-- a file of which nothing was read, and of which so many bytes are read at once
pub record IsUnread {F : Type 0} (file : F) (most : ℕ) (ahead : ReadAhead F) : Type 0 where
  pub same : ahead.file ≡ file
  pub nothing : ahead.held ≡ 0
  pub room : length ahead.piece.items ≡ most
