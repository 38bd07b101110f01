-- Where the bytes of a database are in its pages, which have one size and are numbered from 1 (fileformat2, 1.2).
use Rattle.std.specs.Prelude.{◌≡◌, ◌⊎◌, ℕ, ◌+◌, ◌-◌, ◌*◌, ◌≤◌}
use Rattle.view_pieces_c.specs.declared.piece.Piece.{Piece}

-- The bytes of a range up to its end or to the end of their page. The range begins at byte `at` of a database with pages of
-- `size` bytes, and has `len` bytes.
pub record IsFirstPiece (at len size : ℕ) (piece : Piece) : Type 0 where
  pub page : 1 ≤ piece.page
  pub begins : (piece.page - 1) * size + piece.from ≡ at
  pub some : 1 ≤ piece.len
  pub most : piece.len ≤ len
  pub within : piece.from + piece.len ≤ size
  pub ends : (piece.len ≡ len) ⊎ (piece.from + piece.len ≡ size)
