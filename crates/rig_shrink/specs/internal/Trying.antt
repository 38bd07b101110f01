-- Pieces of an image, tried one after the other (own).
use Rattle.std.specs.Prelude.{◌≡◌, ℕ, zero, suc, ◌+◌, ◌/◌, ◌<◌, ◌≤◌, Bool, true, false, length}
use Rattle.rig_play.specs.Plays.{Files}
use Rattle.rig_images.specs.Left.{MayLeave}
use Rattle.rig_images.specs.Torn.{bytes_in}
use Rattle.rig_images.specs.declared.image.Image.{Image}
use Rattle.rig_images.specs.declared.torn.Which.{Which}
use Rattle.rig_shrink.specs.Shrunk.{GoesDown, IsBelow, IsTried}
use Rattle.rig_shrink.specs.declared.piece.Piece.{Piece}
use Rattle.rig_shrink.specs.declared.piece.Piece.TheVariants as pieces

-- so many numbers as pieces of a file may have that aren't behind its end
abbrev pub IsEnough : (sector : ℕ) → Image → (n : ℕ) → Type 0
IsEnough sector image n = (w : Which) → length (bytes_in w image) / sector + 3 ≤ n

-- the piece of a number: all, the length, and then the sectors
abbrev pub piece_at : ℕ → Piece
piece_at zero = pieces.All
piece_at (suc zero) = pieces.Length
piece_at (suc (suc k)) = pieces.Sector k

-- a piece is brought down where that may be, or the image stays
abbrev pub Tries : (Says : Image → Bool → Type 0) → Files → (sector : ℕ) (present : Image) → Which → Piece → (taken : Bool) → (old new : Image) → Type 0
Tries Says s sector present w p true old new = GoesDown sector present w p old new × (MayLeave s new × Says new true)
Tries Says s sector present w p false old new = (new ≡ old) × IsTried Says s sector present w p old

-- The pieces of each file below a number were tried, and some were brought down; or none was, and none can be.
pub record IsPassed (Says : Image → Bool → Type 0) (s : Files) (sector : ℕ) (present : Image) (n : ℕ) (taken : Bool) (old new : Image) : Type 0 where
  pub below : (first : Image) → IsBelow Says s sector present first old → IsBelow Says s sector present first new
  pub same : taken ≡ false → new ≡ old
  pub tried : taken ≡ false → (w : Which) (j : ℕ) → j < n → IsTried Says s sector present w (piece_at j) new

-- the same of all pieces
pub record HasPassed (Says : Image → Bool → Type 0) (s : Files) (sector : ℕ) (present : Image) (taken : Bool) (old new : Image) : Type 0 where
  pub below : (first : Image) → IsBelow Says s sector present first old → IsBelow Says s sector present first new
  pub least : taken ≡ false → (w : Which) (p : Piece) → IsTried Says s sector present w p new

-- an image below the first one, of which no piece can be brought down
pub record IsLeast (Says : Image → Bool → Type 0) (s : Files) (sector : ℕ) (present first image : Image) : Type 0 where
  pub below : IsBelow Says s sector present first image
  pub least : (w : Which) (p : Piece) → IsTried Says s sector present w p image
