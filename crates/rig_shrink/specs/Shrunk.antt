-- Images of which nothing more can be brought down (own).
use Rattle.std.specs.Prelude.{◌≡◌, ◌≢◌, ◌⊎◌, ℕ, ◌+◌, ◌-◌, ◌*◌, min, Bool, true, false, List, [], ◌∷◌, ◌++◌, length, take, drop}
use Rattle.rig_play.specs.Plays.{Files}
use Rattle.rig_images.specs.Left.{MayLeave, IsPresent}
use Rattle.rig_images.specs.Torn.{bytes_in}
use Rattle.rig_images.specs.declared.image.Image.{Image}
use Rattle.rig_images.specs.declared.torn.Which.{Which}
use Rattle.rig_shrink.specs.declared.piece.Piece.{Piece}
use Rattle.rig_shrink.specs.declared.piece.Piece.TheVariants as pieces

-- the bytes of a file, those from a place up to another one from the present file
abbrev pub patched : (from to : ℕ) (present old : List ℕ) → List ℕ
patched from to present old = take from old ++ (take (to - from) (drop from present) ++ drop to old)

-- A piece of a file is brought down: a sector, as far as both files go; the length, with the bytes behind those that the file has;
-- or all, as where its name wasn't down.
abbrev pub down : Piece → (sector : ℕ) (present old : List ℕ) → List ℕ
down (pieces.Sector k) sector present old =
    patched (min (k * sector) (min (length present) (length old))) (min (k * sector + sector) (min (length present) (length old))) present old
down pieces.Length sector present old = take (length present) old ++ drop (length old) present
down pieces.All sector present old = present

-- the same of one file of an image, of which the others stay
pub record GoesDown (sector : ℕ) (present : Image) (w : Which) (p : Piece) (old new : Image) : Type 0 where
  pub file : bytes_in w new ≡ down p sector (bytes_in w present) (bytes_in w old)
  pub others : (v : Which) → v ≢ w → bytes_in v new ≡ bytes_in v old

-- two images have the same files
abbrev pub AreAlike : Image → Image → Type 0
AreAlike x y = (w : Which) → bytes_in w x ≡ bytes_in w y

-- pieces of an image are brought down, one after the other, the last one first
abbrev pub GoDown : (sector : ℕ) (present first : Image) → List (Which × Piece) → Image → Type 0
GoDown sector present first [] image = AreAlike first image
GoDown sector present first (p ∷ earlier) image = (mid : Image) × GoDown sector present first earlier mid × GoesDown sector present p.0 p.1 mid image

-- An image is the first one with some pieces brought down: that one itself, or one that a crash may leave, too, and of which the
-- same is found.
pub record IsBelow (Says : Image → Bool → Type 0) (s : Files) (sector : ℕ) (present first image : Image) : Type 0 where
  pub steps : List (Which × Piece)
  pub reached : GoDown sector present first steps image
  pub found : AreAlike first image ⊎ (MayLeave s image × Says image true)

-- With a piece brought down an image stays as it is, is none that a crash may leave, or something else is found of it.
abbrev pub IsTried : (Says : Image → Bool → Type 0) → Files → (sector : ℕ) (present : Image) → Which → Piece → Image → Type 0
IsTried Says s sector present w p image =
    (next : Image) × GoesDown sector present w p image next × (AreAlike next image ⊎ ((MayLeave s next → ⊥) ⊎ Says next false))

-- An image with something wrong, shrunk: of the first one so many pieces are brought down that no other can be.
pub record IsShrunk (Says : Image → Bool → Type 0) (s : Files) (sector : ℕ) (first image : Image) : Type 0 where
  pub present : Image
  pub is_present : IsPresent s present
  pub below : IsBelow Says s sector present first image
  pub least : (w : Which) (p : Piece) → IsTried Says s sector present w p image
