-- How a view holds its pages.
use Rattle.std.specs.Prelude.{◌≡◌, ℕ, List, take}
use Rattle.sqview.specs.Laid.{part_or_zeros}

-- what is held are the file's bytes from a place on
abbrev pub HoldsPart : (file : List ℕ) (from held : ℕ) (piece : List ℕ) → Type 0
HoldsPart file from held piece = take held piece ≡ part_or_zeros held from file
