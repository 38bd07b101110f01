-- What a call of a disk does to it, what a crash does, and how a disk begins (own).
use Rattle.std.specs.Prelude.{◌≡◌}
use Rattle.crashdisk.specs.declared.file.File.{File}
use Rattle.crashdisk.specs.Call.{Change, write, set_len, sync}

-- any change of one file, and its sync
abbrev pub InFile : File → Change → Type 0
InFile f (write g at bytes) = g ≡ f
InFile f (set_len g n) = g ≡ f
InFile f (sync g) = g ≡ f
