-- The numbers by which images are told apart (own).
use Rattle.std.specs.Prelude.{ℕ}
use Rattle.std.specs.Hash.FoldHasher.{initial, write, finish}
use Rattle.rig_images.specs.declared.image.Image.{Image}

-- what std's hasher makes of the three files, one after the other
abbrev pub key_of : Image → ℕ
key_of image = finish (write (write (write initial image.db.items) image.wal.items) image.journal.items)
