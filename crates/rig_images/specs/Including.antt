-- What a crash may leave where metadata becomes durable in order, it may leave where it becomes durable as a whole
-- (own).
use Rattle.std.specs.Prelude.{ℕ, Bool, List}
use Rattle.rig_play.specs.Plays.{Files, no_files, Plays}
use Rattle.rig_play.specs.declared.meta.Meta.TheVariants.{Whole, Ordered}
use Rattle.rig_play.specs.declared.trace.Record.{Record}
use Rattle.rig_images.specs.Left.{MayLeave}
use Rattle.rig_images.specs.declared.image.Image.{Image}

-- Each image of records that were played in order is one of the same records, played as a whole.
abbrev pub OrderedIsWhole : Type 0
OrderedIsWhole = (sector : ℕ) (tears : Bool) (b : List ℕ) (records : List Record) (s : Files) (image : Image)
    → Plays b records (no_files sector tears Ordered) s → MayLeave s image → (t : Files) × Plays b records (no_files sector tears Whole) t × MayLeave t image
