-- One epoch more is counted (own).
use Rattle.std.specs.Prelude.{◌≡◌, ℕ, ◌+◌, ◌<◌, ◌≤◌, Bool, true, false, [], ◌∷◌, ◌++◌}
use Rattle.rig_play.specs.Plays.{Files}
use Rattle.rig_play.specs.declared.meta.Epoch.{Epoch}
use Rattle.rig_images.specs.Images.{epoch_count, IsCounted}
use Rattle.rig_images.specs.declared.counts.EpochCounts.{EpochCounts}
use Rattle.rig_images.specs.declared.counts.Counts.{Counts}

-- the counts of an epoch stand behind the others, or the images were more than the limit then
abbrev pub IsAdded : Files → Epoch → (limit : ℕ) → (old new : Counts) → Bool → Type 0
IsAdded s e limit old new true = (c : EpochCounts) × IsCounted s e c × (new.epochs.items ≡ old.epochs.items ++ c ∷ []) × (new.images ≡ old.images + c.images) × (new.images ≤ limit)
IsAdded s e limit old new false = limit < old.images + epoch_count s e
