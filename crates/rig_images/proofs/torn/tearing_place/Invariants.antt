use Rattle.std.proofs.Common.{◌≡◌, ◌<◌, ℕ, length, get_or, MatchOption}
use Rattle.crashdisk.specs.Model.{state_of}
use Rattle.rig_play.specs.Plays.{files_of, epoch_now}
use Rattle.rig_play.specs.declared.meta.Epoch.{Epoch}
use Rattle.rig_images.specs.Torn.{IsPlace}
use Rattle.rig_images.specs.internal.Tearing.{NoneIn}
use Rattle.rig_images.proofs.torn.tearing_place.Given as goal

abbrev pub invariant-loop-i : goal.invariant-loop-i
invariant-loop-i g l =
    MatchOption l.found
    (NoneIn (files_of l.player) l.which (epoch_now (files_of l.player)) × ((i : ℕ) (e : Epoch) → i < l.i → i < length l.earlier → get_or l.earlier i e ≡ e → NoneIn (files_of l.player) l.which e))
    (λ p. IsPlace (files_of l.player) l.which p.epoch (state_of p.disk.now) p.sector)
