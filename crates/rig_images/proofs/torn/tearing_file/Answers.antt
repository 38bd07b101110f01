use Rattle.std.proofs.Common.{ℕ, ◌+◌, sym, subst}
use Rattle.std.specs.List.{Contains}
use Rattle.crashdisk.specs.Model.{state_of}
use Rattle.crashdisk.specs.declared.model.ModelDisk.{ModelDisk}
use Rattle.rig_images.specs.internal.Tearing.{IsTearing, NoneTearing, IsPlaceOf}
use Rattle.rig_images.proofs.TearingPlaces.{found_of, none_more, option_weaker}
use Rattle.rig_images.proofs.torn.tearing_file.Goals as goal

pub loop-i-preserved : goal.loop-i-preserved
loop-i-preserved g c =
    let files = c.args.files.now in
    let i = c.loop-i.i in
    let x = c.index-files-i.result in
    found_of c.loop-i.found c.tearing_disk-more.result c.either-found.result (NoneTearing files i) ((k : ℕ) → ¬ IsTearing (state_of x) k) (NoneTearing files (i + 1)) (λ p. IsPlaceOf files p.0.now p.1)
    c.loop-i.invariant
    (option_weaker c.tearing_disk-more.result _ _ _ (λ p. IsPlaceOf files p.0.now p.1) (λ none. none)
    (λ p is. subst (λ (d : ModelDisk). IsPlaceOf files d p.1) (sym is.0) ((i, c.loop-i-test.true, sym c.index-files-i.is), is.1)) c.tearing_disk-more.ensures)
    c.either-found.ensures.none c.either-found.ensures.one (none_more files i x c.index-files-i.is)
