use Rattle.std.proofs.Common.{◌≡◌, ℕ, ◌++◌, List, length, sym, ◌∙◌, ap, subst}
use Rattle.std.specs.Prelude.{◌≢◌}
use Rattle.std.proofs.lemmas.Result.{MatchResult-weaker}
use Rattle.crashdisk.specs.Choice.{naming_of}
use Rattle.crashdisk.specs.Model.{state_of}
use Rattle.crashdisk.specs.State.{IsImage}
use Rattle.crashdisk.specs.internal.SoundModel.{sound_disk, size_positive}
use Rattle.rig_images.proofs.TornSectors.{torn_file}
use Rattle.rig_images.proofs.torn.put_torn.Goals as goal

pub returns : goal.returns
returns g c =
    let disk = c.args.disk.now in
    let f = state_of disk in
    let sound = (sound_disk f disk.is_size disk.db_solid disk.log_solid disk.counted disk.untorn).db in
    let choice = c.in_ok-choice.choice in
    let new = c.in_ok-new.new.items in
    let old = c.in_ok-old.old.items in
    let bytes = c.in-Ok.bytes.items in
    let long : length bytes ≡ length new = c.in-Ok.ensures.long ∙ ap (λ (l : List ℕ). length l) c.deref.ensures.value in
    let not_new : bytes ≢ new = subst (λ (l : List ℕ). bytes ≢ l) c.deref.ensures.value c.in-Ok.ensures.not_new in
    let not_old : bytes ≢ old = subst (λ (l : List ℕ). bytes ≢ l) c.deref-2.ensures.value c.in-Ok.ensures.not_old in
    let size = c.in_ok-choice.ensures.long in
    MatchResult-weaker c.append_image.result c.append_image.ensures (λ done h.
    let is : c.append_image.new.out.items ≡ h.0 = h.1 ∙ ap (λ (l : List ℕ). l ++ h.0) c.clear.ensures.items in
    torn_file f (naming_of choice) c.args.k size.0 new old bytes c.append_image.new.out.items (size_positive f.sector disk.is_size).0 sound c.requires c.in_ok-new.ensures c.in_ok-old.ensures
    long not_new not_old c.in_ok-choice.ensures.torn size.1 size.2 (is ∙ h.2.is) (subst (λ (b : List ℕ). IsImage f.sector f.tears f.db b) (sym is) h.2.left)) (λ e no. no)
