use Rattle.std.proofs.Common.{◌≡◌, ℕ, ◌+◌, ◌/◌, List, [], ◌++◌, ◌∙◌, ap, subst, arith}
use Rattle.std.proofs.Math.Nat.{div-le_self}
use Rattle.crashdisk.specs.Choice.{Naming, naming_of, image_of}
use Rattle.crashdisk.specs.Model.{state_of}
use Rattle.crashdisk.specs.internal.SoundModel.{size_positive}
use Rattle.rig_shrink.specs.internal.Values.{IsEach}
use Rattle.rig_shrink.proofs.SectorsByValue.{by_numbers, valued_is}
use Rattle.rig_shrink.proofs.bytes.valued.Goals as goal

pub overflow_add-sectors : goal.overflow_add-sectors
overflow_add-sectors c = omega (arith, div-le_self c.lengths-greatest.result.1 c.sector-sector.result, c.lengths-greatest.ensures.greatest, c.args.disk.now.db_solid.within)

pub returns : goal.returns
returns c =
    let disk = c.args.disk.now in
    let s = state_of disk in
    let n = c.args.number in
    let picks = c.in-Ok.pick.items in
    let e : c.lengths-greatest.result.1 / c.sector-sector.result + 1 ≡ s.db.greatest / s.sector + 1 =
    ap (λ (x : ℕ). x / c.sector-sector.result + 1) c.lengths-greatest.ensures.greatest ∙ ap (λ (y : ℕ). s.db.greatest / y + 1) (c.sector-sector.ensures.answer tt) in
    let is = c.in_ok-image.ensures.ok
    ∙ ap (λ (l : List ℕ). l ++ image_of s.sector s.tears s.db (naming_of c.numbered-choice.result)) c.new-bytes.ensures.items
    ∙ ap (λ (x : Naming). image_of s.sector s.tears s.db x) c.numbered-choice.ensures
    ∙ ap (λ (m : ℕ). image_of s.sector s.tears s.db (by_numbers picks m)) c.lengths-greatest.ensures.greatest in
    valued_is s n picks c.image.new.out.items (size_positive s.sector disk.is_size).0 (omega (arith, disk.db_solid.least, disk.db_solid.greatest))
    (subst (λ (m : ℕ). IsEach n m picks) e c.in-Ok.ensures) is
