use Rattle.std.proofs.Common.{refl, ◌∙◌}
use Rattle.rig_images.specs.declared.image.Image.{Image}
use Rattle.rig_images.specs.declared.torn.Which.TheVariants.{Db}
use Rattle.rig_shrink.proofs.PiecesDown.{goes_down, down_same}
use Rattle.rig_shrink.proofs.shrinking.with_db.Goals as goal

pub returns : goal.returns
returns c =
    let present = c.args.present.now in
    let old = c.args.image.now in
    let new : Image = record { db = c.in_ok-db.db; wal = c.in_ok-wal.wal; journal = c.in_ok-journal.journal } in
    goes_down c.args.size.bytes present Db c.args.piece old new
    (down_same c.args.piece c.args.size.bytes present.db.items old.db.items c.deref.result.now c.deref-2.result.now c.in_ok-db.db.items c.deref.ensures.value c.deref-2.ensures.value c.in_ok-db.ensures)
    (λ no. absurd (no refl)) (λ other. c.in_ok-wal.ensures ∙ c.deref-3.ensures.value) (λ other. c.in_ok-journal.ensures ∙ c.deref-4.ensures.value)
