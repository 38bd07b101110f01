use Rattle.std.proofs.Common.{◌≡◌, sym, ◌∙◌}
use Rattle.rig_images.specs.Torn.{bytes_in}
use Rattle.rig_images.specs.declared.image.Image.{Image}
use Rattle.rig_shrink.proofs.PiecesDown.{by_file}
use Rattle.rig_shrink.proofs.shrinking.copy_of.Goals as goal

pub returns : goal.returns
returns c =
    let new : Image = record { db = c.in_ok-db.db; wal = c.in_ok-wal.wal; journal = c.in_ok-journal.journal } in
    by_file (λ w. bytes_in w c.args.image.now ≡ bytes_in w new) (sym (c.in_ok-db.ensures ∙ c.deref.ensures.value)) (sym (c.in_ok-wal.ensures ∙ c.deref-2.ensures.value)) (sym (c.in_ok-journal.ensures ∙ c.deref-3.ensures.value))
