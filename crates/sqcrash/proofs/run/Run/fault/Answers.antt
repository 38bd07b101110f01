use Rattle.std.proofs.Common.{◌∙◌, ap}
use Rattle.rig_images.specs.declared.image.Image.{Image}
use Rattle.sqcrash.proofs.NotedFiles.{fault_of}
use Rattle.sqcrash.proofs.run.Run.fault.Goals as goal

pub returns : goal.returns
returns c =
    let image = c.args.self.now.watched.present in
    let same = c.present-files.ensures in
    fault_of _ _ _ image.db.items image.wal.items image.journal.items c.in_ok-fault_in_files.field-0 (c.deref.ensures.value ∙ ap (λ (i : Image). i.db.items) same)
    (c.deref-2.ensures.value ∙ ap (λ (i : Image). i.wal.items) same) (c.deref-3.ensures.value ∙ ap (λ (i : Image). i.journal.items) same) c.in_ok-fault_in_files.ensures.fault
