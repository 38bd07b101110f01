use Rattle.std.proofs.Common.{sym, subst}
use Rattle.std.proofs.lemmas.Result.{IfOk-weaker}
use Rattle.rig_play.specs.Names.{NameState}
use Rattle.rig_play.specs.Plays.{files_of}
use Rattle.rig_play.specs.declared.meta.Epoch.{Epoch}
use Rattle.rig_images.specs.Left.{MayBeLeft, MayLeaveIn}
use Rattle.rig_images.specs.declared.image.Image.{Image}
use Rattle.rig_images.proofs.redraws.redraw.Goals as goal

pub returns-clause-left : goal.returns-clause-left
returns-clause-left g c = λ before.
    let s = files_of c.args.player.now in
    let e = c.epoch-epoch.result in
    let old = c.args.image.now in
    let image : Image = record { db = c.put_redraw.new.out; wal = c.put_redraw-2.new.out; journal = c.put_redraw-3.new.out } in
    let was : MayLeaveIn s e old = subst (λ (x : Epoch). MayLeaveIn s x old) (sym c.epoch-epoch.ensures) before in
    IfOk-weaker c.put_redraw-3.result _ _ (λ done left. subst (λ (x : Epoch). MayLeaveIn s x image) c.epoch-epoch.ensures (record {
      db = subst (λ (n : NameState). MayBeLeft n e.db old.db.items → MayBeLeft n e.db image.db.items) c.db.ensures c.in_ok-put_redraw.ensures.left was.db;
      wal = subst (λ (n : NameState). MayBeLeft n e.wal old.wal.items → MayBeLeft n e.wal image.wal.items) c.wal.ensures c.in_ok-put_redraw-2.ensures.left was.wal;
      journal = subst (λ (n : NameState). MayBeLeft n e.journal image.journal.items) c.journal.ensures left;
    })) (c.put_redraw-3.ensures.left (subst (λ (n : NameState). MayBeLeft n e.journal old.journal.items) (sym c.journal.ensures) was.journal))
