use Rattle.std.proofs.Common.{Bool, refl, sym, subst}
use Rattle.rig_play.specs.Names.{NameState}
use Rattle.rig_play.specs.Plays.{files_of}
use Rattle.rig_images.specs.declared.image.Image.{Image}
use Rattle.rig_families.specs.Versions.{Named, file_named}
use Rattle.rig_families.specs.internal.Puts.{IsMade, IsPut}
use Rattle.rig_families.proofs.PiecesPut.{made_all}
use Rattle.rig_families.proofs.version.put_all.Goals as goal

pub returns : goal.returns
returns c =
    let s = files_of c.args.player.now in
    let v : Named = record { epoch = c.args.epoch; db = file_named c.args.files.0.now; wal = file_named c.args.files.1.now; journal = file_named c.args.files.2.now } in
    let image : Image = record { db = c.put_name.new.out; wal = c.put_name-2.new.out; journal = c.put_name-3.new.out } in
    let db = subst (λ (n : NameState). IsPut n v.epoch.db v.db image.db.items c.in_ok-db.db) c.db.ensures c.in_ok-db.ensures in
    let wal = subst (λ (n : NameState). IsPut n v.epoch.wal v.wal image.wal.items c.in_ok-wal.wal) c.wal.ensures c.in_ok-wal.ensures in
    let journal = subst (λ (n : NameState). IsPut n v.epoch.journal v.journal image.journal.items c.in_ok-journal.journal) c.journal.ensures c.in_ok-journal.ensures in
    subst (λ (b : Bool). IsMade s v image b) (sym c.are_all.ensures) (made_all s v image _ _ _ (c.if-not-is_left.ensures.0 refl) db wal journal)
