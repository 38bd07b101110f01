use Rattle.std.proofs.Common.{refl, sym, subst}
use Rattle.crashdisk.specs.Model.{state_of}
use Rattle.rig_play.specs.Plays.{files_of}
use Rattle.rig_images.specs.Torn.{IsPlace, MayLeaveTorn}
use Rattle.rig_images.specs.declared.image.Image.{Image}
use Rattle.rig_images.specs.declared.torn.Which.{Which}
use Rattle.rig_images.proofs.TearingPlaces.{torn_db, torn_wal, torn_journal}
use Rattle.rig_images.proofs.torn.draw_torn.Goals as goal

pub returns-in_ok-put_torn-in-Db : goal.returns-in_ok-put_torn-in-Db
returns-in_ok-put_torn-in-Db g c =
    let s = files_of c.args.player.now in
    let p = c.in-Some.place in
    let old = c.draw_in.new.image in
    let new : Image = record old { db = c.put_torn.new.out } in
    subst (λ (w : Which). MayLeaveTorn s w new) (sym c.in-Db.is)
    (torn_db s p.epoch (state_of p.disk.now) p.sector old new (subst (λ (w : Which). IsPlace s w p.epoch (state_of p.disk.now) p.sector) c.in-Db.is c.in-Some.ensures) c.in_ok-draw_in.ensures c.in_ok-put_torn-in-Db.ensures refl refl)

pub returns-in_ok-put_torn-in-Wal : goal.returns-in_ok-put_torn-in-Wal
returns-in_ok-put_torn-in-Wal g c =
    let s = files_of c.args.player.now in
    let p = c.in-Some.place in
    let old = c.draw_in.new.image in
    let new : Image = record old { wal = c.put_torn-in-Wal.new.out } in
    subst (λ (w : Which). MayLeaveTorn s w new) (sym c.in-Wal.is)
    (torn_wal s p.epoch (state_of p.disk.now) p.sector old new (subst (λ (w : Which). IsPlace s w p.epoch (state_of p.disk.now) p.sector) c.in-Wal.is c.in-Some.ensures) c.in_ok-draw_in.ensures c.in_ok-put_torn-in-Wal.ensures refl refl)

pub returns-in_ok-put_torn-in-Journal : goal.returns-in_ok-put_torn-in-Journal
returns-in_ok-put_torn-in-Journal g c =
    let s = files_of c.args.player.now in
    let p = c.in-Some.place in
    let old = c.draw_in.new.image in
    let new : Image = record old { journal = c.put_torn-in-Journal.new.out } in
    subst (λ (w : Which). MayLeaveTorn s w new) (sym c.in-Journal.is)
    (torn_journal s p.epoch (state_of p.disk.now) p.sector old new (subst (λ (w : Which). IsPlace s w p.epoch (state_of p.disk.now) p.sector) c.in-Journal.is c.in-Some.ensures) c.in_ok-draw_in.ensures c.in_ok-put_torn-in-Journal.ensures refl refl)
