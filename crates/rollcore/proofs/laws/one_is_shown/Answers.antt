use Rattle.rollcore.proofs.Facts.{AreFiles, Files, Ok, byte, is_found, present_list, refl, table}
use Rattle.rollcore.proofs.openings.RecoveredFiles.{settled_one}
use Rattle.rollcore.proofs.laws.one_is_shown.Goals as goal

pub returns : goal.returns
returns c past old mid fits synced =
    let files : Files = record { db = table old.db.len (byte old.db); log = table old.log.len (byte old.log) } in
    let are : AreFiles old files = record { db = present_list old.db; log = present_list old.log } in
    let found = is_found past files old fits are in
    (found.place, found.floor, found.within, found.newest_is, (settled_one past files old fits are {T = Unit {0}} tt (Ok tt) mid refl (Ok tt, tt, synced)).alone)
