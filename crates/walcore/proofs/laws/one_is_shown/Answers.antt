use Rattle.walcore.proofs.Facts.{Log, Ok, found_alone, found_syncs, is_found, sound_syncs, synced_down}
use Rattle.walcore.proofs.laws.one_is_shown.Goals as goal

pub returns : goal.returns
returns c past files old mid fits are chance synced =
    let sound = fits.suits.sound in
    let found = found_syncs past files.log (Ok tt) old mid sound synced (is_found past files old fits are chance) in
    let durable = synced_down files.log old mid sound are.log synced in
    (found.place, found.floor, found.within, found.newest, found_alone past files.log mid (sound_syncs Log (Ok tt) old mid sound synced) durable found)
