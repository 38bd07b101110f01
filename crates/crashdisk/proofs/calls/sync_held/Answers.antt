use Rattle.crashdisk.proofs.Between.{file_of, solid, sound, sound_synced}
use Rattle.crashdisk.proofs.calls.sync_held.Goals as goal

pub returns-clause-stands : goal.returns-clause-stands
returns-clause-stands c =
    let s = file_of c.args.sector c.args.held.now in
    let t = file_of c.args.sector c.sync.new.self in
    let held = c.sync.ensures.held in
    record { held = held; solid = solid c.args.sector t held.positive (sound_synced c.args.sector s t (sound c.args.sector s held.positive c.requires.solid) c.sync.ensures.synced) }
