use Rattle.crashdisk.proofs.Facts.{cut_answered, file_of, solid, sound, sound_cut}
use Rattle.crashdisk.proofs.calls.cut_held.Goals as goal

pub returns-clause-answered : goal.returns-clause-answered
returns-clause-answered c = cut_answered c.args.manner.now c.args.end c.min-keep.result c.change_held.result c.args.held.now c.change_held.new.held c.min-keep.ensures c.change_held.ensures.answered

pub returns-clause-stands : goal.returns-clause-stands
returns-clause-stands c =
    let sector = c.args.manner.now.sector in
    let s = file_of sector c.args.held.now in
    let held = c.change_held.ensures.held in
    let answered = cut_answered c.args.manner.now c.args.end c.min-keep.result c.change_held.result c.args.held.now c.change_held.new.held c.min-keep.ensures c.change_held.ensures.answered in record {
      held = held;
      solid = solid sector (file_of sector c.change_held.new.held) held.positive (sound_cut sector c.args.end c.change_held.result s (file_of sector c.change_held.new.held) (sound sector s held.positive c.requires.stands.solid) answered.within answered.changed);
    }
