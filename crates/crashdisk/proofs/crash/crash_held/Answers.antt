use Rattle.crashdisk.proofs.Facts.{arith, file_of, held_again, image_len, image_named, image_of, left_settled, left_whole, len_between, naming_of, settled_sound, solid, sound}
use Rattle.crashdisk.proofs.crash.crash_held.Goals as goal

-- one list of bytes is left
settled : goal.returns-clause-settled
settled c =
    let held = c.args.held.now in
    left_settled c.args.sector c.args.tears (naming_of c.args.choice.now) held.sectors.items c.leave_each.new.sectors.items held.len held.least held.greatest c.length-len.result c.requires.held.positive
    c.requires.held.whole c.leave_each.ensures.count c.length-len.ensures c.leave_each.ensures.each

pub returns-clause-settled : goal.returns-clause-settled
returns-clause-settled c = settled c

pub returns-clause-image : goal.returns-clause-image
returns-clause-image c =
    let s = file_of c.args.sector c.args.held.now in
    image_named c.args.sector c.args.tears s (naming_of c.args.choice.now) (sound c.args.sector s c.requires.held.positive c.requires.solid) (settled c).are_bytes

pub returns-clause-stands : goal.returns-clause-stands
returns-clause-stands c =
    let held = c.args.held.now in
    let s = file_of c.args.sector held in
    let naming = naming_of c.args.choice.now in record {
      held = held_again c.args.sector held _ c.requires.held c.leave_each.ensures.count
          (left_whole c.args.sector c.args.tears naming held.sectors.items c.leave_each.new.sectors.items held.len held.least held.greatest c.length-len.result c.requires.held.positive c.requires.held.whole c.leave_each.ensures.count c.length-len.ensures c.leave_each.ensures.each);
      solid = solid c.args.sector _ c.requires.held.positive (settled_sound _ (image_of c.args.sector c.args.tears s naming) (settled c) c.args.sector
          (omega (arith, image_len c.args.sector c.args.tears s naming, (len_between naming.len s.least s.len s.greatest c.requires.solid.least c.requires.solid.greatest).1, c.requires.solid.within)));
    }
