use Rattle.crashdisk.proofs.Facts.{IsAnswered, file_of, rules, solid, sound, sound_written, subst, writing, ℕ}
use Rattle.crashdisk.proofs.calls.write_held.Goals as goal

pub returns-clause-answered : goal.returns-clause-answered
returns-clause-answered c =
    subst (λ (e : ℕ). IsAnswered c.args.manner.now (record (writing (file_of c.args.manner.now.sector c.args.held.now) c.args.at c.args.bytes.now) { end = e }) c.change_held.result c.args.held.now c.change_held.new.held)
    c.max-end.ensures c.change_held.ensures.answered

pub returns-clause-stands : goal.returns-clause-stands
returns-clause-stands c =
    let sector = c.args.manner.now.sector in
    let s = file_of sector c.args.held.now in
    let held = c.change_held.ensures.held in
    let answered = subst (λ (e : ℕ). IsAnswered c.args.manner.now (record (writing s c.args.at c.args.bytes.now) { end = e }) c.change_held.result c.args.held.now c.change_held.new.held) c.max-end.ensures c.change_held.ensures.answered in record {
      held = held;
      solid = solid sector (file_of sector c.change_held.new.held) held.positive
          (sound_written sector c.args.at c.args.bytes.now c.change_held.result s (file_of sector c.change_held.new.held) (sound sector s held.positive c.requires.stands.solid) (λ i. search rules) answered.within answered.changed);
    }
