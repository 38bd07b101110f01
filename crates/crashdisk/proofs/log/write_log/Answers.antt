use Rattle.crashdisk.proofs.Between.{Log, answered_handed, ap, arith, by_answer, file_of, greatest_changed, handed_writes, length, max, sym, with_write, ◌+◌, ◌∙◌, ◌≤◌}
use Rattle.crashdisk.proofs.log.write_log.Goals as goal

pub returns-in-Ok-clause-stands : goal.returns-in-Ok-clause-stands
returns-in-Ok-clause-stands c =
    let sector = c.args.manner.now.sector in
    let held = c.args.held.now in
    let new = c.write_held-answer.new.held in
    let greatest : new.greatest ≤ max held.greatest (max held.len (c.args.at + length c.args.bytes.now)) = greatest_changed sector _ _ _ c.write_held-answer.result (file_of sector held) (file_of sector new) c.write_held-answer.ensures.answered.changed in
    record { stands = c.write_held-answer.ensures.stands; room = λ tears. omega (arith, c.requires.stands.room tears, c.requires.stands.stands.solid.greatest, c.in-Ok.ensures.room, c.hand_over.ensures.longer, c.answer.ensures.room) }

pub returns-in-Ok-clause-hands : goal.returns-in-Ok-clause-hands
returns-in-Ok-clause-hands c =
    let result = c.write_held-answer.result in
    let handed = handed_writes c.args.since.now in record {
      kept = c.answer.ensures.kept ∙ c.hand_over.ensures.kept;
      handed = c.answer.ensures.handed ∙ ap (λ l. by_answer result l) c.in-Ok.ensures.ok ∙ answered_handed result c.args.at c.args.bytes.now handed ∙ ap (λ b. with_write b Log result c.args.at c.args.bytes.now handed) (sym c.if-not-manner.false);
    }
