use Rattle.std.proofs.Common.{◌<◌, ◌+◌, length, arith, refl}
use Rattle.cli_show.specs.Behind.{slot_place}
use Rattle.cli_show.proofs.LinesBehind.{placed, record_there, record_fails}
use Rattle.cli_show.proofs.behind.record_in.Goals as goal

pub returns-in-Ok-clause-slot : goal.returns-in-Ok-clause-slot
returns-in-Ok-clause-slot g c = λ gives count small.
    let b = g.F.FileBytes.bytes c.args.journal.now in
    let size = c.args.page_size in
    let s = c.args.slots in
    let below : c.args.i < s.count = omega (arith, c.if-i-slots.false) in
    let there = placed 512 (size + 8) (length b) s.from s.length s.count c.args.i c.place.result c.requires.from c.requires.long count (omega arith) small below c.place.ensures in
    (below, record_there size b b c.place.result (slot_place 512 (size + 8) c.args.i) refl there c.in-Ok.slot (c.in-Ok.ensures.slot gives))

pub returns-in-Err-clause-slot : goal.returns-in-Err-clause-slot
returns-in-Err-clause-slot g c = λ gives count small.
    let b = g.F.FileBytes.bytes c.args.journal.now in
    let size = c.args.page_size in
    let s = c.args.slots in
    let below : c.args.i < s.count = omega (arith, c.if-i-slots.false) in
    let there = placed 512 (size + 8) (length b) s.from s.length s.count c.args.i c.place.result c.requires.from c.requires.long count (omega arith) small below c.place.ensures in
    record_fails size b b c.place.result (slot_place 512 (size + 8) c.args.i) refl there (c.in-Err.ensures.slot gives)
