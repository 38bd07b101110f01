use Rattle.std.proofs.Common.{◌≡◌, ◌∙◌, take, arith}
use Rattle.sqjournal.proofs.read.JournalOfTakenBytes.{cold_short}
use Rattle.sqview.proofs.file.FileHeads.{part_is}
use Rattle.sqview.proofs.openings.ShownOrRefusedView.{hot_is, cold_refused, cold_cut}
use Rattle.sqview.proofs.logs.hot_header.Goals as goal

pub returns-then-length-lt28-clause-right : goal.returns-then-length-lt28-clause-right
returns-then-length-lt28-clause-right g c = λ right.
    let b = g.F.FileBytes.bytes c.args.journal.now in
    cold_short b (omega (arith, c.len-length.ensures.count right, c.if-length-lt28.true))

pub returns-in_default-clause-right : goal.returns-in_default-clause-right
returns-in_default-clause-right g c = λ right.
    let b = g.F.FileBytes.bytes c.args.journal.now in
    let front : c.read_at.new.out ≡ take 28 b = c.in_ok-read_at.ensures.read right ∙ part_is 28 0 b (omega (arith, c.len-length.ensures.count right, c.if-length-lt28.false)) in
    cold_refused b c.read_at.new.out c.in_default.field-0 front c.in_default.ensures

pub returns-then-length-from-clause-right : goal.returns-then-length-from-clause-right
returns-then-length-from-clause-right g c = λ right.
    let b = g.F.FileBytes.bytes c.args.journal.now in
    let front : c.read_at.new.out ≡ take 28 b = c.in_ok-read_at.ensures.read right ∙ part_is 28 0 b (omega (arith, c.len-length.ensures.count right, c.if-length-lt28.false)) in
    cold_cut b c.read_at.new.out c.in-Ok.header front c.in-Ok.ensures.1 (omega (arith, c.len-length.ensures.count right, c.if-length-from.true, c.from.ensures))

pub returns-clause-right : goal.returns-clause-right
returns-clause-right g c = λ right.
    let b = g.F.FileBytes.bytes c.args.journal.now in
    let front : c.read_at.new.out ≡ take 28 b = c.in_ok-read_at.ensures.read right ∙ part_is 28 0 b (omega (arith, c.len-length.ensures.count right, c.if-length-lt28.false)) in
    hot_is b c.read_at.new.out c.in-Ok.header front c.in-Ok.ensures.0 c.in-Ok.ensures.1 (omega (arith, c.len-length.ensures.count right, c.if-length-from.false, c.from.ensures))

pub returns-then-length-lt28-clause-answer : goal.returns-then-length-lt28-clause-answer
returns-then-length-lt28-clause-answer g c = λ gives. returns-then-length-lt28-clause-right g c (g.met.F.FileBytes.right c.args.journal.now gives)

pub returns-in_default-clause-answer : goal.returns-in_default-clause-answer
returns-in_default-clause-answer g c = λ gives. returns-in_default-clause-right g c (g.met.F.FileBytes.right c.args.journal.now gives)

pub returns-then-length-from-clause-answer : goal.returns-then-length-from-clause-answer
returns-then-length-from-clause-answer g c = λ gives. returns-then-length-from-clause-right g c (g.met.F.FileBytes.right c.args.journal.now gives)

pub returns-clause-answer : goal.returns-clause-answer
returns-clause-answer g c = λ gives. returns-clause-right g c (g.met.F.FileBytes.right c.args.journal.now gives)
