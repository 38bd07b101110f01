use Rattle.cli_row_text.specs.Lines.{escaped}
use Rattle.cli_row_text.proofs.RunsWritten.{written_on, written_end}
use Rattle.cli_row_text.proofs.value.write_all_escaped.Goals as goal

pub returns-in_default : goal.returns-in_default
returns-in_default g c =
    let old = g.W.Write.contents c.args.out.now in
    let now = g.W.Write.contents c.escapes.out in
    let new = g.W.Write.contents c.write_all.new.self in
    written_end (escaped) c.args.bytes.now c.escapes.rest.now c.split_at.result.0.now c.split_at.result.1.now old now new c.before_escape.result
    c.before_escape.ensures.within c.before_escape.ensures.plain c.split_at.ensures.front c.split_at.ensures.back c.in_default.ensures.cases c.in_ok-write_all.ensures.bytes c.escapes.invariant

pub escapes-preserved : goal.escapes-preserved
escapes-preserved g c =
    let old = g.W.Write.contents c.args.out.now in
    let now = g.W.Write.contents c.escapes.out in
    let mid = g.W.Write.contents c.write_all.new.self in
    let new = g.W.Write.contents c.write_escaped.new.out in
    written_on (escaped) c.args.bytes.now c.escapes.rest.now c.split_at.result.0.now c.split_at.result.1.now c.in-Some.byte.now c.in-Some.others.now old now mid new c.before_escape.result
    c.before_escape.ensures.within c.before_escape.ensures.plain c.split_at.ensures.front c.split_at.ensures.back c.in-Some.ensures.cases.0 c.in_ok-write_all.ensures.bytes c.in_ok-write_escaped.ensures c.escapes.invariant
