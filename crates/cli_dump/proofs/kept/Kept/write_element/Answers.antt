use Rattle.std.proofs.Common.{codes}
use Rattle.cli_dump.specs.Elements.{begun_text, ended_text, escaped}
use Rattle.cli_dump.proofs.CommitsKept.{written_five}
use Rattle.cli_dump.proofs.kept.Kept.write_element.Goals as goal

pub returns : goal.returns
returns g c =
    let kept = c.args.self.now in
    written_five c.write_all-2.result (g.W.Write.contents c.args.out.now) (g.W.Write.contents c.write_all.new.self)
    (g.W.Write.contents c.write_begun.new.out) (g.W.Write.contents c.write_escaped.new.out) (g.W.Write.contents c.write_ended.new.out) (g.W.Write.contents c.write_all-2.new.self)
    (codes "<script id='changes' type='text/plain'>\n") (begun_text kept.from) (escaped kept.text.items) (ended_text kept.ended) (codes "</script>\n")
    c.in_ok-write_all.ensures.bytes c.in_ok-write_begun.ensures (rw c.deref.ensures.value at c.in_ok-write_escaped.ensures) c.in_ok-write_ended.ensures c.write_all-2.ensures.bytes
