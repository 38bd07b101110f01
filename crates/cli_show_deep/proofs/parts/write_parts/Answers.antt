use Rattle.cli_show_deep.specs.Parts.{comma, thing_text}
use Rattle.cli_show_deep.proofs.ThingsJoined.{appends_thing}
use Rattle.cli_show_deep.proofs.parts.write_parts.Goals as goal

pub loop-i-preserved : goal.loop-i-preserved
loop-i-preserved g c =
    let written = g.W.Write.contents in
    appends_thing (written c.args.out.now) (written c.loop-i.out) (written c.write_separator.new.out) (written c.write_of.new.out)
    comma (thing_text c.args.schema.now) c.args.listed.now c.loop-i.i _ c.loop-i-test.true c.loop-i.invariant c.in_ok-write_separator.ensures c.in_ok-write_of.ensures
