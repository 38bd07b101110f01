use Rattle.std.proofs.Common.{List, subst}
use Rattle.std.proofs.lemmas.List.{take_all}
use Rattle.std.specs.List.{flat_map}
use Rattle.std.specs.Io.KnownBytes.{Appends}
use Rattle.rig_missing.specs.declared.missing.Missing.{Missing}
use Rattle.sqcrash.specs.Lines.{missing_text}
use Rattle.sqcrash.proofs.AppendedBytes.{appends_none, appends_next}
use Rattle.sqcrash.proofs.explained.write_each.Goals as goal

pub loop-call-init : goal.loop-call-init
loop-call-init g c = appends_none (g.O.Write.contents c.args.out.now)

pub loop-call-preserved : goal.loop-call-preserved
loop-call-preserved g c =
    appends_next (missing_text c.args.style) c.args.missing.now c.loop-call.call-index c.call-item.result c.call-item.result (g.O.Write.contents c.args.out.now) (g.O.Write.contents c.loop-call.out)
    (g.O.Write.contents c.write_missing.new.out) c.loop-call-test.true c.call-item.is c.loop-call.invariant c.in_ok-write_missing.ensures

pub returns : goal.returns
returns g c =
    subst (λ (l : List Missing). Appends (g.O.Write.contents c.args.out.now) (g.O.Write.contents c.loop-call.out) (flat_map (missing_text c.args.style) l))
    (take_all c.loop-call.call-index c.args.missing.now c.loop-call-test.false) c.loop-call.invariant
