use Rattle.std.proofs.Common.{List, map, subst}
use Rattle.std.proofs.lemmas.List.{take_all}
use Rattle.std.specs.Io.KnownBytes.{Appends}
use Rattle.std.specs.String.{string_bytes}
use Rattle.rig_store.specs.declared.differing.Difference.{Difference}
use Rattle.sqcrash_store.specs.Lines.{difference_text, differences_text}
use Rattle.sqcrash_store.proofs.AppendedBytes.{appends_none, appends_next}
use Rattle.sqcrash_store.proofs.lines.write_differences.Goals as goal

pub loop-difference-init : goal.loop-difference-init
loop-difference-init g c = appends_none (g.O.Write.contents c.args.out.now)

pub loop-difference-preserved : goal.loop-difference-preserved
loop-difference-preserved g c =
    appends_next (difference_text (map (λ n. string_bytes n) c.args.names.now)) c.args.differences.now c.loop-difference.difference-index c.difference-item.result c.difference-item.result
    (g.O.Write.contents c.args.out.now) (g.O.Write.contents c.loop-difference.out) (g.O.Write.contents c.write_difference.new.out)
    c.loop-difference-test.true c.difference-item.is c.loop-difference.invariant c.in_ok-write_difference.ensures

pub returns : goal.returns
returns g c =
    subst (λ (l : List Difference). Appends (g.O.Write.contents c.args.out.now) (g.O.Write.contents c.loop-difference.out) (differences_text (map (λ n. string_bytes n) c.args.names.now) l))
    (take_all c.loop-difference.difference-index c.args.differences.now c.loop-difference-test.false) c.loop-difference.invariant
