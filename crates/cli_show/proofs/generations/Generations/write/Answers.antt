use Rattle.std.proofs.Common.{◌+◌, List, take, sym, subst}
use Rattle.std.specs.Io.KnownBytes.{Appends}
use Rattle.std.proofs.KnownBytes.{Appends-nil}
use Rattle.std.proofs.lemmas.List.{take_more}
use Rattle.std.specs.List.{flat_map}
use Rattle.cli_show.specs.Generations.{generation_text}
use Rattle.cli_show.specs.declared.generations.Generation.{Generation}
use Rattle.cli_show.proofs.LinesOfPages.{appends_line}
use Rattle.cli_show.proofs.generations.Generations.write.Goals as goal

pub loop-generation-init : goal.loop-generation-init
loop-generation-init g c = Appends-nil (g.W.Write.contents c.args.out.now)

pub loop-generation-preserved : goal.loop-generation-preserved
loop-generation-preserved g c =
    let text = generation_text c.args.style in
    let xs = c.deref-generation-items.result.now in
    let i = c.loop-generation.generation-index in
    let old = g.W.Write.contents c.args.out.now in
    let mid = g.W.Write.contents c.loop-generation.out in
    let new = g.W.Write.contents c.write_generation.new.out in
    let same = c.deref-generation-items.ensures.value in
    let before = subst (λ (l : List Generation). Appends old mid (flat_map text (take i l))) (sym same) c.loop-generation.invariant in
    let more = take_more xs i _ c.loop-generation-test.true in
    subst (λ (l : List Generation). Appends old new (flat_map text (take (i + 1) l))) same
    (subst (λ (l : List Generation). Appends old new (flat_map text l)) (sym more)
    (appends_line old mid new text (take i xs) _ before c.in_ok-write_generation.ensures))
