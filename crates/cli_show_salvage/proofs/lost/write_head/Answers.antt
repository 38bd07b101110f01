use Rattle.std.proofs.Common.{◌++◌, codes}
use Rattle.std.proofs.KnownBytes.{Appends-trans}
use Rattle.std.proofs.lemmas.Result.{on_ok_weaker}
use Rattle.cli_row_text.specs.Lines.{between_marks}
use Rattle.cli_show_salvage.proofs.lost.write_head.Goals as goal

pub returns : goal.returns
returns g c =
    let old = g.W.Write.contents c.args.out.now in
    let begun = g.W.Write.contents c.write_all.new.self in
    let named = g.W.Write.contents c.write_between.new.out in
    let new = g.W.Write.contents c.write_all-2.new.self in
    let name = between_marks 34 c.args.name.now in
    on_ok_weaker c.write_all-2.result (λ last. Appends-trans old begun new (codes "INSERT OR ABORT INTO ") (name ++ codes "(rootpgno,pgno,nfield,id") c.in_ok-write_all.ensures.bytes
    (Appends-trans begun named new name (codes "(rootpgno,pgno,nfield,id") c.in_ok-write_between.ensures last)) c.write_all-2.ensures.bytes
