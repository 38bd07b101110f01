use Rattle.std.proofs.Common.{codes}
use Rattle.std.proofs.KnownBytes.{Appends-trans}
use Rattle.std.proofs.lemmas.Result.{on_ok_weaker}
use Rattle.cli_words.specs.declared.requests.Style.TheVariants.{Lines}
use Rattle.cli_text.specs.Verdicts.{fault_text}
use Rattle.cli_show_salvage.proofs.faults.write_fault_line.Goals as goal

pub returns : goal.returns
returns g c =
    let old = g.W.Write.contents c.args.out.now in
    let begun = g.W.Write.contents c.write_all.new.self in
    let new = g.W.Write.contents c.write_fault.new.out in
    on_ok_weaker c.write_fault.result (λ last. Appends-trans old begun new (codes "-- ") (fault_text Lines c.args.error.now) c.in_ok-write_all.ensures.bytes last) c.write_fault.ensures
