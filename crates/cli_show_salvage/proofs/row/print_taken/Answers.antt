use Rattle.std.proofs.Common.{◌∙◌, rules, SFits, subst, to_z-of_z, w64}
use Rattle.std.specs.Prelude.{ℤ}
use Rattle.std.proofs.lemmas.Result.{on_ok_weaker}
use Rattle.cli_show_salvage.specs.Books.{Adds}
use Rattle.cli_show_salvage.proofs.row.print_taken.Goals as goal

pub returns-clause-ok : goal.returns-clause-ok
returns-clause-ok g c =
    let fits : SFits w64 c.id_of.result = search rules in
    let adds = subst (λ (id : ℤ). Adds id c.args.book.now c.add.new.self) (to_z-of_z fits ∙ c.id_of.ensures) c.in-Ok.ensures in
    on_ok_weaker c.write_taken.result (λ w. (adds, g.W.Write.contents c.print_placed.new.out, w.0, c.in-Ok-print_placed.ensures.ok, w.1, w.2)) c.write_taken.ensures.ok
