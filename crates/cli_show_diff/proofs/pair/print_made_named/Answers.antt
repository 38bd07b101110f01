use Rattle.std.proofs.Common.{◌∙◌, OnOk, ap, inl, subst, sym}
use Rattle.std.specs.Prelude.{IfErr}
use Rattle.sqval.specs.Database.{Database}
use Rattle.sqdeep.specs.Records.{encoding_of}
use Rattle.cli_show_diff.specs.declared.form.ChangeForm.TheVariants.{Sql}
use Rattle.cli_show_diff.specs.Pairs.{IsMadePrinted, IsMadeStopped}
use Rattle.cli_show_diff.proofs.FramesPrinted.{unheaded}
use Rattle.cli_show_diff.proofs.pair.print_made_named.Goals as goal

pub returns-in-Ok-clause-ok : goal.returns-in-Ok-clause-ok
returns-in-Ok-clause-ok g c = λ gives.
    let old = g.W.Write.contents c.args.out.now in
    let new = g.W.Write.contents c.print_made_in.new.out in
    let k = c.in-Ok.ensures.keeps in
    let is = c.in-Ok.ensures.ok gives ∙ sym (ap encoding_of k.same_pages) in
    subst (λ (x : Database). OnOk c.print_made_in.result (IsMadePrinted x Sql c.args.table.now old new)) k.same_pages (c.print_made_in.ensures.ok (k.still_gives gives) is)

pub returns-in-Ok-clause-err : goal.returns-in-Ok-clause-err
returns-in-Ok-clause-err g c = λ gives.
    let old = g.W.Write.contents c.args.out.now in
    let new = g.W.Write.contents c.print_made_in.new.out in
    let k = c.in-Ok.ensures.keeps in
    let is = c.in-Ok.ensures.ok gives ∙ sym (ap encoding_of k.same_pages) in
    subst (λ (x : Database). IfErr c.print_made_in.result (λ stop. IsMadeStopped x Sql c.args.table.now stop old new)) k.same_pages (c.print_made_in.ensures.err (k.still_gives gives) is)

pub returns-in-Err-clause-err : goal.returns-in-Err-clause-err
returns-in-Err-clause-err g c = λ gives. inl (unheaded c.in-Err.stop (g.W.Write.contents c.args.out.now) (c.in-Err.ensures.err gives))
