use Rattle.std.proofs.Common.{List, ℕ, subst}
use Rattle.std.specs.Io.KnownBytes.{Appends}
use Rattle.std.proofs.lemmas.Result.{IfOk-weaker}
use Rattle.cli_show_salvage.specs.Lost.{made_text}
use Rattle.cli_show_salvage.specs.Scripts.{AreOthersCounted, AreRowsSalvaged, AreTreesEnded}
use Rattle.cli_show_salvage.proofs.salvage.print_rows.Goals as goal

pub returns-in-Ok-print_trees-clause-ok : goal.returns-in-Ok-print_trees-clause-ok
returns-in-Ok-print_trees-clause-ok g c = λ right over.
    let d = g.S.PageSource.pages c.args.source.now in
    let before = g.W.Write.contents c.args.out.now in
    let made = g.W.Write.contents c.write_made.new.out in
    let committed = g.W.Write.contents c.print_trees.new.out in
    let begun = c.new-book.result in
    let after = g.W.Write.contents c.print_behind.new.out in
    IfOk-weaker c.print_behind.result (λ left. AreOthersCounted c.args.how.encoding c.args.objects.now left committed after)
    (λ left. AreRowsSalvaged d c.args.how.encoding c.args.how.places c.args.objects.now c.args.salvage.now.marks.items left before after) (λ left others. record {
      lost = c.in-Ok.lost.items;
      named = c.in-Ok.ensures.ok;
      made = made;
      makes = subst (λ (name : List ℕ). Appends before made (made_text name)) c.deref.ensures.value c.in-Ok-write_made.ensures;
      begun = begun;
      narrow = c.new-book.ensures.width;
      committed = committed;
      trees = subst (λ (name : List ℕ). AreTreesEnded d c.args.how.encoding name c.args.how.places c.args.objects.now c.args.salvage.now.marks.items begun made committed) c.deref-2.ensures.value
          (c.in-Ok-print_trees.ensures.ok right over);
      others = others;
    }) c.print_behind.ensures.ok
