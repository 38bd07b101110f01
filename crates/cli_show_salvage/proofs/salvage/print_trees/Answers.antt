use Rattle.std.proofs.Common.{true, sym, subst}
use Rattle.std.proofs.lemmas.Result.{on_ok_weaker}
use Rattle.sqval.specs.Database.{Database}
use Rattle.sqsalvage.specs.SalvageCursor.{IsOver}
use Rattle.cli_show_salvage.specs.Scripts.{AreTurnsSalvaged, IsUnreachedEnded}
use Rattle.cli_show_salvage.proofs.Kept.{kept_more}
use Rattle.cli_show_salvage.proofs.salvage.print_trees.Goals as goal

pub returns-in-Ok-print_turn-clause-ok : goal.returns-in-Ok-print_turn-clause-ok
returns-in-Ok-print_turn-clause-ok g c = λ right over.
    let P = g.S.PageSource in
    let turn = c.args.turn in
    let first = c.in-Ok.ensures in
    let second = c.in-Ok-print_turn.ensures in
    let users = c.print_turn.new.salvage in
    let own = c.print_turn-2.new.salvage in
    let users_done = g.W.Write.contents c.print_turn.new.out in
    let own_done = g.W.Write.contents c.print_turn-2.new.out in
    let after = g.W.Write.contents c.print_unreached.new.out in
    let one = first.keeps in
    let both = kept_more P.pages P.size P.reads_right P.gives_pages c.args.source.now c.print_turn.new.source c.print_turn-2.new.source one second.keeps in
    let over_users = subst (λ (x : Database). IsOver x users) (sym one.same_pages) (first.over right over) in
    let told = second.ok (one.still_right right) over_users in
    let over_own = second.over (one.still_right right) over_users in
    let over_both = subst (λ (x : Database). IsOver x own) (sym second.keeps.same_pages) over_own in
    on_ok_weaker c.print_unreached.result (λ ended. record {
      users_passed = users.marks.items;
      users_book = c.print_turn.new.book;
      users_done = users_done;
      users = first.ok right over;
      own_passed = own.marks.items;
      own_book = c.print_turn-2.new.book;
      own_done = own_done;
      own = subst (λ (x : Database). AreTurnsSalvaged x turn.encoding turn.lost.now turn.places true users.marks.items c.print_turn.new.book users_done turn.objects.now own.marks.items c.print_turn-2.new.book own_done) one.same_pages told;
      ended = subst (λ (x : Database). IsUnreachedEnded x turn.encoding turn.lost.now turn.places own.marks.items c.print_turn-2.new.book own_done after) both.same_pages ended;
    }) (c.print_unreached.ensures.ok (both.still_right right) over_both)
