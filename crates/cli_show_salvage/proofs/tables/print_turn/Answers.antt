use Rattle.std.proofs.Common.{◌∙◌, refl, sym, subst}
use Rattle.sqval.specs.Database.{Database}
use Rattle.sqtables.specs.declared.list.Object.{Object}
use Rattle.sqsalvage.specs.SalvageCursor.{IsOver}
use Rattle.cli_show_salvage.specs.Scripts.{IsTurnSalvaged, none}
use Rattle.cli_show_salvage.proofs.Kept.{kept_more, kept_same}
use Rattle.cli_show_salvage.proofs.ObjectsWritten.{turns_more}
use Rattle.cli_show_salvage.proofs.tables.print_turn.Goals as goal

pub loop-object-init : goal.loop-object-init
loop-object-init g c =
    let P = g.S.PageSource in
    record {
      kept = kept_same P.pages P.size P.reads_right P.gives_pages c.args.source.now;
      sized = refl;
      at = refl;
      ended = c.requires.ended;
      over = λ right over. over;
      told = λ right over. none;
    }

pub loop-object-preserved : goal.loop-object-preserved
loop-object-preserved g c =
    let P = g.S.PageSource in
    let i = c.loop-object.invariant in
    let e = c.in-Ok.ensures in
    let d = P.pages c.args.source.now in
    let s = c.loop-object.salvage in
    let moved = c.print_object.new.salvage in
    let mid = c.loop-object.book in
    let new = c.print_object.new.book in
    let at = g.W.Write.contents c.loop-object.out in
    let after = g.W.Write.contents c.print_object.new.out in
    let o = c.object-item.result in
    let turn = c.args.turn in
    record {
      kept = kept_more P.pages P.size P.reads_right P.gives_pages c.args.source.now c.loop-object.source c.print_object.new.source i.kept e.keeps;
      sized = e.same.0 ∙ i.sized;
      at = e.same.1 ∙ i.at;
      ended = e.ended;
      over = λ right over. subst (λ (x : Database). IsOver x moved) i.kept.same_pages
          (e.over (i.kept.still_right right) (subst (λ (x : Database). IsOver x s) (sym i.kept.same_pages) (i.over right over)));
      told = λ right over.
          let one = e.ok (i.kept.still_right right) (subst (λ (x : Database). IsOver x s) (sym i.kept.same_pages) (i.over right over)) in
          let here = subst (λ (x : Database). IsTurnSalvaged x turn.encoding turn.lost.now turn.places turn.own o s.marks.items moved.marks.items mid new at after) i.kept.same_pages one in
          let it = subst (λ (x : Object). IsTurnSalvaged d turn.encoding turn.lost.now turn.places turn.own x s.marks.items moved.marks.items mid new at after) c.object-item.is here in
          turns_more d turn.encoding turn.lost.now turn.places turn.own c.args.salvage.now.marks.items c.args.book.now (g.W.Write.contents c.args.out.now) turn.objects.now c.loop-object.object-index o
          s.marks.items moved.marks.items mid new at after c.loop-object-test.true (i.told right over) it;
    }
