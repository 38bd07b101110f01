use Rattle.std.proofs.Common.{None, true, refl}
use Rattle.std.proofs.lemmas.Result.{on_ok_weaker}
use Rattle.cli_show_salvage.specs.declared.book.Going.TheVariants.{Lost}
use Rattle.cli_show_salvage.proofs.salvage.print_unreached.Goals as goal

pub returns-in-Ok-clause-ok : goal.returns-in-Ok-clause-ok
returns-in-Ok-clause-ok g c = λ right over.
    on_ok_weaker c.print_text.result (λ ended. record {
      target = record { lost = c.args.turn.lost; root = None; table = true; going = Lost; places = c.args.turn.places; encoding = c.args.turn.encoding };
      lost_is = refl;
      placed = refl;
      encoded = refl;
      unrooted = refl;
      goes = refl;
      last_book = c.print_lost_leaves.new.book;
      rows_done = g.W.Write.contents c.print_lost_leaves.new.out;
      unreached = c.in-Ok.ensures.ok right over;
      commits = ended;
    }) c.print_text.ensures.ok
