use Rattle.std.proofs.Common.{List, ℕ, Option, Bor, OnOk, subst, sym}
use Rattle.std.specs.Prelude.{IfErr}
use Rattle.cli_show_places.specs.Places.{ArePlacesPrinted, name_of}
use Rattle.cli_show_places.specs.Stops.{ArePlacesStopped}
use Rattle.cli_show_places.proofs.places.print_wanted.Goals as goal

pub returns-in-Some-clause-ok : goal.returns-in-Some-clause-ok
returns-in-Some-clause-ok g c = λ right tells.
    let d = g.S.PageSource.pages c.args.source.now in
    let old = g.W.Write.contents c.args.out.now in
    let new = g.W.Write.contents c.print_one.new.out in
    subst (λ (table : Option (Bor (List ℕ))). OnOk c.print_one.result (ArePlacesPrinted d g.S.Framed.frames c.args.style (name_of table) old new)) (sym c.in-Some.is) (c.print_one.ensures.ok right tells)

pub returns-in-Some-clause-err : goal.returns-in-Some-clause-err
returns-in-Some-clause-err g c = λ right tells.
    let d = g.S.PageSource.pages c.args.source.now in
    let old = g.W.Write.contents c.args.out.now in
    let new = g.W.Write.contents c.print_one.new.out in
    subst (λ (table : Option (Bor (List ℕ))). IfErr c.print_one.result (λ stop. ArePlacesStopped d g.S.Framed.frames c.args.style (name_of table) stop old new)) (sym c.in-Some.is) (c.print_one.ensures.err right tells)

pub returns-in-None-clause-ok : goal.returns-in-None-clause-ok
returns-in-None-clause-ok g c = λ right tells.
    let d = g.S.PageSource.pages c.args.source.now in
    let old = g.W.Write.contents c.args.out.now in
    let new = g.W.Write.contents c.print_each.new.out in
    subst (λ (table : Option (Bor (List ℕ))). OnOk c.print_each.result (ArePlacesPrinted d g.S.Framed.frames c.args.style (name_of table) old new)) (sym c.in-None.is) (c.print_each.ensures.ok right tells)

pub returns-in-None-clause-err : goal.returns-in-None-clause-err
returns-in-None-clause-err g c = λ right tells.
    let d = g.S.PageSource.pages c.args.source.now in
    let old = g.W.Write.contents c.args.out.now in
    let new = g.W.Write.contents c.print_each.new.out in
    subst (λ (table : Option (Bor (List ℕ))). IfErr c.print_each.result (λ stop. ArePlacesStopped d g.S.Framed.frames c.args.style (name_of table) stop old new)) (sym c.in-None.is) (c.print_each.ensures.err right tells)
