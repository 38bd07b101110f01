use Rattle.std.proofs.Common.{◌≡◌, ◌≢◌, ◌-◌, ◌*◌, ◌∙◌, sym, ap}
use Rattle.sqview.specs.Laid.{part_or_zeros, place_of}
use Rattle.sqview.proofs.file.FileHeads.{page_is_part}
use Rattle.sqview.proofs.openings.PagesOfView.{page_own, page_logged, on_ok}
use Rattle.sqview.proofs.view.View.read.Goals as goal

pub returns-then-at-eq0-clause-read : goal.returns-then-at-eq0-clause-read
returns-then-at-eq0-clause-read g c = λ right.
    let v = c.args.self.now in
    let file = g.F.FileBytes.bytes v.db in
    let none : place_of v.places.items c.args.p ≡ 0 = sym c.place-at.ensures ∙ c.if-at-eq0.true in
    on_ok c.read_at.result (λ read.
    read ∙ ap (λ n. part_or_zeros n (c.from.result * c.from-size.result) file) c.requires.1
    ∙ ap (λ n. part_or_zeros v.page_size (n * c.from-size.result) file) c.from.ensures
    ∙ ap (λ n. part_or_zeros v.page_size ((c.args.p - 1) * n) file) (c.from-size.ensures ∙ c.get.ensures.value)
    ∙ page_is_part v.page_size c.args.p file
    ∙ sym (page_own v.page_size v.count file (g.F.FileBytes.bytes v.log) v.places.items c.args.p c.requires.0.0 c.requires.0.1 none))
    (c.read_at.ensures.read right.0)

pub returns-clause-read : goal.returns-clause-read
returns-clause-read g c = λ right.
    let v = c.args.self.now in
    let log = g.F.FileBytes.bytes v.log in
    let some : place_of v.places.items c.args.p ≢ 0 = λ z. c.if-at-eq0.false (c.place-at.ensures ∙ z) in
    on_ok c.read_at-2.result (λ read.
    read ∙ ap (λ n. part_or_zeros n c.place-at.result log) c.requires.1
    ∙ ap (λ n. part_or_zeros v.page_size n log) c.place-at.ensures
    ∙ sym (page_logged v.page_size v.count (g.F.FileBytes.bytes v.db) log v.places.items c.args.p c.requires.0.0 c.requires.0.1 some))
    (c.read_at-2.ensures.read right.1)
