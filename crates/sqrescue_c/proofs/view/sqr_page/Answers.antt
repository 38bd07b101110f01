use Rattle.std.proofs.Common.{◌≡◌, ◌≤◌, ◌-◌, ◌*◌, ◌∙◌, length, ap, arith, sym}
use Rattle.sqrescue_c.proofs.ReportedView.{own, logged}
use Rattle.sqrescue_c.proofs.view.sqr_page.Goals.{then-at-eq0, else-at-eq0}
use Rattle.sqrescue_c.proofs.view.sqr_page.Goals as goal

pub returns-clause-content : goal.returns-clause-content
returns-clause-content c = λ _.
    let h = c.args.handle.now in
    let p = c.args.p in
    let one : 1 ≤ c.args.p = omega arith in
    let most : c.args.p ≤ c.args.handle.now.pages = omega arith in
    let room : length c.args.out.now ≡ c.args.handle.now.page_size = omega arith in
    elim c.if-at-eq0.branch [
      | then-at-eq0 w ↦ w.out-is ∙ w.copy_part.ensures
          ∙ own h.page_size h.pages h.db.now h.log.now h.places.now p one most (length c.args.out.now) room (w.from.result * w.from-then-at-eq0.result)
          (ap (λ n. n * w.from-then-at-eq0.result) w.from.ensures ∙ ap (λ n. (p - 1) * n) w.from-then-at-eq0.ensures)
          (sym c.place-at.ensures ∙ w.if-at-eq0.true)
      | else-at-eq0 w ↦ w.out-is ∙ w.copy_part-else-at-eq0.ensures
          ∙ logged h.page_size h.pages h.db.now h.log.now h.places.now p one most (length c.args.out.now) room c.place-at.result
          c.place-at.ensures (λ z. w.if-at-eq0.false (c.place-at.ensures ∙ z))
    ]
