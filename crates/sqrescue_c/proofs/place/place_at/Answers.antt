use Rattle.std.proofs.Common.{◌-◌, ◌*◌, ◌∙◌, ap, refl, sym}
use Rattle.sqrescue_c.proofs.ReportedView.{own, logged}
use Rattle.sqrescue_c.proofs.place.place_at.Goals as goal

pub returns-then-at-eq0 : goal.returns-then-at-eq0
returns-then-at-eq0 c =
    let h = c.args.handle.now in
    let p = c.args.p in
    sym (own h.page_size h.pages h.db.now h.log.now h.places.now p c.requires.one c.requires.most h.page_size refl
    (c.from.result * c.from-then-at-eq0.result)
    (ap (λ n. n * c.from-then-at-eq0.result) c.from.ensures ∙ ap (λ n. (p - 1) * n) c.from-then-at-eq0.ensures)
    (sym c.place-at.ensures ∙ c.if-at-eq0.true))

pub returns : goal.returns
returns c =
    let h = c.args.handle.now in
    sym (logged h.page_size h.pages h.db.now h.log.now h.places.now c.args.p c.requires.one c.requires.most h.page_size refl
    c.place-at.result c.place-at.ensures (λ z. c.if-at-eq0.false (c.place-at.ensures ∙ z)))
