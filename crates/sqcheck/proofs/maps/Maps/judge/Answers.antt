use Rattle.sqcheck.proofs.Below.{ap, byte, entry_by, entry_once, kind_code, same_entry, sym, word, ◌+◌, ◌-◌, ◌∙◌}
use Rattle.sqcheck.proofs.maps.Maps.judge.Goals as goal

pub returns-in_default-clause-ok : goal.returns-in_default-clause-ok
returns-in_default-clause-ok g c = λ right auto entry at.
    let s = c.args.self.now in
    let known = s.known right.0 in
    absurd (c.in_default.ensures entry (entry_by g.V.Snapshot.pages c.args.item s.page_size (s.page_size - s.reserved) entry known.long known.usable at))

pub returns-clause-ok : goal.returns-clause-ok
returns-clause-ok g c = λ right auto entry at.
    let d = g.V.Snapshot.pages in
    let s = c.args.self.now in
    let known = s.known right.0 in
    let place = c.in-Some.field-0 in
    let bytes = c.deref.ensures.value ∙ c.in_ok-read.ensures.read right.0 in
    let says = c.says.ensures.0 c.if-not-says.false in
    same_entry d c.args.item place entry
    (entry_once s.page_size (s.page_size - s.reserved) c.args.item.page place entry c.in-Some.ensures (entry_by d c.args.item s.page_size (s.page_size - s.reserved) entry known.long known.usable at))
    (ap (λ l. byte l place.at) (sym bytes) ∙ says.0 ∙ ap kind_code c.entry_of.ensures.kind, ap (λ l. word l (place.at + 1)) (sym bytes) ∙ says.1 ∙ c.entry_of.ensures.parent)
