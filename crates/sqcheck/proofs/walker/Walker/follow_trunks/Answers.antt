use Rattle.sqcheck.proofs.Facts.{[], begins_root, begins_trunk, false, first_root_spot, first_trunk_spot, refl, sym, ◌∙◌, ◌∷◌}
use Rattle.sqcheck.proofs.walker.Walker.follow_trunks.Goals as goal

pub returns-then-first-eq0-clause-walks : goal.returns-then-first-eq0-clause-walks
returns-then-first-eq0-clause-walks g c = λ right e new.
    let k = c.args.self.now in
    ([], begins_root g.V.Snapshot.pages k.uses.marks.items k.uses.counts k.walk.rows.items k.marks new.marks new.rows new.trees new.btree new.overflow new.free new.largest (sym e ∙ c.if-first-eq0.true), refl)

pub returns-clause-walks : goal.returns-clause-walks
returns-clause-walks g c = λ right e new.
    let d = g.V.Snapshot.pages in
    let k = c.args.self.now in
    c.follow_from.ensures.walks right false [] (first_root_spot ∷ []) (first_trunk_spot d)
    (begins_trunk d k.uses.marks.items k.uses.counts k.walk.rows.items k.marks new.marks new.rows new.trees new.btree new.overflow new.free new.largest (λ z. c.if-first-eq0.false (e ∙ z)))
    (record { page = e; stands = refl; role = refl; proper = tt; kind = refl }) tt
