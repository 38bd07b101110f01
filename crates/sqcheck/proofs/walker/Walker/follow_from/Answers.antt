use Rattle.sqcheck.proofs.Facts.{None, Walk, [], ap, refl, starts_walk, ◌++◌, ◌∙◌, ◌∷◌}
use Rattle.sqcheck.proofs.walker.Walker.follow_from.Goals as goal

pub returns-clause-walks : goal.returns-clause-walks
returns-clause-walks g c = λ right late visited rest s stood is leads.
    let k = c.args.self.now in
    let walk : Walk = record { stack = c.push.new.stack; rows = k.walk.rows; leaf_level = None } in
    c.walk_on.ensures.walks right late visited rest (starts_walk g.V.Snapshot.pages late c.args.tree.now visited rest s k.uses k.walk.rows.items walk c.args.item stood is leads
    (c.in_ok-push.ensures.ok ∙ ap (λ l. l ++ c.args.item ∷ []) c.clear.ensures.items) refl refl)
