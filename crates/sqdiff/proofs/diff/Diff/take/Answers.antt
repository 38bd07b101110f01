use Rattle.std.proofs.Common.{◌≡◌, ◌∙◌, sym, ap, subst, rules, SFits, w64, to_z-of_z}
use Rattle.std.specs.Prelude.{ℤ}
use Rattle.sqdiff.specs.declared.side.Side.{Side}
use Rattle.sqdiff.specs.declared.diff.Kind.TheVariants.{Inserted, Deleted}
use Rattle.sqdiff.specs.declared.turn.Turn.TheVariants.{Told}
use Rattle.sqdiff.specs.internal.Turns.{Turns}
use Rattle.sqdiff.proofs.TurnsOfWalk.{passed, takes_none, takes_old, takes_new}
use Rattle.sqdiff.proofs.diff.Diff.take.Goals as goal

pub returns-in-Neither-clause-ok : goal.returns-in-Neither-clause-ok
returns-in-Neither-clause-ok c = λ d e standing.
    takes_none d e c.args.self.now standing c.requires.seen.0 c.requires.seen.1 c.in-Neither.ensures.0 c.in-Neither.ensures.1

pub returns-in-Old-clause-ok : goal.returns-in-Old-clause-ok
returns-in-Old-clause-ok c = λ d e standing.
    let old = c.args.self.now in
    let fits : SFits w64 c.in-Old.id = search rules in
    let this : c.pass.new.self ≡ passed old.old_side c.in-Old.id = c.pass.ensures ∙ ap (λ (z : ℤ). passed old.old_side z) (to_z-of_z fits) in
    subst (λ (side : Side). Turns d e old (record { old_side = side; new_side = old.new_side }) (Told Deleted)) (sym this)
    (takes_old d e old c.in-Old.id standing c.in-Old.ensures.0 c.in-Old.ensures.1 c.requires.seen.1)

pub returns-in-New-clause-ok : goal.returns-in-New-clause-ok
returns-in-New-clause-ok c = λ d e standing.
    let old = c.args.self.now in
    let fits : SFits w64 c.in-New.id = search rules in
    let this : c.pass-in-New.new.self ≡ passed old.new_side c.in-New.id = c.pass-in-New.ensures ∙ ap (λ (z : ℤ). passed old.new_side z) (to_z-of_z fits) in
    subst (λ (side : Side). Turns d e old (record { old_side = old.old_side; new_side = side }) (Told Inserted)) (sym this)
    (takes_new d e old c.in-New.id standing c.in-New.ensures.0 c.in-New.ensures.1 c.requires.seen.0)
