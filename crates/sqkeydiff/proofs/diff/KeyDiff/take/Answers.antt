use Rattle.std.proofs.Common.{◌≡◌, sym, subst}
use Rattle.sqdiff.specs.declared.diff.Kind.TheVariants.{Inserted, Deleted}
use Rattle.sqkeydiff.specs.declared.side.Side.{Side}
use Rattle.sqkeydiff.specs.declared.turn.Turn.TheVariants.{Told}
use Rattle.sqkeydiff.specs.internal.Turns.{Turns}
use Rattle.sqkeydiff.proofs.TurnsOfWalk.{passed, takes_none, takes_old, takes_new}
use Rattle.sqkeydiff.proofs.diff.KeyDiff.take.Goals as goal

pub returns-in-Neither-clause-ok : goal.returns-in-Neither-clause-ok
returns-in-Neither-clause-ok c = λ d e standing.
    takes_none d e c.args.self.now standing c.requires.seen.0 c.requires.seen.1 c.in-Neither.ensures.0 c.in-Neither.ensures.1

pub returns-in-Old-clause-ok : goal.returns-in-Old-clause-ok
returns-in-Old-clause-ok c = λ d e standing.
    let old = c.args.self.now in
    let next = c.in-Old.ensures in
    let this : c.pass.new.self ≡ passed old.old_side next.0 = c.pass.ensures.passed next.0 next.1 in
    subst (λ (side : Side). Turns d e old (record old { old_side = side }) (Told Deleted)) (sym this)
    (takes_old d e old next.0 standing next.1 next.2 c.requires.seen.1)

pub returns-in-New-clause-ok : goal.returns-in-New-clause-ok
returns-in-New-clause-ok c = λ d e standing.
    let old = c.args.self.now in
    let next = c.in-New.ensures in
    let this : c.pass-in-New.new.self ≡ passed old.new_side next.0 = c.pass-in-New.ensures.passed next.0 next.1 in
    subst (λ (side : Side). Turns d e old (record old { new_side = side }) (Told Inserted)) (sym this)
    (takes_new d e old next.0 standing next.1 next.2 c.requires.seen.0)
