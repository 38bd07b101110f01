use Rattle.std.proofs.Common.{◌≡◌, ℕ, length, sym, ap, ◌∙◌, arith}
use Rattle.std.proofs.lemmas.Grind.{same_number_lists}
use Rattle.sqview.specs.internal.Places.{PlaceTable}
use Rattle.sqview.proofs.place.TableOfPlaces.{table_long}
use Rattle.sqview.proofs.place_table.Places.copy_to.Goals as goal

pub bounds-out-before : goal.bounds-out-before
bounds-out-before c =
    let count : ℕ = c.self.inside.count in
    let long : length c.args.self.now.items ≡ count = sym (ap (λ (t : PlaceTable). length t.items) c.self.view_is) ∙ table_long count c.self.inside.low.items c.self.inside.high in
    omega (arith, long, c.loop-before.invariant.long, c.loop-before-test.true)

pub returns : goal.returns
returns c =
    let count : ℕ = c.self.inside.count in
    let long : length c.args.self.now.items ≡ count = sym (ap (λ (t : PlaceTable). length t.items) c.self.view_is) ∙ table_long count c.self.inside.low.items c.self.inside.high in
    same_number_lists c.loop-before.out c.args.self.now.items c.loop-before.invariant.long
    (λ k lt. c.loop-before.invariant.copied k (omega (arith, lt, long, c.loop-before.invariant.long, c.loop-before-test.false)))
