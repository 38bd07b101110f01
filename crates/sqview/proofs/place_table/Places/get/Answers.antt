use Rattle.std.proofs.Common.{◌≡◌, ◌-◌, ◌≤◌, ℕ, List, sym, ap, ◌∙◌, arith}
use Rattle.std.specs.Prelude.{Some, None, slice_get, unwrap_or}
use Rattle.std.specs.Option.{option_copied}
use Rattle.sqwal.proofs.feed.ScanAnswers.{copied_get}
use Rattle.sqview.specs.Laid.{place_of}
use Rattle.sqview.specs.internal.Places.{PlaceTable}
use Rattle.sqview.proofs.place.TableOfPlaces.{place_high, place_low, table_past, table_place}
use Rattle.sqview.proofs.place_table.Places.get.Goals as goal

pub returns-then-p-self : goal.returns-then-p-self
returns-then-p-self c =
    sym (table_past c.self.inside.count c.self.inside.low.items c.self.inside.high c.args.p c.if-p-self.true) ∙ ap (λ (t : PlaceTable). place_of t.items c.args.p) c.self.view_is

pub returns-in-Some : goal.returns-in-Some
returns-in-Some c =
    let low : List ℕ = c.self.inside.low.items in
    let p : ℕ = c.args.p in
    let found : slice_get low (p - 1) ≡ Some c.in-Some.place.now =
    ap (λ (l : List ℕ). slice_get l (p - 1)) (sym c.deref.ensures.value) ∙ sym (copied_get c.deref.result.now (p - 1) c.get.result c.get.ensures.lookup) ∙ ap option_copied c.in-Some.is in
    let one : 1 ≤ p = omega (arith, c.requires) in
    sym (place_low low c.self.inside.high p c.in-Some.place.now found) ∙ sym (table_place c.self.inside.count low c.self.inside.high p one c.if-p-self.false)
    ∙ ap (λ (t : PlaceTable). place_of t.items p) c.self.view_is

pub returns-in-None : goal.returns-in-None
returns-in-None c =
    let low : List ℕ = c.self.inside.low.items in
    let p : ℕ = c.args.p in
    let none : slice_get low (p - 1) ≡ None =
    ap (λ (l : List ℕ). slice_get l (p - 1)) (sym c.deref.ensures.value) ∙ sym (copied_get c.deref.result.now (p - 1) c.get.result c.get.ensures.lookup) ∙ ap option_copied c.in-None.is in
    let one : 1 ≤ p = omega (arith, c.requires) in
    c.unwrap_or.ensures ∙ ap (λ o. unwrap_or o 0) (c.copied.ensures ∙ c.get-in-None.ensures.value)
    ∙ sym (place_high low c.self.inside.high p none) ∙ sym (table_place c.self.inside.count low c.self.inside.high p one c.if-p-self.false)
    ∙ ap (λ (t : PlaceTable). place_of t.items p) c.self.view_is
