use Rattle.std.proofs.Common.{◌≢◌, ◌-◌, ◌<◌, ◌≤◌, ℕ, List, length, subst, arith}
use Rattle.std.specs.Prelude.{slice_set}
use Rattle.sqview.specs.internal.Places.{Noted, PlaceTable, table_of}
use Rattle.sqview.proofs.place.TableOfPlaces.{noted_high, noted_low, table_kept}
use Rattle.sqview.proofs.place_table.Places.put.Goals as goal
use Rattle.sqview.proofs.place_table.Places.put.Goals.{then-page-eq0-via-then-page-eq0, then-page-eq0-via-else-page-eq0+then-page-self}

pub returns-then-page-eq0-clause-noted : goal.returns-then-page-eq0-clause-noted
returns-then-page-eq0-clause-noted c =
    let page : ℕ = c.args.page in
    let other : (p : ℕ) → 1 ≤ p → p ≤ c.self.inside.count → page ≢ p = elim c.then-page-eq0.branch [
      | then-page-eq0-via-then-page-eq0 w ↦ (λ p one le e. let zero = w.if-page-eq0.true in omega (arith, zero, e, one))
      | then-page-eq0-via-else-page-eq0+then-page-self w ↦ (λ p one le e. let above = w.if-page-self.true in omega (arith, above, e, le))
    ] in
    subst (λ (t : PlaceTable). Noted page c.args.at t.items t.items) c.self.view_is (table_kept c.self.inside.count c.self.inside.low.items c.self.inside.high page c.args.at other)

pub returns-then-index-len-clause-noted : goal.returns-then-index-len-clause-noted
returns-then-index-len-clause-noted c =
    let low : List ℕ = c.self.inside.low.items in
    let page : ℕ = c.args.page in
    let some : 1 ≤ page = omega (arith, c.if-page-eq0.false) in
    let within : page - 1 < length low = omega (arith, c.if-index-len.true, c.len.ensures, c.self.inside.low.ok) in
    subst (λ (t : PlaceTable). Noted page c.args.at t.items (table_of c.self.inside.count (slice_set low (page - 1) c.args.at) c.self.inside.high).items) c.self.view_is
    (noted_low c.self.inside.count low c.self.inside.high page c.args.at some within)

pub returns-clause-noted : goal.returns-clause-noted
returns-clause-noted c =
    let low : List ℕ = c.self.inside.low.items in
    let page : ℕ = c.args.page in
    let above : length low ≤ page - 1 = omega (arith, c.if-index-len.false, c.len.ensures, c.self.inside.low.ok) in
    subst (λ (t : PlaceTable). Noted page c.args.at t.items (table_of c.self.inside.count low c.insert.new.self).items) c.self.view_is
    (noted_high c.self.inside.count low c.self.inside.high c.insert.new.self page c.args.at above c.in_ok-insert.ensures.updates)
