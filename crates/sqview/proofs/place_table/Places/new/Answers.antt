use Rattle.std.proofs.Common.{◌≡◌, ℕ, List, replicate, ap}
use Rattle.std.specs.Prelude.{None}
use Rattle.std.specs.BTreeMap.{get, is_at}
use Rattle.std.specs.Map.{lookup}
use Rattle.std.specs.Ordering.{nat_cmp}
use Rattle.sqview.proofs.place.TableOfPlaces.{zero_within, table_empty, table_long}
use Rattle.sqview.proofs.place_table.Places.new.Goals as goal

pub returns-clause-empty : goal.returns-clause-empty
returns-clause-empty c =
    let low : List ℕ = c.in_ok-low.low.items in
    let zeros : low ≡ replicate c.min.result 0 = c.in_ok-low.ensures.items_if_clones_equal (λ y e. e) in
    let none : (p : ℕ) → get nat_cmp c.new.result p ≡ None = λ p. ap (λ es. lookup (is_at (nat_cmp p)) es) c.new.ensures.empty in (
      table_long c.args.count low c.new.result,
      table_empty c.args.count low c.new.result (zero_within low c.min.result zeros) none,
    )
