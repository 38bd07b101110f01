use Rattle.std.proofs.Common.{◌≡◌, ◌<◌, ℕ, length, get_or, true}
use Rattle.rig_store.specs.Left.{MayStand}
use Rattle.rig_store.specs.Names.{is_ordered}
use Rattle.rig_store.specs.Stores.{store_of}
use Rattle.rig_store.proofs.image.draw_stands.Given as goal

abbrev pub invariant-loop : goal.invariant-loop
invariant-loop g l = record {
  count : length l.stands.items ≡ l.counter;
  each : (j : ℕ) → j < l.counter → MayStand (store_of l.fn.store) (get_or l.stands.items j 0) × (is_ordered l.fn.store.meta ≡ true → get_or l.stands.items j 0 ≡ l.all);
}
