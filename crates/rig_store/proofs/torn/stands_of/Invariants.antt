use Rattle.std.proofs.Common.{◌≡◌, ◌<◌, ℕ, length, get_or, true}
use Rattle.rig_store.specs.Left.{MayStand}
use Rattle.rig_store.specs.Names.{is_ordered}
use Rattle.rig_store.specs.Stores.{store_of}
use Rattle.rig_store.proofs.torn.stands_of.Given as goal

abbrev pub invariant-loop-other : goal.invariant-loop-other
invariant-loop-other g l = record {
  count : length l.stands.items ≡ l.other;
  each : (j : ℕ) → j < l.other → MayStand (store_of l.store) (get_or l.stands.items j 0) × (is_ordered l.store.meta ≡ true → get_or l.stands.items j 0 ≡ l.torn.stand) × (j ≡ l.torn.name → get_or l.stands.items j 0 ≡ l.torn.stand);
}
