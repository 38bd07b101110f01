use Rattle.std.proofs.Common.{◌≡◌, ◌<◌, ℕ, length, get_or}
use Rattle.rig_store.proofs.image.all_changes.Given as goal

abbrev pub invariant-loop : goal.invariant-loop
invariant-loop l = record {
  count : length l.stands.items ≡ l.counter;
  each : (j : ℕ) → j < l.counter → get_or l.stands.items j 0 ≡ length l.store.log.items;
}
