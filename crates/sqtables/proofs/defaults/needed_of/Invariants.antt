use Rattle.std.proofs.Common.{◌≡◌, ◌⊎◌, ◌<◌, ℕ, suc, true}
use Rattle.std.specs.Prelude.{slice_get}
use Rattle.sqtables.specs.Columns.{place_in}
use Rattle.sqtables.specs.Defaults.{is_unknown}
use Rattle.sqtables.proofs.defaults.needed_of.Given as goal

abbrev pub invariant-loop-j : goal.invariant-loop-j
invariant-loop-j l = record {
  known : (k : ℕ) → k < l.j → is_unknown (slice_get l.defaults k) ≡ true → place_in l.places k < l.needed;
  least : (l.needed ≡ 0) ⊎ ((k : ℕ) × (is_unknown (slice_get l.defaults k) ≡ true) × (l.needed ≡ suc (place_in l.places k)));
}
