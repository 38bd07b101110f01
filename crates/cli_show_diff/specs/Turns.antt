-- The changes of tables, one behind the other, as they are printed (own).
use Rattle.std.specs.Prelude.{◌≡◌, ◌⊎◌, ℕ, Bool, List, [], ◌∷◌, take, slice_get, Option, Some, None, All, MatchOption}
use Rattle.std.specs.Borrow.{Bor}
use Rattle.std.specs.List.{Contains}
use Rattle.sqval.specs.Database.{Database}
use Rattle.sqtables.specs.declared.list.Object.{Object}
use Rattle.sqtables.specs.Objects.{IsTable, IsTableNamed}
use Rattle.cli_show_rows.specs.declared.stop.Stop.{Stop}
use Rattle.cli_show_rows.specs.Dumps.{is_internal}
use Rattle.cli_show_diff.specs.declared.form.ChangeForm.{ChangeForm}
use Rattle.cli_show_diff.specs.declared.pair.Pair.{Pair}
use Rattle.cli_show_diff.specs.declared.turn.Turn.{Turn}
use Rattle.cli_show_diff.specs.declared.turn.Side.{Side}
use Rattle.cli_show_diff.specs.declared.turn.Side.TheVariants.{Old, New}
use Rattle.cli_show_diff.specs.Pairs.{IsPairPrinted, IsPairStopped}

-- a table of the user's, or of SQLite's own
abbrev pub IsAmong : (internal : Bool) → Object → Type 0
IsAmong internal o = IsTable o × (is_internal o.name.items ≡ internal)

-- a table of this name in the other database, if there is one
abbrev pub IsFound : (name : List ℕ) → List Object → Option (Bor Object) → Type 0
IsFound name others found = MatchOption found (All (λ o. ¬ IsTableNamed name o) others) (λ o. IsTableNamed name o.now × Contains others o.now)

-- Each such table of the old database has its turn, and of the new one each that the old one lacks.
abbrev pub IsInTurnOf : Side → (internal : Bool) → (others : List Object) → Object → Type 0
IsInTurnOf Old internal others o = IsAmong internal o
IsInTurnOf New internal others o = IsAmong internal o × All (λ p. ¬ IsTableNamed o.name.items p) others

abbrev pub IsInTurn : Turn → Object → Type 0
IsInTurn turn o = IsInTurnOf turn.side turn.internal turn.others.now o

-- the table as both databases have it
abbrev pub IsPairOfSide : Side → (others : List Object) → Object → Pair → Type 0
IsPairOfSide Old others o pair = (was : Bor Object) × (pair.old ≡ Some was) × (was.now ≡ o) × IsFound o.name.items others pair.new
IsPairOfSide New others o pair = (is : Bor Object) × (pair.old ≡ None) × (pair.new ≡ Some is) × (is.now ≡ o)

abbrev pub IsPairOf : Turn → Object → Pair → Type 0
IsPairOf turn o pair = IsPairOfSide turn.side turn.others.now o pair

-- The changes of a table were printed in its turn, and nothing in another one.
abbrev pub IsAtPrinted : Database → Database → Turn → ChangeForm → Object → (before after : Option (List ℕ)) → Type 0
IsAtPrinted d e turn form o before after =
    (IsInTurn turn o × ((pair : Pair) × IsPairOf turn o pair × IsPairPrinted d e pair form before after))
    ⊎ ((¬ IsInTurn turn o) × (before ≡ after))

abbrev pub IsAtStopped : Database → Database → Turn → ChangeForm → Object → Stop → (before after : Option (List ℕ)) → Type 0
IsAtStopped d e turn form o stop before after = IsInTurn turn o × ((pair : Pair) × IsPairOf turn o pair × IsPairStopped d e pair form stop before after)

-- Those of these objects whose turn it is were printed, each once and in their order.
abbrev pub AreTurnsPrinted : Database → Database → Turn → ChangeForm → List Object → (before after : Option (List ℕ)) → Type 0
AreTurnsPrinted d e turn form [] before after = before ≡ after
AreTurnsPrinted d e turn form (o ∷ objects) before after =
    (mid : Option (List ℕ)) × IsAtPrinted d e turn form o before mid × AreTurnsPrinted d e turn form objects mid after

-- They were up to object i, at which the printing stopped.
abbrev pub AreTurnsStopped : Database → Database → Turn → ChangeForm → List Object → Stop → (before after : Option (List ℕ)) → Type 0
AreTurnsStopped d e turn form objects stop before after =
    (i : ℕ) × (o : Object) × (mid : Option (List ℕ)) × (slice_get objects i ≡ Some o) × AreTurnsPrinted d e turn form (take i objects) before mid
    × IsAtStopped d e turn form o stop mid after
