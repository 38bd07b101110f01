use Rattle.std.proofs.Common.{◌≡◌, ℕ, List, true, take}
use Rattle.std.specs.Prelude.{map}
use Rattle.std.specs.List.{list_any}
use Rattle.std.specs.Str.{bytes_eq}
use Rattle.sqschema.specs.Items.{seen}
use Rattle.sqschema.specs.Rules.{is_named_once, space_of}
use Rattle.sqschema.specs.internal.Judging.{AllBelow, holds, key_of}
use Rattle.sqschema.proofs.owners.judge_names.Given as goal

abbrev pub invariant-items : goal.invariant-items
invariant-items l = record {
  held : (key : List ℕ) → holds l.names key ≡ list_any (λ y. bytes_eq key (key_of (space_of y) y.name)) (take l.i (map seen l.items));
  each : AllBelow (λ i x. is_named_once (map seen l.items) i x ≡ true) (map seen l.items) l.i;
}
