-- Schemas that are judged to their end.
use Rattle.std.proofs.Common.{◌≡◌, ◌∙◌, ℕ, Bool, true, List, sym, ap, subst}
use Rattle.std.specs.Prelude.{map, not}
use Rattle.std.proofs.Common.{take}
use Rattle.std.specs.List.{list_any}
use Rattle.std.specs.Str.{bytes_eq}
use Rattle.sqval.specs.Database.{Database}
use Rattle.sqschema.specs.declared.check.Schema.{Schema}
use Rattle.sqschema.specs.Items.{Item, seen}
use Rattle.sqschema.specs.Rules.{is_named_once, is_owned, space_of}
use Rattle.sqschema.specs.Roots.{HasTree}
use Rattle.sqschema.specs.Schema.{AreSoundItems, AreAsides, IsSchemaOf}
use Rattle.sqschema.specs.internal.Judging.{AllAt, IsSoundAlone, key_of}
use Rattle.sqschema.specs.internal.Reading.{AreRead}

pub sound_schema : (d : Database) (xs : List Item) (schema : Schema) → xs ≡ map seen schema.items.items → AreRead d xs
    → AllAt (λ i x. IsSoundAlone x) xs → AllAt (λ i x. is_named_once xs i x ≡ true) xs → AllAt (λ i x. is_owned xs x ≡ true) xs
    → AllAt (λ i x. HasTree d x) xs → AreAsides xs schema.asides.items → IsSchemaOf d schema
sound_schema d xs schema are w alone once owned trees asides =
    let sound : AreSoundItems d xs = λ i x at. (let a = alone i x at in record { formed = a.formed; typed = a.typed; made = a.made; rooted = a.rooted; once = once i x at; owned = owned i x at; tree = trees i x at }) in
    record {
      rows = w.rows;
      has = w.has;
      items = sym are ∙ w.are;
      sound = subst (λ (xs : List Item). AreSoundItems d xs) w.are sound;
      asides = subst (λ (xs : List Item). AreAsides xs schema.asides.items) w.are asides;
    }

-- an item's name is new just where none before it has it
pub named_once : (xs : List Item) (i : ℕ) (x : Item) (held fresh : Bool) → held ≡ list_any (λ y. bytes_eq (key_of (space_of x) x.name) (key_of (space_of y) y.name)) (take i xs)
    → fresh ≡ not held → is_named_once xs i x ≡ fresh
named_once xs i x held fresh has is = sym (ap not has) ∙ sym is
