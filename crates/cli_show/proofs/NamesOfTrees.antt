-- The name of a tree, by the names that were found.
use Rattle.std.proofs.Common.{◌≡◌, ◌≢◌, ℕ, List, Bor, map, refl, sym, ◌∙◌, ap, inr}
use Rattle.std.specs.Prelude.{slice_get, string_bytes, IfNone, IfSome, Option, None, Some, option_map}
use Rattle.std.proofs.lemmas.Option.{slice_get-map, none-some}
use Rattle.cli_show.specs.Names.{IsTreeName}
use Rattle.cli_show.specs.declared.names.Name.{Name}

-- a root with its name
entry : Name → ℕ × List ℕ
entry x = (x.root, string_bytes x.name)

-- what is behind a name that was found
from_entry : (o : Option Name) (y : ℕ × List ℕ) → option_map entry o ≡ Some y → (x : Name) × (o ≡ Some x) × (x.root ≡ y.0)
unfolding entry
from_entry None y is = absurd (none-some y is)
from_entry (Some x) y is = let same : x.root ≡ y.0 = cc in (x, refl, same)

pub tree_name : (names : List Name) (root : ℕ) (name : Option (Bor (List ℕ))) → root ≢ 1
    → IfSome name (λ text. (i : ℕ) × (x : Name) × (slice_get names i ≡ Some x) × (x.root ≡ root) × (string_bytes x.name ≡ text.now))
    → IfNone name ((i : ℕ) (x : Name) → slice_get names i ≡ Some x → x.root ≢ root)
    → IsTreeName (map (λ x. (x.root, string_bytes x.name)) names) root name
unfolding entry
tree_name names root (Some text) other (i, x, at, same, is) missing =
    let here : ℕ × List ℕ = (root, text.now) in
    let there : entry x ≡ here = cc in
    inr (other, (i, slice_get-map entry names i ∙ ap (option_map entry) at ∙ ap (λ (y : ℕ × List ℕ). Some y) there))
tree_name names root None other there missing = (
  other,
  λ i text is.
      let found = from_entry (slice_get names i) (root, text) (sym (slice_get-map entry names i) ∙ is) in
      missing i found.0 found.1 found.2,
)
