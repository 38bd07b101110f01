-- What the last rule says of one more rule.
use Rattle.std.proofs.Common.{◌≡◌, ◌∙◌, ◌<◌, ◌+◌, ℕ, refl, sym, ap, List, [], ◌∷◌, ◌++◌, length, get_or, take}
use Rattle.std.specs.Prelude.{Option, Some, None}
use Rattle.std.specs.Option.{option_or}
use Rattle.std.proofs.lemmas.List.{take_more}
use Rattle.sqlite_ast.specs.declared.Rule.{Rule}
use Rattle.sqdefaults.specs.Defaults.{last_said}

or_none : {A : Type 0} (a : Option A) → option_or a None ≡ a
or_none None = refl
or_none (Some x) = refl

or_assoc : {A : Type 0} (a b c : Option A) → option_or (option_or a b) c ≡ option_or a (option_or b c)
or_assoc None b c = refl
or_assoc (Some x) b c = refl

last_said_push : {A : Type 0} (says : Rule → Option A) (rules : List Rule) (rule : Rule) → last_said says (rules ++ rule ∷ []) ≡ option_or (says rule) (last_said says rules)
last_said_push says [] rule = sym (or_none (says rule))
last_said_push says (first ∷ rules) rule = ap (λ o. option_or o (says first)) (last_said_push says rules rule) ∙ or_assoc (says rule) (last_said says rules) (says first)

-- the rule at i, and what was found before it
pub next_said : {A : Type 0} (says : Rule → Option A) (rules : List Rule) (i : ℕ) (rule : Rule) → i < length rules → rule ≡ get_or rules i rule → last_said says (take (i + 1) rules) ≡ option_or (says rule) (last_said says (take i rules))
next_said says rules i rule below at =
    ap (last_said says) (take_more rules i rule below ∙ ap (λ (r : Rule). take i rules ++ r ∷ []) (sym at)) ∙ last_said_push says (take i rules) rule
