use Rattle.std.proofs.Common.{◌≡◌, ℕ, Bool, List, [], ◌∷◌, ◌++◌, map, ◌∙◌, ap, Vec, Global}
use Rattle.std.specs.Prelude.{if◌then◌else◌}
use Rattle.std.proofs.lemmas.List.{map-append}
use Rattle.crashdisk.specs.Choice.{last_torn}
use Rattle.rig_images.proofs.TornSectors.{last_torn_append}
use Rattle.rig_images.proofs.torn.torn_choice.Goals as goal

pub returns-clause-torn : goal.returns-clause-torn
returns-clause-torn g c =
    let k = c.args.k in
    let old = c.in_ok-choice.choice.torn.items in
    let entry : ℕ × Vec ℕ Global = (k, c.args.bytes) in
    let said : ℕ × Vec ℕ Global → ℕ × List ℕ = λ entry. (entry.0, entry.1.items) in
    let items : c.push.new.self.items ≡ old ++ entry ∷ [] = c.push.ensures.items ∙ ap (λ (b : Bool). if b then old ++ entry ∷ [] else old) c.if-is_err.ensures.negation in
    ap (λ (l : List (ℕ × Vec ℕ Global)). last_torn (map said l) k) items
    ∙ ap (λ (l : List (ℕ × List ℕ)). last_torn l k) (map-append said old (entry ∷ []))
    ∙ last_torn_append (map said old) k c.args.bytes.items
