-- The steps that are left of a plan.
use Rattle.std.proofs.Common.{◌≡◌, ◌≢◌, ℕ, suc, ◌+◌, ◌-◌, ◌≤◌, true, false, cond, ◌==◌, List, [], ◌∷◌, ◌++◌, ◌∙◌, ap, arith}
use Rattle.std.specs.List.{flat_map, range_with_len}
use Rattle.sqview.specs.Laid.{place_of}
use Rattle.sqplan.specs.Plans.{pages_from}
use Rattle.sqplan.specs.declared.plan.Plan.{Plan}
use Rattle.sqplan.specs.declared.plan.Step.{Step}
use Rattle.sqplan.specs.declared.plan.Step.TheVariants.{WritePage}

module _ (plan : Plan) where
  abbrev one_page : (q : ℕ) → List Step
  one_page q = cond (place_of plan.places.now q == 0) [] (WritePage q ∷ [])

  unfolded : (p : ℕ) → p ≤ plan.pages → pages_from plan p ≡ one_page p ++ pages_from plan (p + 1)
  unfolded p within = let e : plan.pages + 1 - p ≡ suc (plan.pages + 1 - (p + 1)) = omega (arith, within) in ap (λ n. flat_map one_page (range_with_len p n)) e

  pub passed : (p : ℕ) → p ≤ plan.pages → place_of plan.places.now p ≡ 0 → pages_from plan p ≡ pages_from plan (p + 1)
  passed p within none = let e : (place_of plan.places.now p == 0) ≡ true = grind (arith, none) in
      unfolded p within ∙ ap (λ b. cond b [] (WritePage p ∷ []) ++ pages_from plan (p + 1)) e

  pub found : (p : ℕ) → p ≤ plan.pages → place_of plan.places.now p ≢ 0 → pages_from plan p ≡ WritePage p ∷ pages_from plan (p + 1)
  found p within some = let e : (place_of plan.places.now p == 0) ≡ false = grind (arith, some) in
      unfolded p within ∙ ap (λ b. cond b [] (WritePage p ∷ []) ++ pages_from plan (p + 1)) e
