-- Images with what was found of them (own).
use Rattle.std.specs.Prelude.{◌≡◌, ℕ, Bool, true, false, ◌||◌, cond, List, [], ◌∷◌, ◌++◌, Option, Some, None}
use Rattle.std.specs.List.{flat_map}
use Rattle.sqcrash_store.specs.Verdicts.{is_wrong}
use Rattle.sqcrash_store.specs.declared.found.Found.{Found}
use Rattle.sqcrash_store.specs.declared.plan.Plan.{Plan}

-- what the names show in an image, and what was found of it
pub record Judged : Type 0 where
  pub image : List (Option (List ℕ))
  pub found : Found

-- of the images that were handed over to be kept, these are more; where these are known
abbrev pub Keeps : (old new : Option (List Judged)) → (more : List Judged) → Type 0
Keeps None new more = Unit {0}
Keeps (Some old) None more = ⊥
Keeps (Some old) (Some new) more = new ≡ old ++ more

-- a number is asked for
abbrev pub is_some : Option ℕ → Bool
is_some None = false
is_some (Some n) = true

-- an image is kept where something is wrong with it, or it is asked for by its number
abbrev pub kept_of : Plan → Judged → List Judged
kept_of plan x = cond (is_wrong x.found.verdict || is_some plan.image) (x ∷ []) []

-- those of images that are kept, in their order
abbrev pub kept_among : Plan → List Judged → List Judged
kept_among plan judged = flat_map (kept_of plan) judged
