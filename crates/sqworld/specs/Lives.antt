-- A run as one life of a disk: each event is answered on what the one before left (own).
use Rattle.std.specs.Prelude.{◌≡◌, ℕ, List, [], ◌∷◌, map}
use Rattle.std.specs.List.{filter_map}
use Rattle.sqworld.specs.declared.engine.Given.{Given}
use Rattle.sqworld.specs.declared.reply.Run.{Run}

-- From the first engine on each event leads to the next one, and the count is the last one's.
abbrev pub Leads : {E V : Type 0} → (Answered : V → E → Given → E → Type 0) → (counted : E → ℕ) → (first : E) → List V → List Given → (counts : List ℕ) → (last : E) → Type 0
Leads Answered counted first [] [] [] last = last ≡ first
Leads {E} Answered counted first (event ∷ events) (given ∷ givens) (n ∷ counts) last =
    (mid : E) × Answered event first given mid × (n ≡ counted mid) × Leads Answered counted mid events givens counts last
Leads Answered counted first _ _ _ last = ⊥

-- a run has what was given, and the counts
pub record IsLife {E V : Type 0} (Answered : V → E → Given → E → Type 0) (counted : E → ℕ) (first : E) (events : List V) (run : Run) (last : E) : Type 0 where
  pub given : List Given
  pub replies : run.replies.items ≡ map (λ (g : Given). g.reply) given
  pub found : run.found.items ≡ filter_map (λ (g : Given). g.found) given
  pub crashed : run.crashed.items ≡ filter_map (λ (g : Given). g.crashed) given
  pub leads : Leads Answered counted first events given run.refused.items last
