-- Records that are played and judged one after the other.
use Rattle.std.proofs.Common.{ℕ, List, [], ◌∷◌, ◌++◌, refl, sym, ◌∙◌, ap, subst, append_assoc}
use Rattle.std.proofs.lemmas.List.{append-nil}
use Rattle.rig_play.specs.declared.trace.Record.{Record}
use Rattle.sqcrash.specs.Rigs.{RigState, Judges, JudgesAll, texts_at}
use Rattle.sqcrash.specs.declared.plan.Plan.{Plan}
use Rattle.sqcrash.specs.Told.{Told}

-- none
pub judges_none : (plan : Plan) (b : List ℕ) (rig : RigState) → JudgesAll plan b [] rig rig []
judges_none plan b rig = (refl, refl)

-- one more
pub judges_more : (plan : Plan) (b : List ℕ) (records : List Record) (r : Record) (old mid new : RigState) (lines : List (List ℕ)) (found : List Told)
    → JudgesAll plan b records old mid lines → Judges plan b r mid new found → JudgesAll plan b (records ++ r ∷ []) old new (lines ++ texts_at plan b r new found)
judges_more plan b [] r old mid new lines found is judges =
    (new, found, [], subst (λ (s : RigState). Judges plan b r s new found) is.0 judges, (refl, refl), ap (λ (l : List (List ℕ)). l ++ texts_at plan b r new found) is.1 ∙ sym (append-nil (texts_at plan b r new found)))
judges_more plan b (first ∷ records) r old mid new lines found all judges =
    let more = texts_at plan b r new found in (
      all.0,
      all.1,
      all.2 ++ more,
      all.3,
      judges_more plan b records r all.0 mid new all.2 found all.4 judges,
      ap (λ (l : List (List ℕ)). l ++ more) all.5 ∙ append_assoc (texts_at plan b first all.0 all.1) all.2 more,
    )
