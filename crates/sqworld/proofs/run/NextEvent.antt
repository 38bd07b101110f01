-- A run that goes on by one event.
use Rattle.sqworld.proofs.Words.{AnswersOn, Base, BeginsOn, Goes, Goings, IsLawful, IsRun, LifeOn, List, ModelDisk, Run, Served, WorldKind, [], ap, arith, count_of, get_or, length, moments_of, start_of, subst, suc, sym, take, zero, ℕ, ◌++◌, ◌<◌, ◌∙◌, ◌∷◌, ◌≡◌}
use Rattle.sqworld.proofs.run.NextMoment.{goings_none, goings_more}
use Rattle.sqworld.proofs.run.MomentsOfRun.{none_due, moments_more, complete_more}
use Rattle.sqworld.proofs.run.NextEventOfLife.{life_none}

pub taken_next : {E : Type 0} (events : List E) (i : ℕ) (event : E) → i < length events → event ≡ get_or events i event → take (suc i) events ≡ take i events ++ event ∷ []
taken_next [] i event l h = absurd (omega arith)
taken_next (x ∷ events) zero event l h = ap (λ e. e ∷ []) (sym h)
taken_next (x ∷ events) (suc i) event l h = ap (λ es. x ∷ es) (taken_next events i event (omega arith) h)

module _ {E V : Type 0} (kind : WorldKind E V) (lawful : IsLawful kind) (base : Base) where
  pub served_none : (disk : ModelDisk) (run : Run) → BeginsOn base disk → run.replies.items ≡ [] → run.refused.items ≡ [] → run.found.items ≡ [] → run.crashed.items ≡ [] → Served kind base [] run (kind.closed disk)
  served_none disk run begins replies refused found crashed = record {
    complete = record { replies = ap length replies; refused = ap length refused; found = ap length found; crashed = ap length crashed ∙ none_due base.tears };
    goings = goings_none kind lawful base disk begins;
  }

  pub served_more : (events : List V) (event : V) (run new_run : Run) (old new : E) → Served kind base events run old → Goes kind base.page_size base.tears event old run new new_run → Served kind base (events ++ event ∷ []) new_run new
  served_more events event run new_run old new served goes =
      let given = goes.given in
      let count = count_of kind new in
      let found = lawful.found base.page_size base.tears event old new given goes.answers in
      let crashed = lawful.crashed base.page_size base.tears event old new given goes.answers in
      record {
        complete = complete_more kind base.tears events run new_run event given count served.complete goes.noted found crashed;
        goings = subst (λ ms. Goings kind base ms new) (sym (moments_more kind base.tears events run new_run event given count served.complete goes.noted found crashed))
            (goings_more kind lawful base (moments_of kind events run) event old new given goes.answers served.goings);
      }

  -- where the premises are nothing, all replies are a run
  pub untorn_run : (events : List V) (run : Run) (engine : E) → kind.NeedsNothing base → Served kind base events run engine → IsRun kind.Step (start_of kind base) (moments_of kind events run)
  untorn_run events run engine none served =
      let done = served.goings.fits (lawful.needs_nothing base events run none served.complete) in
      (done.state, count_of kind engine, done.runs)

-- the life of the disk begins
pub life_begins : {E V : Type 0} (kind : WorldKind E V) (base : Base) (disk : ModelDisk) (run : Run) → BeginsOn base disk → run.replies.items ≡ [] → run.refused.items ≡ [] → run.found.items ≡ [] → run.crashed.items ≡ []
    → LifeOn kind base [] run (kind.closed disk)
life_begins kind base disk run begins replies refused found crashed =
    (disk, begins, life_none (AnswersOn kind base) (count_of kind) (kind.closed disk) run replies refused found crashed)
