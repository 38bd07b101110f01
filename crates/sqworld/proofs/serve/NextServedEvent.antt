-- A world of served events answers one more.
use Rattle.sqworld.proofs.Words.{AnswersOn, Base, Goes, HasServed, IsLawful, IsRunOf, LifeOn, List, None, Option, Served, ServesNext, Some, WorldKind, [], add-one, ap, count_of, get_or, length, subst, sym, take, ℕ, ◌++◌, ◌+◌, ◌<◌, ◌∙◌, ◌∷◌, ◌≡◌, ◌≤◌}
use Rattle.sqworld.specs.declared.engine.Engine.{Ghosts}
use Rattle.sqworld.specs.declared.world.WorldOf.{WorldOf}
use Rattle.sqworld.proofs.run.NextEvent.{served_more, untorn_run, taken_next}
use Rattle.sqworld.proofs.run.NextMoment.{past_end}
use Rattle.sqworld.proofs.run.NextEventOfLife.{life_more}

there_or : {E : Type 0} → E → Option E → E
there_or other None = other
there_or other (Some engine) = engine

module _ {E V : Type 0} (kind : WorldKind E V) {bound : Ghosts E V} (base : Base) (events : List V) where
  pub run_of : (lawful : IsLawful kind) (world : WorldOf E V bound) → HasServed kind base events world → IsRunOf kind base events world.run
  run_of lawful world h = record {
    complete = h.served.complete;
    life = (h.life.0, h.engine, h.life.1, h.life.2);
    runs = h.served.goings.prefixes;
    untorn = λ none. untorn_run kind lawful base events world.run h.engine none h.served;
  }

  pub serves_next : (lawful : IsLawful kind) (event : V) (old new : WorldOf E V bound) (engine new_engine : E) → old.engine ≡ Some engine → new.engine ≡ Some new_engine → new.page_size ≡ old.page_size → new.tears ≡ old.tears
      → Goes kind old.page_size old.tears event engine old.run new_engine new.run → HasServed kind base events old → HasServed kind base (events ++ event ∷ []) new
  unfolding there_or
  serves_next lawful event old new engine new_engine was is size_same tears_same goes h =
      let same : h.engine ≡ engine = ap (there_or engine) (sym h.is_there ∙ was) in
      let went : Goes kind base.page_size base.tears event engine old.run new_engine new.run
      = subst (λ size. Goes kind size base.tears event engine old.run new_engine new.run) h.page_size (subst (λ tears. Goes kind old.page_size tears event engine old.run new_engine new.run) h.tears goes) in
      let served : Served kind base events old.run engine = subst (λ e. Served kind base events old.run e) same h.served in
      let life = subst (λ e. LifeOn kind base events old.run e) same h.life in
      record {
        engine = new_engine;
        is_there = is;
        page_size = size_same ∙ h.page_size;
        tears = tears_same ∙ h.tears;
        served = served_more kind lawful base events event old.run new.run engine new_engine served went;
        life = (
          life.0,
          life.1,
          life_more (AnswersOn kind base) (count_of kind) (kind.closed life.0) engine new_engine events old.run new.run event went.given life.2 went.answers went.noted,
        );
      }

  -- of a list of events, one more is served
  pub taken_on : (i : ℕ) (event : V) (old new : WorldOf E V bound) → i < length events → event ≡ get_or events i event → ServesNext kind event old new → HasServed kind base (take i events) old → HasServed kind base (take (i + 1) events) new
  taken_on i event old new l h next served = rw add-one (subst (λ es. HasServed kind base es new) (sym (taken_next events i event l h)) (next base (take i events) served))

  -- and all of them
  pub taken_whole : (i : ℕ) (world : WorldOf E V bound) → length events ≤ i → HasServed kind base (take i events) world → HasServed kind base events world
  taken_whole i world h served = subst (λ es. HasServed kind base es world) (past_end i events h) served
