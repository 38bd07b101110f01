-- A run that goes on by one moment.
use Rattle.sqworld.proofs.Words.{Answer, AnswersOn, Base, BeginsOn, Fitting, Goings, IsLawful, IsRun, List, ModelDisk, Moment, Runs, WorldKind, [], ap, arith, count_of, given_moment, inl, inr, length, length-append, refl, start_of, state_of, subst, suc, sym, take, take-append-le, zero, ℕ, ◌++◌, ◌∙◌, ◌∷◌, ◌≡◌, ◌≤◌, ◌⊎◌}
use Rattle.sqworld.specs.declared.engine.Given.{Given}

runs_more : {S A : Type 0} (step : S → A → Answer → ℕ → ℕ → S → Type 0) (s : S) (b : ℕ) (ms : List (Moment A)) (t : S) (a : ℕ) (m : Moment A) (u : S) → Runs step s b ms t a → a ≤ m.refused → step t m.act m.answer a m.refused u → Runs step s b (ms ++ m ∷ []) u m.refused
runs_more step s b [] t a m u h l g = (subst (λ c. c ≤ m.refused) h.1 l, (u, subst (λ c. step s m.act m.answer c m.refused u) h.1 (subst (λ x. step x m.act m.answer a m.refused u) h.0 g), (refl, refl)))
runs_more step s b (x ∷ ms) t a m u h l g = (h.0, (h.1.0, h.1.1, runs_more step h.1.0 x.refused ms t a m u h.1.2 l g))

pub past_end : {X : Type 0} (n : ℕ) (xs : List X) → length xs ≤ n → take n xs ≡ xs
past_end zero [] h = refl
past_end (suc n) [] h = refl
past_end zero (x ∷ xs) h = absurd (omega arith)
past_end (suc n) (x ∷ xs) h = ap (λ ys. x ∷ ys) (past_end n xs (omega arith))

within : (n k : ℕ) → (n ≤ k) ⊎ (suc k ≤ n)
within n k = grind arith

none_taken : {S A : Type 0} (step : S → A → Answer → ℕ → ℕ → S → Type 0) (n : ℕ) (s : S) → Runs step s 0 (take n []) s 0
none_taken step zero s = (refl, refl)
none_taken step (suc n) s = (refl, refl)

module _ {E V : Type 0} (kind : WorldKind E V) (lawful : IsLawful kind) (base : Base) where
  -- what fits after one moment more
  fitting_more : (ms : List (Moment kind.Act)) (event : V) (old new : E) (given : Given) → AnswersOn kind base event old given new → (kind.Holds base ms → Fitting kind base ms old)
      → kind.Holds base (ms ++ given_moment kind event given new ∷ []) → Fitting kind base (ms ++ given_moment kind event given new ∷ []) new
  fitting_more ms event old new given answers fitting holds =
      let was = fitting (lawful.prefix base ms (given_moment kind event given new) holds) in
      let goes = lawful.goes base ms was.state event old new given answers was.sector was.tears was.fits holds in
      record {
        state = goes.next;
        fits = goes.fits;
        runs = runs_more kind.Step (start_of kind base) 0 ms was.state (count_of kind old) (given_moment kind event given new) goes.next was.runs goes.refused goes.row;
        sector = goes.sector ∙ was.sector;
        tears = goes.tears ∙ was.tears;
      }

  pub goings_more : (ms : List (Moment kind.Act)) (event : V) (old new : E) (given : Given) → AnswersOn kind base event old given new → Goings kind base ms old
      → Goings kind base (ms ++ given_moment kind event given new ∷ []) new
  goings_more ms event old new given answers goings =
      let m = given_moment kind event given new in
      let fits = fitting_more ms event old new given answers goings.fits in
      record {
        fits = fits;
        prefixes = λ n holds. elim (within n (length ms)) [
          | inl l ↦
              let same : take n (ms ++ m ∷ []) ≡ take n ms = take-append-le n ms (m ∷ []) l in
              subst (λ x. IsRun kind.Step (start_of kind base) x) (sym same) (goings.prefixes n (subst (λ x. kind.Holds base x) same holds))
          | inr l ↦
              let all : take n (ms ++ m ∷ []) ≡ ms ++ m ∷ [] = past_end n (ms ++ m ∷ []) (omega (arith, length-append ms (m ∷ []))) in
              let done = fits (subst (λ x. kind.Holds base x) all holds) in
              subst (λ x. IsRun kind.Step (start_of kind base) x) (sym all) (done.state, count_of kind new, done.runs)
        ];
      }

  pub goings_none : (disk : ModelDisk) → BeginsOn base disk → Goings kind base [] (kind.closed disk)
  goings_none disk begins =
      let same = lawful.is_disk disk in
      record {
        prefixes = λ n holds. (start_of kind base, 0, none_taken kind.Step n (start_of kind base));
        fits = λ holds. record {
          state = start_of kind base;
          fits = lawful.begins base disk begins;
          runs = (refl, ap (λ d. (state_of d).refused) same ∙ begins.new.refused);
          sector = ap (λ d. (state_of d).sector) same ∙ begins.new.sector;
          tears = ap (λ d. (state_of d).tears) same ∙ begins.new.tears;
        };
      }
