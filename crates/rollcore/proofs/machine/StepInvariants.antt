-- What each step of the machine keeps.
use Rattle.rollcore.proofs.Below.{Act, Answer, Database, IsSane, Keeps, List, Moment, Runs, State, Step, Targets, [], ap, apply, arith, closed, length, length-append, length-take, lit<, newest, refl, start, step_in, subst, sym, take, take-append-le, take-take, ℕ, ◌++◌, ◌+◌, ◌<◌, ◌∙◌, ◌∷◌, ◌≡◌, ◌≤◌}

-- ---- The floor is a place of the history.

more_in : (s : State) (d : Database) → IsSane s → s.floor < length (s.history ++ d ∷ [])
more_in s d h = omega (arith, length-append s.history (d ∷ []))

sane_targets : (s : State) → IsSane s → Targets IsSane s
sane_targets s i = record {
  stays = i;
  opens = λ k f h. omega (arith, length-take (k + 1) s.history);
  closes = i;
  commits = λ pages size. omega (arith, length-append s.history (apply (newest s.history) pages size ∷ []));
  fails = λ pages size. more_in s (apply (newest s.history) pages size) i;
}

sane_step : (s : State) (act : Act) (answer : Answer) (b a : ℕ) (t : State) → IsSane s → Step s act answer b a t → IsSane t
sane_step s act answer b a t i h = step_in IsSane s act answer b a t (sane_targets s i) h

pub sane_runs : (s : State) (b : ℕ) (ms : List (Moment Act)) (t : State) (a : ℕ) → IsSane s → Runs Step s b ms t a → IsSane t
sane_runs s b [] t a i h = subst IsSane (sym h.0) i
sane_runs s b (m ∷ ms) t a i h = sane_runs h.1.0 m.refused ms t a (sane_step s m.act m.answer b m.refused h.1.0 i h.1.1) h.1.2

pub sane_start : (page_size : ℕ) (base : Database) → IsSane (start page_size base)
sane_start page_size base = lit< tt

-- ---- What is durable stays.

same_history : (s t : State) → t.page_size ≡ s.page_size → s.floor ≤ t.floor → t.history ≡ s.history → Keeps s t
same_history s t p f e = record { page_size = p; floor = f; durable = ap (λ h. take (s.floor + 1) h) e }

kept_targets : (s : State) → IsSane s → Targets (Keeps s) s
kept_targets s i =
    let grown = λ (d : Database). take-append-le (s.floor + 1) s.history (d ∷ []) (omega arith) in
    record {
      stays = same_history s s refl (omega arith) refl;
      opens = λ k g h. record { page_size = refl; floor = g; durable = take-take (s.floor + 1) (k + 1) s.history (omega arith) };
      closes = same_history s (closed s) refl (omega arith) refl;
      commits = λ pages size. record { page_size = refl; floor = omega arith; durable = grown (apply (newest s.history) pages size) };
      fails = λ pages size. record { page_size = refl; floor = omega arith; durable = grown (apply (newest s.history) pages size) };
    }

kept_step : (s : State) (act : Act) (answer : Answer) (b a : ℕ) (t : State) → IsSane s → Step s act answer b a t → Keeps s t
kept_step s act answer b a t i h = step_in (Keeps s) s act answer b a t (kept_targets s i) h

kept_on : (s t u : State) → Keeps s t → Keeps t u → Keeps s u
kept_on s t u h g =
    let f = h.floor in
    let e = g.floor in
    record {
      page_size = g.page_size ∙ h.page_size;
      floor = omega arith;
      durable = sym (take-take (s.floor + 1) (t.floor + 1) u.history (omega arith)) ∙ (ap (λ x. take (s.floor + 1) x) g.durable ∙ (take-take (s.floor + 1) (t.floor + 1) t.history (omega arith) ∙ h.durable));
    }

pub kept_runs : (s : State) (b : ℕ) (ms : List (Moment Act)) (t : State) (a : ℕ) → IsSane s → Runs Step s b ms t a → Keeps s t
kept_runs s b [] t a i h = subst (Keeps s) (sym h.0) (same_history s s refl (omega arith) refl)
kept_runs s b (m ∷ ms) t a i h =
    kept_on s h.1.0 t (kept_step s m.act m.answer b m.refused h.1.0 i h.1.1) (kept_runs h.1.0 m.refused ms t a (sane_step s m.act m.answer b m.refused h.1.0 i h.1.1) h.1.2)
