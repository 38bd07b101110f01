-- What each step of the machine keeps.
use Rattle.walcore.proofs.Below.{Act, Answer, Bool, Database, IsSane, Keeps, List, Moment, None, Option, Pages, Runs, Some, State, Step, Targets, [], ap, apply, arith, begun, checkpointed, closed, commit_refusal, committed, cond_none, ended, false, forgotten, gone, is_bound, last, length, length-append, length-take, list_all, lit<, most_pages, nat_tests, newest, opened, refl, restarted, room_enough, set, start, step_in, subst, suc, sym, synced, take, take-append-le, take-take, true, zero, ℕ, ◌&&◌, ◌++◌, ◌+◌, ◌<◌, ◌==◌, ◌∙◌, ◌∷◌, ◌≡◌, ◌≤◌}

none_bound : (i : ℕ) (rs : List (Option ℕ)) → list_all (is_bound i) (forgotten rs) ≡ true
none_bound i [] = refl
none_bound i (r ∷ rs) = none_bound i rs

both : (a b : Bool) → (a && b) ≡ true → (a ≡ true) × (b ≡ true)
both true b h = (refl, h)
both false b h = absurd (cc h)

join : (a b : Bool) → a ≡ true → b ≡ true → (a && b) ≡ true
join true b h g = g
join false b h g = absurd (cc h)

same_number : (i : ℕ) → (i == i) ≡ true
same_number i = grind (arith, nat_tests)

one_bound : (i : ℕ) (rs : List (Option ℕ)) → list_all (is_bound i) rs ≡ true → list_all (is_bound i) (rs ++ Some i ∷ []) ≡ true
one_bound i [] h = join (i == i) true (same_number i) refl
one_bound i (r ∷ rs) h = let b = both (is_bound i r) (list_all (is_bound i) rs) h in join (is_bound i r) _ b.0 (one_bound i rs b.1)

fewer_bound : (i : ℕ) (rs : List (Option ℕ)) (r : ℕ) → list_all (is_bound i) rs ≡ true → list_all (is_bound i) (set rs r None) ≡ true
fewer_bound i [] r h = refl
fewer_bound i (x ∷ rs) zero h = (both (is_bound i x) (list_all (is_bound i) rs) h).1
fewer_bound i (x ∷ rs) (suc r) h = let b = both (is_bound i x) (list_all (is_bound i) rs) h in join (is_bound i x) _ b.0 (fewer_bound i rs r b.1)

used_few : (s : State) (pages : Pages) (size : ℕ) → commit_refusal s pages size ≡ None → s.used + length pages ≤ most_pages
used_few s pages size h = room_enough (length (newest s.history)) s.page_size s.used pages size (cond_none s.is_open _ h)

-- Targets

sane_opened : (s : State) (k : ℕ) → k < length s.history → IsSane (opened s k)
sane_opened s k h = record {
  floor = omega (arith, length-take (k + 1) s.history);
  few = omega arith;
  newest = λ _. none_bound (last (opened s k).history) s.readers;
}

sane_gone : (s : State) → IsSane s → IsSane (gone s)
sane_gone s h = record { floor = h.floor; few = h.few; newest = λ _. none_bound (last s.history) s.readers }

sane_closed : (s : State) → IsSane s → IsSane (closed s)
sane_closed s h = record { floor = h.floor; few = h.few; newest = h.newest }

sane_committed : (s : State) (pages : Pages) (size : ℕ) → commit_refusal s pages size ≡ None → IsSane s → IsSane (committed s pages size)
sane_committed s pages size e h = record {
  floor = let f = h.floor in omega (arith, length-append s.history (apply (newest s.history) pages size ∷ []));
  few = used_few s pages size e;
  newest = λ d. absurd (cc d);
}

last_within : (s : State) → IsSane s → last s.history < length s.history
last_within s h = let f = h.floor in omega arith

sane_synced : (s : State) → IsSane s → IsSane (synced s)
sane_synced s h = record { floor = last_within s h; few = h.few; newest = h.newest }

sane_checkpointed : (s : State) → IsSane s → IsSane (checkpointed s)
sane_checkpointed s h = record {
  floor = last_within s h;
  few = h.few;
  newest = λ d. d;
}

sane_restarted : (s : State) → IsSane s → IsSane (restarted s)
sane_restarted s h = record { floor = h.floor; few = omega arith; newest = h.newest }

sane_begun : (s : State) → IsSane s → IsSane (begun s)
sane_begun s h = record { floor = h.floor; few = h.few; newest = λ d. one_bound (last s.history) s.readers (h.newest d) }

sane_ended : (s : State) (r : ℕ) → IsSane s → IsSane (ended s r)
sane_ended s r h = record { floor = h.floor; few = h.few; newest = λ d. fewer_bound (last s.history) s.readers r (h.newest d) }

sane_targets : (s : State) → IsSane s → Targets IsSane s
sane_targets s i = record {
  stays = i;
  opens = λ k f h. sane_opened s k h;
  goes = sane_gone s i;
  closes = sane_closed s i;
  commits = λ pages size e. let c = sane_committed s pages size e i in (c, sane_closed _ c);
  syncs = sane_synced s i;
  checkpoints = sane_checkpointed s i;
  restarts = sane_restarted s i;
  begins = sane_begun s i;
  ends = λ r. sane_ended s r i;
}

pub sane_step : (s : State) (act : Act) (answer : Answer) (b a : ℕ) (t : State) → IsSane s → Step s act answer b a t → IsSane t
sane_step s act answer b a t i h = step_in IsSane s act answer b a t (sane_targets s i) h

pub sane_runs : (s : State) (b : ℕ) (ms : List (Moment Act)) (t : State) (a : ℕ) → IsSane s → Runs Step s b ms t a → IsSane t
sane_runs s b [] t a i h = subst IsSane (sym h.0) i
sane_runs s b (m ∷ ms) t a i h = sane_runs h.1.0 m.refused ms t a (sane_step s m.act m.answer b m.refused h.1.0 i h.1.1) h.1.2

pub sane_start : (page_size : ℕ) (base : Database) → IsSane (start page_size base)
sane_start page_size base = record { floor = lit< tt; few = omega arith; newest = λ d. refl }

-- What is durable stays

same_history : (s t : State) → t.page_size ≡ s.page_size → s.floor ≤ t.floor → t.history ≡ s.history → Keeps s t
same_history s t p f e = record { page_size = p; floor = f; durable = ap (λ h. take (s.floor + 1) h) e }

kept_targets : (s : State) → IsSane s → Targets (Keeps s) s
kept_targets s i =
    let f = i.floor in
    let l : s.floor ≤ last s.history = omega arith in
    let grown = λ (d : Database). take-append-le (s.floor + 1) s.history (d ∷ []) (omega arith) in
    record {
      stays = same_history s s refl (omega arith) refl;
      opens = λ k g h. record { page_size = refl; floor = g; durable = take-take (s.floor + 1) (k + 1) s.history (omega arith) };
      goes = same_history s (gone s) refl (omega arith) refl;
      closes = same_history s (closed s) refl (omega arith) refl;
      commits = λ pages size e. (record { page_size = refl; floor = omega arith; durable = grown (apply (newest s.history) pages size) }, record { page_size = refl; floor = omega arith; durable = grown (apply (newest s.history) pages size) });
      syncs = same_history s (synced s) refl l refl;
      checkpoints = same_history s (checkpointed s) refl l refl;
      restarts = same_history s (restarted s) refl (omega arith) refl;
      begins = same_history s (begun s) refl (omega arith) refl;
      ends = λ r. same_history s (ended s r) refl (omega arith) refl;
    }

pub kept_step : (s : State) (act : Act) (answer : Answer) (b a : ℕ) (t : State) → IsSane s → Step s act answer b a t → Keeps s t
kept_step s act answer b a t i h = step_in (Keeps s) s act answer b a t (kept_targets s i) h

kept_on : (s t u : State) → Keeps s t → Keeps t u → Keeps s u
kept_on s t u h g =
    let f = h.floor in
    let e = g.floor in
    record {
      page_size = g.page_size ∙ h.page_size;
      floor = omega arith;
      durable = sym (take-take (s.floor + 1) (t.floor + 1) u.history (omega arith)) ∙ (ap (λ x. take (s.floor + 1) x) g.durable ∙ (take-take (s.floor + 1) (t.floor + 1) t.history (omega arith) ∙ h.durable));
    }

pub kept_runs : (s : State) (b : ℕ) (ms : List (Moment Act)) (t : State) (a : ℕ) → IsSane s → Runs Step s b ms t a → Keeps s t
kept_runs s b [] t a i h = subst (Keeps s) (sym h.0) (same_history s s refl (omega arith) refl)
kept_runs s b (m ∷ ms) t a i h =
    kept_on s h.1.0 t (kept_step s m.act m.answer b m.refused h.1.0 i h.1.1) (kept_runs h.1.0 m.refused ms t a (sane_step s m.act m.answer b m.refused h.1.0 i h.1.1) h.1.2)
