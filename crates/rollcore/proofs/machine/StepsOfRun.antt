-- The steps of a run, one after another.
use Rattle.rollcore.proofs.Words.{Act, Answer, Done, Files, IsRunOn, List, Moment, Opens, Runs, Show, State, Step, [], arith, at, length, opened, refl, start, subst, three, ℕ, ◌<◌, ◌∷◌, ◌≡◌, ◌≤◌}

-- these moments are a run on from here
pub record Leads (s : State) (before : ℕ) (ms : List (Moment Act)) : Type 0 where
  pub runs : (new : State) × (after : ℕ) × Runs Step s before ms new after

pub end : (s : State) (before : ℕ) → Leads s before []
end s before = record { runs = (s, before, (refl, refl)) }

pub next : {s mid : State} {before after : ℕ} {act : Act} {answer : Answer} {ms : List (Moment Act)} → Step s act answer before after mid → before ≤ after → Leads mid after ms → Leads s before (record { act = act; answer = answer; refused = after } ∷ ms)
next {mid = mid} step le rest = record { runs = (rest.runs.0, rest.runs.1, (le, (mid, step, rest.runs.2))) }

-- no call of the disk was refused meanwhile
pub go : {s mid : State} {n : ℕ} {act : Act} {answer : Answer} {ms : List (Moment Act)} → Step s act answer n n mid → Leads mid n ms → Leads s n (record { act = act; answer = answer; refused = n } ∷ ms)
go {n = n} step rest = next step (omega arith) rest

pub on_base : {base : List ℕ} {ms : List (Moment Act)} → Leads (start 512 (three base)) 0 ms → IsRunOn base ms
on_base goes = record { run = goes.runs }

pub from_base : {base : List ℕ} {ms : List (Moment Act)} → IsRunOn base ms → Leads (start 512 (three base)) 0 ms
from_base h = record { runs = h.run }

-- a step that leads to one state alone
pub after : {s : State} {before : ℕ} {m : Moment Act} {ms : List (Moment Act)} (t : State) → ((mid : State) → Step s m.act m.answer before m.refused mid → mid ≡ t) → Leads s before (m ∷ ms) → Leads t m.refused ms
after {m = m} {ms = ms} t same h = record {
  runs = (h.runs.0, h.runs.1, subst (λ u. Runs Step u m.refused ms h.runs.0 h.runs.1) (same h.runs.2.1.0 h.runs.2.1.1) h.runs.2.1.2);
}

-- what an opening found shows a database of the history
pub record Opened (s : State) (found : Files) (n : ℕ) (ms : List (Moment Act)) : Type 0 where
  pub k : ℕ
  pub from : s.floor ≤ k
  pub within : k < length s.history
  pub shows : Show s.page_size found.db found.log (at s.history k)
  pub rest : Leads (opened s k) n ms

pub opening : {s : State} {before n : ℕ} {found : Files} {ms : List (Moment Act)} → Leads s before (record { act = Opens found; answer = Done; refused = n } ∷ ms) → Opened s found n ms
opening {n = n} {ms = ms} h =
    let o = h.runs.2.1.1 in
    record {
      k = o.0;
      from = o.1;
      within = o.2;
      shows = o.3;
      rest = record { runs = (h.runs.0, h.runs.1, subst (λ u. Runs Step u n ms h.runs.0 h.runs.1) o.5 h.runs.2.1.2) };
    }

-- the first opening shows the base
pub first_opening : {base : List ℕ} {found : Files} {ms : List (Moment Act)} → IsRunOn base (record { act = Opens found; answer = Done; refused = 0 } ∷ ms) → Leads (opened (start 512 (three base)) 0) 0 ms
first_opening {base = base} {ms = ms} h =
    let o = opening (from_base h) in
    let w = o.within in
    let e : o.k ≡ 0 = omega arith in
    subst (λ k. Leads (opened (start 512 (three base)) k) 0 ms) e o.rest
