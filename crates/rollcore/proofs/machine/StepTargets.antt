-- Where one step may lead.
use Rattle.rollcore.proofs.Words.{Act, Answer, Bool, CommitStep, Commits, Crashes, Done, Files, List, None, OpenStep, Opens, Option, Page, Pages, PlainStep, ReadStep, Reads, Refused, Refuses, Sets, Some, State, Step, appended, closed, commit_refusal, committed, false, inl, inr, length, opened, read_refusal, refl, subst, sym, true, ℕ, ◌<◌, ◌≡◌, ◌≤◌}

-- P holds of each state that a step may lead to
pub record Targets (P : State → Type 0) (s : State) : Type 0 where
  pub stays : P s
  pub opens : (k : ℕ) → s.floor ≤ k → k < length s.history → P (opened s k)
  pub closes : P (closed s)
  pub commits : (pages : Pages) (size : ℕ) → P (committed s pages size)
  pub fails : (pages : Pages) (size : ℕ) → P (closed (appended s pages size))

refused_in : {S : Type 0} (P : S → Type 0) (first : Option ℕ) (m : Bool) (failed : S) (b a : ℕ) (old : S) (n : ℕ) (new : S) → P old → P failed → Refuses first m failed b a old n new → P new
refused_in P (Some first) m failed b a old n new p q h = subst P (sym h.1) p
refused_in P None m failed b a old n new p q (inl h) = subst P (sym h.2) p
refused_in P None m failed b a old n new p q (inr h) = subst P (sym h.2) q

open_in : (P : State → Type 0) (s : State) (found : Files) (answer : Answer) (b a : ℕ) (t : State) → Targets P s → OpenStep s found answer b a t → P t
open_in P s found Done b a t p h = subst P (sym h.5) (p.opens h.0 h.1 h.2)
open_in P s found (Refused n) b a t p h = subst P (sym h.1) p.closes
open_in P s found _ b a t p h = absurd h

commit_in : (P : State → Type 0) (s : State) (pages : Pages) (size : ℕ) (nonces : List ℕ) (answer : Answer) (b a : ℕ) (t : State) → Targets P s → CommitStep s pages size nonces answer b a t → P t
commit_in P s pages size nonces Done b a t p h = subst P (sym h.1) (p.commits pages size)
commit_in P s pages size nonces (Refused n) b a t p h = refused_in P (commit_refusal s pages size nonces) true (closed (appended s pages size)) b a s n t p.stays (p.fails pages size) h
commit_in P s pages size nonces _ b a t p h = absurd h

-- a read changes nothing
pub read_same : (s : State) (number : ℕ) (answer : Answer) (b a : ℕ) (t : State) → ReadStep s number answer b a t → t ≡ s
read_same s number (Page bytes) b a t h = h.2
read_same s number (Refused n) b a t h = refused_in (λ u. u ≡ s) (read_refusal s number) false s b a s n t refl refl h
read_same s number _ b a t h = absurd h

plain_in : (P : State → Type 0) (target : State) (answer : Answer) (t : State) → P target → PlainStep target answer t → P t
plain_in P target Done t p h = subst P (sym h) p
plain_in P target _ t p h = absurd h

pub step_in : (P : State → Type 0) (s : State) (act : Act) (answer : Answer) (b a : ℕ) (t : State) → Targets P s → Step s act answer b a t → P t
step_in P s (Opens found) answer b a t p h = open_in P s found answer b a t p h
step_in P s (Commits pages size nonces) answer b a t p h = commit_in P s pages size nonces answer b a t p h
step_in P s (Reads number) answer b a t p h = subst P (sym (read_same s number answer b a t h)) p.stays
step_in P s (Crashes left) answer b a t p h = plain_in P (closed s) answer t p.closes h
step_in P s Sets answer b a t p h = plain_in P s answer t p.stays h
