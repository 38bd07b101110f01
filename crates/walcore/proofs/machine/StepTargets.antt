-- Where one step may lead.
use Rattle.walcore.proofs.Words.{Act, Answer, BeginStep, Begins, Bool, CheckpointStep, Checkpoints, CommitStep, Commits, Complete, Crashes, Done, EndStep, Ends, Files, NoReader, None, OpenStep, Opens, Option, Page, Pages, Partial, PlainStep, ReadStep, Reads, Refused, Refuses, RestartStep, Restarts, Sets, Some, State, Step, begun, call_refusal, checkpointed, closed, commit_refusal, committed, ended, false, gone, inl, inr, length, opened, read_refusal, reader_at, refl, restart_refusal, restarted, subst, sym, synced, true, ℕ, ◌<◌, ◌≡◌, ◌≤◌}
use Rattle.recovery.proofs.Words.{Reader}
use Rattle.walcore.specs.Machine.{Syncs, SyncStep}

-- P holds of each state that a step may lead to
pub record Targets (P : State → Type 0) (s : State) : Type 0 where
  pub stays : P s
  pub opens : (k : ℕ) → s.floor ≤ k → k < length s.history → P (opened s k)
  pub goes : P (gone s)
  pub closes : P (closed s)
  pub commits : (pages : Pages) (size : ℕ) → commit_refusal s pages size ≡ None → P (committed s pages size) × P (closed (committed s pages size))
  pub syncs : P (synced s)
  pub checkpoints : P (checkpointed s)
  pub restarts : P (restarted s)
  pub begins : P (begun s)
  pub ends : (r : ℕ) → P (ended s r)

refused_in : {S : Type 0} (P : S → Type 0) (first : Option ℕ) (m : Bool) (failed : S) (b a : ℕ) (old : S) (n : ℕ) (new : S) → P old → (first ≡ None → P failed) → Refuses first m failed b a old n new → P new
refused_in P (Some first) m failed b a old n new p q h = subst P (sym h.1) p
refused_in P None m failed b a old n new p q (inl h) = subst P (sym h.2) p
refused_in P None m failed b a old n new p q (inr h) = subst P (sym h.2) (q refl)

open_in : (P : State → Type 0) (s : State) (found : Files) (answer : Answer) (b a : ℕ) (t : State) → Targets P s → OpenStep s found answer b a t → P t
open_in P s found Done b a t p h = subst P (sym h.5) (p.opens h.0 h.1 h.2)
open_in P s found (Refused n) b a t p h = subst P (sym h.1) p.goes
open_in P s found _ b a t p h = absurd h

commit_in : (P : State → Type 0) (s : State) (pages : Pages) (size : ℕ) (answer : Answer) (b a : ℕ) (t : State) → Targets P s → CommitStep s pages size answer b a t → P t
commit_in P s pages size Done b a t p h = subst P (sym h.1) (p.commits pages size h.0).0
commit_in P s pages size (Refused n) b a t p h =
    refused_in P (commit_refusal s pages size) true (closed (committed s pages size)) b a s n t p.stays (λ e. (p.commits pages size e).1) h
commit_in P s pages size _ b a t p h = absurd h

sync_in : (P : State → Type 0) (s : State) (answer : Answer) (b a : ℕ) (t : State) → Targets P s → SyncStep s answer b a t → P t
sync_in P s Done b a t p h = subst P (sym h.1) p.syncs
sync_in P s (Refused n) b a t p h = refused_in P (call_refusal s) false (closed s) b a s n t p.stays (λ _. p.closes) h
sync_in P s _ b a t p h = absurd h

begin_in : (P : State → Type 0) (s : State) (answer : Answer) (b a : ℕ) (t : State) → Targets P s → BeginStep s answer b a t → P t
begin_in P s (Reader n) b a t p h = subst P (sym h.2) p.begins
begin_in P s (Refused n) b a t p h = refused_in P (call_refusal s) true (closed s) b a s n t p.stays (λ _. p.closes) h
begin_in P s _ b a t p h = absurd h

-- a read changes nothing
pub read_same : (place : Option ℕ) (s : State) (page : ℕ) (answer : Answer) (b a : ℕ) (t : State) → ReadStep place s page answer b a t → t ≡ s
read_same None s page NoReader b a t h = h
read_same None s page _ b a t h = absurd h
read_same (Some j) s page (Page bytes) b a t h = h.2
read_same (Some j) s page (Refused n) b a t h = refused_in (λ u. u ≡ s) (read_refusal s j page) false s b a s n t refl (λ _. refl) h
read_same (Some j) s page _ b a t h = absurd h

end_in : (P : State → Type 0) (place : Option ℕ) (s : State) (r : ℕ) (answer : Answer) (t : State) → Targets P s → EndStep place s r answer t → P t
end_in P None s r NoReader t p h = subst P (sym h) p.stays
end_in P None s r _ t p h = absurd h
end_in P (Some j) s r Done t p h = subst P (sym h) (p.ends r)
end_in P (Some j) s r _ t p h = absurd h

checkpoint_in : (P : State → Type 0) (s : State) (answer : Answer) (b a : ℕ) (t : State) → Targets P s → CheckpointStep s answer b a t → P t
checkpoint_in P s Complete b a t p h = subst P (sym h.2) p.checkpoints
checkpoint_in P s Partial b a t p h = subst P (sym h.2) p.checkpoints
checkpoint_in P s (Refused n) b a t p h = refused_in P (call_refusal s) false (closed s) b a s n t p.stays (λ _. p.closes) h
checkpoint_in P s _ b a t p h = absurd h

restart_in : (P : State → Type 0) (s : State) (answer : Answer) (b a : ℕ) (t : State) → Targets P s → RestartStep s answer b a t → P t
restart_in P s Done b a t p h = subst P (sym h.1) p.restarts
restart_in P s (Refused n) b a t p h = refused_in P (restart_refusal s) false (closed s) b a s n t p.stays (λ _. p.closes) h
restart_in P s _ b a t p h = absurd h

plain_in : (P : State → Type 0) (target : State) (answer : Answer) (t : State) → P target → PlainStep target answer t → P t
plain_in P target Done t p h = subst P (sym h) p
plain_in P target _ t p h = absurd h

pub step_in : (P : State → Type 0) (s : State) (act : Act) (answer : Answer) (b a : ℕ) (t : State) → Targets P s → Step s act answer b a t → P t
step_in P s (Opens salts found) answer b a t p h = open_in P s found answer b a t p h
step_in P s (Commits pages size) answer b a t p h = commit_in P s pages size answer b a t p h
step_in P s Syncs answer b a t p h = sync_in P s answer b a t p h
step_in P s Begins answer b a t p h = begin_in P s answer b a t p h
step_in P s (Reads r page) answer b a t p h = subst P (sym (read_same (reader_at s r) s page answer b a t h)) p.stays
step_in P s (Ends r) answer b a t p h = end_in P (reader_at s r) s r answer t p h
step_in P s Checkpoints answer b a t p h = checkpoint_in P s answer b a t p h
step_in P s (Restarts salt2) answer b a t p h = restart_in P s answer b a t p h
step_in P s (Crashes left) answer b a t p h = plain_in P (gone s) answer t p.goes h
step_in P s Sets answer b a t p h = plain_in P s answer t p.stays h
