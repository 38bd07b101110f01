-- What a step may answer.
use Rattle.walcore.proofs.Words.{Act, Answer, BeginStep, Begins, Bool, CheckpointStep, Checkpoints, CommitStep, Commits, Complete, Crashes, Done, EndStep, Ends, Files, IsExpected, IsFalse, IsOf, IsTrue, NoReader, None, OpenStep, Opens, Option, Page, Pages, Partial, PlainStep, ReadStep, Reads, Refused, RestartStep, Restarts, Sets, Some, State, Step, accepted, all_newest, ap, at, at_end, call_refusal, closed, commit_refusal, committed, cond, expected, false, gone, inl, inr, is_accepted, length, needs_disk, page, read_refusal, reader_at, refl, refused_of, restart_refusal, takes_memory, told, true, ℕ, ◌∙◌, ◌≡◌}
use Rattle.sqval.specs.Answers.{Reader}
use Rattle.walcore.specs.Machine.{Syncs, SyncStep}
use Rattle.walcore.specs.Laws.{shown}

open_of : (s : State) (found : Files) (answer : Answer) (b a : ℕ) (t : State) → OpenStep s found answer b a t → IsOf Done true true answer b a
open_of s found Done b a t h = inl refl
open_of s found (Refused n) b a t h = inr (refl, elim h.0 [ inl e ↦ inl (refl, ap Refused e) | inr e ↦ inr (refl, ap Refused e.0, e.1) ])
open_of s found _ b a t h = absurd h

commit_of : (s : State) (pages : Pages) (size : ℕ) (answer : Answer) (b a : ℕ) (t : State) → CommitStep s pages size answer b a t → IsOf (told (commit_refusal s pages size) Done) true true answer b a
commit_of s pages size Done b a t h = inl (accepted (commit_refusal s pages size) Done h.0)
commit_of s pages size (Refused n) b a t h = refused_of (commit_refusal s pages size) Done true (closed (committed s pages size)) b a s n t refl h
commit_of s pages size _ b a t h = absurd h

sync_of : (s : State) (answer : Answer) (b a : ℕ) (t : State) → SyncStep s answer b a t → IsOf (told (call_refusal s) Done) false true answer b a
sync_of s Done b a t h = inl (accepted (call_refusal s) Done h.0)
sync_of s (Refused n) b a t h = refused_of (call_refusal s) Done false (closed s) b a s n t refl h
sync_of s _ b a t h = absurd h

begin_of : (s : State) (answer : Answer) (b a : ℕ) (t : State) → BeginStep s answer b a t → IsOf (told (call_refusal s) (Reader (length s.readers))) true true answer b a
begin_of s (Reader n) b a t h = inl (ap Reader h.1 ∙ accepted (call_refusal s) (Reader (length s.readers)) h.0)
begin_of s (Refused n) b a t h = refused_of (call_refusal s) (Reader (length s.readers)) true (closed s) b a s n t refl h
begin_of s _ b a t h = absurd h

read_of : (place : Option ℕ) (s : State) (number : ℕ) (answer : Answer) (b a : ℕ) (t : State) → ReadStep place s number answer b a t → IsOf (shown s place number) false true answer b a
read_of None s number NoReader b a t h = inl refl
read_of None s number _ b a t h = absurd h
read_of (Some i) s number (Page bytes) b a t h = inl (ap Page h.1 ∙ accepted (read_refusal s i number) (Page (page (at s.history i) number)) h.0)
read_of (Some i) s number (Refused n) b a t h = refused_of (read_refusal s i number) (Page (page (at s.history i) number)) false s b a s n t refl h
read_of (Some i) s number _ b a t h = absurd h

end_of : (place : Option ℕ) (s : State) (r : ℕ) (answer : Answer) (b a : ℕ) (t : State) → EndStep place s r answer t → IsOf (at_end place) false false answer b a
end_of None s r NoReader b a t h = inl refl
end_of None s r _ b a t h = absurd h
end_of (Some i) s r Done b a t h = inl refl
end_of (Some i) s r _ b a t h = absurd h

by_test : (c : Bool) (good other : Answer) → IsTrue c → good ≡ cond c good other
by_test true good other h = refl
by_test false good other h = absurd (cc h)

by_no_test : (c : Bool) (good other : Answer) → IsFalse c → other ≡ cond c good other
by_no_test true good other h = absurd (cc h)
by_no_test false good other h = refl

either_accepted : (c : Bool) → IsTrue (is_accepted (cond c Complete Partial))
either_accepted true = refl
either_accepted false = refl

checkpoint_of : (s : State) (answer : Answer) (b a : ℕ) (t : State) → CheckpointStep s answer b a t → IsOf (told (call_refusal s) (cond (all_newest s) Complete Partial)) false true answer b a
checkpoint_of s Complete b a t h = inl (by_test (all_newest s) Complete Partial h.1 ∙ accepted (call_refusal s) (cond (all_newest s) Complete Partial) h.0)
checkpoint_of s Partial b a t h = inl (by_no_test (all_newest s) Complete Partial h.1 ∙ accepted (call_refusal s) (cond (all_newest s) Complete Partial) h.0)
checkpoint_of s (Refused n) b a t h = refused_of (call_refusal s) (cond (all_newest s) Complete Partial) false (closed s) b a s n t (either_accepted (all_newest s)) h
checkpoint_of s _ b a t h = absurd h

restart_of : (s : State) (answer : Answer) (b a : ℕ) (t : State) → RestartStep s answer b a t → IsOf (told (restart_refusal s) Done) false true answer b a
restart_of s Done b a t h = inl (accepted (restart_refusal s) Done h.0)
restart_of s (Refused n) b a t h = refused_of (restart_refusal s) Done false (closed s) b a s n t refl h
restart_of s _ b a t h = absurd h

plain_of : (target : State) (answer : Answer) (b a : ℕ) (t : State) → PlainStep target answer t → IsOf Done false false answer b a
plain_of target Done b a t h = inl refl
plain_of target _ b a t h = absurd h

pub step_of : (s : State) (act : Act) (answer : Answer) (b a : ℕ) (t : State) → Step s act answer b a t → IsExpected (expected s act) (takes_memory act) (needs_disk act) answer b a
step_of s (Opens salts found) answer b a t h = open_of s found answer b a t h
step_of s (Commits pages size) answer b a t h = commit_of s pages size answer b a t h
step_of s Syncs answer b a t h = sync_of s answer b a t h
step_of s Begins answer b a t h = begin_of s answer b a t h
step_of s (Reads r number) answer b a t h = read_of (reader_at s r) s number answer b a t h
step_of s (Ends r) answer b a t h = end_of (reader_at s r) s r answer b a t h
step_of s Checkpoints answer b a t h = checkpoint_of s answer b a t h
step_of s (Restarts salt2) answer b a t h = restart_of s answer b a t h
step_of s (Crashes left) answer b a t h = plain_of (gone s) answer b a t h
step_of s Sets answer b a t h = plain_of s answer b a t h
