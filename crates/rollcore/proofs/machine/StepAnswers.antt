-- What a step may answer, and that it leads to one state alone.
use Rattle.rollcore.proofs.Words.{Act, Answer, CommitStep, Commits, Crashes, Done, Files, IsExpected, IsOf, List, OpenStep, Opens, Page, Pages, PlainStep, ReadStep, Reads, Refused, Sets, State, Step, accepted, ap, appended, closed, commit_refusal, expected, false, inl, inr, needs_disk, newest, page, read_refusal, refl, refused_of, takes_memory, told, true, ℕ, ◌∙◌}

open_of : (s : State) (found : Files) (answer : Answer) (b a : ℕ) (t : State) → OpenStep s found answer b a t → IsOf Done true true answer b a
open_of s found Done b a t h = inl refl
open_of s found (Refused n) b a t h = inr (refl, elim h.0 [ inl e ↦ inl (refl, ap Refused e) | inr e ↦ inr (refl, ap Refused e.0, e.1) ])
open_of s found _ b a t h = absurd h

commit_of : (s : State) (pages : Pages) (size : ℕ) (nonces : List ℕ) (answer : Answer) (b a : ℕ) (t : State) → CommitStep s pages size nonces answer b a t → IsOf (told (commit_refusal s pages size nonces) Done) true true answer b a
commit_of s pages size nonces Done b a t h = inl (accepted (commit_refusal s pages size nonces) Done h.0)
commit_of s pages size nonces (Refused n) b a t h = refused_of (commit_refusal s pages size nonces) Done true (closed (appended s pages size)) b a s n t refl h
commit_of s pages size nonces _ b a t h = absurd h

read_of : (s : State) (number : ℕ) (answer : Answer) (b a : ℕ) (t : State) → ReadStep s number answer b a t → IsOf (told (read_refusal s number) (Page (page (newest s.history) number))) false true answer b a
read_of s number (Page bytes) b a t h = inl (ap Page h.1 ∙ accepted (read_refusal s number) (Page (page (newest s.history) number)) h.0)
read_of s number (Refused n) b a t h = refused_of (read_refusal s number) (Page (page (newest s.history) number)) false s b a s n t refl h
read_of s number _ b a t h = absurd h

plain_of : (target : State) (answer : Answer) (b a : ℕ) (t : State) → PlainStep target answer t → IsOf Done false false answer b a
plain_of target Done b a t h = inl refl
plain_of target _ b a t h = absurd h

pub step_of : (s : State) (act : Act) (answer : Answer) (b a : ℕ) (t : State) → Step s act answer b a t → IsExpected (expected s act) (takes_memory act) (needs_disk act) answer b a
step_of s (Opens found) answer b a t h = open_of s found answer b a t h
step_of s (Commits pages size nonces) answer b a t h = commit_of s pages size nonces answer b a t h
step_of s (Reads number) answer b a t h = read_of s number answer b a t h
step_of s (Crashes left) answer b a t h = plain_of (closed s) answer b a t h
step_of s Sets answer b a t h = plain_of s answer b a t h
