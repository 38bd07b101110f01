-- Worked runs, step by step.
use Rattle.rollcore.proofs.Below.{CallsRefused, Committed, HasCause, List, None, Option, Refuses, Some, Stopped, StoppedLate, [], end, go, inl, inr, length, lit<, lit≤, next, on_base, page, refl, refusal_of, refuses_first, true, ℕ, ◌∷◌, ◌≡◌}

-- a commit of a page of the right length
fits : (content : List ℕ) → length content ≡ 512 → refusal_of 3 512 ((1, content) ∷ []) 1 1 ≡ None
fits content e = rw e refl

without_nonce : (content : List ℕ) → length content ≡ 512 → refusal_of 3 512 ((1, content) ∷ []) 1 0 ≡ Some 16
without_nonce content e = rw e refl

stops : {S : Type 0} (first : Option ℕ) (failed : S) (b a : ℕ) (old : S) → first ≡ None → HasCause b a → Refuses first true failed b a old 15 failed
stops first failed b a old e cause = rw e (inr (refl, cause, refl))

pub played_committed : Committed
unfolding page
played_committed a b f1 f2 la lb v1 v2 = on_base (go (0, lit≤ tt, lit< tt, v1, λ _. refl, refl) (go (fits b lb, refl) (go refl (go (1, lit≤ tt, lit< tt, v2, λ e. absurd (cc e), refl) (go (refl, refl, refl) (end _ _))))))

pub played_stopped : Stopped
unfolding page
played_stopped a b f1 f2 la lb v1 v2 = on_base (go (0, lit≤ tt, lit< tt, v1, λ _. refl, refl) (go refl (next (stops _ _ _ _ _ (fits b lb) (inl (lit< tt))) (lit≤ tt) (go (refl, refl) (go refl (go (0, lit≤ tt, lit< tt, v2, λ e. absurd (cc e), refl) (go (refl, refl, refl) (end _ _))))))))

pub played_stopped_late : StoppedLate
unfolding page
played_stopped_late a b f1 f2 la lb v1 v2 = on_base (go (0, lit≤ tt, lit< tt, v1, λ _. refl, refl) (go refl (next (stops _ _ _ _ _ (fits b lb) (inl (lit< tt))) (lit≤ tt) (go refl (go (1, lit≤ tt, lit< tt, v2, λ e. absurd (cc e), refl) (go (refl, refl, refl) (end _ _)))))))

pub played_calls_refused : CallsRefused
unfolding page
played_calls_refused a b f1 f2 la lb v1 = on_base (go (refl, refl) (go (0, lit≤ tt, lit< tt, v1, λ _. refl, refl) (go (refl, refl) (go (refl, refl) (go (refuses_first _ _ _ _ _ _ _ (without_nonce b lb)) (go (refl, refl) (go (refl, refl, refl) (end _ _))))))))
