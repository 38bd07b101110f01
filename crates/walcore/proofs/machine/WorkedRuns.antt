-- Worked runs, step by step.
use Rattle.walcore.proofs.Below.{CommitsRefused, Forgotten, List, Lost, LostForGood, None, Some, SyncFailed, Synced, TwoReaders, Waits, [], end, false, go, inl, inr, length, lit<, lit≤, nat_lt, next, on_base, page, refl, refusal_of, refuses_first, ℕ, ◌+◌, ◌∷◌, ◌≡◌}
use Rattle.walcore.specs.Rows.{Stopped}

-- a commit of a page of the right length
fits : (used : ℕ) (content : List ℕ) → length content ≡ 512 → nat_lt 1048576 (used + 1) ≡ false → refusal_of 1 512 used ((1, content) ∷ []) 1 ≡ None
fits used content e f = rw (e, f) refl

too_short : (short : List ℕ) → length short ≡ 511 → refusal_of 1 512 0 ((1, short) ∷ []) 1 ≡ Some 8
too_short short e = rw e refl

pub played_synced : Synced
unfolding page
played_synced a b c d f1 f2 f3 la lb lc ld v1 v2 = on_base (go (0, lit≤ tt, lit< tt, v1, λ _. refl, refl) (go (fits 0 b lb refl, refl) (go (refl, refl) (go (fits 1 c lc refl, refl) (go refl (go (1, lit≤ tt, lit< tt, v2, λ e. absurd (cc e), refl) (go (refl, refl, refl) (go (refl, refl, refl) (end _ _)))))))))

pub played_lost : Lost
unfolding page
played_lost a b c d f1 f2 f3 la lb lc ld v1 v2 = on_base (go (0, lit≤ tt, lit< tt, v1, λ _. refl, refl) (go (fits 0 b lb refl, refl) (go (fits 1 c lc refl, refl) (go refl (go (0, lit≤ tt, lit< tt, v2, λ e. absurd (cc e), refl) (go (refl, refl, refl) (go (refl, refl, refl) (end _ _))))))))

pub played_lost_for_good : LostForGood
unfolding page
played_lost_for_good a b c d f1 f2 f3 la lb lc ld v1 v2 v3 = on_base (go (0, lit≤ tt, lit< tt, v1, λ _. refl, refl) (go (fits 0 b lb refl, refl) (go (fits 1 c lc refl, refl) (go (fits 2 d ld refl, refl) (go refl (go (1, lit≤ tt, lit< tt, v2, λ e. absurd (cc e), refl) (go (refl, refl, refl) (go (refl, refl, refl) (go (fits 0 c lc refl, refl) (go refl (go (2, lit≤ tt, lit< tt, v3, λ e. absurd (cc e), refl) (go (refl, refl, refl) (go (refl, refl, refl) (end _ _))))))))))))))

pub played_waits : Waits
unfolding page
played_waits a b c d f1 f2 f3 la lb lc ld v1 = on_base (go (0, lit≤ tt, lit< tt, v1, λ _. refl, refl) (go (fits 0 b lb refl, refl) (go (refl, refl, refl) (go (fits 1 c lc refl, refl) (go (refl, refl, refl) (go (refl, refl, refl) (go (refl, refl) (go refl (go (refl, refl, refl) (go (refl, refl) (end _ _)))))))))))

pub played_stopped : Stopped
unfolding page
played_stopped a b c d f1 f2 f3 la lb lc ld v1 v2 = on_base (go (0, lit≤ tt, lit< tt, v1, λ _. refl, refl) (go (fits 0 b lb refl, refl) (go (refl, refl, refl) (go (refl, refl, refl) (go (refl, refl) (go refl (go refl (next (inr (refl, inl (lit< tt), refl)) (lit≤ tt) (go refl (go (1, lit≤ tt, lit< tt, v2, λ e. absurd (cc e), refl) (go (refl, refl, refl) (go (refl, refl, refl) (end _ _)))))))))))))

pub played_commits_refused : CommitsRefused
unfolding page
played_commits_refused a b c d f1 f2 f3 la lb lc ld v1 short ls = on_base (go (refl, refl) (go (0, lit≤ tt, lit< tt, v1, λ _. refl, refl) (go (refl, refl) (go (refl, refl) (go (refl, refl) (go (refl, refl) (go (refuses_first _ _ _ _ _ _ _ (too_short short ls)) (go (refl, refl, refl) (go (refl, refl, refl) (end _ _))))))))))

pub played_sync_failed : SyncFailed
unfolding page
played_sync_failed a b c d f1 f2 f3 la lb lc ld v1 v2 v3 = on_base (go (0, lit≤ tt, lit< tt, v1, λ _. refl, refl) (go (fits 0 b lb refl, refl) (go refl (next (inr (refl, inl (lit< tt), refl)) (lit≤ tt) (go refl (go (refl, refl) (go (1, lit≤ tt, lit< tt, v2, λ e. absurd (cc e), refl) (go refl (go (1, lit≤ tt, lit< tt, v3, λ e. absurd (cc e), refl) (go (refl, refl, refl) (go (refl, refl, refl) (end _ _))))))))))))

pub played_forgotten : Forgotten
unfolding page
played_forgotten a b c d f1 f2 f3 la lb lc ld v1 v2 = on_base (go (0, lit≤ tt, lit< tt, v1, λ _. refl, refl) (go (refl, refl, refl) (go (fits 0 b lb refl, refl) (go refl (go refl (go (1, lit≤ tt, lit< tt, v2, λ e. absurd (cc e), refl) (go (refl, refl, refl) (go (refl, refl, refl) (end _ _)))))))))

pub played_two_readers : TwoReaders
unfolding page
played_two_readers a b c d f1 f2 f3 la lb lc ld v1 = on_base (go (0, lit≤ tt, lit< tt, v1, λ _. refl, refl) (go (rw lb refl, refl) (go (refl, refl, refl) (go (rw lc refl, refl) (go (refl, refl, refl) (go (refl, refl, refl) (go (refl, refl) (go (refl, refl, refl) (go refl (go (refl, refl, refl) (go (refl, refl) (go refl (go (refl, refl) (end _ _))))))))))))))
