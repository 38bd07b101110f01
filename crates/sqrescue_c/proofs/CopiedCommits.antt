-- The commits of a scan in a caller's array.
use Rattle.std.proofs.Common.{◌≡◌, ◌≢◌, ⊎_elim, ℕ, zero, suc, ◌+◌, ◌<◌, ◌≤◌, List, ◌∷◌, length, get_or, refl, sym, ap, subst, add-one, arith}
use Rattle.std.proofs.Math.ListN.{set}
use Rattle.std.proofs.lemmas.List.{get_or-set_other}
use Rattle.std.proofs.lemmas.Grind.{get_or-set_at}
use Rattle.std.proofs.lemmas.Bool.{cases_lt}
use Rattle.sqwal.specs.Commits.{AreCommits}
use Rattle.sqwal.specs.Frames.{IsValidFrame}
use Rattle.sqwal.specs.Header.{named_size}
use Rattle.sqwal.specs.Refusal.{most_frames}
use Rattle.sqrescue_c.specs.Commits.{IsCommitOf, AreCommitsOf}
use Rattle.sqrescue_c.specs.declared.commits.Commit.{Commit}

abbrev pub IsRising : List ℕ → Type 0
IsRising ends = (i j : ℕ) → i < j → j < length ends → get_or ends i 0 < get_or ends j 0

pub not_before : (ends : List ℕ) (i before : ℕ) → IsRising ends → i < length ends → before ≡ get_or (0 ∷ ends) i 0 → before ≤ get_or ends i 0
not_before ends zero before rising within is = omega (arith, is)
not_before ends (suc i) before rising within is = omega (arith, is, rising i (suc i) (omega arith) within)

pub next_before : (ends : List ℕ) (i : ℕ) → get_or (0 ∷ ends) (i + 1) 0 ≡ get_or ends i 0
next_before ends i = ap (λ n. get_or (0 ∷ ends) n 0) (add-one i)

pub one_commit : (w ends : List ℕ) (commits : List Commit) (i : ℕ) (v : Commit) → i < length commits → IsCommitOf w (get_or (0 ∷ ends) i 0) (get_or ends i 0) v
    → AreCommitsOf w i ends commits → AreCommitsOf w (i + 1) ends (set commits i v)
one_commit w ends commits i v within is before k d lt = ⊎_elim
    (λ below.
    let other : k ≢ i = omega arith in
    subst (λ (c : Commit). IsCommitOf w (get_or (0 ∷ ends) k 0) (get_or ends k 0) c) (sym (get_or-set_other commits i k v d other)) (before k d below))
    (λ above.
    let same : k ≡ i = omega arith in
    subst (λ (c : Commit). IsCommitOf w (get_or (0 ∷ ends) k 0) (get_or ends k 0) c) (sym (get_or-set_at commits i k v d same within))
    (subst (λ (n : ℕ). IsCommitOf w (get_or (0 ∷ ends) n 0) (get_or ends n 0) v) (sym same) is))
    (cases_lt k i)

-- rising frames from 1 on are no more than the last of them
at_least : (ends : List ℕ) → IsRising ends → ((i : ℕ) → i < length ends → 1 ≤ get_or ends i 0) → (i : ℕ) → i < length ends → i < get_or ends i 0
at_least ends rising some zero within = some zero within
at_least ends rising some (suc i) within = omega (arith, at_least ends rising some i (omega arith), rising i (suc i) (omega arith) within)

module _ (w ends : List ℕ) (are : AreCommits (named_size w) w ends) (few : ¬ IsValidFrame (named_size w) w (suc most_frames)) where
  below_most : (m : ℕ) → IsValidFrame (named_size w) w m → m ≤ most_frames
  below_most m valid = ⊎_elim
      (λ (above : most_frames < m). absurd (few (record { first = omega arith; each = λ j one le. valid.each j one (omega arith) })))
      (λ le. le)
      (cases_lt most_frames m)

  -- a scan has no more commits than frames
  pub few_commits : length ends ≤ most_frames
  few_commits = ⊎_elim
      (λ (some : 0 < length ends).
      let last = n_of (length ends) some in
      let within : last.0 < length ends = omega (arith, last.1) in
      omega (arith, last.1, at_least ends are.rising (λ i lt. (are.each i lt).0.first) last.0 within, below_most (get_or ends last.0 0) (are.each last.0 within).0))
      (λ none. omega arith)
      (cases_lt 0 (length ends))
    where
      n_of : (n : ℕ) → 0 < n → (m : ℕ) × (n ≡ suc m)
      n_of zero some = absurd (omega arith)
      n_of (suc m) some = (m, refl)
