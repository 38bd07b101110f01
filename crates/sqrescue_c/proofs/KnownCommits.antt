-- Which commits of a log are known, in a caller's array.
use Rattle.std.proofs.Common.{◌≡◌, ⊎_elim, inl, inr, ℕ, zero, suc, ◌-◌, ◌<◌, ◌≤◌, Bool, true, false, cond, List, length, get_or, refl, sym, ◌∙◌, ap, arith}
use Rattle.std.proofs.lemmas.Bool.{cases_lt}
use Rattle.sqwal.specs.Commits.{AreCommits}
use Rattle.sqwal.specs.Frames.{IsValidFrame, IsCommit, IsFront}
use Rattle.sqwal.specs.Header.{named_size}
use Rattle.sqpast.specs.Commits.{AreKnown}
use Rattle.sqrescue_c.specs.Commits.{IsKnownBy}

-- the front is the last commit
pub front_of : (size : ℕ) (w ends : List ℕ) → AreCommits size w ends → (front : ℕ) × IsFront size w front
front_of size w ends are = by (length ends) refl
  where
    by : (n : ℕ) → n ≡ length ends → (front : ℕ) × IsFront size w front
    by zero none = (0, record { is = inl refl; greatest = λ i valid commit. let at = are.all i valid commit in absurd (omega (arith, none, at.1)) })
    by (suc k) some = (
      get_or ends k 0,
      record {
        is = inr (are.each k (omega (arith, some)));
        greatest = λ i valid commit.
            let at = are.all i valid commit in
            ⊎_elim
            (λ (before : at.0 < k). omega (arith, at.2, are.rising at.0 k before (omega (arith, some))))
            (λ (after : k ≤ at.0).
            let same : at.0 ≡ k = omega (arith, after, some, at.1) in
            omega (arith, at.2, ap (λ n. get_or ends n 0) same))
            (cases_lt at.0 k);
      },
    )

-- the number of a commit, by the list of all frames
pub known_number : (db w : List ℕ) (known : List Bool) (front m number : ℕ) → AreKnown (named_size w) w front db known → IsFront (named_size w) w front
    → IsValidFrame (named_size w) w m → IsCommit (named_size w) w m → number ≡ cond (get_or known (m - 1) false) 1 0 → IsKnownBy db w front m number
known_number db w known front m number are is valid commit e = by (get_or known (m - 1) false) refl
  where
    by : (b : Bool) → get_or known (m - 1) false ≡ b → IsKnownBy db w front m number
    by true there = let shown = are.yes m valid.first (is.greatest m valid commit) there in
        inl (e ∙ ap (λ x. cond x 1 0) there, shown.1.0, shown.1.1)
    by false gone =
        let lost = are.no m valid.first (is.greatest m valid commit) commit (λ there. let bad : false ≡ true = sym gone ∙ there in cc) in
        inr (e ∙ ap (λ x. cond x 1 0) gone, lost.0, lost.1)
