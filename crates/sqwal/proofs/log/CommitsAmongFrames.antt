-- The commits among the frames of a log.
use Rattle.std.proofs.Common.{◌≡◌, ⊎_elim, ℕ, ◌+◌, ◌-◌, ◌<◌, ◌≤◌, List, [], ◌∷◌, ◌++◌, length, get_or, refl, sym, ◌∙◌, ap, subst, arith, length-append}
use Rattle.std.proofs.lemmas.Bool.{cases_lt}
use Rattle.std.proofs.lemmas.List.{get_or_append_left, get_or-append_right}
use Rattle.sqwal.specs.Frames.{IsValidFrame, IsCommit, IsFront}
use Rattle.sqwal.specs.Commits.{AreCommits}
use Rattle.sqwal.specs.internal.Commits.{AreCommitsTo}

module _ (size : ℕ) (w list : List ℕ) (n : ℕ) (are : AreCommitsTo size w n list) where
  front_is : (i : ℕ) → i < length list → get_or (list ++ (n + 1) ∷ []) i 0 ≡ get_or list i 0
  front_is i lt = get_or_append_left list ((n + 1) ∷ []) 0 i lt

  last_is : (i : ℕ) → i ≡ length list → get_or (list ++ (n + 1) ∷ []) i 0 ≡ n + 1
  last_is i e =
      get_or-append_right list ((n + 1) ∷ []) (length list) i 0 refl (omega arith)
      ∙ ap (λ k. get_or ((n + 1) ∷ []) k 0) (let z : i - length list ≡ 0 = omega arith in z)

  long : length (list ++ (n + 1) ∷ []) ≡ length list + 1
  long = length-append list ((n + 1) ∷ [])

  -- the next frame ends a commit
  pub commits_more : IsValidFrame size w (n + 1) → IsCommit size w (n + 1) → AreCommitsTo size w (n + 1) (list ++ (n + 1) ∷ [])
  commits_more valid commit = record {
    rising = λ i j lt in_j. ⊎_elim
        (λ low. let first : i < length list = omega arith in omega (arith, front_is i first, front_is j low, are.rising i j lt low))
        (λ high. let first : i < length list = omega (arith, long) in omega (arith, front_is i first, last_is j (omega (arith, long)), are.within i first))
        (cases_lt j (length list));
    within = λ i in_i. ⊎_elim
        (λ low. omega (arith, front_is i low, are.within i low))
        (λ high. omega (arith, last_is i (omega (arith, long))))
        (cases_lt i (length list));
    each = λ i in_i. ⊎_elim
        (λ low. subst (λ (m : ℕ). IsValidFrame size w m × IsCommit size w m) (sym (front_is i low)) (are.each i low))
        (λ high. subst (λ (m : ℕ). IsValidFrame size w m × IsCommit size w m) (sym (last_is i (omega (arith, long)))) (valid, commit))
        (cases_lt i (length list));
    all = λ m le v k. ⊎_elim
        (λ low. let old = are.all m (omega arith) v k in (old.0, omega (arith, long, old.1), front_is old.0 old.1 ∙ old.2))
        (λ high. (length list, omega (arith, long), last_is (length list) refl ∙ (let e : n + 1 ≡ m = omega arith in e)))
        (cases_lt m (n + 1));
  }

  -- the next frame ends none
  pub commits_same : (IsCommit size w (n + 1) → ⊥) → AreCommitsTo size w (n + 1) list
  commits_same none = record {
    rising = are.rising;
    within = λ i in_i. omega (arith, are.within i in_i);
    each = are.each;
    all = λ m le v k. ⊎_elim
        (λ low. are.all m (omega arith) v k)
        (λ high. absurd (none (subst (λ (i : ℕ). IsCommit size w i) (let e : m ≡ n + 1 = omega arith in e) k)))
        (cases_lt m (n + 1));
  }

  -- none lie behind the front
  pub commits_all : IsFront size w n → AreCommits size w list
  commits_all front = record { rising = are.rising; each = are.each; all = λ m v k. are.all m (front.greatest m v k) v k }

-- each frame up to the front is valid
pub valid_to : (size : ℕ) (w : List ℕ) (m i : ℕ) → IsFront size w m → 1 ≤ i → i ≤ m → IsValidFrame size w i
valid_to size w m i front one le = ⊎_elim
    (λ none. absurd (omega arith))
    (λ is. record { first = one; each = λ j low high. is.0.each j low (omega arith) })
    front.is
