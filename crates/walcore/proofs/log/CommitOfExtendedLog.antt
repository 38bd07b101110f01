-- The frames of a commit behind a log.
use Rattle.walcore.proofs.Words.{AreCommitted, Database, IsApplied, IsCommit, IsExtended, IsLog, List, None, Option, Pages, ap, apply, arith, cases_lt, cond, content_of, frame_end, length, length-apply, nat_tests, number_at, page, page-apply, page_of, size_of, suc, supplied, supplied_at, supplied_none, sym, take, take_all, unwrap_or, ℕ, ⊎_elim, ◌+◌, ◌-◌, ◌<◌, ◌==◌, ◌∙◌, ◌≡◌, ◌≤◌}

module _ (size : ℕ) (e : List ℕ) (n : ℕ) (pages : Pages) (count : ℕ) (f : List ℕ) (log : IsLog size e n) (more : IsExtended size e n pages count f) where
  -- the log before is in front
  pub extended_front : take (frame_end size n) f ≡ take (frame_end size n) e
  extended_front = ap (λ (k : ℕ). take k f) (sym log.whole) ∙ more.front ∙ sym (front_all e (frame_end size n) log.whole)
    where
      front_all : (x : List ℕ) (k : ℕ) → length x ≡ k → take k x ≡ x
      front_all x k is = take_all k x (omega arith)

  sizes_at : (i : ℕ) → n < i → i ≤ n + length pages → size_of size f i ≡ cond (i - n == length pages) count 0
  sizes_at i from to =
      let k : ℕ = i - n - 1 in
      let at : n + suc k ≡ i = omega arith in
      let up : suc k ≡ i - n = omega arith in
      ap (size_of size f) (sym at) ∙ more.sizes k (omega arith) ∙ ap (λ (j : ℕ). cond (j == length pages) count 0) up

  pub extended_inner : (i : ℕ) → n < i → i < n + length pages → IsCommit size f i → ⊥
  extended_inner i from to commit = commit (sizes_at i from (omega arith) ∙ miss (i - n) (length pages) count (omega arith))
    where
      miss : (a b x : ℕ) → a < b → cond (a == b) x 0 ≡ 0
      miss a b x lt = grind (arith, nat_tests)

  pub extended_count : 1 ≤ length pages → size_of size f (n + length pages) ≡ count
  extended_count some = sizes_at (n + length pages) (omega arith) (omega arith) ∙ hit (n + length pages - n) (length pages) count (omega arith)
    where
      hit : (a b x : ℕ) → a ≡ b → cond (a == b) x 0 ≡ x
      hit a b x is = grind (arith, nat_tests)

  -- What they make of a database is the commit.
  pub extended_applied : (old : Database) → AreCommitted size old pages count → IsApplied size f n (n + length pages) old (apply old pages count)
  extended_applied old are = record {
    count = length-apply old pages count ∙ sym (extended_count are.some);
    put = λ p i a b later is.
        let k : ℕ = i - n - 1 in
        let lt : k < length pages = omega (arith, is.within) in
        let at : n + suc k ≡ i = omega arith in
        let number : number_at pages k ≡ p = sym (more.page k lt) ∙ ap (page_of size f) at ∙ is.names in
        page-apply old pages count p a (omega (arith, length-apply old pages count))
        ∙ ap (λ (x : Option (List ℕ)). unwrap_or x (page old p)) (supplied_at pages k p are.once lt number)
        ∙ sym (more.content k lt) ∙ ap (content_of size f) at;
    kept = λ p a b un.
        let none : supplied pages p ≡ None = supplied_none pages p (λ k lt is. un (n + suc k) (omega arith) (omega arith) (more.page k lt ∙ is)) in
        let low : p ≤ count = omega (arith, length-apply old pages count) in (
          ⊎_elim (λ lt. absurd (are.filled p lt low none)) (λ le. le) (cases_lt (length old) p),
          page-apply old pages count p a low ∙ ap (λ (x : Option (List ℕ)). unwrap_or x (page old p)) none,
        );
  }
