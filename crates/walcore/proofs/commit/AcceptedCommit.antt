-- A commit that isn't refused.
use Rattle.walcore.proofs.Words.{Bool, IsFaultless, List, None, Option, Pages, Some, State, [], arith, commit_refusal, cond, false, faultless, first_true, length, lit<, most_pages, nat_lt, nat_tests, newest, none_both, one_none, page_faults, refusal_of, true, ℕ, ◌++◌, ◌+◌, ◌<◌, ◌∷◌, ◌≡◌, ◌≤◌}

module _ (old_size page_size used : ℕ) (pages : Pages) (size : ℕ) (none : refusal_of old_size page_size used pages size ≡ None) where
  pub granted : IsFaultless old_size page_size pages size
  granted = faultless old_size page_size pages size (none_both (page_faults old_size page_size pages size) ((nat_lt most_pages (used + length pages), 10) ∷ []) none).0

  pub room_enough : used + length pages ≤ most_pages
  room_enough =
      let few : nat_lt most_pages (used + length pages) ≡ false =
      one_none (nat_lt most_pages (used + length pages)) 10 (none_both (page_faults old_size page_size pages size) ((nat_lt most_pages (used + length pages), 10) ∷ []) none).1 in
      grind (arith, nat_tests, few)

-- an engine that refuses nothing is open
pub cond_none : (is_open : Bool) (first : Option ℕ) → cond is_open first (Some 1) ≡ None → first ≡ None
cond_none true first h = h
cond_none false first h = absurd (cc h)

abbrev AllBelow : ℕ → List (Bool × ℕ) → Type 0
AllBelow m [] = Unit {0}
AllBelow m (c ∷ cs) = (c.1 < m) × AllBelow m cs

first_below : (m : ℕ) (cs : List (Bool × ℕ)) (n : ℕ) → AllBelow m cs → first_true cs ≡ Some n → n < m
first_below m [] n below h = absurd (cc h)
first_below m ((true, k) ∷ cs) n below h = let e : k ≡ n = cc h in rw (← e) below.0
first_below m ((false, k) ∷ cs) n below h = first_below m cs n below.1 h

by_open : (is_open : Bool) (first : Option ℕ) (n : ℕ) → cond is_open first (Some 1) ≡ Some n → (first ≡ Some n → n < 11) → n < 11
by_open true first n h f = f h
by_open false first n h f = let e : 1 ≡ n = cc h in rw (← e) (lit< tt)

-- no commit is refused by more than 10
pub few_faults : (old_size page_size used : ℕ) (pages : Pages) (size n : ℕ) → refusal_of old_size page_size used pages size ≡ Some n → n < 11
few_faults old_size page_size used pages size n e =
    first_below 11 (page_faults old_size page_size pages size ++ (nat_lt most_pages (used + length pages), 10) ∷ []) n (lit< tt, (lit< tt, (lit< tt, (lit< tt, (lit< tt, (lit< tt, (lit< tt, (lit< tt, (lit< tt, tt))))))))) e

pub few_refusals : (s : State) (pages : Pages) (size n : ℕ) → commit_refusal s pages size ≡ Some n → n < 11
few_refusals s pages size n h = by_open s.is_open (refusal_of (length (newest s.history)) s.page_size s.used pages size) n h (λ e. few_faults (length (newest s.history)) s.page_size s.used pages size n e)
