-- The greatest of the numbers of a list so far.
use Rattle.std.proofs.Common.{◌≡◌, ◌⊎◌, inl, inr, ⊎_elim, ℕ, ◌+◌, ◌-◌, ◌<◌, ◌≤◌, max, List, length, get_or, set, refl, ◌∙◌, ap, arith}
use Rattle.std.proofs.lemmas.Bool.{cases_lt, cases_eq}
use Rattle.std.proofs.lemmas.List.{length-set, get_or-set_same, get_or-set_other}
use Rattle.history.specs.Table.{AreGreatest, AreThere, IsFirstGone}

-- the first k are the greatest so far, and the others as they were
pub record IsGreatestTo (list : List ℕ) (k most : ℕ) (now : List ℕ) : Type 0 where
  pub long : length now ≡ length list
  pub rest : (i : ℕ) → k ≤ i → get_or now i 0 ≡ get_or list i 0
  pub least : (i j : ℕ) → i ≤ j → j < k → get_or list i 0 ≤ get_or now j 0
  pub one : (j : ℕ) → j < k → (i : ℕ) × (i ≤ j) × (get_or now j 0 ≡ get_or list i 0)
  pub high : (i : ℕ) → i < k → get_or list i 0 ≤ most
  pub some : (most ≡ 0) ⊎ ((i : ℕ) × (i < k) × (most ≡ get_or list i 0))

pub greatest_none : (list : List ℕ) → IsGreatestTo list 0 0 list
greatest_none list = record {
  long = refl;
  rest = λ i _. refl;
  least = λ i j _ lt. absurd (omega arith);
  one = λ j lt. absurd (omega arith);
  high = λ i lt. absurd (omega arith);
  some = inl refl;
}

module _ (list : List ℕ) (k most : ℕ) (now : List ℕ) (is : IsGreatestTo list k most now) (lt : k < length now) (next : ℕ) (next_is : next ≡ max most (get_or now k 0)) where
  here : get_or now k 0 ≡ get_or list k 0
  here = is.rest k (omega arith)

  same : get_or (set now k next) k 0 ≡ next
  same = get_or-set_same now k next 0 lt

  other : (j : ℕ) → j < k → get_or (set now k next) j 0 ≡ get_or now j 0
  other j below = get_or-set_other now k j next 0 (omega arith)

  covers : (i : ℕ) → i < k + 1 → get_or list i 0 ≤ next
  covers i below = ⊎_elim (λ e. omega (arith, here, ap (λ j. get_or list j 0) e)) (λ ne. omega (arith, is.high i (omega arith))) (cases_eq i k)

  found : (next ≡ get_or list k 0) ⊎ ((i : ℕ) × (i < k) × (next ≡ get_or list i 0))
  found = ⊎_elim
      (λ low. inl (omega (arith, here)))
      (λ high. ⊎_elim (λ none. inl (omega (arith, here))) (λ x. inr (x.0, x.1, omega (arith, x.2))) is.some)
      (cases_lt most (get_or now k 0))

  pub greatest_more : IsGreatestTo list (k + 1) next (set now k next)
  greatest_more = record {
    long = length-set now k next ∙ is.long;
    rest = λ i above. get_or-set_other now k i next 0 (omega arith) ∙ is.rest i (omega arith);
    least = λ i j le below. ⊎_elim
        (λ e. omega (arith, covers i (omega arith), same, ap (λ n. get_or (set now k next) n 0) e))
        (λ ne. omega (arith, is.least i j le (omega arith), other j (omega arith)))
        (cases_eq j k);
    one = λ j below. ⊎_elim
        (λ e. ⊎_elim
        (λ x. (k, omega arith, ap (λ n. get_or (set now k next) n 0) e ∙ same ∙ x))
        (λ x. (x.0, omega (arith, x.1), ap (λ n. get_or (set now k next) n 0) e ∙ same ∙ x.2))
        found)
        (λ ne. let x = is.one j (omega arith) in (x.0, x.1, other j (omega arith) ∙ x.2))
        (cases_eq j k);
    high = covers;
    some = inr (⊎_elim
        (λ x. (k, (let z : k < k + 1 = omega arith in z), x))
        (λ x. (x.0, (let z : x.0 < k + 1 = omega (arith, x.1) in z), x.2))
        found);
  }

pub greatest_all : (list : List ℕ) (k most : ℕ) (now : List ℕ) → length list ≤ k → IsGreatestTo list k most now → AreGreatest list now
greatest_all list k most now le is = record {
  long = is.long;
  least = λ i j a b. is.least i j a (omega arith);
  one = λ j b. is.one j (omega arith);
}

-- ---- what is read of them

module _ (list greatest : List ℕ) (are : AreGreatest list greatest) (m n : ℕ) (fits : n ≤ length greatest) where
  long : length greatest ≡ length list
  long = are.long

  low : (k : ℕ) → k < length list → get_or greatest k 0 ≤ m → get_or list k 0 ≤ m
  low k lt le = omega (arith, are.least k k (omega arith) lt)

  pub all_there : ((i : ℕ) → i < n → get_or greatest i 0 ≤ m) → AreThere list m n
  all_there all p one le = low (p - 1) (omega (arith, long)) (all (p - 1) (omega arith))

  pub first_gone : (k : ℕ) → k < n → ((i : ℕ) → i < k → get_or greatest i 0 ≤ m) → m < get_or greatest k 0 → IsFirstGone list m n (k + 1)
  first_gone k lt before over =
      let x = are.one k (omega (arith, long)) in
      let at : x.0 ≡ k = ⊎_elim
      (λ below. absurd (omega (arith, low x.0 (omega (arith, long, x.1)) (before x.0 below), x.2)))
      (λ above. omega (arith, x.1))
      (cases_lt x.0 k) in
      let z : k + 1 - 1 ≡ k = omega arith in
      record {
        first = omega arith;
        within = omega arith;
        gone = omega (arith, ap (λ i. get_or list i 0) at, x.2, ap (λ i. get_or list i 0) z);
        before = λ q one under. low (q - 1) (omega (arith, long)) (before (q - 1) (omega arith));
      }

  pub there_by_last : 1 ≤ n → get_or greatest (n - 1) 0 ≤ m → AreThere list m n
  there_by_last some le p one most = omega (arith, are.least (p - 1) (n - 1) (omega arith) (omega (arith, long)))

  pub last_by_there : 1 ≤ n → AreThere list m n → get_or greatest (n - 1) 0 ≤ m
  last_by_there some all =
      let x = are.one (n - 1) (omega (arith, long)) in
      let z : x.0 + 1 - 1 ≡ x.0 = omega arith in
      omega (arith, x.2, all (x.0 + 1) (omega arith) (omega (arith, x.1)), ap (λ i. get_or list i 0) z)
