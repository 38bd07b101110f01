-- The commits of a history, by their numbers.
use Rattle.std.proofs.Common.{◌≡◌, ◌↔◌, ℕ, ◌+◌, ◌-◌, ◌<◌, ◌≤◌, Bool, true, false, List, [], ◌∷◌, ◌++◌, length, take, get_or, map, sym, ◌∙◌, ap, subst, inl, inr, arith}
use Rattle.std.proofs.Math.Nat.{eq-or-lt_of_le}
use Rattle.std.proofs.lemmas.List.{get_or-map, get_or_default, length-map, take_more}
use Rattle.std.specs.Prelude.{Result, Ok, Err, IfOk, IsTrue}
use Rattle.sqval.specs.Database.{Database, page}
use Rattle.rig_judge.specs.Shown.{Commit, AgreesAt, Shows, ShowsNoneFrom, ShowsLast, nothing, nth, commit_of}
use Rattle.rig_judge.specs.declared.snapshot.Snapshot.{Snapshot}

-- commit number k of taken ones
pub nth_taken : (xs : List Snapshot) (k : ℕ) (s : Snapshot) → k < length xs → s ≡ get_or xs k s → nth (map commit_of xs) k ≡ commit_of s
nth_taken xs k s h e = get_or-map commit_of xs k s nothing h ∙ ap commit_of (sym e)

-- how many there are
pub count_taken : (xs : List Snapshot) → length (map commit_of xs) ≡ length xs
count_taken xs = length-map xs commit_of

-- none is shown from k on where none is behind it, and this one isn't
pub none_from : (commits : List Commit) (k : ℕ) (d : Database) → ShowsNoneFrom commits (k + 1) d → ¬ Shows (nth commits k) d → ShowsNoneFrom commits k d
none_from commits k d behind here j low high shown =
    elim (eq-or-lt_of_le low) [
      | inl e ↦ here (subst (λ (n : ℕ). Shows (nth commits n) d) (sym e) shown)
      | inr lt ↦ behind j (omega arith) high shown
    ]

-- the last of taken ones
pub last_taken : (xs : List Snapshot) (s : Snapshot) → 0 < length xs → s ≡ get_or xs (length xs - 1) s
    → nth (map commit_of xs) (length (map commit_of xs) - 1) ≡ commit_of s
last_taken xs s some e = ap (λ (n : ℕ). nth (map commit_of xs) (n - 1)) (count_taken xs) ∙ nth_taken xs (length xs - 1) s (omega arith) e

-- whether the last one is shown
pub shows_last : (xs : List Snapshot) (s : Snapshot) (d : Database) (b : Bool) → 0 < length xs → s ≡ get_or xs (length xs - 1) s
    → IsTrue b ↔ Shows (commit_of s) d → IsTrue b ↔ ShowsLast (map commit_of xs) d
shows_last xs s d b some e is =
    let same = last_taken xs s some e in
    let P : Commit → Type 0 = λ c. Shows c d in
    let count : length (map commit_of xs) ≡ length xs = count_taken xs in
    (λ t. (omega arith, subst P (sym same) (is.0 t)), λ shown. is.1 (subst P same shown.1))

pub shows_last_ok : {E : Type 0} (xs : List Snapshot) (n : ℕ) (s : Snapshot) (d : Database) (r : Result Bool E) → 0 < n → n ≡ length xs → s ≡ get_or xs (n - 1) s
    → IfOk r (λ b. IsTrue b ↔ Shows (commit_of s) d) → IfOk r (λ b. IsTrue b ↔ ShowsLast (map commit_of xs) d)
shows_last_ok xs n s d (Ok b) some all e is = shows_last xs s d b (subst (λ (m : ℕ). 0 < m) all some) (e ∙ ap (λ (m : ℕ). get_or xs (m - 1) s) all) is
shows_last_ok xs n s d (Err error) some all e is = tt

-- one commit before those that aren't shown isn't shown either
pub step_none : (xs : List Snapshot) (k : ℕ) (s : Snapshot) (d : Database) (b : Bool) → 0 < k → k ≤ length xs → s ≡ get_or xs (k - 1) s → b ≡ false
    → IsTrue b ↔ Shows (commit_of s) d → ShowsNoneFrom (map commit_of xs) k d → ShowsNoneFrom (map commit_of xs) (k - 1) d
step_none xs k s d b some within e unshown is behind =
    let commits = map commit_of xs in
    let next : k ≡ k - 1 + 1 = omega arith in
    let same : nth commits (k - 1) ≡ commit_of s = nth_taken xs (k - 1) s (omega arith) e in
    none_from commits (k - 1) d (subst (λ (n : ℕ). ShowsNoneFrom commits n d) next behind)
    (λ shown. let yes : b ≡ true = is.1 (subst (λ (c : Commit). Shows c d) same shown) in cc)

-- pages of a list of them, one further
pub page_more : (d : Database) (n : ℕ) (items new : List (List ℕ)) (value : List ℕ) → n < length d → items ≡ take n d → new ≡ items ++ value ∷ [] → value ≡ page d (n + 1) → new ≡ take (n + 1) d
unfolding page
page_more d n items new value h was made is =
    let at : n + 1 - 1 ≡ n = omega arith in
    made ∙ ap (λ (l : List (List ℕ)). l ++ value ∷ []) was ∙ ap (λ (v : List ℕ). take n d ++ v ∷ []) (is ∙ ap (λ (k : ℕ). get_or d k []) at) ∙ sym (take_more d n [] h)

-- page p, as it is read from a list
pub page_read : (d : Database) (p : ℕ) (bytes : List ℕ) → 0 < p → p ≤ length d → bytes ≡ get_or d (p - 1) bytes → bytes ≡ page d p
unfolding page
page_read d p bytes some within e = e ∙ get_or_default d (p - 1) bytes [] (omega arith)

-- the pages up to one more agree
pub more_agree : (c : Commit) (d : Database) (n : ℕ) → ((p : ℕ) → 1 ≤ p → p ≤ n → AgreesAt c p (page d p)) → AgreesAt c (n + 1) (page d (n + 1))
    → (p : ℕ) → 1 ≤ p → p ≤ n + 1 → AgreesAt c p (page d p)
more_agree c d n below here p low high =
    elim (eq-or-lt_of_le high) [
      | inl e ↦ subst (λ (q : ℕ). AgreesAt c q (page d q)) (sym e) here
      | inr lt ↦ below p low (omega arith)
    ]
