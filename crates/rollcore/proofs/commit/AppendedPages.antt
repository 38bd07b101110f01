-- Pages go into the file that the database doesn't have yet.
use Rattle.rollcore.proofs.Between.{AreOf, ArePut, AreSome, Bool, Bor, Contains, Contains-append_cases, Contains-push_cases, Database, Db, DiskError, DiskState, Err, Harmless, Journaled, List, Ok, PageStep, Pages, Result, RollError, Writes, [], ap, append-nil, append_assoc, arith, cond, false, get_or, get_or-map, inr, length, length-map, lent, most_bytes, nat_lt, nat_tests, new_numbers, page, refl, refusal_after, subst, sym, take, take_all, take_more, true, ℕ, ⊎_elim, ◌*◌, ◌++◌, ◌+◌, ◌-◌, ◌<◌, ◌∙◌, ◌∷◌, ◌≡◌, ◌≤◌}
use Rattle.rollcore.proofs.commit.OverwrittenPages.{journaled_writes, journaled_unharmed, put_writes, page_refused, page_done}

new_more : (n : ℕ) (xs : Pages) (x : ℕ × List ℕ) → n < x.0 → new_numbers n (xs ++ x ∷ []) ≡ new_numbers n xs ++ x.0 ∷ []
new_more n [] x lt = cond_true n x.0 (x.0 ∷ []) [] lt
  where
    cond_true : (a b : ℕ) (xs ys : List ℕ) → a < b → cond (nat_lt a b) xs ys ≡ xs
    cond_true a b xs ys lt = grind (arith, nat_tests)
new_more n (y ∷ xs) x lt = by (nat_lt n y.0) (new_more n xs x lt)
  where
    by : (t : Bool) → new_numbers n (xs ++ x ∷ []) ≡ new_numbers n xs ++ x.0 ∷ []
        → cond t (y.0 ∷ new_numbers n (xs ++ x ∷ [])) (new_numbers n (xs ++ x ∷ [])) ≡ cond t (y.0 ∷ new_numbers n xs) (new_numbers n xs) ++ x.0 ∷ []
    by true e = ap (λ (l : List ℕ). y.0 ∷ l) e
    by false e = e

new_same : (n : ℕ) (xs : Pages) (x : ℕ × List ℕ) → x.0 ≤ n → new_numbers n (xs ++ x ∷ []) ≡ new_numbers n xs
new_same n [] x le = cond_false n x.0 (x.0 ∷ []) [] le
  where
    cond_false : (a b : ℕ) (xs ys : List ℕ) → b ≤ a → cond (nat_lt a b) xs ys ≡ ys
    cond_false a b xs ys le = grind (arith, nat_tests)
new_same n (y ∷ xs) x le = ap (λ (l : List ℕ). cond (nat_lt n y.0) (y.0 ∷ l) l) (new_same n xs x le)

-- a number that is new is above the size
new_first : (t : Bool) (n m p : ℕ) (xs : List ℕ) → nat_lt n m ≡ t → (Contains xs p → n < p) → Contains (cond t (m ∷ xs) xs) p → n < p
new_first false n m p xs e rest has = rest has
new_first true n m p xs e rest has = ⊎_elim
    (λ first. ⊎_elim (λ none. absurd (omega (arith, none.1))) (λ here. let above : n < m = test n m e in omega (arith, here)) (Contains-push_cases [] m p first))
    (λ later. rest later)
    (Contains-append_cases (m ∷ []) xs p has)
  where
    test : (a b : ℕ) → nat_lt a b ≡ true → a < b
    test a b e = grind (arith, nat_tests)

new_some : (n : ℕ) (xs : Pages) (p : ℕ) → Contains (new_numbers n xs) p → n < p
new_some n [] p has = absurd (omega (arith, has.1))
new_some n (x ∷ xs) p has = new_first (nat_lt n x.0) n x.0 p (new_numbers n xs) refl (new_some n xs p) has

pub lent_length : (pages : List (ℕ × Bor (List ℕ))) → length (lent pages) ≡ length pages
lent_length pages = length-map {B = ℕ × List ℕ} pages (λ p. (p.0, p.1.now))

pub lent_at : (pages : List (ℕ × Bor (List ℕ))) (k : ℕ) (other : ℕ × Bor (List ℕ)) → k < length pages → ((get_or (lent pages) k (0, [])).0 ≡ (get_or pages k other).0) × ((get_or (lent pages) k (0, [])).1 ≡ (get_or pages k other).1.now)
lent_at pages k other lt =
    let e = get_or-map (λ (p : ℕ × Bor (List ℕ)). (p.0, p.1.now)) pages k other (0, []) lt in
    (ap (λ (x : ℕ × List ℕ). x.0) e, ap (λ (x : ℕ × List ℕ). x.1) e)

module _ (size sector : ℕ) (d e : Database) (named : List ℕ) (place : ℕ) (w : List ℕ) (begun : 0 < place) (pages : Pages) (are : AreOf size e pages) (before : List ℕ) (somes : AreSome before) where
  -- so many pages are seen to
  pub record Grown (i : ℕ) (a b : DiskState) : Type 0 where
    pub journaled : Journaled size sector d named place w b
    pub put : ArePut size e (before ++ new_numbers (length d) (take i pages)) b.db
    pub refused : a.refused ≤ b.refused

  pub grown_none : (s : DiskState) → Journaled size sector d named place w s → ArePut size e before s.db → Grown 0 s s
  grown_none s is put = record { journaled = is; put = subst (λ (l : List ℕ). ArePut size e l s.db) (sym (append-nil before)) put; refused = omega arith }

  pub grown_all : (i : ℕ) (a b : DiskState) → length pages ≤ i → Grown i a b → Journaled size sector d named place w b × ArePut size e (before ++ new_numbers (length d) pages) b.db × (a.refused ≤ b.refused)
  grown_all i a b all is = (is.journaled, subst (λ (l : Pages). ArePut size e (before ++ new_numbers (length d) l) b.db) (take_all i pages all) is.put, is.refused)

  somes_upto : (i : ℕ) → AreSome (before ++ new_numbers (length d) (take i pages))
  somes_upto i p has = ⊎_elim (λ early. somes p early) (λ late. let above = new_some (length d) (take i pages) p late in omega arith) (Contains-append_cases before (new_numbers (length d) (take i pages)) p has)

  module _ (i : ℕ) (lt : i < length pages) where
    abbrev x : ℕ × List ℕ
    x = get_or pages i (0, [])

    pub grown_old : (a b : DiskState) → x.0 ≤ length d → Grown i a b → Grown (i + 1) a b
    grown_old a b le is = record {
      journaled = is.journaled;
      put = subst (λ (l : List ℕ). ArePut size e (before ++ l) b.db) (sym (ap (λ (l : Pages). new_numbers (length d) l) (take_more pages i (0, []) lt) ∙ new_same (length d) (take i pages) x le)) is.put;
      refused = is.refused;
    }

    module _ {T : Type 0} (number : ℕ) (content : List ℕ) (r : Result T RollError) (a b c : DiskState) (number_is : number ≡ x.0) (content_is : content ≡ x.1) (above : length d < number) (is : Grown i a b) (step : PageStep number content r b c) where
      full : length content ≡ size
      full = ap (λ (l : List ℕ). length l) content_is ∙ (are i lt).1

      one : 1 ≤ number
      one = omega (arith, above)

      journaled_then : {U : Type 0} (called : Result U DiskError) → Writes Db ((number - 1) * length content) content called b c → Journaled size sector d named place w c
      journaled_then called wrote = journaled_writes size sector d named place w begun number content called b c is.journaled one (inr above) full
          (subst (λ (n : ℕ). Writes Db ((number - 1) * n) content called b c) full wrote)

      pub grown_put : (v : T) → r ≡ Ok v → Grown (i + 1) a c
      grown_put v was =
          let done = page_done number content r b c is.journaled.at.suits.sound step v was in
          let numbers : List ℕ = before ++ new_numbers (length d) (take i pages) in
          let more : before ++ new_numbers (length d) (take (i + 1) pages) ≡ numbers ++ number ∷ [] =
          ap (λ (l : List ℕ). before ++ l) (ap (λ (l : Pages). new_numbers (length d) l) (take_more pages i (0, []) lt) ∙ new_more (length d) (take i pages) x (omega (arith, above, number_is)) ∙ ap (λ (n : ℕ). new_numbers (length d) (take i pages) ++ n ∷ []) (sym number_is))
          ∙ sym (append_assoc before (new_numbers (length d) (take i pages)) (number ∷ [])) in record {
            journaled = journaled_then (Ok done.0) done.1;
            put = subst (λ (l : List ℕ). ArePut size e l c.db) (sym more)
                (put_writes size e numbers number content b c (somes_upto i) one (content_is ∙ (are i lt).0 ∙ ap (λ (n : ℕ). page e n) (sym number_is)) full is.put
                (subst (λ (n : ℕ). Writes Db ((number - 1) * n) content (Ok done.0) b c) full done.1));
            refused = omega (arith, is.refused, done.1.elsewhere.refused);
          }

      pub grown_failed : (error : RollError) → r ≡ Err error → Harmless size d error a c
      grown_failed error was =
          let fits : number * length content ≤ most_bytes = subst (λ (n : ℕ). n * length content ≤ most_bytes) (sym number_is) (subst (λ (n : ℕ). x.0 * n ≤ most_bytes) (sym full) (are i lt).2) in
          let had = page_refused number content r b c is.journaled.at.suits.sound step error one fits was in
          record { device = had.0; refusal = refusal_after a b c is.refused had.1; unharmed = journaled_unharmed size sector d named place w begun c (journaled_then step.0 step.2) }
