-- Which faults a chart puts down as it goes over the pages.
use Rattle.sqcheck.proofs.Words.{ArePutDown, Btree, CheckError, FreeLeaf, FreeTrunk, List, LockByte, Overflow, PageUnused, PointerMap, Role, Unused, [], add-one, ap, append_assoc, arith, cases_lt, get_or, inl, inr, length, length-append, length-take, most_faults, refl, subst, suc, sym, take, take-append-add, take-append-le, take-suc, take_all, unused_fault, unused_faults, ℕ, ◌++◌, ◌+◌, ◌-◌, ◌<◌, ◌∙◌, ◌∷◌, ◌≡◌, ◌≢◌, ◌≤◌}
use Rattle.std.proofs.lemmas.List.{append-nil}

-- the first of some, and then of more
take_more : (room : ℕ) (xs ys : List CheckError) → take room (xs ++ ys) ≡ take room xs ++ take (room - length xs) ys
take_more room xs ys = elim (cases_lt room (length xs)) [
  | inl lt ↦ (
      let none : room - length xs ≡ 0 = omega (arith, lt) in
      take-append-le room xs ys (omega (arith, lt)) ∙ sym (ap (λ n. take room xs ++ take n ys) none ∙ append-nil (take room xs)))
  | inr ge ↦ (
      let split : room ≡ length xs + (room - length xs) = omega (arith, ge) in
      ap (λ n. take n (xs ++ ys)) split ∙ take-append-add xs ys (room - length xs)
      ∙ ap (λ zs. zs ++ take (room - length xs) ys) (sym (take_all room xs (omega (arith, ge)))))
]

-- Faults that were put down after others were put down with them.
pub more_down : (old xs mid ys new : List CheckError) → ArePutDown old xs mid → ArePutDown mid ys new → ArePutDown old (xs ++ ys) new
more_down old xs mid ys new first then =
    let room : most_faults - length mid ≡ (most_faults - length old) - length xs = omega (arith, ap length first, length-append old (take (most_faults - length old) xs), length-take (most_faults - length old) xs) in
    then ∙ ap (λ zs. zs ++ take (most_faults - length mid) ys) first
    ∙ ap (λ n. (old ++ take (most_faults - length old) xs) ++ take n ys) room
    ∙ append_assoc old (take (most_faults - length old) xs) (take ((most_faults - length old) - length xs) ys)
    ∙ ap (λ zs. old ++ zs) (sym (take_more (most_faults - length old) xs ys))

-- a page that something has named has none
pub no_fault : (page : ℕ) (role : Role) → role ≢ Unused → unused_fault page role ≡ []
no_fault page (Btree k r) ne = refl
no_fault page (Overflow o) ne = refl
no_fault page FreeTrunk ne = refl
no_fault page FreeLeaf ne = refl
no_fault page LockByte ne = refl
no_fault page PointerMap ne = refl
no_fault page Unused ne = absurd (ne refl)

-- one page more
pub one_more : (page : ℕ) (roles : List Role) (role : Role) → unused_faults page (roles ++ role ∷ []) ≡ unused_faults page roles ++ unused_fault (page + length roles) role
one_more page [] role = append-nil (unused_fault page role) ∙ ap (λ n. unused_fault n role) (let e : page ≡ page + 0 = omega arith in e)
one_more page (r ∷ roles) role =
    let e : suc page + length roles ≡ page + suc (length roles) = omega arith in
    ap (λ zs. unused_fault page r ++ zs) (one_more (suc page) roles role)
    ∙ sym (append_assoc (unused_fault page r) (unused_faults (suc page) roles) (unused_fault (suc page + length roles) role))
    ∙ ap (λ n. (unused_fault page r ++ unused_faults (suc page) roles) ++ unused_fault n role) e

-- the first pages, and one more
next : (roles : List Role) (i : ℕ) (d : Role) → i < length roles → unused_faults 1 (take (i + 1) roles) ≡ unused_faults 1 (take i roles) ++ unused_fault (i + 1) (get_or roles i d)
next roles i d lt =
    let page : 1 + length (take i roles) ≡ i + 1 = omega (arith, lt, length-take i roles) in
    let first : take (i + 1) roles ≡ take i roles ++ (get_or roles i d ∷ []) = rw add-one (take-suc roles i d lt) in
    ap (unused_faults 1) first ∙ one_more 1 (take i roles) (get_or roles i d) ∙ ap (λ n. unused_faults 1 (take i roles) ++ unused_fault n (get_or roles i d)) page

-- one that nothing has named, whose fault is put down
pub next_told : (old mid new : List CheckError) (roles : List Role) (i : ℕ) (d : Role) → i < length roles → get_or roles i d ≡ Unused
    → ArePutDown old (unused_faults 1 (take i roles)) mid → ArePutDown mid (record { page = i + 1; fault = PageUnused } ∷ []) new → ArePutDown old (unused_faults 1 (take (i + 1) roles)) new
next_told old mid new roles i d lt is first then =
    let all : unused_faults 1 (take (i + 1) roles) ≡ unused_faults 1 (take i roles) ++ (record { page = i + 1; fault = PageUnused } ∷ []) = next roles i d lt ∙ ap (λ r. unused_faults 1 (take i roles) ++ unused_fault (i + 1) r) is in
    subst (λ faults. ArePutDown old faults new) (sym all) (more_down old (unused_faults 1 (take i roles)) mid (record { page = i + 1; fault = PageUnused } ∷ []) new first then)

-- one that something has named
pub next_named : (old mid : List CheckError) (roles : List Role) (i : ℕ) (d : Role) → i < length roles → get_or roles i d ≢ Unused
    → ArePutDown old (unused_faults 1 (take i roles)) mid → ArePutDown old (unused_faults 1 (take (i + 1) roles)) mid
next_named old mid roles i d lt ne first =
    let all : unused_faults 1 (take (i + 1) roles) ≡ unused_faults 1 (take i roles) = next roles i d lt ∙ ap (λ f. unused_faults 1 (take i roles) ++ f) (no_fault (i + 1) (get_or roles i d) ne) ∙ append-nil (unused_faults 1 (take i roles)) in
    subst (λ faults. ArePutDown old faults mid) (sym all) first

-- all of them
pub all_told : (old new : List CheckError) (roles : List Role) (i : ℕ) → length roles ≤ i → ArePutDown old (unused_faults 1 (take i roles)) new → ArePutDown old (unused_faults 1 roles) new
all_told old new roles i le down = subst (λ rs. ArePutDown old (unused_faults 1 rs) new) (take_all i roles le) down
