-- What a chart has after all pages were put down.
use Rattle.sqcheck.proofs.Below.{Apart, AreAllRoles, AreRoles, AreSetDown, Chart, Charts, Database, Every, HasRole, IfSome, In, IsAutoVacuum, IsPage, IsPointerMap, IsRoleSetAside, IsSetAside, IsSetDown, IsWithin, KnowsReserved, List, LockByte, Option, PointerMap, Role, Some, Told, Unused, Visit, [], ap, arith, cases_eq, every_in, every_weaker, from_map, get_or, get_or-set_other, get_or-set_same, inl, inr, length, length-set, lock_byte_page, map, page, role_at, set, subst, sym, usable_size, word, ℕ, ◌+◌, ◌-◌, ◌<◌, ◌∙◌, ◌∷◌, ◌≡◌, ◌≢◌, ◌≤◌, ◌⊎◌}

abbrev pub charts : Chart → ℕ → Role → Chart → Type 0
charts old page role new = Charts old.roles.items page role new.roles.items

-- Every chart of a walk has as many pages.
pub told_long : (visits : List Visit) (old new : Chart) → Told charts old visits new → length new.roles.items ≡ length old.roles.items
told_long [] old new h = ap (λ (c : Chart). length c.roles.items) h
told_long (v ∷ visits) old new (next, step, h) = told_long visits next new h ∙ step.0

-- A page that isn't told of stays as it is.
kept : (visits : List Visit) (old new : Chart) (p : ℕ) → Told charts old visits new → Every (IsWithin (length old.roles.items)) (map (λ v. v.page) visits) → 0 < p → Every (λ q. p ≡ q → ⊥) (map (λ v. v.page) visits)
    → role_at new.roles.items p ≡ role_at old.roles.items p
kept [] old new p h within above off = ap (λ (c : Chart). role_at c.roles.items p) h
kept (v ∷ visits) old new p (next, step, h) within above off =
    let ne : p - 1 ≢ v.page - 1 = λ e. off.0 (let q : 0 < v.page = within.0.0 in omega (arith, e, q, above)) in
    kept visits next new p h (subst (λ n. Every (IsWithin n) (map (λ v. v.page) visits)) (sym step.0) within.1) above off.1
    ∙ ap (λ l. get_or l (p - 1) Unused) (step.1 within.0.0 within.0.1) ∙ get_or-set_other old.roles.items (v.page - 1) (p - 1) v.role Unused ne

-- Each page that is told of once has the role that is told.
told_at : (visits : List Visit) (old new : Chart) → Told charts old visits new → Every (IsWithin (length old.roles.items)) (map (λ v. v.page) visits) → Apart (map (λ v. v.page) visits) → (v : Visit) → In v visits
    → role_at new.roles.items v.page ≡ v.role
told_at [] old new h within apart v i = absurd i
told_at (w ∷ visits) old new (next, step, h) within apart v (inl e) =
    let rest = subst (λ n. Every (IsWithin n) (map (λ v. v.page) visits)) (sym step.0) within.1 in
    let lt : w.page - 1 < length old.roles.items = (let a : 0 < w.page = within.0.0 in let b : w.page ≤ length old.roles.items = within.0.1 in omega arith) in
    ap (λ (z : Visit). role_at new.roles.items z.page) e ∙ kept visits next new w.page h rest within.0.0 apart.0
    ∙ ap (λ l. get_or l (w.page - 1) Unused) (step.1 within.0.0 within.0.1) ∙ get_or-set_same old.roles.items (w.page - 1) w.role Unused lt ∙ ap (λ (z : Visit). z.role) (sym e)
told_at (w ∷ visits) old new (next, step, h) within apart v (inr i) =
    told_at visits next new h (subst (λ n. Every (IsWithin n) (map (λ v. v.page) visits)) (sym step.0) within.1) apart.1 v i

-- The chart has the roles of all pages, where it began with those that are set aside.
pub all_roles : (d : Database) (size : ℕ) (reserved : Option ℕ) (visits : List Visit) (old new : Chart) → KnowsReserved d size reserved → AreSetDown (length d) size reserved old.roles.items → Told charts old visits new → AreRoles d size visits
    → AreAllRoles d size new.roles.items
all_roles d size reserved visits old new known begun told are = record {
  long = told_long visits old new told ∙ begun.long;
  each = λ p is. elim (cases_eq p (lock_byte_page size)) [
    | inl e ↦ inr (inl (e, stays p is (inl e) ∙ (begun.each p is).lock e))
    | inr ne ↦ elim (cases_eq (word (page d 1) 52) 0) [
      | inl plain ↦ inl (named p is (λ aside. elim aside [ inl e ↦ ne e | inr auto ↦ auto.0 plain ]))
      | inr auto ↦ of_maps p is ne auto
    ]
  ];
}
  where
    pages : List ℕ
    pages = map (λ v. v.page) visits

    within : Every (IsWithin (length old.roles.items)) pages
    within = subst (λ n. Every (IsWithin n) pages) (sym begun.long) (every_weaker (λ q. IsWithin (length d) q × ¬ IsSetAside d size q) (IsWithin (length d)) (λ q h. h.0) pages are.once.within)

    off : (p : ℕ) → IsSetAside d size p → Every (λ q. p ≡ q → ⊥) pages
    off p aside = every_weaker (λ q. IsWithin (length d) q × ¬ IsSetAside d size q) (λ q. p ≡ q → ⊥) (λ q h e. h.1 (subst (IsSetAside d size) e aside)) pages are.once.within

    stays : (p : ℕ) → IsWithin (length d) p → IsSetAside d size p → role_at new.roles.items p ≡ role_at old.roles.items p
    stays p is aside = kept visits old new p told within is.0 (off p aside)

    named : (p : ℕ) → IsWithin (length d) p → ¬ IsSetAside d size p → HasRole d p (role_at new.roles.items p)
    named p is not =
        let found = from_map (λ v. v.page) p visits (are.once.each p is not) in
        let role : role_at new.roles.items p ≡ found.0.role = ap (role_at new.roles.items) found.2 ∙ told_at visits old new told within are.once.distinct found.0 found.1 in
        subst (λ q. HasRole d q (role_at new.roles.items p)) (sym found.2) (subst (HasRole d found.0.page) (sym role) (every_in (λ v. HasRole d v.page v.role) found.0 visits are.roles found.1))

    of_maps : (p : ℕ) → IsWithin (length d) p → p ≢ lock_byte_page size → IsAutoVacuum d → HasRole d p (role_at new.roles.items p) ⊎ IsRoleSetAside d size p (role_at new.roles.items p)
    of_maps p is ne auto =
        let one : IsPage d 1 = (let above : 0 < p = is.0 in let below : p ≤ length d = is.1 in (omega arith, omega arith)) in
        let k = known one auto in
        let down : IfSome (Some k.0) (λ n. (IsPointerMap size (size - n) p × (role_at old.roles.items p ≡ PointerMap)) ⊎ ((IsPointerMap size (size - n) p → ⊥) × (role_at old.roles.items p ≡ Unused))) =
        subst (λ r. IfSome r (λ n. (IsPointerMap size (size - n) p × (role_at old.roles.items p ≡ PointerMap)) ⊎ ((IsPointerMap size (size - n) p → ⊥) × (role_at old.roles.items p ≡ Unused)))) k.1 ((begun.each p is).map ne) in
        elim down [
          | inl is_map ↦ (
              let there : IsPointerMap size (usable_size d) p = subst (λ u. IsPointerMap size u p) k.2 is_map.0 in
              inr (inr (auto, there, stays p is (inr (auto, there)) ∙ is_map.1)))
          | inr isnt ↦ inl (named p is (λ aside. elim aside [ inl e ↦ ne e | inr a ↦ isnt.0 (subst (λ u. IsPointerMap size u p) (sym k.2) a.1) ]))
        ]

-- The roles of the first pages are set down.
pub record SetTo (size : ℕ) (reserved : Option ℕ) (count : ℕ) (roles : List Role) (n : ℕ) : Type 0 where
  pub long : length roles ≡ count
  pub each : (p : ℕ) → 0 < p → p ≤ n → IsSetDown size reserved p (role_at roles p)

-- and one more
pub one_set : (size : ℕ) (reserved : Option ℕ) (count : ℕ) (roles : List Role) (n : ℕ) (role : Role) → n < count → SetTo size reserved count roles n → IsSetDown size reserved (n + 1) role
    → SetTo size reserved count (set roles n role) (n + 1)
one_set size reserved count roles n role lt was is = record {
  long = length-set roles n role ∙ was.long;
  each = λ p above within. elim (cases_eq p (n + 1)) [
    | inl e ↦ (
        let at : p - 1 ≡ n = omega (arith, e) in
        let here : n < length roles = omega (arith, lt, was.long) in
        let same : role_at (set roles n role) p ≡ role = ap (λ k. get_or (set roles n role) k Unused) at ∙ get_or-set_same roles n role Unused here in
        subst (λ q. IsSetDown size reserved q (role_at (set roles n role) p)) (sym e) (subst (IsSetDown size reserved (n + 1)) (sym same) is))
    | inr ne ↦ (
        let below : p ≤ n = omega (arith, ne, within) in
        let other : p - 1 ≢ n = λ e. (omega (arith, e, above, below)) in
        subst (IsSetDown size reserved p) (sym (get_or-set_other roles n (p - 1) role Unused other)) (was.each p above below))
  ];
}
