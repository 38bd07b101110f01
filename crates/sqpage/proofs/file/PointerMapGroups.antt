-- The groups of pages that pointer maps speak of.
use Rattle.std.proofs.Common.{◌≡◌, ◌≢◌, ◌⊎◌, inl, inr, ⊎_elim, ℕ, suc, ◌+◌, ◌-◌, ◌*◌, ◌/◌, ◌%◌, ◌<◌, ◌≤◌, refl, sym, ◌∙◌, ap, subst, arith, eq-eqb, ne_eqb}
use Rattle.std.specs.Prelude.{Bool, if◌then◌else◌}
use Rattle.std.proofs.Math.Nat.{mul-le-mul_right}
use Rattle.std.proofs.lemmas.Nat.{div-add-mod'}
use Rattle.std.proofs.lemmas.Bool.{cases_lt, cases_eq}
use Rattle.sqval.specs.PageSize.{IsPageSize}
use Rattle.sqval.proofs.page.PageSizes.{one_of}
use Rattle.sqpage.specs.PointerMaps.{lock_byte, HoldsByte, lock_byte_page, group_length, group_start, group_map, IsPointerMap, IsEntryPlace}
use Rattle.sqpage.specs.internal.PointerMaps.{IsNear}
use Rattle.sqpage.specs.declared.pointer_map.EntryPlace.{EntryPlace}

-- the group of a page: where it begins and ends
pub begins : (usable p length : ℕ) → length ≡ group_length usable → 2 ≤ p → 2 + (p - 2) / length * length ≡ p - (p - 2) % length
begins usable p length is le = omega (arith, div-add-mod' (p - 2) length)

pub ends : (p length : ℕ) → 2 ≤ p → 1 ≤ length → p < 2 + ((p - 2) / length + 1) * length
ends p length le some = omega (arith, div-add-mod' (p - 2) length)

-- page p stands in group k
pub record IsIn (usable p k : ℕ) : Type 0 where
  pub low : group_start usable k ≤ p
  pub high : p < group_start usable (k + 1)

not_above : (usable a b p : ℕ) → IsIn usable p a → IsIn usable p b → a < b → ⊥
not_above usable a b p ina inb lt =
    let more : suc a * group_length usable ≤ b * group_length usable = mul-le-mul_right (group_length usable) lt in
    omega (arith, more, ina.high, inb.low)

pub one_group : (usable a b p : ℕ) → IsIn usable p a → IsIn usable p b → a ≡ b
one_group usable a b p ina inb = ⊎_elim
    (λ e. e)
    (λ ne. ⊎_elim (λ lt. absurd (not_above usable a b p ina inb lt)) (λ le. absurd (not_above usable b a p inb ina (omega arith))) (cases_lt a b))
    (cases_eq a b)

-- the map of a group is its first page, or the one behind it
pub map_cases : (size usable k : ℕ) → ((group_start usable k ≢ lock_byte_page size) × (group_map size usable k ≡ group_start usable k)) ⊎ ((group_start usable k ≡ lock_byte_page size) × (group_map size usable k ≡ group_start usable k + 1))
map_cases size usable k =
    let start = group_start usable k in
    ⊎_elim
    (λ e. inr (e, ap (λ (b : Bool). if b then start + 1 else start) (eq-eqb start (lock_byte_page size) e)))
    (λ ne. inl (ne, ap (λ (b : Bool). if b then start + 1 else start) (ne_eqb start (lock_byte_page size) ne)))
    (cases_eq start (lock_byte_page size))

pub map_low : (size usable k : ℕ) → group_start usable k ≤ group_map size usable k
map_low size usable k = ⊎_elim (λ x. omega (arith, x.1)) (λ x. omega (arith, x.1)) (map_cases size usable k)

pub map_in : (size usable k : ℕ) → 257 ≤ usable → IsIn usable (group_map size usable k) k
map_in size usable k some = record {
  low = map_low size usable k;
  high = ⊎_elim (λ x. omega (arith, x.1)) (λ x. omega (arith, x.1)) (map_cases size usable k);
}

pub near_low : (length p : ℕ) → 2 ≤ p → 2 + (p - 2) / length * length ≤ p
near_low length p le = omega (arith, div-add-mod' (p - 2) length)

-- the map near a page, where it isn't moved and where it is
module _ (size usable p : ℕ) (le : 2 ≤ p) where
  start : group_start usable ((p - 2) / group_length usable) ≡ p - (p - 2) % (usable / 5 + 1)
  start = begins usable p (usable / 5 + 1) refl le

  pub near_first : p - (p - 2) % (usable / 5 + 1) ≢ lock_byte_page size → IsNear size usable p (p - (p - 2) % (usable / 5 + 1))
  near_first ne = record {
    group = (p - 2) / group_length usable;
    low = near_low (group_length usable) p le;
    high = ends p (group_length usable) le (omega arith);
    map_is = sym start ∙ ⊎_elim (λ x. sym x.1) (λ x. absurd (ne (sym start ∙ x.0))) (map_cases size usable ((p - 2) / group_length usable));
  }

  pub near_second : p - (p - 2) % (usable / 5 + 1) ≡ lock_byte_page size → IsNear size usable p (p - (p - 2) % (usable / 5 + 1) + 1)
  near_second e = record {
    group = (p - 2) / group_length usable;
    low = near_low (group_length usable) p le;
    high = ends p (group_length usable) le (omega arith);
    map_is = ap (λ n. n + 1) (sym start) ∙ ⊎_elim (λ x. absurd (x.0 (start ∙ e))) (λ x. sym x.1) (map_cases size usable ((p - 2) / group_length usable));
  }

-- a page size is 512 at least
pub least_size : (n : ℕ) → IsPageSize n → 512 ≤ n
least_size n is = ⊎_elim (λ e. omega arith) (⊎_elim (λ e. omega arith) (⊎_elim (λ e. omega arith) (⊎_elim (λ e. omega arith) (⊎_elim (λ e. omega arith) (⊎_elim (λ e. omega arith) (⊎_elim (λ e. omega arith) (λ e. omega arith))))))) (one_of n is)

pub holds_lock : (size : ℕ) → 1 ≤ size → HoldsByte size (lock_byte / size + 1) lock_byte
holds_lock size some =
    let e : lock_byte / size + 1 - 1 ≡ lock_byte / size = omega arith in
    let low : lock_byte / size * size ≤ lock_byte = omega (arith, div-add-mod' lock_byte size) in
    (omega arith, subst (λ (n : ℕ). n * size ≤ lock_byte) (sym e) low, omega (arith, div-add-mod' lock_byte size))

-- what the map near a page says of it
module _ (size usable p map : ℕ) (near : IsNear size usable p map) where
  in_k : IsIn usable p near.group
  in_k = record { low = near.low; high = near.high }

  pub map_here : map ≡ p → IsPointerMap size usable p
  map_here e = (near.group, sym e ∙ near.map_is)

  pub map_there : 257 ≤ usable → IsPointerMap size usable p → map ≡ p
  map_there some is =
      let other : IsIn usable p is.0 = subst (λ (q : ℕ). IsIn usable q is.0) (sym is.1) (map_in size usable is.0 some) in
      near.map_is ∙ ap (group_map size usable) (one_group usable near.group is.0 p in_k other) ∙ sym is.1

  pub no_place : p ≤ map → (place : EntryPlace) → IsEntryPlace size usable p place → ⊥
  no_place le place is =
      let low : group_start usable is.group ≤ place.map = subst (λ (q : ℕ). group_start usable is.group ≤ q) (sym is.map_is) (map_low size usable is.group) in
      let behind : place.map < p = is.behind in
      let other : IsIn usable p is.group = record { low = omega arith; high = is.within } in
      let same : map ≡ place.map = near.map_is ∙ ap (group_map size usable) (one_group usable near.group is.group p in_k other) ∙ sym is.map_is in
      omega arith

-- pages below 2 have no entry
pub none_below : (size usable p : ℕ) (place : EntryPlace) → p < 2 → IsEntryPlace size usable p place → ⊥
none_below size usable p place lt is =
    let low : group_start usable is.group ≤ place.map = subst (λ (q : ℕ). group_start usable is.group ≤ q) (sym is.map_is) (map_low size usable is.group) in
    let behind : place.map < p = is.behind in
    omega arith

pub low_map : (size usable p : ℕ) → p < 2 → IsPointerMap size usable p → ⊥
low_map size usable p lt is = omega (arith, is.1, map_low size usable is.0)
