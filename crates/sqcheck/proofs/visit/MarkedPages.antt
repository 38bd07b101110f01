-- Marks on the pages that were taken.
use Rattle.sqcheck.proofs.Words.{Bool, Database, IsAsideWith, IsAutoVacuum, IsPointerMap, IsWithin, List, MarksAside, MarksMaps, MarksOne, ap, count_by, false, fewer_unmarked, get_or, inl, inr, is_marked, length, lock_byte_page, not, page, refl, set, subst, sym, true, usable_size, word, ℕ, ⊎_elim, ◌-◌, ◌<◌, ◌∙◌, ◌≡◌, ◌≤◌, ◌⊎◌}

pub fewer_left : (marks : List Bool) (p : ℕ) → 0 < p → p ≤ length marks → get_or marks (p - 1) false ≡ false → count_by not (set marks (p - 1) true) < count_by not marks
fewer_left marks p above within was = fewer_unmarked marks (set marks (p - 1) true) p (record { above = above; within = within; was = was; now_marked = refl })

-- Marked besides are the pointer maps among the first pages.
pub record MarkedTo (size usable : ℕ) (old new : List Bool) (n : ℕ) : Type 0 where
  pub below : (p : ℕ) → 0 < p → p ≤ n → (is_marked new p ≡ true → (is_marked old p ≡ true) ⊎ IsPointerMap size usable p) × ((is_marked old p ≡ true) ⊎ IsPointerMap size usable p → is_marked new p ≡ true)
  pub above : (p : ℕ) → n < p → is_marked new p ≡ is_marked old p

-- Without auto-vacuum the lock-byte page alone is set aside.
pub aside_marked : (d : Database) (marks : List Bool) (size : ℕ) → length (page d 1) ≡ size → word (page d 1) 52 ≡ 0
    → MarksOne marks (lock_byte_page size) → MarksAside d marks
aside_marked d marks size long plain one p within =
    let at = ap lock_byte_page long in (
      (λ marked. inl ((one p within).0 marked ∙ sym at)),
      (λ aside. ⊎_elim (λ lock. (one p within).1 (lock ∙ at)) (λ maps. absurd (maps.0 plain)) aside),
    )

-- With it the pointer maps are too.
pub maps_marked : (d : Database) (marks new : List Bool) (size usable : ℕ) → length (page d 1) ≡ size → usable_size d ≡ usable → IsAutoVacuum d → length new ≡ length marks
    → MarksOne marks (lock_byte_page size) → MarksMaps size usable marks new → MarksAside d new
maps_marked d marks new size usable long used auto same one maps p within =
    let at = ap lock_byte_page long in
    let here : IsWithin (length marks) p = subst (λ n. IsWithin n p) same within in
    let there : IsPointerMap (length (page d 1)) (usable_size d) p → IsPointerMap size usable p = λ h. subst (λ u. IsPointerMap size u p) used (subst (λ n. IsPointerMap n (usable_size d) p) long h) in
    let back : IsPointerMap size usable p → IsPointerMap (length (page d 1)) (usable_size d) p = λ h. subst (λ n. IsPointerMap n (usable_size d) p) (sym long) (subst (λ u. IsPointerMap size u p) (sym used) h) in (
      (λ marked. ⊎_elim (λ was. inl ((one p here).0 was ∙ sym at)) (λ map. inr (auto, back map)) ((maps p here).0 marked)),
      (λ aside. ⊎_elim (λ lock. (maps p here).1 (inl ((one p here).1 (lock ∙ at)))) (λ map. (maps p here).1 (inr (there map.1))) aside),
    )

-- Each marked page is one that nothing may name.
pub maps_barred : (maps : Bool) (d : Database) (marks new : List Bool) (size page_size usable : ℕ) → page_size ≡ size → usable_size d ≡ usable → maps ≡ true → IsAutoVacuum d → length new ≡ length marks → MarksOne marks (lock_byte_page page_size)
    → MarksMaps page_size usable marks new → (p : ℕ) → IsWithin (length new) p → is_marked new p ≡ true → IsAsideWith maps d size p
maps_barred maps d marks new size page_size usable sized used asked auto same one all p within marked =
    let here : IsWithin (length marks) p = subst (λ n. IsWithin n p) same within in
    ⊎_elim (λ was. inl ((one p here).0 was ∙ ap lock_byte_page sized))
    (λ map. inr (asked, auto, subst (λ u. IsPointerMap size u p) (sym used) (subst (λ n. IsPointerMap n usable p) sized map)))
    ((all p here).0 marked)
