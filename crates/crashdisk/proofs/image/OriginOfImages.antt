-- What a crash may leave, before a call and after it.
use Rattle.crashdisk.proofs.Words.{Added, Bool, Changed, Contains, Contains-append_left, Contains-push, Contains-push_cases, FileState, IsImage, IsOldOrNew, IsSound, IsTrue, Kept, List, OneListed, Same, Shows, Value, [], ap, arith, cases_lt, false, get_or, get_or_append_left, get_or_at, get_or_past, inl, inr, length, length-append, max, min, refl, subst, suc, sym, zero, ℕ, ⊎_elim, ◌++◌, ◌/◌, ◌<◌, ◌↔◌, ◌∙◌, ◌∷◌, ◌≡◌, ◌⊎◌}

-- the first n values of a function
pub table : ℕ → (ℕ → ℕ) → List ℕ
table zero v = []
table (suc n) v = table n v ++ v n ∷ []

pub length-table : (n : ℕ) (v : ℕ → ℕ) → length (table n v) ≡ n
unfolding table
length-table zero v = refl
length-table (suc n) v = omega (arith, length-append (table n v) (v n ∷ []), length-table n v)

pub get_or-table : (n : ℕ) (v : ℕ → ℕ) (i : ℕ) → i < n → get_or (table n v) i 0 ≡ v i
unfolding table
get_or-table zero v i lt = absurd (omega arith)
get_or-table (suc n) v i lt = elim (cases_lt i n) [
  | inl below ↦
      let within : i < length (table n v) = omega (arith, length-table n v) in
      get_or_append_left (table n v) (v n ∷ []) 0 i within ∙ get_or-table n v i below
  | inr at ↦
      let is : i ≡ n = omega arith in
      get_or_at (table n v) (v n) [] 0 i (length-table n v ∙ sym is) ∙ ap v (sym is)
]

-- ---- After a change that was made a sector is as it might have been before, or new.

module _ (sector : ℕ) (tears : Bool) (touches : ℕ → Type 0) (target : Value) (end : ℕ) (old new : FileState) (changed : Changed sector touches target end old new) (c : List ℕ) where
  abbrev IsNew : ℕ → Type 0
  IsNew k = touches k × (Shows sector k target c ⊎ (IsTrue tears × ((i : ℕ) → i / sector ≡ k → get_or c i 0 < 256)))

  kept_one : (a b : FileState) (k : ℕ) → Kept sector a b k → OneListed sector tears b c k → OneListed sector tears a c k
  kept_one a b k kept (inl shows) = inl (λ i e lt. shows i e lt ∙ kept.present i e)
  kept_one a b k kept (inr (inl one)) = inr (inl (one.0, subst (λ (l : List Value). Contains l one.0) kept.earlier one.1, one.2))
  kept_one a b k kept (inr (inr torn)) = inr (inr (torn.0, subst (λ (l : List Value). 0 < length l) kept.earlier torn.1, torn.2))

  -- one of the two values is the present one before, and the other is new
  added_before : (k : ℕ) (listed now : Value) → touches k → Added sector old new k listed now
      → (Shows sector k listed c → OneListed sector tears old c k ⊎ IsNew k) → (Shows sector k now c → OneListed sector tears old c k ⊎ IsNew k)
      → OneListed sector tears new c k → OneListed sector tears old c k ⊎ IsNew k
  added_before k listed now touched added by_listed by_now (inl shows) = by_now (λ i e lt. shows i e lt ∙ added.present i e)
  added_before k listed now touched added by_listed by_now (inr (inl one)) =
      elim (Contains-push_cases (old.earlier k) added.value one.0 (subst (λ (l : List Value). Contains l one.0) added.earlier one.1)) [
        | inl was ↦ inl (inr (inl (one.0, was, one.2)))
        | inr is ↦ by_listed (λ i e lt. one.2 i e lt ∙ ap (λ (v : Value). v i) (sym is) ∙ added.is i e)
      ]
  added_before k listed now touched added by_listed by_now (inr (inr torn)) = inr (touched, inr (torn.0, torn.2))

  more : (k : ℕ) (listed now : Value) → Added sector old new k listed now → 0 < length (new.earlier k)
  more k listed now added = omega (arith, ap (λ (l : List Value). length l) added.earlier, length-append (old.earlier k) (added.value ∷ []))

  shows_listed : (k : ℕ) (listed now : Value) → Added sector old new k listed now → Shows sector k listed c → OneListed sector tears new c k
  shows_listed k listed now added shows =
      inr (inl (added.value, subst (λ (l : List Value). Contains l added.value) (sym added.earlier) (Contains-push (old.earlier k) added.value), λ i e lt. shows i e lt ∙ sym (added.is i e)))

  added_after : (k : ℕ) (listed now : Value) → Added sector old new k listed now
      → (Shows sector k old.present c → OneListed sector tears new c k) → OneListed sector tears old c k → OneListed sector tears new c k
  added_after k listed now added by_present (inl shows) = by_present shows
  added_after k listed now added by_present (inr (inl one)) =
      inr (inl (one.0, subst (λ (l : List Value). Contains l one.0) (sym added.earlier) (Contains-append_left (old.earlier k) (added.value ∷ []) one.0 one.1), one.2))
  added_after k listed now added by_present (inr (inr torn)) = inr (inr (torn.0, more k listed now added, torn.2))

  new_after : (k : ℕ) (listed now : Value) → Added sector old new k listed now → (Shows sector k target c → OneListed sector tears new c k) → IsNew k → OneListed sector tears new c k
  new_after k listed now added by_target is = ⊎_elim by_target (λ torn. inr (inr (torn.0, more k listed now added, torn.1))) is.1

  shows_now : (k : ℕ) (listed now : Value) → Added sector old new k listed now → Shows sector k now c → OneListed sector tears new c k
  shows_now k listed now added shows = inl (λ i e lt. shows i e lt ∙ sym (added.present i e))

  before : (k : ℕ) → OneListed sector tears new c k → OneListed sector tears old c k ⊎ IsNew k
  before k one = elim (changed.each k) [
    | inl kept ↦ inl (kept_one old new k kept.1 one)
    | inr touched ↦ elim touched.1 [
      | inl taken ↦ added_before k old.present target touched.0 taken (λ shows. inl (inl shows)) (λ shows. inr (touched.0, inl shows)) one
      | inr left ↦ added_before k target old.present touched.0 left (λ shows. inr (touched.0, inl shows)) (λ shows. inl (inl shows)) one
    ]
  ]

  after : (k : ℕ) → OneListed sector tears old c k ⊎ IsNew k → OneListed sector tears new c k
  after k one = elim (changed.each k) [
    | inl kept ↦ ⊎_elim (kept_one new old k (record { earlier = sym kept.1.earlier; present = λ i e. sym (kept.1.present i e) })) (λ is. absurd (kept.0 is.0)) one
    | inr touched ↦ elim touched.1 [
      | inl taken ↦ ⊎_elim (added_after k old.present target taken (shows_listed k old.present target taken)) (new_after k old.present target taken (shows_now k old.present target taken)) one
      | inr left ↦ ⊎_elim (added_after k target old.present left (shows_now k target old.present left)) (new_after k target old.present left (shows_listed k target old.present left)) one
    ]
  ]

  pub images_changed : IsImage sector tears new c ↔ IsOldOrNew sector tears touches target end old c
  images_changed = (
    λ image. record { least = omega (arith, image.least, changed.least); greatest = omega (arith, image.greatest, changed.greatest); each = λ k. before k (image.each k) },
    λ is. record { least = omega (arith, is.least, changed.least); greatest = omega (arith, is.greatest, changed.greatest); each = λ k. after k (is.each k) },
  )

-- a value of a sector of the file before the call, from which the sector comes that a crash leaves after it
pub record From (sector : ℕ) (tears : Bool) (touches : ℕ → Type 0) (target : Value) (old : FileState) (c : List ℕ) (k : ℕ) : Type 0 where
  pub value : Value
  pub listed : Same sector k value old.present ⊎ (((v : Value) × Contains (old.earlier k) v × Same sector k value v) ⊎ (IsTrue tears × (0 < length (old.earlier k)) × Same sector k value (λ i. get_or c i 0) × ((i : ℕ) → i / sector ≡ k → get_or c i 0 < 256)))
  -- it is the same, or the sector was touched and it was the present one
  pub comes : Shows sector k value c ⊎ (touches k × Same sector k value old.present × (Shows sector k target c ⊎ (IsTrue tears × (length (old.earlier k) ≡ 0))))

module _ (sector : ℕ) (tears : Bool) (touches : ℕ → Type 0) (target : Value) (end : ℕ) (old new : FileState) (changed : Changed sector touches target end old new) (c : List ℕ) (k : ℕ) where
  new_one : touches k → Shows sector k target c ⊎ (IsTrue tears × (length (old.earlier k) ≡ 0)) → From sector tears touches target old c k
  new_one touched shows = record { value = old.present; listed = inl (λ i e. refl); comes = inr (touched, (λ i e. refl), shows) }

  -- torn, and touched before the call
  torn_one : IsTrue tears → 0 < length (old.earlier k) → ((i : ℕ) → i / sector ≡ k → get_or c i 0 < 256) → From sector tears touches target old c k
  torn_one torn touched small = record { value = λ i. get_or c i 0; listed = inr (inr (torn, touched, (λ i e. refl), small)); comes = inl (λ i e lt. refl) }

  pub from_sector : OneListed sector tears new c k → From sector tears touches target old c k
  from_sector one = elim (before sector tears touches target end old new changed c k one) [
    | inl (inl shows) ↦ record { value = old.present; listed = inl (λ i e. refl); comes = inl shows }
    | inl (inr (inl was)) ↦ record { value = was.0; listed = inr (inl (was.0, was.1, λ i e. refl)); comes = inl was.2 }
    | inl (inr (inr torn)) ↦ torn_one torn.0 torn.1 torn.2
    | inr (touched, inl shows) ↦ new_one touched (inl shows)
    | inr (touched, inr torn) ↦ elim (cases_lt 0 (length (old.earlier k))) [ inl was ↦ torn_one torn.0 was torn.1 | inr none ↦ new_one touched (inr (torn.0, omega arith)) ]
  ]

pub not_torn : {tears : Bool} → tears ≡ false → IsTrue tears → ⊥
not_torn whole torn = let z : IsTrue false = subst IsTrue whole torn in cc z

-- Each file that a crash may leave after the call comes from one that a crash might have left before it.
pub record Comes (sector : ℕ) (tears : Bool) (touches : ℕ → Type 0) (target : Value) (old : FileState) (c : List ℕ) : Type 0 where
  pub file : List ℕ
  pub image : IsImage sector tears old file
  pub size : length file ≡ max old.least (min (length c) old.greatest)
  -- A sector has the same bytes, or it was touched and has what the call puts there; or it was touched on a disk
  -- that tears, for the first time since a sync.
  pub each : (k : ℕ) → ((i : ℕ) → i / sector ≡ k → i < length c → (i < length file) ⊎ (tears ≡ false) → get_or c i 0 ≡ get_or file i 0) ⊎ (touches k × ((i : ℕ) → i / sector ≡ k → i < length file → get_or file i 0 ≡ old.present i) × (Shows sector k target c ⊎ (IsTrue tears × (length (old.earlier k) ≡ 0))))

pub comes : (sector : ℕ) (tears : Bool) (touches : ℕ → Type 0) (target : Value) (end : ℕ) (old new : FileState) → IsSound sector old → Changed sector touches target end old new
    → (c : List ℕ) → IsImage sector tears new c → Comes sector tears touches target old c
comes sector tears touches target end old new sound changed c image =
    let from : (k : ℕ) → From sector tears touches target old c k = λ k. from_sector sector tears touches target end old new changed c k (image.each k) in
    let n : ℕ = max old.least (min (length c) old.greatest) in
    let v : Value = λ i. (from (i / sector)).value i in
    let long : length (table n v) ≡ n = length-table n v in
    let at : (k i : ℕ) → i / sector ≡ k → i < n → get_or (table n v) i 0 ≡ (from k).value i = λ k i e lt. get_or-table n v i lt ∙ ap (λ (j : ℕ). (from j).value i) e in
    record {
      file = table n v;
      image = record {
        least = omega (arith, long);
        greatest = omega (arith, long, sound.least, sound.greatest);
        each = λ k. elim (from k).listed [
          | inl present ↦ inl (λ i e lt. at k i e (omega (arith, long)) ∙ present i e)
          | inr (inl one) ↦ inr (inl (one.0, one.1, λ i e lt. at k i e (omega (arith, long)) ∙ one.2 i e))
          | inr (inr torn) ↦ inr (inr (
            torn.0,
            torn.1,
            λ i e. elim (cases_lt i n) [
              | inl lt ↦ subst (λ (b : ℕ). b < 256) (sym (at k i e lt ∙ torn.2 i e)) (torn.3 i e)
              | inr past ↦ subst (λ (b : ℕ). b < 256) (sym (get_or_past (table n v) i 0 (omega (arith, long)))) (omega arith)
            ],
          ))
        ];
      };
      size = long;
      each = λ k. elim (from k).comes [
        | inl shows ↦ inl (λ i e lt there. shows i e lt ∙ sym (elim (cases_lt i n) [
          | inl below ↦ at k i e below
          | inr past ↦ get_or_past (table n v) i 0 (omega (arith, long)) ∙ sym (elim (from k).listed [
            | inl present ↦ present i e ∙ sound.present_end i (omega arith)
            | inr (inl one) ↦ one.2 i e ∙ sound.earlier_end k one.0 one.1 i e (omega arith)
            | inr (inr torn) ↦ absurd (⊎_elim (λ below. omega (arith, long)) (λ whole. not_torn whole torn.0) there)
          ])
        ]))
        | inr put ↦ inr (put.0, (λ i e lt. at k i e (omega (arith, long)) ∙ put.1 i e), put.2)
      ];
    }
