-- What a change of a modelled file leaves, from the changes of its sectors.
use Rattle.crashdisk.proofs.Below.{AreRising, AreWhole, Bool, Changed, EachOf, Err, FileState, Gets, Held, IfOk, IsDone, IsHeld, IsListOf, IsMadeInPart, IsPicked, List, Ok, Part, Result, Takes, Touches, [], ap, arith, before_last, cases_lt, changing, cond, div-mul-le_self, false, file_by, file_of, find, get_or, get_or-append_right, get_or-replicate, get_or_append_left, inl, inr, is_odd, last_of, length, length-append, length-replicate, longest, max, min, mul-le-mul_right, put_byte, refl, replicate, subst, suc, swapped, sym, true, zero, ℕ, ⊎_elim, ◌*◌, ◌++◌, ◌+◌, ◌-◌, ◌/◌, ◌<◌, ◌∙◌, ◌∷◌, ◌≡◌, ◌≤◌, ◌⊎◌}
use Rattle.crashdisk.specs.internal.Answer.{IsMade}
use Rattle.crashdisk.specs.declared.held.Change.{Change}
use Rattle.crashdisk.proofs.sector.ValuesOfChangedSectors.{Long, long_append, long_one, long_before, Taken, Left, changed_by, done_by, swapped_pushed, taken_one, left_one}
use Rattle.crashdisk.proofs.sector.TouchedSectors.{touched_there}

-- more sectors of zeros
pub whole_grown : (sector m : ℕ) (xs : List (List (List ℕ))) → AreWhole sector xs → AreWhole sector (xs ++ replicate m (replicate sector 0 ∷ []))
whole_grown sector m xs whole = record {
  some = λ k lt. elim (cases_lt k (length xs)) [
    | inl below ↦ subst (λ (v : List (List ℕ)). 0 < length v) (sym (get_or_append_left xs (replicate m zeros) [] k below)) (whole.some k below)
    | inr past ↦ subst (λ (v : List (List ℕ)). 0 < length v) (sym (behind k lt past)) (omega arith)
  ];
  long = λ k n lt lt_n. elim (cases_lt k (length xs)) [
    | inl below ↦
        let same = get_or_append_left xs (replicate m zeros) [] k below in
        ap (λ (v : List (List ℕ)). length (get_or v n [])) same ∙ whole.long k n below (subst (λ (v : List (List ℕ)). n < length v) same lt_n)
    | inr past ↦
        let same = behind k lt past in
        ap (λ (v : List (List ℕ)). length (get_or v n [])) same ∙ one n (subst (λ (v : List (List ℕ)). n < length v) same lt_n)
  ];
}
  where
    zeros : List (List ℕ)
    zeros = replicate sector 0 ∷ []

    behind : (k : ℕ) → k < length (xs ++ replicate m zeros) → length xs ≤ k → get_or (xs ++ replicate m zeros) k [] ≡ zeros
    behind k lt past = get_or-append_right xs (replicate m zeros) (length xs) k [] refl past ∙ get_or-replicate m (k - length xs) zeros [] (omega (arith, length-append xs (replicate m zeros), length-replicate m zeros))

    one : (n : ℕ) → n < 1 → length (get_or zeros n []) ≡ sector
    one zero lt = length-replicate sector 0
    one (suc n) lt = absurd (omega arith)

pub room_grown : (sector a n end : ℕ) → 0 < sector → a * sector ≤ longest + sector → end ≤ longest → n ≤ max a (end / sector + 1) → n * sector ≤ longest + sector
room_grown sector a n end positive room within le = elim (cases_lt a (end / sector + 1)) [
  | inl lt ↦ omega (arith, mul-le-mul_right sector (let less : n ≤ end / sector + 1 = omega arith in less), div-mul-le_self end sector)
  | inr ge ↦ omega (arith, mul-le-mul_right sector (let less : n ≤ a = omega arith in less))
]

pub held_grown : (sector end : ℕ) (old new : Held) → IsHeld sector old → end ≤ longest → new.sectors.items ≡ old.sectors.items ++ replicate (length new.sectors.items - length old.sectors.items) (replicate sector 0 ∷ [])
    → length new.sectors.items ≤ max (length old.sectors.items) (end / sector + 1) → IsHeld sector new
held_grown sector end old new held within grown le = record {
  positive = held.positive;
  small = held.small;
  whole = subst (λ l. AreWhole sector l) (sym grown) (whole_grown sector (length new.sectors.items - length old.sectors.items) old.sectors.items held.whole);
  room = room_grown sector (length old.sectors.items) (length new.sectors.items) end held.positive held.room within le;
}

-- each touched sector is held
pub all_there : (sector from to end len : ℕ) (xs : List (List (List ℕ))) (list : List ℕ) → 0 < sector → (from < to → to / sector < length xs)
    → IsListOf (Touches sector (file_by sector xs len 0 0) from to end) list → AreRising (length xs) list
all_there sector from to end len xs list positive there all = record {
  rising = all.rising;
  below = λ i lt. touched_there sector from to end len xs positive (get_or list i 0) there (all.touched i lt);
}

module _ (sector from keep : ℕ) (bytes list : List ℕ) (touches : ℕ → Type 0) (xs mid : List (List (List ℕ))) (whole : AreWhole sector xs) (all : IsListOf touches list) (rising : AreRising (length xs) list)
    (gets : EachOf list (Gets sector from keep bytes list) xs mid) where
  -- of a sector that isn't in the list nothing changes
  not_touched : (k : ℕ) → ((i : ℕ) → i < length list → get_or list i 0 ≡ k → ⊥) → touches k → ⊥
  not_touched k none t = let one = all.all k t in none one.0 one.1 one.2

  touched_at : (k i : ℕ) → i < length list → get_or list i 0 ≡ k → touches k
  touched_at k i lt is = subst touches is (all.touched i lt)

  some_at : (k i : ℕ) → i < length list → get_or list i 0 ≡ k → 0 < length (get_or xs k [])
  some_at k i lt is = whole.some k (subst (λ (j : ℕ). j < length xs) is (rising.below i lt))

  taken_at : (k i : ℕ) → i < length list → get_or list i 0 ≡ k → Taken sector from keep bytes k (get_or xs k []) (get_or mid k [])
  taken_at k i lt is = subst (λ (j : ℕ). Taken sector from keep bytes j (get_or xs j []) (get_or mid j [])) is (let made = gets.each i lt in record { value = made.0; is = made.1; put = made.2 })

  pub taken_each : (k : ℕ) → touches k → (0 < length (get_or xs k [])) × Taken sector from keep bytes k (get_or xs k []) (get_or mid k [])
  taken_each k t = let one = all.all k t in (some_at k one.0 one.1 one.2, taken_at k one.0 one.1 one.2)

  pub carried_each : (k : ℕ) → ((touches k → ⊥) × (get_or mid k [] ≡ get_or xs k [])) ⊎ (touches k × (0 < length (get_or xs k [])) × (Taken sector from keep bytes k (get_or xs k []) (get_or mid k []) ⊎ Left sector from keep bytes k (get_or xs k []) (get_or mid k [])))
  carried_each k = elim (find list k) [
    | inr none ↦ inl (not_touched k none, gets.left k none)
    | inl one ↦ inr (touched_at k one.0 one.1 one.2, some_at k one.0 one.1 one.2, inl (taken_at k one.0 one.1 one.2))
  ]

  -- each touched sector has two values at least
  pub two_each : (i : ℕ) → i < length list → 2 ≤ length (get_or mid (get_or list i 0) [])
  two_each i lt =
      let made = gets.each i lt in
      omega (arith, some_at (get_or list i 0) i lt refl, ap (λ (l : List (List ℕ)). length l) made.1, length-append (get_or xs (get_or list i 0) []) (made.0 ∷ []))

  module _ (pick : List ℕ) (ys : List (List (List ℕ))) (takes : EachOf list (Takes pick) mid ys) where
    -- whether the new value was taken
    by_pick : (k : ℕ) (b : Bool) → 0 < length (get_or xs k []) → Taken sector from keep bytes k (get_or xs k []) (get_or mid k []) → get_or ys k [] ≡ cond b (get_or mid k []) (swapped (get_or mid k []))
        → ((b ≡ true) × Taken sector from keep bytes k (get_or xs k []) (get_or ys k [])) ⊎ ((b ≡ false) × Left sector from keep bytes k (get_or xs k []) (get_or ys k []))
    by_pick k true some taken is = inl (refl, record { value = taken.value; is = is ∙ taken.is; put = taken.put })
    by_pick k false some taken is = inr (refl, record { value = taken.value; is = is ∙ ap swapped taken.is ∙ swapped_pushed (get_or xs k []) taken.value some; put = taken.put })

    pub picked_at : (i : ℕ) → i < length list → ((is_odd (get_or pick i 0) ≡ true) × Taken sector from keep bytes (get_or list i 0) (get_or xs (get_or list i 0) []) (get_or ys (get_or list i 0) []))
        ⊎ ((is_odd (get_or pick i 0) ≡ false) × Left sector from keep bytes (get_or list i 0) (get_or xs (get_or list i 0) []) (get_or ys (get_or list i 0) []))
    picked_at i lt = by_pick (get_or list i 0) (is_odd (get_or pick i 0)) (some_at (get_or list i 0) i lt refl) (taken_at (get_or list i 0) i lt refl) (takes.each i lt)

    pub failed_each : (k : ℕ) → ((touches k → ⊥) × (get_or ys k [] ≡ get_or xs k [])) ⊎ (touches k × (0 < length (get_or xs k [])) × (Taken sector from keep bytes k (get_or xs k []) (get_or ys k []) ⊎ Left sector from keep bytes k (get_or xs k []) (get_or ys k [])))
    failed_each k = elim (find list k) [
      | inr none ↦ inl (not_touched k none, takes.left k none ∙ gets.left k none)
      | inl one ↦ inr (
        touched_at k one.0 one.1 one.2,
        some_at k one.0 one.1 one.2,
        subst (λ (j : ℕ). Taken sector from keep bytes j (get_or xs j []) (get_or ys j []) ⊎ Left sector from keep bytes j (get_or xs j []) (get_or ys j [])) one.2
            (⊎_elim (λ taken. inl taken.1) (λ left. inr left.1) (picked_at one.0 one.1)),
      )
    ]

-- what is left is whole
pub whole_each : (sector from keep : ℕ) (bytes : List ℕ) (touches : ℕ → Type 0) (xs ys : List (List (List ℕ))) → length ys ≡ length xs → AreWhole sector xs
    → ((k : ℕ) → ((touches k → ⊥) × (get_or ys k [] ≡ get_or xs k [])) ⊎ (touches k × (0 < length (get_or xs k [])) × (Taken sector from keep bytes k (get_or xs k []) (get_or ys k []) ⊎ Left sector from keep bytes k (get_or xs k []) (get_or ys k []))))
    → AreWhole sector ys
whole_each sector from keep bytes touches xs ys count whole each =
    let both : (k : ℕ) → k < length ys → (0 < length (get_or ys k [])) × Long sector (get_or ys k []) = λ k lt.
    let long : Long sector (get_or xs k []) = λ n lt_n. whole.long k n (omega arith) lt_n in
    elim (each k) [
      | inl kept ↦ subst (λ (v : List (List ℕ)). (0 < length v) × Long sector v) (sym kept.1) (whole.some k (omega arith), long)
      | inr touched ↦ ⊎_elim
          (λ taken. subst (λ (v : List (List ℕ)). (0 < length v) × Long sector v) (sym taken.is) (omega (arith, length-append (get_or xs k []) (taken.value ∷ [])), long_append sector (get_or xs k []) (taken.value ∷ []) long (long_one sector taken.value taken.put.long)))
          (λ left. subst (λ (v : List (List ℕ)). (0 < length v) × Long sector v) (sym left.is) (
            omega (arith, length-append (before_last (get_or xs k []) ++ left.value ∷ []) (last_of (get_or xs k []) ∷ [])),
            long_append sector (before_last (get_or xs k []) ++ left.value ∷ []) (last_of (get_or xs k []) ∷ [])
                (long_append sector (before_last (get_or xs k [])) (left.value ∷ []) (long_before sector (get_or xs k []) long) (long_one sector left.value left.put.long))
                (long_one sector (last_of (get_or xs k [])) (long (length (get_or xs k []) - 1) (omega (arith, touched.1)))),
          ))
          touched.2
    ] in
    record { some = λ k lt. (both k lt).0; long = λ k n lt lt_n. (both k lt).1 n lt_n }

-- what holds of a value holds of another property that follows
pub if_ok : {T E : Type 0} (P Q : T → Type 0) (r : Result T E) → ((v : T) → P v → Q v) → IfOk r P → IfOk r Q
if_ok P Q (Ok v) f p = f v p
if_ok P Q (Err e) f p = p

pub same_room : (sector n m : ℕ) → m ≡ n → n * sector ≤ longest + sector → m * sector ≤ longest + sector
same_room sector n m is room = subst (λ (k : ℕ). k * sector ≤ longest + sector) (sym is) room

-- the same number of whole sectors
pub held_again : (sector : ℕ) (old new : Held) → IsHeld sector old → length new.sectors.items ≡ length old.sectors.items → AreWhole sector new.sectors.items → IsHeld sector new
held_again sector old new held count whole = record { positive = held.positive; small = held.small; whole = whole; room = same_room sector (length old.sectors.items) (length new.sectors.items) count held.room }

-- what a change leaves of a file
module _ (sector : ℕ) (change : Change) (found list : List ℕ) (old mid new : Held) (same : file_of sector mid ≡ file_of sector old) (held : IsHeld sector mid) (is : list ≡ found)
    (listed : IsListOf (Touches sector (file_of sector old) change.from change.to change.end) found × AreRising (length mid.sectors.items) found) where
  abbrev touches : ℕ → Type 0
  touches = Touches sector (file_of sector old) change.from change.to change.end

  abbrev xs : List (List (List ℕ))
  xs = mid.sectors.items

  abbrev ys : List (List (List ℕ))
  ys = new.sectors.items

  all : IsListOf touches list
  all = subst (λ l. IsListOf touches l) (sym is) listed.0

  rising : AreRising (length xs) list
  rising = subst (λ l. AreRising (length xs) l) (sym is) listed.1

  -- it was carried out
  module _ (gets : EachOf list (Gets sector change.from change.keep change.bytes.now list) xs ys) where
    pub held_made : IsHeld sector new
    held_made = held_again sector mid new held gets.count
        (whole_each sector change.from change.keep change.bytes.now touches xs ys gets.count held.whole (carried_each sector change.from change.keep change.bytes.now list touches xs ys held.whole all rising gets))

    pub is_made : new.len ≡ change.end → new.least ≡ min mid.least change.end → new.greatest ≡ max mid.greatest change.end → IsMade sector (changing (file_of sector old) change) old new
    is_made len least greatest = record {
      changed = subst (λ (s : FileState). Changed sector touches (λ i. put_byte change.from change.keep change.bytes.now i (s.present i)) change.end s (file_of sector new)) same
          (changed_by sector change.from change.keep change.bytes.now xs ys mid.len mid.least mid.greatest new.len new.least new.greatest held.positive touches change.end (inr len) least greatest
          (carried_each sector change.from change.keep change.bytes.now list touches xs ys held.whole all rising gets));
      done = subst (λ (s : FileState). IsDone sector touches (λ i. put_byte change.from change.keep change.bytes.now i (s.present i)) change.end (file_of sector new)) same
          (done_by sector change.from change.keep change.bytes.now xs ys mid.len mid.least mid.greatest new.len new.least new.greatest held.positive touches change.end len
          (taken_each sector change.from change.keep change.bytes.now list touches xs ys held.whole all rising gets));
    }

  -- it failed in the middle
  module _ (after : List (List (List ℕ))) (gets : EachOf list (Gets sector change.from change.keep change.bytes.now list) xs after) where
    pub two_made : (i : ℕ) → i < length list → 2 ≤ length (get_or after (get_or list i 0) [])
    two_made = two_each sector change.from change.keep change.bytes.now list touches xs after held.whole all rising gets

    module _ (part : Part) (pick : List ℕ) (is_pick : pick ≡ part.pick.items) (taken : EachOf list (Takes pick) after ys) where
      takes : EachOf list (Takes part.pick.items) after ys
      takes = subst (λ p. EachOf list (Takes p) after ys) is_pick taken

      pub held_in_part : IsHeld sector new
      held_in_part = held_again sector mid new held (takes.count ∙ gets.count)
          (whole_each sector change.from change.keep change.bytes.now touches xs ys (takes.count ∙ gets.count) held.whole (failed_each sector change.from change.keep change.bytes.now list touches xs after held.whole all rising gets part.pick.items ys takes))

      one_of : (b : Bool) → new.len ≡ cond b change.end mid.len → (new.len ≡ mid.len) ⊎ (new.len ≡ change.end)
      one_of true e = inr e
      one_of false e = inl e

      pub made_in_part : new.len ≡ cond part.new_len change.end mid.len → new.least ≡ min mid.least change.end → new.greatest ≡ max mid.greatest change.end → IsMadeInPart sector (changing (file_of sector old) change) part old new
      made_in_part len least greatest = record {
        changed = subst (λ (s : FileState). Changed sector touches (λ i. put_byte change.from change.keep change.bytes.now i (s.present i)) change.end s (file_of sector new)) same
            (changed_by sector change.from change.keep change.bytes.now xs ys mid.len mid.least mid.greatest new.len new.least new.greatest held.positive touches change.end (one_of part.new_len len) least greatest
            (failed_each sector change.from change.keep change.bytes.now list touches xs after held.whole all rising gets part.pick.items ys takes));
        picked = subst (λ (s : FileState). IsPicked sector touches (λ i. put_byte change.from change.keep change.bytes.now i (s.present i)) change.end part.pick.items part.new_len s (file_of sector new)) same (record {
          list = list;
          all = all;
          each = λ i lt. ⊎_elim
              (λ taken. inl (taken.0, taken_one sector change.from change.keep change.bytes.now xs ys mid.len mid.least mid.greatest new.len new.least new.greatest held.positive (get_or list i 0) (held.whole.some (get_or list i 0) (rising.below i lt)) taken.1))
              (λ left. inr (left.0, left_one sector change.from change.keep change.bytes.now xs ys mid.len mid.least mid.greatest new.len new.least new.greatest held.positive (get_or list i 0) left.1))
              (picked_at sector change.from change.keep change.bytes.now list touches xs after held.whole all rising gets part.pick.items ys takes i lt);
          len = len;
        });
      }
