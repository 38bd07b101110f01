-- What a log that journals pages restores: the database whose pages they are.
use Rattle.rollcore.proofs.Below.{AreSegments, Contains, Contains-append_left, Contains-push, Database, HasMagic, HasOthers, IsHot, IsJournaled, IsPageSize, IsRolledBack, List, None, Option, Pages, Segment, ShowsWhole, Sizes, Some, Tells, [], all_records, ap, arith, cases_eq, cond, file_count, file_page, full_begun, full_ends, full_none, get_or, inl, inr, journal_log, last_content, length, map-append, nat_tests, old_pages, page, refl, reverse, reverse-append, size_bounds, sizes, subst, suc, supplied, sym, unwrap_or, word, zero, zeroed, ℕ, ⊎_elim, ◌++◌, ◌+◌, ◌<◌, ◌==◌, ◌∙◌, ◌∷◌, ◌≡◌, ◌≢◌, ◌≤◌, ◌⊎◌}
use Rattle.rollcore.proofs.journal.SegmentsFromAnyPlace.{stops_or}
use Rattle.rollcore.proofs.journal.RecordAndHeaderBytes.{magic_byte}
use Rattle.rollcore.proofs.journal.JournalWithNewHeader.{NamesFirst, sizes_are, begun_hot, old_none}

-- ---- The content of a page that is named.

hit : (a b : ℕ) (x : List ℕ) (o : Option (List ℕ)) → a ≡ b → cond (a == b) (Some x) o ≡ Some x
hit a b x o e = grind (arith, nat_tests)

miss : (a b : ℕ) (x : List ℕ) (o : Option (List ℕ)) → a ≢ b → cond (a == b) (Some x) o ≡ o
miss a b x o ne = grind (arith, nat_tests)

reverse_map : (d : Database) (xs : List ℕ) → reverse (old_pages d xs) ≡ old_pages d (reverse xs)
reverse_map d [] = refl
reverse_map d (x ∷ xs) =
    reverse-append ((x, page d x) ∷ []) (old_pages d xs) ∙ ap (λ (l : Pages). l ++ (x, page d x) ∷ []) (reverse_map d xs)
    ∙ sym (map-append (λ (p : ℕ). (p, page d p)) (reverse xs) (x ∷ [])) ∙ ap (λ (l : List ℕ). old_pages d l) (sym (reverse-append (x ∷ []) xs))

contains_reverse : (xs : List ℕ) (p : ℕ) → Contains xs p → Contains (reverse xs) p
contains_reverse [] p has = absurd (omega (arith, has.1))
contains_reverse (x ∷ xs) p (zero, lt, e) =
    subst (λ (l : List ℕ). Contains l p) (sym (reverse-append (x ∷ []) xs)) (subst (λ (y : ℕ). Contains (reverse xs ++ y ∷ []) p) (sym e) (Contains-push (reverse xs) p))
contains_reverse (x ∷ xs) p (suc k, lt, e) =
    subst (λ (l : List ℕ). Contains l p) (sym (reverse-append (x ∷ []) xs)) (Contains-append_left (reverse xs) (x ∷ []) p (contains_reverse xs p (k, omega arith, e)))

supplied_old : (d : Database) (xs : List ℕ) (p : ℕ) → (supplied (old_pages d xs) p ≡ Some (page d p)) ⊎ ((supplied (old_pages d xs) p ≡ None) × (Contains xs p → ⊥))
supplied_old d [] p = inr (refl, λ has. omega (arith, has.1))
supplied_old d (x ∷ xs) p = ⊎_elim
    (λ e. inl (hit x p (page d x) (supplied (old_pages d xs) p) e ∙ ap (λ (q : ℕ). Some (page d q)) e))
    (λ ne. ⊎_elim
    (λ found. inl (miss x p (page d x) (supplied (old_pages d xs) p) ne ∙ found))
    (λ none. inr (miss x p (page d x) (supplied (old_pages d xs) p) ne ∙ none.0, λ has. behind ne none.1 has))
    (supplied_old d xs p))
    (cases_eq x p)
  where
    behind : x ≢ p → (Contains xs p → ⊥) → Contains (x ∷ xs) p → ⊥
    behind ne none (zero, lt, e) = ne e
    behind ne none (suc k, lt, e) = none (k, omega arith, e)

-- the last record of a page is its content; other pages have none
pub last_old : (d : Database) (named : List ℕ) (p : ℕ) → (last_content (old_pages d named) p ≡ Some (page d p)) ⊎ ((last_content (old_pages d named) p ≡ None) × (Contains named p → ⊥))
last_old d named p =
    let turned : last_content (old_pages d named) p ≡ supplied (old_pages d (reverse named)) p = ap (λ (l : Pages). supplied l p) (reverse_map d named) in
    ⊎_elim
    (λ found. inl (turned ∙ found))
    (λ none. inr (turned ∙ none.0, λ has. none.1 (contains_reverse named p has)))
    (supplied_old d (reverse named) p)

-- ---- The database.

module _ (size sector : ℕ) (d : Database) (sectors : IsPageSize sector) (pages : IsPageSize size) (named : List ℕ) (place : ℕ) (w : List ℕ) where
  wide : 1 ≤ sector
  wide = let b = size_bounds sector sectors in omega (arith, b.0)

  names_first : IsJournaled size sector d named place w → 0 < place → NamesFirst size sector d w
  names_first is above = let b = is.begun above in record { count = b.0; sector_is = b.1; size_is = b.2 }

  -- a journal with a segment is hot
  pub journaled_hot : IsJournaled size sector d named place w → 0 < place → IsHot w
  unfolding wide
  journaled_hot is above = begun_hot size sector d w sectors pages (full_begun (sizes sector size) w is.segments place wide is.are above).1 (names_first is above)

  -- without one it isn't, and names nothing
  pub journaled_cold : IsJournaled size sector d named place w → place ≡ 0 → (named ≡ []) × (IsHot w → ⊥)
  unfolding wide
  journaled_cold is none = (
    old_none d named (ap (λ (l : List Segment). all_records l) (sym (full_none (sizes sector size) w is.segments place wide is.are none)) ∙ is.records),
    λ hot. is.ends (subst (λ (n : ℕ). HasMagic w n) (sym none) hot.first.magic),
  )

  rolled : (db : List ℕ) → IsJournaled size sector d named place w → 0 < place → HasOthers size d named place db → IsRolledBack db w d
  rolled db is above others =
      let names = names_first is above in
      let stop = stops_or (sizes sector size) w place (λ header. is.ends header.magic) in
      record {
        segments = is.segments;
        at = place;
        why = stop.0;
        is = inl (journaled_hot is above, subst (λ (z : Sizes). AreSegments z w 0 is.segments place stop.0) (sizes_are size sector d w names) (full_ends (sizes sector size) w 0 is.segments place stop.0 is.are stop.1));
        count = sym names.count;
        each = λ p a b. (⊎_elim
            (λ found. ap (λ (o : Option (List ℕ)). unwrap_or o (file_page size db p)) (sym found))
            (λ none. others.each p a b none.1 ∙ ap (λ (o : Option (List ℕ)). unwrap_or o (file_page size db p)) (sym none.0))
            (last_old d named p))
            ∙ ap (λ (l : Pages). unwrap_or (last_content l p) (file_page size db p)) (sym is.records)
            ∙ ap (λ (n : ℕ). unwrap_or (last_content (all_records is.segments) p) (file_page n db p)) (sym names.size_is);
      }

  shows_hot : (db : List ℕ) → IsJournaled size sector d named place w → 0 < place → HasOthers size d named place db → ShowsWhole journal_log size db w d
  shows_hot db is above others = record {
    shows = record { hot = λ _. (sym (names_first is above).size_is, rolled db is above others); cold = λ cold. absurd (cold (journaled_hot is above)) };
    whole = λ cold. absurd (cold (journaled_hot is above));
  }

  shows_cold : (db : List ℕ) → named ≡ [] → place ≡ 0 → (IsHot w → ⊥) → HasOthers size d named place db → ShowsWhole journal_log size db w d
  shows_cold db none at_0 cold others = record {
    shows = record {
      hot = λ hot. absurd (cold hot);
      cold = λ _. record {
        count = let b = size_bounds size pages in file_count size db (length d) (omega (arith, b.0)) (others.whole at_0);
        each = λ p a b. others.each p a b (λ has. let lt : has.0 < 0 = subst (λ (l : List ℕ). has.0 < length l) none has.1 in omega arith);
      };
    };
    whole = λ _. others.whole at_0;
  }

  pub shows : (db : List ℕ) → Tells size sector d named place w → HasOthers size d named place db → ShowsWhole journal_log size db w d
  shows db (inl is) others = ⊎_elim
      (λ none. let cold = journaled_cold is none in shows_cold db cold.0 none cold.1 others)
      (λ some. shows_hot db is (omega arith) others)
      (cases_eq place 0)
  shows db (inr cold) others = shows_cold db cold.0 cold.1 cold.2 others

  pub sector_told : Tells size sector d named place w → IsHot w → word w 20 ≡ sector
  sector_told (inl is) hot = ⊎_elim
      (λ none. absurd ((journaled_cold is none).1 hot))
      (λ some. (names_first is (omega arith)).sector_is)
      (cases_eq place 0)
  sector_told (inr cold) hot = absurd (cold.2 hot)

-- ---- No journal.

-- a log where no header stands at the front journals nothing yet
pub begins : (size sector : ℕ) (d : Database) (w : List ℕ) → (HasMagic w 0 → ⊥) → IsJournaled size sector d [] 0 w
begins size sector d w none = record { segments = []; are = refl; records = refl; ends = none; begun = λ above. absurd (omega arith) }

-- zeros are no magic
pub zero_gate : (w : List ℕ) (at : ℕ) → get_or w at 0 ≡ 0 → HasMagic w at → ⊥
zero_gate w at none is =
    let first : get_or w (at + 0) 0 ≡ 217 = magic_byte w at 0 is (omega arith) in
    let here : get_or w (at + 0) 0 ≡ get_or w at 0 = ap (λ (j : ℕ). get_or w j 0) (let e : at + 0 ≡ at = omega arith in e) in
    omega arith

pub zeroed_gate : (w : List ℕ) → HasMagic (zeroed w) 0 → ⊥
zeroed_gate w is = zero_gate (zeroed w) 0 refl is
