-- What the steps of a plan leave.
use Rattle.std.proofs.Common.{◌≡◌, ◌⊎◌, ⊎_elim, inl, inr, ℕ, zero, suc, ◌+◌, ◌-◌, ◌*◌, ◌<◌, ◌≤◌, Bool, true, false, cond, ◌==◌, List, [], ◌∷◌, ◌++◌, length, map, get_or, drop, replicate, refl, sym, ◌∙◌, ap, subst, arith}
use Rattle.std.specs.List.{flat_map, range_with_len, All}
use Rattle.std.proofs.lemmas.Bool.{cases_lt, cases_eq}
use Rattle.std.proofs.lemmas.List.{map-append}
use Rattle.std.proofs.lemmas.List.Elements.{All-nil, All-cons, All-append, All-from_recursion}
use Rattle.std.proofs.Math.Nat.{mul-le-mul_right}
use Rattle.crashdisk.proofs.page.PlacesOfPages.{page_end}
use Rattle.crashdisk.specs.Call.{Change, sync}
use Rattle.crashdisk.specs.declared.file.File.TheVariants.{Log}
use Rattle.sqval.specs.Database.{page, file_page}
use Rattle.sqval.specs.Held.{IsJust}
use Rattle.sqview.specs.Laid.{laid, place_of, part_or_zeros}
use Rattle.sqval.proofs.page.FilePages.{length-file_page}
use Rattle.std.proofs.lemmas.List.FromFn.{length-map-range_with_len}
use Rattle.sqview.proofs.openings.PagesOfView.{length_laid, page_own, page_logged}
use Rattle.walcore.specs.Changes.{MayFoldWithin}
use Rattle.rollcore.specs.Changes.{MayReplayWithin}
use Rattle.sqplan.specs.Plans.{call_of, pages_from, ending, left_of}
use Rattle.sqplan.specs.Applied.{with_bytes, with_length, db_after, log_after, after_all}
use Rattle.sqplan.specs.declared.plan.Plan.{Plan}
use Rattle.sqplan.specs.declared.plan.Recovery.{Recovery}
use Rattle.sqplan.specs.declared.plan.Recovery.TheVariants.{Nothing, Fold, Empty, RollBack}
use Rattle.sqplan.specs.declared.plan.Step.{Step}
use Rattle.sqplan.specs.declared.plan.Step.TheVariants.{WritePage}
use Rattle.sqplan.proofs.WrittenFiles.{page_written, page_kept, length_cut, page_cut, zeros_over}

pub after_append : (one : Change → List ℕ → List ℕ) (xs ys : List Change) (file : List ℕ) → after_all one (xs ++ ys) file ≡ after_all one ys (after_all one xs file)
after_append one [] ys file = refl
after_append one (x ∷ xs) ys file = after_append one xs ys (one x file)

part_long : (size at : ℕ) (file : List ℕ) → length (part_or_zeros size at file) ≡ size
unfolding part_or_zeros
part_long size at file = length-map-range_with_len (λ i. get_or file (at + i) 0) 0 size

pub length_page : (size count : ℕ) (file log places : List ℕ) (p : ℕ) → 1 ≤ p → p ≤ count → length (page (laid size count file log places) p) ≡ size
length_page size count file log places p one most =
    let within : p ≤ length (laid size count file log places) = omega (arith, length_laid size count file log places) in
    ⊎_elim
    (λ none. ap length (page_own size count file log places p one within none) ∙ length-file_page size file p)
    (λ some. ap length (page_logged size count file log places p one within some) ∙ part_long size (place_of places p) log)
    (cases_eq (place_of places p) 0)

module _ (size count : ℕ) (file log places : List ℕ) where
  abbrev call : Step → Change
  call = call_of size count file log places

  abbrev one_page : (q : ℕ) → List Step
  one_page q = cond (place_of places q == 0) [] (WritePage q ∷ [])

  abbrev pages : (p n : ℕ) → List Step
  pages p n = flat_map one_page (range_with_len p n)

  -- the pages before p are those of the view, and the others the file's
  pub record Reaches (p : ℕ) (f : List ℕ) : Type 0 where
    pub done : (q : ℕ) → 1 ≤ q → q < p → q ≤ count → page (laid size count file log places) q ≡ file_page size f q
    pub rest : (q : ℕ) → p ≤ q → file_page size file q ≡ file_page size f q

  own : (p : ℕ) (f : List ℕ) → 1 ≤ p → p ≤ count → (place_of places p == 0) ≡ true → Reaches p f → Reaches (p + 1) f
  own p f one most none is = record {
    done = λ q a b c. ⊎_elim
        (λ less. is.done q a less c)
        (λ ge. let same : q ≡ p = omega arith in subst (λ (n : ℕ). page (laid size count file log places) n ≡ file_page size f n) (sym same)
        (page_own size count file log places p one (omega (arith, length_laid size count file log places)) (grind (arith, none)) ∙ is.rest p (omega arith)))
        (cases_lt q p);
    rest = λ q le. is.rest q (omega arith);
  }

  put : (p : ℕ) (f : List ℕ) → 1 ≤ p → p ≤ count → Reaches p f → Reaches (p + 1) (with_bytes f ((p - 1) * size) (page (laid size count file log places) p))
  put p f one most is =
      let d = laid size count file log places in
      let full : length (page d p) ≡ size = length_page size count file log places p one most in
      record {
        done = λ q a b c. ⊎_elim
            (λ less. is.done q a less c ∙ page_kept size f (page d p) full q p a one (λ same. omega (arith, same, less)))
            (λ ge. let same : q ≡ p = omega arith in subst (λ (n : ℕ). page d n ≡ file_page size (with_bytes f ((p - 1) * size) (page d p)) n) (sym same)
            (page_written size f (page d p) full p))
            (cases_lt q p);
        rest = λ q le. is.rest q (omega arith) ∙ page_kept size f (page d p) full q p (omega arith) one (λ same. omega (arith, same, le));
      }

  by_place : (b : Bool) (p : ℕ) (rest : List Step) (f : List ℕ) → (place_of places p == 0) ≡ b → 1 ≤ p → p ≤ count → Reaches p f
      → ((g : List ℕ) → Reaches (p + 1) g → Reaches (count + 1) (after_all db_after (map call rest) g))
      → Reaches (count + 1) (after_all db_after (map call (cond b [] (WritePage p ∷ []) ++ rest)) f)
  by_place true p rest f e one most is next = next f (own p f one most e is)
  by_place false p rest f e one most is next = next (with_bytes f ((p - 1) * size) (page (laid size count file log places) p)) (put p f one most is)

  pub reaches : (n p : ℕ) (f : List ℕ) → 1 ≤ p → p + n ≡ count + 1 → Reaches p f → Reaches (count + 1) (after_all db_after (map call (pages p n)) f)
  reaches zero p f one end is = let e : p ≡ count + 1 = omega (arith, end) in subst (λ (q : ℕ). Reaches q f) e is
  reaches (suc n) p f one end is = by_place (place_of places p == 0) p (pages (p + 1) n) f refl one (omega (arith, end)) is
      (λ g next. reaches n (p + 1) g (omega arith) (omega (arith, end)) next)

  -- the log stays as it is meanwhile
  same_log : (b : Bool) (q : ℕ) (rest : List Step) (w : List ℕ) → after_all log_after (map call (cond b [] (WritePage q ∷ []) ++ rest)) w ≡ after_all log_after (map call rest) w
  same_log true q rest w = refl
  same_log false q rest w = refl

  pub pages_keep_log : (n p : ℕ) (w : List ℕ) → after_all log_after (map call (pages p n)) w ≡ w
  pages_keep_log zero p w = refl
  pages_keep_log (suc n) p w = same_log (place_of places p == 0) p (pages (p + 1) n) w ∙ pages_keep_log n (p + 1) w

  -- no page lies in the log
  pub no_pages : (n p : ℕ) → places ≡ [] → pages p n ≡ []
  no_pages zero p none = refl
  no_pages (suc n) p none = rw none (no_pages n (p + 1) none)

  -- what each page asks for
  each_page : (May : Change → Type 0) → ((q : ℕ) → 1 ≤ q → q ≤ count → (place_of places q == 0) ≡ false → May (call (WritePage q))) → (b : Bool) (p : ℕ) (rest : List Step) → (place_of places p == 0) ≡ b → 1 ≤ p → p ≤ count
      → All May (map call rest) → All May (map call (cond b [] (WritePage p ∷ []) ++ rest))
  each_page May may true p rest e one most others = others
  each_page May may false p rest e one most others = All-cons May (call (WritePage p)) (map call rest) (may p one most e) others

  pub all_pages : (May : Change → Type 0) → ((q : ℕ) → 1 ≤ q → q ≤ count → (place_of places q == 0) ≡ false → May (call (WritePage q))) → (n p : ℕ) → 1 ≤ p → p + n ≡ count + 1 → All May (map call (pages p n))
  all_pages May may zero p one end = All-nil May
  all_pages May may (suc n) p one end = each_page May may (place_of places p == 0) p (pages (p + 1) n) refl one (omega (arith, end))
      (all_pages May may n (p + 1) (omega arith) (omega (arith, end)))

  -- a page is written whole at its place
  pub page_asked : (most q : ℕ) → count * size ≤ most → 1 ≤ q → q ≤ count
      → (at : ℕ) × (k : ℕ) × ((q - 1) * size ≡ at * size) × (1 ≤ k) × (length (page (laid size count file log places) q) ≡ k * size) × ((q - 1) * size + length (page (laid size count file log places) q) ≤ most)
  page_asked most q within one le =
      let full : length (page (laid size count file log places) q) ≡ size = length_page size count file log places q one le in
      let low : q * size ≤ count * size = mul-le-mul_right size le in
      (q - 1, 1, refl, omega arith, omega (arith, full), omega (arith, full, page_end size q one, low, within))

module _ (plan : Plan) (file log : List ℕ) where
  abbrev size : ℕ
  size = plan.page_size

  abbrev pub calls : Recovery → List Change
  calls r = map (call_of size plan.pages file log plan.places.now) (left_of r plan 0)

  abbrev written : List ℕ
  written = after_all db_after (map (call_of size plan.pages file log plan.places.now) (pages_from plan 1)) file

  abbrev pub tail : Recovery → List Change
  tail r = map (call_of size plan.pages file log plan.places.now) (ending r (plan.pages * size))

  parted : (r : Recovery) → map (call_of size plan.pages file log plan.places.now) (pages_from plan 1 ++ ending r (plan.pages * size))
      ≡ map (call_of size plan.pages file log plan.places.now) (pages_from plan 1) ++ tail r
  parted r = map-append (call_of size plan.pages file log plan.places.now) (pages_from plan 1) (ending r (plan.pages * size))

  -- the calls after the first sync
  over_db : (r : Recovery) → after_all db_after (map (call_of size plan.pages file log plan.places.now) (pages_from plan 1 ++ ending r (plan.pages * size))) file ≡ after_all db_after (tail r) written
  over_db r = ap (λ calls. after_all db_after calls file) (parted r) ∙ after_append db_after (map (call_of size plan.pages file log plan.places.now) (pages_from plan 1)) (tail r) file

  over_log : (r : Recovery) → after_all log_after (map (call_of size plan.pages file log plan.places.now) (pages_from plan 1 ++ ending r (plan.pages * size))) log ≡ after_all log_after (tail r) log
  over_log r = ap (λ calls. after_all log_after calls log) (parted r) ∙ after_append log_after (map (call_of size plan.pages file log plan.places.now) (pages_from plan 1)) (tail r) log
      ∙ ap (after_all log_after (tail r)) (pages_keep_log size plan.pages file log plan.places.now (plan.pages + 1 - 1) 1 log)

  all_reached : Reaches size plan.pages file log plan.places.now (plan.pages + 1) written
  all_reached = reaches size plan.pages file log plan.places.now (plan.pages + 1 - 1) 1 file (omega arith) (omega arith)
      (record { done = λ q a b c. absurd (omega (arith, a, b)); rest = λ q le. refl })

  pub just : IsJust size (laid size plan.pages file log plan.places.now) (with_length written (plan.pages * size))
  just = record {
    long = length_cut size plan.pages written ∙ ap (λ n. n * size) (sym (length_laid size plan.pages file log plan.places.now));
    each = λ p one most.
        let within : p ≤ plan.pages = omega (arith, most, length_laid size plan.pages file log plan.places.now) in
        all_reached.done p one (omega (arith, within)) within ∙ page_cut size plan.pages written p one within;
  }

  abbrev just_by : List ℕ → Type 0
  just_by bytes = IsJust size (laid size plan.pages file log plan.places.now) bytes

  pub database : (r : Recovery) → (r ≡ Fold) ⊎ (r ≡ RollBack) → just_by (after_all db_after (calls r) file)
  database Fold which = subst just_by (sym (over_db Fold)) just
  database RollBack which = subst just_by (sym (over_db RollBack)) just
  database Nothing which = absurd (⊎_elim (λ (e : Nothing ≡ Fold). cc) (λ (e : Nothing ≡ RollBack). cc) which)
  database Empty which = absurd (⊎_elim (λ (e : Empty ≡ Fold). cc) (λ (e : Empty ≡ RollBack). cc) which)

  pub file_kept : (r : Recovery) → r ≡ Empty → plan.places.now ≡ [] → after_all db_after (calls r) file ≡ file
  file_kept Empty which none = over_db Empty
      ∙ ap (λ steps. after_all db_after (map (call_of size plan.pages file log plan.places.now) steps) file) (no_pages size plan.pages file log plan.places.now (plan.pages + 1 - 1) 1 none)
  file_kept Fold which none = absurd (let e : Fold ≡ Empty = which in cc)
  file_kept RollBack which none = absurd (let e : RollBack ≡ Empty = which in cc)
  file_kept Nothing which none = absurd (let e : Nothing ≡ Empty = which in cc)

  pub log_emptied : (r : Recovery) → (r ≡ Fold) ⊎ (r ≡ Empty) → after_all log_after (calls r) log ≡ []
  log_emptied Fold which = over_log Fold
  log_emptied Empty which = over_log Empty
  log_emptied Nothing which = absurd (⊎_elim (λ (e : Nothing ≡ Fold). cc) (λ (e : Nothing ≡ Empty). cc) which)
  log_emptied RollBack which = absurd (⊎_elim (λ (e : RollBack ≡ Fold). cc) (λ (e : RollBack ≡ Empty). cc) which)

  pub header_zeroed : (r : Recovery) → r ≡ RollBack → 28 ≤ length log → after_all log_after (calls r) log ≡ replicate 28 0 ++ drop 28 log
  header_zeroed RollBack which long = over_log RollBack ∙ zeros_over log 28 long
  header_zeroed Empty which long = absurd (let e : Empty ≡ RollBack = which in cc)
  header_zeroed Fold which long = absurd (let e : Fold ≡ RollBack = which in cc)
  header_zeroed Nothing which long = absurd (let e : Nothing ≡ RollBack = which in cc)

  pub asks : (May : Change → Type 0) (r : Recovery) → ((q : ℕ) → 1 ≤ q → q ≤ plan.pages → (place_of plan.places.now q == 0) ≡ false → May (call_of size plan.pages file log plan.places.now (WritePage q))) → All May (tail r)
      → All May (map (call_of size plan.pages file log plan.places.now) (pages_from plan 1 ++ ending r (plan.pages * size)))
  asks May r page rest = subst (λ (calls : List Change). All May calls) (sym (parted r))
      (All-append May (map (call_of size plan.pages file log plan.places.now) (pages_from plan 1)) (tail r)
      (all_pages size plan.pages file log plan.places.now May page (plan.pages + 1 - 1) 1 (omega arith) (omega arith)) rest)

  module _ (most : ℕ) (fits : plan.pages * size ≤ most) where
    pub asks_fold : (r : Recovery) → (r ≡ Fold) ⊎ (r ≡ Empty) → All (MayFoldWithin most size) (calls r)
    asks_fold Fold which =
        let May = MayFoldWithin most size in
        let rest = All-from_recursion May (tail Fold) (inl (plan.pages, refl, fits), (inl tt, (inr (refl, refl), (inr tt, (inr refl, (inr tt, tt)))))) in
        All-cons May (sync Log) (map (call_of size plan.pages file log plan.places.now) (pages_from plan 1 ++ ending Fold (plan.pages * size))) (inr tt)
        (asks May Fold (λ q one le _. inl (page_asked size plan.pages file log plan.places.now most q fits one le)) rest)
    asks_fold Empty which =
        let May = MayFoldWithin most size in
        let rest = All-from_recursion May (tail Empty) (inl tt, (inr (refl, refl), (inr tt, (inr refl, (inr tt, tt))))) in
        All-cons May (sync Log) (map (call_of size plan.pages file log plan.places.now) (pages_from plan 1 ++ ending Empty (plan.pages * size))) (inr tt)
        (asks May Empty (λ q one le _. inl (page_asked size plan.pages file log plan.places.now most q fits one le)) rest)
    asks_fold Nothing which = absurd (⊎_elim (λ (e : Nothing ≡ Fold). cc) (λ (e : Nothing ≡ Empty). cc) which)
    asks_fold RollBack which = absurd (⊎_elim (λ (e : RollBack ≡ Fold). cc) (λ (e : RollBack ≡ Empty). cc) which)

    pub asks_replay : (r : Recovery) → r ≡ RollBack → All (MayReplayWithin most size) (calls r)
    asks_replay RollBack which =
        let May = MayReplayWithin most size in
        let rest = All-from_recursion May (tail RollBack) ((plan.pages, refl, fits), (tt, ((refl, refl), (tt, tt)))) in
        All-cons May (sync Log) (map (call_of size plan.pages file log plan.places.now) (pages_from plan 1 ++ ending RollBack (plan.pages * size))) tt
        (asks May RollBack (λ q one le _. page_asked size plan.pages file log plan.places.now most q fits one le) rest)
    asks_replay Empty which = absurd (let e : Empty ≡ RollBack = which in cc)
    asks_replay Fold which = absurd (let e : Fold ≡ RollBack = which in cc)
    asks_replay Nothing which = absurd (let e : Nothing ≡ RollBack = which in cc)
