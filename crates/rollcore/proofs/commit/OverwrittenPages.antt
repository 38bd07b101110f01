-- Pages go into the file whose old contents stand in the journal.
use Rattle.rollcore.proofs.Between.{ArePut, AreSome, AreTurned, Becomes, Bor, Change, Contains, Contains-append_cases, Contains-push_cases, Cuts, Database, Db, Device, DiskError, DiskState, Err, FileState, HadRefusal, Harmless, IsAt, IsClear, IsJournaled, IsSoundDisk, Journaled, List, None, Ok, Option, PageStep, Pages, Result, RollError, Some, Spreads, Unharmed, Writes, [], ap, append-nil, append_assoc, arith, cases_eq, cases_lt, change_at, cut_clear, down_cuts, down_one, down_writes, get_or, get_or-map, get_or-take, had_refusal, image_read, inl, inr, length, length-map, length-take, lent, most_bytes, page, page_apart, page_at, page_clear, page_end, page_is_clear, page_within, pages_of, present_written, refusal_after, sector_some, steady_cuts, steady_writes, subst, suits_cuts, suits_writes, sym, take, take_all, take_more, told_err, told_ok, unharmed_still, where_at, whole_pages, written_inside, written_outside, ℕ, ⊎_elim, ◌*◌, ◌++◌, ◌+◌, ◌-◌, ◌<◌, ◌∙◌, ◌∷◌, ◌≡◌, ◌≢◌, ◌≤◌, ◌⊎◌}
use Rattle.rollcore.proofs.journal.RecordsOfOldPages.{page_in}

module _ (size sector : ℕ) (d : Database) (named : List ℕ) (place : ℕ) (w : List ℕ) (begun : 0 < place) where
  clear : (s : DiskState) → IsAt size sector d named place s → (p i : ℕ) → 1 ≤ p → p ≤ length d → (Contains named p → ⊥) → i < size → IsClear s.sector s.tears s.db (page_at size p + i)
  clear s at p i a b un lt = page_is_clear size s p (page d p) at.suits a (λ j lt_j. at.others.each p j a b un lt_j) i lt

  -- a page is written that is named, or that d doesn't have
  pub journaled_writes : {T : Type 0} (q : ℕ) (bytes : List ℕ) (called : Result T DiskError) (old new : DiskState) → Journaled size sector d named place w old → 1 ≤ q → Contains named q ⊎ (length d < q) → length bytes ≡ size
      → Writes Db ((q - 1) * size) bytes called old new → Journaled size sector d named place w new
  journaled_writes q bytes called old new is one free full wrote = record {
    at = record {
      suits = suits_writes size Db (page_at size q) bytes called old new is.at.suits wrote;
      sector_is = wrote.elsewhere.sector ∙ is.at.sector_is;
      multiple = is.at.multiple;
      others = record {
        held = is.at.others.held;
        each = λ p i a b un lt.
            let ne : p ≢ q = λ e. ⊎_elim (λ has. un (subst (λ (k : ℕ). Contains named k) (sym e) has)) (λ far. omega (arith, e, far, b)) free in
            steady_writes Db (page_at size q) bytes called old new (page_at size p + i) (get_or (page d p) i 0) is.at.suits.sound.db wrote (is.at.others.each p i a b un lt)
            (λ spreads.
            let in_q = page_clear size old.sector q (page_at size p + i) old.tears (whole_pages size old is.at.suits) (omega (arith, sector_some old.sector is.at.suits.sectors)) one
            (subst (λ (k : ℕ). Spreads old.sector old.tears (page_at size q) (page_at size q + k) (page_at size p + i)) full spreads) in
            page_apart size p q (page_at size p + i) a one ne (omega arith) (omega arith) in_q.0 in_q.1)
            (clear old is.at p i a b un lt);
        whole = λ zero. absurd (omega (arith, begun, zero));
      };
    };
    durable = down_writes w (page_at size q) bytes called old new is.durable wrote;
    is = is.is;
  }

  -- the length is set, and the pages that are cut off are named
  pub journaled_cuts : {T : Type 0} (m : ℕ) (called : Result T DiskError) (old new : DiskState) → Journaled size sector d named place w old → ((p : ℕ) → m < p → p ≤ length d → Contains named p)
      → Cuts Db (m * size) called old new → Journaled size sector d named place w new
  journaled_cuts m called old new is cut_named cut = record {
    at = record {
      suits = suits_cuts size Db (m * size) called old new is.at.suits cut;
      sector_is = cut.elsewhere.sector ∙ is.at.sector_is;
      multiple = is.at.multiple;
      others = record {
        held = is.at.others.held;
        each = λ p i a b un lt.
            let kept : p ≤ m = ⊎_elim (λ le. le) (λ far. absurd (un (cut_named p far b))) (cases_le p m) in
            let below : page_at size p + i < m * size = page_within size p m i a kept lt in
            steady_cuts Db (m * size) called old new (page_at size p + i) (get_or (page d p) i 0) is.at.suits.sound.db cut (is.at.others.each p i a b un lt)
            (λ past. absurd (omega arith))
            (λ torn meets. cut_clear size old.sector m (page_at size p + i) old.db.len (whole_pages size old is.at.suits torn) (omega (arith, sector_some old.sector is.at.suits.sectors)) below meets)
            (clear old is.at p i a b un lt);
        whole = λ zero. absurd (omega (arith, begun, zero));
      };
    };
    durable = down_cuts w (m * size) called old new is.durable cut;
    is = is.is;
  }
    where
      cases_le : (p m : ℕ) → (p ≤ m) ⊎ (m < p)
      cases_le p m = ⊎_elim (λ lt. inr lt) (λ le. inl le) (cases_lt m p)

  -- all that may be left shows d
  pub journaled_unharmed : (s : DiskState) → Journaled size sector d named place w s → Unharmed size d s
  journaled_unharmed s is = unharmed_still size sector d named place s is.at
      (λ v may. inl (subst (λ (x : List ℕ). IsJournaled size sector d named place x) (sym (down_one w s is.durable s.sector s.tears v (image_read s v may))) is.is))

-- ---- What is present of the new database.

module _ (size : ℕ) (e : Database) (numbers : List ℕ) where
  pub put_writes : {T : Type 0} {u : T} (q : ℕ) (bytes : List ℕ) (old new : DiskState) → ((p : ℕ) → Contains numbers p → 1 ≤ p) → 1 ≤ q → bytes ≡ page e q → length bytes ≡ size → ArePut size e numbers old.db
      → Writes Db ((q - 1) * size) bytes (Ok u) old new → ArePut size e (numbers ++ q ∷ []) new.db
  put_writes q bytes old new somes one is full put wrote p has le i lt = ⊎_elim
      (λ same. present_written Db (page_at size q) bytes old new wrote (page_at size p + i)
      ∙ written_inside old.db (page_at size q) bytes (page_at size p + i) (omega (arith, ap (λ (k : ℕ). page_at size k) same)) (omega (arith, ap (λ (k : ℕ). page_at size k) same, full))
      ∙ ap (λ (k : ℕ). get_or bytes k 0) (let z : page_at size p + i - page_at size q ≡ i = omega (arith, ap (λ (k : ℕ). page_at size k) same) in z)
      ∙ ap (λ (l : List ℕ). get_or l i 0) (is ∙ ap (λ (k : ℕ). page e k) (sym same)))
      (λ ne.
      let before : Contains numbers p = ⊎_elim (λ old_one. old_one) (λ here. absurd (ne (sym here))) (Contains-push_cases numbers q p has) in
      present_written Db (page_at size q) bytes old new wrote (page_at size p + i)
      ∙ written_outside old.db (page_at size q) bytes (page_at size p + i) (⊎_elim
      (λ in_q. absurd (page_apart size p q (page_at size p + i) (somes p before) one ne (omega arith) (omega arith) in_q.0 (omega (arith, in_q.1, full))))
      (λ out. out)
      (where_at (page_at size q) (length bytes) (page_at size p + i)))
      ∙ put p before le i lt)
      (cases_eq p q)

  -- a page that the new database doesn't have
  pub put_cut : (q : ℕ) (s : FileState) → length e < q → ArePut size e numbers s → ArePut size e (numbers ++ q ∷ []) s
  put_cut q s past put p has le i lt = ⊎_elim (λ old_one. put p old_one le i lt) (λ here. absurd (omega (arith, here, le))) (Contains-push_cases numbers q p has)

-- ---- The call.

module _ {T : Type 0} (number : ℕ) (content : List ℕ) (r : Result T RollError) (old new : DiskState) (sound : IsSoundDisk old) (step : PageStep number content r old new) where
  pub page_refused : (e : RollError) → 1 ≤ number → number * length content ≤ most_bytes → r ≡ Err e → (e ≡ Device) × HadRefusal old new
  page_refused e one fits is =
      let t = told_err Device step.0 r e is step.1 in
      (t.0, had_refusal step.0 t.1.0 ((number - 1) * length content + length content) old new sound.refused t.1.1 step.2.within (omega (arith, page_end (length content) number one)) step.2.elsewhere.refused)

  pub page_done : (v : T) → r ≡ Ok v → (x : T) × Writes Db ((number - 1) * length content) content (Ok x) old new
  page_done v is =
      let t = told_ok Device step.0 r v is step.1 in
      (t.0, subst (λ (x : Result T DiskError). Writes Db ((number - 1) * length content) content x old new) t.1 step.2)

-- ---- Change after change.

pub lent_content : (pages : List (ℕ × Bor (List ℕ))) (k : ℕ) (other : ℕ × Bor (List ℕ)) → k < length pages → (get_or pages k other).1.now ≡ (get_or (lent pages) k (0, [])).1
lent_content pages k other lt = sym (ap (λ (x : ℕ × List ℕ). x.1) (get_or-map (λ (p : ℕ × Bor (List ℕ)). (p.0, p.1.now)) pages k other (0, []) lt))

module _ (size sector : ℕ) (d e : Database) (named : List ℕ) (place : ℕ) (w : List ℕ) (begun : 0 < place) (pages : Pages) (changes : List Change) (turned : AreTurned size e named pages changes) (before : List ℕ) (somes : AreSome before) where
  -- so many changes are carried out
  pub record Turned (i : ℕ) (a b : DiskState) : Type 0 where
    pub journaled : Journaled size sector d named place w b
    pub put : ArePut size e (before ++ take i (pages_of changes)) b.db
    pub refused : a.refused ≤ b.refused

  pub turned_none : (s : DiskState) → Journaled size sector d named place w s → ArePut size e before s.db → Turned 0 s s
  turned_none s is put = record { journaled = is; put = subst (λ (l : List ℕ). ArePut size e l s.db) (sym (append-nil before)) put; refused = omega arith }

  pub turned_all : (i : ℕ) (a b : DiskState) → length changes ≤ i → Turned i a b → Journaled size sector d named place w b × ArePut size e (before ++ pages_of changes) b.db × (a.refused ≤ b.refused)
  turned_all i a b all is = (
    is.journaled,
    subst (λ (l : List ℕ). ArePut size e (before ++ l) b.db) (take_all i (pages_of changes) (omega (arith, length-map changes (λ (c : Change). c.page)))) is.put,
    is.refused,
  )

  module _ (i : ℕ) (lt : i < length changes) where
    abbrev number : ℕ
    number = (change_at changes i).page

    one : 1 ≤ number
    one = (turned i lt).0

    in_numbers : (j : ℕ) → j < length changes → get_or (pages_of changes) j 0 ≡ (change_at changes j).page
    in_numbers j lt_j = page_in changes j (record { page = 0; content = None }) lt_j

    more : before ++ take (i + 1) (pages_of changes) ≡ (before ++ take i (pages_of changes)) ++ number ∷ []
    more = ap (λ (l : List ℕ). before ++ l) (take_more (pages_of changes) i 0 (omega (arith, lt, length-map changes (λ (c : Change). c.page))) ∙ ap (λ (q : ℕ). take i (pages_of changes) ++ q ∷ []) (in_numbers i lt))
        ∙ sym (append_assoc before (take i (pages_of changes)) (number ∷ []))

    somes_upto : AreSome (before ++ take i (pages_of changes))
    somes_upto p has = ⊎_elim (λ early. somes p early)
        (λ late.
        let k : ℕ = late.0 in
        let below : k < i = omega (arith, late.1, length-take i (pages_of changes)) in
        let there : k < length changes = omega (arith, lt) in
        let is : p ≡ (change_at changes k).page = sym late.2 ∙ get_or-take i (pages_of changes) k p below ∙ get_or-map (λ (c : Change). c.page) changes k (record { page = 0; content = None }) p there in
        omega (arith, is, (turned k there).0))
        (Contains-append_cases before (take i (pages_of changes)) p has)

    pub turned_cut : (a b : DiskState) → (change_at changes i).content ≡ None → Turned i a b → Turned (i + 1) a b
    turned_cut a b none is = record {
      journaled = is.journaled;
      put = subst (λ (l : List ℕ). ArePut size e l b.db) (sym more)
          (put_cut size e (before ++ take i (pages_of changes)) number b.db (subst (λ (o : Option ℕ). Becomes size e pages number o) none (turned i lt).2) is.put);
      refused = is.refused;
    }

    module _ {T : Type 0} (k : ℕ) (content : List ℕ) (r : Result T RollError) (a b c : DiskState) (some : (change_at changes i).content ≡ Some k) (content_is : content ≡ (get_or pages k (0, [])).1) (is : Turned i a b) (step : PageStep number content r b c) where
      becomes : (k < length pages) × ((get_or pages k (0, [])).1 ≡ page e number) × (length (get_or pages k (0, [])).1 ≡ size) × (number * size ≤ most_bytes)
      becomes = subst (λ (o : Option ℕ). Becomes size e pages number o) some (turned i lt).2

      full : length content ≡ size
      full = ap (λ (l : List ℕ). length l) content_is ∙ becomes.2

      journaled_then : {U : Type 0} (called : Result U DiskError) → Writes Db ((number - 1) * length content) content called b c → Journaled size sector d named place w c
      journaled_then called wrote = journaled_writes size sector d named place w begun number content called b c is.journaled one (inl (turned i lt).1) full
          (subst (λ (n : ℕ). Writes Db ((number - 1) * n) content called b c) full wrote)

      pub turned_put : (v : T) → r ≡ Ok v → Turned (i + 1) a c
      turned_put v was =
          let done = page_done number content r b c is.journaled.at.suits.sound step v was in record {
            journaled = journaled_then (Ok done.0) done.1;
            put = subst (λ (l : List ℕ). ArePut size e l c.db) (sym more)
                (put_writes size e (before ++ take i (pages_of changes)) number content b c somes_upto one (content_is ∙ becomes.1) full is.put
                (subst (λ (n : ℕ). Writes Db ((number - 1) * n) content (Ok done.0) b c) full done.1));
            refused = omega (arith, is.refused, done.1.elsewhere.refused);
          }

      pub turned_failed : (error : RollError) → r ≡ Err error → Harmless size d error a c
      turned_failed error was =
          let fits : number * length content ≤ most_bytes = subst (λ (n : ℕ). number * n ≤ most_bytes) (sym full) becomes.3 in
          let had = page_refused number content r b c is.journaled.at.suits.sound step error one fits was in
          record { device = had.0; refusal = refusal_after a b c is.refused had.1; unharmed = journaled_unharmed size sector d named place w begun c (journaled_then step.0 step.2) }
