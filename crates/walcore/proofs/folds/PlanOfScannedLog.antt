-- What a scanned log is judged by, and the table of its frames.
use Rattle.walcore.proofs.Words.{Bounds, Device, DiskState, Err, FrameTable, Front, IsCommittedWithin, IsFitWithin, IsFront, IsHeader, IsOneOf, IsPageSize, IsTable, IsTooLargeWithin, IsValidFrame, JudgeAnswer, List, LogRefused, NoMemory, None, Ok, Option, PageSize, Plan, PlanAnswer, ReadAnswer, Result, Scan, ScanAnswer, ScanRefused, Some, TooLarge, TookWithin, WalError, [], ap, arith, cases_eq, cases_lt, front_none, front_unique, get_or, get_or-append-add, get_or_append_left, greatest, inl, inr, length, length-append, named_size, nat_tests, one_of, page_of, refl, size_of, subst, suc, sym, wal_scan, wanted_page, ℕ, ⊎_elim, ◌*◌, ◌++◌, ◌+◌, ◌-◌, ◌<◌, ◌∙◌, ◌∷◌, ◌≡◌, ◌≢◌, ◌≤◌}

-- ---- A log without a valid header.

module _ (size : ℕ) (w : List ℕ) (bad : IsHeader (named_size w) w → ⊥) where
  pub fit_none : (limits : Bounds) → IsFitWithin limits size w
  fit_none limits = record {
    small = λ large. ⊎_elim (λ v. bad (v.each 1 (omega arith) v.first).header) (λ f. omega (arith, f.1, front_none (named_size w) w f.0 bad f.2)) large;
    same = λ other. bad other.0;
  }

  pub front_zero : IsFront (named_size w) w 0
  front_zero = record { is = inl refl; greatest = λ i v k. absurd (bad (v.each 1 (omega arith) v.first).header) }

  pub judged_none : (limits : Bounds) (f : Front) → IsCommittedWithin limits.frames w f → JudgeAnswer limits size w (Ok f)
  unfolding JudgeAnswer
  judged_none limits f is = record { fit = fit_none limits; front = is.front; none = is.none; some = λ one. absurd (omega (arith, front_none (named_size w) w f.frames bad is.front)) }

-- ---- A log with one.

module _ (limits : Bounds) (size named : ℕ) (w : List ℕ) (header : IsHeader named w) where
  here : IsHeader (named_size w) w
  here = subst (λ (n : ℕ). IsHeader n w) (sym header.named) header

  refused : (e : WalError) → LogRefused limits size w e → JudgeAnswer limits size w (Err e)
  unfolding JudgeAnswer
  refused e is = is

  module _ (f : Front) (is : IsCommittedWithin limits.frames w f) where
    pub judged_large : limits.bytes < f.size * named → JudgeAnswer limits size w (Err TooLarge)
    unfolding LogRefused
    judged_large more =
        let some : 1 ≤ f.frames = ⊎_elim (λ e. absurd (let none : f.size ≡ 0 = is.none e in let zero : f.size * named ≡ 0 = rw none (omega arith) in omega arith)) (λ ne. omega arith) (cases_eq f.frames 0) in
        let bytes : limits.bytes < size_of (named_size w) w f.frames * named_size w = subst (λ (n : ℕ). limits.bytes < n * named_size w) (is.some some) (subst (λ (n : ℕ). limits.bytes < f.size * n) (sym header.named) more) in
        refused TooLarge (inr (f.frames, some, is.front, bytes))

    module _ (few : IsValidFrame (named_size w) w (suc limits.frames) → ⊥) (within : f.size * named ≤ limits.bytes) where
      small : IsTooLargeWithin limits w → ⊥
      small large = ⊎_elim few (λ x.
          let same : x.0 ≡ f.frames = front_unique (named_size w) w x.0 f.frames x.2 is.front in
          let count : f.size ≡ size_of (named_size w) w x.0 = is.some (omega (arith, x.1)) ∙ ap (size_of (named_size w) w) (sym same) in
          let bytes : limits.bytes < f.size * named = subst (λ (n : ℕ). limits.bytes < n * named) (sym count) (subst (λ (n : ℕ). limits.bytes < size_of (named_size w) w x.0 * n) header.named x.3) in
          omega arith) large

      pub judged_other : named ≢ size → JudgeAnswer limits size w (Err PageSize)
      unfolding LogRefused
      judged_other ne = refused PageSize (small, (here, λ e. ne (sym header.named ∙ e)))

      pub judged : limits.bytes ≤ greatest.bytes → named ≡ size → JudgeAnswer limits size w (Ok f)
      unfolding JudgeAnswer
      judged sane e = record {
        fit = record { small = small; same = λ other. other.1 (header.named ∙ e) };
        front = is.front;
        none = is.none;
        some = λ one. (header.named ∙ e, is.some one ∙ ap (λ (n : ℕ). size_of n w f.frames) (header.named ∙ e), subst (λ (n : ℕ). f.size * n ≤ limits.bytes) e within, subst (λ (n : ℕ). f.size * n ≤ greatest.bytes) e (omega (arith, within, sane)));
      }

-- ---- The table.

pub wanted_low : (size count : ℕ) (w : List ℕ) (i : ℕ) (page : ℕ) → page ≡ page_of size w i → page ≤ count → page ≡ wanted_page size count w i
unfolding wanted_page
wanted_low size count w i page e le = grind (arith, nat_tests)

pub wanted_high : (size count : ℕ) (w : List ℕ) (i : ℕ) (page : ℕ) → page ≡ page_of size w i → count < page → 0 ≡ wanted_page size count w i
unfolding wanted_page
wanted_high size count w i page e lt = grind (arith, nat_tests)

pub valid_below : (size : ℕ) (w : List ℕ) (m i : ℕ) → IsValidFrame size w m → 1 ≤ i → i ≤ m → IsValidFrame size w i
valid_below size w m i valid one le = record { first = one; each = λ j a b. valid.each j a (omega arith) }

wanted_is : (size count : ℕ) (w : List ℕ) (i p : ℕ) → page_of size w i ≡ p → p ≤ count → wanted_page size count w i ≡ p
unfolding wanted_page
wanted_is size count w i p e le = grind (arith, nat_tests)

wanted_was : (size count : ℕ) (w : List ℕ) (i p : ℕ) → wanted_page size count w i ≡ p → 1 ≤ p → page_of size w i ≡ p
unfolding wanted_page
wanted_was size count w i p e le = grind (arith, nat_tests)

pub table_none : (size count : ℕ) (w : List ℕ) (t : FrameTable) → IsTable size count w 0 t
table_none size count w t = record { long = omega arith; finds = λ i p a b. absurd (omega arith); found = λ i p a b. absurd (omega arith) }

pub table_more : (size count : ℕ) (w : List ℕ) (k page : ℕ) (t u : FrameTable) → length t.pages ≡ k → IsTable size count w k t → page ≡ wanted_page size count w (k + 1)
    → u ≡ record t { pages = t.pages ++ page ∷ [] } → IsTable size count w (k + 1) u
table_more size count w k page t u long is e new =
    let pages : u.pages ≡ t.pages ++ page ∷ [] = ap (λ (x : FrameTable). x.pages) new in
    let before : (i : ℕ) → 1 ≤ i → i ≤ k → get_or u.pages (i - 1) 0 ≡ get_or t.pages (i - 1) 0 = λ i a b. ap (λ (l : List ℕ). get_or l (i - 1) 0) pages ∙ get_or_append_left t.pages (page ∷ []) 0 (i - 1) (omega arith) in
    let last : (i : ℕ) → i ≡ k + 1 → get_or u.pages (i - 1) 0 ≡ wanted_page size count w i = λ i same.
    let at : i - 1 ≡ length t.pages + 0 = omega arith in
    ap (λ (l : List ℕ). get_or l (i - 1) 0) pages ∙ ap (λ n. get_or (t.pages ++ page ∷ []) n 0) at ∙ get_or-append-add t.pages (page ∷ []) 0 0 ∙ e ∙ ap (wanted_page size count w) (sym same) in
    record {
      long = omega (arith, ap length pages, length-append t.pages (page ∷ []));
      finds = λ i p a b one le names. ⊎_elim
          (λ lt. before i a (let x : i ≤ k = omega arith in x) ∙ is.finds i p a (let x : i ≤ k = omega arith in x) one le names)
          (λ ge. last i (let x : i ≡ k + 1 = omega arith in x) ∙ wanted_is size count w i p names le)
          (cases_lt i (k + 1));
      found = λ i p a b one le names. ⊎_elim
          (λ lt. is.found i p a (let x : i ≤ k = omega arith in x) one le (sym (before i a (let x : i ≤ k = omega arith in x)) ∙ names))
          (λ ge. wanted_was size count w i p (sym (last i (let x : i ≡ k + 1 = omega arith in x)) ∙ names) one)
          (cases_lt i (k + 1));
    }

-- ---- The plan.

module _ (limits : Bounds) (size : ℕ) (w : List ℕ) where
  pub plan_none : (f : Front) (plan : Plan) → JudgeAnswer limits size w (Ok f) → f.frames ≡ 0 → plan.frames ≡ 0 → plan.size ≡ 0 → PlanAnswer limits size w (Ok plan)
  unfolding JudgeAnswer PlanAnswer
  plan_none f plan is zero none size_none = (
    is.fit,
    record {
      front = subst (λ (n : ℕ). IsFront (named_size w) w n) (zero ∙ sym none) is.front;
      none = λ e. size_none;
      some = λ one. absurd (omega arith);
    },
  )

  pub plan_bare : (plan : Plan) → (IsHeader (named_size w) w → ⊥) → plan.frames ≡ 0 → plan.size ≡ 0 → PlanAnswer limits size w (Ok plan)
  unfolding PlanAnswer
  plan_bare plan bad none size_none = (
    fit_none size w bad limits,
    record {
      front = subst (λ (n : ℕ). IsFront (named_size w) w n) (sym none) (front_zero size w bad);
      none = λ e. size_none;
      some = λ one. absurd (omega arith);
    },
  )

  pub plan_some : (f : Front) (plan : Plan) → JudgeAnswer limits size w (Ok f) → 1 ≤ f.frames → plan.frames ≡ f.frames → plan.size ≡ f.size
      → (IsValidFrame (named_size w) w f.frames → IsTable (named_size w) f.size w f.frames plan.index) → plan.page_size ≡ size → PlanAnswer limits size w (Ok plan)
  unfolding JudgeAnswer PlanAnswer
  plan_some f plan is one frames count table sized =
      let valid : IsValidFrame (named_size w) w f.frames = ⊎_elim (λ e. absurd (omega arith)) (λ v. v.0) is.front.is in
      let facts = is.some one in (
        is.fit,
        record {
          front = subst (λ (n : ℕ). IsFront (named_size w) w n) (sym frames) is.front;
          none = λ e. absurd (omega arith);
          some = λ one2. record {
            named = facts.0;
            few = subst (λ (n : ℕ). n * size ≤ limits.bytes) (sym count) facts.2;
            copy = record {
              valid = subst (λ (n : ℕ). IsValidFrame size w n) (sym frames) (subst (λ (n : ℕ). IsValidFrame n w f.frames) facts.0 valid);
              size_is = count ∙ facts.1 ∙ ap (size_of size w) (sym frames);
              within = subst (λ (n : ℕ). n * size ≤ greatest.bytes) (sym count) facts.3;
              table = subst (λ (n : ℕ). IsTable size n w plan.frames plan.index) (sym count) (subst (λ (n : ℕ). IsTable size f.size w n plan.index) (sym frames) (subst (λ (n : ℕ). IsTable n f.size w f.frames plan.index) facts.0 (table valid)));
            };
            sized = sized;
          };
        },
      )

  pub plan_refused : (r : Result Front WalError) (q : Result Plan WalError) (e : WalError) → r ≡ Err e → q ≡ Err e → JudgeAnswer limits size w r → PlanAnswer limits size w q
  unfolding JudgeAnswer PlanAnswer
  plan_refused r q e was is answer = subst (λ (x : Result Plan WalError). PlanAnswer limits size w x) (sym is) (by e (let got = subst (λ (x : Result Front WalError). JudgeAnswer limits size w x) was answer in got))
    where
      by : (e : WalError) → LogRefused limits size w e → PlanAnswer limits size w (Err e)
      by NoMemory x = tt
      by _ x = x

  pub plan_memory : (q : Result Plan WalError) → q ≡ Err NoMemory → PlanAnswer limits size w q
  unfolding PlanAnswer
  plan_memory q is = subst (λ (x : Result Plan WalError). PlanAnswer limits size w x) (sym is) tt

  module _ (a b : DiskState) where
    pub read_planned : (r : Result Plan WalError) → PlanAnswer limits size w r → ReadAnswer limits size w r a b
    unfolding PlanAnswer ReadAnswer LogRefused
    read_planned (Ok p) x = x
    read_planned (Err Device) x = absurd x
    read_planned (Err _) x = x

    pub read_scan : (r : Result (Option Scan) WalError) (q : Result Plan WalError) (e : WalError) → r ≡ Err e → q ≡ Err e → ScanAnswer (wal_scan limits.frames) w r a b → ReadAnswer limits size w q a b
    unfolding ScanAnswer ScanRefused PlanAnswer ReadAnswer LogRefused
    read_scan r q e was is answer = subst (λ (x : Result Plan WalError). ReadAnswer limits size w x a b) (sym is) (by e (let got = subst (λ (x : Result (Option Scan) WalError). ScanAnswer (wal_scan limits.frames) w x a b) was answer in got))
      where
        by : (e : WalError) → ScanRefused limits.frames w e a b → ReadAnswer limits size w (Err e) a b
        by TooLarge x = inl x
        by NoMemory x = tt
        by Device x = x
        by _ x = absurd x

    pub read_some : (s : Scan) (r : Result (Option Scan) WalError) → r ≡ Ok (Some s) → ScanAnswer (wal_scan limits.frames) w r a b → TookWithin limits.frames w s
    unfolding ScanAnswer
    read_some s r was answer = let got = subst (λ (x : Result (Option Scan) WalError). ScanAnswer (wal_scan limits.frames) w x a b) was answer in got

    pub read_none : (r : Result (Option Scan) WalError) → r ≡ Ok None → ScanAnswer (wal_scan limits.frames) w r a b → IsHeader (named_size w) w → ⊥
    unfolding ScanAnswer
    read_none r was answer = let got = subst (λ (x : Result (Option Scan) WalError). ScanAnswer (wal_scan limits.frames) w x a b) was answer in got

pub page_least : (n : ℕ) → IsPageSize n → 1 ≤ n
page_least n is = by (one_of n is)
  where
    by : IsOneOf n → 1 ≤ n
    by = ⊎_elim (λ e. omega arith) (⊎_elim (λ e. omega arith) (⊎_elim (λ e. omega arith) (⊎_elim (λ e. omega arith) (⊎_elim (λ e. omega arith) (⊎_elim (λ e. omega arith) (⊎_elim (λ e. omega arith) (λ e. omega arith)))))))

pub page_most : (n : ℕ) → IsPageSize n → n ≤ 65536
page_most n is = by (one_of n is)
  where
    by : IsOneOf n → n ≤ 65536
    by = ⊎_elim (λ e. omega arith) (⊎_elim (λ e. omega arith) (⊎_elim (λ e. omega arith) (⊎_elim (λ e. omega arith) (⊎_elim (λ e. omega arith) (⊎_elim (λ e. omega arith) (⊎_elim (λ e. omega arith) (λ e. omega arith)))))))
