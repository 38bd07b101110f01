-- What a scanned journal is judged by, and what is planned of it.
use Rattle.rollcore.proofs.Words.{Device, DiskState, Err, HasRead, IsHot, JournalHeader, JudgeAnswer, List, Names, NoMemory, None, Ok, Option, Plan, PlanAnswer, ReadAnswer, Replay, Result, RollError, ScanAnswer, ScanRefused, SectorAbovePage, Some, TooLarge, ap, arith, div-mul-le_self, inl, inr, journal_scan, mod-eq-sub-div-mul, subst, sym, word, ℕ, ⊎_elim, ◌%◌, ◌*◌, ◌/◌, ◌<◌, ◌∙◌, ◌≡◌, ◌≤◌, ◌⊎◌}

module _ (most torn : ℕ) (w : List ℕ) (hot : IsHot w) (h : JournalHeader) (names : Names w h) where
  bytes_of : h.first_size * h.page_size ≡ word w 16 * word w 24
  bytes_of = ap (λ n. n * h.page_size) names.first_size ∙ ap (λ n. word w 16 * n) names.size

  pub judged_large : most < h.first_size * h.page_size → JudgeAnswer most torn w (Err TooLarge)
  unfolding JudgeAnswer
  judged_large more = inr (hot, omega (arith, bytes_of))

  module _ (within : h.first_size * h.page_size ≤ most) where
    pub judged_below : (h.page_size < torn) ⊎ (h.sector < torn) → JudgeAnswer most torn w (Err SectorAbovePage)
    unfolding JudgeAnswer
    judged_below below = (omega (arith, bytes_of), ⊎_elim (λ a. inl (omega (arith, names.size))) (λ b. inr (omega (arith, names.sector))) below)

    pub judged_fit : (done : Unit {0}) → torn ≤ h.page_size → torn ≤ h.sector → JudgeAnswer most torn w (Ok done)
    unfolding JudgeAnswer
    judged_fit done page sector = (record { hot = hot; page = omega (arith, names.size); sector = omega (arith, names.sector) }, omega (arith, bytes_of))

module _ (most torn : ℕ) (w : List ℕ) where
  pub plan_none : (IsHot w → ⊥) → PlanAnswer most torn w (Ok None)
  unfolding PlanAnswer
  plan_none cold = cold

  pub plan_refused : (r : Result (Unit {0}) RollError) (q : Result (Option Plan) RollError) (e : RollError) → IsHot w → r ≡ Err e → q ≡ Err e → JudgeAnswer most torn w r → PlanAnswer most torn w q
  unfolding JudgeAnswer PlanAnswer
  plan_refused r q e hot was is answer = subst (λ (x : Result (Option Plan) RollError). PlanAnswer most torn w x) (sym is) (by e (subst (λ (x : Result (Unit {0}) RollError). JudgeAnswer most torn w x) was answer))
    where
      by : (e : RollError) → JudgeAnswer most torn w (Err e) → PlanAnswer most torn w (Err e)
      by TooLarge x = x
      by SectorAbovePage x = (hot, x.0, x.1)
      by _ x = absurd x

  pub plan_memory : (q : Result (Option Plan) RollError) → q ≡ Err NoMemory → PlanAnswer most torn w q
  unfolding PlanAnswer
  plan_memory q is = subst (λ (x : Result (Option Plan) RollError). PlanAnswer most torn w x) (sym is) tt

  pub plan_some : (r : Result (Unit {0}) RollError) (done : Unit {0}) (plan : Plan) → r ≡ Ok done → JudgeAnswer most torn w r → HasRead w plan.scan → Names w plan.header → PlanAnswer most torn w (Ok (Some plan))
  unfolding JudgeAnswer PlanAnswer
  plan_some r done plan was answer read names =
      let fit = subst (λ (x : Result (Unit {0}) RollError). JudgeAnswer most torn w x) was answer in (fit.0, record { read = read; names = names }, fit.1)

  module _ (a b : DiskState) where
    pub read_planned : (r : Result (Option Plan) RollError) → PlanAnswer most torn w r → ReadAnswer most torn w r a b
    unfolding PlanAnswer ReadAnswer
    read_planned (Ok p) x = x
    read_planned (Err Device) x = absurd x
    read_planned (Err _) x = x

    pub read_scan : (r : Result (Option Replay) RollError) (q : Result (Option Plan) RollError) (e : RollError) → r ≡ Err e → q ≡ Err e → ScanAnswer journal_scan w r a b → ReadAnswer most torn w q a b
    unfolding ScanAnswer ScanRefused PlanAnswer ReadAnswer
    read_scan r q e was is answer = subst (λ (x : Result (Option Plan) RollError). ReadAnswer most torn w x a b) (sym is) (by e (subst (λ (x : Result (Option Replay) RollError). ScanAnswer journal_scan w x a b) was answer))
      where
        by : (e : RollError) → ScanRefused w e a b → ReadAnswer most torn w (Err e) a b
        by TooLarge x = inl x
        by NoMemory x = tt
        by Device x = x
        by _ x = absurd x

    pub scan_read : (r : Result (Option Replay) RollError) (s : Replay) → r ≡ Ok (Some s) → ScanAnswer journal_scan w r a b → HasRead w s
    unfolding ScanAnswer
    scan_read r s was answer = subst (λ (x : Result (Option Replay) RollError). ScanAnswer journal_scan w x a b) was answer

    pub scan_cold : (r : Result (Option Replay) RollError) → r ≡ Ok None → ScanAnswer journal_scan w r a b → IsHot w → ⊥
    unfolding ScanAnswer
    scan_cold r was answer = subst (λ (x : Result (Option Replay) RollError). ScanAnswer journal_scan w x a b) was answer

-- a length that has a whole number of pages, one at least
pub count_whole : (size m long : ℕ) → m ≡ size → long % m ≡ 0 → (long ≡ 0 → ⊥) → (1 ≤ long / m) × (long / m * size ≡ long)
count_whole size m long same rest some =
    let whole : long / m * m ≡ long = omega (arith, mod-eq-sub-div-mul long m, div-mul-le_self long m, rest) in
    let more : long / m ≡ 0 → ⊥ = λ none. some (let e : long / m * m ≡ 0 * m = ap (λ k. k * m) none in omega (arith, whole, e)) in
    (omega (arith, more), ap (λ k. long / m * k) (sym same) ∙ whole)
