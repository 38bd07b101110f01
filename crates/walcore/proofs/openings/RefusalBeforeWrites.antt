-- Why an opening is refused before it writes.
use Rattle.walcore.proofs.Below.{ArePresent, CountAnswer, Device, DiskError, DiskState, Err, FileFault, FileJudged, FoldAnswer, FrontJudged, HadRefusal, IsFit, IsFront, IsSoundDisk, List, Looks, Ok, PageSize, Plan, ReadAnswer, Result, Still, TearsPages, TooLarge, WalError, ap, arith, div-mul-le_self, inl, inr, mod-eq-sub-div-mul, named_size, refl, still_then, subst, sym, usual, ℕ, ⊎_elim, ◌%◌, ◌*◌, ◌/◌, ◌∙◌, ◌≡◌, ◌≤◌, ◌⊎◌}
use Rattle.walcore.proofs.folds.AnswerOfParts.{look_refused, looked_bytes, read_folds, fold_looked}

module _ {T : Type 0} (size : ℕ) (w : List ℕ) (fault : WalError) where
  pub front_unlooked : {U : Type 0} (called : Result U DiskError) (e : DiskError) (q : Result T WalError) (a b : DiskState) → IsSoundDisk a → (TearsPages size a → ⊥) → called ≡ Err e → q ≡ Err Device → Looks 0 called a b → FrontJudged size w fault q a b
  front_unlooked called e q a b sound fits was is looked = subst (λ (x : Result T WalError). FrontJudged size w fault x a b) (sym is) (inl (λ db. look_refused usual size db w called e (Err Device) a b sound fits was refl looked))

  pub front_unread : (r : Result Plan WalError) (e : WalError) (q : Result T WalError) (a b c : DiskState) → (TearsPages size a → ⊥) → (TearsPages size b → ⊥) → Still a b → Still b c → r ≡ Err e → q ≡ Err e → ReadAnswer usual size w r b c → FrontJudged size w fault q a c
  front_unread r e q a b c fits fits_b first second was is answer = subst (λ (x : Result T WalError). FrontJudged size w fault x a c) (sym is)
      (inl (λ db. fold_looked size db w a b c fits first usual (Err e) (read_folds usual size db w b c fits_b second r (Err e) e was refl answer)))

-- a file of whole pages has some
pub count_whole : (size m long : ℕ) → m ≡ size → long % m ≡ 0 → (long ≡ 0 → ⊥) → (1 ≤ long / m) × (long / m * size ≡ long)
count_whole size m long same rest some =
    let whole : long / m * m ≡ long = omega (arith, mod-eq-sub-div-mul long m, div-mul-le_self long m, rest) in
    let more : long / m ≡ 0 → ⊥ = λ none. some (let e : long / m * m ≡ 0 * m = ap (λ k. k * m) none in omega (arith, whole, e)) in
    (omega (arith, more), ap (λ k. long / m * k) (sym same) ∙ whole)

-- what was found wrong with the file's length
count_fault : (size long : ℕ) (e : WalError) (a b : DiskState) → CountAnswer size long (Err e) a b → FileFault size long e ⊎ ((e ≡ Device) × HadRefusal a b)
count_fault size long PageSize a b x = inl x
count_fault size long TooLarge a b x = inl x
count_fault size long Device a b x = inr (refl, x)
count_fault size long _ a b x = absurd x

refusal_then : (a b c : DiskState) → Still b c → HadRefusal a b → HadRefusal a c
refusal_then a b c still had = ⊎_elim (λ lt. inl (omega (arith, lt, still.refused))) (λ most. inr (omega (arith, most, still.refused, still.count))) had

module _ (size : ℕ) (db w : List ℕ) (a b c : DiskState) (fits : TearsPages size a → ⊥) (are : ArePresent a.db db) (first : Still a b) (second : Still b c) where
  at_front : (T : Type 0) (e x : WalError) → x ≡ e → IsFit size w → IsFront (named_size w) w 0 → CountAnswer size a.db.len (Err e) a b → FileJudged {T = T} size db w (Err x) a c
  at_front T e x same fit front answer = ⊎_elim
      (λ fault. inr (fits, fit, front, subst (λ (n : ℕ). FileFault size n x) (sym are.len) (subst (λ (y : WalError). FileFault size a.db.len y) (sym same) fault), looked_bytes size db w a c c fits (still_then a b c first second)))
      (λ is. inl (subst (λ (y : WalError). FoldAnswer size db w (Err y) a c) (sym (same ∙ is.0)) (fits, refusal_then a b c second is.1)))
      (count_fault size a.db.len e a b answer)

  pub file_judged : {T : Type 0} (e : WalError) (q : Result T WalError) → CountAnswer size a.db.len (Err e) a b → FrontJudged size w e q b c → FileJudged size db w q a c
  file_judged {T = T} e (Ok v) answer judged = λ front. absurd (judged front)
  file_judged {T = T} e (Err x) answer judged = ⊎_elim
      (λ folds. inl (fold_looked size db w a b c fits first usual (Err x) (folds db)))
      (λ is. at_front T e x is.2 is.0 is.1 answer)
      judged
