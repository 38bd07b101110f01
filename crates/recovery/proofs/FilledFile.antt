-- Pages of a log are written into the file, which has the other ones.
use Rattle.std.proofs.Common.{◌≡◌, ◌⊎◌, ⊎_elim, ℕ, ◌+◌, ◌-◌, ◌*◌, ◌/◌, ◌<◌, ◌≤◌, List, length, get_or, ◌∙◌, subst, arith, Result}
use Rattle.recovery.proofs.Below.{Database, page, file_page, IsFile, IsJust, size_some, page_by_bytes, file_count, IsImage, Meets, DiskState, ArePresent, Writes, Cuts, Syncs, Suits, Still, IsSteady, Spreads, IsClear, File, Db, DiskError, steady_writes, steady_cuts, image_still, page_at, page_within, sector_some, cut_clear, run_cases, run_apart, run_clear, suits_still, suits_syncs, suits_writes, suits_cuts, whole_pages, page_is_clear, file_syncs, ArePages, Filling}

-- fewer pages
pub filling_wider : (size : ℕ) (d : Database) (Unnamed Other : ℕ → Type 0) (s : DiskState) → ((p : ℕ) → Other p → Unnamed p) → Filling size d Unnamed s → Filling size d Other s
filling_wider size d Unnamed Other s fewer is = record { suits = is.suits; full = is.full; steady = λ p i a b un lt. is.steady p i a b (fewer p un) lt }

module _ (size : ℕ) (d : Database) (Unnamed : ℕ → Type 0) where
  filling_by : (old new : DiskState) → Filling size d Unnamed old → Suits size new
      → ((p i : ℕ) → 1 ≤ p → p ≤ length d → Unnamed p → i < size → IsSteady new.sector new.tears new.db (page_at size p + i) (get_or (page d p) i 0)) → Filling size d Unnamed new
  filling_by old new is suits steady = record { suits = suits; full = is.full; steady = steady }

  pub filling_still : (old new : DiskState) → Filling size d Unnamed old → Still old new → Filling size d Unnamed new
  filling_still old new is still = filling_by old new is (suits_still size old new is.suits still)
      (λ p i a b un lt db image. is.steady p i a b un lt db (image_still old new still db image))

  pub filling_syncs : {T : Type 0} (f : File) (result : Result T DiskError) (old new : DiskState) → Filling size d Unnamed old → Syncs f result old new → Filling size d Unnamed new
  filling_syncs f result old new is synced = filling_by old new is (suits_syncs size f result old new is.suits synced)
      (λ p i a b un lt db image. is.steady p i a b un lt db (file_syncs f result old new is.suits.sound synced db image))

  clear : (s : DiskState) → Filling size d Unnamed s → (p i : ℕ) → 1 ≤ p → p ≤ length d → Unnamed p → i < size → IsClear s.sector s.tears s.db (page_at size p + i)
  clear s is p i a b un lt = page_is_clear size s p (page d p) is.suits a (λ j lt_j. is.steady p j a b un lt_j) i lt

  -- pages that the log has are written
  pub filling_writes : (q k : ℕ) (bytes : List ℕ) (result : Result (Unit {0}) DiskError) (old new : DiskState) → Filling size d Unnamed old → 1 ≤ q → ((j : ℕ) → j < k → Unnamed (q + j) → ⊥) → length bytes ≡ k * size
      → Writes Db ((q - 1) * size) bytes result old new → Filling size d Unnamed new
  filling_writes q k bytes result old new is one named full wrote = filling_by old new is (suits_writes size Db (page_at size q) bytes result old new is.suits wrote)
      (λ p i a b un lt.
      let other : (p < q) ⊎ (q + k ≤ p) = ⊎_elim (λ run. absurd (named run.0 run.1 (subst (λ (n : ℕ). Unnamed n) run.2 un))) (λ out. out) (run_cases q k p) in
      steady_writes Db (page_at size q) bytes result old new (page_at size p + i) (get_or (page d p) i 0) is.suits.sound.db wrote (is.steady p i a b un lt)
      (λ spreads.
      let in_q = run_clear size old.sector q k (page_at size p + i) old.tears (whole_pages size old is.suits) (omega (arith, sector_some old.sector is.suits.sectors)) one
      (subst (λ (n : ℕ). Spreads old.sector old.tears (page_at size q) (page_at size q + n) (page_at size p + i)) full spreads) in
      ⊎_elim (λ below. omega (arith, in_q.0)) (λ above. omega (arith, in_q.1)) (run_apart size q k p i a one other lt))
      (clear old is p i a b un lt))

  -- the length is set
  pub filling_cuts : {T : Type 0} (n : ℕ) (result : Result T DiskError) (old new : DiskState) → Filling size d Unnamed old → n ≡ length d * size → Cuts Db n result old new → Filling size d Unnamed new
  filling_cuts n result old new is end cut =
      filling_by old new is (suits_cuts size Db n result old new is.suits cut)
      (λ p i a b un lt.
      let below : page_at size p + i < length d * size = page_within size p (length d) i a b lt in
      steady_cuts Db n result old new (page_at size p + i) (get_or (page d p) i 0) is.suits.sound.db cut (is.steady p i a b un lt)
      (λ past. absurd (omega arith))
      (λ torn meets. cut_clear size old.sector (length d) (page_at size p + i) old.db.len (whole_pages size old is.suits torn) (omega (arith, sector_some old.sector is.suits.sectors)) below
      (subst (λ (k : ℕ). Meets old.sector k old.db.len ((page_at size p + i) / old.sector)) end meets))
      (clear old is p i a b un lt))

  -- the pages that the log doesn't have, in a file that may be left
  pub filling_other : (s : DiskState) (db : List ℕ) → Filling size d Unnamed s → IsImage s.sector s.tears s.db db → (p : ℕ) → 1 ≤ p → p ≤ length d → Unnamed p → page d p ≡ file_page size db p
  filling_other s db is image p a b un = page_by_bytes size db p (page d p) (is.full p a b) (λ i lt. is.steady p i a b un lt db image)

  -- the present file, once it has all pages
  pub filled_just : (s : DiskState) (bytes : List ℕ) → Filling size d Unnamed s → ArePages size d s.db → ArePresent s.db bytes → IsJust size d bytes
  filled_just s bytes is pages are = record {
    long = are.len ∙ pages.len;
    each = λ p a b. page_by_bytes size bytes p (page d p) (is.full p a b)
        (λ i lt. are.each ((p - 1) * size + i) (omega (arith, pages.len, page_within size p (length d) i a b lt)) ∙ pages.each p a b i lt);
  }

  pub filled_file : (s : DiskState) (bytes : List ℕ) → Filling size d Unnamed s → IsJust size d bytes → IsFile size bytes d
  filled_file s bytes is just = record { count = file_count size bytes (length d) (omega (arith, size_some size is.suits.pages)) just.long; each = just.each }
