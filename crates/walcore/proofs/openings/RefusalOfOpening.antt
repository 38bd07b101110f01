-- Why an opening is refused, whatever bytes are there.
use Rattle.walcore.proofs.Below.{AreFiles, CountAnswer, Device, DiskState, Err, FileJudged, Files, FoldAnswer, Folded, HadRefusal, IfErr, IsCounted, IsFront, IsSoundDisk, KeepsBytes, List, Log, MayOpen, Ok, OpenRefused, PageSize, Result, Still, Syncs, TearsPages, TooLarge, WalError, ap, arith, cases_eq, cases_lt, if_err, inl, inr, length, most_bytes, named_size, present_in, refl, refusal_after, size_of, subst, sym, usual, ℕ, ⊎_elim, ◌*◌, ◌∙◌, ◌≡◌, ◌≤◌}
use Rattle.walcore.proofs.folds.LengthOfDatabaseFile.{front_none}
use Rattle.walcore.proofs.folds.AnswerOfParts.{bytes_then, fold_then, synced_bytes, synced_later, synced_fits, looked_bytes, fits_still}

pub device_refused : (size : ℕ) (db w : List ℕ) (e : WalError) (a b : DiskState) → (TearsPages size a → ⊥) → e ≡ Device → HadRefusal a b → OpenRefused size db w e a b
device_refused size db w e a b fits is had = subst (λ (x : WalError). OpenRefused size db w x a b) (sym is) (inl (fits, had))

-- no byte changed before
pub refused_then : (size : ℕ) (db w : List ℕ) (e : WalError) (a b c : DiskState) → (TearsPages size a → ⊥) → (TearsPages size b → ⊥) → a.refused ≤ b.refused → KeepsBytes a b
    → OpenRefused size db w e b c → OpenRefused size db w e a c
refused_then size db w e a b c fits fits_then le first refused = ⊎_elim
    (λ folds. inl (fold_then size db w a b c fits fits_then le first usual (Err e) folds))
    (λ fault. inr (fits, fault.1, fault.2, fault.3, bytes_then size db w a b c fits fits_then le first fault.4))
    refused

-- a file into which a log was folded has whole pages, if it had them where the log has no frames
module _ (size : ℕ) (db w : List ℕ) (f : Folded) (a b : DiskState) (folded : FoldAnswer size db w (Ok f) a b) where
  counts_none : f.frames ≡ 0 → (IsFront (named_size w) w 0 → IsCounted size (length db)) → IsCounted size b.db.len
  counts_none zero counts = subst (λ (n : ℕ). IsCounted size n) (folded.3.none zero).1.len (counts (front_none w f.frames zero folded.3.front))

  counts_some : 1 ≤ f.frames → IsCounted size b.db.len
  counts_some one =
      let is = folded.3.some one in
      let d = is.2.0 in
      let count : length d ≡ size_of (named_size w) w f.frames = is.2.1.some one ∙ ap (λ (n : ℕ). size_of n w f.frames) (sym is.1) in
      let some : 1 ≤ length d = ⊎_elim (λ z. absurd (omega arith)) (λ commit. ⊎_elim (λ z. absurd (commit.1 (sym count ∙ z))) (λ ne. omega arith) (cases_eq (length d) 0)) folded.3.front.is in
      let long : length d * size ≡ b.db.len = sym is.2.2.2.long ∙ sym is.2.2.1.len in
      let same : size_of (named_size w) w f.frames * named_size w ≡ length d * size = ap (λ (n : ℕ). n * named_size w) (sym count) ∙ ap (λ (n : ℕ). length d * n) is.1 in
      (length d, some, long, ⊎_elim (λ over. absurd (folded.1 (inr (f.frames, one, folded.3.front, omega (arith, over, long, same))))) (λ le. omega arith) (cases_lt most_bytes b.db.len))

  pub folded_counts : (IsFront (named_size w) w 0 → IsCounted size (length db)) → IsCounted size b.db.len
  folded_counts counts = ⊎_elim (λ zero. counts_none zero counts) (λ ne. counts_some (omega arith)) (cases_eq f.frames 0)

-- so that its pages are counted, or the disk refuses
pub count_refused : (size long : ℕ) (e : WalError) (a b : DiskState) → IsCounted size long → CountAnswer size long (Err e) a b → (e ≡ Device) × HadRefusal a b
count_refused size long PageSize a b counts x = absurd (x.1 counts.0 counts.1 counts.2)
count_refused size long TooLarge a b counts x = absurd (omega (arith, x, counts.3))
count_refused size long Device a b counts x = (refl, x)
count_refused size long _ a b counts x = absurd x

pub counted : (size : ℕ) (db w : List ℕ) (q : Result ℕ WalError) (a b c : DiskState) → (TearsPages size a → ⊥) → a.refused ≤ b.refused → IsCounted size b.db.len → CountAnswer size b.db.len q b c
    → IfErr q (λ e. OpenRefused size db w e a c)
counted size db w (Ok n) a b c fits le counts x = tt
counted size db w (Err e) a b c fits le counts x =
    let was = count_refused size b.db.len e b c counts x in
    device_refused size db w e a c fits was.0 (refusal_after a b c le was.1)

judged_err : {T : Type 0} (size : ℕ) (db w : List ℕ) (r : Result T WalError) (e : WalError) (a b : DiskState) → r ≡ Err e → FileJudged size db w r a b → OpenRefused size db w e a b
judged_err {T = T} size db w r e a b is judged = subst (λ (x : Result T WalError). FileJudged size db w x a b) is judged

folded_err : (size : ℕ) (db w : List ℕ) (r : Result Folded WalError) (e : WalError) (a b : DiskState) → r ≡ Err e → FoldAnswer size db w r a b → OpenRefused size db w e a b
folded_err size db w r e a b is answer = inl (subst (λ (x : Result Folded WalError). FoldAnswer size db w x a b) is answer)

-- an opening that is done
pub may_open : {U : Type 0} (size : ℕ) (found : Files) (s a b c : DiskState) (first : Result U WalError) (v : U) (r : Result Folded WalError) (f : Folded) → (TearsPages size s → ⊥) → first ≡ Ok v → FileJudged size found.db found.log first a b
    → r ≡ Ok f → FoldAnswer size found.db found.log r b c → MayOpen size found s
may_open {U = U} size found s a b c first v r f fits good judged was answer =
    let folded = subst (λ (x : Result Folded WalError). FoldAnswer size found.db found.log x b c) was answer in
    record { whole = fits; fit = record { small = folded.1; same = folded.2 }; counted = subst (λ (x : Result U WalError). FileJudged size found.db found.log x a b) good judged }

-- ---- A recovery: the log is synced, the files are looked at, the log is folded and the pages are counted.

module _ {T : Type 0} {u : T} (size : ℕ) (found : Files) (s a : DiskState) (sound : IsSoundDisk s) (fits : TearsPages size s → ⊥) (are : AreFiles s found) (synced : Syncs Log (Ok u) s a) where
  keeps : KeepsBytes s a
  keeps = synced_bytes size found.db found.log s a a sound fits synced

  le : s.refused ≤ a.refused
  le = synced_later size found.db found.log s a a sound fits synced

  pub whole_synced : TearsPages size a → ⊥
  whole_synced = synced_fits size found.db found.log s a a sound fits synced

  pub files_synced : AreFiles a found
  files_synced = record { db = present_in s.db a.db found.db keeps.db are.db; log = keeps.log found.log are.log }

  pub unjudged : {U V : Type 0} (b : DiskState) (r : Result U WalError) (q : Result V WalError) (e : WalError) → r ≡ Err e → q ≡ Err e → FileJudged size found.db found.log r a b
      → IfErr q (λ x. OpenRefused size found.db found.log x s b)
  unjudged b r q e was is judged = if_err q e (λ x. OpenRefused size found.db found.log x s b) is
      (refused_then size found.db found.log e s a b fits whole_synced le keeps (judged_err size found.db found.log r e a b was judged))

  module _ (b : DiskState) (still : Still a b) where
    whole_looked : TearsPages size b → ⊥
    whole_looked = fits_still size found.db found.log a b b whole_synced still

    both : KeepsBytes s b
    both = bytes_then size found.db found.log s a b fits whole_synced le keeps (looked_bytes size found.db found.log a b b whole_synced still)

    pub files_looked : AreFiles b found
    files_looked = record { db = present_in s.db b.db found.db both.db are.db; log = both.log found.log are.log }

    pub unfolded : {V : Type 0} (c : DiskState) (r : Result Folded WalError) (q : Result V WalError) (e : WalError) → r ≡ Err e → q ≡ Err e → FoldAnswer size found.db found.log r b c
        → IfErr q (λ x. OpenRefused size found.db found.log x s c)
    unfolded c r q e was is answer = if_err q e (λ x. OpenRefused size found.db found.log x s c) is
        (refused_then size found.db found.log e s b c fits whole_looked (omega (arith, le, still.refused)) both (folded_err size found.db found.log r e b c was answer))

    pub uncounted : {U : Type 0} (c d : DiskState) (first : Result U WalError) (v : U) (r : Result Folded WalError) (f : Folded) (q : Result ℕ WalError) → first ≡ Ok v → FileJudged size found.db found.log first a b
        → r ≡ Ok f → FoldAnswer size found.db found.log r b c → b.refused ≤ c.refused → CountAnswer size c.db.len q c d → IfErr q (λ x. OpenRefused size found.db found.log x s d)
    uncounted {U = U} c d first v r f q good judged was answer later count = counted size found.db found.log q s c d fits (omega (arith, le, still.refused, later))
        (folded_counts size found.db found.log f b c (subst (λ (x : Result Folded WalError). FoldAnswer size found.db found.log x b c) was answer)
        (subst (λ (x : Result U WalError). FileJudged size found.db found.log x a b) good judged))
        count
