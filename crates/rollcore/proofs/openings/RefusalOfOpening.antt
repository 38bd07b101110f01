-- What refuses an opening, whatever stands on the disk.
use Rattle.rollcore.proofs.Below.{ArePresent, Bool, BreakSteps, CountAnswer, Device, DiskError, DiskState, Err, FileState, FilesAnswer, FrontAnswer, HadRefusal, IfErr, InFile, IsAboveLimit, IsFit, IsHot, IsLogDurable, IsSoundDisk, IsWithin, KeepsBytes, Later, LeavesFiles, List, Log, MayOpen, NoMemory, Ok, Option, PageSize, Plan, PlanAnswer, ReadAnswer, RefusedFor, Replayed, Result, RollError, RolledAnswer, SectorAbovePage, SizeJudged, Still, SyncStep, Syncs, TearsJournal, TearsPages, TooLarge, ap, arith, cond, false, if_err, inl, inr, length, most_bytes, present_in, present_synced, refl, refusal_after, still_bytes, subst, sym, sync_down, sync_later, sync_refused, told_ok, torn_sector, true, word, ℕ, ⊎_elim, ◌<◌, ◌∙◌, ◌≡◌, ◌≤◌, ◌⊎◌}
use Rattle.rollcore.proofs.replays.AnswerOfParts.{tears_by, fits_whole, short, small}

pub from_err : {T : Type 0} (q : Result T RollError) (e : RollError) (P : RollError → Type 0) → q ≡ Err e → IfErr q P → P e
from_err {T = T} q e P is p = subst (λ (x : Result T RollError). IfErr x P) is p

-- what is refused by Device
pub refused_device : (size : ℕ) (db w : List ℕ) (e : RollError) (a b : DiskState) → (e ≡ Device) × HadRefusal a b → RefusedFor size db w e a b
refused_device size db w e a b had = subst (λ (x : RollError). RefusedFor size db w x a b) (sym had.0) had.1

module _ (size : ℕ) (db w : List ℕ) (s : DiskState) (sound : IsSoundDisk s) (are_db : ArePresent s.db db) (are : ArePresent s.log w) where
  not_above : IsHot w → IsWithin most_bytes w → IsAboveLimit db w → ⊥
  not_above hot within above = ⊎_elim (small db w s sound are_db are most_bytes within) (λ x. x.0 hot) above

  pub hot_opens : IsFit (torn_sector s) w → IsWithin most_bytes w → word w 24 ≡ size → 1 ≤ word w 16 → MayOpen size db w s
  hot_opens fit within same some = record { within = not_above fit.hot within; sectors = fits_whole w s fit; hot = λ hot. (same, some); cold = λ cold. absurd (cold fit.hot) }

  module _ (a : DiskState) (is : Still s a) where
    refused_read : (e : RollError) → ReadAnswer most_bytes (torn_sector s) w (Err e) s a → RefusedFor size db w e s a
    unfolding ReadAnswer PlanAnswer
    refused_read TooLarge x = (inl x, still_bytes s a is)
    refused_read SectorAbovePage x = (not_above x.0 x.1, tears_by w s x.0 x.2, still_bytes s a is)
    refused_read NoMemory x = still_bytes s a is
    refused_read Device x = x
    refused_read _ x = absurd x

    pub read_refuses : (r : Result (Option Plan) RollError) (e : RollError) → r ≡ Err e → ReadAnswer most_bytes (torn_sector s) w r s a → RefusedFor size db w e s a
    read_refuses r e was answer = refused_read e (subst (λ (x : Result (Option Plan) RollError). ReadAnswer most_bytes (torn_sector s) w x s a) was answer)

    refused_size : (T : Type 0) → IsFit (torn_sector s) w → IsWithin most_bytes w → (e : RollError) → SizeJudged {T = T} size w (Err e) → RefusedFor size db w e s a
    refused_size T fit within PageSize x = (not_above fit.hot within, fits_whole w s fit, inl (fit.hot, x), still_bytes s a is)
    refused_size T fit within _ x = absurd x

    pub size_refuses : {T : Type 0} → IsFit (torn_sector s) w → IsWithin most_bytes w → (r : Result T RollError) (e : RollError) → r ≡ Err e → SizeJudged size w r → RefusedFor size db w e s a
    size_refuses {T = T} fit within r e was answer = refused_size T fit within e (subst (λ (x : Result T RollError). SizeJudged size w x) was answer)

    pub replay_refuses : (b : DiskState) (r : Result Replayed RollError) (e : RollError) → r ≡ Err e → RolledAnswer db w r a b → RefusedFor size db w e s b
    unfolding RolledAnswer
    replay_refuses b r e was answer =
        let had = subst (λ (x : Result Replayed RollError). RolledAnswer db w x a b) was answer in
        refused_device size db w e s b (had.0, refusal_after s a b is.refused had.1)

    -- the file's pages are counted
    module _ (cold : IsHot w → ⊥) (b : DiskState) (all : Still s b) where
      long : a.db.len ≡ length db
      long = ap (λ (f : FileState). f.len) is.db ∙ sym are_db.len

      not_long : a.db.len ≤ most_bytes → IsAboveLimit db w → ⊥
      not_long within above = ⊎_elim (λ large. ⊎_elim (short db w s sound are_db are) (λ x. cold x.0) large) (λ x. omega (arith, x.1, within, long)) above

      refused_count : (e : RollError) → CountAnswer size a.db.len (Err e) a b → RefusedFor size db w e s b
      refused_count PageSize x = (not_long x.0, λ tears. cold tears.1, inr (cold, λ n one e. x.1 n one (e ∙ sym long)), still_bytes s b all)
      refused_count TooLarge x = (inr (cold, omega (arith, x, long)), still_bytes s b all)
      refused_count Device x = refusal_after s a b is.refused x
      refused_count _ x = absurd x

      pub count_refuses : (r : Result ℕ RollError) (e : RollError) → r ≡ Err e → CountAnswer size a.db.len r a b → RefusedFor size db w e s b
      count_refuses r e was answer = refused_count e (subst (λ (x : Result ℕ RollError). CountAnswer size a.db.len x a b) was answer)

      pub count_opens : (r : Result ℕ RollError) (n : ℕ) → r ≡ Ok n → CountAnswer size a.db.len r a b → MayOpen size db w s
      count_opens r n was answer =
          let x = subst (λ (y : Result ℕ RollError). CountAnswer size a.db.len y a b) was answer in
          record { within = not_long x.2; sectors = λ tears. cold tears.1; hot = λ hot. absurd (cold hot); cold = λ _. (n, x.0, x.1 ∙ long) }

    -- and the front of the log is broken
    pub break_refuses : {T : Type 0} (b c : DiskState) → Still s b → (r : Result T RollError) (e : RollError) → r ≡ Err e → IfErr r (λ x. (x ≡ Device) × HadRefusal b c) → RefusedFor size db w e s c
    break_refuses {T = T} b c all r e was answer =
        let had = subst (λ (x : Result T RollError). IfErr x (λ y. (y ≡ Device) × HadRefusal b c)) was answer in
        refused_device size db w e s c (had.0, refusal_after s b c all.refused had.1)

-- a magic that wasn't broken, or a log that wasn't synced then
pub broken_refused : {T : Type 0} (a b : DiskState) (r : Result Bool RollError) (q : Result T RollError) (e : RollError) → r ≡ Err e → BreakSteps 0 r a b → q ≡ Err e → IfErr q (λ x. (x ≡ Device) × HadRefusal a b)
broken_refused a b r q e was steps is =
    let x = subst (λ (y : Result Bool RollError). BreakSteps 0 y a b) was steps in
    if_err q e (λ y. (y ≡ Device) × HadRefusal a b) is (x.0, x.1)

pub settled_refused : {T U : Type 0} (a b c : DiskState) (r : Result T RollError) (q : Result U RollError) (e : RollError) → a.refused ≤ b.refused → IsSoundDisk b → r ≡ Err e → SyncStep Device Log r b c → q ≡ Err e → IfErr q (λ x. (x ≡ Device) × HadRefusal a c)
settled_refused a b c r q e le sound was step is =
    let x = sync_refused Device Log r e b c sound was step in
    if_err q e (λ y. (y ≡ Device) × HadRefusal a c) is (x.0, refusal_after a b c le x.1)

-- ---- what is answered of the files

pub files_err : {T : Type 0} (size : ℕ) (db w : List ℕ) (q : Result T RollError) (e : RollError) (a b : DiskState) → q ≡ Err e → RefusedFor size db w e a b → FilesAnswer size db w q a b
files_err {T = T} size db w q e a b is had = subst (λ (x : Result T RollError). FilesAnswer size db w x a b) (sym is) had

pub files_refused : {T : Type 0} (size : ℕ) (db w : List ℕ) (q : Result T RollError) (a b : DiskState) → FilesAnswer size db w q a b → IfErr q (λ e. RefusedFor size db w e a b)
files_refused size db w (Ok v) a b x = tt
files_refused size db w (Err e) a b x = x

pub files_opened : {T : Type 0} (size : ℕ) (db w : List ℕ) (q : Result T RollError) (v : T) (a b : DiskState) → q ≡ Ok v → FilesAnswer size db w q a b → MayOpen size db w a × LeavesFiles db w a b
files_opened {T = T} size db w q v a b is answer = subst (λ (x : Result T RollError). FilesAnswer size db w x a b) is answer

-- a hot journal was replayed
pub hot_leaves : (db w : List ℕ) (r : Result Replayed RollError) (x : Replayed) (s a b : DiskState) → IsHot w → r ≡ Ok x → RolledAnswer db w r a b → LeavesFiles db w s b
unfolding RolledAnswer
hot_leaves db w r x s a b hot was answer = record {
  hot = λ h. (x, subst (λ (y : Result Replayed RollError). RolledAnswer db w y a b) was answer);
  file = λ cold. absurd (cold hot);
  log = λ cold. absurd (cold hot);
}

-- none was hot, and the front of the log is broken
pub cold_leaves : {T : Type 0} (db w : List ℕ) (r : Result T RollError) (v : T) (s b c : DiskState) → (IsHot w → ⊥) → r ≡ Ok v → c.db ≡ s.db → FrontAnswer w r b c → LeavesFiles db w s c
cold_leaves {T = T} db w r v s b c cold was same front = record {
  hot = λ hot. absurd (cold hot);
  file = λ none. same;
  log = λ none. (let x = subst (λ (y : Result T RollError). FrontAnswer w y b c) was front in x.done);
}

-- ---- the log is synced first

module _ {T : Type 0} (v : T) (r : Result T RollError) (s a : DiskState) (sound : IsSoundDisk s) (was : r ≡ Ok v) (step : SyncStep Device Log r s a) where
  synced : (x : T) × Syncs {T = T} Log (Ok x) s a
  synced = let t = told_ok Device step.0 r v was step.1 in (t.0, subst (λ (x : Result T DiskError). Syncs Log x s a) t.1 step.2)

  present_a : (bytes : List ℕ) → ArePresent s.log bytes → ArePresent a.log bytes
  present_a bytes are = record {
    len = are.len ∙ sym synced.1.file.len;
    each = λ i lt. are.each i (omega (arith, synced.1.file.len)) ∙ sym (present_synced Log s a synced.1 i);
  }

  bytes_before : (b : DiskState) → KeepsBytes a b → KeepsBytes s b
  bytes_before b keeps = record { db = keeps.db ∙ step.2.elsewhere.other; log = λ bytes are. keeps.log bytes (present_a bytes are) }

  tears_after : (w : List ℕ) → TearsJournal a w → TearsJournal s w
  tears_after w x = (sym step.2.elsewhere.tears ∙ x.0, x.1, subst (λ (n : ℕ). (word w 24 < n) ⊎ (word w 20 < n)) step.2.elsewhere.sector x.2)

  tears_before : (w : List ℕ) → TearsJournal s w → TearsJournal a w
  tears_before w x = (step.2.elsewhere.tears ∙ x.0, x.1, subst (λ (n : ℕ). (word w 24 < n) ⊎ (word w 20 < n)) (sym step.2.elsewhere.sector) x.2)

  after : (size : ℕ) (db w : List ℕ) (e : RollError) (b : DiskState) → RefusedFor size db w e a b → RefusedFor size db w e s b
  after size db w SectorAbovePage b x = (x.0, tears_after w x.1, bytes_before b x.2)
  after size db w TooLarge b x = (x.0, bytes_before b x.1)
  after size db w PageSize b x = (x.0, λ tears. x.1 (tears_before w tears), x.2, bytes_before b x.3)
  after size db w NoMemory b x = bytes_before b x
  after size db w Device b x = (let goes : Later (InFile Log) s a = sync_later Device Log r s a refl sound step in refusal_after s a b goes.refused x)
  after size db w _ b x = absurd x

  files_after : {U : Type 0} (size : ℕ) (db w : List ℕ) (q : Result U RollError) (b : DiskState) → FilesAnswer size db w q a b → FilesAnswer size db w q s b
  files_after size db w (Ok u) b x = (
    record { within = x.0.within; sectors = λ tears. x.0.sectors (tears_before w tears); hot = x.0.hot; cold = x.0.cold },
    record { hot = x.1.hot; file = λ cold. x.1.file cold ∙ step.2.elsewhere.other; log = x.1.log },
  )
  files_after size db w (Err e) b x = after size db w e b x

  pub synced_files : {U : Type 0} (size : ℕ) (db w : List ℕ) (q : Result U RollError) (b : DiskState) → ArePresent s.db db → ArePresent s.log w
      → (ArePresent a.db db → IsLogDurable a w → FilesAnswer size db w q a b) → FilesAnswer size db w q s b
  synced_files size db w q b are_db are rest = files_after size db w q b (rest (present_in s.db a.db db step.2.elsewhere.other are_db) (sync_down r v w s a sound was step are))

-- ---- sectors that tear are larger than the pages

pub tears_pages : (size : ℕ) (s : DiskState) → size < torn_sector s → TearsPages size s
tears_pages size s lt = by s.tears refl
  where
    by : (b : Bool) → s.tears ≡ b → TearsPages size s
    by true e = (e, subst (λ (x : Bool). size < cond x s.sector 0) e lt)
    by false e = absurd (let none : size < 0 = subst (λ (x : Bool). size < cond x s.sector 0) e lt in omega (arith, none))

pub no_tears : (size : ℕ) (s : DiskState) → torn_sector s ≤ size → TearsPages size s → ⊥
no_tears size s le is = let e : s.sector ≤ size = subst (λ (x : Bool). cond x s.sector 0 ≤ size) is.0 le in omega (arith, e, is.1)
