-- A commit is judged, carried out or refused: what the machine steps to, and what fits then.
use Rattle.rollcore.proofs.Between.{AreChanged, AreChanges, Bool, Bor, Closes, Commits, Core, Database, Device, DiskState, Done, Ends, Err, FitsCore, HadRefusal, HasCalls, IsFaultless, IsHeld, IsReady, IsSameDisk, IsTrue, KeepsCore, Later, List, MayChange, MayCommit, NamesSectors, NoMemory, None, Ok, Option, Pages, PutAnswer, Refused, Refuses, Rests, RestsAt, Result, RollError, ShowsEither, ShowsWhole, Some, State, StepsTo, Suits, TellsRefusal, [], answered, ap, appended, apply, are_changed, arith, cases_lt, closed, commit_refusal, committed, cond, false, faultless, first_true, fits_rested, get_or, get_or-append_right, get_or_append_left, granted, held_applied, inl, inr, journal_log, last, length, length-append, length-apply, lent, newest, no_calls, number_of, page_faults, pages_of, recorded, recorded_few, refl, refusal_of, subst, suits_go, sym, true, ℕ, ⊎_elim, ◌++◌, ◌+◌, ◌-◌, ◌<◌, ◌^◌, ◌∙◌, ◌∷◌, ◌≡◌, ◌⊎◌}
use Rattle.rollcore.specs.internal.Commits.{EndAnswer}

-- pages that aren't refused have few records
pub few_records : (old_size page_size : ℕ) (pages : Pages) (size : ℕ) → first_true (page_faults old_size page_size pages size) ≡ None → old_size < 2 ^ 32 → recorded pages old_size size < 2 ^ 64
few_records old_size page_size pages size none few = omega (arith, recorded_few old_size page_size pages size (faultless old_size page_size pages size none))

-- ---- a core in which memory was taken

pub fits_kept : (past : State) (a b : Core) (s : DiskState) → KeepsCore a b → FitsCore past a s → FitsCore past b s
fits_kept past a b s keeps fits = record {
  disk = fits.disk;
  page_size = keeps.page_size ∙ fits.page_size;
  is_open = keeps.is_open ∙ fits.is_open;
  core = λ opened. let was = fits.core (subst (λ (x : Bool). IsTrue x) keeps.is_open opened) in record {
    size = keeps.size ∙ was.size;
    rests = was.rests;
    durable = was.durable;
    record_room = b.record_room ∙ ap (λ (n : ℕ). n + 8) (keeps.page_size ∙ fits.page_size);
    header_room = keeps.header_room ∙ was.header_room;
  };
}

-- ---- refusals

open_true : (b : Bool) → IsTrue b → b ≡ true
open_true true t = refl
open_true false t = absurd (cc t)

module _ (past : State) (core : Core) (s : DiskState) (fits : FitsCore past core s) (pages : Pages) (size : ℕ) (nonces : List ℕ) where
  pub refusal_open : IsTrue core.is_open → commit_refusal past pages size nonces ≡ refusal_of core.size core.page_size pages size (length nonces)
  refusal_open opened =
      ap (λ (b : Bool). cond b (refusal_of (length (newest past.history)) past.page_size pages size (length nonces)) (Some 1)) (sym fits.is_open ∙ open_true core.is_open opened)
      ∙ ap (λ (n : ℕ). refusal_of n past.page_size pages size (length nonces)) (sym (fits.core opened).size)
      ∙ ap (λ (n : ℕ). refusal_of core.size n pages size (length nonces)) (sym fits.page_size)

-- nothing has changed, and this is answered
module _ {T : Type 0} (past : State) (core mid : Core) (s : DiskState) (fits : FitsCore past core s) (keeps : KeepsCore core mid) (pages : Pages) (size : ℕ) (nonces : List ℕ) where
  pub refused_step : (r : Result T RollError) (e : RollError) → r ≡ Err e → (commit_refusal past pages size nonces ≡ Some (number_of e)) ⊎ ((commit_refusal past pages size nonces ≡ None) × (e ≡ NoMemory))
      → StepsTo past (Commits pages size nonces) (answered number_of (λ _. Done) r) mid s s
  refused_step r e is answer = subst (λ (q : Result T RollError). StepsTo past (Commits pages size nonces) (answered number_of (λ _. Done) q) mid s s) (sym is)
      (record {
        next = past;
        same = record { sector = refl; tears = refl; calls = no_calls s };
        refused = omega arith;
        told = λ lt. absurd (omega arith);
        row = ⊎_elim
            (λ found. subst (λ (x : Option ℕ). Refuses x true (closed (appended past pages size)) s.refused s.refused past (number_of e) past) (sym found) (refl, refl))
            (λ want. subst (λ (x : Option ℕ). Refuses x true (closed (appended past pages size)) s.refused s.refused past (number_of e) past) (sym want.0) (inl (refl, ap number_of want.1, refl)))
            answer;
        fits = fits_kept past core mid s keeps fits;
      })

-- ---- a commit that is carried out

module _ (h : List Database) (d : Database) where
  pub more_long : length (h ++ d ∷ []) ≡ length h + 1
  more_long = length-append h (d ∷ [])

  pub more_old : (i : ℕ) → i < length h → get_or (h ++ d ∷ []) i [] ≡ get_or h i []
  more_old i lt = get_or_append_left h (d ∷ []) [] i lt

  pub more_last : get_or (h ++ d ∷ []) (length (h ++ d ∷ []) - 1) [] ≡ d
  more_last =
      ap (λ (i : ℕ). get_or (h ++ d ∷ []) i []) (let e : length (h ++ d ∷ []) - 1 ≡ length h = omega (arith, more_long) in e)
      ∙ more_at
    where
      more_at : get_or (h ++ d ∷ []) (length h) [] ≡ d
      more_at = get_or-append_right h (d ∷ []) (length h) (length h) [] refl (omega arith) ∙ ap (λ (i : ℕ). get_or (d ∷ []) i []) (let e : length h - length h ≡ 0 = omega arith in e)

  pub more_held : (size : ℕ) → ((i : ℕ) → i < length h → IsHeld size (get_or h i [])) → IsHeld size d → (i : ℕ) → i < length (h ++ d ∷ []) → IsHeld size (get_or (h ++ d ∷ []) i [])
  more_held size held new i lt = ⊎_elim
      (λ below. subst (λ (x : Database). IsHeld size x) (sym (more_old i below)) (held i below))
      (λ above. subst (λ (x : Database). IsHeld size x) (sym more_last ∙ ap (λ (j : ℕ). get_or (h ++ d ∷ []) j []) (let e : length (h ++ d ∷ []) - 1 ≡ i = omega (arith, more_long) in e)) new)
      (cases_lt i (length h))

module _ (past : State) (core mid : Core) (s t : DiskState) (fits : FitsCore past core s) (opened : IsTrue core.is_open) (lended : List (ℕ × Bor (List ℕ))) (size : ℕ) (nonces : List ℕ)
    (ready : IsReady lended size (length nonces) core) (keeps : KeepsCore core mid) (goes : Later (MayCommit core.page_size s.sector) s t) where
  abbrev pub pages : Pages
  pages = lent lended

  abbrev pub e : Database
  e = apply (newest past.history) pages size

  count : core.size ≡ length (newest past.history)
  count = (fits.core opened).size

  none : commit_refusal past pages size nonces ≡ None
  none = refusal_open past core s fits pages size nonces opened ∙ ready.granted

  right : IsFaultless (length (newest past.history)) past.page_size pages size
  right = subst (λ (n : ℕ). IsFaultless n past.page_size pages size) count (subst (λ (n : ℕ). IsFaultless core.size n pages size) fits.page_size (granted core.size core.page_size pages size (length nonces) ready.granted))

  end : last past.history < length past.history
  end = let f = fits.disk.floor in omega arith

  pub held_old : IsHeld past.page_size (newest past.history)
  held_old = fits.disk.held (last past.history) end

  held_new : IsHeld past.page_size e
  held_new = held_applied past.page_size (newest past.history) pages size right held_old

  all_held : (i : ℕ) → i < length (past.history ++ e ∷ []) → IsHeld past.page_size (get_or (past.history ++ e ∷ []) i [])
  all_held = more_held past.history e past.page_size fits.disk.held held_new

  suits : Suits past.page_size t
  suits = suits_go past.page_size s t goes fits.disk.suits

  same_disk : IsSameDisk (MayChange (Commits pages size nonces) past.page_size s.sector) s t
  same_disk = record { sector = goes.sector; tears = goes.tears; calls = subst (λ (n : ℕ). HasCalls (MayCommit n s.sector) s t) fits.page_size goes.calls }

  -- it is done
  done : (s.refused < t.refused → ⊥) → (then : Core) → Ends size mid then → Rests past.page_size e t → StepsTo past (Commits pages size nonces) Done then s t
  done calm then ends rests =
      let same : newest (committed past pages size).history ≡ e = more_last past.history e in
      let here = subst (λ (x : Database). Rests past.page_size x t) (sym same) rests in
      let durable : length past.history + 1 ≡ length (past.history ++ e ∷ []) = sym (more_long past.history e) in
      record {
        next = committed past pages size;
        same = same_disk;
        refused = goes.refused;
        told = λ lt. absurd (calm lt);
        row = (none, refl);
        fits = record {
          disk = fits_rested (committed past pages size) t suits durable all_held here;
          page_size = ends.page_size ∙ keeps.page_size ∙ fits.page_size;
          is_open = ends.is_open ∙ keeps.is_open ∙ fits.is_open;
          core = λ still. record {
            size = ends.size_is ∙ sym (length-apply (newest past.history) pages size) ∙ ap (λ (x : Database). length x) (sym same);
            rests = here;
            durable = durable;
            record_room = then.record_room ∙ ap (λ (n : ℕ). n + 8) (ends.page_size ∙ keeps.page_size ∙ fits.page_size);
            header_room = ends.header_room ∙ keeps.header_room ∙ (fits.core opened).header_room ∙ sym goes.sector;
          };
        };
      }

  -- the disk has stopped it
  stopped : (then : Core) → Closes mid then → HadRefusal s t → ShowsEither past.page_size (newest past.history) e t → NamesSectors t → StepsTo past (Commits pages size nonces) (Refused 15) then s t
  stopped then closes had shows sectors = record {
    next = closed (appended past pages size);
    same = same_disk;
    refused = goes.refused;
    told = λ lt. refl;
    row = subst (λ (x : Option ℕ). Refuses x true (closed (appended past pages size)) s.refused t.refused past 15 (closed (appended past pages size))) (sym none) (inr (refl, had, refl));
    fits = record {
      disk = record {
        suits = suits;
        floor = let f = fits.disk.floor in omega (arith, more_long past.history e);
        held = all_held;
        left = λ w may. ⊎_elim
            (λ old. (
              last past.history,
              (let f = fits.disk.floor in omega arith),
              omega (arith, more_long past.history e, end),
              λ db image. subst (λ (x : Database). ShowsWhole journal_log past.page_size db w x) (sym (more_old past.history e (last past.history) end)) (old db image),
            ))
            (λ new. (
              length (past.history ++ e ∷ []) - 1,
              (let f = fits.disk.floor in omega (arith, more_long past.history e)),
              omega (arith, more_long past.history e),
              λ db image. subst (λ (x : Database). ShowsWhole journal_log past.page_size db w x) (sym (more_last past.history e)) (new db image),
            ))
            (shows w may);
        sectors = sectors;
        present = λ opens. absurd (cc opens);
      };
      page_size = closes.page_size ∙ keeps.page_size ∙ fits.page_size;
      is_open = closes.is_open;
      core = λ opens. absurd (cc (opens, closes.is_open));
    };
  }

  -- the pages whose old contents the journal has
  pub changed_here : AreChanged pages (length (newest past.history)) size (pages_of core.changes.items)
  changed_here = are_changed past.page_size (newest past.history) pages size right core.changes.items (subst (λ (n : ℕ). AreChanges pages n size core.changes.items) count ready.changes)

  pub commit_step : {T : Type 0} (put : Result T RollError) (then : Core) → TellsRefusal Device put s t → PutAnswer past.page_size (newest past.history) e put s t → EndAnswer size put mid then
      → StepsTo past (Commits pages size nonces) (answered number_of (λ _. Done) put) then s t
  commit_step (Ok v) then told answer ends = done (λ lt. let e = told lt in cc) then ends answer
  commit_step (Err x) then told answer closes = subst (λ (y : RollError). StepsTo past (Commits pages size nonces) (Refused (number_of y)) then s t) (sym answer.0) (stopped then closes answer.1 answer.2 answer.3)

  pub put_here : (P : ℕ → Database → Type 0) → ((d : Database) → RestsAt core d s → P core.page_size d)
      → P past.page_size (newest past.history)
  put_here P put =
      let is = fits.core opened in
      subst (λ (n : ℕ). P n (newest past.history)) fits.page_size
      (put (newest past.history) (record {
        suits = subst (λ (n : ℕ). Suits n s) (sym fits.page_size) fits.disk.suits;
        held = subst (λ (n : ℕ). IsHeld n (newest past.history)) (sym fits.page_size) held_old;
        size = sym count;
        header_room = is.header_room;
        rests = subst (λ (n : ℕ). Rests n (newest past.history) s) (sym fits.page_size) is.rests;
      }))
