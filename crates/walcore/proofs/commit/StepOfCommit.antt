-- The rows of the machine that a commit takes.
use Rattle.walcore.proofs.Facts.{Bool, Bor, Closes, CommitStep, Commits, Core, Counts, DiskState, Done, Err, FitsCore, FramesAnswer, Going, HadRefusal, IfBegun, IsBehind, IsCore, IsExtended, IsLog, IsReady, IsSoundDisk, IsTrue, KeepsCore, KnowsLog, List, Made, MadeByCommit, Makes, None, Ok, Option, Pages, Past, Planned, PrepareAnswer, Prepares, Refused, Refuses, Result, Some, Stands, StepsTo, WalError, [], answered, ap, apply, arith, closed, commit_refusal, committed, cond, false, few_refusals, fits_closed, fits_new, fits_prepared, frame_end, index_with, inl, inr, knows_same, length, lent, most_frames, ne_eqb, newest, newest_calls, no_calls, number_of, planned, refl, refusal_of, state_new, subst, sym, true, ℕ, ⊎_elim, ◌++◌, ◌+◌, ◌<◌, ◌==◌, ◌^◌, ◌∙◌, ◌∷◌, ◌≡◌, ◌≤◌}
use Rattle.walcore.specs.internal.Commits.{Ends, EndAnswer}

-- what a core judges by is the machine's
refusal_same : (past : Past) (e : List ℕ) (index : ℕ → ℕ) (d c : ℕ) (core : Core) (s : DiskState) → FitsCore past core s → IsCore past e index d c core s → past.state.is_open ≡ true → (pages : Pages) (count : ℕ)
    → commit_refusal past.state pages count ≡ refusal_of core.size core.page_size core.used pages count
refusal_same past e index d c core s fits is opened pages count =
    ap (λ (b : Bool). cond b (refusal_of (length (newest past.state.history)) past.state.page_size past.state.used pages count) (Some 1)) opened
    ∙ ap (λ (k : ℕ). refusal_of k past.state.page_size past.state.used pages count) (sym is.size)
    ∙ ap (λ (k : ℕ). refusal_of core.size k past.state.used pages count) (sym fits.page_size)
    ∙ ap (λ (k : ℕ). refusal_of core.size core.page_size k pages count) (sym is.used)

made_by : (size : ℕ) (pages : Pages) (count : ℕ) (e f : List ℕ) (n : ℕ) (rest logs : List (List ℕ)) (old : Made) → logs ≡ e ∷ rest → IsLog size e n → IsExtended size e n pages count f
    → MadeByCommit size pages count logs old (record { logs = f ∷ rest; unsynced = true })
made_by size pages count e f n rest logs old same log more = subst (λ (x : List (List ℕ)). MadeByCommit size pages count x old (record { logs = f ∷ rest; unsynced = true })) (sym same) (f, n, log, more, refl)

module _ (past : Past) (core mid next : Core) (pages : List (ℕ × Bor (List ℕ))) (count : ℕ) (s t : DiskState) (fits : FitsCore past core s) (opened : IsTrue core.is_open) (ready : IsReady pages count core)
    (counts : Counts (length pages) core mid) (keeps : KeepsCore mid next) (small : count < 2 ^ 32) where
  open_past : past.state.is_open ≡ true
  open_past = sym fits.is_open ∙ opened

  module _ (e : List ℕ) (index : ℕ → ℕ) (d c : ℕ) (is : IsCore past e index d c core s) where
    plan : Planned past e is.newest_log.0 index d c core pages count s
    plan = planned past e is.newest_log.0 index d c core pages count s is is.newest_log.1 ready small

    knows_mid : KnowsLog plan.f core.frames mid s
    knows_mid = knows_same plan.f core.frames core mid s counts.log plan.knows

    more_mid : IsExtended mid.page_size e core.frames (lent pages) count plan.f
    more_mid = subst (λ (x : ℕ). IsExtended x e core.frames (lent pages) count plan.f) (sym counts.log.page_size) plan.more

    page_next : next.page_size ≡ core.page_size
    page_next = keeps.page_size ∙ counts.log.page_size

    stands_then : Going mid.page_size plan.f (core.frames + length (lent pages)) core.frames s t
        → Stands core.page_size (plan.f ∷ is.newest_log.0) plan.f (core.frames + length (lent pages)) (past.state.history ++ apply (newest past.state.history) (lent pages) count ∷ []) (index_with index core.frames (core.frames + length (lent pages)) (length past.state.history)) (core.frames + length (lent pages)) d c t
    stands_then going =
        let first = subst (λ (x : ℕ). Stands x (plan.f ∷ is.newest_log.0) plan.f (core.frames + length (lent pages)) (past.state.history ++ apply (newest past.state.history) (lent pages) count ∷ []) (index_with index core.frames (core.frames + length (lent pages)) (length past.state.history)) (core.frames + length (lent pages)) d c s) (sym counts.log.page_size) plan.stands in
        let then = going.stands (plan.f ∷ is.newest_log.0) (past.state.history ++ apply (newest past.state.history) (lent pages) count ∷ []) (index_with index core.frames (core.frames + length (lent pages)) (length past.state.history)) (core.frames + length (lent pages)) d c first (subst (λ (z : ℕ). IsBehind z d (frame_end z core.frames) s) (sym counts.log.page_size) is.behind) in
        subst (λ (x : ℕ). Stands x (plan.f ∷ is.newest_log.0) plan.f (core.frames + length (lent pages)) (past.state.history ++ apply (newest past.state.history) (lent pages) count ∷ []) (index_with index core.frames (core.frames + length (lent pages)) (length past.state.history)) (core.frames + length (lent pages)) d c t) counts.log.page_size then

    row_made : Makes past.state.page_size s.sector s.tears past.made (Commits (lent pages) count) Done (record { logs = plan.f ∷ is.newest_log.0; unsynced = true })
    row_made = subst (λ (x : ℕ). MadeByCommit x (lent pages) count past.made.logs past.made (record { logs = plan.f ∷ is.newest_log.0; unsynced = true })) fits.page_size
        (made_by core.page_size (lent pages) count e plan.f core.frames is.newest_log.0 past.made.logs past.made is.newest_log.1 is.stands.era.log plan.more)

    granted_row : commit_refusal past.state (lent pages) count ≡ None
    granted_row = refusal_same past e index d c core s fits is open_past (lent pages) count ∙ ready.granted

    done : (then : Core) → t.refused ≡ s.refused → Going mid.page_size plan.f (core.frames + length (lent pages)) core.frames s t → KnowsLog plan.f (core.frames + length (lent pages)) next t → Ends count next then
        → StepsTo past past.tokens (Commits (lent pages) count) Done then s t
    done then quiet going knows ends = record {
      next = state_new past e is.newest_log.0 index d c core pages count s is ready plan fits.page_size true;
      made = record { logs = plan.f ∷ is.newest_log.0; unsynced = true };
      refused = going.refused;
      same = record { sector = going.sector; tears = going.tears; calls = newest_calls mid.page_size past.state.page_size plan.f is.newest_log.0 s t (counts.log.page_size ∙ fits.page_size) going.calls };
      told = λ more. absurd (omega (arith, quiet, more));
      row = (granted_row, ap (λ (b : Bool). state_new past e is.newest_log.0 index d c core pages count s is ready plan fits.page_size b) (sym open_past));
      makes = row_made;
      fits = fits_new past e is.newest_log.0 index d c core pages count s is ready plan fits.page_size t (stands_then going) fits going.sector going.tears next then knows ends.log page_next ends.mark ends.size_is
          (ends.used ∙ keeps.used ∙ counts.used) (ends.unsynced ∙ keeps.unsynced ∙ counts.unsynced) ends.drained (ends.is_open ∙ keeps.is_open ∙ counts.marks.is_open ∙ opened) (ends.marks ∙ keeps.marks ∙ counts.marks.marks);
    }

    failed : (then : Core) → Going mid.page_size plan.f (core.frames + length (lent pages)) core.frames s t → HadRefusal s t → Closes next then
        → StepsTo past past.tokens (Commits (lent pages) count) (Refused 15) then s t
    failed then going had closes = record {
      next = state_new past e is.newest_log.0 index d c core pages count s is ready plan fits.page_size false;
      made = record { logs = plan.f ∷ is.newest_log.0; unsynced = true };
      refused = going.refused;
      same = record { sector = going.sector; tears = going.tears; calls = newest_calls mid.page_size past.state.page_size plan.f is.newest_log.0 s t (counts.log.page_size ∙ fits.page_size) going.calls };
      told = λ more. refl;
      row = subst (λ (x : Option ℕ). Refuses x true (closed (committed past.state (lent pages) count)) s.refused t.refused past.state 15 (state_new past e is.newest_log.0 index d c core pages count s is ready plan fits.page_size false)) (sym granted_row)
          (inr (refl, had, refl));
      makes = row_made;
      fits = fits_closed past e is.newest_log.0 index d c core pages count s is ready plan fits.page_size t (stands_then going) fits then (closes.page_size ∙ page_next) closes.is_open (closes.marks ∙ keeps.marks ∙ counts.marks.marks);
    }

    by : {T : Type 0} → (written : Result T WalError) (then : Core) → FramesAnswer mid.page_size plan.f (core.frames + length (lent pages)) core.frames written next s t → EndAnswer count written next then
        → StepsTo past past.tokens (Commits (lent pages) count) (answered number_of (λ _. Done) written) then s t
    by (Ok u) then answer ends = done then answer.2 answer.0 answer.1 ends
    by (Err x) then answer closes = subst (λ (y : WalError). StepsTo past past.tokens (Commits (lent pages) count) (Refused (number_of y)) then s t) (sym answer.1) (failed then answer.0 answer.2 closes)

  pub commit_step : {T : Type 0} → (written : Result T WalError) (then : Core)
      → ((e f : List ℕ) (n : ℕ) → IsExtended mid.page_size e n (lent pages) count f → n + length (lent pages) ≤ most_frames → KnowsLog f n mid s → FramesAnswer mid.page_size f (n + length (lent pages)) n written next s t)
      → EndAnswer count written next then → StepsTo past past.tokens (Commits (lent pages) count) (answered number_of (λ _. Done) written) then s t
  commit_step written then frames answer =
      let held = fits.core opened in
      let p = plan held.0 held.1 held.2 held.3 held.4 in
      by held.0 held.1 held.2 held.3 held.4 written then (frames held.0 p.f core.frames (more_mid held.0 held.1 held.2 held.3 held.4) p.few (knows_mid held.0 held.1 held.2 held.3 held.4)) answer

-- ---- a commit that is refused

unbegun : (size : ℕ) (k : ℕ) (old : Made) (made : Type 0) → (k ≡ 15 → ⊥) → IfBegun (k == 15) old old made
unbegun size k old made ne = subst (λ (b : Bool). IfBegun b old old made) (sym (ne_eqb k 15 ne)) refl

pub commit_refused : {T : Type 0} → (past : Past) (core mid : Core) (pages : List (ℕ × Bor (List ℕ))) (count : ℕ) (s : DiskState) → FitsCore past core s → IsTrue core.is_open → IsSoundDisk s → Prepares core mid
    → (r : Result T WalError) (error : WalError) → r ≡ Err error → PrepareAnswer {T = T} pages count (Err error) core mid → StepsTo past past.tokens (Commits (lent pages) count) (answered number_of (λ _. Done) r) mid s s
commit_refused {T} past core mid pages count s fits opened sound keeps r error is answer =
    subst (λ (q : Result T WalError). StepsTo past past.tokens (Commits (lent pages) count) (answered number_of (λ _. Done) q) mid s s) (sym is)
    (⊎_elim
    (λ found.
    let row : commit_refusal past.state (lent pages) count ≡ Some (number_of error) = same ∙ found in
    let below : number_of error < 11 = few_refusals past.state (lent pages) count (number_of error) row in
    record {
      next = past.state;
      made = past.made;
      refused = omega arith;
      same = record { sector = refl; tears = refl; calls = no_calls s };
      told = λ more. absurd (omega (arith, more));
      row = subst (λ (x : Option ℕ). Refuses x true (closed (committed past.state (lent pages) count)) s.refused s.refused past.state (number_of error) past.state) (sym row) (refl, refl);
      makes = unbegun past.state.page_size (number_of error) past.made _ (λ z. omega arith);
      fits = fits_prepared past core mid s keeps fits;
    })
    (λ want.
    let row : commit_refusal past.state (lent pages) count ≡ None = same ∙ want.0 in
    record {
      next = past.state;
      made = past.made;
      refused = omega arith;
      same = record { sector = refl; tears = refl; calls = no_calls s };
      told = λ more. absurd (omega (arith, more));
      row = subst (λ (x : WalError). CommitStep past.state (lent pages) count (Refused (number_of x)) s.refused s.refused past.state) (sym want.1)
          (subst (λ (x : Option ℕ). Refuses x true (closed (committed past.state (lent pages) count)) s.refused s.refused past.state 14 past.state) (sym row) (inl (refl, refl, refl)));
      makes = subst (λ (x : WalError). Makes past.state.page_size s.sector s.tears past.made (Commits (lent pages) count) (Refused (number_of x)) past.made) (sym want.1) refl;
      fits = fits_prepared past core mid s keeps fits;
    })
    answer)
  where
    same : commit_refusal past.state (lent pages) count ≡ refusal_of core.size core.page_size core.used (lent pages) count
    same = let h = fits.core opened in refusal_same past h.0 h.1 h.2 h.3 core s fits h.4 (sym fits.is_open ∙ opened) (lent pages) count
