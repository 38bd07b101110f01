-- A reader more, and a reader less.
use Rattle.walcore.proofs.Facts.{AreTogether, Begins, Bool, Core, DiskState, Done, EndStep, Ends, FitsCore, FitsDisk, IsBound, IsBoundary, IsCore, IsTrue, List, None, Option, Past, Reader, ReaderAnswer, Refused, Refuses, SameCore, Some, State, StepsTo, Still, [], ap, arith, at_slot, begun, bound_at, call_refusal, cond, core_same, emptied, ended, first_true, fits_disk_still, get_or, inl, last, length, length-append, length-set, mark_pushed, not, nothing_may, reader_at, refl, same_files, set, slice_get, subst, sym, times, together_map, together_push, together_set, true, ℕ, ◌++◌, ◌+◌, ◌<◌, ◌==◌, ◌∙◌, ◌∷◌, ◌≡◌}
use Rattle.walcore.proofs.machine.FitUnderUnchangedFiles.{stays}

-- ---- a past with other readers

module _ (past : Past) (places : List (Option ℕ)) (tokens : List (Option Reader)) where
  abbrev with_readers : Past
  with_readers = record { state = record past.state { readers = places }; made = past.made; tokens = tokens }

  pub disk_with : (s : DiskState) → FitsDisk past s → FitsDisk with_readers s
  disk_with s fits = record { suits = fits.suits; floor = fits.floor; held = fits.held; made = fits.made; left = fits.left; present = fits.present }

  pub bound_with : (size : ℕ) (e : List ℕ) (index : ℕ → ℕ) (mark c i : ℕ) (r : Reader) → IsBound size e index mark c past.state i r → IsBound size e index mark c (record past.state { readers = places }) i r
  bound_with size e index mark c i r is = record { within = is.within; boundary = is.boundary; begun = is.begun; place = is.place; size_is = is.size_is }

  pub core_with : (e : List ℕ) (index : ℕ → ℕ) (d c : ℕ) (core : Core) (s : DiskState) → IsCore past e index d c core s
      → ((n : ℕ) → AreTogether (IsBound core.page_size e index core.mark c (record past.state { readers = places })) (get_or places n None) (get_or tokens n None)) → IsCore with_readers e index d c core s
  core_with e index d c core s is readers = record {
    newest_log = is.newest_log;
    stands = is.stands;
    floor = is.floor;
    begun = is.begun;
    behind = is.behind;
    present = is.present;
    header = is.header;
    sum = is.sum;
    table = is.table;
    last = is.last;
    room = is.room;
    size = is.size;
    used = is.used;
    few = is.few;
    unsynced = is.unsynced;
    some = is.some;
    drained = is.drained;
    durable = is.durable;
    filed = is.filed;
    readers = readers;
    page = is.page;
  }

-- ---- refusals

pub open_refusal : (s : State) → s.is_open ≡ true → call_refusal s ≡ None
open_refusal s e = ap (λ b. first_true ((not b, 1) ∷ [])) e

pub refuses_memory : {S : Type 0} (o : Option ℕ) (failed s : S) (before after : ℕ) → o ≡ None → Refuses o true failed before after s 14 s
refuses_memory o failed s before after e = subst (λ (x : Option ℕ). Refuses x true failed before after s 14 s) (sym e) (inl (refl, refl, refl))

module _ (a b : Core) (s t : DiskState) (past : Past) (fits : FitsCore past a s) (same : SameCore a b) (still : Still s t) (quiet : t.refused ≡ s.refused) where
  pub begin_memory : a.is_open ≡ true → b.marks.items ≡ a.marks.items → StepsTo past past.tokens Begins (Refused 14) b s t
  begin_memory is marks = stays a b s t same still past Begins (Refused 14) marks fits (λ more. absurd (omega (arith, quiet, more)))
      (refuses_memory (call_refusal past.state) _ past.state _ _ (open_refusal past.state (sym fits.is_open ∙ is))) refl

  bound_new : (e : List ℕ) (index : ℕ → ℕ) (d c : ℕ) (r : Reader) → IsCore past e index d c b t → r.mark ≡ b.mark → r.size ≡ b.size
      → IsBound b.page_size e index b.mark c (begun past.state) (last past.state.history) r
  bound_new e index d c r is mark size =
      let era = is.stands.era in record {
        within = omega arith;
        boundary = subst (λ (m : ℕ). IsBoundary b.page_size e m) (sym mark) era.marked.1;
        begun = omega (arith, is.begun);
        place = ap index mark ∙ omega (arith, era.marked.2, era.last);
        size_is = size ∙ is.size;
      }

  pub begin_done : (r : Reader) → a.is_open ≡ true → b.marks.items ≡ a.marks.items ++ r.mark ∷ [] → r.mark ≡ a.mark → r.size ≡ a.size
      → StepsTo past (past.tokens ++ Some r ∷ []) Begins (ReaderAnswer (length past.state.readers)) b s t
  begin_done r is marks mark size =
      let places : List (Option ℕ) = past.state.readers ++ Some (last past.state.history) ∷ [] in
      let tokens : List (Option Reader) = past.tokens ++ Some r ∷ [] in record {
        next = begun past.state;
        made = past.made;
        same = record { sector = still.sector; tears = still.tears; calls = nothing_may s t still.calls };
        refused = still.refused;
        told = λ more. absurd (omega (arith, quiet, more));
        row = (open_refusal past.state (sym fits.is_open ∙ is), refl, refl);
        makes = refl;
        fits = record {
          disk = disk_with past places tokens t (fits_disk_still s t (same_files s t still) past fits.disk);
          page_size = same.page_size ∙ fits.page_size;
          is_open = same.is_open ∙ fits.is_open;
          core = λ opened.
              let was = fits.core (subst (λ (x : Bool). IsTrue x) same.is_open opened) in
              let now : IsCore past was.0 was.1 was.2 was.3 b t = core_same past was.0 was.1 was.2 was.3 a b s t same (same_files s t still) was.4 in (
                was.0,
                was.1,
                was.2,
                was.3,
                core_with past places tokens was.0 was.1 was.2 was.3 b t now
                    (together_push (IsBound b.page_size was.0 was.1 b.mark was.3 (begun past.state)) past.state.readers past.tokens fits.count
                    (λ n. together_map (IsBound b.page_size was.0 was.1 b.mark was.3 past.state) (IsBound b.page_size was.0 was.1 b.mark was.3 (begun past.state))
                    (λ i x. bound_with past places tokens b.page_size was.0 was.1 b.mark was.3 i x) (reader_at past.state n) (get_or past.tokens n None) (now.readers n))
                    (last past.state.history) r (bound_new was.0 was.1 was.2 was.3 r now (mark ∙ sym same.mark) (size ∙ sym same.size))),
              );
          count = length-append past.tokens (Some r ∷ []) ∙ ap (λ k. k + 1) fits.count ∙ sym (length-append past.state.readers (Some (last past.state.history) ∷ []));
          together = together_push (λ i x. Unit {0}) past.state.readers past.tokens fits.count fits.together (last past.state.history) r tt;
          marks = λ m. ap (times m) marks ∙ mark_pushed a.marks.items past.tokens r fits.marks m;
        };
      }

  pub end_done : (number : ℕ) (r : Reader) → slice_get past.tokens number ≡ Some (Some r) → ((m : ℕ) → times m a.marks.items ≡ times m b.marks.items + cond (r.mark == m) 1 0)
      → StepsTo past (set past.tokens number None) (Ends number) Done b s t
  end_done number r token marks =
      let places : List (Option ℕ) = set past.state.readers number None in
      let tokens : List (Option Reader) = set past.tokens number None in
      let slot = at_slot past.tokens number r token in
      let low : number < length past.state.readers = omega (arith, slot.0, fits.count) in
      let bound = bound_at (λ i x. Unit {0}) (reader_at past.state number) (get_or past.tokens number None) r slot.1 (fits.together number) in record {
        next = ended past.state number;
        made = past.made;
        same = record { sector = still.sector; tears = still.tears; calls = nothing_may s t still.calls };
        refused = still.refused;
        told = λ more. absurd (omega (arith, quiet, more));
        row = subst (λ (p : Option ℕ). EndStep p past.state number Done (ended past.state number)) (sym bound.1) refl;
        makes = refl;
        fits = record {
          disk = disk_with past places tokens t (fits_disk_still s t (same_files s t still) past fits.disk);
          page_size = same.page_size ∙ fits.page_size;
          is_open = same.is_open ∙ fits.is_open;
          core = λ opened.
              let was = fits.core (subst (λ (x : Bool). IsTrue x) same.is_open opened) in
              let now : IsCore past was.0 was.1 was.2 was.3 b t = core_same past was.0 was.1 was.2 was.3 a b s t same (same_files s t still) was.4 in (
                was.0,
                was.1,
                was.2,
                was.3,
                core_with past places tokens was.0 was.1 was.2 was.3 b t now
                    (together_set (IsBound b.page_size was.0 was.1 b.mark was.3 (ended past.state number)) past.state.readers past.tokens fits.count
                    (λ n. together_map (IsBound b.page_size was.0 was.1 b.mark was.3 past.state) (IsBound b.page_size was.0 was.1 b.mark was.3 (ended past.state number))
                    (λ i x. bound_with past places tokens b.page_size was.0 was.1 b.mark was.3 i x) (reader_at past.state n) (get_or past.tokens n None) (now.readers n))
                    number low),
              );
          count = length-set past.tokens number None ∙ (fits.count ∙ sym (length-set past.state.readers number None));
          together = together_set (λ i x. Unit {0}) past.state.readers past.tokens fits.count fits.together number low;
          marks = λ m. let a = emptied past.tokens number m r token in let b = fits.marks m in let x = marks m in omega arith;
        };
      }
