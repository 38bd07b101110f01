-- What an opening leaves to hold: a core over a log without frames, or a disk that shows what it showed.
use Rattle.walcore.proofs.Facts.{AreMade, Core, Database, Device, DiskError, DiskState, Err, Files, FitsAlone, FitsDisk, GivenUpTo, HadRefusal, HasCause, HasMadeHeader, HasNewSalts, HasNoReader, HeaderSteps, IsBegun, IsHeaderOf, IsHeld, IsImage, IsJust, IsLeft, IsNewCore, IsNewLog, IsPresent, IsRecovered, IsSoundDisk, IsSumOf, Later, List, Log, MayBegin, MayChange, MayFold, MayRefuse, NewLog, NoMemory, None, Ok, OpenedTo, Opens, Option, Past, Reader, RecoverAnswer, Result, ShowsHistory, ShowsWhole, Stands, Suits, Sum, Syncs, TellsRefusal, WalError, WalHeader, Writes, [], ap, arith, at_last, begin_shows, begin_stands, false, forgotten, frame_end-zero, fresh_core, get_or, get_or-take, gone, had_refusal, has_mark, header_may, headers_narrow, history_narrows, inl, inr, later_same, later_sync, later_then, later_wider, later_write, left_grown, length, length-take-le, made_begun, map, may_after, narrows_syncs, none_ok, none_open, number_of, opened, present_syncs, present_written, quiet_ok, refl, refusal_after, sound_writes, subst, suc, suits_by, summed, sym, take, tells_header, tells_then, told_err, told_ok, wal_log, written_inside, ℕ, ⊎_elim, ◌+◌, ◌-◌, ◌<◌, ◌∙◌, ◌∷◌, ◌≡◌, ◌≤◌, ◌⊎◌}
use Rattle.std.proofs.Common.{sum_by}
use Rattle.std.proofs.Math.ListN.{get_or-map}

pub same_error : {T : Type 0} (x y : WalError) (r : Result T WalError) → r ≡ Err x → r ≡ Err y → x ≡ y
same_error x y r a b = cc (a, b)

-- ---- the steps of a header

module _ {T : Type 0} (f : List ℕ) (alone : length f ≡ 32) (r : Result T WalError) (s t : DiskState) (sound : IsSoundDisk s) (steps : HeaderSteps f r s t) where
  pub header_later : (logs : List (List ℕ)) → Later (MayBegin (f ∷ logs)) s t
  header_later logs = ⊎_elim
      (λ failed. later_write Log 0 f failed.0 s t (header_may logs f alone) sound failed.3)
      (λ done.
      let mid : Later (MayBegin (f ∷ logs)) s done.0 = later_write Log 0 f (Ok done.1.0) s done.0 (header_may logs f alone) sound done.1.1 in
      later_then s done.0 t mid (later_sync Log done.2.0 done.0 t tt mid.sound done.2.2))
      steps

  pub header_refused : (e : WalError) → r ≡ Err e → (e ≡ Device) × HadRefusal s t
  header_refused e is = ⊎_elim
      (λ failed.
      let was = told_err Device failed.0 r e is failed.2 in
      (was.0, had_refusal failed.0 was.1.0 (0 + length f) s t sound.refused was.1.1 failed.3.within (omega (arith, alone)) failed.3.elsewhere.refused))
      (λ done.
      let mid : Later (MayBegin (f ∷ [])) s done.0 = later_write Log 0 f (Ok done.1.0) s done.0 (header_may [] f alone) sound done.1.1 in
      let was = told_err Device done.2.0 r e is done.2.1 in
      (was.0, refusal_after s done.0 t mid.refused (had_refusal done.2.0 was.1.0 0 done.0 t mid.sound.refused was.1.1 done.2.2.within (omega arith) done.2.2.elsewhere.refused)))
      steps

  -- a step that is done
  pub record HeaderDone (U : Type 0) : Type 0 where
    pub mid : DiskState
    pub first : U
    pub second : U
    pub wrote : Writes Log 0 f (Ok first) s mid
    pub synced : Syncs Log (Ok second) mid t

  pub header_done : (v : T) → r ≡ Ok v → HeaderDone T
  header_done v is = ⊎_elim
      (λ failed. absurd (none_ok Device failed.0 r v failed.1 is failed.2))
      (λ done.
      let was = told_ok Device done.2.0 r v is done.2.1 in
      record { mid = done.0; first = done.1.0; second = was.0; wrote = done.1.1; synced = subst (λ (x : Result T DiskError). Syncs Log x done.0 t) was.1 done.2.2 })
      steps

-- the header is there
pub present_header : {T U : Type 0} {u : T} {v : U} (size : ℕ) (f : List ℕ) (s mid t : DiskState) → length f ≡ 32 → Writes Log 0 f (Ok u) s mid → Syncs Log (Ok v) mid t → IsPresent size f 0 t
present_header {T = T} size f s mid t alone wrote synced = present_syncs size f mid t 0 synced here
  where
    here : IsPresent size f 0 mid
    here = record {
      long = omega (arith, frame_end-zero size, wrote.file.1.len, alone);
      each = λ i lt. present_written Log 0 f s mid wrote i ∙ written_inside s.log 0 f i (omega arith) (omega (arith, frame_end-zero size, alone)) ∙ ap (λ (j : ℕ). get_or f j 0) (let e : i - 0 ≡ i = omega arith in e);
    }

-- ---- a history that is cut

module _ (h : List Database) (k : ℕ) (within : k < length h) where
  cut_long : length (take (k + 1) h) ≡ k + 1
  cut_long = length-take-le (k + 1) h (omega arith)

  cut_at : (i : ℕ) → i < length (take (k + 1) h) → get_or (take (k + 1) h) i [] ≡ get_or h i []
  cut_at i lt = get_or-take (k + 1) h i [] (omega (arith, cut_long))

  cut_last : get_or (take (k + 1) h) (length (take (k + 1) h) - 1) [] ≡ get_or h k []
  cut_last = cut_at (length (take (k + 1) h) - 1) (omega (arith, cut_long)) ∙ ap (λ (i : ℕ). get_or h i []) (let e : length (take (k + 1) h) - 1 ≡ k = omega (arith, cut_long) in e)

  cut_held : (size : ℕ) → ((i : ℕ) → i < length h → IsHeld size (get_or h i [])) → (i : ℕ) → i < length (take (k + 1) h) → IsHeld size (get_or (take (k + 1) h) i [])
  cut_held size held i lt = subst (λ (d : Database). IsHeld size d) (sym (cut_at i lt)) (held i (omega (arith, cut_long)))

  -- what shows a front of it shows it
  cut_shows : (size : ℕ) (logs : List (List ℕ)) (floor : ℕ) (t : DiskState) → ShowsHistory size logs (take (k + 1) h) floor t → ShowsHistory size logs h floor t
  cut_shows size logs floor t shows w may chance =
      let is = shows w may chance in
      (is.0, is.1, omega (arith, is.2, cut_long), λ db image. subst (λ (d : Database). ShowsWhole wal_log size db w d) (cut_at is.0 is.2) (is.3 db image))

-- ---- no reader is open

no_marks : (m : ℕ) (tokens : List (Option Reader)) → sum_by (has_mark m) (none_open tokens) ≡ 0
no_marks m [] = refl
no_marks m (x ∷ xs) = no_marks m xs

length_map : {X Y : Type 0} (y : Y) (xs : List X) → length (map (λ (x : X). y) xs) ≡ length xs
length_map y [] = refl
length_map y (x ∷ xs) = ap suc (length_map y xs)

-- ---- what an opening leaves

module _ (past : Past) (found : Files) (salts : ℕ × ℕ) (s : DiskState) (alone : FitsAlone past s) (new : HasNewSalts past.made.logs salts.0 salts.1) (f : List ℕ) (begun : IsBegun past.state.page_size 0 salts.0 salts.1 f) where
  fits : FitsDisk past s
  fits = alone.disk

  made : AreMade past.state.page_size (f ∷ past.made.logs)
  made = made_begun past.state.page_size 0 salts.0 salts.1 past.made.logs f fits.made begun new

  refusal : (e : WalError) (t : DiskState) → MayRefuse NoMemory Device e s t → (number_of e ≡ 14) ⊎ ((number_of e ≡ 15) × HasCause s.refused t.refused)
  refusal e t may = ⊎_elim (λ none. inl (ap number_of none)) (λ is. inr (ap number_of is.0, is.1)) may

  counts : length (none_open past.tokens) ≡ length (forgotten past.state.readers)
  counts = length_map None past.tokens ∙ alone.count ∙ sym (length_map None past.state.readers)

  pub given_up : (e : WalError) (t : DiskState) → MayRefuse NoMemory Device e s t → (s.refused < t.refused → e ≡ Device) → Later (MayChange (Opens salts found) past.state.page_size (f ∷ past.made.logs)) s t → IsLeft past.state.page_size (f ∷ past.made.logs) past.state.history past.state.floor t → GivenUpTo past salts found e s t
  given_up e t may told later left = record {
    next = gone past.state;
    made = record { logs = f ∷ past.made.logs; unsynced = false };
    same = record { sector = later.sector; tears = later.tears; calls = later.calls };
    refused = later.refused;
    told = told;
    row = (refusal e t may, refl);
    makes = (f, begun, refl);
    fits = record {
      disk = record {
        suits = suits_by past.state.page_size s t fits.suits later.sound later.sector later.tears;
        floor = fits.floor;
        held = fits.held;
        made = made;
        left = left;
        present = λ opens. absurd (cc opens);
      };
      count = counts;
    };
  }

  -- the recovery was refused
  pub unrecovered : (e : WalError) (r : Result ℕ WalError) (t : DiskState) → r ≡ Err e → TellsRefusal Device r s t → RecoverAnswer past found r s t → GivenUpTo past salts found e s t
  unrecovered e r t is told answer =
      let x = subst (λ (y : Result ℕ WalError). RecoverAnswer past found y s t) is answer in
      given_up e t x.1 (λ more. let bad : r ≡ Err Device = told more in same_error e Device r is bad) (later_wider s t (λ change may. inl may) x.0) (left_grown past.state.page_size past.made.logs f past.state.history past.state.floor t begun.alone x.2)

  -- no memory was there at the start
  pub without_memory : (e : WalError) → e ≡ NoMemory → GivenUpTo past salts found e s s
  without_memory e is = given_up e s (inl is) (λ more. absurd (omega (arith, more))) (later_same s fits.suits.sound)
      (left_grown past.state.page_size past.made.logs f past.state.history past.state.floor s begun.alone fits.left)

  -- after the recovery
  module _ (n : ℕ) (r : Result ℕ WalError) (a : DiskState) (was : r ≡ Ok n) (told : TellsRefusal Device r s a) (answer : RecoverAnswer past found r s a) where
    given : Later (MayFold past.state.page_size) s a × IsRecovered past found n a
    given = subst (λ (y : Result ℕ WalError). RecoverAnswer past found y s a) was answer

    is : IsRecovered past found n a
    is = given.1

    suits : Suits past.state.page_size a
    suits = suits_by past.state.page_size s a fits.suits given.0.sound given.0.sector given.0.tears

    some : 1 ≤ length (take (is.place + 1) past.state.history)
    some = omega (arith, cut_long past.state.history is.place is.within)

    file : (db : List ℕ) → IsImage a.sector a.tears a.db db → IsJust past.state.page_size (get_or (take (is.place + 1) past.state.history) (length (take (is.place + 1) past.state.history) - 1) []) db
    file db image = subst (λ (d : Database). IsJust past.state.page_size d db) (sym (cut_last past.state.history is.place is.within)) (is.file db image)

    low : past.state.floor ≤ length (take (is.place + 1) past.state.history) - 1
    low = omega (arith, is.floor, cut_long past.state.history is.place is.within)

    begins : {T : Type 0} (called : Result T DiskError) (t : DiskState) → Writes Log 0 f called a t
        → ShowsHistory past.state.page_size (f ∷ past.made.logs) (take (is.place + 1) past.state.history) past.state.floor t × HasMadeHeader (f ∷ past.made.logs) t
    begins called t wrote = begin_shows past.state.page_size past.made.logs (take (is.place + 1) past.state.history) a t suits is.durable some file f begun.alone called wrote past.state.floor low

    left_cut : (t : DiskState) → ShowsHistory past.state.page_size (f ∷ past.made.logs) (take (is.place + 1) past.state.history) past.state.floor t × HasMadeHeader (f ∷ past.made.logs) t
        → IsLeft past.state.page_size (f ∷ past.made.logs) past.state.history past.state.floor t
    left_cut t both = inl (cut_shows past.state.history is.place is.within past.state.page_size (f ∷ past.made.logs) past.state.floor t both.0, both.1)

    header_left : {T : Type 0} (q : Result T WalError) (t : DiskState) → HeaderSteps f q a t → IsLeft past.state.page_size (f ∷ past.made.logs) past.state.history past.state.floor t
    header_left q t steps = ⊎_elim
        (λ failed. left_cut t (begins failed.0 t failed.3))
        (λ done.
        let on = sound_writes Log 0 f (Ok done.1.0) a done.0 suits.sound done.1.1 in
        let both = begins (Ok done.1.0) done.0 done.1.1 in
        let narrows = narrows_syncs wal_log Log done.2.0 done.0 t on done.2.2 in
        left_cut t (
          history_narrows done.0 t narrows past.state.page_size (f ∷ past.made.logs) (take (is.place + 1) past.state.history) past.state.floor both.0,
          headers_narrow done.0 t narrows (f ∷ past.made.logs) both.1,
        ))
        steps

    later_header : {T : Type 0} (q : Result T WalError) (t : DiskState) → HeaderSteps f q a t → Later (MayChange (Opens salts found) past.state.page_size (f ∷ past.made.logs)) s t
    later_header q t steps = later_then s a t (later_wider s a (λ change may. inl may) given.0)
        (later_wider a t (λ change may. inr may) (header_later f begun.alone q a t suits.sound steps past.made.logs))

    -- the header tells of a refused call, since none was before it
    header_tells : {T : Type 0} (q : Result T WalError) (t : DiskState) → HeaderSteps f q a t → TellsRefusal Device q s t
    header_tells q t steps = tells_then Device q s a t (quiet_ok Device r n s a was told) (tells_header f q a t steps)

    -- the header was refused
    pub unbegun : {T : Type 0} (e : WalError) (q : Result T WalError) (t : DiskState) → q ≡ Err e → HeaderSteps f q a t → GivenUpTo past salts found e s t
    unbegun e q t refused steps = given_up e t
        (may_after NoMemory Device e s a t given.0.refused (inr (header_refused f begun.alone q a t suits.sound steps e refused)))
        (λ more. let bad : q ≡ Err Device = header_tells q t steps more in same_error e Device q refused bad)
        (later_header q t steps)
        (header_left q t steps)

    -- it is durable
    module _ {T : Type 0} (v : T) (q : Result T WalError) (t : DiskState) (ok : q ≡ Ok v) (steps : HeaderSteps f q a t) where
      done : HeaderDone f begun.alone q a t suits.sound steps T
      done = header_done f begun.alone q a t suits.sound steps v ok

      all : Later (MayChange (Opens salts found) past.state.page_size (f ∷ past.made.logs)) s t
      all = later_header q t steps

      stands : Stands past.state.page_size (f ∷ past.made.logs) f 0 (take (is.place + 1) past.state.history) (at_last (take (is.place + 1) past.state.history)) 0 0 0 t
      stands = begin_stands past.state.page_size past.made.logs (take (is.place + 1) past.state.history) a done.mid t suits fits.made some (cut_held past.state.history is.place is.within past.state.page_size fits.held) file
          0 salts.0 salts.1 f begun new done.wrote done.synced

      present : IsPresent past.state.page_size f 0 t
      present = present_header past.state.page_size f a done.mid t begun.alone done.wrote done.synced

      abbrev after : Past
      after = record { state = opened past.state is.place; made = record { logs = f ∷ past.made.logs; unsynced = false }; tokens = none_open past.tokens }

      none : HasNoReader after
      none = record {
        readers = λ number. get_or-map (λ x. None) past.state.readers number None;
        tokens = λ number. get_or-map (λ x. None) past.tokens number None;
        marks = λ m. no_marks m past.tokens;
        count = counts;
      }

      pub opened_to : (l : NewLog) (core : Core) → IsNewCore past.state.page_size n l core → IsHeaderOf f core.header → IsSumOf core.header.order (summed past.state.page_size f 0) core.sum → OpenedTo past salts found core s t
      opened_to l core is_new header sum = record {
        next = opened past.state is.place;
        made = record { logs = f ∷ past.made.logs; unsynced = false };
        same = record { sector = all.sector; tears = all.tears; calls = all.calls };
        refused = all.refused;
        told = λ more. absurd (quiet_ok Device q v s t ok (header_tells q t steps) more);
        row = (is.place, is.floor, is.within, is.shown, is.newest, refl);
        makes = (f, begun, refl);
        fits = fresh_core after f t (omega (arith, cut_long past.state.history is.place is.within)) stands present past.made.logs refl refl refl refl refl none
            n (is.count ∙ ap (λ (d : Database). length d) (sym (cut_last past.state.history is.place is.within))) l core is_new header sum;
      }

-- the same of a core that was made for the log
module _ (past : Past) (found : Files) (salts : ℕ × ℕ) (s : DiskState) (alone : FitsAlone past s) (new : HasNewSalts past.made.logs salts.0 salts.1) (size : ℕ) (same : past.state.page_size ≡ size) (l : NewLog) (log : IsNewLog size 0 salts.0 salts.1 l) where
  pub begun_here : IsBegun past.state.page_size 0 salts.0 salts.1 l.bytes
  begun_here = subst (λ (n : ℕ). IsBegun n 0 salts.0 salts.1 l.bytes) (sym same) log.begun

  pub opened_here : {T : Type 0} (n : ℕ) (r : Result ℕ WalError) (a : DiskState) → r ≡ Ok n → TellsRefusal Device r s a → RecoverAnswer past found r s a → (v : T) (q : Result T WalError) (t : DiskState) → q ≡ Ok v → HeaderSteps l.bytes q a t
      → (core : Core) → IsNewCore l.header.page_size n l core → OpenedTo past salts found core s t
  opened_here n r a was told answer v q t ok steps core held =
      let here = subst (λ (k : ℕ). IsNewCore k n l core) (log.page_size ∙ sym same) held in
      opened_to past found salts s alone new l.bytes begun_here n r a was told answer v q t ok steps l core here
      (subst (λ (h : WalHeader). IsHeaderOf l.bytes h) (sym held.header) log.header)
      (subst (λ (h : WalHeader). IsSumOf h.order (summed past.state.page_size l.bytes 0) core.sum) (sym held.header)
      (subst (λ (x : Sum). IsSumOf l.header.order (summed past.state.page_size l.bytes 0) x) (sym held.sum)
      (subst (λ (k : ℕ). IsSumOf l.header.order (summed k l.bytes 0) l.sum) (sym same) log.sum)))
