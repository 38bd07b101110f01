-- What a read answers is what the newest database has.
use Rattle.rollcore.proofs.Below.{Act, Answer, BadLength, Closed, Core, Db, Device, DiskState, Err, FitsCore, FitsDisk, IfErr, IsCore, IsSoundDisk, List, None, Ok, Page, PageAboveSize, PlaceAnswer, ReadAnswers, ReadJudged, Reads, Refused, Rests, Result, RollError, SameFiles, Some, State, Step, StepsTo, Still, TellsRefusal, answered, ap, arith, byte, calls_wider, down_by, false, get_or, history_narrows, image_present, image_same, is_above, is_closed, is_zero, journal_log, length, longest, mul-le-mul_right, narrows_same, newest, none_above, number_of, page, page_by_bytes, page_end, present_byte, present_in, present_list, read_refusal, refl, refuses_cause, refuses_first, same_files, same_sound, sectors_narrow, still, subst, suits_by, sym, table, ℕ, ◌*◌, ◌+◌, ◌-◌, ◌<◌, ◌∙◌, ◌≡◌, ◌≤◌}
use Rattle.rollcore.specs.declared.error.RollError.TheVariants.{PageZero}

-- ---- what fits a core still fits after calls that change nothing

pub rests_still : (size : ℕ) (d : List (List ℕ)) (s t : DiskState) → SameFiles s t → Rests size d s → Rests size d t
rests_still size d s t is rests = record {
  file = λ db image. rests.file db (image_same s t is db image);
  log = (rests.log.0, down_by rests.log.0 s t rests.log.1 is.log is.tears is.kept is.handed, rests.log.2);
}

pub fits_disk_still : (past : State) (s t : DiskState) → SameFiles s t → FitsDisk past s → FitsDisk past t
fits_disk_still past s t is fits = record {
  suits = suits_by past.page_size s t fits.suits (same_sound s t fits.suits.sound is) is.sector is.tears;
  floor = fits.floor;
  held = fits.held;
  left = history_narrows s t (narrows_same journal_log s t is) past.page_size past.history past.floor fits.left;
  sectors = sectors_narrow s t (narrows_same journal_log s t is) fits.sectors;
  present = λ opens files are. fits.present opens files (record { db = present_in t.db s.db files.db (sym is.db) are.db; log = present_in t.log s.log files.log (sym is.log) are.log });
}

pub fits_still : (past : State) (core : Core) (s t : DiskState) → SameFiles s t → FitsCore past core s → FitsCore past core t
fits_still past core s t is fits = record {
  disk = fits_disk_still past s t is fits.disk;
  page_size = fits.page_size;
  is_open = fits.is_open;
  core = λ opens. let held = fits.core opens in record { size = held.size; rests = rests_still past.page_size (newest past.history) s t is held.rests; durable = held.durable; record_room = held.record_room; header_room = held.header_room ∙ sym is.sector };
}

-- a row of the machine that doesn't step
pub stays : (past : State) (core : Core) (s t : DiskState) → Still s t → FitsCore past core s → (act : Act) (answer : Answer) → (s.refused < t.refused → answer ≡ Refused 15) → Step past act answer s.refused t.refused past → StepsTo past act answer core s t
stays past core s t is fits act answer told step = record { next = past; same = record { sector = is.sector; tears = is.tears; calls = calls_wider (λ change none. absurd none) s t is.calls }; refused = is.refused; told = told; row = step; fits = fits_still past core s t (same_files s t is) fits }

-- ---- the rows of the machine

module _ (past : State) (core : Core) (s : DiskState) (fits : FitsCore past core s) (p : ℕ) where
  -- refused before the disk is asked
  judged : {T : Type 0} (U : Type 0) (out : List ℕ) (room : ℕ) (result : Result T RollError) (e : RollError) → IsSoundDisk s → result ≡ Err e → room ≡ past.page_size → ReadJudged {T = U} core p room (Err e)
      → StepsTo past (Reads p) (answered number_of (λ (v : T). Page out) result) core s s
  unfolding ReadJudged
  judged {T = T} U out room result e sound was full bad = subst (λ (x : Result T RollError). StepsTo past (Reads p) (answered number_of (λ (v : T). Page out) x) core s s) (sym was) (by e bad)
    where
      same : Still s s
      same = still s sound

      step : (n : ℕ) → read_refusal past p ≡ Some n → StepsTo past (Reads p) (Refused n) core s s
      step n e = stays past core s s same fits (Reads p) (Refused n) (λ lt. absurd (omega arith)) (refuses_first (read_refusal past p) n false past past s.refused s.refused e)

      by : (e : RollError) → ReadJudged {T = U} core p room (Err e) → StepsTo past (Reads p) (Refused (number_of e)) core s s
      by Closed shut = step 1 (is_closed past.is_open p (length (newest past.history)) (sym fits.is_open ∙ shut))
      by PageZero zero = step 4 (is_zero past.is_open p (length (newest past.history)) (sym fits.is_open ∙ zero.0) zero.1)
      by PageAboveSize above = step 5 (is_above past.is_open p (length (newest past.history)) (sym fits.is_open ∙ above.0) above.1 (omega (arith, above.2, (fits.core above.0).size)))
      by BadLength other = absurd (other.3 (full ∙ sym fits.page_size))
      by _ none = absurd none

  pub read_judged : {T U : Type 0} (out : List ℕ) (room : ℕ) (was : Result U RollError) (result : Result T RollError) (e : RollError) → IsSoundDisk s → was ≡ Err e → result ≡ Err e → room ≡ past.page_size
      → ReadJudged core p room was → StepsTo past (Reads p) (answered number_of (λ (v : T). Page out) result) core s s
  read_judged {T = T} {U = U} out room was result e sound is_was is full bad = judged {T = T} U out room result e sound is full
      (subst (λ (x : Result U RollError). ReadJudged core p room x) is_was bad)

  -- read from the file, where the page stands
  module _ (room : ℕ) (full : room ≡ past.page_size) (good : ReadJudged {T = Unit {0}} core p room (Ok tt)) (place : ℕ) (at_place : place ≡ (p - 1) * room) (out : List ℕ) (long : length out ≡ room) (t : DiskState) where
    held : IsCore past core s
    unfolding ReadJudged
    held = fits.core good.0

    low : (1 ≤ p) × (p ≤ length (newest past.history))
    unfolding ReadJudged
    low = (good.1, omega (arith, good.2, held.size))

    none : read_refusal past p ≡ None
    unfolding ReadJudged
    none = none_above past.is_open p (length (newest past.history)) (sym fits.is_open ∙ good.0) low.0 low.1

    now : List ℕ
    now = table s.db.len (byte s.db)

    the_page : ((j : ℕ) → j < length out → get_or out j 0 ≡ byte s.db (place + j)) → out ≡ page (newest past.history) p
    unfolding now
    the_page bytes =
        page_by_bytes past.page_size now p out (long ∙ full)
        (λ j lt. present_byte s.db now (present_list s.db) ((p - 1) * past.page_size + j) ∙ ap (λ (n : ℕ). byte s.db ((p - 1) * n + j)) (sym full) ∙ ap (λ (n : ℕ). byte s.db (n + j)) (sym at_place) ∙ sym (bytes j (omega (arith, long, full))))
        ∙ sym ((held.rests.file now (image_present s.sector s.tears s.db fits.disk.suits.sound.db)).each p low.0 low.1)

    within : place + length out ≤ longest
    within =
        let few = (fits.disk.held (length past.history - 1) (let f = fits.disk.floor in omega arith)).few in
        let end : p * past.page_size ≤ length (newest past.history) * past.page_size = mul-le-mul_right past.page_size low.1 in
        let here : place ≡ (p - 1) * past.page_size = at_place ∙ ap (λ (n : ℕ). (p - 1) * n) full in
        omega (arith, few, end, here, page_end past.page_size p low.0, long, full)

    pub read_file : {T : Type 0} (result : Result T RollError) → TellsRefusal Device result s t → PlaceAnswer Device Db place out result s t → StepsTo past (Reads p) (answered number_of (λ (v : T). Page out) result) core s t
    unfolding PlaceAnswer
    read_file (Ok v) told answer = stays past core s t answer.0 fits (Reads p) (Page out) (λ lt. absurd (let e = told lt in cc)) (none, the_page answer.1, refl)
    read_file {T = T} (Err x) told answer = subst (λ (y : RollError). StepsTo past (Reads p) (Refused (number_of y)) core s t) (sym answer.1)
        (stays past core s t answer.0 fits (Reads p) (Refused 15) (λ lt. refl) (refuses_cause (read_refusal past p) past past s.refused t.refused none (answer.2 within)))

-- whatever the disk does
pub refused_answer : {T U D : Type 0} (core : Core) (p room : ℕ) (was : Result U RollError) (result : Result T RollError) (e : RollError) (d : D) → was ≡ Err e → result ≡ Err e
    → ReadJudged core p room was → ReadAnswers core p room result d d
unfolding ReadJudged
refused_answer {T = T} {U = U} core p room was result e d is_was is bad = subst (λ (x : Result T RollError). ReadAnswers core p room x d d) (sym is)
    (by e (subst (λ (x : Result U RollError). ReadJudged core p room x) is_was bad))
  where
    by : (e : RollError) → ReadJudged {T = U} core p room (Err e) → ReadAnswers {T = T} core p room (Err e) d d
    by Device h = absurd h
    by _ h = (h, refl)

pub read_answer : {T D : Type 0} (core : Core) (p room : ℕ) (was : Result (Unit {0}) RollError) (v : Unit {0}) (result : Result T RollError) (a b : D) → was ≡ Ok v → IfErr result (λ e. e ≡ Device)
    → ReadJudged core p room was → ReadAnswers core p room result a b
unfolding ReadJudged
read_answer {T = T} core p room was v result a b is device good = by result device
  where
    granted : ReadJudged {T = Unit {0}} core p room (Ok tt)
    granted = subst (λ (x : Result (Unit {0}) RollError). ReadJudged core p room x) is good

    by : (r : Result T RollError) → IfErr r (λ e. e ≡ Device) → ReadAnswers core p room r a b
    by (Ok done) h = granted
    by (Err e) h = subst (λ (x : RollError). ReadAnswers {T = T} core p room (Err x) a b) (sym h) granted
