-- What a reader is given is what its database has.
use Rattle.walcore.proofs.Facts.{Answer, BadLength, Bool, Closed, Core, Database, Db, Device, DiskState, Err, File, Finds, FitsCore, FrameTable, IsBound, IsBoundary, IsCore, IsImage, IsIndexed, IsLast, IsNewest, IsPresent, IsSoundDisk, IsTable, IsTrue, List, Log, None, Ok, OnErr, Option, Page, PageAboveSize, PageZero, Past, PlaceAnswer, ReadStep, Reader, Reads, Refused, Result, SameCore, Some, Stands, StepsTo, Still, TellsRefusal, Unnamed, WalError, answered, ap, arith, at, at_slot, bound_at, byte, content_of, drop, false, file_page, frame_at, frame_at-end, frame_end, frame_end-le, get_or, get_or-drop, get_or-take, hit_last, hit_none, image_present, inl, is_above, is_closed, is_zero, length, length-drop, length-take-le, longest, none_above, number_of, of, page, page_by_bytes, page_fits, present_byte, present_list, quiet_ok, read_refusal, reader_at, refl, refuses_cause, refuses_first, same_core, same_number_lists, shown, slice_get, subst, sym, table, take, ℕ, ◌*◌, ◌+◌, ◌-◌, ◌<◌, ◌∙◌, ◌≡◌, ◌≤◌}
use Rattle.walcore.specs.Paging.{ReadAnswer}
use Rattle.walcore.proofs.machine.FitUnderUnchangedFiles.{stays}

-- ---- where a page of a reader stands

-- a table of all frames finds those up to any of them
pub table_upto : (size : ℕ) (e : List ℕ) (n m count : ℕ) (t : FrameTable) → IsIndexed size e n t → m ≤ n → IsTable size count e m t
table_upto size e n m count t is le = record {
  long = omega (arith, is.count);
  finds = λ i p a b one low names. (is.each i a (omega arith)).0 ∙ names;
  found = λ i p a b one low names. sym (is.each i a (omega arith)).0 ∙ names;
}

module _ (size : ℕ) (logs : List (List ℕ)) (e : List ℕ) (n : ℕ) (h : List Database) (index : ℕ → ℕ) (mark d c : ℕ) (s : DiskState) (stands : Stands size logs e n h index mark d c s)
    (m p : ℕ) (ends : IsBoundary size e m) (to : m ≤ n) (one : 1 ≤ p) (le : p ≤ length (shown h index m)) where
  -- in a frame of the log
  pub logged_page : (i : ℕ) → IsLast size e m p i → page (shown h index m) p ≡ content_of size e i
  logged_page i last = (stands.era.shows m to ends).logged p i one le last

  -- or in the file, if no checkpoint went beyond
  pub other_page : c ≤ m → Unnamed size e m p → (db : List ℕ) → IsImage s.sector s.tears s.db db → page (shown h index m) p ≡ file_page size db p
  other_page from un db image =
      let grows = stands.era.grows in
      (stands.era.shows m to ends).other p one le un
      ∙ (stands.file db image).rest p one (grows 0 m p (omega arith) to (inl refl) ends one le (λ i a b. un i (omega arith) b)) (grows c m p from to stands.marks.begun_ends ends one le (λ i a b. un i (omega arith) b))
      (λ i a b. un i a (omega arith))

-- the content of a frame, read
frame_place : (size i : ℕ) → frame_at size i + 24 ≡ 32 + (i - 1) * (24 + size) + 24
unfolding frame_at
frame_place size i = refl

pub read_frame : (size : ℕ) (e : List ℕ) (n i place : ℕ) (s : DiskState) (out : List ℕ) → IsPresent size e n s → frame_end size n ≤ length e → 1 ≤ i → i ≤ n → place ≡ 32 + (i - 1) * (24 + size) + 24 → length out ≡ size
    → ((j : ℕ) → j < length out → get_or out j 0 ≡ byte s.log (place + j)) → out ≡ content_of size e i
read_frame size e n i place s out present fits one le same long bytes =
    let here : frame_at size i + 24 ≡ place = frame_place size i ∙ sym same in
    let end : place + size ≤ frame_end size n = omega (arith, here, frame_at-end size i one, frame_end-le size i n le) in
    let rest : length (take size (drop place e)) ≡ size = length-take-le size (drop place e) (omega (arith, length-drop place e)) in
    same_number_lists out (take size (drop place e)) (long ∙ sym rest)
    (λ j lt. bytes j lt ∙ present.each (place + j) (omega arith) ∙ sym (get_or-take size (drop place e) j 0 (omega arith) ∙ get_or-drop place e j 0))
    ∙ ap (λ (x : ℕ). take size (drop x e)) (sym here)

pub frame_within : (size : ℕ) (e : List ℕ) (n i place : ℕ) (s : DiskState) → IsPresent size e n s → IsSoundDisk s → 1 ≤ i → i ≤ n → place ≡ 32 + (i - 1) * (24 + size) + 24 → place + size ≤ longest
frame_within size e n i place s present sound one le same =
    omega (arith, frame_place size i, same, frame_at-end size i one, frame_end-le size i n le, present.long, sound.log.greatest, sound.log.within)

-- a page of the file, read
pub read_file : (size p place : ℕ) (s : DiskState) (out : List ℕ) → place ≡ (p - 1) * size → length out ≡ size → ((j : ℕ) → j < length out → get_or out j 0 ≡ byte s.db (place + j))
    → out ≡ file_page size (table s.db.len (byte s.db)) p
read_file size p place s out same long bytes =
    let db : List ℕ = table s.db.len (byte s.db) in
    page_by_bytes size db p out long
    (λ j lt. present_byte s.db db (present_list s.db) ((p - 1) * size + j) ∙ sym (bytes j (omega arith) ∙ ap (λ (x : ℕ). byte s.db (x + j)) same))

-- ---- the rows of the machine

-- what a read answers, that was refused before the disk was asked, or that asked it
pub read_unasked : {T U : Type 0} (is_open : Bool) (page size room page_size : ℕ) (was : Result U WalError) (result : Result T WalError) (e : WalError) → was ≡ Err e → result ≡ Err e
    → ReadAnswer is_open page size room page_size was → ReadAnswer is_open page size room page_size result
read_unasked {T = T} {U = U} is_open page size room page_size was result e is_was is bad =
    subst (λ (x : Result T WalError). ReadAnswer is_open page size room page_size x) (sym is) (let same = subst (λ (x : Result U WalError). ReadAnswer is_open page size room page_size x) is_was bad in same)

pub read_asked : {T U : Type 0} (is_open : Bool) (page size room page_size : ℕ) (was : Result U WalError) (v : U) (result : Result T WalError) → was ≡ Ok v → ReadAnswer is_open page size room page_size was → OnErr result (result ≡ Err Device)
    → ReadAnswer is_open page size room page_size result
read_asked {U = U} is_open page size room page_size was v (Ok x) is good refused = let same = subst (λ (y : Result U WalError). ReadAnswer is_open page size room page_size y) is good in same
read_asked {T = T} {U = U} is_open page size room page_size was v (Err e) is good refused =
    let same = subst (λ (y : Result U WalError). ReadAnswer is_open page size room page_size y) is good in
    subst (λ (x : Result T WalError). ReadAnswer is_open page size room page_size x) (sym refused) same

module _ (a b : Core) (s t : DiskState) (past : Past) (fits : FitsCore past a s) (same : SameCore a b) (marks : b.marks.items ≡ a.marks.items)
    (number : ℕ) (r : Reader) (token : slice_get past.tokens number ≡ Some (Some r)) (p : ℕ) where
  -- the reader's place
  place_of : (i : ℕ) × (reader_at past.state number ≡ Some i)
  place_of =
      let bound = bound_at (λ i x. Unit {0}) (reader_at past.state number) (get_or past.tokens number None) r (at_slot past.tokens number r token).1 (fits.together number) in
      (bound.0, bound.1)

  -- and what it is bound to, while the core is open
  bound_of : (e : List ℕ) (index : ℕ → ℕ) (d c : ℕ) → IsCore past e index d c a s → (i : ℕ) × (reader_at past.state number ≡ Some i) × IsBound a.page_size e index a.mark c past.state i r
  bound_of e index d c core = bound_at (IsBound a.page_size e index a.mark c past.state) (reader_at past.state number) (get_or past.tokens number None) r (at_slot past.tokens number r token).1 (core.readers number)

  step_at : (i : ℕ) (answer : Answer) → reader_at past.state number ≡ Some i → Still s t → (s.refused < t.refused → answer ≡ Refused 15) → ReadStep (Some i) past.state p answer s.refused t.refused past.state → StepsTo past past.tokens (Reads number p) answer b s t
  step_at i answer e still told step = stays a b s t same still past (Reads number p) answer marks fits told
      (subst (λ (o : Option ℕ). ReadStep o past.state p answer s.refused t.refused past.state) (sym e) step) refl

  -- refused before the disk is asked
  judged : {T : Type 0} (out : List ℕ) (room : ℕ) (result : Result T WalError) (e : WalError) → Still s t → (s.refused < t.refused → ⊥) → result ≡ Err e → (e ≡ Device → ⊥) → room ≡ past.state.page_size → ReadAnswer {T = T} a.is_open p r.size room a.page_size (Err e)
      → StepsTo past past.tokens (Reads number p) (answered number_of (λ (v : T). Page out) result) b s t
  judged {T = T} out room result e still quiet was never full bad = subst (λ (x : Result T WalError). StepsTo past past.tokens (Reads number p) (answered number_of (λ (v : T). Page out) x) b s t) (sym was) (by e never bad)
    where
      by : (e : WalError) → (e ≡ Device → ⊥) → ReadAnswer {T = T} a.is_open p r.size room a.page_size (Err e) → StepsTo past past.tokens (Reads number p) (Refused (number_of e)) b s t
      by Closed never shut =
          let i = place_of in
          step_at i.0 (Refused 1) i.1 still (λ more. absurd (quiet more)) (refuses_first (read_refusal past.state i.0 p) 1 false past.state past.state s.refused t.refused (is_closed past.state.is_open p (length (at past.state.history i.0)) (sym fits.is_open ∙ shut)))
      by PageZero never zero =
          let i = place_of in
          step_at i.0 (Refused 4) i.1 still (λ more. absurd (quiet more)) (refuses_first (read_refusal past.state i.0 p) 4 false past.state past.state s.refused t.refused (is_zero past.state.is_open p (length (at past.state.history i.0)) (sym fits.is_open ∙ zero.0) zero.1))
      by PageAboveSize never above =
          let core = fits.core above.0 in
          let i = bound_of core.0 core.1 core.2 core.3 core.4 in
          step_at i.0 (Refused 5) i.1 still (λ more. absurd (quiet more)) (refuses_first (read_refusal past.state i.0 p) 5 false past.state past.state s.refused t.refused
          (is_above past.state.is_open p (length (at past.state.history i.0)) (sym fits.is_open ∙ above.0) above.1 (omega (arith, above.2, i.2.size_is))))
      by BadLength never other = absurd (other.3 (full ∙ sym fits.page_size))
      by Device never asked = absurd (never refl)
      by _ never none = absurd none

  pub read_judged : {T U : Type 0} (out : List ℕ) (room : ℕ) (was : Result U WalError) (result : Result T WalError) (e : WalError) → Still s t → (s.refused < t.refused → ⊥) → was ≡ Err e → result ≡ Err e → (was ≡ Err Device → ⊥) → room ≡ past.state.page_size
      → ReadAnswer a.is_open p r.size room a.page_size was → StepsTo past past.tokens (Reads number p) (answered number_of (λ (v : T). Page out) result) b s t
  read_judged {U = U} out room was result e still quiet is_was is never full bad = judged out room result e still quiet is (λ same. never (is_was ∙ ap Err same)) full (subst (λ (x : Result U WalError). ReadAnswer a.is_open p r.size room a.page_size x) is_was bad)

  -- read from a place where the page stands
  read_by : {T : Type 0} (f : File) (place : ℕ) (out : List ℕ) (result : Result T WalError) (i : ℕ) → reader_at past.state number ≡ Some i → read_refusal past.state i p ≡ None → PlaceAnswer Device f place out result s t → TellsRefusal Device result s t
      → (((j : ℕ) → j < length out → get_or out j 0 ≡ byte (of f s) (place + j)) → out ≡ page (at past.state.history i) p) → place + length out ≤ longest
      → StepsTo past past.tokens (Reads number p) (answered number_of (λ (v : T). Page out) result) b s t
  unfolding PlaceAnswer
  read_by f place out (Ok v) i e none answer told good within = step_at i (Page out) e answer.0 (λ more. absurd (quiet_ok Device (Ok v) v s t refl told more)) (none, good answer.1, refl)
  read_by {T = T} f place out (Err x) i e none answer told good within = subst (λ (y : WalError). StepsTo past past.tokens (Reads number p) (Refused (number_of y)) b s t) (sym answer.1)
      (step_at i (Refused 15) e answer.0 (λ more. refl) (refuses_cause (read_refusal past.state i p) past.state past.state s.refused t.refused none (answer.2 within)))

  module _ (room : ℕ) (full : room ≡ past.state.page_size) (good : ReadAnswer {T = Unit {0}} a.is_open p r.size room a.page_size (Ok tt)) (frame : ℕ) (hit : IsNewest a.index.pages p r.mark frame) where
    abbrev size : ℕ
    size = a.page_size

    page_in : (e : List ℕ) (index : ℕ → ℕ) (d c i : ℕ) → IsBound size e index a.mark c past.state i r → shown past.state.history index r.mark ≡ at past.state.history i
    page_in e index d c i bound = ap (λ (k : ℕ). at past.state.history k) bound.place

    pub read_from_file : {T : Type 0} (place : ℕ) (out : List ℕ) (result : Result T WalError) → frame ≡ 0 → place ≡ (p - 1) * room → length out ≡ room → PlaceAnswer Device Db place out result s t → TellsRefusal Device result s t
        → StepsTo past past.tokens (Reads number p) (answered number_of (λ (v : T). Page out) result) b s t
    read_from_file place out result zero same_place long answer told =
        let core = fits.core good.0 in
        let is : IsCore past core.0 core.1 core.2 core.3 a s = core.4 in
        let i = bound_of core.0 core.1 core.2 core.3 is in
        let bound : IsBound size core.0 core.1 a.mark core.3 past.state i.0 r = i.2 in
        let here = page_in core.0 core.1 core.2 core.3 i.0 bound in
        let low : p ≤ length (at past.state.history i.0) = omega (arith, good.2, bound.size_is) in
        let low_shown : p ≤ length (shown past.state.history core.1 r.mark) = subst (λ (x : Database). p ≤ length x) (sym here) low in
        let to : r.mark ≤ a.frames = omega (arith, bound.within, is.stands.era.marked.0) in
        let room_is : room ≡ size = good.3 in
        let place_is : place ≡ (p - 1) * size = same_place ∙ ap (λ (x : ℕ). (p - 1) * x) room_is in
        let held = fits.disk.held i.0 (omega (arith, bound.place, is.stands.era.rises r.mark a.frames to (omega arith), is.stands.era.last)) in
        let un : Unnamed size core.0 r.mark p = hit_none size (length (at past.state.history i.0)) core.0 r.mark p frame a.index (table_upto size core.0 a.frames r.mark (length (at past.state.history i.0)) a.index is.table to) hit good.1 low zero in
        read_by Db place out result i.0 i.1 (none_above past.state.is_open p (length (at past.state.history i.0)) (sym fits.is_open ∙ good.0) good.1 low) answer told
        (λ bytes. read_file size p place s out place_is (long ∙ room_is) bytes
        ∙ sym (other_page size past.made.logs core.0 a.frames past.state.history core.1 a.mark core.2 core.3 s is.stands r.mark p bound.boundary to good.1 low_shown bound.begun un (table s.db.len (byte s.db)) (image_present s.sector s.tears s.db is.stands.suits.sound.db))
        ∙ ap (λ (x : Database). page x p) here)
        (omega (arith, place_is, long, room_is, page_fits size p (length (at past.state.history i.0)) good.1 low (subst (λ (x : ℕ). length (at past.state.history i.0) * x ≤ 1073741824) (sym fits.page_size) held.few)))

    pub read_from_log : {T : Type 0} (place : ℕ) (out : List ℕ) (result : Result T WalError) → 1 ≤ frame → place ≡ 32 + (frame - 1) * (24 + room) + 24 → length out ≡ room → PlaceAnswer Device Log place out result s t → TellsRefusal Device result s t
        → StepsTo past past.tokens (Reads number p) (answered number_of (λ (v : T). Page out) result) b s t
    read_from_log place out result some same_place long answer told =
        let core = fits.core good.0 in
        let is : IsCore past core.0 core.1 core.2 core.3 a s = core.4 in
        let i = bound_of core.0 core.1 core.2 core.3 is in
        let bound : IsBound size core.0 core.1 a.mark core.3 past.state i.0 r = i.2 in
        let here = page_in core.0 core.1 core.2 core.3 i.0 bound in
        let low : p ≤ length (at past.state.history i.0) = omega (arith, good.2, bound.size_is) in
        let low_shown : p ≤ length (shown past.state.history core.1 r.mark) = subst (λ (x : Database). p ≤ length x) (sym here) low in
        let to : r.mark ≤ a.frames = omega (arith, bound.within, is.stands.era.marked.0) in
        let room_is : room ≡ size = good.3 in
        let place_is : place ≡ 32 + (frame - 1) * (24 + size) + 24 = same_place ∙ ap (λ (x : ℕ). 32 + (frame - 1) * (24 + x) + 24) room_is in
        let last : IsLast size core.0 r.mark p frame = hit_last size (length (at past.state.history i.0)) core.0 r.mark p frame a.index (table_upto size core.0 a.frames r.mark (length (at past.state.history i.0)) a.index is.table to) hit good.1 low some in
        let below : frame ≤ a.frames = omega (arith, last.within) in
        read_by Log place out result i.0 i.1 (none_above past.state.is_open p (length (at past.state.history i.0)) (sym fits.is_open ∙ good.0) good.1 low) answer told
        (λ bytes. read_frame size core.0 a.frames frame place s out is.present (omega (arith, is.stands.era.log.whole)) some below place_is (long ∙ room_is) bytes
        ∙ sym (logged_page size past.made.logs core.0 a.frames past.state.history core.1 a.mark core.2 core.3 s is.stands r.mark p bound.boundary to good.1 low_shown frame last)
        ∙ ap (λ (x : Database). page x p) here)
        (let end : place + size ≤ longest = frame_within size core.0 a.frames frame place s is.present is.stands.suits.sound some below place_is in omega (arith, long, room_is))

-- the frame that a search finds
pub found_frame : (core : Core) (s : DiskState) (past : Past) (number : ℕ) (r : Reader) (p frame : ℕ) → FitsCore past core s → slice_get past.tokens number ≡ Some (Some r) → IsTrue core.is_open → 1 ≤ p
    → IsNewest core.index.pages p r.mark frame → Finds past r.mark p frame
found_frame core s past number r p frame fits token opened one hit =
    let held = fits.core opened in
    let is : IsCore past held.0 held.1 held.2 held.3 core s = held.4 in
    let bound = bound_of core core s s past fits (same_core core) refl number r token p held.0 held.1 held.2 held.3 is in
    let to : r.mark ≤ core.frames = omega (arith, bound.2.within, is.stands.era.marked.0) in
    let table : IsTable core.page_size p held.0 r.mark core.index = table_upto core.page_size held.0 core.frames r.mark p core.index is.table to in (
      held.0,
      is.newest_log.0,
      is.newest_log.1,
      λ some. subst (λ (n : ℕ). IsLast n held.0 r.mark p frame) fits.page_size (hit_last core.page_size p held.0 r.mark p frame core.index table hit one (omega arith) some),
      λ zero. subst (λ (n : ℕ). Unnamed n held.0 r.mark p) fits.page_size (hit_none core.page_size p held.0 r.mark p frame core.index table hit one (omega arith) zero),
    )
