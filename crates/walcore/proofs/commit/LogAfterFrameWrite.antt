-- The frames of a commit are written one after another, and the log goes on by them.
use Rattle.walcore.proofs.Between.{AreBytes, Core, Database, Device, DiskError, DiskState, Err, FrameStep, FrameTable, HadRefusal, HasFrame, IsBehind, IsFrameHead, IsHeaderOf, IsIndexed, IsLog, IsOk, IsPresent, IsSoundDisk, IsSumOf, KnowsLog, List, Log, MayExtend, Ok, Result, Stands, Sum, Told, WalError, WalHeader, Writes, [], ap, arith, cases_eq, content_of, counted, drop, frame_at, frame_at-suc, frame_end, frame_end-le, frame_end-suc, get_or, get_or-append_right, get_or_append_left, had_refusal, length, length-append, length-drop, length-take-le, longest, most_frames, mul-le-mul_left, next_frame, page_of, part, present_writes, refl, size_of, subst, suc, summed, sym, told_err, told_ok, told_refused, write, ℕ, ⊎_elim, ◌*◌, ◌++◌, ◌+◌, ◌-◌, ◌<◌, ◌∙◌, ◌∷◌, ◌≡◌, ◌≢◌, ◌≤◌}
use Rattle.walcore.proofs.disk.DiskInvariantUnderCalls.{stands_writes}

-- ---- what a call answers

-- ---- one frame

-- what a frame is made of, as it stands in the log
pub record IsFrameAt (size : ℕ) (f : List ℕ) (i : ℕ) (page count : ℕ) (content : List ℕ) : Type 0 where
  pub page_is : page_of size f i ≡ page
  pub size_is : size_of size f i ≡ count
  pub content_is : content_of size f i ≡ content

-- what tells of a log before a frame is written behind it
pub record KeepsLog (old new : Core) : Type 0 where
  pub page_size : new.page_size ≡ old.page_size
  pub header : new.header ≡ old.header
  pub bound : new.index.bound ≡ old.index.bound

-- the log f of m frames, of which a core knows the first n
pub record Reaches (f : List ℕ) (m n : ℕ) (core : Core) (s : DiskState) : Type 0 where
  pub log : IsLog core.page_size f m
  pub bytes : AreBytes f
  pub most : m ≤ most_frames
  pub knows : KnowsLog f n core s

pub frame_place : (size n : ℕ) → size ≤ 65536 → n ≤ most_frames → frame_end size n ≤ longest
unfolding frame_end
frame_place size n le few =
    let wide : n * (24 + size) ≤ n * 65560 = mul-le-mul_left n (let x : 24 + size ≤ 65560 = omega arith in x) in
    omega arith

-- the frame that is made of what stands in the log
made_next : (h : WalHeader) (f : List ℕ) (m n size : ℕ) (before : Sum) → AreBytes f → n < m → h.page_size ≡ size → IsLog size f m → IsHeaderOf f h → IsSumOf h.order (summed size f n) before
    → (page count : ℕ) (content head : List ℕ) (after : Sum) → IsFrameAt size f (suc n) page count content → IsFrameHead h before page count content head after
    → (head ++ content ≡ part f (frame_end size n) (frame_end size (suc n) - frame_end size n)) × IsSumOf h.order (summed size f (suc n)) after
made_next h f m n size before bytes lt same log header sum page count content head after at made =
    let made_1 = subst (λ (x : ℕ). IsFrameHead h before x count content head after) (sym at.page_is) made in
    let made_2 = subst (λ (x : ℕ). IsFrameHead h before (page_of size f (suc n)) x content head after) (sym at.size_is) made_1 in
    let made_3 = subst (λ (x : List ℕ). IsFrameHead h before (page_of size f (suc n)) (size_of size f (suc n)) x head after) (sym at.content_is) made_2 in
    let all = subst (λ (z : ℕ). IsLog z f m → IsSumOf h.order (summed z f n) before → IsFrameHead h before (page_of z f (suc n)) (size_of z f (suc n)) (content_of z f (suc n)) head after
    → (head ++ content_of z f (suc n) ≡ part f (frame_end z n) (frame_end z (suc n) - frame_end z n)) × IsSumOf h.order (summed z f (suc n)) after) same
    (λ log_h sum_h made_h. let is = next_frame h f m log_h bytes header n lt before sum_h head after made_h in (is.bytes, is.sum))
    log sum made_3 in
    (ap (λ (x : List ℕ). head ++ x) (sym at.content_is) ∙ all.0, all.1)

-- the table with a frame more
table_more : (size : ℕ) (f : List ℕ) (n page : ℕ) (old new : FrameTable) → IsIndexed size f n old → new.pages ≡ old.pages ++ page ∷ [] → new.bound ≡ old.bound → page_of size f (suc n) ≡ page → page ≤ old.bound → IsIndexed size f (suc n) new
table_more size f n page old new table is same names within =
    let long : length new.pages ≡ n + 1 = ap length is ∙ length-append old.pages (page ∷ []) ∙ ap (λ (k : ℕ). k + 1) table.count in
    record {
      count = omega arith;
      each = λ i a b. ⊎_elim
          (λ (z : i ≡ suc n).
          let at : i - 1 ≡ length old.pages = omega (arith, table.count) in
          let here : get_or new.pages (i - 1) 0 ≡ page = ap (λ (x : List ℕ). get_or x (i - 1) 0) is ∙ get_or-append_right old.pages (page ∷ []) (i - 1) 0 (omega arith) ∙ ap (λ (k : ℕ). get_or (page ∷ []) k 0) (let e : i - 1 - length old.pages ≡ 0 = omega arith in e) in
          let named : page_of size f i ≡ page = ap (page_of size f) z ∙ names in
          (here ∙ sym named, omega arith))
          (λ (other : i ≢ suc n).
          let low : i ≤ n = omega arith in
          let was = table.each i a low in
          (ap (λ (x : List ℕ). get_or x (i - 1) 0) is ∙ get_or_append_left old.pages (page ∷ []) 0 (i - 1) (omega (arith, table.count)) ∙ was.0, omega (arith, was.1)))
          (cases_eq i (suc n));
    }

-- a frame that is written leaves the count of refused calls
pub frame_quiet : {T : Type 0} (page count : ℕ) (content : List ℕ) (old new : Core) (s t : DiskState) (result : Result T WalError) (step : FrameStep page count content result old new s t) (v : T) → result ≡ Ok v → t.refused ≡ s.refused
frame_quiet {T = T} page count content old new s t result step v is =
    let called = told_ok Device step.called result v is step.told in
    subst (λ (r : Result T DiskError). t.refused ≡ counted r s.refused) called.1 step.wrote.elsewhere.refused

module _ {T : Type 0} (f : List ℕ) (m n : ℕ) (old new : Core) (s t : DiskState) (reaches : Reaches f m n old s) (lt : n < m) (sound : IsSoundDisk s) (page count : ℕ) (content : List ℕ)
    (at : IsFrameAt old.page_size f (suc n) page count content) (headed : old.header.page_size ≡ old.page_size) (result : Result T WalError) (step : FrameStep page count content result old new s t) where
  made : (step.head ++ content ≡ part f (frame_end old.page_size n) (frame_end old.page_size (suc n) - frame_end old.page_size n)) × IsSumOf old.header.order (summed old.page_size f (suc n)) step.after
  made = made_next old.header f m n old.page_size old.sum reaches.bytes lt headed reaches.log reaches.knows.header reaches.knows.sum page count content step.head step.after at step.made

  -- what is written
  written : Writes Log (frame_end old.page_size n) (part f (frame_end old.page_size n) (frame_end old.page_size (suc n) - frame_end old.page_size n)) step.called s t
  written = subst (λ (k : ℕ). Writes Log (frame_end old.page_size k) (part f (frame_end old.page_size n) (frame_end old.page_size (suc n) - frame_end old.page_size n)) step.called s t) reaches.knows.frames
      (subst (λ (x : List ℕ). Writes Log (frame_end old.page_size old.frames) x step.called s t) made.0 step.wrote)

  fits : frame_end old.page_size (suc n) ≤ length f
  fits = omega (arith, reaches.log.whole, frame_end-le old.page_size (suc n) m lt)

  -- a whole frame of the log is asked for, at its place
  frame_piece : (step.head ++ content ≡ part f (frame_end old.page_size old.frames) (length (step.head ++ content))) × (frame_end old.page_size old.frames ≡ frame_at old.page_size (suc n)) × (length (step.head ++ content) ≡ 24 + old.page_size)
  frame_piece =
      let a : ℕ = frame_end old.page_size n in
      let b : ℕ = frame_end old.page_size (suc n) in
      let long : length (part f a (b - a)) ≡ b - a = length-take-le (b - a) (drop a f) (omega (arith, length-drop a f, fits)) in
      let whole : length (step.head ++ content) ≡ b - a = ap (λ (x : List ℕ). length x) made.0 ∙ long in
      let place : frame_end old.page_size old.frames ≡ a = ap (λ (k : ℕ). frame_end old.page_size k) reaches.knows.frames in (
        made.0 ∙ ap (λ (k : ℕ). part f a k) (sym whole) ∙ ap (λ (k : ℕ). part f k (length (step.head ++ content))) (sym place),
        place ∙ sym (frame_at-suc old.page_size n),
        omega (arith, whole, frame_end-suc old.page_size n),
      )

  pub frame_may : (logs : List (List ℕ)) → MayExtend old.page_size (f ∷ logs) (write Log (frame_end old.page_size old.frames) (step.head ++ content))
  frame_may logs = (f, suc n, (logs, refl), omega arith, frame_piece.1, frame_piece.0, frame_piece.2)

  pub frame_known : (v : T) → result ≡ Ok v → KeepsLog old new → page ≤ old.index.bound → KnowsLog f (suc n) new t
  frame_known v is keeps within =
      let called = told_ok Device step.called result v is step.told in
      let has : HasFrame page step.after old new = step.done (subst (λ (r : Result T WalError). IsOk r) (sym is) refl) in
      let wrote = subst (λ (r : Result T DiskError). Writes Log (frame_end old.page_size n) (part f (frame_end old.page_size n) (frame_end old.page_size (suc n) - frame_end old.page_size n)) r s t) called.1 written in
      let present : IsPresent old.page_size f (suc n) t = present_writes old.page_size f s t n (suc n) (omega arith) fits wrote reaches.knows.present in
      let table : IsIndexed old.page_size f (suc n) new.index = table_more old.page_size f n page old.index new.index reaches.knows.table has.pages keeps.bound at.page_is within in
      let sum_1 : IsSumOf old.header.order (summed old.page_size f (suc n)) new.sum = subst (λ (x : Sum). IsSumOf old.header.order (summed old.page_size f (suc n)) x) (sym has.sum) made.1 in
      let sum_2 : IsSumOf new.header.order (summed old.page_size f (suc n)) new.sum = subst (λ (x : WalHeader). IsSumOf x.order (summed old.page_size f (suc n)) new.sum) (sym keeps.header) sum_1 in
      record {
        frames = omega (arith, has.frames, reaches.knows.frames);
        header = subst (λ (x : WalHeader). IsHeaderOf f x) (sym keeps.header) reaches.knows.header;
        sum = subst (λ (z : ℕ). IsSumOf new.header.order (summed z f (suc n)) new.sum) (sym keeps.page_size) sum_2;
        table = subst (λ (z : ℕ). IsIndexed z f (suc n) new.index) (sym keeps.page_size) table;
        last = λ some. has.last ∙ sym at.page_is ∙ ap (λ (z : ℕ). page_of z f (suc n)) (sym keeps.page_size);
        present = subst (λ (z : ℕ). IsPresent z f (suc n) t) (sym keeps.page_size) present;
      }

  pub frame_refused : (e : WalError) → result ≡ Err e → old.page_size ≤ 65536 → (e ≡ Device) × HadRefusal s t
  frame_refused e is small =
      let called = told_err Device step.called result e is step.told in
      let a : ℕ = frame_end old.page_size n in
      let b : ℕ = frame_end old.page_size (suc n) in
      let up : a ≤ b = frame_end-le old.page_size n (suc n) (omega arith) in
      let long : length (part f a (b - a)) ≡ b - a = length-take-le (b - a) (drop a f) (omega (arith, length-drop a f, fits)) in
      let short : a + length (part f a (b - a)) ≤ longest = omega (arith, frame_place old.page_size (suc n) small (let le : suc n ≤ most_frames = omega (arith, reaches.most) in le)) in
      (called.0, had_refusal step.called called.1.0 (a + length (part f a (b - a))) s t sound.refused called.1.1 written.within short written.elsewhere.refused)

  pub frame_stands : (logs : List (List ℕ)) (h : List Database) (index : ℕ → ℕ) (mark d c : ℕ) → Stands old.page_size logs f m h index mark d c s → IsBehind old.page_size d (frame_end old.page_size n) s → Stands old.page_size logs f m h index mark d c t
  frame_stands logs h index mark d c stands behind = stands_writes old.page_size logs f m h index mark d c s t stands (frame_end old.page_size n) _ step.called written behind

-- ---- the step of the code

module _ {T : Type 0} (page count : ℕ) (content : List ℕ) (old new : Core) (s t : DiskState) (head : List ℕ) (after : Sum) (at : ℕ) (bytes : List ℕ) where
  frame_step : (called : Result T DiskError) (r : Result T WalError) → IsFrameHead old.header old.sum page count content head after → at ≡ frame_end old.page_size old.frames → bytes ≡ head ++ content → Writes Log at bytes called s t
      → Told Device called r → (IsOk r → HasFrame page after old new) → FrameStep page count content r old new s t
  frame_step called r made place is wrote told done = record {
    called = called;
    told = told;
    head = head;
    after = after;
    made = made;
    wrote = subst (λ (k : ℕ). Writes Log k (head ++ content) called s t) place (subst (λ (x : List ℕ). Writes Log at x called s t) is wrote);
    done = done;
  }

  pub frame_failed : (called : Result T DiskError) (x : DiskError) (r : Result T WalError) → IsFrameHead old.header old.sum page count content head after → at ≡ frame_end old.page_size old.frames → bytes ≡ head ++ content
      → Writes Log at bytes called s t → called ≡ Err x → r ≡ Err Device → FrameStep page count content r old new s t
  frame_failed called x r made place is wrote was same = frame_step called r made place is wrote (told_refused Device called r x was same) (λ ok. absurd (let bad : IsOk {T = T} {E = WalError} (Err Device) = subst (λ (q : Result T WalError). IsOk q) same ok in cc))

  pub frame_put : {u : T} → IsFrameHead old.header old.sum page count content head after → at ≡ frame_end old.page_size old.frames → bytes ≡ head ++ content
      → Writes Log at bytes (Ok u) s t → HasFrame page after old new → FrameStep page count content (Ok u) old new s t
  frame_put {u = u} made place is wrote has = frame_step (Ok u) (Ok u) made place is wrote tt (λ ok. has)
