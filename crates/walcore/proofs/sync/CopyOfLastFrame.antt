-- The last frame is read, and a copy of it is written behind it.
use Rattle.walcore.proofs.Facts.{AreBytes, Core, Device, DiskState, Err, FrameStep, FramesAnswer, Going, IsFrame, IsFrameAt, IsLog, IsPresent, IsRepeated, IsSoundDisk, KnowsLast, KnowsLog, List, Log, Ok, PlaceAnswer, Reaches, Result, Still, WalError, [], ap, arith, behind_same, byte, calls_then, cond, content_of, content_whole, counted_grows, drop, drop_at, drop_bytes, extended_count, extended_exists, extended_front, frame_at, frame_at-end, frame_end, frame_end-le, frame_known, frame_may, frame_place, frame_quiet, frame_refused, frame_stands, get_or, get_or-drop, get_or-take, knows_more, length, length-drop, length-take-le, longest, nothing_may, one_write, page_of, present_by, put_mid, put_two, refl, refusal_after, same_number_lists, size_most, size_of, sound_writes, stands_still, still_sound, subst, suc, sym, take, take-append-drop, take_bytes, word_fits, ℕ, ◌*◌, ◌+◌, ◌-◌, ◌<◌, ◌==◌, ◌∙◌, ◌∷◌, ◌≡◌, ◌≤◌}
use Rattle.walcore.proofs.commit.LogAfterFrameWrite.{KeepsLog}

-- ---- there is one

pub repeated_exists : (size : ℕ) (e : List ℕ) (n : ℕ) → AreBytes e → IsLog size e n → 1 ≤ n → (f : List ℕ) × IsRepeated size e n f
repeated_exists size e n bytes log some = extended_exists size e n ((page_of size e n, content_of size e n) ∷ []) (size_of size e n) bytes log (record {
  each = λ k lt. let P : ℕ → Type 0 = λ j. IsFrame size (get_or {A = ℕ × List ℕ} ((page_of size e n, content_of size e n) ∷ []) j (0, [])).0 (cond (suc j == 1) (size_of size e n) 0) (get_or {A = ℕ × List ℕ} ((page_of size e n, content_of size e n) ∷ []) j (0, [])).1 in
      subst P (let z : 0 ≡ k = omega arith in z) (record {
        some = (log.all n some (omega arith)).page;
        page_fits = word_fits e _ bytes;
        size_fits = word_fits e _ bytes;
        full = content_whole size e n n log some (omega arith);
        bytes = take_bytes size _ (drop_bytes _ e bytes);
      });
})

-- ---- it is read

-- what was put behind the front of a list
pub behind_mid : (a k : ℕ) (xs ys : List ℕ) → a + k ≡ length xs → length ys ≡ k → drop a (put_mid a k xs ys) ≡ ys
behind_mid a k xs ys is long =
    let front : length (take a xs) ≡ a = length-take-le a xs (omega arith) in
    ap (λ (zs : List ℕ). drop a (put_mid a k zs ys)) (sym (take-append-drop a xs)) ∙ ap (λ (zs : List ℕ). drop a zs) (put_two (take a xs) (drop a xs) ys a k front (omega (arith, length-drop a xs))) ∙ drop_at (take a xs) ys a front

content_place : (size i : ℕ) → frame_at size i + 24 ≡ 32 + (i - 1) * (24 + size) + 24
unfolding frame_at
content_place size i = refl

read_content : (size n at : ℕ) (e out : List ℕ) (s t : DiskState) → 1 ≤ n → IsLog size e n → IsPresent size e n s → at ≡ 32 + (n - 1) * (24 + size) + 24 → length out ≡ size
    → ((j : ℕ) → j < length out → get_or out j 0 ≡ byte s.log (at + j)) → out ≡ content_of size e n
read_content size n at e out s t some log present place long same =
    let here : frame_at size n + 24 ≡ at = content_place size n ∙ sym place in
    let end : at + size ≡ frame_end size n = omega (arith, here, frame_at-end size n some) in
    let fits : at + size ≤ length e = omega (arith, log.whole) in
    let rest : length (take size (drop at e)) ≡ size = length-take-le size (drop at e) (omega (arith, length-drop at e)) in
    same_number_lists out (take size (drop at e)) (long ∙ sym rest)
    (λ j lt. same j lt ∙ present.each (at + j) (omega arith) ∙ sym (get_or-take size (drop at e) j 0 (omega arith) ∙ get_or-drop at e j 0))
    ∙ ap (λ (k : ℕ). take size (drop k e)) (sym here)

-- ---- it is written

module _ (e f : List ℕ) (old : Core) (s : DiskState) (last : KnowsLast e f old s) (sound : IsSoundDisk s) where
  front : take (frame_end old.page_size old.frames) f ≡ take (frame_end old.page_size old.frames) e
  front = extended_front old.page_size e old.frames ((page_of old.page_size e old.frames, content_of old.page_size e old.frames) ∷ []) (size_of old.page_size e old.frames) f last.log last.more

  module _ (t : DiskState) (still : Still s t) where
    -- no byte has changed
    going_still : Going old.page_size f (old.frames + 1) old.frames s t
    going_still = record {
      refused = still.refused;
      sound = still_sound s t sound still;
      sector = still.sector;
      tears = still.tears;
      calls = nothing_may s t still.calls;
      stands = λ logs h index mark d c stands behind. stands_still old.page_size logs f (old.frames + 1) h index mark d c s stands t still;
    }

    reaches : Reaches f (old.frames + 1) old.frames old t
    reaches =
        let fits : frame_end old.page_size old.frames ≤ length f = omega (arith, last.more.log.whole, frame_end-le old.page_size old.frames (old.frames + 1) (omega arith)) in
        let known : KnowsLog f old.frames old s = knows_more e f old s front fits last.knows (omega (arith, last.log.whole)) in
        record {
          log = last.more.log;
          bytes = last.more.bytes;
          most = last.few;
          knows = record { frames = known.frames; header = known.header; sum = known.sum; table = known.table; last = known.last; present = present_by old.page_size f s t old.frames still.log known.present };
        }

    here : (content : List ℕ) → content ≡ content_of old.page_size e old.frames → IsFrameAt old.page_size f (suc old.frames) old.last_page old.size content
    here content is =
        let at : old.frames + suc 0 ≡ suc old.frames = omega arith in
        let one : old.frames + 1 ≡ suc old.frames = omega arith in
        record {
          page_is = ap (page_of old.page_size f) (sym at) ∙ last.more.page 0 (omega arith) ∙ sym (last.knows.last last.some);
          size_is = ap (size_of old.page_size f) (sym one) ∙ extended_count old.page_size e old.frames ((page_of old.page_size e old.frames, content_of old.page_size e old.frames) ∷ []) (size_of old.page_size e old.frames) f last.log last.more (omega arith) ∙ sym last.size_is;
          content_is = ap (content_of old.page_size f) (sym at) ∙ last.more.content 0 (omega arith) ∙ sym is;
        }

    module _ {T : Type 0} (content : List ℕ) (is : content ≡ content_of old.page_size e old.frames) (new : Core) (u : DiskState) (result : Result T WalError) (step : FrameStep old.last_page old.size content result old new t u) where
      going_on : Going old.page_size f (old.frames + 1) old.frames s u
      going_on =
          let on : IsSoundDisk t = still_sound s t sound still in
          record {
            refused = omega (arith, still.refused, counted_grows step.called t.refused on.refused, step.wrote.elsewhere.refused);
            sound = sound_writes Log _ _ step.called t u on step.wrote;
            sector = step.wrote.elsewhere.sector ∙ still.sector;
            tears = step.wrote.elsewhere.tears ∙ still.tears;
            calls = calls_then s t u (nothing_may s t still.calls) (one_write Log _ _ step.called t u
                (frame_may f (old.frames + 1) old.frames old new t u reaches (omega arith) on old.last_page old.size content (here content is) old.headed result step []) step.wrote);
            stands = λ logs h index mark d c stands behind.
                frame_stands f (old.frames + 1) old.frames old new t u reaches (omega arith) on old.last_page old.size content (here content is) old.headed result step logs h index mark d c
                (stands_still old.page_size logs f (old.frames + 1) h index mark d c s stands t still)
                (behind_same old.page_size d (frame_end old.page_size old.frames) s t still.sector still.tears behind);
          }

      pub copied_known : (v : T) → result ≡ Ok v → KeepsLog old new → old.last_page ≤ old.index.bound → t.refused ≡ s.refused → Going old.page_size f (old.frames + 1) old.frames s u × KnowsLog f (old.frames + 1) new u × (u.refused ≡ s.refused)
      copied_known v was keeps low quiet = (
        going_on,
        subst (λ (i : ℕ). KnowsLog f i new u) (let z : suc old.frames ≡ old.frames + 1 = omega arith in z)
            (frame_known f (old.frames + 1) old.frames old new t u reaches (omega arith) (still_sound s t sound still) old.last_page old.size content (here content is) old.headed result step v was keeps low),
        frame_quiet old.last_page old.size content old new t u result step v was ∙ quiet,
      )

      pub copied_refused : {V : Type 0} → (x : WalError) (r : Result V WalError) (next : Core) → result ≡ Err x → r ≡ Err x → FramesAnswer old.page_size f (old.frames + 1) old.frames r next s u
      copied_refused {V = V} x r next was same =
          let had = frame_refused f (old.frames + 1) old.frames old new t u reaches (omega arith) (still_sound s t sound still) old.last_page old.size content (here content is) old.headed result step x was
          (size_most old.page_size last.log.header.is_size) in
          subst (λ (q : Result V WalError). FramesAnswer old.page_size f (old.frames + 1) old.frames q next s u) (sym same) (going_on, had.0, refusal_after s t u still.refused had.1)

  -- ---- the read of the code

  module _ {T : Type 0} (at : ℕ) (out : List ℕ) (t : DiskState) (r : Result T WalError) (place : at ≡ 32 + (old.frames - 1) * (24 + old.page_size) + 24) (long : length out ≡ old.page_size) (answer : PlaceAnswer Device Log at out r s t) where
    pub read_done : (v : T) → r ≡ Ok v → Still s t × (out ≡ content_of old.page_size e old.frames)
    unfolding PlaceAnswer
    read_done v was =
        let got = subst (λ (q : Result T WalError). PlaceAnswer Device Log at out q s t) was answer in
        (got.0, read_content old.page_size old.frames at e out s t last.some last.log last.knows.present place long got.1)

    pub read_refused : {V : Type 0} → (x : WalError) (q : Result V WalError) (next : Core) → r ≡ Err x → q ≡ Err x → FramesAnswer old.page_size f (old.frames + 1) old.frames q next s t
    unfolding PlaceAnswer
    read_refused {V = V} x q next was same =
        let got = subst (λ (y : Result T WalError). PlaceAnswer Device Log at out y s t) was answer in
        let end : at + length out ≡ frame_end old.page_size old.frames = omega (arith, place, long, content_place old.page_size old.frames, frame_at-end old.page_size old.frames last.some) in
        let short : frame_end old.page_size old.frames ≤ longest = frame_place old.page_size old.frames (size_most old.page_size last.log.header.is_size) (omega (arith, last.few)) in
        subst (λ (y : Result V WalError). FramesAnswer old.page_size f (old.frames + 1) old.frames y next s t) (sym same) (going_still t got.0, got.1, got.2 (omega arith))
