-- The frames of a commit, one after another.
use Rattle.walcore.proofs.Between.{Bor, Core, DiskState, Err, FrameStep, FramesAnswer, Going, IsBehind, IsExtended, IsLog, IsPageSize, IsSoundDisk, KeepsCore, KnowsLog, List, Log, MayExtend, Ok, Result, Stands, WalError, [], ap, arith, calls_then, cond, content_of, counted_grows, frame_end, frame_end-le, get_or, get_or-map, length, lent, lent_length, most_frames, no_calls, one_write, page_of, pow_mono, refl, refusal_after, sector_some, size_of, sound_writes, subst, suc, sym, write, ℕ, ◌++◌, ◌+◌, ◌<◌, ◌==◌, ◌^◌, ◌∙◌, ◌∷◌, ◌≡◌, ◌≤◌}
use Rattle.walcore.proofs.sync.LogWithRepeatedFrame.{behind_same, behind_later}
use Rattle.walcore.proofs.commit.LogAfterFrameWrite.{IsFrameAt, Reaches, frame_may, frame_known, frame_quiet, frame_refused, frame_stands}

pub size_most : (size : ℕ) → IsPageSize size → size ≤ 65536
size_most size is = let m : 2 ^ is.0 ≤ 2 ^ 16 = pow_mono is.2 in omega (arith, is.3)

pub going_none : (size : ℕ) (f : List ℕ) (m n : ℕ) (s : DiskState) → IsSoundDisk s → Going size f m n s s
going_none size f m n s sound = record { refused = omega arith; sound = sound; sector = refl; tears = refl; calls = no_calls s; stands = λ logs h index mark d c stands behind. stands }

-- the frame of page k of a commit
module _ (start core next : Core) (s t u : DiskState) (pages : List (ℕ × Bor (List ℕ))) (count k : ℕ) (x : ℕ × Bor (List ℕ)) (keeps : KeepsCore start core) (headed : core.header.page_size ≡ core.page_size) (lt : k < length pages)
    (page size : ℕ) (content : List ℕ) (page_is : page ≡ (get_or pages k x).0) (size_is : size ≡ cond (suc k == length pages) count 0) (content_is : content ≡ (get_or pages k x).1.now)
    (e f : List ℕ) (n : ℕ) (more : IsExtended start.page_size e n (lent pages) count f) (few : n + length (lent pages) ≤ most_frames)
    (going : Going start.page_size f (n + length (lent pages)) n s t) (knows : KnowsLog f (n + k) core t) where
  place : n + suc k ≡ suc (n + k)
  place = omega arith

  within : k < length (lent pages)
  within = omega (arith, lent_length pages)

  lent_at : get_or {A = ℕ × List ℕ} (lent pages) k (0, []) ≡ ((get_or pages k x).0, (get_or pages k x).1.now)
  lent_at = get_or-map (λ p. (p.0, p.1.now)) pages k x (0, []) lt

  here : IsFrameAt start.page_size f (suc (n + k)) page size content
  here = record {
    page_is = ap (page_of start.page_size f) (sym place) ∙ more.page k within ∙ ap (λ (p : ℕ × List ℕ). p.0) lent_at ∙ sym page_is;
    size_is = ap (size_of start.page_size f) (sym place) ∙ more.sizes k within ∙ ap (λ (j : ℕ). cond (suc k == j) count 0) (lent_length pages) ∙ sym size_is;
    content_is = ap (content_of start.page_size f) (sym place) ∙ more.content k within ∙ ap (λ (p : ℕ × List ℕ). p.1) lent_at ∙ sym content_is;
  }

  at : IsFrameAt core.page_size f (suc (n + k)) page size content
  at = subst (λ (z : ℕ). IsFrameAt z f (suc (n + k)) page size content) (sym keeps.page_size) here

  reaches : Reaches f (n + length (lent pages)) (n + k) core t
  reaches = record { log = subst (λ (z : ℕ). IsLog z f (n + length (lent pages))) (sym keeps.page_size) more.log; bytes = more.bytes; most = few; knows = knows }

  module _ {T : Type 0} (result : Result T WalError) (step : FrameStep page size content result core next t u) where
    later : Going start.page_size f (n + length (lent pages)) n s u
    later = record {
      refused = omega (arith, going.refused, counted_grows step.called t.refused going.sound.refused, step.wrote.elsewhere.refused);
      sound = sound_writes Log _ _ step.called t u going.sound step.wrote;
      sector = step.wrote.elsewhere.sector ∙ going.sector;
      tears = step.wrote.elsewhere.tears ∙ going.tears;
      calls = calls_then s t u going.calls (one_write Log (frame_end core.page_size core.frames) (step.head ++ content) step.called t u
          (subst (λ (z : ℕ). MayExtend z (f ∷ []) (write Log (frame_end core.page_size core.frames) (step.head ++ content))) keeps.page_size
          (frame_may f (n + length (lent pages)) (n + k) core next t u reaches (omega (arith, within)) going.sound page size content at headed result step [])) step.wrote);
      stands = λ logs h index mark d c stands behind.
          let was = going.stands logs h index mark d c stands behind in
          let a : ℕ = frame_end start.page_size n in
          let b : ℕ = frame_end start.page_size (n + k) in
          let later : IsBehind start.page_size d b s = behind_later start.page_size d s a b (omega (arith, sector_some s.sector stands.suits.sectors)) (frame_end-le start.page_size n (n + k) (omega arith)) behind in
          let here : IsBehind core.page_size d (frame_end core.page_size (n + k)) t = subst (λ (z : ℕ). IsBehind z d (frame_end z (n + k)) t) (sym keeps.page_size) (behind_same start.page_size d b s t going.sector going.tears later) in
          let was_core = subst (λ (z : ℕ). Stands z logs f (n + length (lent pages)) h index mark d c t) (sym keeps.page_size) was in
          subst (λ (z : ℕ). Stands z logs f (n + length (lent pages)) h index mark d c u) keeps.page_size
          (frame_stands f (n + length (lent pages)) (n + k) core next t u reaches (omega (arith, within)) going.sound page size content at headed result step logs h index mark d c was_core here);
    }

    pub frames_on : (v : T) → result ≡ Ok v → KeepsCore core next → page ≤ core.index.bound → t.refused ≡ s.refused → Going start.page_size f (n + length (lent pages)) n s u × KnowsLog f (n + (k + 1)) next u × (u.refused ≡ s.refused)
    frames_on v is keeps_next low quiet = (
      later,
      subst (λ (i : ℕ). KnowsLog f i next u) (let z : suc (n + k) ≡ n + (k + 1) = omega arith in z)
          (frame_known f (n + length (lent pages)) (n + k) core next t u reaches (omega (arith, within)) going.sound page size content at headed result step v is (record { page_size = keeps_next.page_size; header = keeps_next.header; bound = keeps_next.bound }) low),
      frame_quiet page size content core next t u result step v is ∙ quiet,
    )

    pub frames_off : {V : Type 0} → (err : WalError) (r : Result V WalError) → result ≡ Err err → r ≡ Err err → FramesAnswer start.page_size f (n + length (lent pages)) n r next s u
    frames_off {V = V} err r is same =
        let had = frame_refused f (n + length (lent pages)) (n + k) core next t u reaches (omega (arith, within)) going.sound page size content at headed result step err is (omega (arith, size_most start.page_size more.log.header.is_size, keeps.page_size)) in
        subst (λ (q : Result V WalError). FramesAnswer start.page_size f (n + length (lent pages)) n q next s u) (sym same) (later, had.0, refusal_after s t u going.refused had.1)
