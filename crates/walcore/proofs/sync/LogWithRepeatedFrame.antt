-- On a disk that tears the last frame is written once more, as a frame of its own, before the log is synced: so the next
-- frames lie in other sectors than what is durable.
use Rattle.walcore.proofs.Between.{Database, DiskState, IsApplied, IsBehind, IsCommit, IsEra, IsRepeated, List, Stands, Suits, [], ap, arith, boundary_same, cases_lt, content_of, div-mul-le_self, era_more, extended_count, extended_front, false, frame_end, frame_end-head, frame_end-suc, get_or, le-div, lt-div-mul-add, made_more, min, most_frames, mul-le-mul_right, page_of, refl, sector_some, sector_within, shown, size_of, subst, suc, sym, take, take_less, true, ℕ, ⊎_elim, ◌*◌, ◌+◌, ◌/◌, ◌∙◌, ◌∷◌, ◌≡◌, ◌≤◌}
use Rattle.walcore.proofs.log.EraOfExtendedLog.{GoesOn}
use Rattle.walcore.proofs.disk.DiskInvariantUnderCalls.{stands_more}

-- the number of the last database stays
abbrev pub index_to : (index : ℕ → ℕ) (n : ℕ) → ℕ → ℕ
index_to index n i = index (min i n)

pub index_to-low : (index : ℕ → ℕ) (n i : ℕ) → i ≤ n → index_to index n i ≡ index i
index_to-low index n i le = ap index (let z : min i n ≡ i = omega arith in z)

index_to-high : (index : ℕ → ℕ) (n i : ℕ) → n ≤ i → index_to index n i ≡ index n
index_to-high index n i le = ap index (let z : min i n ≡ n = omega arith in z)

module _ (size : ℕ) (e : List ℕ) (n mark : ℕ) (h : List Database) (index : ℕ → ℕ) (f : List ℕ) (era : IsEra size e n mark h index) (some : 1 ≤ n) (more : IsRepeated size e n f) where
  commit_n : IsCommit size e n
  commit_n = ⊎_elim (λ z. absurd (omega arith)) (λ commit. commit) era.ends

  size_is : size_of size f (n + 1) ≡ size_of size e n
  size_is = extended_count size e n ((page_of size e n, content_of size e n) ∷ []) (size_of size e n) f era.log more (omega arith)

  suc_is : n + suc 0 ≡ n + 1
  suc_is = omega arith

  page_is : page_of size f (n + 1) ≡ page_of size e n
  page_is = ap (page_of size f) (sym suc_is) ∙ more.page 0 (omega arith)

  content_is : content_of size f (n + 1) ≡ content_of size e n
  content_is = ap (content_of size f) (sym suc_is) ∙ more.content 0 (omega arith)

  front : take (frame_end size n) f ≡ take (frame_end size n) e
  front = extended_front size e n ((page_of size e n, content_of size e n) ∷ []) (size_of size e n) f era.log more

  applied : IsApplied size f n (n + 1) (shown h index n) (shown h index n)
  applied = record {
    count = era.sizes n some (omega arith) commit_n ∙ sym size_is;
    put = λ p i a b later is.
        let at : i ≡ n + 1 = omega (arith, is.within) in
        let names : page_of size e n ≡ p = sym page_is ∙ ap (page_of size f) (sym at) ∙ is.names in
        (era.shows n (omega arith) era.ends).logged p n a b (record { first = some; within = omega arith; names = names; last = λ j x y. absurd (omega arith) }) ∙ sym content_is ∙ ap (content_of size f) (sym at);
    kept = λ p a b un. (b, refl);
  }

  on : GoesOn size n (n + 1) mark f h index h (index_to index n)
  on = record {
    at = index_to-low index n;
    front = λ k lt. refl;
    rises = λ i j le within. era.rises (min i n) (min j n) (omega arith) (omega arith);
    last = omega (arith, index_to-high index n (n + 1) (omega arith), era.last);
    held = era.held;
    marked = (
      omega (arith, era.marked.0),
      boundary_same size e f n mark front era.marked.0 era.marked.1,
      index_to-low index n mark era.marked.0 ∙ era.marked.2 ∙ sym (index_to-high index n (n + 1) (omega arith)),
    );
    first = λ i le ends is. ⊎_elim
        (λ lt.
        let i_le : i ≤ n = omega arith in
        era.first i i_le (boundary_same size f e n i (sym front) i_le ends) (sym (index_to-low index n i i_le) ∙ is ∙ index_to-high index n (n + 1) (omega arith)))
        (λ ge. omega (arith, era.marked.0))
        (cases_lt i (n + 1));
  }

  -- A copy of the last frame is no commit: it shows the same database.
  pub repeated_era : IsEra size f (n + 1) mark h (index_to index n)
  repeated_era = era_more size e n mark h index f (n + 1) mark h (index_to index n) era (omega arith) more.log front (λ i a b commit. omega arith) (λ z. commit_n (sym size_is ∙ z))
      (subst (λ (k : ℕ). IsApplied size f n (n + 1) (shown h index n) (get_or h k [])) (sym (index_to-high index n (n + 1) (omega arith))) applied)
      on

-- Before it is written what stands on the disk stands of the log with it.
pub repeated_stands : (size : ℕ) (rest : List (List ℕ)) (e : List ℕ) (n : ℕ) (h : List Database) (index : ℕ → ℕ) (mark d c : ℕ) (s : DiskState) (f : List ℕ)
    → Stands size (e ∷ rest) e n h index mark d c s → 1 ≤ n → IsRepeated size e n f → n + 1 ≤ most_frames → Stands size (f ∷ rest) f (n + 1) h (index_to index n) mark d c s
repeated_stands size rest e n h index mark d c s f stands some more few =
    let same = front size e n mark h index f stands.era some more in
    stands_more size (e ∷ rest) rest e f n (n + 1) h h index (index_to index n) mark mark d c s stands
    (made_more size rest f (n + 1) more.log few e stands.are_made (take_less f e (frame_end size n) 32 same (frame_end-head size n)))
    (repeated_era size e n mark h index f stands.era some more) (omega arith) same
    (λ i le. ap (λ (k : ℕ). get_or h k []) (index_to-low index n i le))

-- ---- where the next frames may be written

module _ (size d : ℕ) (s : DiskState) where
  -- on a disk that doesn't tear
  pub behind_whole : (at : ℕ) → s.tears ≡ false → frame_end size d ≤ at → IsBehind size d at s
  behind_whole at whole le = record { behind = le; apart = λ torn some. absurd (let no : true ≡ false = sym torn ∙ whole in cc no) }

  -- while no frame is durable
  pub behind_none : (at : ℕ) → d ≡ 0 → frame_end size d ≤ at → IsBehind size d at s
  behind_none at none le = record { behind = le; apart = λ torn some. absurd (omega arith) }

  rounded : (k at : ℕ) → 1 ≤ s.sector → k * s.sector ≤ at → k * s.sector ≤ at / s.sector * s.sector
  rounded k at pos le = mul-le-mul_right s.sector (le-div k at s.sector pos le)

  -- where the last frame that is durable ends with its sector
  pub behind_even : (k at : ℕ) → Suits size s → frame_end size d ≡ k * s.sector → frame_end size d ≤ at → IsBehind size d at s
  behind_even k at suits even le = record {
    behind = le;
    apart = λ torn some. omega (arith, even, rounded k at (omega (arith, sector_some s.sector suits.sectors)) (omega arith));
  }

  -- The frame that was copied ends before the sector in which its copy ends.
  pub behind_copy : (at : ℕ) → Suits size s → frame_end size (suc d) ≤ at → IsBehind size d at s
  behind_copy at suits le = record {
    behind = omega (arith, frame_end-suc size d);
    apart = λ torn some.
        let small : s.sector ≤ size = sector_within size s suits torn in
        let pos : 1 ≤ s.sector = omega (arith, sector_some s.sector suits.sectors) in
        let q : ℕ = frame_end size (suc d) / s.sector in
        let up : q * s.sector ≤ at / s.sector * s.sector = rounded q at pos (omega (arith, div-mul-le_self (frame_end size (suc d)) s.sector)) in
        omega (arith, frame_end-suc size d, lt-div-mul-add {a = frame_end size (suc d)} pos);
  }

  -- further on
  pub behind_later : (at later : ℕ) → 1 ≤ s.sector → at ≤ later → IsBehind size d at s → IsBehind size d later s
  behind_later at later pos le is = record {
    behind = omega (arith, is.behind);
    apart = λ torn some. omega (arith, is.apart torn some, rounded (at / s.sector) later pos (omega (arith, div-mul-le_self at s.sector)));
  }

-- on a disk with the same sectors
pub behind_same : (size d at : ℕ) (s t : DiskState) → t.sector ≡ s.sector → t.tears ≡ s.tears → IsBehind size d at s → IsBehind size d at t
behind_same size d at s t sector tears is = record {
  behind = is.behind;
  apart = λ torn some. subst (λ (n : ℕ). frame_end size d ≤ at / n * n) (sym sector) (is.apart (sym tears ∙ torn) some);
}
