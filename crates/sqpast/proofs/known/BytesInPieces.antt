-- Bytes that are compared in pieces.
use Rattle.std.proofs.Common.{◌≡◌, ◌≢◌, ◌⊎◌, inl, inr, ℕ, ◌+◌, ◌-◌, ◌*◌, ◌<◌, ◌≤◌, ⊎_elim, List, length, get_or, take, drop, refl, sym, ◌∙◌, ap, arith, length-drop}
use Rattle.std.proofs.lemmas.Bool.{cases_lt, cases_eq}
use Rattle.std.proofs.lemmas.List.{get_or-take, get_or-drop, length-take-le, length-replicate, get_or-replicate, ext_get_or}
use Rattle.std.proofs.lemmas.List.FromFn.{fill_by_all, length-map-range_with_len, get_or-map-range_with_len}
use Rattle.sqval.specs.Bytes.{part}
use Rattle.sqval.specs.Database.{file_page}
use Rattle.sqval.proofs.page.FilePages.{length-file_page}
use Rattle.sqwal.specs.Frames.{page_of, content_of, frame_at, frame_end}
use Rattle.sqwal.proofs.log.DependenceOnPrefix.{frame_at-end}
use Rattle.history.specs.Checkpoints.{zero_page}
use Rattle.sqview.specs.Laid.{part_or_zeros}
use Rattle.sqpast.specs.internal.Chains.{IsNextFrame, NamesAny}

pub part_long : (size at : ℕ) (file : List ℕ) → length (part_or_zeros size at file) ≡ size
unfolding part_or_zeros
part_long size at file = length-map-range_with_len (λ i. get_or file (at + i) 0) 0 size

pub part_byte : (size at : ℕ) (file : List ℕ) (i : ℕ) → i < size → get_or (part_or_zeros size at file) i 0 ≡ get_or file (at + i) 0
unfolding part_or_zeros
part_byte size at file i lt = get_or-map-range_with_len (λ k. get_or file (at + k) 0) 0 size i i 0 lt (omega arith)

-- the first bytes are those of the file from a place on
abbrev pub SameTo : (at : ℕ) (file bytes : List ℕ) (done : ℕ) → Type 0
SameTo at file bytes done = (i : ℕ) → i < done → get_or bytes i 0 ≡ get_or file (at + i) 0

module _ (at : ℕ) (file bytes : List ℕ) where
  pub same_none : SameTo at file bytes 0
  same_none i lt = absurd (omega arith)

  pub same_all : (done : ℕ) → length bytes ≤ done → SameTo at file bytes done → bytes ≡ part_or_zeros (length bytes) at file
  same_all done le same = ext_get_or 0 bytes (part_or_zeros (length bytes) at file) (sym (part_long (length bytes) at file))
      (λ i lt. same i (omega arith) ∙ sym (part_byte (length bytes) at file i lt))

  module _ (done e : ℕ) (fits : done + e ≤ length bytes) (piece : List ℕ) (is : piece ≡ take e (drop done bytes)) where
    piece_long : length piece ≡ e
    piece_long = ap length is ∙ length-take-le e (drop done bytes) (omega (arith, length-drop done bytes))

    piece_byte : (i : ℕ) → i < e → get_or piece i 0 ≡ get_or bytes (done + i) 0
    piece_byte i lt = ap (λ l. get_or l i 0) is ∙ get_or-take e (drop done bytes) i 0 lt ∙ get_or-drop done bytes i 0

    pub same_more : (place : ℕ) → place ≡ at + done → piece ≡ part_or_zeros (length piece) place file → SameTo at file bytes done → SameTo at file bytes (done + e)
    unfolding SameTo
    same_more place here same before i lt = ⊎_elim
        (λ low. before i low)
        (λ high.
        let j : done + (i - done) ≡ i = omega arith in
        let k : place + (i - done) ≡ at + i = omega arith in
        ap (λ n. get_or bytes n 0) (sym j) ∙ sym (piece_byte (i - done) (omega arith)) ∙ ap (λ l. get_or l (i - done) 0) same
        ∙ part_byte (length piece) place file (i - done) (omega (arith, piece_long)) ∙ ap (λ n. get_or file n 0) k)
        (cases_lt i done)

    -- where all are the file's the piece is
    pub piece_of_same : (place : ℕ) → place ≡ at + done → bytes ≡ part_or_zeros (length bytes) at file → piece ≡ part_or_zeros (length piece) place file
    piece_of_same place here same = ext_get_or 0 piece (part_or_zeros (length piece) place file) (sym (part_long (length piece) place file))
        (λ i lt.
        let k : at + (done + i) ≡ place + i = omega arith in
        piece_byte i (omega (arith, piece_long)) ∙ ap (λ l. get_or l (done + i) 0) same ∙ part_byte (length bytes) at file (done + i) (omega (arith, piece_long)) ∙ ap (λ n. get_or file n 0) k
        ∙ sym (part_byte (length piece) place file i lt))

-- ---- the frames that name a page, one after the other

-- so many bytes that are all there
pub part_is : (size at : ℕ) (file : List ℕ) → at + size ≤ length file → part_or_zeros size at file ≡ part file at size
unfolding part_or_zeros
part_is size at file le = sym (fill_by_all (λ i. get_or file (at + i) 0) (take size (drop at file)) size 0
    (length-take-le size (drop at file) (omega (arith, length-drop at file)))
    (λ k lt. get_or-take size (drop at file) k 0 lt ∙ get_or-drop at file k 0))

-- the frame at which the search is, the last one of those before it that name the page have other bytes
pub record IsTried (size : ℕ) (w : List ℕ) (front p : ℕ) (bytes : List ℕ) (step frame : ℕ) : Type 0 where
  pub at : (frame ≡ 0) ⊎ ((step < frame) × (frame ≤ front) × (page_of size w frame ≡ p))
  pub others : (i : ℕ) → 1 ≤ i → i ≤ front → (frame ≡ 0) ⊎ (i < frame) → page_of size w i ≡ p → bytes ≢ content_of size w i

module _ (size : ℕ) (w : List ℕ) (front p : ℕ) (bytes : List ℕ) where
  pub tried_none : (frame : ℕ) → IsNextFrame size w front 0 p frame → IsTried size w front p bytes 0 frame
  tried_none frame is = record {
    at = ⊎_elim (λ none. inl none.0) (λ x. inr (x.0, x.1, x.2)) is;
    others = λ i one le from e same. ⊎_elim
        (λ none. none.1 i (omega arith) le e)
        (λ x. ⊎_elim (λ z. omega (arith, x.0)) (λ lt. x.3 i (omega arith) lt e) from)
        is;
  }

  module _ (step frame : ℕ) (tried : IsTried size w front p bytes step frame) where
    -- the search is over
    pub tried_over : (frame ≤ step) ⊎ (front ≤ step) → NamesAny size w front p bytes → ⊥
    tried_over over x =
        let none : frame ≡ 0 = ⊎_elim (λ z. z) (λ y. ⊎_elim (λ le. absurd (omega (arith, y.0))) (λ le. absurd (omega (arith, y.0, y.1))) over) tried.at in
        tried.others x.0 x.1 x.2 (inl none) x.3 x.4

    module _ (more : step < frame) where
      pub here : (frame ≤ front) × (page_of size w frame ≡ p)
      here = ⊎_elim (λ z. absurd (omega arith)) (λ y. (y.1, y.2)) tried.at

      pub tried_found : bytes ≡ content_of size w frame → NamesAny size w front p bytes
      tried_found same = (frame, omega arith, here.0, here.1, same)

      pub tried_more : (next : ℕ) → IsNextFrame size w front frame p next → bytes ≢ content_of size w frame → IsTried size w front p bytes (step + 1) next
      tried_more next is differs = record {
        at = ⊎_elim (λ none. inl none.0) (λ x. inr (omega (arith, x.0), x.1, x.2)) is;
        others = λ i one le from e. ⊎_elim
            (λ same. λ z. differs (z ∙ ap (content_of size w) same))
            (λ ne. ⊎_elim
            (λ low. tried.others i one le (inr low) e)
            (λ high. λ z. ⊎_elim
            (λ none. none.1 i (omega arith) le e)
            (λ x. ⊎_elim (λ zero. omega (arith, x.0)) (λ lt. x.3 i (omega arith) lt e) from)
            is)
            (cases_lt i frame))
            (cases_eq i frame);
      }

-- the bytes of a frame that is whole are those at its place
pub content_is : (size : ℕ) (w : List ℕ) (i place : ℕ) → 1 ≤ i → frame_end size i ≤ length w → place ≡ frame_at size i + 24 → part_or_zeros size place w ≡ content_of size w i
content_is size w i place one whole is = ap (λ n. part_or_zeros size n w) is ∙ part_is size (frame_at size i + 24) w (omega (arith, frame_at-end size i one))

pub content_by_part : (size : ℕ) (w now : List ℕ) (i place n : ℕ) → now ≡ w → n ≡ size → 1 ≤ i → frame_end size i ≤ length w → place ≡ frame_at size i + 24 → part_or_zeros n place now ≡ content_of size w i
content_by_part size w now i place n same long one whole is = ap (part_or_zeros n place) same ∙ ap (λ k. part_or_zeros k place w) long ∙ content_is size w i place one whole is

-- ---- a page as it was read

page_is_part : (size p : ℕ) (file : List ℕ) → part_or_zeros size ((p - 1) * size) file ≡ file_page size file p
unfolding file_page part_or_zeros
page_is_part size p file = refl

module _ (size : ℕ) (file : List ℕ) (p n at : ℕ) (page : List ℕ) (long : n ≡ size) (place : at ≡ (p - 1) * size) (is : page ≡ part_or_zeros n at file) where
  pub page_read : page ≡ file_page size file p
  page_read = is ∙ ap (λ k. part_or_zeros k at file) long ∙ ap (λ k. part_or_zeros size k file) place ∙ page_is_part size p file

  page_long : length page ≡ size
  page_long = ap length page_read ∙ length-file_page size file p

  pub zeros_to : ((k : ℕ) → k < length page → get_or page k 0 ≡ 0) → file_page size file p ≡ zero_page size
  zeros_to each = sym page_read ∙ ext_get_or 0 page (zero_page size) (page_long ∙ sym (length-replicate size 0))
      (λ i lt. each i lt ∙ sym (get_or-replicate size i 0 0 (omega (arith, page_long))))

  pub zeros_from : file_page size file p ≡ zero_page size → (k : ℕ) → k < length page → get_or page k 0 ≡ 0
  zeros_from zeros k lt = ap (λ l. get_or l k 0) (page_read ∙ zeros) ∙ get_or-replicate size k 0 0 (omega (arith, page_long))
