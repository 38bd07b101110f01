-- A frame that has the bytes of a page.
use Rattle.std.proofs.Common.{◌≡◌, ◌≤◌, ◌+◌, ℕ, Bool, true, List, length, refl, sym, ◌∙◌, ap, subst, arith}
use Rattle.std.specs.Prelude.{◌↔◌, IsTrue, IfOk, Result, Ok, Err}
use Rattle.sqwal.specs.Frames.{IsValidFrame, content_of, frame_at, page_of}
use Rattle.sqwal.specs.Header.{named_size}
use Rattle.sqwal.specs.Took.{TookWithin}
use Rattle.sqwal.specs.declared.scan.Scan.{Scan}
use Rattle.sqview.specs.Laid.{part_or_zeros}
use Rattle.sqpast.proofs.known.BytesInPieces.{content_by_part}

-- bytes that are compared with those at a frame's place
pub copied_if : {E : Type 0} (r : Result Bool E) (w : List ℕ) (scan : Scan) (size frame page at : ℕ) (bytes : List ℕ) → 1 ≤ frame → length bytes ≡ size
    → at ≡ frame_at size frame + 24 → ((most : ℕ) → TookWithin most w scan → page_of (named_size w) w frame ≡ page)
    → IfOk r (λ same. IsTrue same ↔ (bytes ≡ part_or_zeros (length bytes) at w))
    → IfOk r (λ copied. (most : ℕ) → TookWithin most w scan → named_size w ≡ size → IsValidFrame size w frame
    → IsTrue copied ↔ ((page_of size w frame ≡ page) × (bytes ≡ content_of size w frame)))
copied_if (Err _) w scan size frame page at bytes one long place names is = tt
copied_if (Ok same) w scan size frame page at bytes one long place names is = λ most took named valid.
    let content : part_or_zeros (length bytes) at w ≡ content_of size w frame =
    content_by_part size w w frame at (length bytes) refl long one (valid.each frame one (let le : frame ≤ frame = omega arith in le)).whole place in
    let named_page : page_of size w frame ≡ page = ap (λ (n : ℕ). page_of n w frame) (sym named) ∙ names most took in (
      λ yes. (named_page, is.0 yes ∙ content),
      λ both. is.1 (both.1 ∙ sym content),
    )
