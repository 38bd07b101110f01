-- A scan that is over.
use Rattle.std.proofs.Common.{◌≡◌, ℕ, zero, suc, ◌+◌, ◌≤◌, List, [], ◌∷◌, ◌++◌, length, Option, Some, None, ap, arith, length-append, length-drop, lit<}
use Rattle.sqval.specs.Bytes.{AreBytes}
use Rattle.sqwal.specs.Frames.{frame_end}
use Rattle.sqwal.specs.Took.{IsBegun, TookParts, TookWithin, IsSettledWithin}
use Rattle.sqwal.specs.declared.header.WalHeader.{WalHeader}
use Rattle.sqwal.specs.declared.scan.Entry.{Entry}
use Rattle.sqwal.specs.declared.scan.Progress.{Progress}
use Rattle.sqwal.specs.declared.scan.Scan.{Scan}
use Rattle.sqwal.specs.declared.scan.Why.{Why}
use Rattle.sqwal.proofs.feed.ScanUnderMoreBytes.{took-refused}
use Rattle.sqwal.proofs.feed.PieceFedToScan.{are_bytes}

zero_byte : AreBytes (0 ∷ [])
zero_byte zero = lit< tt
zero_byte (suc i) = lit< tt

-- how long what is held back is, behind the frames
held_long : (h : WalHeader) (b held : List ℕ) (n : ℕ) (sum : _) → IsBegun h b held n sum → frame_end h.page_size n + length held ≡ length b
held_long h b held n sum is =
    let from : frame_end h.page_size n ≤ length b = is.from in
    omega (arith, ap length is.rest, length-drop (frame_end h.page_size n) b)

module _ (b held : List ℕ) (es : List Entry) (p : Progress) where
  settled_parts : (o : Option WalHeader) (why : Why) → p.refused ≡ Some why → TookParts b held es p o → (more : List ℕ) → TookParts (b ++ more) held es p o
  settled_parts None why e t more = let none : p.refused ≡ None = t.refused in cc
  settled_parts (Some h) why e t more = took-refused b more h held es p t held why e

  begun_grows : (o : Option WalHeader) → p.refused ≡ None → TookParts b held es p o → TookParts (b ++ 0 ∷ []) held es p o → ⊥
  begun_grows None e t u = omega (arith, ap length t.all, ap length u.all, length-append b (0 ∷ []))
  begun_grows (Some h) e t u = omega (
    arith,
    held_long h b held (length es) p.sum (rw e at t.behind),
    held_long h (b ++ 0 ∷ []) held (length es) p.sum (rw e at u.behind),
    length-append b (0 ∷ []),
  )

pub settled_over : (most : ℕ) (b : List ℕ) (s : Scan) (why : Why) → TookWithin most b s → s.frames.progress.refused ≡ Some why → IsSettledWithin most b s
settled_over most b s why t e more are = record {
  bytes = are_bytes b more t.bytes are;
  limit = t.limit;
  parts = settled_parts b s.held.items s.frames.entries.items s.frames.progress s.header why e t.parts more;
}

pub unsettled_open : (most : ℕ) (b : List ℕ) (s : Scan) → TookWithin most b s → s.frames.progress.refused ≡ None → IsSettledWithin most b s → ⊥
unsettled_open most b s t e settled =
    begun_grows b s.held.items s.frames.entries.items s.frames.progress s.header e t.parts (settled (0 ∷ []) zero_byte).parts
