-- The words of a header.
use Rattle.std.proofs.Common.{◌≡◌, ℕ, ◌+◌, ◌-◌, ◌^◌, ◌<◌, ◌≤◌, List, [], ◌++◌, length, take, drop, refl, sym, ◌∙◌, ap, arith}
use Rattle.std.proofs.lemmas.List.{nil_from_length, append-nil, append_assoc, take_rest, drop-drop}
use borrow.Rule.Slice.PartMut.{put_mid, post_of}
use Rattle.std.proofs.Math.ListN.{length-drop}
use Rattle.byteorder.specs.Endian.{big_bytes, big_number}
use Rattle.byteorder.specs.Numbers.{big_from-take, big_number-reads_back}
use Rattle.sqval.specs.Bytes.{word}
use Rattle.sqval.specs.PageSize.{IsPageSize}
use Rattle.sqjournal.specs.Header.{magic, IsFirstHeader, Names, header_bytes}
use Rattle.sqjournal.specs.declared.header.JournalHeader.{JournalHeader}

-- the number at the front of what follows a place
pub word_front : (w : List ℕ) (at : ℕ) → word w at ≡ big_number 4 (drop at w)
word_front w at = big_from-take 0 4 4 (drop at w) (omega arith)

abbrev pub with_word : (at x : ℕ) → List ℕ → List ℕ
with_word at x s = take at s ++ big_bytes 4 x ++ drop (at + 4) s

-- the magic and five words fill the header
pub filled : (out : List ℕ) (a b c d e : ℕ) → length out ≡ 28
    → with_word 24 e (with_word 20 d (with_word 16 c (with_word 12 b (with_word 8 a (magic ++ drop 8 out)))))
    ≡ magic ++ big_bytes 4 a ++ big_bytes 4 b ++ big_bytes 4 c ++ big_bytes 4 d ++ big_bytes 4 e
filled out a b c d e l =
    let none : drop 4 (drop 4 (drop 4 (drop 4 (drop 4 (drop 8 out))))) ≡ [] =
    nil_from_length _ (omega (arith, length-drop 4 (drop 4 (drop 4 (drop 4 (drop 4 (drop 8 out))))), length-drop 4 (drop 4 (drop 4 (drop 4 (drop 8 out)))), length-drop 4 (drop 4 (drop 4 (drop 8 out))), length-drop 4 (drop 4 (drop 8 out)), length-drop 4 (drop 8 out), length-drop 8 out)) in
    rw none

-- a number of four bytes reads back
pub four : (x : ℕ) → x < 2 ^ 32 → big_number 4 (big_bytes 4 x) ≡ x
four x h = big_number-reads_back 4 x [] h

-- what is written is a first header with these words
pub written_names : (h : JournalHeader) → h.count < 2 ^ 32 → h.nonce < 2 ^ 32 → h.first_size < 2 ^ 32 → h.sector < 2 ^ 32 → h.page_size < 2 ^ 32 → Names (header_bytes h) h
written_names h a b c d e = record {
  count = sym (four h.count a);
  nonce = sym (four h.nonce b);
  first_size = sym (four h.first_size c);
  sector = sym (four h.sector d);
  size = sym (four h.page_size e);
}

pub written_first : (h : JournalHeader) → h.sector < 2 ^ 32 → h.page_size < 2 ^ 32 → IsPageSize h.sector → IsPageSize h.page_size → IsFirstHeader (header_bytes h)
written_first h d e s p = record {
  magic = refl;
  sector = rw (four h.sector d) s;
  size = rw (four h.page_size e) p;
}

-- a word at the front of what follows a place
pub put_at : (at : ℕ) (s four tail : List ℕ) → at + 4 ≤ length s → tail ≡ four ++ drop 4 (take (length s - at) (drop at s))
    → put_mid at (length s - at) s tail ≡ take at s ++ four ++ drop (at + 4) s
put_at at s four tail h e =
    let rest : tail ≡ four ++ drop (at + 4) s = e ∙ ap (λ t. four ++ t) (ap (drop 4) (take_rest s at) ∙ drop-drop 4 at s) in
    let none : post_of at (length s - at) s ≡ [] = nil_from_length _ (simp (length-drop) (omega arith)) in
    rw (none, append-nil, rest) (sym (append_assoc (take at s) four (drop (at + 4) s)))

pub written : (out front s1 s2 s3 s4 s5 : List ℕ) (h : JournalHeader) (size : ℕ) → length out ≡ 28 → front ≡ magic → size ≡ h.page_size
    → s1 ≡ with_word 8 h.count (front ++ post_of 0 8 out) → s2 ≡ with_word 12 h.nonce s1 → s3 ≡ with_word 16 h.first_size s2
    → s4 ≡ with_word 20 h.sector s3 → s5 ≡ with_word 24 size s4 → s5 ≡ header_bytes h
written out front s1 s2 s3 s4 s5 h size l m z a b c d e =
    e ∙ ap (λ x. with_word 24 x s4) z ∙ ap (with_word 24 h.page_size) (d ∙ ap (with_word 20 h.sector) (c ∙ ap (with_word 16 h.first_size) (b ∙ ap (with_word 12 h.nonce) (a ∙ ap (λ f. with_word 8 h.count (f ++ post_of 0 8 out)) m))))
    ∙ filled out h.count h.nonce h.first_size h.sector h.page_size l
