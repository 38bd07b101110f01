-- What is written is valid and reads back.
use Rattle.std.proofs.Common.{◌≡◌, ⊎_elim, ℕ, ◌%◌, ◌^◌, ◌<◌, List, [], ◌∷◌, ◌++◌, length, take, drop, refl, sym, ◌∙◌, ap, subst, arith, lit<, length-append, append_assoc}
use Rattle.std.specs.Prelude.{slice_index}
use Rattle.std.specs.List.{flat_map}
use Rattle.std.proofs.lemmas.List.{take_at, drop_at, append-nil}
use borrow.Rule.Slice.PartMut.{put_mid}
use Rattle.byteorder.specs.Endian.{big_bytes}
use Rattle.sqval.specs.Bytes.{part, word}
use Rattle.sqval.specs.PageSize.{IsPageSize}
use Rattle.sqval.proofs.page.PageSizes.{one_of}
use Rattle.sqwal.specs.Sums.{IsSumOf, GoesOn}
use Rattle.sqwal.specs.internal.Magic.{NamesOrder}
use Rattle.sqwal.specs.Header.{IsHeaderOf}
use Rattle.sqwal.specs.declared.sum.Order.{Order}
use Rattle.sqwal.specs.declared.sum.Sum.{Sum}
use Rattle.sqwal.specs.declared.header.WalHeader.{WalHeader}
use Rattle.sqwal.proofs.log.HeaderAsRead.{sums_right, header_read}
use Rattle.sqwal.proofs.log.PartsOfBytes.{drop_to, part_on, word_on, four}

-- a list whose front was written, and then the rest
pub put_two : (a r b : List ℕ) (n k : ℕ) → length a ≡ n → length r ≡ k → put_mid n k (a ++ r) b ≡ a ++ b
put_two a r b n k first rest =
    let front : take n (a ++ r) ≡ a = take_at a r n first in
    let none : drop k (drop n (a ++ r)) ≡ [] = ap (drop k) (drop_at a r n first) ∙ ap (drop k) (sym (append-nil r)) ∙ drop_at r [] k rest in
    ap (λ (x : List ℕ). x ++ (b ++ drop k (drop n (a ++ r)))) front ∙ ap (λ (x : List ℕ). a ++ (b ++ x)) none ∙ ap (λ (x : List ℕ). a ++ x) (append-nil b)

pub goes_on_append : (order : Order) (a b : List ℕ) (s t u : Sum) → length a % 8 ≡ 0 → GoesOn order a s t → GoesOn order b t u → GoesOn order (a ++ b) s u
goes_on_append order a b s t u whole first second front is sums =
    let len : length (front ++ a) % 8 ≡ 0 = omega (arith, length-append front a) in
    subst (λ (x : List ℕ). IsSumOf order x u) (append_assoc front a b) (second (front ++ a) len (first front is sums))

-- the words of a header without its sums
abbrev pub front_words : (magic size : ℕ) → WalHeader → List ℕ
front_words magic size h = magic ∷ 3007000 ∷ size ∷ h.sequence ∷ h.salt1 ∷ h.salt2 ∷ []

abbrev pub Fit : List ℕ → Type 0
Fit ns = (i : ℕ) → slice_index ns i < 2 ^ 32

pub header_made : (h : WalHeader) (magic size : ℕ) (sum : Sum) (front w : List ℕ) → front ≡ flat_map (big_bytes 4) (front_words magic size h) → w ≡ front ++ flat_map (big_bytes 4) (sum.s0 ∷ sum.s1 ∷ [])
    → NamesOrder magic h.order → size ≡ h.page_size → IsPageSize size → Fit (front_words magic size h) → Fit (sum.s0 ∷ sum.s1 ∷ []) → IsSumOf h.order front sum → IsHeaderOf w h
header_made h magic size sum front w front_is w_is named size_is is_size fit fit_sums is =
    let q5 : List ℕ = big_bytes 4 h.salt2 in
    let q4 : List ℕ = big_bytes 4 h.salt1 ++ q5 in
    let q3 : List ℕ = big_bytes 4 h.sequence ++ q4 in
    let q2 : List ℕ = big_bytes 4 size ++ q3 in
    let q1 : List ℕ = big_bytes 4 3007000 ++ q2 in
    let q : List ℕ = big_bytes 4 magic ++ q1 in
    let t : List ℕ = big_bytes 4 sum.s0 ++ big_bytes 4 sum.s1 in
    let w_all : w ≡ q ++ t = w_is ∙ ap (λ (x : List ℕ). x ++ t) front_is in
    let d0 : drop 0 w ≡ big_bytes 4 magic ++ (q1 ++ t) = w_all in
    let d1 : drop 4 w ≡ big_bytes 4 3007000 ++ (q2 ++ t) = drop_to w (big_bytes 4 magic) (q1 ++ t) 0 4 4 d0 (four magic) refl in
    let d2 : drop 8 w ≡ big_bytes 4 size ++ (q3 ++ t) = drop_to w (big_bytes 4 3007000) (q2 ++ t) 4 4 8 d1 (four 3007000) refl in
    let d3 : drop 12 w ≡ big_bytes 4 h.sequence ++ (q4 ++ t) = drop_to w (big_bytes 4 size) (q3 ++ t) 8 4 12 d2 (four size) refl in
    let d4 : drop 16 w ≡ big_bytes 4 h.salt1 ++ (q5 ++ t) = drop_to w (big_bytes 4 h.sequence) (q4 ++ t) 12 4 16 d3 (four h.sequence) refl in
    let d5 : drop 20 w ≡ big_bytes 4 h.salt2 ++ t = drop_to w (big_bytes 4 h.salt1) (q5 ++ t) 16 4 20 d4 (four h.salt1) refl in
    let d6 : drop 24 w ≡ big_bytes 4 sum.s0 ++ big_bytes 4 sum.s1 = drop_to w (big_bytes 4 h.salt2) t 20 4 24 d5 (four h.salt2) refl in
    let d7 : drop 28 w ≡ big_bytes 4 sum.s1 ++ [] = drop_to w (big_bytes 4 sum.s0) (big_bytes 4 sum.s1) 24 4 28 d6 (four sum.s0) refl in
    let len : length w ≡ 32 = ap length w_all in
    let magic_is : word w 0 ≡ magic = word_on w (q1 ++ t) 0 magic d0 (fit 0) in
    let named_w : NamesOrder (word w 0) h.order = subst (λ (n : ℕ). NamesOrder n h.order) (sym magic_is) named in
    let size_w : word w 8 ≡ size = word_on w (q3 ++ t) 8 size d2 (fit 2) in
    let front_w : part w 0 24 ≡ front = part_on w q t 0 24 w_all refl ∙ sym front_is in
    let is_w : IsSumOf h.order (part w 0 24) sum = subst (λ (x : List ℕ). IsSumOf h.order x sum) (sym front_w) is in
    let s0 : word w 24 ≡ sum.s0 = word_on w (big_bytes 4 sum.s1) 24 sum.s0 d6 (fit_sums 0) in
    let s1 : word w 28 ≡ sum.s1 = word_on w [] 28 sum.s1 d7 (fit_sums 1) in
    header_read w h (omega arith) named_w (subst (λ (n : ℕ). IsPageSize n) size_is is_size) (sym size_is ∙ sym size_w)
    (sums_right w h.order sum named_w is_w (sym s0) (sym s1))
    (word_on w (q2 ++ t) 4 3007000 d1 (lit< tt))
    (sym (word_on w (q4 ++ t) 12 h.sequence d3 (fit 3)))
    (sym (word_on w (q5 ++ t) 16 h.salt1 d4 (fit 4)))
    (sym (word_on w t 20 h.salt2 d5 (fit 5)))

-- a page is pairs of words
pub page_pairs : (n : ℕ) → IsPageSize n → n % 8 ≡ 0
page_pairs n is =
    let of : (k : ℕ) → k % 8 ≡ 0 → n ≡ k → n % 8 ≡ 0 = λ k z e. ap (λ x. x % 8) e ∙ z in
    ⊎_elim (of 512 refl) (⊎_elim (of 1024 refl) (⊎_elim (of 2048 refl) (⊎_elim (of 4096 refl) (⊎_elim (of 8192 refl) (⊎_elim (of 16384 refl) (⊎_elim (of 32768 refl) (of 65536 refl))))))) (one_of n is)
