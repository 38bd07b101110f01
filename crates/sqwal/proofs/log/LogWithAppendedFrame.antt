-- A header that is written is a log of no frames, and with a frame behind it a log is one of a frame more.
use Rattle.std.proofs.Common.{◌≡◌, ◌≢◌, ⊎_elim, ℕ, zero, suc, ◌+◌, ◌%◌, ◌^◌, ◌<◌, ◌≤◌, List, ◌++◌, length, take, drop, refl, sym, ◌∙◌, ap, subst, arith, append_assoc, length-append}
use Rattle.std.proofs.lemmas.List.{take_all, drop_at, take-append-le, length-take-le, length-drop, get_or-drop}
use Rattle.std.proofs.lemmas.Bool.{cases_eq}
use Rattle.std.proofs.lemmas.Nat.{mod_below}
use Rattle.byteorder.specs.Endian.{big_bytes, big_number}
use Rattle.byteorder.specs.Numbers.{big_from-lt, big_from-take}
use Rattle.sqval.specs.Bytes.{part, word, AreBytes}
use Rattle.sqwal.specs.Sums.{IsSumOf}
use Rattle.sqwal.specs.Header.{order_of, IsHeaderOf}
use Rattle.sqwal.specs.Frames.{frame_at, frame_end, page_of, size_of, content_of, summed, Passes, IsFrameHead}
use Rattle.sqwal.specs.Log.{IsLog}
use Rattle.sqwal.specs.declared.sum.Order.{Order}
use Rattle.sqwal.specs.declared.sum.Sum.{Sum}
use Rattle.sqwal.specs.declared.header.WalHeader.{WalHeader}
use Rattle.sqwal.proofs.log.DependenceOnPrefix.{frame_at-suc, frame_end-suc, frame_at-end, frame_end-head, frame_end-le, word_same, order_same, header_same, summed_same, passes_same}
use Rattle.sqwal.proofs.log.PartsOfBytes.{drop_to, part_on, word_on, four}
use Rattle.sqwal.proofs.log.WrittenHeadersAndFrames.{page_pairs}

-- a header's words fit, where it stands in bytes
pub word_fits : (w : List ℕ) (at : ℕ) → AreBytes w → word w at < 2 ^ 32
word_fits w at are =
    let e : word w at ≡ big_number 4 (drop at w) = big_from-take 0 4 4 (drop at w) (omega arith) in
    let lt : big_number 4 (drop at w) < 256 ^ 4 = big_from-lt 0 4 (drop at w) (λ k. omega (arith, get_or-drop at w k 0, are (at + k))) in
    omega arith

-- what the sums are over is pairs of words
pub summed_pairs : (size : ℕ) (w : List ℕ) (n : ℕ) → size % 8 ≡ 0 → frame_end size n ≤ length w → length (summed size w n) % 8 ≡ 0
unfolding summed
summed_pairs size w zero pairs long = ap (λ k. k % 8) (length-take-le 24 (drop 0 w) (omega (arith, frame_end-head size 0)))
summed_pairs size w (suc n) pairs long =
    let at : ℕ = frame_at size (suc n) in
    let end : at + 24 + size ≡ frame_end size (suc n) = frame_at-end size (suc n) (omega arith) in
    let first : length (part w at 8) ≡ 8 = length-take-le 8 (drop at w) (omega (arith, length-drop at w)) in
    let page : length (part w (at + 24) size) ≡ size = length-take-le size (drop (at + 24) w) (omega (arith, length-drop (at + 24) w)) in
    let before : length (summed size w n) % 8 ≡ 0 = summed_pairs size w n pairs (omega (arith, frame_end-le size n (suc n) (omega arith))) in
    let all : length (summed size w n ++ part w at 8 ++ part w (at + 24) size) ≡ length (summed size w n) + 8 + size = length-append (summed size w n ++ part w at 8) (part w (at + 24) size) ∙ ap (λ k. k + length (part w (at + 24) size)) (length-append (summed size w n) (part w at 8)) ∙ omega arith in
    omega (arith, all)

-- a log with a frame behind it
pub record IsAppended (h : WalHeader) (e : List ℕ) (n page size : ℕ) (content : List ℕ) (after : Sum) (w : List ℕ) : Type 0 where
  pub header : IsHeaderOf w h
  pub log : IsLog h.page_size w (suc n)
  pub before : take (frame_end h.page_size n) w ≡ take (frame_end h.page_size n) e
  pub page_is : page_of h.page_size w (suc n) ≡ page
  pub size_is : size_of h.page_size w (suc n) ≡ size
  pub content_is : content_of h.page_size w (suc n) ≡ content
  pub sum : IsSumOf h.order (summed h.page_size w (suc n)) after

-- what stands in a frame
record StandsIn (w : List ℕ) (at page size salt1 salt2 s0 s1 : ℕ) (content : List ℕ) : Type 0 where
  page_is : word w at ≡ page
  size_is : word w (at + 4) ≡ size
  salt1_is : word w (at + 8) ≡ salt1
  salt2_is : word w (at + 12) ≡ salt2
  s0_is : word w (at + 16) ≡ s0
  s1_is : word w (at + 20) ≡ s1
  front_is : part w at 8 ≡ big_bytes 4 page ++ big_bytes 4 size
  content_is : part w (at + 24) (length content) ≡ content

stands_in : (w : List ℕ) (at page size salt1 salt2 s0 s1 : ℕ) (content : List ℕ)
    → drop at w ≡ (big_bytes 4 page ++ big_bytes 4 size ++ big_bytes 4 salt1 ++ big_bytes 4 salt2 ++ big_bytes 4 s0 ++ big_bytes 4 s1) ++ content
    → page < 2 ^ 32 → size < 2 ^ 32 → salt1 < 2 ^ 32 → salt2 < 2 ^ 32 → s0 < 2 ^ 32 → s1 < 2 ^ 32 → StandsIn w at page size salt1 salt2 s0 s1 content
stands_in w at page size salt1 salt2 s0 s1 content is f0 f1 f2 f3 f4 f5 =
    let r5 : List ℕ = big_bytes 4 s1 ++ content in
    let r4 : List ℕ = big_bytes 4 s0 ++ r5 in
    let r3 : List ℕ = big_bytes 4 salt2 ++ r4 in
    let r2 : List ℕ = big_bytes 4 salt1 ++ r3 in
    let r1 : List ℕ = big_bytes 4 size ++ r2 in
    let d0 : drop at w ≡ big_bytes 4 page ++ r1 = is in
    let d1 : drop (at + 4) w ≡ r1 = drop_to w (big_bytes 4 page) r1 at 4 (at + 4) d0 (four page) refl in
    let d2 : drop (at + 8) w ≡ r2 = drop_to w (big_bytes 4 size) r2 (at + 4) 4 (at + 8) d1 (four size) (omega arith) in
    let d3 : drop (at + 12) w ≡ r3 = drop_to w (big_bytes 4 salt1) r3 (at + 8) 4 (at + 12) d2 (four salt1) (omega arith) in
    let d4 : drop (at + 16) w ≡ r4 = drop_to w (big_bytes 4 salt2) r4 (at + 12) 4 (at + 16) d3 (four salt2) (omega arith) in
    let d5 : drop (at + 20) w ≡ r5 = drop_to w (big_bytes 4 s0) r5 (at + 16) 4 (at + 20) d4 (four s0) (omega arith) in
    let d6 : drop (at + 24) w ≡ content = drop_to w (big_bytes 4 s1) content (at + 20) 4 (at + 24) d5 (four s1) (omega arith) in
    record {
      page_is = word_on w r1 at page d0 f0;
      size_is = word_on w r2 (at + 4) size d1 f1;
      salt1_is = word_on w r3 (at + 8) salt1 d2 f2;
      salt2_is = word_on w r4 (at + 12) salt2 d3 f3;
      s0_is = word_on w r5 (at + 16) s0 d4 f4;
      s1_is = word_on w content (at + 20) s1 d5 f5;
      front_is = part_on w (big_bytes 4 page ++ big_bytes 4 size) r2 at 8 is refl;
      content_is = ap (take (length content)) d6 ∙ take_all (length content) content (omega arith);
    }

-- of a header only the first 32 bytes are looked at
pub header_of_same : (w v : List ℕ) (h : WalHeader) → take 32 w ≡ take 32 v → 32 ≤ length v → IsHeaderOf w h → IsHeaderOf v h
header_of_same w v h e long is = record {
  valid = header_same h.page_size w v 32 e (omega arith) long is.valid;
  order = is.order ∙ order_same w v 32 e (omega arith);
  sequence = is.sequence ∙ word_same w v 32 12 e (omega arith);
  salt1 = is.salt1 ∙ word_same w v 32 16 e (omega arith);
  salt2 = is.salt2 ∙ word_same w v 32 20 e (omega arith);
}

pub appended : (h : WalHeader) (e head content : List ℕ) (n page size : ℕ) (before after : Sum) → IsHeaderOf e h → IsLog h.page_size e n → IsSumOf h.order (summed h.page_size e n) before
    → page ≢ 0 → page < 2 ^ 32 → size < 2 ^ 32 → h.salt1 < 2 ^ 32 → h.salt2 < 2 ^ 32 → length content ≡ h.page_size → IsFrameHead h before page size content head after
    → IsAppended h e n page size content after (e ++ (head ++ content))
unfolding summed
appended h e head content n page size before after header log sums some fit_p fit_s fit_1 fit_2 full made =
    let u : ℕ = h.page_size in
    let w : List ℕ = e ++ (head ++ content) in
    let at : ℕ = frame_at u (suc n) in
    let long : 32 ≤ length e = log.header.whole in
    let begin : at ≡ length e = frame_at-suc u n ∙ sym log.whole in
    let len : length (head ++ content) ≡ 24 + length content = ap length (ap (λ (x : List ℕ). x ++ content) made.bytes) ∙ omega arith in
    let len_w : length w ≡ length e + length (head ++ content) = length-append e (head ++ content) in
    let same : take (frame_end u n) w ≡ take (frame_end u n) e = take-append-le (frame_end u n) e (head ++ content) (omega (arith, log.whole)) in
    let first : take 32 w ≡ take 32 e = take-append-le 32 e (head ++ content) long in
    let header_w : IsHeaderOf w h = header_of_same e w h (sym first) (omega arith) header in
    let first_8 : List ℕ = big_bytes 4 page ++ big_bytes 4 size in
    let pairs : length (summed u e n) % 8 ≡ 0 = summed_pairs u e n (page_pairs u log.header.is_size) (omega (arith, log.whole)) in
    let total : IsSumOf h.order (summed u e n ++ (first_8 ++ content)) after = made.sum (summed u e n) pairs sums in
    let fit_0 : after.s0 < 2 ^ 32 = subst (λ x. x < 2 ^ 32) (sym total.first) (mod_below _ (2 ^ 32) (omega arith)) in
    let fit_3 : after.s1 < 2 ^ 32 = subst (λ x. x < 2 ^ 32) (sym total.second) (mod_below _ (2 ^ 32) (omega arith)) in
    let in_frame : StandsIn w at page size h.salt1 h.salt2 after.s0 after.s1 content = stands_in w at page size h.salt1 h.salt2 after.s0 after.s1 content
    (drop_at e (head ++ content) at (sym begin) ∙ ap (λ (x : List ℕ). x ++ content) made.bytes) fit_p fit_s fit_1 fit_2 fit_0 fit_3 in
    let content_is : content_of u w (suc n) ≡ content = ap (part w (at + 24)) (sym full) ∙ in_frame.content_is in
    let all_is : summed u w (suc n) ≡ summed u e n ++ (first_8 ++ content) =
    ap (λ (x : List ℕ). x ++ part w at 8 ++ content_of u w (suc n)) (summed_same u w e (frame_end u n) n same (omega arith))
    ∙ ap (λ (x : List ℕ). summed u e n ++ x ++ content_of u w (suc n)) in_frame.front_is
    ∙ ap (λ (x : List ℕ). summed u e n ++ first_8 ++ x) content_is
    ∙ append_assoc (summed u e n) first_8 content in
    let sum_w : IsSumOf h.order (summed u w (suc n)) after = subst (λ (x : List ℕ). IsSumOf h.order x after) (sym all_is) total in
    let sum_o : IsSumOf (order_of w) (summed u w (suc n)) after = subst (λ (o : Order). IsSumOf o (summed u w (suc n)) after) header_w.order sum_w in
    let passes : Passes u w (suc n) = record {
      header = header_w.valid;
      whole = omega (arith, log.whole, frame_end-suc u n);
      salts = (in_frame.salt1_is ∙ header_w.salt1, in_frame.salt2_is ∙ header_w.salt2);
      page = λ z. some (sym in_frame.page_is ∙ z);
      sums = (in_frame.s0_is ∙ sum_o.first, in_frame.s1_is ∙ sum_o.second);
    } in
    record {
      header = header_w;
      log = record {
        header = header_w.valid;
        whole = omega (arith, log.whole, frame_end-suc u n);
        all = λ j a b. ⊎_elim
            (λ z. subst (λ (k : ℕ). Passes u w k) (sym z) passes)
            (λ other. let le : j ≤ n = omega arith in passes_same u e w (frame_end u n) j (sym same) a (frame_end-le u j n le) (omega (arith, log.whole)) (log.all j a le))
            (cases_eq j (suc n));
      };
      before = same;
      page_is = in_frame.page_is;
      size_is = in_frame.size_is;
      content_is = content_is;
      sum = sum_w;
    }
