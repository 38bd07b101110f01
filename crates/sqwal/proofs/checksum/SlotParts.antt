-- What stands in a frame slot, and the sums that follow from those in the slot before it.
use Rattle.std.proofs.Common.{◌≡◌, ℕ, zero, suc, ◌+◌, ◌-◌, ◌%◌, ◌^◌, ◌<◌, ◌≤◌, List, [], ◌++◌, length, take, drop, refl, sym, ◌∙◌, ap, subst, arith, append_assoc, length-append}
use Rattle.std.specs.Prelude.{◌↔◌, IsTrue}
use Rattle.std.proofs.lemmas.List.{take_all, drop_at, length-take, length-drop, append-nil}
use Rattle.byteorder.specs.Endian.{big_bytes, little_bytes}
use Rattle.byteorder.specs.Numbers.{big_number-reads_back, little_number-reads_back, length-bytes_high_first, length-bytes_low_first}
use Rattle.sqval.specs.Bytes.{part, word}
use Rattle.sqwal.specs.Sums.{number, IsSumOf, GoesOn}
use Rattle.sqwal.specs.Header.{order_of, IsHeaderOf}
use Rattle.sqwal.specs.Frames.{frame_at, frame_end, content_of}
use Rattle.sqwal.specs.Slots.{stored, IsSlot}
use Rattle.sqwal.specs.internal.ScanParts.{GoesOver, NamesSum}
use Rattle.sqwal.specs.declared.sum.Order.{Order}
use Rattle.sqwal.specs.declared.sum.Order.TheVariants.{Big, Little}
use Rattle.sqwal.specs.declared.sum.Sum.{Sum}
use Rattle.sqwal.specs.declared.header.WalHeader.{WalHeader}
use Rattle.sqwal.specs.declared.slots.Slot.{Slot}
use Rattle.sqwal.proofs.checksum.Sums.{sum_none, sum_next, number_big, number_little, IsNext}
use Rattle.sqwal.proofs.log.PartsOfBytes.{part_in, word_in}
use Rattle.sqwal.proofs.log.DependenceOnPrefix.{frame_at-end}

-- ---- any two numbers are the sums of 8 bytes

-- four bytes whose number it is
bytes_of : Order → ℕ → List ℕ
bytes_of Big n = big_bytes 4 n
bytes_of Little n = little_bytes 4 n

length-bytes_of : (order : Order) (n : ℕ) → length (bytes_of order n) ≡ 4
unfolding bytes_of
length-bytes_of Big n = length-bytes_high_first 4 n
length-bytes_of Little n = length-bytes_low_first 0 4 n

number-bytes_of : (order : Order) (n : ℕ) (rest : List ℕ) → n < 2 ^ 32 → number order (take 4 (bytes_of order n ++ rest)) ≡ n
unfolding bytes_of
number-bytes_of Big n rest h = number_big (big_bytes 4 n ++ rest) ∙ big_number-reads_back 4 n rest h
number-bytes_of Little n rest h = number_little (little_bytes 4 n ++ rest) ∙ little_number-reads_back 4 n rest h

second_word : (s : Sum) → ℕ
second_word s = (s.s1 + (2 ^ 32 - s.s0)) % 2 ^ 32

bytes_summed : Order → Sum → List ℕ
bytes_summed order s = bytes_of order s.s0 ++ bytes_of order (second_word s)

second_adds : (a b : ℕ) → a < 2 ^ 32 → b < 2 ^ 32 → b ≡ (0 + ((b + (2 ^ 32 - a)) % 2 ^ 32) + a) % 2 ^ 32
second_adds a b h k = omega arith

summed_to : (order : Order) (s : Sum) → s.s0 < 2 ^ 32 → s.s1 < 2 ^ 32 → (length (bytes_summed order s) % 8 ≡ 0) × IsSumOf order (bytes_summed order s) s
unfolding bytes_summed second_word
summed_to order s h k =
    let a : List ℕ = bytes_of order s.s0 in
    let n : ℕ = second_word s in
    let b : List ℕ = bytes_of order n in
    let x : List ℕ = a ++ b in
    let len_a : length a ≡ 4 = length-bytes_of order s.s0 in
    let len_b : length b ≡ 4 = length-bytes_of order n in
    let len : length x ≡ 8 = omega (arith, length-append a b) in
    let fits : n < 2 ^ 32 = omega arith in
    let one : number order (take 4 x) ≡ s.s0 = number-bytes_of order s.s0 b h in
    let two : number order (take 4 (drop 4 x)) ≡ n = ap (λ (y : List ℕ). number order (take 4 y)) (drop_at a b 4 len_a ∙ sym (append-nil b)) ∙ number-bytes_of order n [] fits in
    let none : Sum = record { s0 = 0; s1 = 0 } in
    let next : IsNext none (number order (take 4 x)) (number order (take 4 (drop 4 x))) s = record {
      first = (let e : s.s0 ≡ (0 + s.s0 + 0) % 2 ^ 32 = omega arith in e) ∙ ap (λ m. (0 + m + 0) % 2 ^ 32) (sym one);
      second = second_adds s.s0 s.s1 h k ∙ ap (λ m. (0 + m + s.s0) % 2 ^ 32) (sym two);
    } in
    (ap (λ m. m % 8) len, sum_next order [] x none s refl len (sum_none order none refl refl) next)

pub sum_is : (s : Sum) (a b : ℕ) → s.s0 ≡ a → s.s1 ≡ b → s ≡ record { s0 = a; s1 = b }
sum_is s a b e0 e1 =
    let first : ◌≡◌ {A = Sum} (record { s0 = s.s0; s1 = s.s1 }) (record { s0 = a; s1 = s.s1 }) = ap (λ (x : ℕ). record { s0 = x; s1 = s.s1 }) e0 in
    let second : ◌≡◌ {A = Sum} (record { s0 = a; s1 = s.s1 }) (record { s0 = a; s1 = b }) = ap (λ (y : ℕ). record { s0 = a; s1 = y }) e1 in
    first ∙ second

-- so a sum that goes on from them is one alone
goes_on_one : (order : Order) (x : List ℕ) (before s t : Sum) → before.s0 < 2 ^ 32 → before.s1 < 2 ^ 32 → GoesOn order x before s → GoesOn order x before t → s ≡ t
goes_on_one order x before s t h k one two =
    let from = summed_to order before h k in
    let a : IsSumOf order (bytes_summed order before ++ x) s = one (bytes_summed order before) from.0 from.1 in
    let b : IsSumOf order (bytes_summed order before ++ x) t = two (bytes_summed order before) from.0 from.1 in
    let e0 : s.s0 ≡ t.s0 = a.first ∙ sym b.first in
    let e1 : s.s1 ≡ t.s1 = a.second ∙ sym b.second in
    sum_is s t.s0 t.s1 e0 e1

-- ---- a slot

none_more : (o : ℕ) → 0 + o ≡ o
none_more o = omega arith

module _ (h : WalHeader) (before : Sum) (f w : List ℕ) (i : ℕ) (long : length f ≡ 24 + h.page_size) (header : IsHeaderOf w h) (some : 1 ≤ i) (place : part w (frame_at h.page_size i) (24 + h.page_size) ≡ f) (behind : stored h.page_size w (i - 1) ≡ before) where
  at_slot : part w (frame_at h.page_size i) (24 + h.page_size) ≡ part f 0 (24 + h.page_size)
  at_slot = place ∙ sym (take_all (24 + h.page_size) f (omega arith))

  first_word : word w (frame_at h.page_size i) ≡ word f 0
  first_word = ap (λ k. word w k) (let e : frame_at h.page_size i ≡ frame_at h.page_size i + 0 = omega arith in e) ∙ word_in w f (frame_at h.page_size i) 0 (24 + h.page_size) 0 at_slot (omega arith)

  word_slot : (o : ℕ) → o + 4 ≤ 24 → word w (frame_at h.page_size i + o) ≡ word f o
  word_slot o l = word_in w f (frame_at h.page_size i) 0 (24 + h.page_size) o at_slot (omega arith) ∙ ap (λ k. word f k) (none_more o)

  part_slot : (o n : ℕ) → o + n ≤ 24 + h.page_size → part w (frame_at h.page_size i + o) n ≡ part f o n
  part_slot o n l = part_in w f (frame_at h.page_size i) 0 (24 + h.page_size) o n at_slot l ∙ ap (λ k. part f k n) (none_more o)

  first_part : part w (frame_at h.page_size i) 8 ≡ part f 0 8
  first_part = ap (λ k. part w k 8) (let e : frame_at h.page_size i ≡ frame_at h.page_size i + 0 = omega arith in e) ∙ part_slot 0 8 (omega arith)

  whole_slot : frame_end h.page_size i ≤ length w
  whole_slot =
      let at : ℕ = frame_at h.page_size i in
      let l : length (take (24 + h.page_size) (drop at w)) ≡ 24 + h.page_size = ap length place ∙ long in
      omega (arith, length-take (24 + h.page_size) (drop at w), length-drop at w, frame_at-end h.page_size i some)

  sum_slot : (k : ℕ) → i ≡ suc k → (slot : Slot) → slot.sum.s0 ≡ word f 16 → slot.sum.s1 ≡ word f 20 → slot.sum ≡ stored h.page_size w (suc k)
  sum_slot k is slot a b =
      let e0 : word w (frame_at h.page_size (suc k) + 16) ≡ word f 16 = ap (λ j. word w (frame_at h.page_size j + 16)) (sym is) ∙ word_slot 16 (omega arith) in
      let e1 : word w (frame_at h.page_size (suc k) + 20) ≡ word f 20 = ap (λ j. word w (frame_at h.page_size j + 20)) (sym is) ∙ word_slot 20 (omega arith) in
      sum_is slot.sum (word w (frame_at h.page_size (suc k) + 16)) (word w (frame_at h.page_size (suc k) + 20)) (a ∙ sym e0) (b ∙ sym e1)

  -- the sum that was reckoned goes on over the slot
  goes_on_slot : (over : Sum) → GoesOver h f before over → GoesOn (order_of w) (part w (frame_at h.page_size i) 8 ++ content_of h.page_size w i) (stored h.page_size w (i - 1)) over
  goes_on_slot over goes front even is =
      let start : IsSumOf h.order front before = subst (λ (o : Order). IsSumOf o front before) (sym header.order) (subst (λ (s : Sum). IsSumOf (order_of w) front s) behind is) in
      let all : IsSumOf h.order (front ++ part f 0 8 ++ part f 24 h.page_size) over = goes front even start in
      let same : front ++ part f 0 8 ++ part f 24 h.page_size ≡ front ++ (part w (frame_at h.page_size i) 8 ++ content_of h.page_size w i) =
      append_assoc front (part f 0 8) (part f 24 h.page_size)
      ∙ ap (λ (x : List ℕ). front ++ (x ++ part f 24 h.page_size)) (sym first_part)
      ∙ ap (λ (x : List ℕ). front ++ (part w (frame_at h.page_size i) 8 ++ x)) (sym (part_slot 24 h.page_size (omega arith))) in
      subst (λ (o : Order). IsSumOf o (front ++ (part w (frame_at h.page_size i) 8 ++ content_of h.page_size w i)) over) header.order (subst (λ (x : List ℕ). IsSumOf h.order x over) same all)

  pub slot_is : (k : ℕ) → i ≡ suc k → (slot : Slot) (over : Sum) → slot.page ≡ word f 0 → slot.size ≡ word f 4 → slot.salt1 ≡ word f 8 → slot.salt2 ≡ word f 12 → slot.sum.s0 ≡ word f 16 → slot.sum.s1 ≡ word f 20
      → before.s0 < 2 ^ 32 → before.s1 < 2 ^ 32 → GoesOver h f before over → (IsTrue slot.follows ↔ NamesSum f over) → IsSlot h.page_size w i slot
  slot_is k is slot over page size salt1 salt2 s0 s1 fits fits' goes told =
      let sum : slot.sum ≡ stored h.page_size w i = sum_slot k is slot s0 s1 ∙ ap (λ j. stored h.page_size w j) (sym is) in
      let on : GoesOn (order_of w) (part w (frame_at h.page_size i) 8 ++ content_of h.page_size w i) (stored h.page_size w (i - 1)) over = goes_on_slot over goes in
      let within0 : (stored h.page_size w (i - 1)).s0 < 2 ^ 32 = subst (λ (s : Sum). s.s0 < 2 ^ 32) (sym behind) fits in
      let within1 : (stored h.page_size w (i - 1)).s1 < 2 ^ 32 = subst (λ (s : Sum). s.s1 < 2 ^ 32) (sym behind) fits' in
      record {
        whole = whole_slot;
        page = page ∙ sym first_word;
        pages = size ∙ sym (word_slot 4 (omega arith));
        salt1 = salt1 ∙ sym (word_slot 8 (omega arith));
        salt2 = salt2 ∙ sym (word_slot 12 (omega arith));
        sum = sum;
        follows = (
          λ yes. subst (λ (s : Sum). GoesOn (order_of w) (part w (frame_at h.page_size i) 8 ++ content_of h.page_size w i) (stored h.page_size w (i - 1)) s) (sum_is over _ _ (sym (told.0 yes).0 ∙ sym s0) (sym (told.0 yes).1 ∙ sym s1) ∙ sum) on,
          λ follows.
              let one : over ≡ slot.sum = goes_on_one (order_of w) (part w (frame_at h.page_size i) 8 ++ content_of h.page_size w i) (stored h.page_size w (i - 1)) over (stored h.page_size w i) within0 within1 on follows ∙ sym sum in
              told.1 (sym s0 ∙ sym (ap (λ (s : Sum). s.s0) one), sym s1 ∙ sym (ap (λ (s : Sum). s.s1) one)),
        );
      }

pub slot_behind : (h : WalHeader) (before : Sum) (f w : List ℕ) (i : ℕ) (slot : Slot) (over : Sum) → length f ≡ 24 + h.page_size → IsHeaderOf w h → 1 ≤ i → part w (frame_at h.page_size i) (24 + h.page_size) ≡ f → stored h.page_size w (i - 1) ≡ before
    → slot.page ≡ word f 0 → slot.size ≡ word f 4 → slot.salt1 ≡ word f 8 → slot.salt2 ≡ word f 12 → slot.sum.s0 ≡ word f 16 → slot.sum.s1 ≡ word f 20
    → before.s0 < 2 ^ 32 → before.s1 < 2 ^ 32 → GoesOver h f before over → (IsTrue slot.follows ↔ NamesSum f over) → IsSlot h.page_size w i slot
slot_behind h before f w zero slot over long header some place behind = absurd (omega arith)
slot_behind h before f w (suc k) slot over long header some place behind = slot_is h before f w (suc k) long header some place behind k refl slot over
