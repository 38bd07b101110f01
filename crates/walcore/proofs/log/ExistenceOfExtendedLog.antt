-- There is a frame behind each log, and so a commit.
use Rattle.walcore.proofs.Below.{AreBytes, Bool, GoesOn, IsAppended, IsExtended, IsFrameHead, IsGrown, IsHeaderOf, IsLog, List, Order, Pages, Sum, WalHeader, [], append_bytes, appended, arith, big_bytes, cond, drop, false, get_or, goes_on_none, goes_on_pair, grown_all, grown_next, grown_none, length, length-append, lit<, number, numbers_bytes, order_of, page_pairs, refl, subst, suc, sum_0, sum_1, summed, sym, take, take_all, true, word, word_fits, words, zero, ℕ, ◌%◌, ◌*◌, ◌++◌, ◌+◌, ◌/◌, ◌<◌, ◌==◌, ◌^◌, ◌∷◌, ◌≡◌, ◌≢◌, ◌≤◌}

-- a sum goes on over the first k pairs of words
goes_over_pairs : (order : Order) (xs : List ℕ) (start : Sum) (k : ℕ) → 8 * k ≤ length xs → (after : Sum) × GoesOn order (take (8 * k) xs) start after
goes_over_pairs order xs start zero lt = (start, goes_on_none order xs start)
goes_over_pairs order xs start (suc k) lt =
    let before = goes_over_pairs order xs start k (omega arith) in
    let sum : Sum = before.0 in
    let pair : List ℕ = take 8 (drop (8 * k) xs) in
    let s0 : ℕ = (sum.s0 + number order (take 4 pair) + sum.s1) % 2 ^ 32 in
    let next : Sum = record { s0 = s0; s1 = (sum.s1 + number order (take 4 (drop 4 pair)) + s0) % 2 ^ 32 } in
    let goes : GoesOn order (take (8 * (k + 1)) xs) start next = goes_on_pair order xs pair k start sum next (omega arith) refl before.1 (record { first = refl; second = refl }) in
    (next, subst (λ n. GoesOn order (take (8 * n) xs) start next) (let e : k + 1 ≡ suc k = omega arith in e) goes)

goes_over : (order : Order) (xs : List ℕ) (start : Sum) → length xs % 8 ≡ 0 → (after : Sum) × GoesOn order xs start after
goes_over order xs start whole =
    let k : ℕ = length xs / 8 in
    let all : 8 * k ≡ length xs = omega arith in
    let goes = goes_over_pairs order xs start k (omega arith) in
    (goes.0, subst (λ x. GoesOn order x start goes.0) (take_all (8 * k) xs (omega arith)) goes.1)

-- a frame that can be made
pub record IsFrame (size page s : ℕ) (content : List ℕ) : Type 0 where
  pub some : page ≢ 0
  pub page_fits : page < 2 ^ 32
  pub size_fits : s < 2 ^ 32
  pub full : length content ≡ size
  pub bytes : AreBytes content

-- a log with it
record Framed (h : WalHeader) (e : List ℕ) (n page s : ℕ) (content : List ℕ) : Type 0 where
  longer : List ℕ
  after : Sum
  bytes : AreBytes longer
  is : IsAppended h e n page s content after longer

framed : (h : WalHeader) (e : List ℕ) (n page s : ℕ) (content : List ℕ) → AreBytes e → IsHeaderOf e h → IsLog h.page_size e n → IsFrame h.page_size page s content → Framed h e n page s content
framed h e n page s content bytes header log frame =
    let before : Sum = record { s0 = sum_0 (words h.order (summed h.page_size e n)); s1 = sum_1 (words h.order (summed h.page_size e n)) } in
    let front : List ℕ = big_bytes 4 page ++ big_bytes 4 s in
    let pairs : h.page_size % 8 ≡ 0 = page_pairs h.page_size log.header.is_size in
    let len : length (front ++ content) ≡ 8 + length content = length-append front content in
    let goes = goes_over h.order (front ++ content) before (omega (arith, frame.full)) in
    let after : Sum = goes.0 in
    let head : List ℕ = front ++ big_bytes 4 h.salt1 ++ big_bytes 4 h.salt2 ++ big_bytes 4 after.s0 ++ big_bytes 4 after.s1 in
    let made : IsFrameHead h before page s content head after = record { sum = goes.1; bytes = refl } in
    let fit_1 : h.salt1 < 2 ^ 32 = subst (λ n. n < 2 ^ 32) (sym header.salt1) (word_fits e 16 bytes) in
    let fit_2 : h.salt2 < 2 ^ 32 = subst (λ n. n < 2 ^ 32) (sym header.salt2) (word_fits e 20 bytes) in
    record {
      longer = e ++ (head ++ content);
      after = after;
      bytes = append_bytes e (head ++ content) bytes (append_bytes head content (numbers_bytes (page ∷ s ∷ h.salt1 ∷ h.salt2 ∷ after.s0 ∷ after.s1 ∷ [])) frame.bytes);
      is = appended h e head content n page s before after header log (record { first = refl; second = refl }) frame.some frame.page_fits frame.size_fits fit_1 fit_2 frame.full made;
    }

-- only the last frame of a commit names its size
pub size_fits : (last : Bool) (s : ℕ) → s < 2 ^ 32 → cond last s 0 < 2 ^ 32
size_fits true s lt = lt
size_fits false s lt = lit< tt

-- pages that a commit may hand over
pub record AreFrames (size : ℕ) (pages : Pages) (s : ℕ) : Type 0 where
  pub each : (k : ℕ) → k < length pages → IsFrame size (get_or pages k (0, [])).0 (cond (suc k == length pages) s 0) (get_or pages k (0, [])).1

grown_exists : (size : ℕ) (e : List ℕ) (n : ℕ) (pages : Pages) (s : ℕ) → AreBytes e → IsLog size e n → AreFrames size pages s → (k : ℕ) → k ≤ length pages → (f : List ℕ) × IsGrown size e n pages s k f
grown_exists size e n pages s bytes log frames zero lt = (e, grown_none size e n pages s bytes log)
grown_exists size e n pages s bytes log frames (suc k) lt =
    let before = grown_exists size e n pages s bytes log frames k (omega arith) in
    let f : List ℕ = before.0 in
    let grown : IsGrown size e n pages s k f = before.1 in
    let h : WalHeader = record { order = order_of f; page_size = size; sequence = word f 12; salt1 = word f 16; salt2 = word f 20 } in
    let header : IsHeaderOf f h = record { valid = grown.log.header; order = refl; sequence = refl; salt1 = refl; salt2 = refl } in
    let one = framed h f (n + k) (get_or pages k (0, [])).0 (cond (suc k == length pages) s 0) (get_or pages k (0, [])).1 grown.bytes header grown.log (frames.each k lt) in
    (one.longer, grown_next h e n pages s k f one.longer one.after log grown one.bytes one.is)

pub extended_exists : (size : ℕ) (e : List ℕ) (n : ℕ) (pages : Pages) (s : ℕ) → AreBytes e → IsLog size e n → AreFrames size pages s → (f : List ℕ) × IsExtended size e n pages s f
extended_exists size e n pages s bytes log frames =
    let grown = grown_exists size e n pages s bytes log frames (length pages) (omega arith) in
    (grown.0, grown_all size e n pages s grown.0 grown.1)
