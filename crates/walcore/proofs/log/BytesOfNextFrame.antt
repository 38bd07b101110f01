-- The bytes of a log's next frame, and the sum behind it, are those that are made of its page.
use Rattle.walcore.proofs.Below.{AreBytes, IsAppended, IsExtended, IsFrameHead, IsHeaderOf, IsLog, IsSumOf, List, Sum, WalHeader, [], all_same, ap, append_bytes, appended, arith, cases_lt, cond, content_of, content_same, drop, drop-take, drop_at, frame_end, frame_end-head, frame_end-le, get_or, get_or-drop, get_or-take, get_or_past, grown_all, grown_next, grown_none, header_of_same, header_same, length, length-take, length-take-le, numbers_bytes, page_of, page_same, part, size_of, size_same, subst, suc, summed, summed_same, sym, take, take-take, word_fits, ℕ, ⊎_elim, ◌++◌, ◌+◌, ◌-◌, ◌<◌, ◌==◌, ◌^◌, ◌∙◌, ◌∷◌, ◌≡◌, ◌≤◌}
use Rattle.walcore.proofs.commit.EraAfterCommit.{content_whole}
use Rattle.walcore.proofs.log.UniquenessOfExtendedLog.{extended_unique}

pub take_bytes : (k : ℕ) (w : List ℕ) → AreBytes w → AreBytes (take k w)
take_bytes k w bytes i = ⊎_elim (λ lt. omega (arith, get_or-take k w i 0 lt, bytes i)) (λ ge. let z : get_or (take k w) i 0 ≡ 0 = get_or_past (take k w) i 0 (omega (arith, length-take k w)) in omega (arith, z)) (cases_lt i k)

pub drop_bytes : (k : ℕ) (w : List ℕ) → AreBytes w → AreBytes (drop k w)
drop_bytes k w bytes i = omega (arith, get_or-drop k w i 0, bytes (k + i))

module _ (size : ℕ) (f : List ℕ) (m : ℕ) (log : IsLog size f m) where
  front : ℕ → List ℕ
  front n = take (frame_end size n) f

  front_long : (n : ℕ) → n ≤ m → length (take (frame_end size n) f) ≡ frame_end size n
  front_long n le = length-take-le (frame_end size n) f (omega (arith, log.whole, frame_end-le size n m le))

  -- the first frames of a log are one
  pub front_log : (n : ℕ) → n ≤ m → IsLog size (take (frame_end size n) f) n
  front_log n le =
      let k : ℕ = frame_end size n in
      let long : length (take k f) ≡ k = front_long n le in
      let same : take k f ≡ take k (take k f) = sym (take-take k k f (omega arith)) in
      record {
        header = header_same size f (take k f) k same (frame_end-head size n) (omega (arith, frame_end-head size n)) log.header;
        whole = long;
        all = all_same size f (take k f) k n same (omega arith) (omega arith) (λ j a b. log.all j a (omega arith));
      }

  -- and with a frame more it is extended
  pub front_extended : (n : ℕ) → n < m → AreBytes f → IsExtended size (take (frame_end size n) f) n ((page_of size f (suc n), content_of size f (suc n)) ∷ []) (size_of size f (suc n)) (take (frame_end size (suc n)) f)
  front_extended n lt bytes =
      let a : ℕ = frame_end size n in
      let b : ℕ = frame_end size (suc n) in
      let up : a ≤ b = frame_end-le size n (suc n) (omega arith) in
      let next : suc n ≡ n + 1 = omega arith in
      let same : take b f ≡ take b (take b f) = sym (take-take b b f (omega arith)) in
      let g : List ℕ = take b f in
      let pages : List (ℕ × List ℕ) = (page_of size f (suc n), content_of size f (suc n)) ∷ [] in
      let first : n + suc 0 ≡ suc n = omega arith in
      record {
        bytes = take_bytes b f bytes;
        log = subst (λ (k : ℕ). IsLog size (take b f) k) next (front_log (suc n) lt);
        front = ap (λ (k : ℕ). take k (take b f)) (front_long n (omega arith)) ∙ take-take a b f up;
        page = λ k one. subst (λ (j : ℕ). page_of size g (n + suc j) ≡ (get_or {A = ℕ × List ℕ} pages j (0, [])).0) (let z : 0 ≡ k = omega arith in z)
            (ap (page_of size g) first ∙ page_same size g f b (suc n) (sym same) (omega arith) (omega arith));
        content = λ k one. subst (λ (j : ℕ). content_of size g (n + suc j) ≡ (get_or {A = ℕ × List ℕ} pages j (0, [])).1) (let z : 0 ≡ k = omega arith in z)
            (ap (content_of size g) first ∙ content_same size g f b (suc n) (sym same) (omega arith) (omega arith));
        sizes = λ k one. subst (λ (j : ℕ). size_of size g (n + suc j) ≡ cond (suc j == length pages) (size_of size f (suc n)) 0) (let z : 0 ≡ k = omega arith in z)
            (ap (size_of size g) first ∙ size_same size g f b (suc n) (sym same) (omega arith) (omega arith));
      }

-- A frame that is made of a page as it stands in a log of bytes is that log's next one.
pub record IsNextFrame (h : WalHeader) (f : List ℕ) (n : ℕ) (frame : List ℕ) (after : Sum) : Type 0 where
  pub bytes : frame ≡ part f (frame_end h.page_size n) (frame_end h.page_size (suc n) - frame_end h.page_size n)
  pub sum : IsSumOf h.order (summed h.page_size f (suc n)) after

module _ (h : WalHeader) (f : List ℕ) (m : ℕ) (log : IsLog h.page_size f m) (bytes : AreBytes f) (header : IsHeaderOf f h) (n : ℕ) (lt : n < m) (before : Sum) (sum : IsSumOf h.order (summed h.page_size f n) before) where
  pub next_frame : (head : List ℕ) (after : Sum) → IsFrameHead h before (page_of h.page_size f (suc n)) (size_of h.page_size f (suc n)) (content_of h.page_size f (suc n)) head after
      → IsNextFrame h f n (head ++ content_of h.page_size f (suc n)) after
  next_frame head after made =
      let size : ℕ = h.page_size in
      let a : ℕ = frame_end size n in
      let b : ℕ = frame_end size (suc n) in
      let up : a ≤ b = frame_end-le size n (suc n) (omega arith) in
      let e : List ℕ = take a f in
      let content : List ℕ = content_of size f (suc n) in
      let g : List ℕ = e ++ (head ++ content) in
      let page : ℕ = page_of size f (suc n) in
      let count : ℕ = size_of size f (suc n) in
      let long_e : length e ≡ a = front_long size f m log n (omega arith) in
      let log_e : IsLog size e n = front_log size f m log n (omega arith) in
      let same_e : take a e ≡ take a f = take-take a a f (omega arith) in
      let header_e : IsHeaderOf e h = header_of_same f e h (sym (take-take 32 a f (frame_end-head size n))) (omega (arith, frame_end-head size n)) header in
      let sum_e : IsSumOf h.order (summed size e n) before = subst (λ (x : List ℕ). IsSumOf h.order x before) (sym (summed_same size e f a n same_e (omega arith))) sum in
      let bytes_e : AreBytes e = take_bytes a f bytes in
      let full : length content ≡ size = content_whole size f m (suc n) log (omega arith) lt in
      let fit_1 : h.salt1 < 2 ^ 32 = subst (λ (x : ℕ). x < 2 ^ 32) (sym header.salt1) (word_fits f 16 bytes) in
      let fit_2 : h.salt2 < 2 ^ 32 = subst (λ (x : ℕ). x < 2 ^ 32) (sym header.salt2) (word_fits f 20 bytes) in
      let is : IsAppended h e n page count content after g = appended h e head content n page count before after header_e log_e sum_e (log.all (suc n) (omega arith) lt).page (word_fits f _ bytes) (word_fits f _ bytes) fit_1 fit_2 full made in
      let bytes_head : AreBytes head = subst AreBytes (sym made.bytes) (numbers_bytes (page ∷ count ∷ h.salt1 ∷ h.salt2 ∷ after.s0 ∷ after.s1 ∷ [])) in
      let bytes_g : AreBytes g = append_bytes e (head ++ content) bytes_e (append_bytes head content bytes_head (take_bytes size _ (drop_bytes _ f bytes))) in
      let grown = grown_next h e n ((page, content) ∷ []) count 0 e g after log_e (grown_none size e n ((page, content) ∷ []) count bytes_e log_e) bytes_g (subst (λ (k : ℕ). IsAppended h e k page count content after g) (let z : n ≡ n + 0 = omega arith in z) is) in
      let extended : IsExtended size e n ((page, content) ∷ []) count g = grown_all size e n ((page, content) ∷ []) count g grown in
      let one : take b f ≡ g = extended_unique size e n ((page, content) ∷ []) count (take b f) g log_e (front_extended size f m log n lt bytes) extended in
      let ends : a + (b - a) ≡ b = omega arith in
      record {
        bytes = sym (drop_at e (head ++ content) a long_e) ∙ sym (ap (drop a) one) ∙ ap (λ (k : ℕ). drop a (take k f)) (sym ends) ∙ drop-take a (b - a) f;
        sum = subst (λ (x : List ℕ). IsSumOf h.order x after) (summed_same size g f b (suc n) (ap (take b) (sym one) ∙ take-take b b f (omega arith)) (omega arith)) is.sum;
      }
