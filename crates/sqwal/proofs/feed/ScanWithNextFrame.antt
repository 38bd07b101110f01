-- What a scan holds with one whole frame more.
use Rattle.std.proofs.Common.{◌≡◌, ◌≢◌, ⊎_elim, ℕ, zero, suc, ◌+◌, ◌-◌, ◌*◌, ◌%◌, ◌<◌, ◌≤◌, cond, List, [], ◌∷◌, ◌++◌, length, take, drop, get_or, Option, Some, None, refl, sym, ◌∙◌, ap, subst, arith, length-append, append_assoc, eq-eqb}
use Rattle.std.specs.Prelude.{◌==◌, Bool, Result, Ok, Err, MatchResult}
use Rattle.std.proofs.lemmas.List.{drop-append-le, drop-drop, drop_all, length-drop, length-take, take-take, length-take-le, length_push, take_at, take_all, get_or_append_left, get_or_push}
use Rattle.std.proofs.lemmas.Bool.{cases_lt, cases_eq, ne_eqb}
use Rattle.sqval.specs.Bytes.{part, word}
use Rattle.sqval.specs.Limits.{Bounds}
use Rattle.byteorder.specs.Endian.{big_number}
use Rattle.sqwal.specs.Sums.{words, sum_0, sum_1, IsSumOf, GoesOn}
use Rattle.sqwal.specs.Header.{IsHeaderOf}
use Rattle.sqwal.specs.Frames.{frame_at, frame_end, page_of, size_of, content_of, summed, HasSalts, HasSums, Passes, AllPass, IsValidFrame}
use Rattle.sqwal.specs.Stops.{StopsFor}
use Rattle.sqwal.specs.Took.{IsFrontTo, IsBegun, IsBehind, TookFrames}
use Rattle.sqwal.specs.internal.ScanParts.{NamesSalts, NamesSum, GoesOver, IsJudged, progress_behind, FramesRefused, IsPushed}
use Rattle.sqwal.specs.declared.header.WalHeader.{WalHeader}
use Rattle.sqwal.specs.declared.sum.Sum.{Sum}
use Rattle.sqwal.specs.declared.sum.Order.{Order}
use Rattle.sqwal.specs.declared.error.WalFormatError.{WalFormatError}
use Rattle.sqwal.specs.declared.error.WalFormatError.TheVariants.{NotAWal, PageSize, HeaderSum, UnknownVersion, TooLong, NoMemory}
use Rattle.sqwal.specs.declared.scan.FrameList.{FrameList}
use Rattle.sqwal.specs.declared.scan.Entry.{Entry}
use Rattle.sqwal.specs.declared.scan.Front.{Front}
use Rattle.sqwal.specs.declared.scan.Progress.{Progress}
use Rattle.sqwal.specs.declared.scan.Why.{Why}
use Rattle.sqwal.specs.declared.scan.Why.TheVariants.{End, Cut, Salt, PageZero, Sum as SumIsWrong}
use Rattle.sqwal.proofs.log.DependenceOnPrefix.{frame_at-suc, frame_end-suc, frame_end-zero, frame_at-end, frame_end-le, frame_end-head, summed_same}
use Rattle.sqwal.proofs.feed.ScanUnderMoreBytes.{same, took-rest, frames_refused-more, page_size_even, header-more, valid-more, page-more, size-more, front-more}

-- ---- parts of a frame in its log

module _ (size n : ℕ) (w f : List ℕ) (place : drop (frame_end size n) w ≡ f) where
  part_behind : (k m : ℕ) → part w (frame_at size (suc n) + k) m ≡ part f k m
  part_behind k m =
      ap (λ x. part w (x + k) m) (frame_at-suc size n)
      ∙ ap (take m) (sym (drop-drop k (frame_end size n) w) ∙ ap (drop k) place)

  part_first : (m : ℕ) → part w (frame_at size (suc n)) m ≡ part f 0 m
  part_first m = ap (λ x. part w x m) (frame_at-suc size n) ∙ ap (take m) place

  word_behind : (k : ℕ) → word w (frame_at size (suc n) + k) ≡ word f k
  word_behind k = ap (big_number 4) (part_behind k 4)

  word_first : word w (frame_at size (suc n)) ≡ word f 0
  word_first = ap (big_number 4) (part_first 4)

summed_even : (size : ℕ) (w : List ℕ) (i : ℕ) → size % 8 ≡ 0 → frame_end size i ≤ length w → length (summed size w i) % 8 ≡ 0
unfolding summed
summed_even size w zero even l =
    let long : 24 ≤ length w = omega (arith, l, frame_end-head size 0) in
    ap (λ x. x % 8) (length-take-le 24 w long)
summed_even size w (suc i) even l =
    let end : frame_at size (suc i) + 24 + size ≡ frame_end size (suc i) = frame_at-end size (suc i) (omega arith) in
    let less : frame_end size i ≤ length w = omega (arith, frame_end-le size i (suc i) (omega arith)) in
    let before : length (summed size w i) % 8 ≡ 0 = summed_even size w i even less in
    let head : length (part w (frame_at size (suc i)) 8) ≡ 8 = length-take-le 8 (drop (frame_at size (suc i)) w) (omega (arith, length-drop (frame_at size (suc i)) w)) in
    let page : length (content_of size w (suc i)) ≡ size = length-take-le size (drop (frame_at size (suc i) + 24) w) (omega (arith, length-drop (frame_at size (suc i) + 24) w)) in
    omega (arith, length-append (summed size w i ++ part w (frame_at size (suc i)) 8) (content_of size w (suc i)), length-append (summed size w i) (part w (frame_at size (suc i)) 8))

module _ (h : WalHeader) (b held first : List ℕ) (es : List Entry) (p : Progress) (t : TookFrames h b held es p) (unrefused : p.refused ≡ None) (long : length (held ++ first) ≡ 24 + h.page_size) where
  begun : IsBegun h b held (length es) p.sum
  begun = subst (λ (r : Option Why). IsBehind h b held (length es) p.sum r) unrefused t.behind

  place : drop (frame_end h.page_size (length es)) (b ++ first) ≡ held ++ first
  place = drop-append-le (frame_end h.page_size (length es)) b first begun.from ∙ ap (λ x. x ++ first) (sym begun.rest)

  whole : frame_end h.page_size (suc (length es)) ≡ length (b ++ first)
  whole =
      let l : length held ≡ length b - frame_end h.page_size (length es) = ap length begun.rest ∙ length-drop (frame_end h.page_size (length es)) b in
      let f : frame_end h.page_size (length es) ≤ length b = begun.from in
      omega (arith, length-append b first, length-append held first, frame_end-suc h.page_size (length es))

  header : IsHeaderOf (b ++ first) h
  header = header-more b first h t.header

  word_in : (k : ℕ) → word (b ++ first) (frame_at h.page_size (suc (length es)) + k) ≡ word (held ++ first) k
  word_in = word_behind h.page_size (length es) (b ++ first) (held ++ first) place

  page_in : page_of h.page_size (b ++ first) (suc (length es)) ≡ word (held ++ first) 0
  page_in = word_first h.page_size (length es) (b ++ first) (held ++ first) place

  salts : NamesSalts h (held ++ first) → HasSalts h.page_size (b ++ first) (suc (length es))
  salts is = (word_in 8 ∙ is.0 ∙ header.salt1, word_in 12 ∙ is.1 ∙ header.salt2)

  salts_back : HasSalts h.page_size (b ++ first) (suc (length es)) → NamesSalts h (held ++ first)
  salts_back is = (sym (word_in 8) ∙ is.0 ∙ sym header.salt1, sym (word_in 12) ∙ is.1 ∙ sym header.salt2)

  even : h.page_size % 8 ≡ 0
  even = page_size_even h.page_size t.header.valid.is_size

  summed_before : summed h.page_size b (length es) ≡ summed h.page_size (b ++ first) (length es)
  summed_before = summed_same h.page_size b (b ++ first) (length b) (length es) (same b first) begun.from

  sum_behind : (after : Sum) → GoesOver h (held ++ first) p.sum after → IsSumOf h.order (summed h.page_size (b ++ first) (suc (length es))) after
  unfolding summed
  sum_behind after over =
      let from : IsSumOf h.order (summed h.page_size (b ++ first) (length es)) p.sum = subst (λ (x : List ℕ). IsSumOf h.order x p.sum) summed_before begun.sum_before in
      let l : frame_end h.page_size (length es) ≤ length (b ++ first) = omega (arith, whole, frame_end-suc h.page_size (length es)) in
      let is : IsSumOf h.order (summed h.page_size (b ++ first) (length es) ++ part (held ++ first) 0 8 ++ part (held ++ first) 24 h.page_size) after = over (summed h.page_size (b ++ first) (length es)) (summed_even h.page_size (b ++ first) (length es) even l) from in
      let e0 : part (b ++ first) (frame_at h.page_size (suc (length es))) 8 ≡ part (held ++ first) 0 8 = part_first h.page_size (length es) (b ++ first) (held ++ first) place 8 in
      let e1 : content_of h.page_size (b ++ first) (suc (length es)) ≡ part (held ++ first) 24 h.page_size = part_behind h.page_size (length es) (b ++ first) (held ++ first) place 24 h.page_size in
      subst (λ (x : List ℕ). IsSumOf h.order x after) (ap (λ x. summed h.page_size (b ++ first) (length es) ++ x ++ part (held ++ first) 24 h.page_size) (sym e0) ∙ ap (λ x. summed h.page_size (b ++ first) (length es) ++ part (b ++ first) (frame_at h.page_size (suc (length es))) 8 ++ x) (sym e1)) is

  sums : (after : Sum) → GoesOver h (held ++ first) p.sum after → NamesSum (held ++ first) after → HasSums h.page_size (b ++ first) (suc (length es))
  sums after over is =
      let s : IsSumOf h.order (summed h.page_size (b ++ first) (suc (length es))) after = sum_behind after over in
      let o = ap (λ o. words o (summed h.page_size (b ++ first) (suc (length es)))) header.order in (
        word_in 16 ∙ is.0 ∙ s.first ∙ ap sum_0 o,
        word_in 20 ∙ is.1 ∙ s.second ∙ ap sum_1 o,
      )

  sums_back : (after : Sum) → GoesOver h (held ++ first) p.sum after → HasSums h.page_size (b ++ first) (suc (length es)) → NamesSum (held ++ first) after
  sums_back after over is =
      let s : IsSumOf h.order (summed h.page_size (b ++ first) (suc (length es))) after = sum_behind after over in
      let o = ap (λ o. words o (summed h.page_size (b ++ first) (suc (length es)))) header.order in (
        sym (word_in 16) ∙ is.0 ∙ ap sum_0 (sym o) ∙ sym s.first,
        sym (word_in 20) ∙ is.1 ∙ ap sum_1 (sym o) ∙ sym s.second,
      )

  -- ---- a frame that doesn't pass

  stops : (why : Why) → IsJudged h p.sum (held ++ first) (Err why) → StopsFor h.page_size (b ++ first) (suc (length es)) why
  stops End is = absurd is
  stops Cut is = absurd is
  stops Salt is = (omega (arith, whole), λ s. is (salts_back s))
  stops PageZero is = (omega (arith, whole), salts is.0, page_in ∙ is.1)
  stops SumIsWrong is = (omega (arith, whole), salts is.0, λ z. is.1 (sym page_in ∙ z), λ s. is.2.2 (sums_back is.2.0 is.2.1 s))

  pub took-stop : (why : Why) → IsJudged h p.sum (held ++ first) (Err why) → TookFrames h (b ++ first) [] es (record p { refused = Some why })
  took-stop why is = record {
    header = header;
    next = t.next;
    most = t.most;
    valid = valid-more b first h.page_size (length es) t.valid;
    pages = λ i d l. t.pages i d l ∙ page-more b first h.page_size (length es) (suc i) t.valid (omega arith) (omega arith);
    sizes = λ i d l. t.sizes i d l ∙ size-more b first h.page_size (length es) (suc i) t.valid (omega arith) (omega arith);
    front = front-more b first h.page_size (length es) p.front t.valid t.front;
    behind = record { whole = omega (arith, whole); stops = stops why is };
  }

  -- ---- a frame that passes

  module _ (after : Sum) (salts_are : NamesSalts h (held ++ first)) (page : word (held ++ first) 0 ≢ 0) (over : GoesOver h (held ++ first) p.sum after) (sum_is : NamesSum (held ++ first) after) where
    valid : AllPass h.page_size (b ++ first) (suc (length es))
    valid j q r = ⊎_elim
        (λ e. subst (λ (x : ℕ). Passes h.page_size (b ++ first) x) (sym e) (record {
          header = header.valid;
          whole = omega (arith, whole);
          salts = salts salts_are;
          page = λ z. page (sym page_in ∙ z);
          sums = sums after over sum_is;
        }))
        (λ ne. valid-more b first h.page_size (length es) t.valid j q (omega arith))
        (cases_eq j (suc (length es)))

    pub is_too_long : p.limits.frames < p.next → IsValidFrame h.page_size (b ++ first) (suc p.limits.frames)
    is_too_long l =
        let e : length es ≡ p.limits.frames = omega (arith, t.next, t.most) in
        record { first = omega arith; each = subst (λ (x : ℕ). AllPass h.page_size (b ++ first) (suc x)) e valid }

    module _ (e : Entry) (page_is : e.page ≡ word (held ++ first) 0) (size_is : e.size ≡ word (held ++ first) 4) where
      size_in : e.size ≡ size_of h.page_size (b ++ first) (suc (length es))
      size_in = size_is ∙ sym (word_in 4)

      front_none : e.size ≡ 0 → IsFrontTo h.page_size (b ++ first) (suc (length es)) p.front
      front_none z =
          let f : IsFrontTo h.page_size (b ++ first) (length es) p.front = front-more b first h.page_size (length es) p.front t.valid t.front in
          record {
            within = omega (arith, f.within);
            none = f.none;
            commit = f.commit;
            last = λ i q r. ⊎_elim (λ k. ap (size_of h.page_size (b ++ first)) k ∙ sym size_in ∙ z) (λ ne. f.last i q (omega arith)) (cases_eq i (suc (length es)));
            end = f.end;
          }

      front_commit : e.size ≢ 0 → IsFrontTo h.page_size (b ++ first) (suc (length es)) (record { frames = p.next; size = e.size; end = frame_end h.page_size p.next })
      front_commit ne = record {
        within = omega (arith, t.next);
        none = λ z. absurd (omega (arith, t.next));
        commit = λ q. (size_in ∙ ap (size_of h.page_size (b ++ first)) (sym t.next), ne);
        last = λ i q r. absurd (omega (arith, t.next));
        end = refl;
      }

      front : IsFrontTo h.page_size (b ++ first) (suc (length es)) (progress_behind h e after p).front
      front = ⊎_elim
          (λ z. subst (λ (c : Bool). IsFrontTo h.page_size (b ++ first) (suc (length es)) (cond c p.front (record { frames = p.next; size = e.size; end = frame_end h.page_size p.next }))) (sym (eq-eqb e.size 0 z)) (front_none z))
          (λ ne. subst (λ (c : Bool). IsFrontTo h.page_size (b ++ first) (suc (length es)) (cond c p.front (record { frames = p.next; size = e.size; end = frame_end h.page_size p.next }))) (sym (ne_eqb e.size 0 ne)) (front_commit ne))
          (cases_eq e.size 0)

      more : length (es ++ e ∷ []) ≡ suc (length es)
      more = omega (arith, length_push es e)

      pages : (i : ℕ) (d : Entry) → i < length (es ++ e ∷ []) → (get_or (es ++ e ∷ []) i d).page ≡ page_of h.page_size (b ++ first) (suc i)
      pages i d l = ⊎_elim
          (λ k. ap (λ (x : Entry). x.page) (get_or_append_left es (e ∷ []) d i k) ∙ t.pages i d k ∙ page-more b first h.page_size (length es) (suc i) t.valid (omega arith) (omega arith))
          (λ k. let q : length es ≡ i = omega (arith, more) in ap (λ (x : Entry). x.page) (get_or_push es e d i q) ∙ page_is ∙ sym page_in ∙ ap (λ x. page_of h.page_size (b ++ first) (suc x)) q)
          (cases_lt i (length es))

      sizes : (i : ℕ) (d : Entry) → i < length (es ++ e ∷ []) → (get_or (es ++ e ∷ []) i d).size ≡ size_of h.page_size (b ++ first) (suc i)
      sizes i d l = ⊎_elim
          (λ k. ap (λ (x : Entry). x.size) (get_or_append_left es (e ∷ []) d i k) ∙ t.sizes i d k ∙ size-more b first h.page_size (length es) (suc i) t.valid (omega arith) (omega arith))
          (λ k. let q : length es ≡ i = omega (arith, more) in ap (λ (x : Entry). x.size) (get_or_push es e d i q) ∙ size_in ∙ ap (λ x. size_of h.page_size (b ++ first) (suc x)) q)
          (cases_lt i (length es))

      nothing_behind : IsBegun h (b ++ first) [] (suc (length es)) after
      nothing_behind = record {
        sum_before = sum_behind after over;
        from = omega (arith, whole);
        rest = sym (drop_all (frame_end h.page_size (suc (length es))) (b ++ first) (omega (arith, whole)));
        short = omega arith;
      }

      pub took-pass : p.next ≤ p.limits.frames → TookFrames h (b ++ first) [] (es ++ e ∷ []) (progress_behind h e after p)
      took-pass l = record {
        header = header;
        next = omega (arith, t.next, more);
        most = omega (arith, t.next, more);
        valid = subst (λ (x : ℕ). AllPass h.page_size (b ++ first) x) (sym more) valid;
        pages = pages;
        sizes = sizes;
        front = subst (λ (x : ℕ). IsFrontTo h.page_size (b ++ first) x (progress_behind h e after p).front) (sym more) front;
        behind = subst (λ (r : Option Why). IsBehind h (b ++ first) [] (length (es ++ e ∷ [])) after r) (sym unrefused)
            (subst (λ (x : ℕ). IsBegun h (b ++ first) [] x after) (sym more) nothing_behind);
      }

-- ---- the parts of the code

-- a log of a whole header and nothing else
pub took-header : (limits : Bounds) (h : WalHeader) (head : List ℕ) (es : List Entry) (zero_sum sum : Sum) → IsHeaderOf head h → length head ≡ 32 → es ≡ [] → ((order : Order) → IsSumOf order [] zero_sum) → GoesOn h.order (take 24 head) zero_sum sum → TookFrames h head [] es (record { limits = limits; next = 1; sum = sum; front = record { frames = 0; size = 0; end = 32 }; refused = None })
unfolding summed
took-header limits h head es zero_sum sum is long none zeros on =
    let n : length es ≡ 0 = ap length none in
    let begins : IsBegun h head [] 0 sum = record {
      sum_before = on [] refl (zeros h.order);
      from = omega (arith, frame_end-zero h.page_size);
      rest = sym (drop_all (frame_end h.page_size 0) head (omega (arith, frame_end-zero h.page_size)));
      short = omega arith;
    } in
    record {
      header = is;
      next = omega arith;
      most = omega arith;
      valid = λ j p q. absurd (omega arith);
      pages = λ i d l. absurd (omega arith);
      sizes = λ i d l. absurd (omega arith);
      front = record {
        within = omega arith;
        none = λ z. refl;
        commit = λ p. absurd (omega arith);
        last = λ i p q. absurd (omega arith);
        end = sym (frame_end-zero h.page_size);
      };
      behind = subst (λ (x : ℕ). IsBegun h head [] x sum) (sym n) begins;
    }

pub goes_over : (h : WalHeader) (f : List ℕ) (before middle after : Sum) → length f ≡ 24 + h.page_size → GoesOn h.order (take 8 f) before middle → GoesOn h.order (drop 24 f) middle after → GoesOver h f before after
goes_over h f before middle after l a b front even is =
    let page : part f 24 h.page_size ≡ drop 24 f = take_all h.page_size (drop 24 f) (omega (arith, length-drop 24 f)) in
    let eight : length (take 8 f) ≡ 8 = length-take-le 8 f (omega arith) in
    subst (λ (x : List ℕ). IsSumOf h.order (front ++ take 8 f ++ x) after) (sym page) (b (front ++ take 8 f) (omega (arith, length-append front (take 8 f))) (a front even is))

module _ (h : WalHeader) (e : Entry) (sum : Sum) (s t : FrameList) where
  pub push-keeps : {T : Type 0} (r : Result T WalFormatError) → IsPushed h e sum s r t → take (length s.entries.items) t.entries.items ≡ s.entries.items
  push-keeps (Ok x) is = ap (take (length s.entries.items)) is.1 ∙ take_at s.entries.items (e ∷ []) (length s.entries.items) refl
  push-keeps (Err TooLong) is = ap (take (length s.entries.items)) is.1 ∙ take_all (length s.entries.items) s.entries.items (omega arith)
  push-keeps (Err NoMemory) is = ap (take (length s.entries.items)) is.0 ∙ take_all (length s.entries.items) s.entries.items (omega arith)
  push-keeps (Err NotAWal) is = absurd is
  push-keeps (Err PageSize) is = absurd is
  push-keeps (Err HeaderSum) is = absurd is
  push-keeps (Err UnknownVersion) is = absurd is

  pub push-limits : {T : Type 0} (r : Result T WalFormatError) → IsPushed h e sum s r t → t.progress.limits ≡ s.progress.limits
  push-limits (Ok x) is = ap (λ (p : Progress). p.limits) is.2
  push-limits (Err TooLong) is = ap (λ (p : Progress). p.limits) is.2
  push-limits (Err NoMemory) is = ap (λ (p : Progress). p.limits) is.1
  push-limits (Err NotAWal) is = absurd is
  push-limits (Err PageSize) is = absurd is
  push-limits (Err HeaderSum) is = absurd is
  push-limits (Err UnknownVersion) is = absurd is

  module _ (b held first : List ℕ) (took : TookFrames h b held s.entries.items s.progress) (unrefused : s.progress.refused ≡ None) (long : length (held ++ first) ≡ 24 + h.page_size) (judged : IsJudged h s.progress.sum (held ++ first) (Ok sum)) (page_is : e.page ≡ word (held ++ first) 0) (size_is : e.size ≡ word (held ++ first) 4) where
    took-push : {T : Type 0} (r : Result T WalFormatError) → IsPushed h e sum s r t → MatchResult r (λ _. TookFrames h (b ++ first) [] t.entries.items t.progress) (FramesRefused s.progress.limits.frames h.page_size (b ++ first))
    took-push (Ok x) is =
        let k : TookFrames h (b ++ first) [] (s.entries.items ++ e ∷ []) (progress_behind h e sum s.progress) = took-pass h b held first s.entries.items s.progress took unrefused long sum judged.0 judged.1 judged.2 judged.3 e page_is size_is is.0 in
        subst (λ (p : Progress). TookFrames h (b ++ first) [] t.entries.items p) (sym is.2) (subst (λ (es : List Entry). TookFrames h (b ++ first) [] es (progress_behind h e sum s.progress)) (sym is.1) k)
    took-push (Err TooLong) is = is_too_long h b held first s.entries.items s.progress took unrefused long sum judged.0 judged.1 judged.2 judged.3 is.0
    took-push (Err NoMemory) is = tt
    took-push (Err NotAWal) is = is
    took-push (Err PageSize) is = is
    took-push (Err HeaderSum) is = is
    took-push (Err UnknownVersion) is = is

  -- a whole frame that passes was pushed
  pub took-pushed : {T : Type 0} (f b held first : List ℕ) (r : Result T WalFormatError) → f ≡ held ++ first → TookFrames h b held s.entries.items s.progress → s.progress.refused ≡ None → length f ≡ 24 + h.page_size → IsJudged h s.progress.sum f (Ok sum) → e.page ≡ word f 0 → e.size ≡ word f 4 → IsPushed h e sum s r t
      → MatchResult r (λ _. TookFrames h (b ++ first) [] t.entries.items t.progress) (FramesRefused s.progress.limits.frames h.page_size (b ++ first))
  took-pushed f b held first r is took unrefused long judged page_is size_is = took-push b held first took unrefused
      (sym (ap length is) ∙ long)
      (subst (λ (x : List ℕ). IsJudged h s.progress.sum x (Ok sum)) is judged)
      (page_is ∙ ap (λ x. word x 0) is)
      (size_is ∙ ap (λ x. word x 4) is) r

-- a whole frame that doesn't pass was refused
pub took-judged : (h : WalHeader) (f b held first : List ℕ) (es : List Entry) (p : Progress) (why : Why) → f ≡ held ++ first → TookFrames h b held es p → p.refused ≡ None → length f ≡ 24 + h.page_size → IsJudged h p.sum f (Err why) → TookFrames h (b ++ first) [] es (record p { refused = Some why })
took-judged h f b held first es p why is took unrefused long judged = took-stop h b held first es p took unrefused
    (sym (ap length is) ∙ long) why (subst (λ (x : List ℕ). IsJudged h p.sum x (Err why)) is judged)

-- ---- the loop over whole frames

-- the frames in front of the rest of w were taken
abbrev pub HasComeTo : WalHeader → (w rest : List ℕ) → List Entry → Progress → Type 0
HasComeTo h w rest es p = (c : List ℕ) × ((c ++ rest ≡ w) × TookFrames h c [] es p)

pub come-end : (h : WalHeader) (w rest : List ℕ) (es : List Entry) (p : Progress) → HasComeTo h w rest es p → length rest < 24 + h.page_size → TookFrames h w rest es p
come-end h w rest es p is l = subst (λ (x : List ℕ). TookFrames h x rest es p) is.1.0 (took-rest is.0 rest h [] es p is.1.1 refl l)

-- the rest is a frame and more
module _ (h : WalHeader) (w rest frame more : List ℕ) (es : List Entry) (p : Progress) (cut : rest ≡ frame ++ more) (is : HasComeTo h w rest es p) where
  come-cut : (is.0 ++ frame) ++ more ≡ w
  come-cut = append_assoc is.0 frame more ∙ ap (λ x. is.0 ++ x) (sym cut) ∙ is.1.0

  pub come-error : (most : ℕ) (e : WalFormatError) → FramesRefused most h.page_size (is.0 ++ frame) e → FramesRefused most h.page_size w e
  come-error most e r = subst (λ (x : List ℕ). FramesRefused most h.page_size x e) come-cut (frames_refused-more most h.page_size (is.0 ++ frame) more e r)

  pub come-next : (es' : List Entry) (p' : Progress) → TookFrames h (is.0 ++ frame) [] es' p' → HasComeTo h w more es' p'
  come-next es' p' t = (is.0 ++ frame, (come-cut, t))

-- a list that only grew
pub keeps-keeps : (a b c : List Entry) → take (length a) b ≡ a → take (length b) c ≡ b → take (length a) c ≡ a
keeps-keeps a b c e f =
    let l : length a ≤ length b = omega (arith, ap length e, length-take (length a) b) in
    sym (take-take (length a) (length b) c l) ∙ ap (take (length a)) f ∙ e

module _ (h : WalHeader) (e : Entry) (sum : Sum) (p : Progress) (f : Front) where
  behind_with : f ≡ cond (e.size == 0) p.front (record { frames = p.next; size = e.size; end = frame_end h.page_size p.next }) → ◌≡◌ {A = Progress} (record { limits = p.limits; next = p.next + 1; sum = sum; front = f; refused = p.refused }) (progress_behind h e sum p)
  behind_with is = ap (λ (x : Front). record p { next = p.next + 1; sum = sum; front = x }) is

  pub behind_none : e.size ≡ 0 → f ≡ p.front → ◌≡◌ {A = Progress} (record { limits = p.limits; next = p.next + 1; sum = sum; front = f; refused = p.refused }) (progress_behind h e sum p)
  behind_none z is = behind_with (is ∙ ap (λ c. cond c p.front (record { frames = p.next; size = e.size; end = frame_end h.page_size p.next })) (sym (eq-eqb e.size 0 z)))

  pub behind_commit : (from size : ℕ) → e.size ≢ 0 → f ≡ record { frames = p.next; size = e.size; end = 32 + from * (24 + size) } → from ≡ p.next → size ≡ h.page_size → ◌≡◌ {A = Progress} (record { limits = p.limits; next = p.next + 1; sum = sum; front = f; refused = p.refused }) (progress_behind h e sum p)
  unfolding frame_end
  behind_commit from size ne is a b = behind_with (is
      ∙ ap (λ n. record { frames = p.next; size = e.size; end = 32 + n * (24 + size) }) a
      ∙ ap (λ n. record { frames = p.next; size = e.size; end = 32 + p.next * (24 + n) }) b
      ∙ ap (λ c. cond c p.front (record { frames = p.next; size = e.size; end = 32 + p.next * (24 + h.page_size) })) (sym (ne_eqb e.size 0 ne)))
