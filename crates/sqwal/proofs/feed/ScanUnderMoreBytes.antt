-- What a scan holds stays true as bytes are added, and one frame more.
use Rattle.std.proofs.Common.{◌≡◌, ◌⊎◌, inl, inr, ⊎_elim, ℕ, suc, ◌+◌, ◌%◌, ◌<◌, ◌≤◌, true, false, List, [], ◌++◌, length, take, Option, Some, None, refl, sym, ◌∙◌, ap, subst, arith, length-append}
use Rattle.std.specs.Prelude.{is_some}
use Rattle.std.proofs.lemmas.List.{take-append-le, drop-append-le}
use Rattle.std.proofs.lemmas.Bool.{false≢true}
use Rattle.sqval.specs.Bytes.{part, word}
use Rattle.sqval.specs.PageSize.{IsPageSize}
use Rattle.sqval.proofs.page.PageSizes.{one_of}
use Rattle.sqwal.specs.Sums.{words, sum_0, sum_1, IsSumOf}
use Rattle.sqwal.specs.Header.{HasMagic, HasHeaderSums, order_of, named_size, IsHeaderOf, HeaderRefused}
use Rattle.sqwal.specs.Frames.{frame_at, frame_end, page_of, size_of, summed, HasSalts, HasSums, AllPass, IsValidFrame}
use Rattle.sqwal.specs.Stops.{StopsFor}
use Rattle.sqwal.specs.Answers.{LogRefusedWithin}
use Rattle.sqwal.specs.Took.{IsFrontTo, IsBegun, IsRefused, IsBehind, TookFrames}
use Rattle.sqwal.specs.internal.ScanParts.{FramesRefused}
use Rattle.sqwal.specs.declared.header.WalHeader.{WalHeader}
use Rattle.sqwal.specs.declared.sum.Sum.{Sum}
use Rattle.sqwal.specs.declared.scan.Entry.{Entry}
use Rattle.sqwal.specs.declared.scan.Front.{Front}
use Rattle.sqwal.specs.declared.scan.Progress.{Progress}
use Rattle.sqwal.specs.declared.scan.Why.{Why}
use Rattle.sqwal.specs.declared.scan.Why.TheVariants.{End, Cut, Salt, PageZero, Sum as SumIsWrong}
use Rattle.sqwal.specs.declared.error.WalFormatError.{WalFormatError}
use Rattle.sqwal.specs.declared.error.WalFormatError.TheVariants.{NotAWal, PageSize, HeaderSum, UnknownVersion, TooLong, NoMemory}
use Rattle.sqwal.proofs.log.DependenceOnPrefix.{frame_at-end, frame_end-head, frame_at-head, part_same, word_same, order_same, header_same, summed_same, page_same, size_same, passes_same}

-- ---- page sizes

pub page_size_even : (n : ℕ) → IsPageSize n → n % 8 ≡ 0
page_size_even n is = ⊎_elim (λ e. omega arith) (⊎_elim (λ e. omega arith) (⊎_elim (λ e. omega arith) (⊎_elim (λ e. omega arith) (⊎_elim (λ e. omega arith) (⊎_elim (λ e. omega arith) (⊎_elim (λ e. omega arith) (λ e. omega arith))))))) (one_of n is)

pub some_from_is_some : (r : Option Why) → is_some r ≡ true → (why : Why) × (r ≡ Some why)
some_from_is_some None is = absurd (false≢true is)
some_from_is_some (Some why) is = (why, refl)

pub none_from_is_some : (r : Option Why) → is_some r ≡ false → r ≡ None
none_from_is_some None is = refl
none_from_is_some (Some why) is = absurd (false≢true (sym is))

-- ---- more bytes

pub known_or_not : (r : Option Why) → (r ≡ None) ⊎ ((why : Why) × (r ≡ Some why))
known_or_not None = inl refl
known_or_not (Some why) = inr (why, refl)

module _ (b more : List ℕ) where
  pub same : take (length b) b ≡ take (length b) (b ++ more)
  same = sym (take-append-le (length b) b more (omega arith))

  longer : length b ≤ length (b ++ more)
  longer = omega (arith, length-append b more)

  pub named-more : 32 ≤ length b → named_size b ≡ named_size (b ++ more)
  named-more l = word_same b (b ++ more) (length b) 8 same (omega arith)

  pub header-more : (h : WalHeader) → IsHeaderOf b h → IsHeaderOf (b ++ more) h
  header-more h is =
      let l : 32 ≤ length b = is.valid.whole in
      record {
        valid = header_same h.page_size b (b ++ more) (length b) same l (let k : 32 ≤ length (b ++ more) = omega (arith, longer) in k) is.valid;
        order = is.order ∙ order_same b (b ++ more) (length b) same (omega arith);
        sequence = is.sequence ∙ word_same b (b ++ more) (length b) 12 same (omega arith);
        salt1 = is.salt1 ∙ word_same b (b ++ more) (length b) 16 same (omega arith);
        salt2 = is.salt2 ∙ word_same b (b ++ more) (length b) 20 same (omega arith);
      }

  pub valid-more : (size n : ℕ) → AllPass size b n → AllPass size (b ++ more) n
  valid-more size n all j p q = passes_same size b (b ++ more) (length b) j same p (all j p q).whole longer (all j p q)

  pub too_long-more : (size n : ℕ) → IsValidFrame size b n → IsValidFrame size (b ++ more) n
  too_long-more size n is = record { first = is.first; each = valid-more size n is.each }

  pub page-more : (size n i : ℕ) → AllPass size b n → 1 ≤ i → i ≤ n → page_of size b i ≡ page_of size (b ++ more) i
  page-more size n i all p q = page_same size b (b ++ more) (length b) i same p (all i p q).whole

  pub size-more : (size n i : ℕ) → AllPass size b n → 1 ≤ i → i ≤ n → size_of size b i ≡ size_of size (b ++ more) i
  size-more size n i all p q = size_same size b (b ++ more) (length b) i same p (all i p q).whole

  pub front-more : (size n : ℕ) (f : Front) → AllPass size b n → IsFrontTo size b n f → IsFrontTo size (b ++ more) n f
  front-more size n f all is = record {
    within = is.within;
    none = is.none;
    commit = λ p. ((is.commit p).0 ∙ size-more size n f.frames all p is.within, (is.commit p).1);
    last = λ i p q. sym (size-more size n i all (omega arith) q) ∙ is.last i p q;
    end = is.end;
  }

  salts-less : (size i : ℕ) → 1 ≤ i → frame_end size i ≤ length b → HasSalts size (b ++ more) i → HasSalts size b i
  salts-less size i p l is =
      let k : frame_at size i + 24 + size ≡ frame_end size i = frame_at-end size i p in
      let m : 32 ≤ frame_at size i = frame_at-head size i in (
        word_same b (b ++ more) (length b) (frame_at size i + 8) same (omega arith) ∙ is.0 ∙ sym (word_same b (b ++ more) (length b) 16 same (omega arith)),
        word_same b (b ++ more) (length b) (frame_at size i + 12) same (omega arith) ∙ is.1 ∙ sym (word_same b (b ++ more) (length b) 20 same (omega arith)),
      )

  salts-more : (size i : ℕ) → 1 ≤ i → frame_end size i ≤ length b → HasSalts size b i → HasSalts size (b ++ more) i
  salts-more size i p l is =
      let k : frame_at size i + 24 + size ≡ frame_end size i = frame_at-end size i p in
      let m : 32 ≤ frame_at size i = frame_at-head size i in (
        sym (word_same b (b ++ more) (length b) (frame_at size i + 8) same (omega arith)) ∙ is.0 ∙ word_same b (b ++ more) (length b) 16 same (omega arith),
        sym (word_same b (b ++ more) (length b) (frame_at size i + 12) same (omega arith)) ∙ is.1 ∙ word_same b (b ++ more) (length b) 20 same (omega arith),
      )

  summed_words : (size i : ℕ) → frame_end size i ≤ length b → words (order_of b) (summed size b i) ≡ words (order_of (b ++ more)) (summed size (b ++ more) i)
  summed_words size i l =
      let k : 32 ≤ frame_end size i = frame_end-head size i in
      ap (λ o. words o (summed size b i)) (order_same b (b ++ more) (length b) same (omega arith)) ∙ ap (words (order_of (b ++ more))) (summed_same size b (b ++ more) (length b) i same l)

  sums-less : (size i : ℕ) → 1 ≤ i → frame_end size i ≤ length b → HasSums size (b ++ more) i → HasSums size b i
  sums-less size i p l is =
      let k : frame_at size i + 24 + size ≡ frame_end size i = frame_at-end size i p in (
        word_same b (b ++ more) (length b) (frame_at size i + 16) same (omega arith) ∙ is.0 ∙ ap sum_0 (sym (summed_words size i l)),
        word_same b (b ++ more) (length b) (frame_at size i + 20) same (omega arith) ∙ is.1 ∙ ap sum_1 (sym (summed_words size i l)),
      )

  stops-more : (size i : ℕ) (why : Why) → 1 ≤ i → frame_end size i ≤ length b → StopsFor size b i why → StopsFor size (b ++ more) i why
  stops-more size i End p l is = absurd (omega (arith, frame_at-end size i p))
  stops-more size i Cut p l is = absurd (omega (arith, is.1))
  stops-more size i Salt p l is = (omega (arith, longer), λ s. is.1 (salts-less size i p l s))
  stops-more size i PageZero p l is = (omega (arith, longer), salts-more size i p l is.1, sym (page_same size b (b ++ more) (length b) i same p l) ∙ is.2)
  stops-more size i SumIsWrong p l is = (omega (arith, longer), salts-more size i p l is.1, λ z. is.2 (page_same size b (b ++ more) (length b) i same p l ∙ z), λ s. is.3 (sums-less size i p l s))

  refused-more : (size n : ℕ) (why : Why) → IsRefused size b n why → IsRefused size (b ++ more) n why
  refused-more size n why is = record { whole = omega (arith, is.whole, longer); stops = stops-more size (suc n) why (omega arith) is.whole is.stops }

  begun-more : (h : WalHeader) (held : List ℕ) (n : ℕ) (sum : Sum) → length held + length more < 24 + h.page_size → IsBegun h b held n sum → IsBegun h (b ++ more) (held ++ more) n sum
  begun-more h held n sum l is = record {
    sum_before = subst (λ (x : List ℕ). IsSumOf h.order x sum) (summed_same h.page_size b (b ++ more) (length b) n same is.from) is.sum_before;
    from = omega (arith, is.from, longer);
    rest = ap (λ x. x ++ more) is.rest ∙ sym (drop-append-le (frame_end h.page_size n) b more is.from);
    short = omega (arith, length-append held more);
  }

  module _ (h : WalHeader) (held : List ℕ) (es : List Entry) (p : Progress) (t : TookFrames h b held es p) where
    kept : (held' : List ℕ) → IsBehind h (b ++ more) held' (length es) p.sum p.refused → TookFrames h (b ++ more) held' es p
    kept held' behind = record {
      header = header-more h t.header;
      next = t.next;
      most = t.most;
      valid = valid-more h.page_size (length es) t.valid;
      pages = λ i d l. t.pages i d l ∙ page-more h.page_size (length es) (suc i) t.valid (omega arith) (omega arith);
      sizes = λ i d l. t.sizes i d l ∙ size-more h.page_size (length es) (suc i) t.valid (omega arith) (omega arith);
      front = front-more h.page_size (length es) p.front t.valid t.front;
      behind = behind;
    }

    -- behind a frame that doesn't pass nothing is looked at
    pub took-refused : (held' : List ℕ) (why : Why) → p.refused ≡ Some why → TookFrames h (b ++ more) held' es p
    took-refused held' why e = kept held'
        (subst (λ (r : Option Why). IsBehind h (b ++ more) held' (length es) p.sum r) (sym e)
        (refused-more h.page_size (length es) why (subst (λ (r : Option Why). IsBehind h b held (length es) p.sum r) e t.behind)))

    -- bytes that complete no frame
    pub took-held : p.refused ≡ None → length held + length more < 24 + h.page_size → TookFrames h (b ++ more) (held ++ more) es p
    took-held e l = kept (held ++ more)
        (subst (λ (r : Option Why). IsBehind h (b ++ more) (held ++ more) (length es) p.sum r) (sym e)
        (begun-more h held (length es) p.sum l (subst (λ (r : Option Why). IsBehind h b held (length es) p.sum r) e t.behind)))

    -- the rest behind whole frames
    pub took-rest : held ≡ [] → length more < 24 + h.page_size → TookFrames h (b ++ more) more es p
    took-rest e l = ⊎_elim
        (λ none. subst (λ (x : List ℕ). TookFrames h (b ++ more) (x ++ more) es p) e (took-held none (let k : length held ≡ 0 = ap length e in omega arith)))
        (λ some. took-refused more some.0 some.1)
        (known_or_not p.refused)

-- ---- why bytes are refused

pub frames_refused-more : (most size : ℕ) (w more : List ℕ) (e : WalFormatError) → FramesRefused most size w e → FramesRefused most size (w ++ more) e
frames_refused-more most size w more TooLong is = too_long-more w more size (suc most) is
frames_refused-more most size w more NoMemory is = tt
frames_refused-more most size w more NotAWal is = is
frames_refused-more most size w more PageSize is = is
frames_refused-more most size w more HeaderSum is = is
frames_refused-more most size w more UnknownVersion is = is

pub log_refused : (most : ℕ) (h : WalHeader) (w : List ℕ) (e : WalFormatError) → IsHeaderOf w h → FramesRefused most h.page_size w e → LogRefusedWithin most w e
log_refused most h w TooLong is r = subst (λ (n : ℕ). IsValidFrame n w (suc most)) (sym is.valid.named) r
log_refused most h w NoMemory is r = tt
log_refused most h w NotAWal is r = absurd r
log_refused most h w PageSize is r = absurd r
log_refused most h w HeaderSum is r = absurd r
log_refused most h w UnknownVersion is r = absurd r

-- a header that is refused, with more bytes
module _ (head more : List ℕ) (long : 32 ≤ length head) where
  word-more : (at : ℕ) → at + 4 ≤ 32 → word (head ++ more) at ≡ word head at
  word-more at l = sym (word_same head (head ++ more) (length head) at (same head more) (omega arith))

  magic-less : HasMagic (head ++ more) → HasMagic head
  magic-less is = rw (word-more 0 (omega arith)) at is

  magic-more : HasMagic head → HasMagic (head ++ more)
  magic-more is = rw (word-more 0 (omega arith)) is

  named-same : named_size head ≡ named_size (head ++ more)
  named-same = named-more head more (omega arith)

  front_same : part (head ++ more) 0 24 ≡ part head 0 24
  front_same = sym (part_same head (head ++ more) (length head) 0 24 (same head more) (omega arith))

  order-same : order_of (head ++ more) ≡ order_of head
  order-same = sym (order_same head (head ++ more) (length head) (same head more) (omega arith))

  words_same : words (order_of (head ++ more)) (part (head ++ more) 0 24) ≡ words (order_of head) (part head 0 24)
  words_same = ap (λ o. words o (part (head ++ more) 0 24)) order-same ∙ ap (words (order_of head)) front_same

  header_sums-less : HasHeaderSums (head ++ more) → HasHeaderSums head
  header_sums-less is = (sym (word-more 24 (omega arith)) ∙ is.0 ∙ ap sum_0 words_same, sym (word-more 28 (omega arith)) ∙ is.1 ∙ ap sum_1 words_same)

  header_sums-more : HasHeaderSums head → HasHeaderSums (head ++ more)
  header_sums-more is = (word-more 24 (omega arith) ∙ is.0 ∙ ap sum_0 (sym words_same), word-more 28 (omega arith) ∙ is.1 ∙ ap sum_1 (sym words_same))

  size-is-more : IsPageSize (named_size head) → IsPageSize (named_size (head ++ more))
  size-is-more is = subst (λ (n : ℕ). IsPageSize n) named-same is

  whole-more : 32 ≤ length (head ++ more)
  whole-more = omega (arith, length-append head more)

pub header_refused-more : (most : ℕ) (head more : List ℕ) (e : WalFormatError) → 32 ≤ length head → HeaderRefused head e → LogRefusedWithin most (head ++ more) e
header_refused-more most head more NotAWal long is = (whole-more head more long, λ m. is (magic-less head more long m))
header_refused-more most head more PageSize long is = (whole-more head more long, (magic-more head more long is.0, λ s. is.1 (subst (λ (n : ℕ). IsPageSize n) (sym (named-same head more long)) s)))
header_refused-more most head more HeaderSum long is = (whole-more head more long, (magic-more head more long is.0, size-is-more head more long is.1, λ s. is.2 (header_sums-less head more long s)))
header_refused-more most head more UnknownVersion long is = (whole-more head more long, (magic-more head more long is.0, size-is-more head more long is.1, header_sums-more head more long is.2, λ v. is.3 (sym (word-more head more long 4 (omega arith)) ∙ v)))
header_refused-more most head more TooLong long is = absurd is
header_refused-more most head more NoMemory long is = tt

pub log_refused-more : (most : ℕ) (w more : List ℕ) (e : WalFormatError) → LogRefusedWithin most w e → LogRefusedWithin most (w ++ more) e
log_refused-more most w more TooLong is =
    let long : 32 ≤ length w = (is.each 1 (omega arith) (omega arith)).header.whole in
    subst (λ (n : ℕ). IsValidFrame n (w ++ more) (suc most)) (named-more w more long) (too_long-more w more (named_size w) (suc most) is)
log_refused-more most w more NoMemory is = tt
log_refused-more most w more NotAWal is = header_refused-more most w more NotAWal is.0 is.1
log_refused-more most w more PageSize is = header_refused-more most w more PageSize is.0 is.1
log_refused-more most w more HeaderSum is = header_refused-more most w more HeaderSum is.0 is.1
log_refused-more most w more UnknownVersion is = header_refused-more most w more UnknownVersion is.0 is.1
