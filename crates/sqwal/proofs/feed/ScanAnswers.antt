-- What a scan answers of the bytes that it took.
use Rattle.std.proofs.Common.{◌≡◌, ◌⊎◌, inl, inr, ⊎_elim, ℕ, suc, ◌+◌, ◌-◌, ◌<◌, ◌≤◌, cond, List, length, Option, Some, None, refl, sym, ◌∙◌, ap, subst, arith, length-drop}
use Rattle.std.specs.Prelude.{unwrap_or, slice_get}
use Rattle.std.proofs.lemmas.List.{nil_from_length}
use Rattle.std.proofs.lemmas.Bool.{cases_lt, cases_eq, lt-ltb, le-ltb, ltb-true, ltb-false}
use Rattle.std.specs.Borrow.{Bor}
use Rattle.std.specs.Slice.{IsItemAt}
use Rattle.std.specs.Option.{option_copied}
use Rattle.std.proofs.lemmas.Option.{slice_get-get_or, slice_get_past, slice_get_read}
use Rattle.sqwal.specs.Header.{named_size}
use Rattle.sqwal.specs.Frames.{frame_end, page_of, size_of, Passes, AllPass, IsValidFrame, IsFront}
use Rattle.sqwal.specs.Stops.{StopsFor, IsStop}
use Rattle.sqwal.specs.Answers.{HeaderFound, EntryFound, AreEntriesWithin, IsCommittedWithin}
use Rattle.sqwal.specs.Took.{IsBegun, IsRefused, IsBehind, TookFrames, TookParts, TookWithin}
use Rattle.sqwal.specs.declared.header.WalHeader.{WalHeader}
use Rattle.sqwal.specs.declared.scan.Entry.{Entry}
use Rattle.sqwal.specs.declared.scan.Front.{Front}
use Rattle.sqwal.specs.declared.scan.Progress.{Progress}
use Rattle.sqwal.specs.declared.scan.Scan.{Scan}
use Rattle.sqwal.specs.declared.scan.Why.{Why}
use Rattle.sqwal.specs.declared.scan.Why.TheVariants.{End, Cut, Salt, PageZero, Sum}
use Rattle.sqwal.proofs.log.DependenceOnPrefix.{frame_at-suc, frame_end-suc, frame_at-end}
use Rattle.sqwal.proofs.feed.ScanUnderMoreBytes.{known_or_not}

-- a log without a whole header has no valid frame
no_header : (size : ℕ) (b : List ℕ) (i : ℕ) → length b < 32 → IsValidFrame size b i → ⊥
no_header size b i short is = omega (arith, (is.each i is.first (omega arith)).header.whole)

passes_not : (size : ℕ) (b : List ℕ) (i : ℕ) (why : Why) → 1 ≤ i → frame_end size i ≤ length b → StopsFor size b i why → Passes size b i → ⊥
passes_not size b i End p l is x = omega (arith, frame_at-end size i p)
passes_not size b i Cut p l is x = omega (arith, is.1)
passes_not size b i Salt p l is x = is.1 x.salts
passes_not size b i PageZero p l is x = x.page is.2
passes_not size b i Sum p l is x = is.3 x.sums

module _ (h : WalHeader) (b held : List ℕ) (es : List Entry) (p : Progress) (t : TookFrames h b held es p) where
  begun : p.refused ≡ None → IsBegun h b held (length es) p.sum
  begun e = subst (λ (r : Option Why). IsBehind h b held (length es) p.sum r) e t.behind

  refused : (why : Why) → p.refused ≡ Some why → IsRefused h.page_size b (length es) why
  refused why e = subst (λ (r : Option Why). IsBehind h b held (length es) p.sum r) e t.behind

  -- how much is held back
  held_long : p.refused ≡ None → frame_end h.page_size (length es) + length held ≡ length b
  held_long e =
      let is : IsBegun h b held (length es) p.sum = begun e in
      let f : frame_end h.page_size (length es) ≤ length b = is.from in
      omega (arith, ap length is.rest, length-drop (frame_end h.page_size (length es)) b)

  next_passes_not : Passes h.page_size b (suc (length es)) → ⊥
  next_passes_not x = ⊎_elim
      (λ e. omega (arith, x.whole, held_long e, (begun e).short, frame_end-suc h.page_size (length es)))
      (λ e. passes_not h.page_size b (suc (length es)) e.0 (omega arith) (refused e.0 e.1).whole (refused e.0 e.1).stops x)
      (known_or_not p.refused)

  pub valid_within : (i : ℕ) → IsValidFrame h.page_size b i → i ≤ length es
  valid_within i is = ⊎_elim
      (λ lt. absurd (next_passes_not (is.each (suc (length es)) (omega arith) lt)))
      (λ le. le)
      (cases_lt (length es) i)

  named : named_size b ≡ h.page_size
  named = t.header.valid.named

  valid : (i : ℕ) → 1 ≤ i → i ≤ length es → IsValidFrame h.page_size b i
  valid i q l = record { first = q; each = λ j x y. t.valid j x (omega arith) }

  entry_some : (index : ℕ) → index < length es → EntryFound b (suc index) (slice_get es index)
  entry_some index l =
      let d : Entry = record { page = 0; size = 0 } in
      subst (λ (o : Option Entry). EntryFound b (suc index) o) (sym (slice_get-get_or es index d l)) (
        subst (λ (n : ℕ). IsValidFrame n b (suc index)) (sym named) (valid (suc index) (omega arith) l),
        t.pages index d l ∙ ap (λ n. page_of n b (suc index)) (sym named),
        t.sizes index d l ∙ ap (λ n. size_of n b (suc index)) (sym named),
      )

  entry_none : (index : ℕ) → length es ≤ index → EntryFound b (suc index) (slice_get es index)
  entry_none index l = subst (λ (o : Option Entry). EntryFound b (suc index) o) (sym (slice_get_past es index l))
      (λ is. omega (arith, valid_within (suc index) (subst (λ (n : ℕ). IsValidFrame n b (suc index)) named is)))

  entries_frames : AreEntriesWithin p.limits.frames b es
  entries_frames = record {
    most = t.most;
    valid = λ i q l. subst (λ (n : ℕ). IsValidFrame n b i) (sym named) (valid i q l);
    all = λ i is. valid_within i (subst (λ (n : ℕ). IsValidFrame n b i) named is);
    pages = λ i d l. t.pages i d l ∙ ap (λ n. page_of n b (suc i)) (sym named);
    sizes = λ i d l. t.sizes i d l ∙ ap (λ n. size_of n b (suc i)) (sym named);
  }

  front_is : IsFront h.page_size b p.front.frames
  front_is = record {
    is = ⊎_elim
        (λ z. inl z)
        (λ nz. let q : 1 ≤ p.front.frames = omega arith in inr (valid p.front.frames q t.front.within, λ z. (t.front.commit q).1 ((t.front.commit q).0 ∙ z)))
        (cases_eq p.front.frames 0);
    greatest = λ i is commit. ⊎_elim
        (λ lt. absurd (commit (t.front.last i lt (valid_within i is))))
        (λ le. le)
        (cases_lt p.front.frames i);
  }

  committed_frames : IsCommittedWithin p.limits.frames b p.front
  committed_frames = record {
    front = subst (λ (n : ℕ). IsFront n b p.front.frames) (sym named) front_is;
    most = omega (arith, t.front.within, t.most);
    none = t.front.none;
    some = λ q. (t.front.commit q).0 ∙ ap (λ n. size_of n b p.front.frames) (sym named);
    end = t.front.end ∙ ap (λ n. frame_end n p.front.frames) (sym named) ∙ ap (λ c. cond c 0 (frame_end (named_size b) p.front.frames)) (sym (le-ltb (length b) 32 t.header.valid.whole));
  }

  stop_begun : (short : Why) → p.refused ≡ None → ((length held ≡ 0) × (short ≡ End)) ⊎ ((1 ≤ length held) × (short ≡ Cut)) → StopsFor h.page_size b (suc (length es)) short
  stop_begun short e = ⊎_elim
      (λ z. subst (λ (w : Why). StopsFor h.page_size b (suc (length es)) w) (sym z.1) (omega (arith, held_long e, z.0, frame_at-suc h.page_size (length es))))
      (λ z. subst (λ (w : Why). StopsFor h.page_size b (suc (length es)) w) (sym z.1) (
        omega (arith, held_long e, z.0, frame_at-suc h.page_size (length es)),
        omega (arith, held_long e, (begun e).short, frame_end-suc h.page_size (length es)),
      ))

  stop_why : (short : Why) → ((length held ≡ 0) × (short ≡ End)) ⊎ ((1 ≤ length held) × (short ≡ Cut)) → StopsFor h.page_size b (suc (length es)) (unwrap_or p.refused short)
  stop_why short is = ⊎_elim
      (λ e. subst (λ (r : Option Why). StopsFor h.page_size b (suc (length es)) (unwrap_or r short)) (sym e) (stop_begun short e is))
      (λ e. subst (λ (r : Option Why). StopsFor h.page_size b (suc (length es)) (unwrap_or r short)) (sym e.1) (refused e.0 e.1).stops)
      (known_or_not p.refused)

  stop_frames : (short : Why) → ((length held ≡ 0) × (short ≡ End)) ⊎ ((1 ≤ length held) × (short ≡ Cut)) → IsStop b p.next (unwrap_or p.refused short)
  stop_frames short is =
      let n : p.next - 1 ≡ length es = omega (arith, t.next) in
      inr (
        t.header.valid.whole,
        omega (arith, t.next),
        subst (λ (k : ℕ). AllPass k b (p.next - 1)) (sym named) (subst (λ (k : ℕ). AllPass h.page_size b k) (sym n) t.valid),
        subst (λ (k : ℕ). StopsFor k b p.next (unwrap_or p.refused short)) (sym named) (subst (λ (k : ℕ). StopsFor h.page_size b k (unwrap_or p.refused short)) (sym t.next) (stop_why short is)),
      )

module _ (b held : List ℕ) (es : List Entry) (p : Progress) where
  pub header_found : (o : Option WalHeader) → TookParts b held es p o → HeaderFound b o
  header_found None t = t.short
  header_found (Some h) t = (t.header.valid.whole, t.header)

  pub entry_found : (o : Option WalHeader) (index : ℕ) → TookParts b held es p o → EntryFound b (suc index) (slice_get es index)
  entry_found None index t = subst (λ (x : List Entry). EntryFound b (suc index) (slice_get x index)) (sym t.nothing) (λ is. no_header (named_size b) b (suc index) t.short is)
  entry_found (Some h) index t = ⊎_elim (entry_some h b held es p t index) (entry_none h b held es p t index) (cases_lt index (length es))

  pub entries_are : (o : Option WalHeader) → TookParts b held es p o → AreEntriesWithin p.limits.frames b es
  entries_are None t = subst (λ (x : List Entry). AreEntriesWithin p.limits.frames b x) (sym t.nothing) (record {
    most = omega arith;
    valid = λ i q l. absurd (omega arith);
    all = λ i is. absurd (no_header (named_size b) b i t.short is);
    pages = λ i d l. absurd (omega arith);
    sizes = λ i d l. absurd (omega arith);
  })
  entries_are (Some h) t = entries_frames h b held es p t

  pub committed_is : (o : Option WalHeader) → TookParts b held es p o → IsCommittedWithin p.limits.frames b p.front
  committed_is None t = subst (λ (f : Front). IsCommittedWithin p.limits.frames b f) (sym t.front) (record {
    front = record { is = inl refl; greatest = λ i is commit. absurd (no_header (named_size b) b i t.short is) };
    most = omega arith;
    none = λ z. refl;
    some = λ q. absurd (omega arith);
    end = ap (λ c. cond c 0 (frame_end (named_size b) 0)) (sym (lt-ltb (length b) 32 t.short));
  })
  committed_is (Some h) t = committed_frames h b held es p t

  pub stop_is : (o : Option WalHeader) (short : Why) → TookParts b held es p o → ((length held ≡ 0) × (short ≡ End)) ⊎ ((1 ≤ length held) × (short ≡ Cut)) → IsStop b p.next (unwrap_or p.refused short)
  stop_is None short t is = subst (λ (r : Option Why). IsStop b p.next (unwrap_or r short)) (sym t.refused) (⊎_elim
      (λ z. subst (λ (w : Why). IsStop b p.next w) (sym z.1) (inl (t.short, t.next, sym t.all ∙ nil_from_length held z.0)))
      (λ z. subst (λ (w : Why). IsStop b p.next w) (sym z.1) (inl (t.short, t.next, λ nil. omega (arith, z.0, ap length t.all, ap length nil))))
      is)
  stop_is (Some h) short t is = stop_frames h b held es p t short is

-- a scan takes no more frames
pub few_frames : {most : ℕ} (w : List ℕ) (scan : Scan) → TookWithin most w scan → IsValidFrame (named_size w) w (suc most) → ⊥
few_frames {most} w scan took valid =
    let are = entries_are w scan.held.items scan.frames.entries.items scan.frames.progress scan.header took.parts in
    let few : length scan.frames.entries.items ≤ scan.frames.progress.limits.frames = are.most in
    let limit : scan.frames.progress.limits.frames ≡ most = took.limit in
    let le : suc most ≤ length scan.frames.entries.items = are.all (suc most) valid in
    omega arith

-- what a scan says of its frames, at its limit
pub entries_within : (most : ℕ) (w : List ℕ) (scan : Scan) → TookWithin most w scan → AreEntriesWithin most w scan.frames.entries.items
entries_within most w scan took = subst (λ (n : ℕ). AreEntriesWithin n w scan.frames.entries.items) took.limit
    (entries_are w scan.held.items scan.frames.entries.items scan.frames.progress scan.header took.parts)

pub committed_within : (most : ℕ) (w : List ℕ) (scan : Scan) → TookWithin most w scan → IsCommittedWithin most w scan.frames.progress.front
committed_within most w scan took = subst (λ (n : ℕ). IsCommittedWithin n w scan.frames.progress.front) took.limit
    (committed_is w scan.held.items scan.frames.entries.items scan.frames.progress scan.header took.parts)

-- what `get` lends, copied
pub copied_get : {X : Type 0} (xs : List X) (i : ℕ) (r : Option (Bor X)) → IsItemAt xs i r → option_copied r ≡ slice_get xs i
copied_get xs i None is = sym (slice_get_past xs i (ltb-false i (length xs) (sym is.0)))
copied_get xs i (Some x) is = sym (slice_get_read xs (length xs) i x.now refl (ltb-true i (length xs) (sym is.0)) is.1)
