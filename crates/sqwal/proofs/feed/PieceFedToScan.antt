-- How a piece is fed to a scan.
use Rattle.std.proofs.Common.{◌≡◌, inl, inr, ⊎_elim, ℕ, ◌+◌, ◌-◌, ◌<◌, ◌≤◌, List, ◌++◌, length, take, Option, Some, None, refl, sym, ◌∙◌, ap, subst, arith, length-append, append_assoc}
use Rattle.std.specs.Prelude.{Result, Ok, Err, MatchResult, IfOk, IfErr, if◌then◌else◌, is_ok}
use Rattle.std.specs.declared.vec.Vec.{Vec}
use Rattle.std.specs.declared.alloc.Global.{Global}
use Rattle.std.proofs.lemmas.List.{nil_from_length, take_all, get_or_append_left, get_or-append_right}
use Rattle.std.proofs.lemmas.Bool.{cases_lt, cases_eq}
use Rattle.sqval.specs.Bytes.{AreBytes}
use Rattle.sqwal.specs.Answers.{LogRefusedWithin, FeedAnswerWithin}
use Rattle.sqwal.specs.Took.{IsBegun, IsBehind, TookFrames, TookNone, TookParts, TookWithin}
use Rattle.sqwal.specs.internal.ScanParts.{FramesRefused, IsFed, IsCompleted}
use Rattle.sqwal.specs.declared.header.WalHeader.{WalHeader}
use Rattle.sqwal.specs.declared.scan.Entry.{Entry}
use Rattle.sqwal.specs.declared.scan.Progress.{Progress}
use Rattle.sqwal.specs.declared.scan.Why.{Why}
use Rattle.sqwal.specs.declared.scan.Scan.{Scan}
use Rattle.sqwal.specs.declared.error.WalFormatError.{WalFormatError}
use Rattle.sqwal.specs.declared.error.WalFormatError.TheVariants.{NoMemory}
use Rattle.sqwal.proofs.feed.ScanUnderMoreBytes.{header-more, log_refused, took-held}
use Rattle.sqwal.proofs.feed.ScanAnswers.{few_frames}

pub parts-same : (b : List ℕ) (held held' : List ℕ) (es es' : List Entry) (p p' : Progress) (o o' : Option WalHeader) → held' ≡ held → es' ≡ es → p' ≡ p → o' ≡ o → TookParts b held es p o → TookParts b held' es' p' o'
parts-same b held held' es es' p p' o o' eh ee ep eo t =
    subst (λ (x : List ℕ). TookParts b x es' p' o') (sym eh)
    (subst (λ (x : List Entry). TookParts b held x p' o') (sym ee)
    (subst (λ (x : Progress). TookParts b held es x o') (sym ep)
    (subst (λ (x : Option WalHeader). TookParts b held es p x) (sym eo) t)))

-- ---- bytes that complete nothing

pub fed-held : {T : Type 0} (b piece : List ℕ) (s t : Scan) (r : Result T WalFormatError) → t.held.items ≡ (if is_ok r then s.held.items ++ piece else s.held.items) → t.header ≡ s.header → t.frames.entries.items ≡ s.frames.entries.items → t.frames.progress ≡ s.frames.progress → IfErr r (λ e. e ≡ NoMemory)
    → TookParts b s.held.items s.frames.entries.items s.frames.progress s.header → TookParts (b ++ piece) (s.held.items ++ piece) s.frames.entries.items s.frames.progress s.header → IsFed s.frames.progress.limits.frames b piece r t
fed-held b piece s t (Ok x) eh eo ee ep memory before after = record {
  limit = ap (λ (p : Progress). p.limits.frames) ep;
  parts = parts-same (b ++ piece) (s.held.items ++ piece) t.held.items s.frames.entries.items t.frames.entries.items s.frames.progress t.frames.progress s.header t.header eh ee ep eo after;
}
fed-held b piece s t (Err e) eh eo ee ep memory before after = (
  record {
    limit = ap (λ (p : Progress). p.limits.frames) ep;
    parts = parts-same b s.held.items t.held.items s.frames.entries.items t.frames.entries.items s.frames.progress t.frames.progress s.header t.header eh ee ep eo before;
  },
  subst (λ (x : WalFormatError). LogRefusedWithin s.frames.progress.limits.frames (b ++ piece) x) (sym memory) tt,
)

pub fed-begun : {T : Type 0} (h : WalHeader) (b piece : List ℕ) (s t : Scan) (r : Result T WalFormatError) → t.held.items ≡ (if is_ok r then s.held.items ++ piece else s.held.items) → t.header ≡ s.header → t.frames.entries.items ≡ s.frames.entries.items → t.frames.progress ≡ s.frames.progress → IfErr r (λ e. e ≡ NoMemory)
    → s.header ≡ Some h → TookFrames h b s.held.items s.frames.entries.items s.frames.progress → s.frames.progress.refused ≡ None → length s.held.items + length piece < 24 + h.page_size → IsFed s.frames.progress.limits.frames b piece r t
fed-begun h b piece s t r eh eo ee ep memory some took none l = fed-held b piece s t r eh eo ee ep memory
    (subst (λ (o : Option WalHeader). TookParts b s.held.items s.frames.entries.items s.frames.progress o) (sym some) took)
    (subst (λ (o : Option WalHeader). TookParts (b ++ piece) (s.held.items ++ piece) s.frames.entries.items s.frames.progress o) (sym some) (took-held b piece h s.held.items s.frames.entries.items s.frames.progress took none l))

-- ---- bytes that complete a frame

-- how many bytes a begun frame lacks
abbrev pub IsMissing : WalHeader → (held : List ℕ) → ℕ → Type 0
IsMissing h held missing = (length held ≡ 0 → missing ≡ 0) × (1 ≤ length held → missing ≡ 24 + h.page_size - length held)

pub is_missing : (h : WalHeader) (held x : List ℕ) (missing : ℕ) → x ≡ held → (length x ≡ 0 → missing ≡ 0) → (1 ≤ length x → missing ≡ 24 + h.page_size - length x) → IsMissing h held missing
is_missing h held x missing e a b = subst (λ (y : List ℕ). IsMissing h y missing) e (a, b)

pub fits_in : (h : WalHeader) (held piece : List ℕ) (missing : ℕ) → IsMissing h held missing → length piece < missing → length held + length piece < 24 + h.page_size
fits_in h held piece missing is l = ⊎_elim
    (λ z. absurd (omega (arith, is.0 z)))
    (λ nz. omega (arith, is.1 (let q : 1 ≤ length held = omega arith in q)))
    (cases_eq (length held) 0)

pub completes : (h : WalHeader) (b held first : List ℕ) (es : List Entry) (p : Progress) (missing : ℕ) → TookFrames h b held es p → p.refused ≡ None → IsMissing h held missing → length first ≡ missing → IsCompleted h held first
completes h b held first es p missing t none is l =
    let begun : IsBegun h b held (length es) p.sum = subst (λ (r : Option Why). IsBehind h b held (length es) p.sum r) none t.behind in
    ⊎_elim
    (λ z. inl (nil_from_length held z, nil_from_length first (l ∙ is.0 z)))
    (λ nz. let q : 1 ≤ length held = omega arith in inr (q, omega (arith, is.1 q, begun.short, length-append held first)))
    (cases_eq (length held) 0)

-- after an error all is as before
pub fed-back : (most : ℕ) (h : WalHeader) (b w : List ℕ) (held held' : List ℕ) (es es' : List Entry) (p : Progress) (o o' : Option WalHeader) (e : WalFormatError) → o ≡ Some h → held' ≡ held → es' ≡ es → o' ≡ o → TookFrames h b held es p → FramesRefused most h.page_size (b ++ w) e → TookParts b held' es' p o' × LogRefusedWithin most (b ++ w) e
fed-back most h b w held held' es es' p o o' e some eh ee eo t r = (
  parts-same b held held' es es' p p o o' eh ee refl eo (subst (λ (x : Option WalHeader). TookParts b held es p x) (sym some) t),
  log_refused most h (b ++ w) e (header-more b w h t.header) r,
)

-- the rest was kept, or memory is out
pub all-kept : (most : ℕ) (h : WalHeader) (w left : List ℕ) (es : List Entry) (p : Progress) (r : Result (Vec ℕ Global) WalFormatError) → IfOk r (λ v. v.items ≡ left) → IfErr r (λ e. e ≡ NoMemory) → TookFrames h w left es p → MatchResult r (λ v. TookFrames h w v.items es p) (FramesRefused most h.page_size w)
all-kept most h w left es p (Ok v) is memory t = subst (λ (x : List ℕ). TookFrames h w x es p) (sym is) t
all-kept most h w left es p (Err e) is memory t = subst (λ (x : WalFormatError). FramesRefused most h.page_size w x) (sym memory) tt

-- ---- bytes that complete the header

module _ (b piece held first rest joined head : List ℕ) (es : List Entry) (p : Progress) (t : TookNone b held es p) (cut : piece ≡ first ++ rest) (l : length first ≡ 32 - length held) (join : joined ≡ held ++ first) (is : head ≡ take 32 joined) where
  pub head-piece : head ++ rest ≡ b ++ piece
  head-piece =
      let n : length joined ≡ 32 = omega (arith, ap length join, length-append held first, t.short, ap length t.all) in
      ap (λ x. x ++ rest) (is ∙ take_all 32 joined (omega arith) ∙ join ∙ ap (λ x. x ++ first) t.all) ∙ append_assoc b first rest ∙ ap (λ x. b ++ x) (sym cut)

pub fed-refused : (most : ℕ) (b piece w held : List ℕ) (es : List Entry) (p : Progress) (o : Option WalHeader) (e : WalFormatError) → TookNone b held es p → o ≡ None → w ≡ b ++ piece → LogRefusedWithin most w e → TookParts b held es p o × LogRefusedWithin most (b ++ piece) e
fed-refused most b piece w held es p o e t none is r = (
  subst (λ (x : Option WalHeader). TookParts b held es p x) (sym none) t,
  subst (λ (x : List ℕ). LogRefusedWithin most x e) is r,
)

-- ---- what a scan answers to a piece

pub are_bytes : (b piece : List ℕ) → AreBytes b → AreBytes piece → AreBytes (b ++ piece)
are_bytes b piece x y i = ⊎_elim
    (λ lt. rw (get_or_append_left b piece 0 i lt) (x i))
    (λ le. rw (get_or-append_right b piece (length b) i 0 refl le) (y (i - length b)))
    (cases_lt i (length b))

pub fed-answer : {T : Type 0} (most : ℕ) (b piece : List ℕ) (r : Result T WalFormatError) (s : Scan) → AreBytes b → AreBytes piece → IsFed most b piece r s → FeedAnswerWithin most b piece r s
fed-answer most b piece (Ok x) s p q is =
    let took : TookWithin most (b ++ piece) s = record { bytes = are_bytes b piece p q; limit = is.limit; parts = is.parts } in
    (took, few_frames (b ++ piece) s took)
fed-answer most b piece (Err e) s p q is = (record { bytes = p; limit = is.0.limit; parts = is.0.parts }, is.1)
