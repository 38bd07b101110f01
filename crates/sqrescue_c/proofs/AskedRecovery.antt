-- What a recovery refuses of files.
use Rattle.std.proofs.Common.{◌≡◌, ◌≢◌, ◌⊎◌, inl, inr, ⊎_elim, ℕ, ◌-◌, ◌<◌, ◌≤◌, List, [], length, take, drop, refl, sym, ◌∙◌, ap, subst, arith, length-drop}
use Rattle.std.proofs.lemmas.List.{length-take-le, take-append-drop}
use Rattle.std.specs.Prelude.{Result, Ok, Err, IfErr, OnOk}
use Rattle.sqwal.specs.Header.{named_size, IsHeader, IsHeaderOf, HeaderRefused, HeaderAnswer}
use Rattle.sqwal.specs.Answers.{LogRefused, IsCommittedWithin}
use Rattle.sqwal.specs.Refusal.{most_frames}
use Rattle.sqwal.specs.declared.header.WalHeader.{WalHeader}
use Rattle.sqwal.specs.declared.scan.Front.{Front}
use Rattle.sqwal.specs.declared.error.WalFormatError.{WalFormatError}
use Rattle.sqwal.specs.declared.error.WalFormatError.TheVariants.{NotAWal, PageSize, HeaderSum, UnknownVersion, TooLong, NoMemory}
use Rattle.sqwal.proofs.feed.ScanUnderMoreBytes.{header-more, header_refused-more}
use Rattle.sqjournal.specs.Journal.{IsHot}
use Rattle.sqview.specs.Laid.{part_or_zeros}
use Rattle.sqview.specs.LogView.{head_of}
use Rattle.sqview.proofs.file.FileHeads.{page_is_part, head_is}
use Rattle.sqview.specs.Logs.{CountsAnswer}
use Rattle.sqview.specs.declared.view_error.ViewError.{ViewError}
use Rattle.sqview.specs.declared.view_error.ViewError.TheVariants as viewed
use Rattle.sqpast.specs.declared.past_error.PastError.{PastError}
use Rattle.sqpast.specs.declared.past_error.PastError.TheVariants.{Refused, CommitOverwritten}
use Rattle.sqrescue_c.specs.Statuses.{view_status, past_status}
use Rattle.sqrescue_c.specs.Views.{IsRefused, IsRefusedAt}
use Rattle.sqrescue_c.specs.Recoveries.{EndsWithMagic, HasFront, NamesOtherSize, RefusesAsRecovery, RefusesAsRecoveryAt}
use Rattle.sqrescue_c.specs.internal.Recoveries.{memory_of, version_of, IsAskedOfLog, IsAsked, IsAskedAt}
use Rattle.sqrescue_c.specs.internal.Statuses.{number_of}
use Rattle.sqrescue_c.specs.declared.status.Status.{Status}
use Rattle.sqrescue_c.specs.declared.status.Status.TheVariants as statuses

abbrev pub Answer : Type 0
Answer = Result (Unit {0}) Status

abbrev pub pass : Answer
pass = Ok tt

abbrev pub fail : Status → Answer
fail s = Err s

-- the number of an answer that says nothing of what a recovery refuses so
pub record IsOther (n : ℕ) : Type 0 where
  pub version : n ≢ 14
  pub super_journal : n ≢ 15
  pub sizes : n ≢ 16
  pub greatest : (n ≤ 16) ⊎ (n ≡ 30)

-- what the first 32 bytes say, the log says
pub header_of_taken : (w : List ℕ) (r : Result WalHeader WalFormatError) → 32 ≤ length w → HeaderAnswer (take 32 w) r → HeaderAnswer w r
header_of_taken w (Ok h) long is = subst (λ (x : List ℕ). IsHeaderOf x h) (take-append-drop 32 w) (header-more (take 32 w) (drop 32 w) h is)
header_of_taken w (Err e) long is = by e is
  where
    head : 32 ≤ length (take 32 w)
    head = omega (arith, length-take-le 32 w long)

    from : (e : WalFormatError) → HeaderRefused (take 32 w) e → LogRefused w e
    from e is = subst (λ (x : List ℕ). LogRefused x e) (take-append-drop 32 w) (header_refused-more most_frames (take 32 w) (drop 32 w) e head is)

    by : (e : WalFormatError) → HeaderRefused (take 32 w) e → HeaderRefused w e
    by NotAWal is = (from NotAWal is).1
    by PageSize is = (from PageSize is).1
    by HeaderSum is = (from HeaderSum is).1
    by UnknownVersion is = (from UnknownVersion is).1
    by TooLong is = absurd is
    by NoMemory is = absurd is

-- the first 100 bytes of a file
pub head_as_read : (db head : List ℕ) → head ≡ part_or_zeros 100 0 db → head ≡ head_of db
head_as_read db head is = is ∙ page_is_part 100 1 db ∙ head_is db

-- the last 8 bytes of a journal
pub no_end : (journal : List ℕ) → length journal < 8 → EndsWithMagic journal → ⊥
no_end journal short is = let n = ap length is in omega (arith, n, length-drop (length journal - 8) journal, short)

-- a log with a front has a valid header
header_of_front : (wal : List ℕ) → HasFront wal → IsHeader (named_size wal) wal
header_of_front wal has = ⊎_elim
    (λ none. let some : 1 ≤ has.front = has.some in absurd (omega (arith, none, some)))
    (λ v. (v.0.each 1 (omega arith) v.0.first).header) has.is.is

version_of_front : (wal : List ℕ) → HasFront wal → LogRefused wal UnknownVersion → ⊥
version_of_front wal has refused = refused.1.3 (header_of_front wal has).version

module _ (db wal : List ℕ) where
  pub log_cut : length wal < 32 → IsAskedOfLog db wal pass
  log_cut short = (λ r. let long : 32 ≤ length wal = r.0 in omega arith, λ has _. let long : 32 ≤ length wal = (header_of_front wal has).whole in omega arith)

  pub log_bad : (e : WalFormatError) → 32 ≤ length wal → HeaderRefused wal e → IsAskedOfLog db wal (version_of e)
  log_bad NotAWal long is = (λ r. is r.1.0, λ has _. is (header_of_front wal has).magic)
  log_bad PageSize long is = (λ r. is.1 r.1.1, λ has _. is.1 (header_of_front wal has).is_size)
  log_bad HeaderSum long is = (λ r. is.2 r.1.2, λ has _. is.2 (header_of_front wal has).sums)
  log_bad UnknownVersion long is = (long, is)
  log_bad TooLong long is = absurd is
  log_bad NoMemory long is = absurd is

  version_right : (h : WalHeader) → IsHeaderOf wal h → LogRefused wal UnknownVersion → ⊥
  version_right h is r = r.1.3 is.valid.version

  pub log_same : (h : WalHeader) → IsHeaderOf wal h → (NamesOtherSize db h.page_size → ⊥) → IsAskedOfLog db wal pass
  log_same h is same = (version_right h is, λ _ other. same (subst (λ (n : ℕ). NamesOtherSize db n) is.valid.named other))

  pub log_other : (r : Answer) (h : WalHeader) → IsHeaderOf wal h → NamesOtherSize db h.page_size
      → IfErr r (λ s. ((s ≡ statuses.PageSizesDiffer) × HasFront wal) ⊎ (s ≡ statuses.NoMemory)) → OnOk r (¬ HasFront wal) → IsAskedOfLog db wal r
  log_other (Ok t) h is other why none = (version_right h is, λ has _. none has)
  log_other (Err s) h is other why none = ⊎_elim
      (λ p. subst (λ (x : Status). IsAskedOfLog db wal (fail x)) (sym p.0) (p.1, subst (λ (n : ℕ). NamesOtherSize db n) (sym is.valid.named) other))
      (λ p. subst (λ (x : Status). IsAskedOfLog db wal (fail x)) (sym p) (version_right h is)) why

-- no front, or a log that is refused
pub no_front : (wal : List ℕ) (f : Front) → IsCommittedWithin most_frames wal f → f.frames ≡ 0 → HasFront wal → ⊥
no_front wal f is zero has = ⊎_elim
    (λ none. let some : 1 ≤ has.front = has.some in omega (arith, none, some))
    (λ v. let some : 1 ≤ has.front = has.some in let le : has.front ≤ f.frames = is.front.greatest has.front v.0 v.1 in omega (arith, le, zero, some))
    has.is.is

pub refused_front : (wal : List ℕ) (e : WalFormatError) → LogRefused wal e
    → IfErr (memory_of e) (λ s. ((s ≡ statuses.PageSizesDiffer) × HasFront wal) ⊎ (s ≡ statuses.NoMemory)) × OnOk (memory_of e) (¬ HasFront wal)
refused_front wal NotAWal is = (tt, λ has. is.1 (header_of_front wal has).magic)
refused_front wal PageSize is = (tt, λ has. is.1.1 (header_of_front wal has).is_size)
refused_front wal HeaderSum is = (tt, λ has. is.1.2 (header_of_front wal has).sums)
refused_front wal UnknownVersion is = (tt, λ has. is.1.3 (header_of_front wal has).version)
refused_front wal TooLong is = (tt, λ has. has.short is)
refused_front wal NoMemory is = (inr refl, tt)

module _ (db wal journal : List ℕ) where
  pub of_log : (r : Answer) → (¬ IsHot journal) → IsAskedOfLog db wal r → IsAsked db wal journal r
  of_log (Ok t) cold q = (λ v. q.0 v.refused, λ n. cold n.hot, λ h. q.1 h.has h.other)
  of_log (Err statuses.LogVersion) cold q = record { cold = cold; refused = q }
  of_log (Err statuses.PageSizesDiffer) cold q = record { cold = cold; has = q.0; other = q.1 }
  of_log (Err statuses.NoMemory) cold q = (λ v. q v.refused, λ n. cold n.hot)
  of_log (Err _) cold q = absurd q

  pub of_journal : IsHot journal → (EndsWithMagic journal → wal ≡ [] → ⊥) → IsAsked db wal journal pass
  of_journal hot not = (λ v. v.cold hot, λ n. not n.named n.alone, λ h. h.cold hot)

  pub of_neither : (¬ IsHot journal) → wal ≡ [] → IsAsked db wal journal pass
  of_neither cold none =
      let empty : length wal ≡ 0 = ap length none in (
        λ v. let long : 32 ≤ length wal = v.refused.0 in omega (arith, empty, long),
        λ n. cold n.hot,
        λ h. let long : 32 ≤ length wal = (header_of_front wal h.has).whole in omega (arith, empty, long),
      )

  pub of_two : (e : ViewError) → CountsAnswer wal journal (Err e) → IsAsked db wal journal pass
  of_two viewed.TwoLogs two = (λ v. v.cold two.0, λ n. two.1 n.alone, λ h. h.cold two.0)
  of_two viewed.TooLarge two = absurd two
  of_two (viewed.Header fault) two = absurd two
  of_two viewed.Unread two = absurd two
  of_two viewed.NoMemory two = absurd two
  of_two viewed.NoSuchCommit two = absurd two

  pub of_log_at : (m : ℕ) (r : Answer) → 1 ≤ m → (¬ IsHot journal) → IsAskedOfLog db wal r → IsAskedAt m db wal journal r
  of_log_at m (Ok t) some cold q = λ _. (λ v. q.0 v.refused, λ h. q.1 h.has h.other)
  of_log_at m (Err statuses.LogVersion) some cold q = (some, record { cold = cold; refused = q })
  of_log_at m (Err statuses.PageSizesDiffer) some cold q = (some, record { cold = cold; has = q.0; other = q.1 })
  of_log_at m (Err statuses.NoMemory) some cold q = λ v. q v.refused
  of_log_at m (Err _) some cold q = absurd q

  pub none_at : (m : ℕ) → IsAsked db wal journal pass → IsAskedAt m db wal journal pass
  none_at m q = λ _. (q.0, q.2)

  -- what a call answers then
  pub passed_as : (n : ℕ) → n < 14 → IsAsked db wal journal pass → RefusesAsRecovery db wal journal n
  passed_as n low q = record {
    version = (λ e. absurd (omega (arith, e)), λ v. absurd (q.0 v));
    super_journal = (λ e. absurd (omega (arith, e)), λ s. absurd (q.1 s));
    sizes = λ e. absurd (omega (arith, e));
    other_sizes = λ h. absurd (q.2 h);
    greatest = omega arith;
  }

  pub refused_as : (s : Status) → IsAsked db wal journal (fail s) → RefusesAsRecovery db wal journal (number_of s)
  refused_as statuses.LogVersion q = record {
    version = (λ _. q, λ _. refl);
    super_journal = (λ e. absurd (omega (arith, e)), λ s. absurd (q.cold s.hot));
    sizes = λ e. absurd (omega (arith, e));
    other_sizes = λ h. absurd (version_of_front wal h.has q.refused);
    greatest = omega arith;
  }
  refused_as statuses.SuperJournal q = record {
    version = (λ e. absurd (omega (arith, e)), λ v. absurd (v.cold q.hot));
    super_journal = (λ _. q, λ _. refl);
    sizes = λ e. absurd (omega (arith, e));
    other_sizes = λ h. absurd (h.cold q.hot);
    greatest = omega arith;
  }
  refused_as statuses.PageSizesDiffer q = record {
    version = (λ e. absurd (omega (arith, e)), λ v. absurd (version_of_front wal q.has v.refused));
    super_journal = (λ e. absurd (omega (arith, e)), λ s. absurd (q.cold s.hot));
    sizes = λ _. q;
    other_sizes = λ _. inl refl;
    greatest = omega arith;
  }
  refused_as statuses.NoMemory q = record {
    version = (λ e. absurd (omega (arith, e)), λ v. absurd (q.0 v));
    super_journal = (λ e. absurd (omega (arith, e)), λ s. absurd (q.1 s));
    sizes = λ e. absurd (omega (arith, e));
    other_sizes = λ _. inr refl;
    greatest = omega arith;
  }
  refused_as _ q = absurd q

  pub refused_low : (s : Status) → IsAsked db wal journal (fail s) → number_of s < 14 → IsRefused db wal journal (number_of s)
  refused_low statuses.LogVersion q low = absurd (omega (arith, low))
  refused_low statuses.SuperJournal q low = absurd (omega (arith, low))
  refused_low statuses.PageSizesDiffer q low = absurd (omega (arith, low))
  refused_low statuses.NoMemory q low = record { error = viewed.NoMemory; numbered = refl; refused = tt }
  refused_low _ q low = absurd q

  -- the same at a commit frame
  module _ (m : ℕ) where
    pub passed_at : (n : ℕ) → IsOther n → IsAskedAt m db wal journal pass → RefusesAsRecoveryAt m db wal journal n
    passed_at n other q = record {
      version = (λ e. absurd (other.version e), λ v. absurd ((q v.0).0 v.1));
      no_super_journal = other.super_journal;
      sizes = λ e. absurd (other.sizes e);
      other_sizes = λ some h. absurd ((q some).1 h);
      greatest = other.greatest;
    }

    pub refused_as_at : (s : Status) → IsAskedAt m db wal journal (fail s) → RefusesAsRecoveryAt m db wal journal (number_of s)
    refused_as_at statuses.LogVersion q = record {
      version = (λ _. q, λ _. refl);
      no_super_journal = λ e. omega (arith, e);
      sizes = λ e. absurd (omega (arith, e));
      other_sizes = λ _ h. absurd (version_of_front wal h.has q.1.refused);
      greatest = inl (omega arith);
    }
    refused_as_at statuses.PageSizesDiffer q = record {
      version = (λ e. absurd (omega (arith, e)), λ v. absurd (version_of_front wal q.1.has v.1.refused));
      no_super_journal = λ e. omega (arith, e);
      sizes = λ _. q;
      other_sizes = λ _ _. inl refl;
      greatest = inl (omega arith);
    }
    refused_as_at statuses.NoMemory q = record {
      version = (λ e. absurd (omega (arith, e)), λ v. absurd (q v.1));
      no_super_journal = λ e. omega (arith, e);
      sizes = λ e. absurd (omega (arith, e));
      other_sizes = λ _ _. inr refl;
      greatest = inl (omega arith);
    }
    refused_as_at _ q = absurd q

    pub refused_low_at : (s : Status) → IsAskedAt m db wal journal (fail s) → (number_of s < 14) ⊎ (number_of s ≡ 30)
        → IsRefusedAt m db wal journal (number_of s)
    refused_low_at statuses.NoMemory q low = record { error = Refused viewed.NoMemory; numbered = refl; refused = tt }
    refused_low_at statuses.LogVersion q low = absurd (⊎_elim (λ (n : 14 < 14). omega (arith, n)) (λ (n : 14 ≡ 30). omega (arith, n)) low)
    refused_low_at statuses.PageSizesDiffer q low = absurd (⊎_elim (λ (n : 16 < 14). omega (arith, n)) (λ (n : 16 ≡ 30). omega (arith, n)) low)
    refused_low_at _ q low = absurd q

pub low_view : (e : ViewError) → view_status e < 14
low_view viewed.TwoLogs = omega arith
low_view viewed.TooLarge = omega arith
low_view (viewed.Header fault) = omega arith
low_view viewed.Unread = omega arith
low_view viewed.NoMemory = omega arith
low_view viewed.NoSuchCommit = omega arith

pub other_low : (n : ℕ) → n < 14 → IsOther n
other_low n low = record {
  version = λ e. omega (arith, e, low);
  super_journal = λ e. omega (arith, e, low);
  sizes = λ e. omega (arith, e, low);
  greatest = inl (omega (arith, low));
}

pub other_past : (e : PastError) → IsOther (past_status e)
other_past (Refused e) = other_low (view_status e) (low_view e)
other_past CommitOverwritten = record {
  version = λ e. omega (arith, e);
  super_journal = λ e. omega (arith, e);
  sizes = λ e. omega (arith, e);
  greatest = inr refl;
}
