-- The view that flags ask for, and its survey.
use Rattle.std.proofs.Common.{◌≡◌, ◌≢◌, ◌≤◌, ◌<◌, ◌*◌, ◌-◌, inl, inr, ⊎_elim, ℕ, Bool, true, false, List, length, get_or, take, sym, ◌∙◌, ap, subst, arith}
use Rattle.std.specs.Prelude.{◌↔◌, Result, Ok, Err, IfOk, IfErr, IsErr, IsErrAnd}
use Rattle.std.proofs.lemmas.List.{get_or-take}
use Rattle.sqval.specs.Database.{Database}
use Rattle.sqpage.specs.declared.fault.Fault.TheVariants as faults
use Rattle.sqcheck.specs.Surveys.{FindsCleanWith, FindsDamagedWith}
use Rattle.sqcheck.specs.declared.survey.Survey.{Survey}
use Rattle.sqview.specs.Laid.{place_of}
use Rattle.sqview.specs.LogView.{ViewAnswerWithin, ViewRefusedWithin, pages_of}
use Rattle.sqview.specs.Logs.{IsRead}
use Rattle.sqview.specs.declared.view.View.{View}
use Rattle.sqview.specs.declared.view_error.ViewError.{ViewError}
use Rattle.sqview.specs.declared.view_error.ViewError.TheVariants.{NoMemory}
use Rattle.sqpast.specs.Files.{PastAnswerWithin}
use Rattle.sqpast.specs.Past.{IsSource}
use Rattle.sqpast.specs.Used.{IsUsedPart}
use Rattle.sqpast.specs.declared.used.Counts.{Counts}
use Rattle.sqpast.specs.declared.past_error.PastError.{PastError}
use Rattle.sqpast.specs.declared.past_error.PastError.TheVariants.{Refused}
use Rattle.sqdeepjudge.specs.Missing.{IsMissing}
use Rattle.sqrescue_c.specs.Asked.{is_at, limits_of, HasPage, ShowsAsked, ShowsWhole, AskedRefused}
use Rattle.sqrescue_c.specs.Roles.{IsSurveyOf}
use Rattle.sqrescue_c.specs.internal.Missing.{AreMissing}
use Rattle.sqdeepjudge.proofs.MissingPages.{missing_at, missing_now}
use Rattle.sqrescue_c.specs.declared.status.Status.{Status}

not_both : (b : Bool) → b ≡ true → b ≡ false → ⊥
not_both b t f = let e : true ≡ false = sym t ∙ f in absurd (cc)

module _ {F : Type 0} (bytes : F → List ℕ) (flags m : ℕ) (db wal journal : List ℕ) where
  pub shown_at : (r : Result (View F) PastError) → is_at flags ≡ true → PastAnswerWithin (limits_of flags) bytes m db wal journal r
      → IfOk r (λ v. ShowsWhole flags m v.page_size db wal journal (pages_of bytes v))
  shown_at (Ok v) is answer = record { at = λ _. answer.shows; shown = λ none. absurd (not_both (is_at flags) is none) }
  shown_at (Err e) is answer = tt

  pub refused_at : (r : Result (View F) PastError) → is_at flags ≡ true → PastAnswerWithin (limits_of flags) bytes m db wal journal r
      → IfErr r (AskedRefused flags m db wal journal)
  refused_at (Ok v) is answer = tt
  refused_at (Err e) is answer = record { at = λ _. answer; shown = λ none. absurd (not_both (is_at flags) is none) }

  pub shown_now : (r : Result (View F) ViewError) → is_at flags ≡ false → ViewAnswerWithin (limits_of flags) bytes db wal journal r
      → IfOk r (λ v. ShowsWhole flags m v.page_size db wal journal (pages_of bytes v))
  shown_now (Ok v) none answer = record { at = λ is. absurd (not_both (is_at flags) is none); shown = λ _. answer.shows }
  shown_now (Err e) none answer = tt

  pub missing_then : (r : Result (View F) PastError) → is_at flags ≡ true → PastAnswerWithin (limits_of flags) bytes m db wal journal r
      → IfOk r (AreMissing flags m wal journal)
  missing_then (Ok v) is answer = λ long p one le.
      let same = missing_at v long wal m p answer.unplaced answer.framed one le in (
        λ missing. let it = same.0 missing in ((λ has. ⊎_elim (λ then. it.0 then.1) (λ now. not_both (is_at flags) is now.0) has), it.1),
        λ missing. same.1 ((λ held. missing.0 (inl (is, held))), missing.1),
      )
  missing_then (Err e) is answer = tt

  pub missing_of_shown : (r : Result (View F) ViewError) → is_at flags ≡ false → ViewAnswerWithin (limits_of flags) bytes db wal journal r
      → IfOk r (AreMissing flags m wal journal)
  missing_of_shown (Ok v) none answer = λ long p one le.
      let same = missing_now (limits_of flags) bytes db wal journal v answer p one le long in (
        λ missing. let it = same.0 missing in ((λ has. ⊎_elim (λ then. not_both (is_at flags) then.0 none) (λ now. it.0 now.1) has), it.1),
        λ missing. same.1 ((λ held. missing.0 (inr (none, held))), missing.1),
      )
  missing_of_shown (Err e) none answer = tt

  pub refused_after : (r : Result (View F) PastError) (e : ViewError) → IsErr r × IsErrAnd r (λ x. x ≡ Refused e) → is_at flags ≡ false
      → ViewRefusedWithin (limits_of flags) db wal journal e → IfErr r (AskedRefused flags m db wal journal)
  refused_after (Ok v) e is none why = tt
  refused_after (Err x) e is none why =
      subst (AskedRefused flags m db wal journal) (sym is.1) (record { at = λ at. absurd (not_both (is_at flags) at none); shown = λ _. why })

-- a page's place in the log is the same in a part that ends behind it
same_place : (places wholes : List ℕ) (count p : ℕ) → places ≡ take count wholes → 1 ≤ p → p ≤ count → place_of places p ≡ place_of wholes p
same_place places wholes count p is one le =
    ap (λ (l : List ℕ). get_or l (p - 1) 0) is ∙ get_or-take count wholes (p - 1) 0 (omega (arith, one, le))

-- the same of the pages that SQLite uses
module _ {F : Type 0} (bytes : F → List ℕ) (flags m : ℕ) (db wal journal : List ℕ) (whole v : View F) (part : IsUsedPart bytes whole v) where
  pub shown_used : ShowsWhole flags m whole.page_size db wal journal (pages_of bytes whole) → ShowsAsked flags m v.page_size db wal journal (pages_of bytes v)
  shown_used shown = (
    pages_of bytes whole,
    subst (λ (n : ℕ). ShowsWhole flags m n db wal journal (pages_of bytes whole)) (sym part.sizes.0) shown,
    part.pages,
  )

  pub missing_used : AreMissing flags m wal journal whole → AreMissing flags m wal journal v
  missing_used are = λ long p one le.
      let same : place_of v.places.items p ≡ place_of whole.places.items p = same_place v.places.items whole.places.items v.count p part.places one le in
      let within = part.within in
      subst (λ (n : ℕ). ((place_of v.places.items p ≡ 0) × (long < p * n)) ↔ IsMissing (HasPage flags m n wal journal) n long p) (sym part.sizes.0)
      (subst (λ (k : ℕ). ((k ≡ 0) × (long < p * whole.page_size)) ↔ IsMissing (HasPage flags m whole.page_size wal journal) whole.page_size long p) (sym same)
      (are long p one (omega (arith, le, within))))

-- bytes in memory are read: only memory may run out
pub only_memory : (error : ViewError) → IsSource error → IsRead {A = Counts} (Err error) → error ≡ NoMemory
only_memory error source read = ⊎_elim
    (λ unread. absurd (subst (λ (e : ViewError). IsRead {A = Counts} (Err e)) unread read))
    (λ memory. memory) source

pub memory_refused : (flags m : ℕ) (db wal journal : List ℕ) (error : ViewError) → error ≡ NoMemory → AskedRefused flags m db wal journal (Refused error)
memory_refused flags m db wal journal error is =
    subst (λ (e : ViewError). AskedRefused flags m db wal journal (Refused e)) (sym is) (record { at = λ _. tt; shown = λ _. tt })

pub surveyed : (maps : Bool) (d : Database) (size : ℕ) (survey : Survey) (r : Result Survey Status)
    → IfOk r (λ found. (found ≡ survey) × IfErr survey.answer (λ e. e.fault ≢ faults.AutoVacuum))
    → FindsCleanWith maps d size survey → FindsDamagedWith maps d size survey → length survey.roles.items ≡ length d → IfOk r (IsSurveyOf maps d size)
surveyed maps d size survey (Ok found) same clean damaged long =
    subst (IsSurveyOf maps d size) (sym same.0) (record { clean = clean; damaged = damaged; judged = same.1; long = long })
surveyed maps d size survey (Err status) same clean damaged long = tt
