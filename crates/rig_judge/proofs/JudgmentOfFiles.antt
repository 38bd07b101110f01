-- The judgment of files.
use Rattle.std.proofs.Common.{◌≡◌, ◌↔◌, ℕ, ◌<◌, ◌≤◌, List, [], ◌∷◌, length, refl, sym, ◌∙◌, subst, inl, inr}
use Rattle.std.proofs.Math.Dec.{eqb-suc-zero}
use Rattle.std.specs.Prelude.{Result, Ok, Err, IfOk, IsTrue, Bool, true, false, nat_eq, Some}
use Rattle.sqval.specs.Database.{Database}
use Rattle.sqpage.specs.declared.fault.Fault.{Fault}
use Rattle.sqpage.specs.declared.fault.Fault.TheVariants as faults
use Rattle.sqview.specs.LogView.{IsAlone, ViewRefused, pages_of}
use Rattle.sqview.specs.internal.LogView.{IsShown}
use Rattle.sqview.specs.declared.view.View.{View}
use Rattle.sqview.specs.declared.view_error.ViewError.TheVariants.{Header}
use Rattle.rig_judge.specs.Shown.{Commit, IsLastShown, IsAdded, IsNoted, FilesShow, IsShowing, Shows}
use Rattle.rig_judge.specs.Judged.{IsJudged, IsViewJudgment}
use Rattle.rig_judge.specs.internal.Judged.{IsPlaced}
use Rattle.rig_judge.specs.declared.judgment.Judgment.{Judgment}
use Rattle.rig_judge.specs.declared.judgment.Judgment.TheVariants as judgments

-- a commit that is shown is judged by its number
pub placed_judged : (commits : List Commit) (known : ℕ) (d : Database) (size shown : ℕ) (j : Judgment) → IsLastShown commits d (Some shown) → IsPlaced shown known j → IsJudged commits known d size j
placed_judged commits known d size shown (judgments.Kept k) last p = let e : shown ≡ k = sym p.0 in (subst (λ (n : ℕ). IsLastShown commits d (Some n)) e last, subst (λ (n : ℕ). known ≤ n) e p.1)
placed_judged commits known d size shown (judgments.Lost k) last p = let e : shown ≡ k = sym p.0 in (subst (λ (n : ℕ). IsLastShown commits d (Some n)) e last, subst (λ (n : ℕ). n < known) e p.1)
placed_judged commits known d size shown judgments.Mixed last p = absurd p
placed_judged commits known d size shown (judgments.Fault e) last p = absurd p
placed_judged commits known d size shown (judgments.Refused e) last p = absurd p

-- what is judged of the database that files show is judged of them
pub judged_files : (commits : List Commit) (known size : ℕ) (db wal journal : List ℕ) (d : Database) (j : Judgment) → FilesShow size db wal journal d → IsJudged commits known d size j → IsViewJudgment commits known db wal journal j
judged_files commits known size db wal journal d (judgments.Kept k) shows p = (size, d, shows, p)
judged_files commits known size db wal journal d (judgments.Lost k) shows p = (size, d, shows, p)
judged_files commits known size db wal journal d judgments.Mixed shows p = (size, d, shows, p)
judged_files commits known size db wal journal d (judgments.Fault e) shows p = (size, d, shows, p)
judged_files commits known size db wal journal d (judgments.Refused e) shows p = absurd p

pub judged_view : {F E : Type 0} (bytes : F → List ℕ) (commits : List Commit) (known : ℕ) (db wal journal : List ℕ) (v : View F) (r : Result Judgment E) → IsShown bytes db wal journal v
    → IfOk r (IsJudged commits known (pages_of bytes v) v.page_size) → IfOk r (IsViewJudgment commits known db wal journal)
judged_view bytes commits known db wal journal v (Ok j) shown p = judged_files commits known v.page_size db wal journal (pages_of bytes v) j (inl shown.shows) p
judged_view bytes commits known db wal journal v (Err e) shown p = tt

-- no log counts where the file's header is at fault
pub headless_alone : (db wal journal : List ℕ) (fault : Fault) → ViewRefused db wal journal (Header fault) → IsAlone wal journal
headless_alone db wal journal faults.Magic r = r.2
headless_alone db wal journal faults.PageSize r = r.2
headless_alone db wal journal _ r = absurd r

-- so a file without bytes shows the database of no pages
pub headless_shows : (db wal journal : List ℕ) (fault : Fault) → ViewRefused db wal journal (Header fault) → db ≡ [] → FilesShow 0 db wal journal []
headless_shows db wal journal fault r e = inr (e, headless_alone db wal journal fault r, refl)

-- and the judgment of that is theirs
pub headless_judged : (commits : List Commit) (known : ℕ) (db wal journal : List ℕ) (fault : Fault) (shown : ℕ) (j : Judgment) → ViewRefused db wal journal (Header fault) → db ≡ []
    → IsLastShown commits [] (Some shown) → IsPlaced shown known j → IsViewJudgment commits known db wal journal j
headless_judged commits known db wal journal fault shown j r e last p =
    judged_files commits known 0 db wal journal [] j (headless_shows db wal journal fault r e) (placed_judged commits known [] 0 shown j last p)

-- what was taken of a view was taken of the files
pub noted_view : {F E : Type 0} (bytes : F → List ℕ) (db wal journal : List ℕ) (v : View F) (old new : List Commit) (r : Result Bool E) → IsShown bytes db wal journal v
    → IfOk r (λ taken. IsAdded (pages_of bytes v) taken old new) → IfOk r (λ taken. IsNoted db wal journal taken old new)
noted_view bytes db wal journal v old new (Ok taken) shown p = inl (v.page_size, pages_of bytes v, inl shown.shows, p)
noted_view bytes db wal journal v old new (Err e) shown p = tt

pub noted_nothing : {E : Type 0} (db wal journal : List ℕ) (fault : Fault) (old new : List Commit) (r : Result Bool E) → ViewRefused db wal journal (Header fault) → db ≡ []
    → IfOk r (λ taken. IsAdded [] taken old new) → IfOk r (λ taken. IsNoted db wal journal taken old new)
noted_nothing db wal journal fault old new (Ok taken) r e p = inl (0, [], headless_shows db wal journal fault r e, p)
noted_nothing db wal journal fault old new (Err error) r e p = tt

-- a commit that a view shows the files show
pub showing_view : {F E : Type 0} (bytes : F → List ℕ) (db wal journal : List ℕ) (v : View F) (c : Commit) (r : Result Bool E) → IsShown bytes db wal journal v
    → IfOk r (λ shows. IsTrue shows ↔ Shows c (pages_of bytes v)) → IfOk r (λ shows. IsShowing c db wal journal shows)
showing_view bytes db wal journal v c (Ok shows) shown p = inl (v.page_size, pages_of bytes v, inl shown.shows, p)
showing_view bytes db wal journal v c (Err e) shown p = tt

-- and one of no pages a file without bytes
pub showing_nothing : (db wal journal : List ℕ) (fault : Fault) (c : Commit) (shows : Bool) → ViewRefused db wal journal (Header fault) → db ≡ [] → IsTrue shows ↔ Shows c [] → IsShowing c db wal journal shows
showing_nothing db wal journal fault c shows r e p = inl (0, [], headless_shows db wal journal fault r e, p)

-- whether there are bytes
pub empty_tells : (b : Bool) (xs : List ℕ) → b ≡ nat_eq (length xs) 0 → IsTrue b ↔ (xs ≡ [])
empty_tells b [] e = (λ t. refl, λ h. e)
empty_tells b (x ∷ xs) e = (λ t. let n : false ≡ true = sym (e ∙ eqb-suc-zero (length xs)) ∙ t in cc, λ h. cc)
