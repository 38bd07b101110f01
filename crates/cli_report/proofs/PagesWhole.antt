-- A page as it is written, and a file that has it.
use Rattle.std.proofs.Common.{◌≡◌, ⊎_elim, ℕ, List, [], ◌++◌, Option, None, Some, refl, sym, subst, ◌∙◌, ap, arith, drop, length, length-drop}
use Rattle.std.specs.Prelude.{Result, Ok, Err, OnOk}
use Rattle.std.specs.Io.Buffered.{writer_buffer, writer_contents, writer_inner}
use Rattle.std.specs.Io.KnownBytes.{Appends, Keeps, append_known}
use Rattle.std.specs.declared.io.buffered.BufWriter.{BufWriter}
use Rattle.std.proofs.KnownBytes.{Appends-trans, Appends-kept}
use Rattle.std.proofs.lemmas.List.{append-nil, length-take}
use Rattle.sqval.specs.Limits.{Bounds}
use Rattle.sqwal.specs.Header.{IsHeader, named_size}
use Rattle.sqjournal.specs.Journal.{IsHot}
use Rattle.sqview.specs.Logs.{AreTwoLogs}
use Rattle.cli_facts.specs.declared.outcome.Refusal.{Refusal}
use Rattle.cli_show.specs.LogsShown.{IsLogFound}
use Rattle.cli_show.specs.Reports.{ArePartsOf, IsLogObject, Parts, report_text}
use Rattle.cli_show.specs.declared.logs.LogFound.{LogFound}
use Rattle.cli_show.specs.declared.logs.LogFound.TheVariants as logs
use Rattle.cli_show.specs.declared.report.ReportFacts.{ReportFacts}
use Rattle.cli_report.specs.Shown.{IsLogIn}
use Rattle.cli_report.specs.internal.Pages.{AppendsPage, HasPage}
use Rattle.cli_report.specs.declared.pages.Shown.{Shown}
use Rattle.cli_report.specs.declared.pages.Template.{Template}

-- what follows of an answer
pub on_ok : {A E : Type 0} (answer : Result A E) (P Q : Type 0) → (P → Q) → OnOk answer P → OnOk answer Q
on_ok (Ok value) P Q follows is = follows is
on_ok (Err error) P Q follows is = tt

-- what holds of any answer
pub on_any : {A E : Type 0} (answer : Result A E) {P : Type 0} → P → OnOk answer P
on_any (Ok value) is = is
on_any (Err error) is = tt

-- four texts, one behind the other
pub appends_four : (o0 o1 o2 o3 o4 : Option (List ℕ)) (a b c d : List ℕ) → Appends o0 o1 a → Appends o1 o2 b → Appends o2 o3 c → Appends o3 o4 d
    → Appends o0 o4 (a ++ (b ++ (c ++ d)))
appends_four o0 o1 o2 o3 o4 a b c d first second third last =
    Appends-trans o0 o1 o4 a (b ++ (c ++ d)) first (Appends-trans o1 o2 o4 b (c ++ d) second (Appends-trans o2 o3 o4 c d third last))

-- no log counts of no bytes
no_hot : ¬ IsHot []
no_hot hot = let nothing : List ℕ = [] in omega (arith, ap length hot.first.magic, length-take 8 (drop 0 nothing), length-drop 0 nothing)

no_header : (w : List ℕ) → w ≡ [] → ¬ IsHeader (named_size w) w
no_header w none header = omega (arith, header.whole, ap length none)

none_in : (limits : Bounds) → IsLogFound limits [] [] logs.None
none_in limits = (no_hot, no_header [] refl)

-- the facts of a log that isn't shown, as two count, are those of none
parts_of_none : {F : Type 0} (most : ℕ) (wal journal : List ℕ) (facts : ReportFacts F) (parts : Parts) → facts.log ≡ logs.None → ArePartsOf most [] [] facts parts
    → ArePartsOf most wal journal facts parts
parts_of_none most wal journal facts parts none are = record {
  head = are.head;
  trees = are.trees;
  logged = are.logged;
  log = subst (λ (log : LogFound). IsLogObject most wal journal log parts.log) (sym none)
      (subst (λ (log : LogFound). IsLogObject most [] [] log parts.log) none are.log);
}

-- the facts that were written of a log that was found, as they are of one that counts
pub facts_in : {F : Type 0} (limits : Bounds) (at : Option ℕ) (wal journal version file : List ℕ) (facts : ReportFacts F) (before after : Option (List ℕ))
    → ((limits : Bounds) (wal journal : List ℕ) → IsLogFound limits wal journal facts.log
    → (parts : Parts) × ArePartsOf limits.frames wal journal facts parts × Appends before after (report_text version file facts parts))
    → IsLogIn limits at wal journal facts.log
    → (parts : Parts) × ArePartsOf limits.frames wal journal facts parts × Appends before after (report_text version file facts parts)
facts_in {F} limits at wal journal version file facts before after written = ⊎_elim (λ found. written limits wal journal found) none
  where
    none : (at ≡ Some 0) × (facts.log ≡ logs.None) × AreTwoLogs wal journal
        → (parts : Parts) × ArePartsOf limits.frames wal journal facts parts × Appends before after (report_text version file facts parts)
    none is =
        let found = written limits [] [] (subst (λ (log : LogFound). IsLogFound limits [] [] log) (sym is.1) (none_in limits)) in
        (found.0, parts_of_none limits.frames wal journal facts found.0 is.1 found.1, found.2)

-- a page that was appended, of what is kept
pub page_kept : {F : Type 0} (template : Template) (file : List ℕ) (shown : Shown F) (before after last : Option (List ℕ)) → AppendsPage template file shown before after
    → Keeps after last → AppendsPage template file shown before last
page_kept template file shown before after last page keeps limits at wal journal is =
    let it = page limits at wal journal is in (it.0, it.1, Appends-kept before after last it.0 it.2 keeps)

-- what nothing is held of is what is there
none_held : (known : Option (List ℕ)) → append_known known [] ≡ known
none_held None = refl
none_held (Some xs) = ap (λ (x : List ℕ). Some x) (append-nil xs)

-- a writer that has nothing in its buffer has what its inner one has
through_empty : {W A : Type 0} (contents : W → Option (List ℕ)) (writer : BufWriter W A) (inner : W) → writer_inner writer ≡ inner → writer_buffer writer ≡ []
    → writer_contents contents writer ≡ contents inner
through_empty contents writer inner same empty =
    ap (λ (held : List ℕ). append_known (contents (writer_inner writer)) held) empty ∙ (none_held (contents (writer_inner writer)) ∙ ap contents same)

-- a page that was written through a buffer, which has nothing any more, is in the file, and stays there
pub page_made : {W A F : Type 0} (contents : W → Option (List ℕ)) (is_synced is_named : W → Type 0) (template : Template) (file : List ℕ) (shown : Shown F) (made : W)
    (first last : BufWriter W A) (inner : W) (answer : Result (Unit {0}) Refusal) → writer_inner first ≡ made → writer_buffer first ≡ [] → inner ≡ writer_inner last
    → writer_buffer last ≡ [] → AppendsPage template file shown (writer_contents contents first) (writer_contents contents last)
    → OnOk answer ((whole : W) × Keeps (contents inner) (contents whole) × is_synced whole × is_named whole)
    → OnOk answer (HasPage contents is_synced is_named template file shown made)
page_made contents is_synced is_named template file shown made first last inner (Err refusal) begins empty ends rest page whole = tt
page_made contents is_synced is_named template file shown made first last inner (Ok done) begins empty ends rest page whole =
    (whole.0, page_kept template file shown (contents made) (contents inner) (contents whole.0) by_last whole.1, whole.2, whole.3)
  where
    by_first : AppendsPage template file shown (contents made) (writer_contents contents last)
    by_first = subst (λ (o : Option (List ℕ)). AppendsPage template file shown o (writer_contents contents last)) (through_empty contents first made begins empty) page

    by_last : AppendsPage template file shown (contents made) (contents inner)
    by_last = subst (λ (o : Option (List ℕ)). AppendsPage template file shown (contents made) o) (through_empty contents last inner (sym ends) rest) by_first
