-- What is found of files, by what is found in their view.
use Rattle.std.proofs.Common.{◌≡◌, Bool, ℕ, ◌≤◌, List, take, refl, sym, ◌∙◌, ap, subst, inl, inr}
use Rattle.std.specs.Prelude.{Result, Ok, Err, IfOk, IfErr}
use Rattle.sqval.specs.Limits.{Bounds}
use Rattle.sqview.specs.LogView.{pages_of}
use Rattle.sqview.specs.Shapes.{Shape, shape_of}
use Rattle.sqview.specs.declared.view.View.{View}
use Rattle.sqpast.specs.declared.past_error.PastError.{PastError}
use Rattle.sqpast.specs.declared.past_error.PastError.TheVariants.{Refused as Why, CommitOverwritten as Overwritten}
use Rattle.cli_words.specs.declared.requests.Commit.{Commit}
use Rattle.sqview.specs.declared.view_error.ViewError.TheVariants as views
use Rattle.cli_facts.specs.declared.outcome.Refusal.{Refusal}
use Rattle.cli_facts.specs.declared.outcome.Refusal.TheVariants.{AutoVacuum, NoSuchPage, NoMemory}
use Rattle.cli_show.specs.Found.{IsFoundOf, IsUnfound}
use Rattle.cli_show.specs.internal.Found.{found_without, pages_in, IsFoundIn, IsUnfoundIn}
use Rattle.cli_show.specs.Pages.{IsSurveyed}
use Rattle.cli_show.specs.Records.{AreRecordsOf}
use Rattle.cli_show.specs.Views.{IsAskedView, AskedRefused}
use Rattle.cli_show.specs.declared.contents.Contents.{Contents}
use Rattle.cli_show.specs.declared.records.Records.{Records}
use Rattle.cli_show.specs.declared.surveys.Found.{Found}
use Rattle.cli_show.specs.declared.surveys.Found.TheVariants.{Pages, Nothing}
use Rattle.cli_show.proofs.AskedFronts.{asked_read, shows_asked}

module _ {F : Type 0} (limits : Bounds) (bytes : F → List ℕ) (db wal journal : List ℕ) (v now : View F) (same : shape_of bytes now ≡ shape_of bytes v) where
  -- a view that shows the same is the one that is asked for, too
  same_view : (at : Commit) → IsAskedView limits bytes at db wal journal v → IsAskedView limits bytes at db wal journal now
  same_view at is = (
    is.0,
    is.1,
    record {
      pages = ap (λ (s : Shape). pages_in s) same ∙ is.2.pages;
      within = subst (λ (s : Shape). s.count ≤ is.0.count) (sym same) is.2.within;
      places = subst (λ (s : Shape). s.places ≡ take s.count is.0.places.items) (sym same) is.2.places;
      sizes = (ap (λ (s : Shape). s.page_size) same ∙ is.2.sizes.0, ap (λ (s : Shape). s.front) same ∙ is.2.sizes.1);
      files = (ap (λ (s : Shape). s.db) same ∙ is.2.files.0, ap (λ (s : Shape). s.log) same ∙ is.2.files.1);
    },
  )

-- what is found without a view
module _ {F : Type 0} (maps : Bool) (limits : Bounds) (bytes : F → List ℕ) (at : Commit) (files : Contents (List ℕ)) where
  pub found_of_none : (error : PastError) → AskedRefused limits at files.db files.wal files.journal error → IfOk (found_without {F = F} error) (IsFoundOf maps limits bytes at files)
  found_of_none (Why (views.Header fault)) refused = inl (refl, refused)
  found_of_none (Why views.TwoLogs) refused = tt
  found_of_none (Why views.TooLarge) refused = tt
  found_of_none (Why views.Unread) refused = tt
  found_of_none (Why views.NoMemory) refused = tt
  found_of_none (Why views.NoSuchCommit) refused = tt
  found_of_none Overwritten refused = tt

  pub refused_of_none : (error : PastError) → AskedRefused limits at files.db files.wal files.journal error → IfErr (found_without {F = F} error) (IsUnfound maps limits at files)
  refused_of_none (Why (views.Header fault)) refused = tt
  refused_of_none (Why views.TwoLogs) refused = refused
  refused_of_none (Why views.TooLarge) refused = inr refused
  refused_of_none (Why views.Unread) refused = absurd (asked_read limits at files.db files.wal files.journal refused)
  refused_of_none (Why views.NoMemory) refused = tt
  refused_of_none (Why views.NoSuchCommit) refused = refused
  refused_of_none Overwritten refused = refused

module _ {F : Type 0} (maps : Bool) (limits : Bounds) (bytes : F → List ℕ) (at : Commit) (files : Contents (List ℕ)) (v : View F) (records : Records) (asked : IsAskedView limits bytes at files.db files.wal files.journal v) where
  pub found_of_view : (r : Result (Found F) Refusal) → AreRecordsOf files.journal records → IfOk r (IsFoundIn maps bytes (shape_of bytes v) records) → IfOk r (IsFoundOf maps limits bytes at files)
  found_of_view (Ok (Pages found)) are is = record {
    view = same_view limits bytes files.db files.wal files.journal v found.view is.0 at asked;
    survey = subst (λ (s : Shape). IsSurveyed maps (pages_in s) s.page_size (Ok found.survey)) (sym is.0) is.1;
    ordered = is.2;
    records = subst (λ (x : Records). AreRecordsOf files.journal x) (sym is.3) are;
  }
  found_of_view (Ok (Nothing error)) are is = inr (v.page_size, pages_of bytes v, shows_asked limits bytes files.db files.wal files.journal v at asked, is)
  found_of_view (Err refusal) are is = tt

  unfound_of_view : (refusal : Refusal) → IsUnfoundIn maps (shape_of bytes v) refusal → IsUnfound maps limits at files refusal
  unfound_of_view NoSuchPage none = (v.page_size, pages_of bytes v, shows_asked limits bytes files.db files.wal files.journal v at asked, none)
  unfound_of_view AutoVacuum vacuum = (v.page_size, pages_of bytes v, shows_asked limits bytes files.db files.wal files.journal v at asked, vacuum)
  unfound_of_view NoMemory memory = tt
  unfound_of_view _ never = absurd never

  pub refused_of_view : (r : Result (Found F) Refusal) → IfErr r (IsUnfoundIn maps (shape_of bytes v)) → IfErr r (IsUnfound maps limits at files)
  refused_of_view (Ok found) is = tt
  refused_of_view (Err refusal) is = unfound_of_view refusal is
