use Rattle.std.proofs.Common.{◌≡◌, ℕ, ◌+◌, ◌<◌, List, [], ◌∷◌, ◌++◌, length, refl, sym, ap, ◌∙◌, subst, arith}
use Rattle.std.specs.List.{enumerate_from, flat_map}
use Rattle.std.specs.Prelude.{slice_get, Some}
use Rattle.std.proofs.lemmas.Option.{none-some}
use Rattle.cli_show.specs.PageLines.{IsLoggedAt}
use Rattle.cli_show.specs.Reports.{pages_of, placed}
use Rattle.cli_show.specs.internal.Reports.{AreWritten, page_at}
use Rattle.cli_show.specs.declared.report.LoggedRun.{LoggedRun}
use Rattle.cli_show.proofs.LinesOfPages.{each_more, length_more}
use Rattle.cli_show.proofs.RunsOfPages.{all_written, none_written, page_placed, places_more}
use Rattle.cli_show.proofs.report.write_logged.Goals as goal

pub loop-i-init : goal.loop-i-init
loop-i-init g c = ([], refl, λ i place is. absurd (none-some place is), none_written (g.W.Write.contents c.args.out.now))

pub loop-i-preserved : goal.loop-i-preserved
loop-i-preserved g c =
    let places = c.loop-i.invariant.0 in
    let i = c.loop-i.i in
    let here = c.logged_number-here.result in
    let at = c.logged_number-here.ensures.at in
    let pages = flat_map (λ e. placed e.0 e.1) (enumerate_from 1 places) in
    let long : 1 + length places ≡ i + 1 = omega (arith, c.loop-i.invariant.1) in
    let same : page_at c.from.result here ≡ placed (1 + length places) at.0 =
    page_placed here at.0 c.from.result i (1 + length places) c.logged_number-here.ensures.within at.2 (λ within. omega (arith, c.number_of.ensures within)) long in
    let begin = g.W.Write.contents c.args.out.now in
    let now = c.in_ok-runs.ensures begin pages c.loop-i.invariant.3 in (
      places ++ at.0 ∷ [],
      length_more places at.0 i c.loop-i.invariant.1,
      each_more (IsLoggedAt c.args.found.now) places i at.0 c.loop-i.invariant.1 c.loop-i.invariant.2 at.1,
      subst (λ (l : List (ℕ × ℕ)). AreWritten begin (g.W.Write.contents c.add_page.new.out) c.in_ok-runs.runs l)
          (ap (λ (l : List (ℕ × ℕ)). pages ++ l) same ∙ sym (places_more 1 places at.0)) now,
    )

pub returns : goal.returns
returns g c =
    let places = c.loop-i.invariant in
    let pages = flat_map (λ e. placed e.0 e.1) (enumerate_from 1 places.0) in
    let now = c.in_ok-write_last.ensures (g.W.Write.contents c.args.out.now) pages places.3 in
    let runs = now.0.written in
    let all = all_written runs c.in_ok-write_last.field-0.last now.1 in (
      runs,
      record {
        places = places.0;
        all = omega (arith, places.1, c.loop-i-test.false, c.loop-i.auto.i-end, c.len-i-end.ensures, c.args.found.now.survey.roles.ok.0);
        each = places.2;
        none_empty = subst (λ (l : List LoggedRun). (i : ℕ) (run : LoggedRun) → slice_get l i ≡ Some run → 0 < run.count) all now.0.none_empty;
        pages = sym (ap (flat_map pages_of) all) ∙ now.0.are_pages;
      },
      now.0.text,
    )
