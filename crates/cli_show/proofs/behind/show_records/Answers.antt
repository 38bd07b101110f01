use Rattle.std.proofs.Common.{ℕ, List, ◌∙◌, sym, subst}
use Rattle.sqval.specs.Bytes.{AreBytes}
use Rattle.sqjournal.specs.Header.{Names}
use Rattle.std.specs.Prelude.{Option}
use Rattle.sqjournal.specs.Journal.{IsFirst, IsHot}
use Rattle.sqjournal.specs.declared.header.JournalHeader.{JournalHeader}
use Rattle.sqview.specs.Logs.{HasRead}
use Rattle.cli_show.proofs.LinesBehind.{ends_still, not_first, rest_shown}
use Rattle.cli_show.proofs.RecordPlaces.{front_count}
use Rattle.cli_show.proofs.behind.show_records.Goals as goal

pub returns-in_default-clause-text : goal.returns-in_default-clause-text
returns-in_default-clause-text g c = λ gives hot read.
    let b = g.F.FileBytes.bytes c.args.journal.now in
    absurd (not_first b c.in_ok-hot.hot (c.in_ok-hot.ensures.answer gives) c.in_default.not-Some hot)

pub returns-clause-text : goal.returns-clause-text
returns-clause-text g c = λ gives hot read.
    let b = g.F.FileBytes.bytes c.args.journal.now in
    let replay = c.args.replay.now in
    let header = c.in-Some.header in
    let end = c.in_ok-end.end in
    let first = subst (λ (o : Option JournalHeader). IsFirst b o) c.in-Some.is (c.in_ok-hot.ensures.answer gives) in
    let count = front_count b replay read c.count.result (c.count.ensures read.front read.took) in
    let still = c.hot_header.ensures.still_gives gives in
    let same = c.hot_header.ensures.same_bytes in
    let last = c.end_of_segments.ensures.same in
    let words : AreBytes b = subst (λ (l : List ℕ). AreBytes l) (last.same_bytes ∙ same) (c.show_rest.ensures.bytes (last.still_gives still)) in
    let ends = ends_still b (g.F.FileBytes.bytes c.hot_header.new.journal) end.0 end.1 same
    (c.in_ok-end.ensures.ends still (subst (λ (l : List ℕ). AreBytes l) (sym same) words) (subst (λ (l : List ℕ). IsHot l) (sym same) hot)
    (subst (λ (l : List ℕ). Names l header) (sym same) first.1) (subst (λ (l : List ℕ). HasRead l replay) (sym same) read)) in
    rest_shown c.show_rest.result c.args.style b (g.F.FileBytes.bytes c.end_of_segments.new.journal) header.page_size end.0 c.saturating_add-first.result end.1
    c.count.result (g.W.Write.contents c.args.out.now) (g.W.Write.contents c.show_rest.new.out) (last.same_bytes ∙ same) first.1.size c.saturating_add-first.ensures
    count ends (c.show_rest.ensures.text (last.still_gives still))
