use Rattle.std.proofs.Common.{OnOk, Result, Ok, Err, inl, inr, subst}
use Rattle.std.specs.Prelude.{IfErr, MatchResult}
use Rattle.sqval.specs.Limits.{Bounds}
use Rattle.sqview.specs.LogView.{pages_of}
use Rattle.cli_words.specs.Commits.{commit_of}
use Rattle.cli_words.specs.declared.requests.Commit.{Commit}
use Rattle.cli_words.specs.declared.requests.Commit.TheVariants.{At}
use Rattle.cli_show.specs.Fronts.{IsAskedFront}
use Rattle.cli_show.specs.Limits.{limits_named}
use Rattle.cli_show.specs.Views.{AskedRefused, IsAskedView}
use Rattle.cli_show.proofs.AskedFronts.{front_asked, shows_asked}
use Rattle.cli_show_diff.specs.Changes.{AreChangesPrinted, AreChangesStopped, texts_of}
use Rattle.cli_dump.specs.Changes.{change_form_named}
use Rattle.cli_dump.proofs.changes.show_named.Goals as goal

both : {T E : Type 0} (r : Result T E) (P : Type 0) (R : E → Type 0) → OnOk r P → IfErr r R → MatchResult r (λ _. P) R
both (Ok _) P R ok err = ok
both (Err _) P R ok err = err

pub returns-in-Ok-view_of-clause-front : goal.returns-in-Ok-view_of-clause-front
returns-in-Ok-view_of-clause-front g c = λ given too.
    let bytes = g.F.FileBytes.bytes in
    let to = c.args.to in
    let front = c.of_view-front.result in
    subst (λ (at : Commit). IsAskedFront at (bytes to.wal) (bytes to.journal) front) c.to_commit-at.ensures
    (front_asked c.limits_of-limits.result bytes (bytes to.db) (bytes to.wal) (bytes to.journal) c.in-Ok-view_of.new c.to_commit-at.result front
    (c.in-Ok-view_of.ensures.answer too) c.of_view-front.ensures)

pub returns-in-Ok-view_of-clause-shown : goal.returns-in-Ok-view_of-clause-shown
returns-in-Ok-view_of-clause-shown g c = λ given too named.
    let bytes = g.F.FileBytes.bytes in
    let from = c.args.from in
    let to = c.args.to in
    let compared = c.args.of.0 in
    let limits = c.limits_of-limits.result in
    let v = c.in-Ok.view in
    let w = c.in-Ok-view_of.new in
    let d = pages_of bytes v in
    let e = pages_of bytes w in
    let before = g.W.Write.contents c.args.out.now in
    let after = g.W.Write.contents c.print_between-ended.new.out in
    let form = change_form_named compared.form in
    let names = texts_of c.args.of.1.now in
    let gives = c.in-Ok.ensures.still_gives given in
    let gives_too = c.in-Ok-view_of.ensures.still_gives too in
    let up_to = commit_of compared.to c.args.options.front in
    let answer = subst (λ (at : Commit). IsAskedView limits bytes at (bytes to.db) (bytes to.wal) (bytes to.journal) w) c.to_commit-at.ensures (c.in-Ok-view_of.ensures.answer too) in (
      names,
      named,
      (
        v.page_size,
        w.page_size,
        d,
        e,
        shows_asked limits bytes (bytes from.db) (bytes from.wal) (bytes from.journal) v (At compared.from) (c.in-Ok.ensures.answer given),
        shows_asked limits bytes (bytes to.db) (bytes to.wal) (bytes to.journal) w up_to answer,
        both c.print_between-ended.result (AreChangesPrinted d e names form before after) (λ stop. AreChangesStopped d e names form stop before after)
            (c.print_between-ended.ensures.ok gives gives_too) (c.print_between-ended.ensures.err gives gives_too),
      ),
    )

pub returns-in-Err-clause-refused : goal.returns-in-Err-clause-refused
returns-in-Err-clause-refused g c = λ given too.
    let bytes = g.F.FileBytes.bytes in
    let db = bytes c.args.from.db in
    let wal = bytes c.args.from.wal in
    let journal = bytes c.args.from.journal in
    let at = At c.args.of.0.from in
    let refused = c.in-Err.ensures.answer given in
    inl (c.in-Err.error, subst (λ (l : Bounds). AskedRefused l at db wal journal c.in-Err.error) c.limits_of-limits.ensures refused, c.from.ensures)

pub returns-clause-refused : goal.returns-clause-refused
returns-clause-refused g c = λ given too.
    let bytes = g.F.FileBytes.bytes in
    let db = bytes c.args.to.db in
    let wal = bytes c.args.to.wal in
    let journal = bytes c.args.to.journal in
    let error = c.in-Err-view_of.error in
    let refused = subst (λ (l : Bounds). AskedRefused l c.to_commit-at.result db wal journal error) c.limits_of-limits.ensures (c.in-Err-view_of.ensures.answer too) in
    inr (error, subst (λ (at : Commit). AskedRefused (limits_named c.args.options.large) at db wal journal error) c.to_commit-at.ensures refused, c.from-in-Err-view_of.ensures)
