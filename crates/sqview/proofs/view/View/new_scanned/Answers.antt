use Rattle.std.proofs.Common.{length, ap, subst, arith, ◌≡◌, List, ℕ, sym}
use Rattle.std.specs.Prelude.{Ok}
use Rattle.sqval.specs.Limits.{usual}
use Rattle.sqjournal.specs.Header.{Names}
use Rattle.sqjournal.specs.Journal.{IsHot}
use Rattle.sqview.specs.Logs.{CountsAnswer}
use Rattle.sqview.specs.declared.logs.LogInUse.{LogInUse}
use Rattle.sqview.proofs.openings.ShownOrRefusedView.{alone_bare, journal_answers, journal_reads}
use Rattle.sqview.proofs.view.View.new_scanned.Goals as goal

pub returns-in-Neither-clause-right : goal.returns-in-Neither-clause-right
returns-in-Neither-clause-right g c = λ right took ok.
    let db = g.F.FileBytes.bytes c.args.db in
    let w = g.F.FileBytes.bytes c.args.wal in
    let j = g.F.FileBytes.bytes c.args.journal in
    let counts = subst (λ (l : LogInUse). CountsAnswer w j (Ok l)) c.in-Neither.is (c.in_ok-log_in_use.ensures.right right.1 right.2 tt) in
    let alone = alone_bare usual db w j counts.0 (λ header. omega (arith, header.whole, ap length counts.1)) in
    c.own.ensures.right right.0 ok w j alone.0 alone.1

pub returns-in-Wal-clause-right : goal.returns-in-Wal-clause-right
returns-in-Wal-clause-right g c = λ right took ok.
    let w = g.F.FileBytes.bytes c.args.wal in
    let j = g.F.FileBytes.bytes c.args.journal in
    let counts = subst (λ (l : LogInUse). CountsAnswer w j (Ok l)) c.in-Wal.is (c.in_ok-log_in_use.ensures.right right.1 right.2 tt) in
    c.logged_by.ensures.right right.0 ok took j counts.0

pub returns-in-Neither-clause-answer : goal.returns-in-Neither-clause-answer
returns-in-Neither-clause-answer g c = λ gives took. returns-in-Neither-clause-right g c (g.met.F.FileBytes.right c.args.db gives.0, g.met.F.FileBytes.right c.args.wal gives.1, g.met.F.FileBytes.right c.args.journal gives.2) took (c.own.ensures.read gives.0)

pub returns-in-Wal-clause-answer : goal.returns-in-Wal-clause-answer
returns-in-Wal-clause-answer g c = λ gives took. returns-in-Wal-clause-right g c (g.met.F.FileBytes.right c.args.db gives.0, g.met.F.FileBytes.right c.args.wal gives.1, g.met.F.FileBytes.right c.args.journal gives.2) took (c.logged_by.ensures.read gives.0)

pub returns-in-Journal-clause-answer : goal.returns-in-Journal-clause-answer
returns-in-Journal-clause-answer g c = λ gives took.
    let bytes = g.F.FileBytes.bytes in
    let w = bytes c.args.wal in
    let j = bytes c.args.journal in
    let counts = subst (λ (l : LogInUse). CountsAnswer w j (Ok l)) c.in-Journal.is (c.in_ok-log_in_use.ensures.right (g.met.F.FileBytes.right c.args.wal gives.1) (g.met.F.FileBytes.right c.args.journal gives.2) tt) in
    let now = c.log_in_use.new.journal in
    let same : bytes now ≡ j = c.log_in_use.ensures.same_bytes in
    let hot = subst IsHot (sym same) counts.0 in
    let still = c.log_in_use.ensures.still_gives gives.2 in
    journal_answers usual bytes (bytes c.args.db) w j (bytes now) c.restored.result counts.2 same
    (c.restored.ensures.right (g.met.F.FileBytes.right now still) (c.restored.ensures.read still hot) hot (subst (λ (l : List ℕ). Names l c.in-Journal.header) (sym same) counts.1))

pub returns-in-Journal-clause-reads : goal.returns-in-Journal-clause-reads
returns-in-Journal-clause-reads g c = λ right.
    let bytes = g.F.FileBytes.bytes in
    let w = bytes c.args.wal in
    let j = bytes c.args.journal in
    let counts = subst (λ (l : LogInUse). CountsAnswer w j (Ok l)) c.in-Journal.is (c.in_ok-log_in_use.ensures.right right.0 right.1 tt) in
    journal_reads bytes (bytes c.args.db) w j (bytes c.log_in_use.new.journal) c.restored.result counts.0 c.log_in_use.ensures.same_bytes c.restored.ensures.reads
