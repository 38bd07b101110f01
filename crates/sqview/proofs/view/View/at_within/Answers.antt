use Rattle.std.proofs.Common.{[], arith, subst}
use Rattle.std.specs.Prelude.{Ok}
use Rattle.sqview.specs.Logs.{CountsAnswer}
use Rattle.sqview.specs.declared.logs.LogInUse.{LogInUse}
use Rattle.sqview.proofs.openings.ViewAtCommit.{counts_one, counts_none, bare, own_at}
use Rattle.sqview.proofs.view.View.at_within.Goals as goal

pub returns-then-frame-eq0-clause-right : goal.returns-then-frame-eq0-clause-right
returns-then-frame-eq0-clause-right g c = λ right ok.
    let bytes = g.F.FileBytes.bytes in
    let db = bytes c.args.db in
    let w = bytes c.args.wal in
    let j = bytes c.args.journal in
    let one = counts_one c.args.limits db w j c.args.frame c.in_ok-in_use.in_use (c.in_ok-in_use.ensures.right right.1 right.2 tt) in
    own_at c.args.limits db w j one c.args.frame c.if-frame-eq0.true bytes c.own.result (c.own.ensures.right right.0 ok [] [] (bare c.args.limits db).0 (bare c.args.limits db).1)

pub returns-in_default-clause-right : goal.returns-in_default-clause-right
returns-in_default-clause-right g c = λ right ok.
    let bytes = g.F.FileBytes.bytes in
    counts_none c.args.limits (bytes c.args.db) (bytes c.args.wal) (bytes c.args.journal) c.args.frame c.in_ok-in_use.in_use (c.in_ok-in_use.ensures.right right.1 right.2 tt) (λ e. c.in_default.not-Wal e) (omega (arith, c.if-frame-eq0.false))

pub returns-then-frame-eq0-clause-answer : goal.returns-then-frame-eq0-clause-answer
returns-then-frame-eq0-clause-answer g c = λ gives. returns-then-frame-eq0-clause-right g c (g.met.F.FileBytes.right c.args.db gives.0, g.met.F.FileBytes.right c.args.wal gives.1, g.met.F.FileBytes.right c.args.journal gives.2) (c.own.ensures.read gives.0)

pub returns-in_default-clause-answer : goal.returns-in_default-clause-answer
returns-in_default-clause-answer g c = λ gives. returns-in_default-clause-right g c (g.met.F.FileBytes.right c.args.db gives.0, g.met.F.FileBytes.right c.args.wal gives.1, g.met.F.FileBytes.right c.args.journal gives.2) tt

pub returns-in-Wal-clause-answer : goal.returns-in-Wal-clause-answer
returns-in-Wal-clause-answer g c = λ gives.
    let w = g.F.FileBytes.bytes c.args.wal in
    let j = g.F.FileBytes.bytes c.args.journal in
    let counts = subst (λ (l : LogInUse). CountsAnswer w j (Ok l)) c.in-Wal.is (c.in_ok-in_use.ensures.right (g.met.F.FileBytes.right c.args.wal gives.1) (g.met.F.FileBytes.right c.args.journal gives.2) tt) in
    c.at_frame.ensures.right (g.met.F.FileBytes.right c.args.wal gives.1) (c.at_frame.ensures.read gives.1) (omega (arith, c.if-frame-eq0.false)) j counts.0
