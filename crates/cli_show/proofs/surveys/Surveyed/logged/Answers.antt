use Rattle.std.proofs.Common.{◌+◌, ◌≤◌, ℕ, subst, arith, inr}
use Rattle.std.specs.Prelude.{None}
use Rattle.sqview.proofs.openings.PagesOfView.{length_laid}
use Rattle.cli_show.specs.Records.{IsRecordNumber}
use Rattle.cli_show.proofs.surveys.Surveyed.logged.Goals as goal

pub returns-then-i-count-clause-frame : goal.returns-then-i-count-clause-frame
returns-then-i-count-clause-frame g c = λ one wal within places.
    let v = c.args.self.now.view in
    let bytes = g.F.FileBytes.bytes in
    absurd (omega (arith, within, c.if-i-count.true, c.count.ensures, length_laid v.page_size v.count (bytes v.db) (bytes v.log) v.places.items))

pub returns-then-i-count-clause-record : goal.returns-then-i-count-clause-record
returns-then-i-count-clause-record g c = λ zero journal within are.
    let v = c.args.self.now.view in
    let bytes = g.F.FileBytes.bytes in
    absurd (omega (arith, within, c.if-i-count.true, c.count.ensures, length_laid v.page_size v.count (bytes v.db) (bytes v.log) v.places.items))

pub returns-in-Frame-clause-frame : goal.returns-in-Frame-clause-frame
returns-in-Frame-clause-frame g c = λ one wal within places.
    let last : c.args.i + 1 ≤ c.args.self.now.view.count = omega (arith, within) in c.in-Frame.ensures.frame one wal last places

pub returns-in-Some-clause-frame : goal.returns-in-Some-clause-frame
returns-in-Some-clause-frame g c = λ one wal within places.
    let last : c.args.i + 1 ≤ c.args.self.now.view.count = omega (arith, within) in c.in-Record.ensures.frame one wal last places

pub returns-in-None-clause-frame : goal.returns-in-None-clause-frame
returns-in-None-clause-frame g c = λ one wal within places.
    let last : c.args.i + 1 ≤ c.args.self.now.view.count = omega (arith, within) in absurd (c.in-Record.ensures.frame one wal last places)

pub returns-in-None-clause-record : goal.returns-in-None-clause-record
returns-in-None-clause-record g c = λ zero journal within are.
    inr (subst (λ (n : ℕ). IsRecordNumber journal n None) (c.in-Record.ensures.record zero).1 (c.in-None.ensures journal are))
