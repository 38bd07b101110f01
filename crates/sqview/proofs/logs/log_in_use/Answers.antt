use Rattle.std.proofs.Common.{sym, ◌∙◌, subst}
use Rattle.std.specs.Prelude.{Option}
use Rattle.std.proofs.lemmas.List.{nil_from_length}
use Rattle.sqjournal.specs.Journal.{IsFirst}
use Rattle.sqjournal.specs.declared.header.JournalHeader.{JournalHeader}
use Rattle.sqview.proofs.logs.log_in_use.Goals as goal

pub returns-in-Some-2-clause-right : goal.returns-in-Some-2-clause-right
returns-in-Some-2-clause-right g c = λ right_wal right ok.
    let b = g.F.FileBytes.bytes c.args.journal.now in
    let w = g.F.FileBytes.bytes c.args.wal.now in
    let first = subst (λ (o : Option JournalHeader). IsFirst b o) c.in-Some.is (c.in_ok-header.ensures.right right) in
    (first.0, first.1, nil_from_length w (sym (c.len-bare.ensures.count right_wal) ∙ c.if-not-bare.false))

pub returns-in-Some-2-clause-answer : goal.returns-in-Some-2-clause-answer
returns-in-Some-2-clause-answer g c = λ gives_wal gives. returns-in-Some-2-clause-right g c (g.met.F.FileBytes.right c.args.wal.now gives_wal) (g.met.F.FileBytes.right c.args.journal.now gives) tt
