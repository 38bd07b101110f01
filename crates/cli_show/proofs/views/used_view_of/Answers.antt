use Rattle.std.proofs.Common.{sym, subst}
use Rattle.sqpast.specs.declared.past_error.PastError.TheVariants.{Refused}
use Rattle.sqview.specs.declared.view_error.ViewError.{ViewError}
use Rattle.cli_show.specs.Views.{AskedRefused}
use Rattle.cli_show.proofs.AskedFronts.{counts_asked, memory_refused, reads_same}
use Rattle.cli_show.proofs.views.used_view_of.Goals as goal

pub returns-in-Ok-used_of-clause-answer : goal.returns-in-Ok-used_of-clause-answer
returns-in-Ok-used_of-clause-answer g c = λ gives.
    (c.in-Ok.whole, c.in-Ok.ensures.answer gives, c.in-Ok-used_of.ensures.used (c.in-Ok.ensures.still_gives gives))

pub returns-in-Ok-used_of-clause-counts : goal.returns-in-Ok-used_of-clause-counts
returns-in-Ok-used_of-clause-counts g c = λ gives.
    let bytes = g.F.FileBytes.bytes in
    counts_asked c.args.limits bytes (bytes c.args.db) (bytes c.args.wal) (bytes c.args.journal) c.in-Ok.whole c.args.at c.in-Ok-used_of.used.counts (c.in-Ok.ensures.answer gives)
    (c.in-Ok-used_of.ensures.counts (c.in-Ok.ensures.still_gives gives))

pub returns-in-Ok-used_of-clause-reads : goal.returns-in-Ok-used_of-clause-reads
returns-in-Ok-used_of-clause-reads g c = λ gives.
    let bytes = g.F.FileBytes.bytes in
    let part = c.in-Ok-used_of.ensures.used (c.in-Ok.ensures.still_gives gives) in
    reads_same c.args.at (bytes c.args.wal) (bytes c.args.journal) (bytes c.in-Ok.whole.log) (bytes c.in-Ok-used_of.used.view.log) part.files.1 (c.in-Ok.ensures.reads gives)

pub returns-in-Err-used_of-clause-answer : goal.returns-in-Err-used_of-clause-answer
returns-in-Err-used_of-clause-answer g c = λ gives.
    let bytes = g.F.FileBytes.bytes in
    subst (λ (e : ViewError). AskedRefused c.args.limits c.args.at (bytes c.args.db) (bytes c.args.wal) (bytes c.args.journal) (Refused e)) (sym (c.in-Err-used_of.ensures.refused (c.in-Ok.ensures.still_gives gives)))
    (memory_refused c.args.limits c.args.at (bytes c.args.db) (bytes c.args.wal) (bytes c.args.journal))
