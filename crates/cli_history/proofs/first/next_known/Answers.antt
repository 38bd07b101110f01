use Rattle.std.proofs.Common.{Bool, List, subst}
use Rattle.std.specs.Prelude.{IfOk, MatchOption}
use Rattle.sqpast.specs.Commits.{IsFirstKnown, NoneIsKnown}
use Rattle.cli_history.proofs.KnownFirst.{known_next, source_memory}
use Rattle.cli_history.proofs.first.next_known.Goals as goal

pub returns-in-Ok-clause-next : goal.returns-in-Ok-clause-next
returns-in-Ok-clause-next g c = λ given.
    let bytes = g.F.FileBytes.bytes in
    let files = c.args.files in
    let right = g.met.F.FileBytes.right in
    let after = c.args.after in
    known_next (bytes files.wal) (bytes files.db) c.args.scan.now c.in-Ok.known.items after c.next_of.result
    (c.in-Ok.ensures.right (right files.db given.0, right files.wal given.1))
    (subst (λ (l : List Bool). IfOk c.next_of.result (λ next. MatchOption next (NoneIsKnown l after) (IsFirstKnown l after))) c.deref.ensures.value c.next_of.ensures.next)

pub returns-in-Err-clause-memory : goal.returns-in-Err-clause-memory
returns-in-Err-clause-memory g c = λ given.
    source_memory c.in-Err.error c.in-Err.ensures.refused (λ unread. rw unread at (c.in-Err.ensures.read (given.0, given.1)))
