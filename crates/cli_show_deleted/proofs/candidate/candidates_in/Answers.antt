use Rattle.std.proofs.lemmas.Result.{IfOk-weaker}
use Rattle.cli_show_deleted.specs.internal.Candidates.{AreCandidatesOf, AreCollected}
use Rattle.cli_show_deleted.proofs.CellsCollected.{collected_of}
use Rattle.cli_show_deleted.proofs.candidate.candidates_in.Goals as goal

pub returns-in-Some-clause-ok : goal.returns-in-Some-clause-ok
returns-in-Some-clause-ok c =
    let e = c.in-Some.ensures in
    let cells = c.in-Some.cells in
    IfOk-weaker c.collected.result (λ all. AreCollected cells all.items) (λ all. AreCandidatesOf c.args.role c.args.used.now c.args.number all.items)
    (λ all are. collected_of c.args.role c.args.used.now c.args.number cells all.items e.left e.same.0 e.same.1 are) c.collected.ensures.ok
