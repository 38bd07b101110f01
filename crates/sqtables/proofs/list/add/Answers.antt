use Rattle.sqtables.proofs.ObjectsTaken.{added}
use Rattle.sqtables.proofs.list.add.Goals as goal
use Rattle.sqtables.proofs.list.add.Goals.{in-Ok-push, in-Err}

pub returns-clause-ok : goal.returns-clause-ok
returns-clause-ok c = elim c.match-push.branch [
  | in-Ok-push w ↦ rw w.result-is (added c.args.row.now.values c.in-Some.object c.in-Ok.copy c.args.objects.now.items c.push.new.self.items
      c.in-Some.ensures c.in-Ok.ensures w.in-Ok-push.ensures.items)
  | in-Err w ↦ rw w.result-is tt
]
