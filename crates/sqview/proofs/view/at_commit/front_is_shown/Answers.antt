use Rattle.sqview.proofs.openings.ViewAtCommit.{front_to, front_from, alone_to, alone_from}
use Rattle.sqview.proofs.view.at_commit.front_is_shown.Goals as goal

pub returns : goal.returns
returns c = record {
  front = λ front size db wal journal d logged. (front_to front size db wal journal d logged, front_from front size db wal journal d logged);
  zero = λ size db wal journal d alone. (alone_to 0 size db wal journal d alone, alone_from 0 size db wal journal d alone);
}
