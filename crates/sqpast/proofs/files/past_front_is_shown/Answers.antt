use Rattle.sqpast.proofs.known.OpenedFiles.{front_to, front_from}
use Rattle.sqpast.proofs.files.past_front_is_shown.Goals as goal

pub returns-clause-front : goal.returns-clause-front
returns-clause-front c = λ front size db wal journal d logged. (front_to front size db wal journal d logged, front_from front size db wal journal d logged)
