use Rattle.cli_recover.proofs.RecoveredViews.{fold_keeps, replay_keeps}
use Rattle.cli_recover.proofs.recovered.recovery_keeps_view.Goals as goal

pub returns : goal.returns
returns c = record {
  fold = λ limits size db wal journal after folded old new d answer present cold names views. fold_keeps limits size db wal journal after folded old new d answer present cold names views;
  replay = λ most size db wal journal after left replayed old new d answer before present leaves names views. replay_keeps most size db wal journal after left replayed old new d answer before present leaves names views;
}
