use Rattle.std.proofs.Common.{[], refl}
use Rattle.sqview.proofs.file.HeldPartOfFile.{holds_nothing}
use Rattle.sqview.proofs.read_ahead.ReadAhead.fill.Goals as goal

pub returns-in_default-clause-holds : goal.returns-in_default-clause-holds
returns-in_default-clause-holds g c = λ right. holds_nothing _ _ _ [] refl
