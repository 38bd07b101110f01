use Rattle.std.proofs.Common.{[], rules, tests}
use Rattle.std.specs.Str.Lines.{lines}
use Rattle.std.proofs.lemmas.Iterator.{cases_from_any}
use Rattle.std.proofs.lemmas.Iterator.Splits.{YieldsList-from_lines}
use Rattle.cli_facts.specs.Locks.{IsLockOn}
use Rattle.cli_facts.proofs.TextsOfLockLines.{decides_any}
use Rattle.cli_facts.proofs.locks.is_locked.Goals as goal

pub returns : goal.returns
returns c = decides_any (λ line. IsLockOn line c.args.file) [] _ (lines c.args.lines.now)
    (cases_from_any _ _ _ (λ line. IsLockOn line c.args.file) (λ line. ¬ IsLockOn line c.args.file) c.any.ensures.ran
    (YieldsList-from_lines c.args.lines.now c.lines.ensures.rest) (λ x q k. search (rules, tests)) (λ x q k. search (rules, tests)))
