use Rattle.std.proofs.Common.{◌≡◌, [], rules, tests}
use Rattle.std.specs.Str.Lines.{lines}
use Rattle.std.proofs.lemmas.Iterator.{cases_from_any}
use Rattle.std.proofs.lemmas.Iterator.Splits.{YieldsList-from_lines}
use Rattle.sqlocks.specs.Told.{NamesFile, IsOfLock}
use Rattle.sqlocks.proofs.TextsOfLockLines.{decides_any}
use Rattle.sqlocks.proofs.told.tells.Goals as goal

pub returns : goal.returns
returns c = decides_any (λ line. NamesFile line c.args.file × IsOfLock line c.args.lock) [] _ (lines c.args.text.now)
    (cases_from_any _ _ _ (λ line. NamesFile line c.args.file × IsOfLock line c.args.lock) (λ line. ¬ (NamesFile line c.args.file × IsOfLock line c.args.lock)) c.any.ensures.ran
    (YieldsList-from_lines c.args.text.now c.lines.ensures.rest) (λ x q k. search (rules, tests)) (λ x q k. search (rules, tests)))
