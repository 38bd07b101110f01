use Rattle.std.proofs.Common.{◌≡◌, refl}
use Rattle.std.specs.Prelude.{true, false}
use Rattle.cli_facts.proofs.LockLines.{by_nothing, by_number}
use Rattle.cli_facts.proofs.locks.names_file.Goals as goal

pub returns-then-has-2 : goal.returns-then-has-2
returns-then-has-2 c = by_number _ _ _ _ c.requires.place c.requires.inode (λ h. let f : false ≡ true = c.if-has.ensures.1 h in cc)
    (c.if-has-2.ensures.0 refl) _ c.is_unnumbered.ensures

pub returns-else-has-2 : goal.returns-else-has-2
returns-else-has-2 c = by_nothing _ _ _ _ c.requires.place c.requires.inode (λ h. let f : false ≡ true = c.if-has.ensures.1 h in cc)
    _ c.has-else-has.ensures c.if-has-2.false
