-- How words are refused whose locks can't be had (own).
use Rattle.cli_facts.specs.declared.outcome.Refusal.{Refusal}
use Rattle.cli_facts.specs.declared.outcome.Refusal.TheVariants.{InUse, NoLocks, FileFailed}
use Rattle.cli_held.specs.declared.todo.Why.{Why}
use Rattle.cli_held.specs.declared.todo.Why.TheVariants as whys

-- in use, where somebody holds a lock; no locks, where there are none; and file failed, where FILE-shm can't be opened
abbrev pub refusal_of : Why → Refusal
refusal_of whys.InUse = InUse
refusal_of whys.NoLocks = NoLocks
refusal_of whys.FileFailed = FileFailed
