use Rattle.std.proofs.Common.{List, sym, subst}
use Rattle.sqwal.specs.Answers.{AreEntriesWithin}
use Rattle.sqwal.specs.declared.scan.Entry.{Entry}
use Rattle.sqwal.proofs.feed.ScanAnswers.{entries_within}
use Rattle.sqwal.proofs.scan.Scan.entries.Goals as goal

pub returns : goal.returns
returns c most b t = subst (λ (x : List Entry). AreEntriesWithin most b x) (sym c.deref.ensures.value) (entries_within most b c.args.self.now t)
