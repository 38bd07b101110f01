use Rattle.std.proofs.Common.{rules}
use Rattle.recovery.proofs.Below.{during, passed}
use Rattle.recovery.proofs.EndOfRestore.{end_unsynced, end_unwritten, end_written}
use Rattle.recovery.proofs.finishing.finish.Goals as goal

pub returns-in_err-sync : goal.returns-in_err-sync
returns-in_err-sync g c = during (search rules) (λ word. end_unsynced c.args.count c.from_residual.result c.sync.result _ _ _ c.in_err-sync.was (passed c.from_residual.result _ c.from_residual.ensures.1) (c.sync.ensures.state word))

pub returns-in_err-write_at : goal.returns-in_err-write_at
returns-in_err-write_at g c = during (search rules) (λ word. end_unwritten c.args.count c.from_residual-in_err-write_at.result c.requires _ _ _ (c.in_ok-sync.ensures.state word) c.write_at.result _ c.in_err-write_at.was (passed c.from_residual-in_err-write_at.result _ c.from_residual-in_err-write_at.ensures.1)
    (c.write_at.ensures.state (c.sync.ensures.word.0 word)))

pub returns : goal.returns
returns g c = during (search rules) (λ word.
    let word_b = c.sync.ensures.word.0 word in
    end_written c.args.count c.sync-2.result c.requires _ _ _ (c.in_ok-sync.ensures.state word) _ (c.in_ok-write_at.ensures.state word_b) (c.sync-2.ensures.state (c.write_at.ensures.word.0 word_b)))
