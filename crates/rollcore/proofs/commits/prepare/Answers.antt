use Rattle.rollcore.proofs.Facts.{arith, few_records, lent, recorded, subst, sym, ℕ, ◌<◌, ◌^◌}
use Rattle.rollcore.proofs.commits.prepare.Goals as goal

pub count_records-requires : goal.count_records-requires
count_records-requires c = subst (λ (n : ℕ). recorded (lent c.args.pages.now) n c.args.size < 2 ^ 64) (sym c.judge.ensures.keeps.size)
    (few_records c.args.core.now.size c.args.core.now.page_size (lent c.args.pages.now) c.args.size c.in_ok-judge.ensures.answer.0 (omega arith))
