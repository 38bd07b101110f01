use Rattle.sqcheck.proofs.Facts.{next_none, next_pushed, on_ok, refl}
use Rattle.sqcheck.proofs.trunk.push_next.Goals as goal

pub returns-then-next-eq0-clause-ok : goal.returns-then-next-eq0-clause-ok
returns-then-next-eq0-clause-ok c = λ tree. next_none tree c.args.bytes.now c.args.trunk c.word_at-next.result c.args.stack.now.items c.word_at-next.ensures c.if-next-eq0.true

pub returns-clause-ok : goal.returns-clause-ok
returns-clause-ok c = on_ok _ _ c.push.result (λ pushed tree. next_pushed tree c.args.bytes.now c.args.trunk c.word_at-next.result c.args.stack.now.items c.push.new.stack.items _ c.word_at-next.ensures c.if-next-eq0.false refl pushed) c.push.ensures.ok
