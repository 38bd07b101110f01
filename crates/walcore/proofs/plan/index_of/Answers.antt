use Rattle.walcore.proofs.Facts.{FrameTable, IsTable, [], ap, arith, length, length-append, named_size, subst, table_more, table_none, valid_below, ℕ, ◌+◌, ◌∙◌, ◌≡◌}
use Rattle.walcore.proofs.plan.index_of.Goals as goal

pub loop-k-init : goal.loop-k-init
loop-k-init c =
    let none : c.grow.new.index.pages ≡ [] = c.grow.ensures.pages ∙ ap (λ (t : FrameTable). t.pages) c.new-index.ensures in
    record { bound = c.in_ok-grow.ensures.bound; room = c.in_ok-grow.ensures.room; long = ap length none; table = λ most w took valid. table_none (named_size w) c.args.front.size w c.grow.new.index }

pub loop-k-preserved : goal.loop-k-preserved
loop-k-preserved c =
    let table = table_more in
    record {
      bound = omega (arith, c.loop-k.invariant.bound, ap (λ (t : FrameTable). t.bound) c.push.ensures);
      room = omega (arith, c.loop-k.invariant.room, ap (λ (t : FrameTable). t.room) c.push.ensures);
      long = ap (λ (t : FrameTable). length t.pages) c.push.ensures ∙ length-append c.loop-k.index.pages _ ∙ ap (λ n. n + 1) c.loop-k.invariant.long;
      table = λ most w took valid. table_more (named_size w) c.args.front.size w c.loop-k.k c.wanted.result c.loop-k.index c.push.new.self c.loop-k.invariant.long (c.loop-k.invariant.table most w took valid)
          (c.wanted.ensures.page most w took (valid_below (named_size w) w c.args.front.frames (c.loop-k.k + 1) valid (omega arith) (omega arith))) c.push.ensures;
    }

pub returns-clause-table : goal.returns-clause-table
returns-clause-table c = λ most w took valid.
    let all : c.loop-k.k ≡ c.args.front.frames = omega (arith, c.loop-k-test.false, c.loop-k.auto.k-end) in
    subst (λ (n : ℕ). IsTable (named_size w) c.args.front.size w n c.loop-k.index) all (c.loop-k.invariant.table most w took valid)
