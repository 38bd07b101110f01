use Rattle.std.proofs.Common.{◌≡◌, ◌∙◌, None, refl, arith, rules}
use Rattle.sqpage.proofs.btree.LayoutOfPage.{walk_begins, walk_goes_on, walk_ends, walk_shares, walk_breaks}
use Rattle.sqpage.proofs.layout.mark_freeblocks.Goals as goal

pub blocks-2-init : goal.blocks-2-init
blocks-2-init c = record {
  walked = walk_begins c.args.used.now c.args.start c.args.first _ c.args.map.now c.requires.clear;
  small = c.requires.small.0;
  bounded = omega arith;
  ordered = omega arith;
  same_length = refl;
}

pub returns-in_default-clause-err : goal.returns-in_default-clause-err
returns-in_default-clause-err c = walk_breaks c.args.used.now c.args.start c.args.first c.blocks-2.least c.blocks-2.at c.blocks-2.taken c.blocks-2.apart c.blocks-2.map c.freeblock_size.result c.blocks-2.invariant.walked c.blocks-2-test.true c.freeblock_size.ensures.found (let none : c.freeblock_size.result ≡ None = search rules in none)

pub mark-apart-requires-clause-within : goal.mark-apart-requires-clause-within
mark-apart-requires-clause-within c = let is = (c.freeblock_size.ensures.found c.in-Some.size).0 c.in-Some.is in omega (arith, is.within, c.requires.room, c.blocks-2.invariant.same_length)

pub mark-apart-requires-clause-fits : goal.mark-apart-requires-clause-fits
mark-apart-requires-clause-fits c = let is = (c.freeblock_size.ensures.found c.in-Some.size).0 c.in-Some.is in omega (arith, is.within, c.requires.small.1)

pub overflow_add-taken : goal.overflow_add-taken
overflow_add-taken c = let is = (c.freeblock_size.ensures.found c.in-Some.size).0 c.in-Some.is in omega (arith, is.within, is.after, c.requires.small.1, c.blocks-2.invariant.bounded)

pub half_at-at-requires : goal.half_at-at-requires
half_at-at-requires c = let is = (c.freeblock_size.ensures.found c.in-Some.size).0 c.in-Some.is in omega (arith, is.within, is.enough)

pub blocks-2-smaller : goal.blocks-2-smaller
blocks-2-smaller c = let is = (c.freeblock_size.ensures.found c.in-Some.size).0 c.in-Some.is in omega (arith, is.within, is.enough, is.after)

pub blocks-2-preserved : goal.blocks-2-preserved
blocks-2-preserved c = let is = (c.freeblock_size.ensures.found c.in-Some.size).0 c.in-Some.is in let i = c.blocks-2.invariant in record {
  walked = walk_goes_on c.args.used.now c.args.start c.args.first c.blocks-2.least c.blocks-2.at c.in-Some.size c.half_at-at.result c.blocks-2.taken c.blocks-2.apart c.mark-apart.result _ c.blocks-2.map c.mark-apart.new.map i.walked c.blocks-2-test.true is c.mark-apart.ensures.marked c.mark-apart.ensures.touched refl c.half_at-at.ensures.value;
  small = c.half_at-at.ensures.small;
  bounded = omega (arith, is.within, is.after, c.requires.small.1, i.bounded, i.ordered);
  ordered = omega (arith, is.after, i.ordered);
  same_length = c.mark-apart.ensures.length ∙ i.same_length;
}

pub returns-then-apart-clause-ok : goal.returns-then-apart-clause-ok
returns-then-apart-clause-ok c = walk_ends c.args.used.now c.args.start c.args.first c.blocks-2.least c.blocks-2.at c.blocks-2.taken c.blocks-2.apart c.blocks-2.map c.blocks-2.invariant.walked c.blocks-2-test.false c.if-apart.true

pub returns-else-apart-clause-err : goal.returns-else-apart-clause-err
returns-else-apart-clause-err c = walk_shares c.args.used.now c.args.start c.args.first c.blocks-2.least c.blocks-2.at c.blocks-2.taken c.blocks-2.apart c.blocks-2.map c.blocks-2.invariant.walked c.blocks-2-test.false c.if-apart.false
