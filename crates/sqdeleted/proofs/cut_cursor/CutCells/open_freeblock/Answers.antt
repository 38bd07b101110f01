use Rattle.std.proofs.Common.{◌+◌, ◌≤◌, length, arith, refl}
use Rattle.sqdeleted.proofs.LinkedFreeblocks.{no_block}
use Rattle.sqdeleted.proofs.cut_cursor.CutCells.open_freeblock.Goals as goal

pub returns-in_default-clause-not : goal.returns-in_default-clause-not
returns-in_default-clause-not c = λ e.
    (no_block c.args.self.now.used.now c.args.self.now.least c.args.self.now.next c.freeblock_size.result c.in_default.is c.freeblock_size.ensures.found, refl)

pub half_at-self-requires : goal.half_at-self-requires
half_at-self-requires c =
    let is = (c.freeblock_size.ensures.found c.in-Some.size).0 c.in-Some.is in
    let within : c.args.self.now.next + c.in-Some.size ≤ length c.args.self.now.used.now = is.within in
    let enough : 4 ≤ c.in-Some.size = is.enough in
    omega (arith, within, enough)

pub overflow_add-self : goal.overflow_add-self
overflow_add-self c =
    let is = (c.freeblock_size.ensures.found c.in-Some.size).0 c.in-Some.is in
    let within : c.args.self.now.next + c.in-Some.size ≤ length c.args.self.now.used.now = is.within in
    omega (arith, within, c.args.self.now.most)

pub overflow_add-self-2 : goal.overflow_add-self-2
overflow_add-self-2 c =
    let is = (c.freeblock_size.ensures.found c.in-Some.size).0 c.in-Some.is in
    let within : c.args.self.now.next + c.in-Some.size ≤ length c.args.self.now.used.now = is.within in
    omega (arith, within, c.args.self.now.most)

pub invariant_of-self : goal.invariant_of-self
invariant_of-self c =
    let is = (c.freeblock_size.ensures.found c.in-Some.size).0 c.in-Some.is in
    record {
      enough = c.args.self.now.enough;
      most = c.args.self.now.most;
      within = is.within;
      apart = omega arith;
      named = c.half_at-self.ensures.small;
    }

pub returns-clause-yes : goal.returns-clause-yes
returns-clause-yes c = λ e. record {
  used = refl;
  whole = refl;
  number = refl;
  block = record { start = c.args.self.now.next; size = c.in-Some.size };
  start = refl;
  is = (c.freeblock_size.ensures.found c.in-Some.size).0 c.in-Some.is;
  at = refl;
  to = refl;
  least = refl;
  next = c.half_at-self.ensures.value;
}
