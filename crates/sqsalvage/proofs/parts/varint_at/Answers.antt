use Rattle.std.proofs.Common.{refl, arith}
use Rattle.sqpage.proofs.btree.PartsOfCells.{reads_rest, varint_some, varint_none, varint_size}
use Rattle.sqsalvage.proofs.parts.varint_at.Goals as goal

pub overflow_add-result : goal.overflow_add-result
overflow_add-result c = let s = varint_size c.in-Some.number c.in-Some.size _ ((c.in-Some.ensures.found c.in-Some.number c.in-Some.size).0 refl) in omega (arith, s.1)

pub returns-in-Some-clause-short : goal.returns-in-Some-clause-short
returns-in-Some-clause-short c = let s = varint_size c.in-Some.number c.in-Some.size _ ((c.in-Some.ensures.found c.in-Some.number c.in-Some.size).0 refl) in omega (arith, s.1)

pub returns-in-Some-clause-found : goal.returns-in-Some-clause-found
returns-in-Some-clause-found c = varint_some c.args.present c.args.used.now c.args.from c.in-Some.number c.in-Some.size _ c.if-not-present.false (reads_rest _ c.args.from c.args.used.now c.in-Some.ensures.found) refl

pub returns-in-None-clause-found : goal.returns-in-None-clause-found
returns-in-None-clause-found c = varint_none c.args.present c.args.used.now c.args.from _ c.if-not-present.false (reads_rest _ c.args.from c.args.used.now c.in-None.ensures.found) refl
