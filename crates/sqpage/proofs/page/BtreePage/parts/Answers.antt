use Rattle.std.proofs.Common.{inl, inr, arith}
use Rattle.sqpage.proofs.page.BtreePage.parts.Goals as goal

pub unreachable-requires : goal.unreachable-requires
unreachable-requires c =
    let h = c.read_parts.ensures.not c.if-not-read_parts.true in
    elim h.2 [
      | inl before ↦ absurd (let le = c.self.invariant.above h.0 h.1 in omega (arith, before, le))
      | inr none ↦ c.self.invariant.cells h.0 h.1 none
    ]
