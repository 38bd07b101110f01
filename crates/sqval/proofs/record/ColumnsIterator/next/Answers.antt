use Rattle.std.proofs.Common.{◌∙◌, sym, ap, length, refl, rules}
use Rattle.sqval.proofs.payload.SerialTypesAndBodies.{shown_next, shown_none, room_next}
use Rattle.sqval.proofs.record.ColumnsIterator.next.Goals as goal

pub returns-in_err-serial-clause-steps : goal.returns-in_err-serial-clause-steps
returns-in_err-serial-clause-steps c =
    let none = sym c.self.view_is ∙ shown_none c.self.inside.types.now c.self.inside.bodies.now (c.in_err-serial.ensures.none.0 refl) in
    rw c.from_residual.ensures (none, none)

pub split_at-requires : goal.split_at-requires
split_at-requires c = ((c.in_ok-serial.ensures.found _ _).0 refl).within

pub split_at-requires-2 : goal.split_at-requires-2
split_at-requires-2 c =
    rw c.body_size_of.ensures (room_next _ _ _ _ ((c.in_ok-serial.ensures.found _ _).0 refl) c.self.invariant).0

pub invariant_of-self : goal.invariant_of-self
invariant_of-self c =
    rw (c.split_at.ensures.back, c.split_at-2.ensures.back, c.body_size_of.ensures)
    (room_next _ _ _ _ ((c.in_ok-serial.ensures.found _ _).0 refl) c.self.invariant).1

pub returns-clause-steps : goal.returns-clause-steps
returns-clause-steps c =
    rw (c.from_body.ensures, c.split_at-2.ensures.front, c.split_at.ensures.back, c.split_at-2.ensures.back, c.body_size_of.ensures)
    (sym c.self.view_is ∙ shown_next _ _ _ _ ((c.in_ok-serial.ensures.found _ _).0 refl))

pub returns-clause-goes : goal.returns-clause-goes
returns-clause-goes c = let shorter = ap length (returns-clause-steps c) in search rules
