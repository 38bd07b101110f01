-- The answers that are left lead where all of them do.
use Rattle.std.proofs.Common.{◌≡◌, drop, fold}
use Rattle.sqlocks.specs.declared.places.Place.TheVariants.{OpenFile}
use Rattle.sqlocks.specs.Places.{next}
use Rattle.sqlocks.proofs.plan.asked.Given as goal

abbrev pub invariant-loop-answer : goal.invariant-loop-answer
invariant-loop-answer l = fold next l.place (drop l.answer-index l.answers) ≡ fold next (OpenFile l.fn.want) l.answers
