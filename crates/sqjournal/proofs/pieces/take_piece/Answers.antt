use Rattle.std.proofs.Common.{◌≡◌, ◌-◌, ◌++◌, ◌<◌, ◌≤◌, List, ℕ, length, take, sym, subst, arith}
use Rattle.std.proofs.lemmas.Result.{IfOk-weaker}
use Rattle.std.proofs.lemmas.Grind.{common_steps}
use Rattle.std.proofs.lemmas.Bool.Decides.{nat_tests}
use Rattle.sqjournal.specs.Reading.{IsOver}
use Rattle.sqjournal.specs.internal.Reading.{IsNext}
use Rattle.sqjournal.proofs.read.NextStateOfReading.{begun_next}
use Rattle.sqjournal.proofs.pieces.take_piece.Goals as goal

pub returns-clause-stands : goal.returns-clause-stands
returns-clause-stands c =
    let piece = c.args.piece.now in
    let begun = c.args.begun.now.items in
    let reading = c.args.reading.now in
    let missing : ℕ = c.next_len.result - c.len.result in
    let unit : c.deref.result.now ≡ begun ++ take missing piece = grind (arith, common_steps) in
    let some : 0 < length begun = grind (arith, nat_tests, common_steps) in
    let sound = c.requires.sound in
    let open_ : IsOver reading.next → ⊥ = λ o. omega (arith, sound.over o, some) in
    let room : length begun ≤ c.next_len.result = omega (arith, sound.short open_, sound.kept open_, c.next_len.ensures.value) in
    let all : missing ≡ c.next_len.result - length begun = omega (arith, c.len.ensures, c.args.begun.now.ok.0) in
    IfOk-weaker c.take_rest-2.result _ _ (λ r go. λ b l keeps s. go b l (c.in_ok-next.ensures.stands (b ++ piece) s
    (subst (λ (u : List ℕ). IsNext (b ++ piece) reading u) (sym unit)
    (begun_next b piece begun reading missing keeps some sound.over (omega (arith, room, c.next_len.ensures.value)) (omega (arith, all, c.next_len.ensures.value)) (omega arith))))) c.take_rest-2.ensures.stands
