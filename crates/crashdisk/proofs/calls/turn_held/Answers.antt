use Rattle.crashdisk.proofs.Between.{arith, file_of, length, picked, picked_below, solid, sound, sound_shuffled, suc, true, turned_shuffled, ℕ}
use Rattle.crashdisk.proofs.calls.turn_held.Goals as goal

-- the sectors are shuffled so
shuffled : goal.returns-clause-shuffled
shuffled c =
    let s = file_of c.args.sector c.args.held.now in
    let t = file_of c.args.sector c.turn.new.self in
    let at : ℕ → ℕ = λ k. picked c.args.pick.now true k (suc (length (s.earlier k))) in
    turned_shuffled c.args.sector s t at (λ k. picked_below c.args.pick.now true k (suc (length (s.earlier k))) (omega arith)) c.turn.ensures.turned c.turn.ensures.len.0 c.turn.ensures.len.1 c.turn.ensures.len.2

pub returns-clause-shuffled : goal.returns-clause-shuffled
returns-clause-shuffled c = shuffled c

pub returns-clause-stands : goal.returns-clause-stands
returns-clause-stands c =
    let s = file_of c.args.sector c.args.held.now in
    let held = c.turn.ensures.held in
    record { held = held; solid = solid c.args.sector _ held.positive (sound_shuffled c.args.sector s (file_of c.args.sector c.turn.new.self) (shuffled c) (sound c.args.sector s held.positive c.requires.solid)) }
