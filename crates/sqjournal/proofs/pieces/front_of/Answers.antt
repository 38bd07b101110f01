use Rattle.std.proofs.Common.{◌≤◌, ◌++◌, length, length-append, replicate, arith, refl}
use Rattle.sqjournal.proofs.read.NextStateOfReading.{front_of}
use Rattle.sqjournal.proofs.pieces.front_of.Goals as goal

pub returns : goal.returns
returns c =
    let begun = c.args.begun.now in
    let piece = c.args.piece.now in
    let long : 28 ≤ length (begun ++ piece) = simp length-append (omega (arith, c.min-kept.ensures)) in (
      long,
      front_of begun piece c.copy_from_slice.new.self c.copy_from_slice-2.new.self (replicate 28 0) c.min-kept.result refl
          c.min-kept.ensures (omega arith) c.copy_from_slice.ensures.after c.copy_from_slice-2.ensures.after,
    )
