use Rattle.std.proofs.Common.{ℕ, subst, arith}
use Rattle.sqwal.specs.internal.ScanParts.{IsFed}
use Rattle.sqwal.proofs.feed.PieceFedToScan.{fed-answer}
use Rattle.sqwal.proofs.scan.Scan.feed.Goals as goal

pub returns-in-Some : goal.returns-in-Some
returns-in-Some c most b t = fed-answer most b c.args.piece.now c.feed_frames.result c.feed_frames.new.self t.bytes (λ i. omega (arith, c.type_inv.piece i)) (subst (λ (n : ℕ). IsFed n b c.args.piece.now c.feed_frames.result c.feed_frames.new.self) t.limit (c.feed_frames.ensures b c.in-Some.is (rw c.in-Some.is at t.parts)))

pub returns-in-None : goal.returns-in-None
returns-in-None c most b t = fed-answer most b c.args.piece.now c.feed_header.result c.feed_header.new.self t.bytes (λ i. omega (arith, c.type_inv.piece i)) (c.feed_header.ensures most b c.in-None.is (record { limit = t.limit; parts = t.parts }))
