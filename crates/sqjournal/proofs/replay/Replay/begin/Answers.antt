use Rattle.std.proofs.Common.{◌∙◌, ◌++◌, length-append, refl, ap, arith}
use Rattle.std.proofs.lemmas.Result.{err_from_is_err_and}
use Rattle.sqjournal.proofs.read.BytesTakenByReplay.{took_unjudged, took_same, unjudged_of, taken_of}
use Rattle.sqjournal.proofs.replay.Replay.begin.Goals as goal

pub returns-in_err-extend_from_slice : goal.returns-in_err-extend_from_slice
returns-in_err-extend_from_slice c = λ b t.
    let p = err_from_is_err_and c.from_residual.result c.from_residual.ensures.1 in
    rw p.1 (p.2, took_same b c.args.self.now _ t refl refl c.in_err-extend_from_slice.ensures.items refl)

pub returns : goal.returns
returns c = λ b t.
    let u = unjudged_of b c.args.self.now t c.requires.unjudged in
    let taken = taken_of b c.args.self.now t in
    took_unjudged (b ++ c.args.piece.now) _ c.requires.unjudged (simp length-append (omega arith)) (simp length-append (omega (arith, c.requires.short)))
    (c.in_ok-extend_from_slice.ensures.items ∙ ap (λ l. l ++ c.args.piece.now) u.kept) u.none
