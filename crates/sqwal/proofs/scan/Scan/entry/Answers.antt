use Rattle.std.proofs.Common.{◌≡◌, suc, ◌∙◌, ap, arith}
use Rattle.std.specs.Prelude.{slice_get}
use Rattle.sqwal.proofs.feed.ScanAnswers.{entry_found, copied_get}
use Rattle.sqwal.proofs.scan.Scan.entry.Goals as goal

pub returns : goal.returns
returns c most b t =
    let s = c.args.self.now in
    let i : c.args.i ≡ suc c.in_ok-index.index = omega (arith, c.in_ok-index.ensures) in
    let o : c.copied.result ≡ slice_get s.frames.entries.items c.in_ok-index.index = c.copied.ensures ∙ copied_get c.deref.result.now c.in_ok-index.index c.get.result c.get.ensures.lookup ∙ ap (λ xs. slice_get xs c.in_ok-index.index) c.deref.ensures.value in
    rw (i, o) (entry_found b s.held.items s.frames.entries.items s.frames.progress s.header c.in_ok-index.index t.parts)
