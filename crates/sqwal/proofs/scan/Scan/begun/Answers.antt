use Rattle.std.proofs.Common.{arith, ◌++◌, sym, ◌∙◌, ap, subst}
use Rattle.sqval.specs.Limits.{Bounds}
use Rattle.std.proofs.lemmas.Result.{err_from_is_err_and}
use Rattle.sqwal.specs.Answers.{LogRefusedWithin}
use Rattle.sqwal.specs.declared.error.WalFormatError.{WalFormatError}
use Rattle.sqwal.proofs.feed.ScanUnderMoreBytes.{header-more, header_refused-more, log_refused}
use Rattle.sqwal.proofs.scan.Scan.begun.Goals as goal

pub returns-in_err-header : goal.returns-in_err-header
returns-in_err-header c =
    let p = err_from_is_err_and c.from_residual.result c.from_residual.ensures.1 in
    rw (p.1, p.2) (header_refused-more c.args.limits.frames c.args.head.now c.args.bytes.now c.in_err-header.field-0.0 (omega (arith, c.told-head)) c.in_err-header.ensures)

pub returns-in_err-rest : goal.returns-in_err-rest
returns-in_err-rest c =
    let p = err_from_is_err_and c.from_residual-in_err-rest.result c.from_residual-in_err-rest.ensures.1 in
    rw (p.1, p.2) (subst (λ (k : Bounds). LogRefusedWithin k.frames (c.args.head.now ++ c.args.bytes.now) c.in_err-rest.field-0.0) c.new-frames.ensures.limits (log_refused c.new-frames.result.progress.limits.frames c.in_ok-header.header (c.args.head.now ++ c.args.bytes.now) c.in_err-rest.field-0.0 (header-more c.args.head.now c.args.bytes.now c.in_ok-header.header c.in_ok-header.ensures)
    (c.in_err-rest.ensures.took c.args.head.now (c.new-frames.ensures.took c.in_ok-header.ensures))))

pub returns-in_err-held : goal.returns-in_err-held
returns-in_err-held c =
    let p = err_from_is_err_and c.from_residual-in_err-held.result c.from_residual-in_err-held.ensures.1 in
    rw (p.1, p.2) (subst (λ (e : WalFormatError). LogRefusedWithin c.args.limits.frames (c.args.head.now ++ c.args.bytes.now) e) (sym c.in_err-held.ensures.memory) tt)

pub returns : goal.returns
returns c = record {
  limit = ap (λ (k : Bounds). k.frames) (c.take_whole.ensures.limits ∙ c.new-frames.ensures.limits);
  parts = rw c.in_ok-held.ensures.items (c.in_ok-rest.ensures.took c.args.head.now (c.new-frames.ensures.took c.in_ok-header.ensures));
}
