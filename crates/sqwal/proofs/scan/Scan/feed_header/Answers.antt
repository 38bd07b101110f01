use Rattle.std.proofs.Common.{◌++◌, List, ℕ, ◌∙◌, ap, subst, arith}
use Rattle.std.proofs.lemmas.Result.{err_from_is_err_and}
use Rattle.sqwal.specs.Answers.{LogRefusedWithin}
use Rattle.sqwal.specs.Took.{TookNone, TookParts}
use Rattle.sqwal.proofs.feed.PieceFedToScan.{head-piece, fed-refused}
use Rattle.sqwal.proofs.scan.Scan.feed_header.Goals as goal

pub returns-in_err-self : goal.returns-in_err-self
returns-in_err-self c most b none has =
    let s = c.args.self.now in
    let t : TookNone b s.held.items s.frames.entries.items s.frames.progress = rw none at has.parts in
    let p = err_from_is_err_and c.from_residual-in_err-self.result c.from_residual-in_err-self.ensures.1 in
    let back = fed-refused most b c.args.piece.now (c.in-Some.head.now ++ c.split_at.result.1.now) s.held.items s.frames.entries.items s.frames.progress s.header c.in_err-self.field-0.0 t none
    (head-piece b c.args.piece.now s.held.items c.split_at.result.0.now c.split_at.result.1.now c.deref-2.result.now c.in-Some.head.now s.frames.entries.items s.frames.progress t c.split_at.ensures.by_index.0 (omega (arith, c.split_at.ensures.front_len, c.saturating_sub-missing.ensures, c.len.ensures, s.held.ok.0))
    (c.deref-2.ensures.value ∙ c.in_ok-head.ensures.items ∙ ap (λ x. x ++ c.split_at.result.0.now) c.deref.ensures.value) c.in-Some.ensures.cases.same)
    (subst (λ (n : ℕ). LogRefusedWithin n (c.in-Some.head.now ++ c.split_at.result.1.now) c.in_err-self.field-0.0) has.limit c.in_err-self.ensures) in
    rw (p.1, p.2) (record { limit = has.limit; parts = back.0 }, back.1)

pub returns : goal.returns
returns c most b none has =
    let s = c.args.self.now in
    let t : TookNone b s.held.items s.frames.entries.items s.frames.progress = rw none at has.parts in
    record {
      limit = c.in_ok-self.ensures.limit ∙ has.limit;
      parts = subst (λ (x : List ℕ). TookParts x c.in_ok-self.field-0.held.items c.in_ok-self.field-0.frames.entries.items c.in_ok-self.field-0.frames.progress c.in_ok-self.field-0.header)
          (head-piece b c.args.piece.now s.held.items c.split_at.result.0.now c.split_at.result.1.now c.deref-2.result.now c.in-Some.head.now s.frames.entries.items s.frames.progress t c.split_at.ensures.by_index.0 (omega (arith, c.split_at.ensures.front_len, c.saturating_sub-missing.ensures, c.len.ensures, s.held.ok.0))
          (c.deref-2.ensures.value ∙ c.in_ok-head.ensures.items ∙ ap (λ x. x ++ c.split_at.result.0.now) c.deref.ensures.value) c.in-Some.ensures.cases.same) c.in_ok-self.ensures.parts;
    }
