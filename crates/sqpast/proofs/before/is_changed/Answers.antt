use Rattle.std.proofs.Common.{◌≡◌, ◌<◌, ◌≤◌, ◌*◌, ◌∙◌, inr, ℕ, List, sym, subst, arith}
use Rattle.sqval.proofs.page.FilePages.{size_some}
use Rattle.sqwal.specs.Header.{named_size}
use Rattle.sqwal.proofs.log.UniquenessOfView.{front_unique}
use Rattle.sqpast.specs.internal.Before.{IsStart, IsJudgedBefore, own_count}
use Rattle.sqpast.proofs.known.OpenedFiles.{above_by_div}
use Rattle.sqpast.proofs.known.BeforeCommits.{count_is, front_header, changed_is, unjudged}
use Rattle.sqpast.proofs.before.is_changed.Goals as goal

pub returns-in_default-clause-right : goal.returns-in_default-clause-right
returns-in_default-clause-right g c = λ rights most front took is.
    let w = g.F.FileBytes.bytes c.args.log.now in
    unjudged c.args.limits.bytes w front (g.F.FileBytes.bytes c.args.db.now) (λ one. absurd (omega (arith, (front_header w front one is).whole, c.in_default.ensures most w took)))

pub returns-then-committed-eq0-clause-right : goal.returns-then-committed-eq0-clause-right
returns-then-committed-eq0-clause-right g c = λ rights most front took is.
    let w = g.F.FileBytes.bytes c.args.log.now in
    let same : c.committed.result.frames ≡ front = front_unique (named_size w) w c.committed.result.frames front (c.committed.ensures most w took).front is in
    unjudged c.args.limits.bytes w front (g.F.FileBytes.bytes c.args.db.now) (λ one. absurd (omega (arith, same, c.if-committed-eq0.true)))

pub returns-then-count-most-clause-right : goal.returns-then-count-most-clause-right
returns-then-count-most-clause-right g c = λ rights most front took is.
    let w = g.F.FileBytes.bytes c.args.log.now in
    let file = g.F.FileBytes.bytes c.args.db.now in
    let size = c.in-Some.header.page_size in
    let named : named_size w ≡ size = (c.in-Some.ensures most w took).1.valid.named in
    let start = c.in_ok-start.ensures.right rights.0 in
    let count : c.count-count.result ≡ own_count size file = c.count-count.ensures ∙ count_is size file c.in_ok-start.start start in
    let by : c.from.result ≡ size = c.from.ensures ∙ c.get.ensures.value in
    let pos : 0 < c.from.result = let s = size_some c.get.result c.get.ensures.valid in omega (arith, s, c.from.ensures) in
    let above : c.bytes.result < c.count-count.result * c.from.result = above_by_div c.from.result c.count-count.result c.bytes.result pos (c.if-count-most.true) in
    let above' = subst (λ (k : ℕ). c.args.limits.bytes < own_count k file * k) (sym named)
    (subst (λ (k : ℕ). c.args.limits.bytes < own_count size file * k) by
    (subst (λ (k : ℕ). c.args.limits.bytes < k * c.from.result) count
    (subst (λ (k : ℕ). k < c.count-count.result * c.from.result) c.bytes.ensures.value above))) in
    unjudged c.args.limits.bytes w front file (λ one. inr above')

pub returns-clause-right : goal.returns-clause-right
returns-clause-right g c = λ rights most front took is.
    let bytes = g.F.FileBytes.bytes in
    let w = bytes c.args.log.now in
    let file = bytes c.args.db.now in
    let size = c.in-Some.header.page_size in
    let named : named_size w ≡ size = (c.in-Some.ensures most w took).1.valid.named in
    let kept = c.start_of.ensures.kept in
    let same : c.committed.result.frames ≡ front = front_unique (named_size w) w c.committed.result.frames front (c.committed.ensures most w took).front is in
    let one : 1 ≤ front = omega (arith, same, c.if-committed-eq0.false) in
    let start = subst (λ (f : List ℕ). IsStart size f c.in_ok-start.start) (sym kept.2) (c.in_ok-start.ensures.right rights.0) in
    let judged = c.in_ok-lost.ensures.right (kept.0 rights.0, rights.1) most front took named is one start in
    changed_is c.args.limits.bytes w front file one c.in_ok-lost.lost
    (subst (λ (k : ℕ). IsJudgedBefore k w front file c.in_ok-lost.lost) (sym named)
    (subst (λ (f : List ℕ). IsJudgedBefore size w front f c.in_ok-lost.lost) kept.2 judged))
