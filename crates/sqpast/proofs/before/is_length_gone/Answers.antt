use Rattle.std.proofs.Common.{◌≡◌, ◌≤◌, ℕ, subst, refl, arith}
use Rattle.sqwal.specs.Header.{named_size}
use Rattle.sqwal.proofs.log.UniquenessOfView.{front_unique}
use Rattle.sqpast.specs.internal.Chains.{IsLeastCommit}
use Rattle.sqpast.proofs.known.KnownViews.{front_is}
use Rattle.sqpast.proofs.known.BeforeCommits.{short_length, zeros_length, map_ok}
use Rattle.sqpast.proofs.before.is_length_gone.Goals as goal

pub returns-then-from-start-clause-right : goal.returns-then-from-start-clause-right
returns-then-from-start-clause-right g c = λ r most front w took named is one start.
    let committed = c.committed.ensures most w took in
    let same : c.committed.result.frames ≡ front = front_unique (named_size w) w c.committed.result.frames front committed.front is in
    let some : 1 ≤ c.committed.result.frames = omega (arith, same, one) in
    let frames = front_is (named_size w) w c.committed.result.frames some committed.front in
    let least = subst (λ (n : ℕ). IsLeastCommit n w front c.least_commit.result) named
    (subst (λ (k : ℕ). IsLeastCommit (named_size w) w k c.least_commit.result) same (c.least_commit.ensures most w took frames.0 frames.1 (committed.some some))) in
    let gone = short_length c.args.page_size w front (g.F.FileBytes.bytes c.args.db.now) one c.args.start start c.if-start-ne0.false c.least_commit.result least (omega (arith, c.from.ensures, c.if-from-start.true)) in
    (λ _. gone, λ _. refl)

pub returns-clause-right : goal.returns-clause-right
returns-clause-right g c = λ r.
    map_ok c.ends_in_zeros.result _ _ (λ zeros judged most front w took named is one start.
    let committed = c.committed.ensures most w took in
    let same : c.committed.result.frames ≡ front = front_unique (named_size w) w c.committed.result.frames front committed.front is in
    let some : 1 ≤ c.committed.result.frames = omega (arith, same, one) in
    let frames = front_is (named_size w) w c.committed.result.frames some committed.front in
    let least = subst (λ (n : ℕ). IsLeastCommit n w front c.least_commit.result) named
    (subst (λ (k : ℕ). IsLeastCommit (named_size w) w k c.least_commit.result) same (c.least_commit.ensures most w took frames.0 frames.1 (committed.some some))) in
    zeros_length c.args.page_size w front (g.F.FileBytes.bytes c.args.db.now) one c.args.start start c.if-start-ne0.false c.least_commit.result least (omega (arith, c.from.ensures, c.if-from-start.false)) zeros judged)
    (c.ends_in_zeros.ensures.right r)
