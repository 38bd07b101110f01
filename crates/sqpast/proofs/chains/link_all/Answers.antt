use Rattle.std.proofs.Common.{◌≡◌, ◌+◌, ◌-◌, ◌≤◌, ◌≢◌, ℕ, refl, sym, ◌∙◌, ap, subst, arith}
use Rattle.sqwal.specs.Frames.{page_of, IsValidFrame}
use Rattle.sqpast.specs.internal.Chains.{AreChainsFrom, AreChains, IsLeastCommit}
use Rattle.sqpast.proofs.chains.link_all.Goals as goal
use Rattle.sqpast.proofs.chains.link_all.Goals.{else-loop-after-test, then-loop-after-test+in_default}

pub loop-after-preserved : goal.loop-after-preserved
loop-after-preserved c = record {
  pages = c.link.ensures.lengths.0 ∙ c.loop-after.invariant.pages;
  frames = c.link.ensures.lengths.1 ∙ c.loop-after.invariant.frames;
  chains = λ most w took named valid.
      let front = c.args.front.frames in
      let after = c.loop-after.after in
      let found = c.in-Some.ensures most w took in
      let names : c.in-Some.entry.page ≡ page_of c.args.page_size w (front - after) = found.1 ∙ ap (λ n. page_of n w (front - after)) named in
      let ne = (valid.each (front - after) (omega (arith, c.loop-after-test.true)) (omega arith)).page in
      let some : 1 ≤ c.in-Some.entry.page = let nz : c.in-Some.entry.page ≢ 0 = λ z. ne (sym found.1 ∙ z) in omega arith in
      let e : front - after - 1 ≡ front - (after + 1) = omega arith in
      subst (λ (n : ℕ). AreChainsFrom c.args.page_size w front c.args.pages n c.link.new.first.items c.link.new.next.items) e
      (c.link.ensures.chains c.args.page_size w front c.args.pages names some (c.loop-after.invariant.chains most w took named valid));
}

pub returns-clause-chains : goal.returns-clause-chains
returns-clause-chains c = (
  refl,
  c.loop-after.invariant.pages,
  λ most w took named valid commit is.
      let front = c.args.front.frames in
      let size = c.args.page_size in
      let all : front - c.loop-after.after ≡ 0 → AreChains w front c.args.pages (record { page_size = size; least = c.least_commit.result; first = c.loop-after.first; next = c.loop-after.next }) = λ e. record {
        valid = subst (λ (n : ℕ). IsValidFrame n w front) named valid;
        chains = subst (λ (n : ℕ). AreChainsFrom size w front c.args.pages n c.loop-after.first.items c.loop-after.next.items) e (c.loop-after.invariant.chains most w took named valid);
        least = subst (λ (n : ℕ). IsLeastCommit n w front c.least_commit.result) named (c.least_commit.ensures most w took valid commit is);
        low = omega arith;
      } in
      elim c.loop-after-test.branch [
        | else-loop-after-test x ↦ all (omega (arith, x.loop-after-test.false))
        | then-loop-after-test+in_default x ↦ absurd (x.in_default.ensures most w took (record { first = omega (arith, x.loop-after-test.true); each = λ j one le. valid.each j one (omega arith) }))
      ],
)
