use Rattle.std.proofs.Common.{◌≡◌, ◌≤◌, ◌<◌, ℕ, max, length, sym, ◌∙◌, ap, subst, arith}
use Rattle.std.proofs.lemmas.Grind.{common_steps}
use Rattle.sqval.specs.Database.{file_pages}
use Rattle.sqval.proofs.page.FilePages.{size_some}
use Rattle.sqwal.specs.Header.{named_size}
use Rattle.sqwal.proofs.log.UniquenessOfView.{front_unique}
use Rattle.history.specs.Table.{AreUntil}
use Rattle.sqpast.specs.internal.Chains.{AreChains}
use Rattle.sqpast.proofs.known.KnownViews.{file_count, front_is}
use Rattle.sqpast.proofs.at.read_table.Goals as goal

pub returns-in_default-clause-right : goal.returns-in_default-clause-right
returns-in_default-clause-right g c = λ r most front took is one.
    let w = g.F.FileBytes.bytes c.args.log.now in
    let valid = (front_is (named_size w) w front one is).0 in
    absurd (omega (arith, c.in_default.ensures most w took, (valid.each front one (omega arith)).header.whole))

pub returns-clause-right : goal.returns-clause-right
returns-clause-right g c = λ r most front took is one.
    let w = g.F.FileBytes.bytes c.args.log.now in
    let file = g.F.FileBytes.bytes c.args.db.now in
    let size = named_size w in
    let header = (c.in-Some.ensures most w took).1 in
    let named : size ≡ c.in-Some.header.page_size = header.valid.named in
    let committed = c.committed.ensures most w took in
    let same : c.committed.result.frames ≡ front = front_unique size w c.committed.result.frames front committed.front is in
    let some : 1 ≤ c.committed.result.frames = omega arith in
    let frames = front_is size w c.committed.result.frames some committed.front in
    let chains = c.in_ok-chains.ensures.chains.2 most w took named frames.0 frames.1 (committed.some some) in
    let by : c.in_ok-chains.chains.page_size ≡ size = c.in_ok-chains.ensures.chains.0 ∙ sym named in
    let total : length c.in_ok-chains.chains.first.items ≡ c.max-total.result = c.in_ok-chains.ensures.chains.1 in
    let pos : 0 < c.from.result = let s = size_some c.get.result c.get.ensures.valid in omega (arith, c.from.ensures) in
    let counted : c.div_ceil-long.result ≡ file_pages c.from.result file = file_count c.from.result c.div_ceil-long.result c.len.result file pos (c.len.ensures.count r.0) c.div_ceil-long.ensures in
    let as_chains : c.from.result ≡ c.in_ok-chains.chains.page_size = c.from.ensures ∙ c.get.ensures.value ∙ sym c.in_ok-chains.ensures.chains.0 in
    let list = c.in_ok-list.ensures.right r c.committed.result.frames
    (subst (λ (n : ℕ). AreChains w c.committed.result.frames n c.in_ok-chains.chains) (sym total) chains)
    (counted ∙ ap (λ n. file_pages n file) as_chains) in
    record {
      until = c.in_ok-list.list.items;
      are = subst (λ (n : ℕ). AreUntil n w front file c.in_ok-list.list.items) by (subst (λ (n : ℕ). AreUntil c.in_ok-chains.chains.page_size w n file c.in_ok-list.list.items) same list.1);
      greatest = c.new-2.ensures;
      bytes = c.len.ensures.bytes r.0;
      long = let m : c.max-total.result ≡ max c.args.pages c.div_ceil-long.result = grind (arith, common_steps) in omega (arith, c.new-2.ensures.long, list.0);
    }
