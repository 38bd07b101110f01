use Rattle.std.proofs.Common.{◌≡◌, ◌-◌, ◌*◌, ℕ, List, length, sym, ◌∙◌, ap, subst}
use Rattle.sqpast.specs.internal.Chains.{NamesAny}
use Rattle.sqpast.proofs.known.BytesInPieces.{page_read, zeros_to, zeros_from}
use Rattle.sqpast.proofs.gone.likeness.Goals as goal

pub returns-clause-read : goal.returns-clause-read
returns-clause-read g c = λ r front are.
    let size = c.args.chains.now.page_size in
    let w = g.F.FileBytes.bytes c.args.log.now in
    let file = g.F.FileBytes.bytes c.args.db.now in
    let p = c.args.p in
    let page = c.read_at.new.out in
    let place : (p - 1) * c.from.result ≡ (p - 1) * size = ap (λ n. (p - 1) * n) (c.from.ensures ∙ c.get.ensures.value) in
    let is = c.in_ok-read_at.ensures.read r.0 in
    let same = page_read size file p (length c.args.page.now) ((p - 1) * c.from.result) page c.requires.3 place is in
    let copied = c.in_ok-is_copied.ensures.read r.1 front are in
    record {
      zero = (
        λ yes. zeros_to size file p (length c.args.page.now) ((p - 1) * c.from.result) page c.requires.3 place is (c.is_zero.ensures.0 yes),
        λ zeros. c.is_zero.ensures.1 (zeros_from size file p (length c.args.page.now) ((p - 1) * c.from.result) page c.requires.3 place is zeros),
      );
      copied = (
        λ yes. subst (λ (b : List ℕ). NamesAny size w front p b) same (copied.0 yes),
        λ names. copied.1 (subst (λ (b : List ℕ). NamesAny size w front p b) (sym same) names),
      );
    }
