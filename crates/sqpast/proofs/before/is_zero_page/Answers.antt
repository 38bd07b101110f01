use Rattle.std.proofs.Common.{◌≡◌, ◌-◌, ◌*◌, ◌∙◌, length, ap}
use Rattle.sqpast.proofs.known.BytesInPieces.{zeros_to, zeros_from}
use Rattle.sqpast.proofs.before.is_zero_page.Goals as goal

pub returns-clause-read : goal.returns-clause-read
returns-clause-read g c = λ r.
    let size = c.args.page_size in
    let file = g.F.FileBytes.bytes c.args.db.now in
    let p = c.args.p in
    let page = c.read_at.new.out in
    let place : (p - 1) * c.from.result ≡ (p - 1) * size = ap (λ n. (p - 1) * n) (c.from.ensures ∙ c.get.ensures.value) in
    let is = c.in_ok-read_at.ensures.read r in (
      λ t. zeros_to size file p (length c.args.page.now) ((p - 1) * c.from.result) page c.requires.2 place is (c.is_zero.ensures.0 t),
      λ zeros. c.is_zero.ensures.1 (zeros_from size file p (length c.args.page.now) ((p - 1) * c.from.result) page c.requires.2 place is zeros),
    )
