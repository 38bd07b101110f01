use Rattle.std.proofs.Common.{◌≡◌, ◌<◌, ◌-◌, ℕ, true, length, get_or, refl, sym, ◌∙◌, subst, arith}
use Rattle.std.proofs.lemmas.Grind.{get_or_default_zero}
use Rattle.sqpast.specs.internal.Chains.{IsUntil, IsNextFrame}
use Rattle.sqpast.proofs.known.JudgedPages.{until_gone, until_never, tail_before}
use Rattle.sqpast.proofs.gone.judge_page.Goals as goal
use Rattle.sqpast.proofs.gone.judge_page.Goals.{then-is_gone, else-is_gone}

pub returns-clause-read : goal.returns-clause-read
returns-clause-read g c = λ r front are within before.
    let size = c.args.chains.now.page_size in
    let w = g.F.FileBytes.bytes c.args.log.now in
    let file = g.F.FileBytes.bytes c.args.db.now in
    let p = c.args.p in
    let least = c.args.chains.now.least in
    let like_is = c.in_ok-like.ensures.read r front are in
    let first = c.args.chains.now.first.items in
    let lt : p - 1 < length first = omega (arith, c.requires.0, c.requires.1) in
    let at : c.index-first.result.now ≡ get_or first (p - 1) 0 = c.index-first.ensures ∙ get_or_default_zero first (p - 1) c.index-first.result.now lt in
    let next = subst (λ (n : ℕ). IsNextFrame size w front 0 p n) (sym at) (are.chains.each p c.requires.0 c.requires.1) in
    record {
      until = elim c.if-is_gone.branch [
        | then-is_gone x ↦ subst (λ (n : ℕ). IsUntil size w front file p n) (sym x.until-is)
            (until_gone size w front file are.low least are.least p c.requires.0 within c.args.tail before c.may_be_cut-tail.result c.may_be_cut-tail.ensures c.in_ok-like.like like_is
            c.index-first.result.now x.until_named-until.result next x.until_named-until.ensures (c.is_gone.ensures.0 x.if-is_gone.true))
        | else-is_gone x ↦ subst (λ (n : ℕ). IsUntil size w front file p n) (sym x.until-is)
            (until_never size w front file are.low least are.least p c.requires.0 within c.args.tail before c.may_be_cut-tail.result c.may_be_cut-tail.ensures c.in_ok-like.like like_is
            0 (λ why. let yes : c.is_gone.result ≡ true = c.is_gone.ensures.1 why in let no = x.if-is_gone.false in cc) refl)
      ];
      tail = tail_before size w front file are.low least are.least p c.requires.0 within c.args.tail before c.may_be_cut-tail.result c.may_be_cut-tail.ensures c.in_ok-like.like like_is c.goes_on.result c.goes_on.ensures;
    }
