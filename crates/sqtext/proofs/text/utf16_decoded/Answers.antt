use Rattle.std.proofs.Common.{◌≡◌, ℕ, List, ◌++◌, length, inl, inr, subst, sym, arith}
use Rattle.std.specs.Char.{encode_utf8}
use Rattle.std.proofs.lemmas.Grind.{common_steps}
use Rattle.std.proofs.lemmas.Result.{IfOk-weaker}
use Rattle.sqtext.specs.internal.Utf16.{IsUtf16ReadAs}
use Rattle.sqtext.proofs.TextsRead.{IsReadTo, read_all, read_more, read_none, read_off}
use Rattle.sqtext.proofs.text.utf16_decoded.Goals as goal

pub chars-init : goal.chars-init
chars-init c = subst (λ (done : List ℕ). IsReadTo c.args.big c.args.bytes.now c.args.bytes.now done) (sym c.new-text.ensures.items) (read_none c.args.big c.args.bytes.now)

pub returns-in-None : goal.returns-in-None
returns-in-None c =
    let off = read_off c.args.big c.args.bytes.now c.chars.rest.now c.chars.text.items (λ none. grind (arith, common_steps, none)) c.in-None.ensures c.chars.invariant in
    IfOk-weaker c.from_slice.result (λ v. v.items ≡ c.args.bytes.now) (λ v. IsUtf16ReadAs c.args.big c.args.bytes.now v.items) (λ v same. inr (off, same)) c.from_slice.ensures.items

pub chars-preserved : goal.chars-preserved
chars-preserved c =
    let e = c.in-Some.ensures in
    let char = c.in-Some.found.0 in
    subst (λ (done : List ℕ). IsReadTo c.args.big c.args.bytes.now c.in-Some.found.1.now done) (sym c.in_ok-add.ensures)
    (read_more c.args.big c.args.bytes.now c.chars.rest.now c.in-Some.found.1.now c.chars.text.items char e.0 e.1 c.chars.invariant)

pub returns : goal.returns
returns c =
    let none : length c.chars.rest.now ≡ 0 = grind (arith, common_steps) in
    inl (read_all c.args.big c.args.bytes.now c.chars.rest.now c.chars.text.items none c.chars.invariant)
