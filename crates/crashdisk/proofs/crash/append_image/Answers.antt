use Rattle.crashdisk.proofs.Facts.{Bool, List, ap, appended, arith, cond, file_by, file_of, image_is, is_ok, length, named_byte, naming_of, not, part_long, replicate, take, take_all, true, ℕ, ◌++◌, ◌+◌, ◌-◌, ◌/◌, ◌∙◌, ◌≡◌}
use Rattle.crashdisk.proofs.crash.append_image.Goals as goal

pub returns-clause-ok : goal.returns-clause-ok
returns-clause-ok c =
    let held = c.args.held.now in
    let old = c.args.out.now.items in
    let start = c.len-start.result in
    let len = c.length-len.result in
    let all = c.deref_mut.result.now in
    let part = c.put_each.new.out in
    let ok : is_ok c.resize.result ≡ true = c.is_err.ensures.negation ∙ ap (λ (b : Bool). not b) c.if-is_err.false in
    let from : length old ≡ start = omega (arith, c.len-start.ensures, c.args.out.now.ok) in
    let rest : ℕ = start + len - c.args.out.now.len in
    let less : rest ≡ len = omega (arith, c.len-start.ensures) in
    let is : all ≡ old ++ replicate len 0 =
    c.deref_mut.ensures.value
    ∙ c.resize.ensures.items
    ∙ ap (λ (b : Bool). cond b (take (start + len) old ++ replicate rest 0) old) ok
    ∙ ap (λ (l : List ℕ). l ++ replicate rest 0) (take_all (start + len) old (omega arith))
    ∙ ap (λ (m : ℕ). old ++ replicate m 0) less in
    let long : length part ≡ len = c.put_each.auto.out ∙ part_long all old start len from is in
    let end : c.resize.new.self.len ≡ start + len = c.resize.ensures.len ∙ ap (λ (b : Bool). cond b (start + len) c.args.out.now.len) ok in
    appended old all c.resize.new.self.items part start len from is long c.resize.new.self.len end
    ∙ ap (λ (l : List ℕ). old ++ l)
    (image_is c.args.sector c.args.tears (file_of c.args.sector held) (naming_of c.args.choice.now) part (long ∙ c.length-len.ensures) (λ i lt. c.put_each.ensures i (omega (arith, c.put_each.auto.out)) ∙ ap (λ (xs : List (List (List ℕ))). named_byte c.args.sector c.args.tears (file_by c.args.sector xs 0 0 0) (naming_of c.args.choice.now) (i / c.args.sector) i) c.deref.ensures.value))
