use Rattle.std.proofs.Common.{◌≡◌, ℕ, List, [], ◌++◌, length, refl, ◌∙◌, ap, subst, arith}
use Rattle.std.proofs.lemmas.List.{take_at, length-take-le, length-drop}
use Rattle.sqwal.specs.Sums.{IsSumOf}
use Rattle.sqwal.proofs.log.WrittenHeadersAndFrames.{put_two, header_made}
use Rattle.sqwal.proofs.header.WalHeader.write.Goals as goal

pub returns : goal.returns
returns c =
    let front : List ℕ = c.put_words.new.out in
    let len : length front ≡ 24 = c.put_words.auto.out ∙ length-take-le 24 c.args.out.now (omega arith) in
    header_made c.args.self.now c.magic.result c.get.result c.add-sum.result front _ c.put_words.ensures.bytes
    (put_two front _ c.put_words-2.new.out 24 8 len (omega (arith, length-drop 24 c.args.out.now)) ∙ ap (λ (x : List ℕ). front ++ x) c.put_words-2.ensures.bytes)
    c.magic.ensures c.get.ensures.value c.get.ensures.valid c.put_words.ensures.fit c.put_words-2.ensures.fit
    (subst (λ (x : List ℕ). IsSumOf c.args.self.now.order x c.add-sum.result) (take_at front _ 24 len) (c.add-sum.ensures [] refl (c.zero.ensures c.args.self.now.order)))
