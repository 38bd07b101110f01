use Rattle.std.proofs.Common.{◌≡◌, ℕ, List, [], ◌∷◌, ◌++◌, ◌%◌, length, refl, ◌∙◌, ap, subst, arith}
use Rattle.std.specs.List.{flat_map}
use Rattle.std.proofs.lemmas.List.{take_at, take_all, length-take-le}
use Rattle.byteorder.specs.Endian.{big_bytes}
use Rattle.sqwal.specs.Sums.{GoesOn}
use Rattle.sqwal.proofs.log.WrittenHeadersAndFrames.{page_pairs, put_two, goes_on_append}
use Rattle.sqwal.proofs.frame.frame_head.Goals as goal

pub add-after-requires : goal.add-after-requires
add-after-requires c = ap (λ n. n % 8) (length-take-le c.get.result c.args.bytes.now (omega arith)) ∙ page_pairs c.get.result c.get.ensures.valid

pub returns : goal.returns
returns c =
    let front : List ℕ = c.put_words.new.out in
    let first : List ℕ = flat_map (big_bytes 4) (c.args.page ∷ c.args.size ∷ []) in
    let content : List ℕ = c.args.bytes.now in
    let is : front ≡ first = c.put_words.ensures.bytes in
    let len : length front ≡ 8 = ap length is in
    let over : GoesOn c.args.header.now.order first c.args.before c.add.result = subst (λ (x : List ℕ). GoesOn c.args.header.now.order x c.args.before c.add.result) (take_at front _ 8 len ∙ is) c.add.ensures in
    let page : GoesOn c.args.header.now.order content c.add.result c.add-after.result = subst (λ (x : List ℕ). GoesOn c.args.header.now.order x c.add.result c.add-after.result) (take_all c.get.result content (omega arith)) c.add-after.ensures in
    record {
      sum = goes_on_append c.args.header.now.order first content c.args.before c.add.result c.add-after.result refl over page;
      bytes = put_two front _ c.put_words-2.new.out 8 16 len refl ∙ ap (λ (x : List ℕ). x ++ c.put_words-2.new.out) is ∙ ap (λ (x : List ℕ). first ++ x) c.put_words-2.ensures.bytes;
    }
