use Rattle.std.proofs.Common.{◌≡◌, ℕ, refl, sym, ◌∙◌, ap, subst}
use Rattle.sqval.specs.PageSize.{IsPageSize}
use Rattle.sqlocks.specs.Index.{named_size, low_half, low_word}
use Rattle.sqlocks.proofs.index.index_front.Goals as goal

pub returns : goal.returns
returns c =
    let b = c.args.bytes.now in
    let named : c.named_size.result ≡ named_size (low_half b 14) (low_word b 16)
    = c.named_size.ensures ∙ ap (λ n. named_size n c.low_word-frames.result) c.low_half.ensures ∙ ap (named_size (low_half b 14)) c.low_word-frames.ensures in
    let P : ℕ → Type 0 = λ n. IsPageSize n in record {
      valid = record {
        twice = c.if-not-stands_twice.ensures.0 refl;
        version = sym c.low_word.ensures ∙ c.if-low_word-ne-VERSION.false;
        begun = c.if-bytes-eq0.false;
        sums = c.if-not-has_right_sums.ensures.0 refl;
        is_size = subst P named (c.in_ok-page_size.ensures.valid.0 refl);
      };
      page_size = c.in_ok-page_size.ensures.value ∙ named;
      frames = c.low_word-frames.ensures;
      salts = (c.high_word.ensures, c.high_word-2.ensures);
      sum = (c.low_word-2.ensures, c.low_word-3.ensures);
      copied = c.low_word-4.ensures;
      attempted = c.low_word-5.ensures;
    }
