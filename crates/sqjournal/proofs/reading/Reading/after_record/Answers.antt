use Rattle.std.proofs.Common.{rules, ◌∙◌, ◌≡◌, ◌≢◌, ◌+◌, ◌-◌, length, take, drop, sym, ap, arith}
use Rattle.sqval.specs.Bytes.{part, word}
use Rattle.sqjournal.specs.NonceSum.{nonce_sum}
use Rattle.sqjournal.proofs.read.StepsOfReading.{less, less_all, less_one}
use Rattle.sqjournal.proofs.read.NextStateOfReading.{page_zero, wrong_sum, record_goes}
use Rattle.sqjournal.proofs.reading.Reading.after_record.Goals as goal
use Rattle.sqjournal.proofs.reading.Reading.after_record.Goals.{then-left-eq4294967295, else-left-eq4294967295}

pub returns-then-page-eq0-clause-stands : goal.returns-then-page-eq0-clause-stands
returns-then-page-eq0-clause-stands c =
    let zero_page : c.word_at-page.result ≡ 0 = search rules in
    λ b es s is. page_zero b c.args.bytes.now c.args.self c.over.result es c.args.nonce c.args.left s is c.requires.next.0 (sym c.word_at-page.ensures ∙ zero_page)
    c.over.ensures.header c.over.ensures.at c.over.ensures.next

pub returns-then-page_sum-word_at-clause-stands : goal.returns-then-page_sum-word_at-clause-stands
returns-then-page_sum-word_at-clause-stands c =
    let page = c.args.self.header.page_size in
    let bytes = c.args.bytes.now in
    let named : c.word_at-page.result ≢ 0 = search rules in
    let place : length bytes - 4 ≡ page + 4 = omega (arith, c.requires.whole.0) in
    let len : length bytes - 4 - 4 ≡ page = omega (arith, c.requires.whole.0) in
    let read : c.word_at.result ≡ word bytes (page + 4) = c.word_at.ensures ∙ ap (word bytes) place in
    let summed : c.page_sum.result ≡ nonce_sum c.args.nonce (part bytes 4 page) = c.page_sum.ensures ∙ ap (λ n. nonce_sum c.args.nonce (take n (drop 4 bytes))) len in
    let wrong : c.page_sum.result ≢ c.word_at.result = search rules in
    λ b es s is. wrong_sum b bytes c.args.self c.over-then-page_sum-word_at.result es c.args.nonce c.args.left s is c.requires.next.0
    (λ e. named (c.word_at-page.ensures ∙ e)) (λ e. wrong (summed ∙ sym e ∙ sym read))
    c.over-then-page_sum-word_at.ensures.header c.over-then-page_sum-word_at.ensures.at c.over-then-page_sum-word_at.ensures.next

pub returns-clause-stands : goal.returns-clause-stands
returns-clause-stands c =
    let page = c.args.self.header.page_size in
    let bytes = c.args.bytes.now in
    let named : c.word_at-page.result ≢ 0 = search rules in
    let place : length bytes - 4 ≡ page + 4 = omega (arith, c.requires.whole.0) in
    let len : length bytes - 4 - 4 ≡ page = omega (arith, c.requires.whole.0) in
    let read : c.word_at.result ≡ word bytes (page + 4) = c.word_at.ensures ∙ ap (word bytes) place in
    let summed : c.page_sum.result ≡ nonce_sum c.args.nonce (part bytes 4 page) = c.page_sum.ensures ∙ ap (λ n. nonce_sum c.args.nonce (take n (drop 4 bytes))) len in
    let right : c.page_sum.result ≡ c.word_at.result = search rules in
    let then : c.if-left-eq4294967295.left ≡ less c.args.left = elim c.if-left-eq4294967295.branch [
      | then-left-eq4294967295 w ↦ w.left-is ∙ sym (less_all c.args.left (search rules))
      | else-left-eq4294967295 w ↦ w.left-is ∙ w.saturating_sub-left.ensures ∙ sym (less_one c.args.left (search rules))
    ] in
    let ends : c.args.self.at + length bytes ≡ c.args.self.at + (page + 8) = omega (arith, c.requires.whole.0) in
    λ b es s is. record_goes b bytes c.args.self c.goes_on.result es c.args.nonce c.args.left c.word_at-page.result c.if-left-eq4294967295.left (c.args.self.at + length bytes) s is c.requires.next.0
    c.ranges.left.fits c.word_at-page.ensures named (sym read ∙ sym right ∙ summed) then c.goes_on.ensures.header ends c.goes_on.ensures.full c.goes_on.ensures.more
