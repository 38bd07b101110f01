use Rattle.std.proofs.Common.{◌≡◌, ◌≢◌, ℕ, ◌∷◌, [], slice_index, rules}
use Rattle.cli_row_text.specs.Lines.{doubled}
use Rattle.cli_row_text.proofs.RunsWritten.{written_on, written_end}
use Rattle.cli_row_text.proofs.value.write_all_doubled.Goals as goal

not_mark : (mark b : ℕ) → b ≢ mark → doubled mark b ≡ b ∷ []
not_mark mark b other = search rules

pub returns-in_default : goal.returns-in_default
returns-in_default g c =
    let old = g.W.Write.contents c.args.out.now in
    let now = g.W.Write.contents c.marks.out in
    let new = g.W.Write.contents c.write_all.new.self in
    written_end (doubled c.args.mark) c.args.bytes.now c.marks.rest.now c.split_at.result.0.now c.split_at.result.1.now old now new c.before_mark.result
    c.before_mark.ensures.within (λ k below. not_mark c.args.mark (slice_index c.marks.rest.now k) (c.before_mark.ensures.plain k below)) c.split_at.ensures.front c.split_at.ensures.back c.in_default.ensures.cases c.in_ok-write_all.ensures.bytes c.marks.invariant

pub marks-preserved : goal.marks-preserved
marks-preserved g c =
    let old = g.W.Write.contents c.args.out.now in
    let now = g.W.Write.contents c.marks.out in
    let mid = g.W.Write.contents c.write_all.new.self in
    let new = g.W.Write.contents c.write_doubled.new.out in
    written_on (doubled c.args.mark) c.args.bytes.now c.marks.rest.now c.split_at.result.0.now c.split_at.result.1.now c.in-Some.byte.now c.in-Some.others.now old now mid new c.before_mark.result
    c.before_mark.ensures.within (λ k below. not_mark c.args.mark (slice_index c.marks.rest.now k) (c.before_mark.ensures.plain k below)) c.split_at.ensures.front c.split_at.ensures.back c.in-Some.ensures.cases.0 c.in_ok-write_all.ensures.bytes c.in_ok-write_doubled.ensures c.marks.invariant
