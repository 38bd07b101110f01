use Rattle.std.proofs.Common.{List, [], ℕ}
use Rattle.cli_words.specs.declared.requests.Style.TheVariants.{Json}
use Rattle.cli_text.specs.declared.header.Field.{Field}
use Rattle.cli_text.specs.Facts.{between, number_text}
use Rattle.cli_text.proofs.WrittenTexts.{appends_part}
use Rattle.cli_text.proofs.NumberFacts.{number_is}
use Rattle.cli_text.proofs.header.write_members.Goals as goal

-- what stands for a field behind the last
missing : Field
missing = record { 0 = record { ref_ptr = (0, 0); now = [] }; 1 = 0 }

pub loop-i-preserved : goal.loop-i-preserved
unfolding missing
loop-i-preserved g c =
    let text : Field → List ℕ = λ f. number_text Json f.0.now f.1 in
    let n = c.number.ensures in
    appends_part (g.W.Write.contents c.args.out.now) (g.W.Write.contents c.loop-i.out) (g.W.Write.contents c.write_fact.new.out)
    (between Json) text c.args.fields.now c.loop-i.i missing c.loop-i-test.true c.loop-i.invariant (rw (number_is _ _ _ n) at c.in_ok-write_fact.ensures)
