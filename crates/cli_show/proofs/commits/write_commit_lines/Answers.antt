use Rattle.std.proofs.Common.{◌≡◌, ℕ, ◌+◌, ◌<◌, ◌≤◌, List, ◌∷◌, length, get_or, sym, ap, subst, ◌∙◌, add-one, arith}
use Rattle.std.specs.List.{enumerate_from, flat_map}
use Rattle.std.specs.Io.KnownBytes.{Appends}
use Rattle.std.proofs.lemmas.List.{take_all}
use Rattle.cli_text.specs.Logs.{spans}
use Rattle.cli_show.specs.Commits.{commit_text}
use Rattle.cli_show.proofs.WrittenCommits.{appends_numbered, get_or-zip_before, length-zip_before}
use Rattle.cli_show.proofs.commits.write_commit_lines.Goals as goal

pub loop-i-preserved : goal.loop-i-preserved
loop-i-preserved g c =
    let listed = c.args.listed.now in
    let commits = listed.commits.now in
    let i = c.loop-i.i in
    let mid = g.W.Write.contents c.loop-i.out in
    let new = g.W.Write.contents c.write_commit.new.out in
    let text : ℕ → ℕ × ℕ → List ℕ = λ n p. commit_text c.args.style listed.entries.now listed.known.now n p.0 p.1 in
    let frame = get_or commits i 0 in
    let none : ℕ × ℕ = (0, 0) in
    let pair : let p : ℕ × ℕ = (c.loop-i.before, frame) in p ≡ get_or (spans commits) i none =
    ap (λ (n : ℕ). let p : ℕ × ℕ = (n, frame) in p) c.loop-i.invariant.0 ∙ sym (get_or-zip_before 0 commits i none c.loop-i-test.true) in
    let here : Appends mid new (text (i + 1) (get_or (spans commits) i none)) =
    subst (λ (p : ℕ × ℕ). Appends mid new (text (i + 1) p)) pair c.in_ok-write_commit.ensures in
    let within : i < length (spans commits) = subst (λ (n : ℕ). i < n) (sym (length-zip_before 0 commits)) c.loop-i-test.true in (
      ap (λ (n : ℕ). get_or (0 ∷ commits) n 0) (sym (add-one i)),
      appends_numbered (g.W.Write.contents c.args.out.now) mid new text (spans commits) i none within c.loop-i.invariant.1 here,
    )

pub returns : goal.returns
returns g c =
    let listed = c.args.listed.now in
    let commits = listed.commits.now in
    let text : ℕ × (ℕ × ℕ) → List ℕ = λ e. commit_text c.args.style listed.entries.now listed.known.now e.0 e.1.0 e.1.1 in
    let over : length (spans commits) ≤ c.loop-i.i = omega (arith, length-zip_before 0 commits, c.loop-i-test.false) in
    subst (λ (l : List (ℕ × ℕ)). Appends (g.W.Write.contents c.args.out.now) (g.W.Write.contents c.loop-i.out) (flat_map text (enumerate_from 1 l)))
    (take_all c.loop-i.i (spans commits) over) c.loop-i.invariant.1
