use Rattle.std.proofs.Common.{◌≡◌, ◌↔◌, ℕ, ◌+◌, ◌-◌, List, [], ◌∷◌, ◌++◌, length, take, drop, refl, sym, ◌∙◌, ap, subst, length-drop, arith}
use Rattle.std.proofs.lemmas.List.{append-nil, drop_more, drop_all, take_all}
use Rattle.rig_missing.specs.Missing.{file_in, InRanges, IsOut, AreMissing}
use Rattle.rig_missing.specs.declared.change.Change.{Change}
use Rattle.rig_missing.specs.declared.missing.Missing.{Missing}
use Rattle.rig_missing.proofs.MissingCalls.{calls_more}
use Rattle.rig_missing.proofs.missing.missing_calls.Goals as goal

pub loop-j-preserved : goal.loop-j-preserved
loop-j-preserved c =
    let sector = c.args.size.bytes in
    let image = c.args.image.now in
    let changes = c.args.changes.now in
    let j = c.loop-j.j in
    let x = c.index-changes-j.result in
    let later = drop (j + 1) changes in
    let found = c.loop-j.found.items in
    let sectors = c.in_ok-sectors.sectors.items in
    let split : drop j changes ≡ x ∷ later = drop_more changes j x c.loop-j-test.true ∙ ap (λ (y : Change). y ∷ later) (sym c.index-changes-j.is) in
    let so_far = subst (λ (l : List Change). (rest : List Missing) → AreMissing sector image l rest → AreMissing sector image changes (found ++ rest)) split c.loop-j.invariant in
    let slice = take (length changes - j) (drop j changes) in
    let whole : slice ≡ drop j changes = take_all (length changes - j) (drop j changes) (omega (arith, length-drop j changes)) in
    let out = subst (λ (l : List Change). (k : ℕ) → InRanges sectors k ↔ IsOut sector (file_in x.subject image) x l k) (whole ∙ split)
    (subst (λ (b : List ℕ). (k : ℕ) → InRanges sectors k ↔ IsOut sector b x slice k) c.file_in-bytes.ensures c.in_ok-sectors.ensures) in
    calls_more sector image changes later x sectors found c.tell.new.found.items so_far out c.in_ok-tell.ensures

pub returns : goal.returns
returns c =
    let sector = c.args.size.bytes in
    let image = c.args.image.now in
    let changes = c.args.changes.now in
    let found = c.loop-j.found.items in
    let end : drop c.loop-j.j changes ≡ [] = drop_all c.loop-j.j changes c.loop-j-test.false in
    subst (λ (l : List Missing). AreMissing sector image changes l) (append-nil found)
    (c.loop-j.invariant [] (subst (λ (l : List Change). AreMissing sector image l []) (sym end) refl))
