use Rattle.std.proofs.Common.{◌≡◌, ◌∙◌, ℤ, Some, w64, to_z, of_z, subst}
use Rattle.std.specs.List.{filter}
use Rattle.std.proofs.lemmas.Int.{to_z-of_z}
use Rattle.sqindex.specs.Rules.{width}
use Rattle.sqindex.specs.internal.Held.{held_by}
use Rattle.sqindex.specs.internal.Spans.{up_to, number_in}
use Rattle.sqindex.proofs.entries.Entries.keep_to.Goals as goal

pub returns : goal.returns
returns c = λ key w.
    let number : to_z w64 (of_z w64 c.args.last) ≡ c.args.last = to_z-of_z w64 c.args.last c.ranges.last in
    let k = c.retain_to.ensures key w in
    let kept = subst (λ (r : ℤ). held_by c.retain_to.new.self ≡ filter (λ x. up_to (Some r) (number_in (width key) x)) (held_by c.args.self.now)) number k.0 in
    let s = c.in_ok-self.ensures in
    (s.0 ∙ kept, s.1 key k.1)
