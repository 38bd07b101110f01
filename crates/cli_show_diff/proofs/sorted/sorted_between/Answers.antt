use Rattle.std.proofs.Common.{◌≡◌, ◌≢◌, ◌⊎◌, ◌∙◌, ℕ, List, Option, None, inl, inr, subst, sym}
use Rattle.sqdeep.specs.declared.text.Encoding.{Encoding}
use Rattle.sqdeep.specs.Records.{encoding_of}
use Rattle.sqkeydiff.specs.declared.key.KeyOrder.{KeyOrder}
use Rattle.cli_show_diff.specs.Sorted.{IsSortedBy, format_of}
use Rattle.cli_show_diff.proofs.sorted.sorted_between.Goals as goal

-- the same by equal numbers
as_named : (text : List ℕ) (key : Option KeyOrder) (f f' g g' : ℕ) (x y : Encoding) → f ≡ f' → g ≡ g' → x ≡ y
    → ((f ≡ g) × IsSortedBy text f x key) ⊎ ((f ≢ g) × (key ≡ None)) → ((f' ≡ g') × IsSortedBy text f' y key) ⊎ ((f' ≢ g') × (key ≡ None))
as_named text key f f' g g' x y ef eg ex (inl h) =
    inl (sym ef ∙ h.0 ∙ eg, subst (λ (e : Encoding). IsSortedBy text f' e key) ex (subst (λ (n : ℕ). IsSortedBy text n x key) ef h.1))
as_named text key f f' g g' x y ef eg ex (inr h) = inr (λ e. h.0 (ef ∙ e ∙ sym eg), h.1)

pub returns-in-Ok-sorted_by_both-clause-ok : goal.returns-in-Ok-sorted_by_both-clause-ok
returns-in-Ok-sorted_by_both-clause-ok g c = λ right too.
    let d = g.S.PageSource.pages c.args.old.now in
    let e = g.T.PageSource.pages c.args.new.now in
    let was = c.in-Ok.numbers in
    let is = c.in-Ok-numbers_of.numbers in
    let n = c.in-Ok.ensures.ok right in
    let m = c.in-Ok-numbers_of.ensures.ok too in
    (as_named c.args.text.now c.in-Ok-sorted_by_both.key was.format (format_of d) is.format (format_of e) was.encoding (encoding_of d) n.0 m.0 n.1 c.in-Ok-sorted_by_both.ensures.ok, n.1)
