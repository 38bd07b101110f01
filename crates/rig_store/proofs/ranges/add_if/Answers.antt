use Rattle.std.proofs.Common.{◌≡◌, inl, inr, false, true, sym, ◌∙◌}
use Rattle.std.proofs.lemmas.Result.{IfOk-weaker}
use Rattle.rig_store.proofs.ranges.add_if.Goals as goal

pub returns-then-not-is : goal.returns-then-not-is
returns-then-not-is c = λ j. (λ h. inl h, λ h. elim h [ inl a ↦ a | inr b ↦ let no : false ≡ true = sym c.if-not-is.true ∙ b.0 in absurd (cc no) ])

pub returns : goal.returns
returns c =
    IfOk-weaker c.add.result _ _
    (λ done is. λ j. (
      λ h. elim ((is j).0 h) [ inl a ↦ inl a | inr e ↦ inr (c.if-not-is.false, e) ],
      λ h. elim h [ inl a ↦ (is j).1 (inl a) | inr b ↦ (is j).1 (inr b.1) ],
    )) c.add.ensures
