use Rattle.std.proofs.Common.{◌≡◌, inl, inr, ◌∙◌, ℕ, List, IsTrue, length, subst, ap, refl, rules, arith}
use Rattle.sqval.specs.Varint.{Begins}
use Rattle.sqval.specs.Serial.{body_size, IsInternal}
use Rattle.sqdeep.specs.internal.Columns.{AreFormedColumns}
use Rattle.sqdeep.proofs.FormedColumns.{formed_more, shorter}
use Rattle.sqdeep.proofs.records.are_formed.Goals as goal

outer : (serial : ℕ) → IsInternal serial → (serial ≡ 10 → ⊥) → (serial ≡ 11 → ⊥) → ⊥
outer serial inner ten eleven = elim inner [ inl e ↦ ten e | inr e ↦ eleven e ]

pub split_at-requires-in-columns : goal.split_at-requires-in-columns
split_at-requires-in-columns c = ((c.in-Some.ensures.found _ _).0 refl).within

pub columns-smaller : goal.columns-smaller
columns-smaller c =
    let begins : Begins c.in-Some.serial c.in-Some.taken c.columns.rest.now = (c.in-Some.ensures.found _ _).0 refl in
    let less = shorter c.columns.rest.now c.in-Some.serial c.in-Some.taken begins in
    omega (arith, less, ap length c.split_at-in-columns.ensures.back)

pub columns-preserved : goal.columns-preserved
columns-preserved c = λ formed.
    let begins : Begins c.in-Some.serial c.in-Some.taken c.columns.rest.now = (c.in-Some.ensures.found _ _).0 refl in
    let yes : IsTrue c.is_formed_body.result = search rules in
    let size : length c.split_at.result.0.now ≡ body_size c.in-Some.serial = c.split_at.ensures.front_len ∙ c.body_size_of-size.ensures in
    c.columns.invariant (formed_more c.args.encoding c.in-Some.serial c.in-Some.taken c.columns.rest.now c.columns.behind.now c.split_at.result.0.now c.split_at.result.1.now
    begins (λ inner. outer c.in-Some.serial inner c.if-serial-eq10.false c.if-serial-eq11.false) c.split_at.ensures.by_index.0 size (c.is_formed_body.ensures yes)
    (subst (λ (l : List ℕ). AreFormedColumns c.args.encoding l c.split_at.result.1.now) c.split_at-in-columns.ensures.back formed))
