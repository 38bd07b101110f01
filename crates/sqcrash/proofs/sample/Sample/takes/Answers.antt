use Rattle.std.proofs.Common.{◌≡◌, inr, ℕ, suc, ◌-◌, Bool, true, false, cond, nat_eq, List, refl, sym, ◌∙◌, ap, subst, arith}
use Rattle.std.specs.Prelude.{not}
use Rattle.std.specs.Bool.{OnFalse}
use Rattle.std.specs.HashSet.{contains, IsUnchanged}
use Rattle.std.specs.List.{list_any}
use Rattle.rig_images.specs.Keys.{key_of}
use Rattle.sqcrash.proofs.sample.Sample.takes.Goals as goal

not_false : (b : Bool) → false ≡ not b → b ≡ true
not_false true e = refl
not_false false e = absurd (cc e)

not_true : (b : Bool) → true ≡ not b → b ≡ false
not_true true e = absurd (cc e)
not_true false e = refl

pub returns-then-not-branch : goal.returns-then-not-branch
returns-then-not-branch c =
    let old = c.args.self.now.keys in
    let new = c.insert.new.self in
    let added : false ≡ not (contains nat_eq old (key_of c.args.image.now)) = sym c.if-not-branch.true ∙ c.in_ok-insert.ensures.added ∙ ap (λ (k : ℕ). not (contains nat_eq old k)) c.key.ensures in
    let same : IsUnchanged old new = subst (λ (b : Bool). OnFalse b (IsUnchanged old new)) c.if-not-branch.true c.in_ok-insert.ensures.unchanged in
    (inr (not_false (contains nat_eq old (key_of c.args.image.now)) added), refl, λ q. ap (λ (l : List ℕ). list_any (λ k. nat_eq q k) l) same)

pub returns : goal.returns
returns c =
    let old = c.args.self.now.keys in
    let new = c.insert.new.self in
    let added : true ≡ not (contains nat_eq old (key_of c.args.image.now)) = sym c.if-not-branch.false ∙ c.in_ok-insert.ensures.added ∙ ap (λ (k : ℕ). not (contains nat_eq old k)) c.key.ensures in
    let left : c.args.self.now.left ≡ suc (c.args.self.now.left - 1) = omega arith in (
      not_true (contains nat_eq old (key_of c.args.image.now)) added,
      left,
      λ q. subst (λ (k : ℕ). contains nat_eq new q ≡ cond (nat_eq k q) true (contains nat_eq old q)) c.key.ensures (c.in_ok-insert.ensures.updates.0 q),
    )
