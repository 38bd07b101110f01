use Rattle.std.proofs.Common.{◌≡◌, ◌∙◌, ◌≤◌, true, length, sym, ap, subst, arith}
use Rattle.std.specs.Prelude.{◌||◌, map}
use Rattle.std.specs.Str.{bytes_eq}
use Rattle.std.proofs.lemmas.List.{length-map}
use Rattle.sqschema.specs.Items.{seen}
use Rattle.sqschema.specs.Rules.{is_named_once, space_of}
use Rattle.sqschema.specs.internal.Judging.{Tells, key_of, holds}
use Rattle.sqschema.proofs.ItemsAt.{below_next, below_all, any_next}
use Rattle.sqschema.proofs.SoundSchemas.{named_once}
use Rattle.sqschema.proofs.owners.judge_names.Goals as goal

pub returns-then-not-fresh-clause-err : goal.returns-then-not-fresh-clause-err
returns-then-not-fresh-clause-err c = λ d.
    let xs = map seen c.args.items.now in
    let x = seen c.item_at-item.result.now in
    let same : key_of c.space.result c.deref.result.now ≡ key_of (space_of x) x.name = ap (λ s. key_of s c.deref.result.now) c.space.ensures ∙ ap (λ n. key_of (space_of x) n) c.deref.ensures.value in
    let named = named_once xs c.items.i x (holds c.items.names (key_of c.space.result c.deref.result.now)) c.in-Ok.fresh
    (ap (holds c.items.names) same ∙ c.items.invariant.held (key_of (space_of x) x.name)) c.in-Ok.ensures.fresh in
    subst (Tells d xs) (sym c.at_row.ensures) (x, c.item_at-item.ensures, named ∙ c.if-not-fresh.true)

pub returns-in_default-clause-err : goal.returns-in_default-clause-err
returns-in_default-clause-err c = λ d. subst (Tells d (map seen c.args.items.now)) (sym c.no_memory.ensures) tt

pub items-preserved : goal.items-preserved
items-preserved c =
    let xs = map seen c.args.items.now in
    let x = seen c.item_at-item.result.now in
    let same : key_of c.space.result c.deref.result.now ≡ key_of (space_of x) x.name = ap (λ s. key_of s c.deref.result.now) c.space.ensures ∙ ap (λ n. key_of (space_of x) n) c.deref.ensures.value in
    let named = named_once xs c.items.i x (holds c.items.names (key_of c.space.result c.deref.result.now)) c.in-Ok.fresh
    (ap (holds c.items.names) same ∙ c.items.invariant.held (key_of (space_of x) x.name)) c.in-Ok.ensures.fresh in
    record {
      held = λ key. c.in-Ok.ensures.held key ∙ ap (λ k. holds c.items.names key || bytes_eq key k) same
          ∙ ap (λ b. b || bytes_eq key (key_of (space_of x) x.name)) (c.items.invariant.held key)
          ∙ sym (any_next (λ y. bytes_eq key (key_of (space_of y) y.name)) xs c.items.i x c.item_at-item.ensures);
      each = below_next (λ i x. is_named_once xs i x ≡ true) xs c.items.i x c.item_at-item.ensures (named ∙ c.if-not-fresh.false) c.items.invariant.each;
    }

pub returns-clause-ok : goal.returns-clause-ok
returns-clause-ok c =
    let xs = map seen c.args.items.now in
    let all : length xs ≤ c.items.i = omega (arith, length-map c.args.items.now seen, c.items-test.false) in
    below_all (λ i x. is_named_once xs i x ≡ true) xs c.items.i all c.items.invariant.each
