use Rattle.std.proofs.Common.{◌≡◌, ◌∙◌, ◌++◌, Bool, true, false, List, ℕ, OnOk, ap, refl, subst, sym}
use Rattle.std.specs.Prelude.{MatchBool}
use Rattle.sqtables.specs.declared.list.Object.{Object}
use Rattle.cli_schema_text.specs.Comments.{unnamed_text}
use Rattle.cli_schema_text.specs.Names.{can_be_named}
use Rattle.cli_show_rows.proofs.Cases.{when_false, when_true}
use Rattle.cli_show_diff.specs.Frames.{IsDropText, IsStaying, IsVirtualLeft, drop_trigger, is_trigger, undropped_text}
use Rattle.cli_show_diff.proofs.Answered.{on_ok}
use Rattle.cli_show_diff.proofs.frame.add_drop.Goals as goal

-- what is written of a trigger that can be named, of one that can't, and of what is none
abbrev Named : (news : List Object) (o : Object) → List ℕ → Type 0
Named news o t = (stays : Bool) × IsStaying o.name.items news stays × (t ≡ drop_trigger stays o.name.items)

named_drop : (news : List Object) (o : Object) (stays : Bool) → is_trigger o ≡ true → can_be_named o.name.items ≡ true → IsStaying o.name.items news stays
    → IsDropText news o (drop_trigger stays o.name.items)
named_drop news o stays of can is =
    let t = drop_trigger stays o.name.items in
    when_true (is_trigger o) (MatchBool (can_be_named o.name.items) (Named news o t) (t ≡ unnamed_text o.name.items)) ((left : Bool) × IsVirtualLeft news o left × (t ≡ undropped_text left o)) of
    (when_true (can_be_named o.name.items) (Named news o t) (t ≡ unnamed_text o.name.items) can (stays, is, refl))

unnamed_drop : (news : List Object) (o : Object) → is_trigger o ≡ true → can_be_named o.name.items ≡ false → IsDropText news o (unnamed_text o.name.items)
unnamed_drop news o of can =
    let t = unnamed_text o.name.items in
    when_true (is_trigger o) (MatchBool (can_be_named o.name.items) (Named news o t) (t ≡ t)) ((left : Bool) × IsVirtualLeft news o left × (t ≡ undropped_text left o)) of
    (when_false (can_be_named o.name.items) (Named news o t) (t ≡ t) can refl)

no_drop : (news : List Object) (o : Object) (left : Bool) → is_trigger o ≡ false → IsVirtualLeft news o left → IsDropText news o (undropped_text left o)
no_drop news o left of is =
    let t = undropped_text left o in
    when_false (is_trigger o) (MatchBool (can_be_named o.name.items) (Named news o t) (t ≡ unnamed_text o.name.items))
    ((left : Bool) × IsVirtualLeft news o left × (t ≡ undropped_text left o)) of (left, is, refl)

pub returns-then-not-is_trigger-clause-ok : goal.returns-then-not-is_trigger-clause-ok
returns-then-not-is_trigger-clause-ok c =
    let o = c.args.object.now in
    let news = c.args.news.now in
    let old = c.args.out.now.items in
    let new = c.add_undropped.new.out.items in
    let not_so = sym c.is_trigger.ensures ∙ c.if-not-is_trigger.true in
    on_ok c.add_undropped.result ((left : Bool) × IsVirtualLeft news o left × (new ≡ old ++ undropped_text left o)) ((t : List ℕ) × IsDropText news o t × (new ≡ old ++ t))
    (λ w. (undropped_text w.0 o, no_drop news o w.0 not_so w.1, w.2)) c.add_undropped.ensures.ok

pub returns-then-not-can_be_named-clause-ok : goal.returns-then-not-can_be_named-clause-ok
returns-then-not-can_be_named-clause-ok c =
    let o = c.args.object.now in
    let news = c.args.news.now in
    let old = c.args.out.now.items in
    let new = c.add_unnamed.new.out.items in
    let of = sym c.is_trigger.ensures ∙ c.if-not-is_trigger.false in
    let not_so = sym (c.can_be_named.ensures ∙ ap (λ n. can_be_named n) c.as_slice-name.ensures.value) ∙ c.if-not-can_be_named.true in
    on_ok c.add_unnamed.result (new ≡ old ++ unnamed_text c.as_slice-name.result.now) ((t : List ℕ) × IsDropText news o t × (new ≡ old ++ t))
    (λ w. (unnamed_text o.name.items, unnamed_drop news o of not_so, w ∙ ap (λ n. old ++ unnamed_text n) c.as_slice-name.ensures.value)) c.add_unnamed.ensures.ok

pub returns-clause-ok : goal.returns-clause-ok
returns-clause-ok c =
    let o = c.args.object.now in
    let news = c.args.news.now in
    let old = c.args.out.now.items in
    let new = c.add_named.new.out.items in
    let of = sym c.is_trigger.ensures ∙ c.if-not-is_trigger.false in
    let so = sym (c.can_be_named.ensures ∙ ap (λ n. can_be_named n) c.as_slice-name.ensures.value) ∙ c.if-not-can_be_named.false in
    let named = subst (λ (n : List ℕ). OnOk c.add_named.result ((stays : Bool) × IsStaying n news stays × (new ≡ old ++ drop_trigger stays n))) c.as_slice-name.ensures.value c.add_named.ensures.ok in
    on_ok c.add_named.result ((stays : Bool) × IsStaying o.name.items news stays × (new ≡ old ++ drop_trigger stays o.name.items)) ((t : List ℕ) × IsDropText news o t × (new ≡ old ++ t))
    (λ w. (drop_trigger w.0 o.name.items, named_drop news o w.0 of so w.1, w.2)) named
