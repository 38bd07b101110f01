use Rattle.std.proofs.Common.{List, ℕ, ◌≡◌, ◌∙◌, ap, refl, subst, sym}
use Rattle.std.specs.Prelude.{MatchBool}
use Rattle.std.specs.Io.KnownBytes.{Appends}
use Rattle.cli_schema_text.specs.Names.{can_be_named}
use Rattle.cli_show_rows.specs.Dumps.{IsMakingPrinted, IsTableText, IsUnnamedText, internal_text, is_internal}
use Rattle.cli_show_rows.proofs.Cases.{when_false, when_true}
use Rattle.cli_show_rows.proofs.TablesStopped.{on_ok}
use Rattle.cli_show_rows.proofs.texts.print_making.Goals as goal

pub returns-then-not-can_be_named-clause-ok : goal.returns-then-not-can_be_named-clause-ok
returns-then-not-can_be_named-clause-ok g c =
    let old = g.W.Write.contents c.args.out.now in
    let new = g.W.Write.contents c.print_nameless.new.out in
    let o = c.args.table.now in
    let encoding = c.args.encoding in
    let can = can_be_named o.name.items in
    let not_so = sym (c.can_be_named.ensures ∙ ap (λ n. can_be_named n) c.as_slice.ensures.value) ∙ c.if-not-can_be_named.true in
    on_ok c.print_nameless.result ((t : List ℕ) × IsUnnamedText o t × Appends old new t) (IsMakingPrinted encoding o old new)
    (λ it. (
      it.0,
      when_false can (MatchBool (is_internal o.name.items) (it.0 ≡ internal_text o.name.items) (IsTableText encoding o it.0)) (IsUnnamedText o it.0) not_so it.1,
      it.2,
    )) c.print_nameless.ensures.ok

pub returns-then-not-is_internal-clause-ok : goal.returns-then-not-is_internal-clause-ok
returns-then-not-is_internal-clause-ok g c =
    let old = g.W.Write.contents c.args.out.now in
    let new = g.W.Write.contents c.print_table_text.new.out in
    let o = c.args.table.now in
    let encoding = c.args.encoding in
    let can = can_be_named o.name.items in
    let own = is_internal o.name.items in
    let so = sym (c.can_be_named.ensures ∙ ap (λ n. can_be_named n) c.as_slice.ensures.value) ∙ c.if-not-can_be_named.false in
    let users = sym (c.is_internal.ensures ∙ ap (λ n. is_internal n) c.as_slice-2.ensures.value) ∙ c.if-not-is_internal.true in
    on_ok c.print_table_text.result ((t : List ℕ) × IsTableText encoding o t × Appends old new t) (IsMakingPrinted encoding o old new)
    (λ it. (
      it.0,
      when_true can (MatchBool own (it.0 ≡ internal_text o.name.items) (IsTableText encoding o it.0)) (IsUnnamedText o it.0) so
          (when_false own (it.0 ≡ internal_text o.name.items) (IsTableText encoding o it.0) users it.1),
      it.2,
    )) c.print_table_text.ensures.ok

pub returns-in-Ok-clause-ok : goal.returns-in-Ok-clause-ok
returns-in-Ok-clause-ok g c =
    let old = g.W.Write.contents c.args.out.now in
    let new = g.W.Write.contents c.write_internal.new.out in
    let o = c.args.table.now in
    let encoding = c.args.encoding in
    let can = can_be_named o.name.items in
    let own = is_internal o.name.items in
    let text = internal_text o.name.items in
    let so = sym (c.can_be_named.ensures ∙ ap (λ n. can_be_named n) c.as_slice.ensures.value) ∙ c.if-not-can_be_named.false in
    let sqlites = sym (c.is_internal.ensures ∙ ap (λ n. is_internal n) c.as_slice-2.ensures.value) ∙ c.if-not-is_internal.false in (
      text,
      when_true can (MatchBool own (text ≡ text) (IsTableText encoding o text)) (IsUnnamedText o text) so
          (when_true own (text ≡ text) (IsTableText encoding o text) sqlites refl),
      subst (λ (n : List ℕ). Appends old new (internal_text n)) c.as_slice-3.ensures.value c.in-Ok.ensures,
    )
