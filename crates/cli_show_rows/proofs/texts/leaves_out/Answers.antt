use Rattle.std.proofs.Common.{◌≡◌, ◌∙◌, Bool, List, ℕ, ap, false, inl, sym, true}
use Rattle.std.specs.Prelude.{◌&&◌, ◌||◌, not}
use Rattle.cli_schema_text.specs.Names.{can_be_named}
use Rattle.cli_schema_text.specs.Texts.{is_left_out}
use Rattle.cli_show_rows.specs.Dumps.{is_internal}
use Rattle.cli_show_rows.proofs.texts.leaves_out.Goals as goal
use Rattle.cli_show_rows.proofs.texts.leaves_out.Goals.{else-commented, else-not-can_be_named+else-not-is_internal, else-not-can_be_named+then-not-is_internal, then-commented, then-not-can_be_named}

unnamed : (can rest value : Bool) → can ≡ false → value ≡ true → value ≡ (not can || rest)
unnamed true rest value c v = cc
unnamed false rest value c v = v

users : (can internal left value : Bool) → can ≡ true → internal ≡ false → value ≡ left → value ≡ (not can || (not internal && left))
users false internal left value c i v = cc
users true true left value c i v = cc
users true false left value c i v = v

sqlites : (can internal left value : Bool) → can ≡ true → internal ≡ true → value ≡ false → value ≡ (not can || (not internal && left))
sqlites false internal left value c i v = cc
sqlites true false left value c i v = cc
sqlites true true left value c i v = v

either : (value unread result : Bool) → value ≡ true → result ≡ true → result ≡ (value || unread)
either false unread result v r = cc
either true unread result v r = r

other : (value unread result : Bool) → value ≡ false → result ≡ unread → result ≡ (value || unread)
other true unread result v r = cc
other false unread result v r = r

pub returns-then-is_table : goal.returns-then-is_table
returns-then-is_table c =
    let o = c.args.object.now in
    let name : List ℕ = o.name.items in
    let p = c.in_ok-printed.printed in
    let can = can_be_named name in
    let own = is_internal name in
    let left = is_left_out p in
    let unread = c.in_ok-unread.unread in
    let value = c.if-not-can_be_named.value in
    let result = c.if-commented.result in
    let named = sym (c.can_be_named.ensures ∙ ap (λ n. can_be_named n) c.as_slice-name.ensures.value) in
    let said : value ≡ (not can || (not own && left)) = elim c.if-not-can_be_named.branch [
      | then-not-can_be_named w ↦ unnamed can (not own && left) value (named ∙ w.if-not-can_be_named.true) (w.value-is ∙ ap not w.if-not-can_be_named.true)
      | else-not-can_be_named+then-not-is_internal w ↦ users can own left value (named ∙ w.if-not-can_be_named.false)
          (sym (w.is_internal.ensures ∙ ap (λ n. is_internal n) c.as_slice-name.ensures.value) ∙ w.if-not-is_internal.true) (w.value-is ∙ c.is_left_out-commented.ensures)
      | else-not-can_be_named+else-not-is_internal w ↦ sqlites can own left value (named ∙ w.if-not-can_be_named.false)
          (sym (w.is_internal.ensures ∙ ap (λ n. is_internal n) c.as_slice-name.ensures.value) ∙ w.if-not-is_internal.false) (w.value-is ∙ ap not w.if-not-is_internal.false)
    ] in
    let whole : result ≡ (value || unread) = elim c.if-commented.branch [
      | then-commented w ↦ either value unread result w.if-commented.true (w.result-is ∙ w.if-commented.true)
      | else-commented w ↦ other value unread result w.if-commented.false w.result-is
    ] in
    (p, c.in_ok-printed.ensures, inl (c.is_table.ensures.yes c.if-is_table.true, (unread, c.in_ok-unread.ensures, whole ∙ ap (λ v. v || unread) said)))
