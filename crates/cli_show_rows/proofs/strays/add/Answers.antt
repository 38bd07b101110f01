use Rattle.std.proofs.Common.{◌≡◌, ◌∙◌, ◌++◌, ◌∷◌, [], ℕ, List, ap, inl, inr, refl}
use Rattle.std.specs.Prelude.{Vec, slice_get}
use Rattle.std.specs.declared.alloc.Global.{Global}
use Rattle.std.proofs.lemmas.List.{map-append}
use Rattle.cli_show_rows.specs.Strays.{bytes_of, stray_bytes}
use Rattle.cli_show_rows.proofs.strays.add.Goals as goal
use Rattle.cli_show_rows.proofs.strays.add.Goals.{in-Ok-push, in-Err}

pub returns-then-not-is_stray-clause-ok : goal.returns-then-not-is_stray-clause-ok
returns-then-not-is_stray-clause-ok c = inl (c.is_stray.ensures.not c.if-not-is_stray.true, refl)

pub returns-clause-ok : goal.returns-clause-ok
returns-clause-ok c =
    let old = c.args.strays.now.items in
    let own : c.in-Ok.bytes.items ≡ stray_bytes (slice_get c.args.row.now.values 4) = c.in-Ok.ensures.items ∙ c.stray_bytes.ensures in
    let stray = c.is_stray.ensures.yes c.if-not-is_stray.false in
    elim c.match-push.branch [
      | in-Ok-push w ↦ rw w.result-is (inr (
        stray,
        ap bytes_of w.in-Ok-push.ensures.items ∙ map-append (λ (v : Vec ℕ Global). v.items) old (c.in-Ok.bytes ∷ []) ∙ ap (λ b. bytes_of old ++ b ∷ []) own,
      ))
      | in-Err w ↦ rw w.result-is tt
    ]
