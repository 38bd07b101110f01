use Rattle.std.proofs.Common.{◌≡◌, ◌∙◌, sym, inl, inr, true, false}
use Rattle.std.specs.Cmp.Lexicographic.{bytes_decides}
use Rattle.cli_words.proofs.TablesNamed.{gives_behind, gives_joined}
use Rattle.cli_words.proofs.tables.given_at.Goals as goal
use Rattle.cli_words.proofs.tables.given_at.Goals.{else-eq-via-then-eq+else-i-options, else-eq-via-else-eq}

pub returns-then-i-options : goal.returns-then-i-options
returns-then-i-options c =
    let same = (bytes_decides _ _).0 (sym c.if-eq.ensures) in
    gives_behind c.args.options.now c.args.i _ c.requires _ _ same c.if-i-options.true

pub returns : goal.returns
returns c = gives_joined c.args.options.now c.args.i _ c.requires c.args.name.now c.joined_text.result
    (elim c.else-eq.branch [
      | else-eq-via-then-eq+else-i-options w ↦ inr w.if-i-options.false
      | else-eq-via-else-eq w ↦ inl (λ e. let same = (bytes_decides _ _).1 e in let f : false ≡ true = w.if-eq.ensures ∙ same in cc)
    ])
    c.joined_text.ensures
