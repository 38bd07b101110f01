use Rattle.std.proofs.Common.{◌≡◌, ◌∙◌, ◌<◌, ℕ, ⊎_elim, true, false, List, length, sym, ap}
use Rattle.std.specs.Prelude.{Some, slice_get}
use Rattle.std.proofs.lemmas.Bool.{cases_lt}
use Rattle.std.proofs.lemmas.Option.{none-some, slice_get_past}
use Rattle.sqlite_ast.specs.declared.Keyed.{Keyed}
use Rattle.sqlite_ast.specs.declared.Rule.{Rule}
use Rattle.sqlite_ast.specs.declared.TableBody.{TableBody}
use Rattle.sqtables.specs.Texts.{key_by, is_key_column, IsAliasBy}
use Rattle.sqkeys.proofs.column.is_alias_by.Goals as goal

ruled_by : (rules : List Rule) (k : ℕ) (key : Keyed) → key_by (slice_get rules k) ≡ Some key → k < length rules
ruled_by rules k key e = ⊎_elim (λ less. less) (λ ge. absurd (none-some key (ap key_by (sym (slice_get_past rules k ge)) ∙ e))) (cases_lt k (length rules))

never : false ≡ true → ⊥
never e = cc

within_by : (columns : List (List ℕ × List ℕ)) (j : ℕ) (name : List ℕ) → is_key_column (slice_get columns j) name ≡ true → j < length columns
within_by columns j name e = ⊎_elim (λ less. less) (λ ge. absurd (never (ap (λ o. is_key_column o name) (sym (slice_get_past columns j ge)) ∙ e))) (cases_lt j (length columns))

alias : (body : TableBody) (k j : ℕ) (key : Keyed) → key_by (slice_get body.rules k) ≡ Some key → is_key_column (slice_get body.columns j) key.name ≡ true → IsAliasBy body k j
alias body k j key keyed named = record { key = key; ruled = ruled_by body.rules k key keyed; within = within_by body.columns j key.name named; keyed = keyed; named = named }

other_key : (body : TableBody) (k j : ℕ) (key : Keyed) → key_by (slice_get body.rules k) ≡ Some key → is_key_column (slice_get body.columns j) key.name ≡ false → IsAliasBy body k j → ⊥
other_key body k j key keyed other a = let q = a.keyed in let n = a.named in cc

pub returns-in-Some-clause-yes : goal.returns-in-Some-clause-yes
returns-in-Some-clause-yes c = λ yes. alias c.args.body.now c.args.k c.args.j c.in-Some.key.now (sym c.in-Some.ensures) (ap (λ (name : List ℕ). is_key_column (slice_get c.args.body.now.columns c.args.j) name) (sym c.as_slice.ensures) ∙ sym c.is_integer_at.ensures ∙ yes)

pub returns-in-Some-clause-not : goal.returns-in-Some-clause-not
returns-in-Some-clause-not c = λ no. other_key c.args.body.now c.args.k c.args.j c.in-Some.key.now (sym c.in-Some.ensures) (ap (λ (name : List ℕ). is_key_column (slice_get c.args.body.now.columns c.args.j) name) (sym c.as_slice.ensures) ∙ sym c.is_integer_at.ensures ∙ no)
