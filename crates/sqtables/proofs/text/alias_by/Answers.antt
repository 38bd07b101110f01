use Rattle.std.proofs.Common.{◌≡◌, ℕ, Some, false, slice_get, below_more, List, sym, ap, ◌∙◌, arith}
use Rattle.sqlite_ast.specs.declared.Keyed.{Keyed}
use Rattle.sqlite_ast.specs.declared.TableBody.{TableBody}
use Rattle.sqtables.specs.Texts.{key_by, is_key_column, IsAliasBy}
use Rattle.sqtables.proofs.text.alias_by.Goals as goal

other_column : (body : TableBody) (key : Keyed) (k i : ℕ) → key_by (slice_get body.rules k) ≡ Some key → is_key_column (slice_get body.columns i) key.name ≡ false → IsAliasBy body k i → ⊥
other_column body key k i keyed other a = let q = a.keyed in let n = a.named in cc

pub loop-i-preserved : goal.loop-i-preserved
loop-i-preserved c = below_more _ _ c.loop-i.invariant (other_column c.args.body.now c.in_ok-key.key.now c.args.k c.loop-i.i (sym c.in_ok-key.ensures) (ap (λ (name : List ℕ). is_key_column (slice_get c.args.body.now.columns c.loop-i.i) name) (sym c.as_slice.ensures) ∙ sym c.is_integer_at.ensures ∙ c.if-is_integer_at.false))

pub returns : goal.returns
returns c = λ i a. let within = a.within in c.loop-i.invariant i (omega (arith, within, c.loop-i-test.false, c.len-i-end.ensures)) a
