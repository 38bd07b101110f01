use Rattle.std.proofs.Common.{rules, arith}
use Rattle.sqlite_ast.specs.declared.Expr.{the_lemmas}
use Rattle.sqdefaults.specs.Defaults.{value_under}
use Rattle.sqdefaults.proofs.default.value_under.Goals as goal

pub returns-in-Null : goal.returns-in-Null
unfolding value_under
returns-in-Null c = first_of (search (rules, the_lemmas), grind (arith, the_lemmas))

pub returns-in-Integer : goal.returns-in-Integer
unfolding value_under
returns-in-Integer c = first_of (search (rules, the_lemmas), grind (arith, the_lemmas))

pub returns-in-Float : goal.returns-in-Float
unfolding value_under
returns-in-Float c = first_of (search (rules, the_lemmas), grind (arith, the_lemmas))

pub returns-in-Blob : goal.returns-in-Blob
unfolding value_under
returns-in-Blob c = first_of (search (rules, the_lemmas), grind (arith, the_lemmas))

pub returns-in-Truth : goal.returns-in-Truth
unfolding value_under
returns-in-Truth c = first_of (search (rules, the_lemmas), grind (arith, the_lemmas))

pub returns-in-Unary-Minus-default : goal.returns-in-Unary-Minus-default
unfolding value_under
returns-in-Unary-Minus-default c = first_of (search (rules, the_lemmas), grind (arith, the_lemmas))

pub returns-in_ok-of_text-in-Text : goal.returns-in_ok-of_text-in-Text
unfolding value_under
returns-in_ok-of_text-in-Text c = first_of (search (rules, the_lemmas), grind (arith, the_lemmas))

pub returns-in_default : goal.returns-in_default
unfolding value_under
returns-in_default c = first_of (search (rules, the_lemmas), grind (arith, the_lemmas))
