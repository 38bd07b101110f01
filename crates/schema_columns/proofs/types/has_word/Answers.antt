use Rattle.std.proofs.Common.{◌≡◌, ◌∙◌, ◌<◌, ◌+◌, ℕ, Bool, false, ◌||◌, List, ◌∷◌, length, get_or, drop, ap, sym, add-one, drop-cons, arith}
use Rattle.std.proofs.lemmas.List.{take_rest}
use Rattle.schema_columns.specs.Types.{begins, has_word}
use Rattle.schema_columns.proofs.types.has_word.Goals as goal

behind : (text word : List ℕ) (i : ℕ) → i < length text → begins (drop i text) word ≡ false → has_word (drop i text) word ≡ has_word (drop (i + 1) text) word
behind text word i below not =
    let e : drop i text ≡ get_or text i 0 ∷ drop (i + 1) text = rw (add-one, drop-cons text i 0) in
    ap (λ (t : List ℕ). has_word t word) e ∙ ap (λ (b : Bool). b || has_word (drop (i + 1) text) word) (ap (λ (t : List ℕ). begins t word) (sym e) ∙ not)

pub loop-i-preserved : goal.loop-i-preserved
loop-i-preserved c =
    let text = c.args.text.now in
    let word = c.args.word.now in
    let rest = take_rest text c.loop-i.i in
    c.loop-i.invariant ∙ behind text word c.loop-i.i (omega arith) (ap (λ (t : List ℕ). begins t word) (sym rest) ∙ sym c.begins.ensures ∙ c.if-begins.false)
