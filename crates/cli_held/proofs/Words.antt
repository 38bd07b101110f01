-- Words of a command line, and their texts.
use Rattle.std.proofs.Common.{◌≡◌, ⊎_elim, ◌∙◌, sym, ap, subst, ℕ, ◌+◌, ◌<◌, List, [], ◌∷◌, ◌++◌, length, take, get_or, Bor, arith}
use Rattle.std.specs.List.{Contains}
use Rattle.std.proofs.lemmas.List.{get_or-map, length-map, map-append, take_more}
use Rattle.std.proofs.lemmas.List.Elements.{Contains-get_or, Contains-push_cases}
use Rattle.cli_held.specs.Todo.{texts}
use Rattle.cli_held.specs.declared.line.Rest.{Rest}
use Rattle.cli_held.specs.internal.Words.{IsRest}

pub texts_long : (ws : List (Bor (List ℕ))) → length (texts ws) ≡ length ws
texts_long ws = simp length-map

pub word_here : (ws : List (Bor (List ℕ))) (i : ℕ) (d : Bor (List ℕ)) → i < length ws → Contains (texts ws) (get_or ws i d).now
word_here ws i d lt =
    let within : i < length (texts ws) = omega (arith, texts_long ws) in
    subst (Contains (texts ws)) (get_or-map (λ (w : Bor (List ℕ)). w.now) ws i d d.now lt) (Contains-get_or (texts ws) i d.now within)

pub said_here : (ws : List (Bor (List ℕ))) (i : ℕ) (d : Bor (List ℕ)) (text : List ℕ) → i < length ws → (get_or ws i d).now ≡ text → Contains (texts ws) text
said_here ws i d text lt same = subst (Contains (texts ws)) same (word_here ws i d lt)

-- one word more that is left, of which the last one isn't the value of a wait
pub one_more : (ws : List (Bor (List ℕ))) (from i : ℕ) (d : Bor (List ℕ)) (before after : Rest) → i < length ws
    → IsRest (texts ws) from i before
    → after.words.items ≡ before.words.items ++ (get_or ws i d ∷ [])
    → after.wait ≡ before.wait → after.is_unlocked ≡ before.is_unlocked → after.is_taken ≡ before.is_taken
    → IsRest (texts ws) from (i + 1) after
one_more ws from i d before after lt rest items wait unlocked taken =
    let within : i < length (texts ws) = omega (arith, texts_long ws) in
    let here : get_or (texts ws) i d.now ≡ (get_or ws i d).now = get_or-map (λ (w : Bor (List ℕ)). w.now) ws i d d.now lt in
    let left : texts after.words.items ≡ texts before.words.items ++ ((get_or ws i d).now ∷ []) =
    ap texts items ∙ map-append (λ (w : Bor (List ℕ)). w.now) before.words.items (get_or ws i d ∷ []) in
    record {
      only = λ word there. ⊎_elim (λ old. rest.only word old) (λ new. subst (Contains (texts ws)) new (word_here ws i d lt))
          (Contains-push_cases (texts before.words.items) (get_or ws i d).now word (subst (λ xs. Contains xs word) left there));
      unlocked = λ e. rest.unlocked (sym unlocked ∙ e);
      plain = λ first nothing.
          let was = rest.plain first nothing in (
            left ∙ ap (λ xs. xs ++ ((get_or ws i d).now ∷ [])) was.0 ∙ ap (λ x. take i (texts ws) ++ (x ∷ [])) (sym here) ∙ sym (take_more (texts ws) i d.now within),
            wait ∙ was.1,
            unlocked ∙ was.2,
            taken ∙ was.3,
          );
    }
