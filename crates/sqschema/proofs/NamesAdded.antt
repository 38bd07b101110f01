-- What a set of names has once a name is added.
use Rattle.std.proofs.Common.{◌≡◌, ◌∙◌, ⊎_elim, ℕ, Bool, true, false, List, refl, sym, ap, subst}
use Rattle.std.specs.Prelude.{◌||◌}
use Rattle.std.specs.List.{list_any}
use Rattle.std.specs.Str.{bytes_eq}
use Rattle.std.specs.Ordering.{is_eq, nat_cmp}
use Rattle.std.specs.Cmp.Lexicographic.{slice_cmp}
use Rattle.std.specs.Set.{KeepsOthers}
use Rattle.std.specs.Map.{IsKeyTest, AreApart}
use Rattle.std.specs.BTreeSet.{BTreeSet, UpdatesBy, contains_by}
use Rattle.std.proofs.lemmas.Bool.{cases_Bool}
use Rattle.std.proofs.lemmas.Cmp.{eq_by_cmp_equiv, nat_list_cmp_total, nat_list_eq_equiv}
use Rattle.std.proofs.lemmas.Map.Text.{is_eq-slice_cmp}
use Rattle.std.proofs.lemmas.Slice.Eq.{bytes_eq-Decides}

or_true : (b : Bool) → (b || true) ≡ true
or_true true = refl
or_true false = refl

or_false : (b : Bool) → b ≡ (b || false)
or_false true = refl
or_false false = refl

apart : (name key other : List ℕ) → bytes_eq key name ≡ false → is_eq (slice_cmp nat_cmp name other) ≡ true → is_eq (slice_cmp nat_cmp key other) ≡ false
apart name key other differs agrees =
    let same : bytes_eq name other ≡ true = sym (is_eq-slice_cmp name other) ∙ agrees in
    is_eq-slice_cmp key other ∙ nat_list_eq_equiv.symm key other ∙ sym (nat_list_eq_equiv.congr name other key same) ∙ nat_list_eq_equiv.symm name key ∙ differs

others : {K : Type 0} (eq : K → K → Bool) (test : K → Bool) (old new : List K) → KeepsOthers eq test old new → (other : K → Bool) → IsKeyTest eq other → AreApart test other → list_any other new ≡ list_any other old
unfolding KeepsOthers
others eq test old new h = h

-- a set has the names that it had, and the one that was added
pub name_added : {K : Type 0} (s n : BTreeSet K) (text : K → List ℕ) (name : List ℕ)
    → UpdatesBy (λ a b. slice_cmp nat_cmp (text a) (text b)) (λ k. slice_cmp nat_cmp name (text k)) s n true
    → (key : List ℕ) → contains_by (λ k. slice_cmp nat_cmp key (text k)) n ≡ (contains_by (λ k. slice_cmp nat_cmp key (text k)) s || bytes_eq key name)
name_added s n text name h key =
    let had = contains_by (λ k. slice_cmp nat_cmp key (text k)) s in
    ⊎_elim
    (λ (same_name : bytes_eq key name ≡ true).
    let same : key ≡ name = (bytes_eq-Decides key name).0 same_name in
    subst (λ q. contains_by (λ k. slice_cmp nat_cmp q (text k)) n ≡ true) (sym same) h.1 ∙ sym (or_true had) ∙ ap (λ b. had || b) (sym same_name))
    (λ (differs : bytes_eq key name ≡ false).
    others (λ a b. is_eq (slice_cmp nat_cmp (text a) (text b))) (λ k. is_eq (slice_cmp nat_cmp name (text k))) s.keys n.keys h.3
    (λ k. is_eq (slice_cmp nat_cmp key (text k))) (λ x y. (eq_by_cmp_equiv nat_list_cmp_total).congr key (text x) (text y)) (λ k. apart name key (text k) differs)
    ∙ or_false had ∙ ap (λ b. had || b) (sym differs))
    (cases_Bool (bytes_eq key name))
