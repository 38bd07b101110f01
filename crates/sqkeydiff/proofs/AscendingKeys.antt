-- Keys that ascend, and lists by them.
use Rattle.std.proofs.Common.{◌≡◌, ◌≢◌, ◌∙◌, ℕ, List, [], ◌∷◌, map, Option, Some, None, inl, inr, refl, sym, ap, subst}
use Rattle.std.specs.declared.cmp.Ordering.{Ordering}
use Rattle.std.specs.declared.cmp.Ordering.TheVariants.{Less, Equal, Greater}
use Rattle.std.specs.Ordering.{ordering_reverse}
use Rattle.sqpage.specs.Lists.{In}
use Rattle.sqrows.specs.Rows.{Row}
use Rattle.sqlite_value.specs.declared.value.Value.{Value}
use Rattle.sqlite_value.specs.declared.keys.Order.{Order}
use Rattle.sqlite_value.specs.Keys.{entry_cmp}
use Rattle.sqlite_value.proofs.KeyLemmas.{entry_cmp_total}
use Rattle.sqdiff.proofs.RisingRowids.{in_map}
use Rattle.sqkeydiff.specs.KeyChanges.{key_of, keys_of, IsAbove, Ascend, AreEqual}

less_equal : (o : Ordering) → o ≡ Less → o ≢ Equal
less_equal o p q = cc

-- what stands to itself as it does turned round is equal
turned_equal : (o : Ordering) → o ≡ ordering_reverse o → o ≡ Equal
turned_equal Less e = cc
turned_equal Equal e = refl
turned_equal Greater e = cc

-- Two keys.
module _ (order : Order) where
  -- a key equals itself
  pub self_equal : (a : List Value) → entry_cmp order a a ≡ Equal
  self_equal a = turned_equal (entry_cmp order a a) ((entry_cmp_total order).antisymm a a)

  turned : (a b : List Value) → entry_cmp order a b ≡ Equal → entry_cmp order b a ≡ Equal
  turned a b e = (entry_cmp_total order).antisymm b a ∙ ap ordering_reverse e

  pub above_trans : (a b c : Option (List Value)) → IsAbove order a b → IsAbove order b c → IsAbove order a c
  above_trans a b None h k = absurd k
  above_trans a None (Some z) h k = absurd h
  above_trans None (Some y) (Some z) h k = tt
  above_trans (Some x) (Some y) (Some z) h k = (entry_cmp_total order).trans x y z h k

  pub equal_sym : (a b : Option (List Value)) → AreEqual order a b → AreEqual order b a
  equal_sym None None e = absurd e
  equal_sym None (Some y) e = absurd e
  equal_sym (Some x) None e = absurd e
  equal_sym (Some x) (Some y) e = turned x y e

  pub equal_trans : (a b c : Option (List Value)) → AreEqual order a b → AreEqual order b c → AreEqual order a c
  equal_trans None None c e f = absurd e
  equal_trans None (Some y) c e f = absurd e
  equal_trans (Some x) None c e f = absurd e
  equal_trans (Some x) (Some y) None e f = absurd f
  equal_trans (Some x) (Some y) (Some z) e f = (entry_cmp_total order).congr x y z e ∙ f

  -- what comes behind one of two equal keys comes behind the other
  pub equal_above : (a b c : Option (List Value)) → AreEqual order a b → IsAbove order b c → IsAbove order a c
  equal_above None None c e h = absurd e
  equal_above None (Some y) c e h = absurd e
  equal_above (Some x) None c e h = absurd e
  equal_above (Some x) (Some y) None e h = absurd h
  equal_above (Some x) (Some y) (Some z) e h = (entry_cmp_total order).congr x y z e ∙ h

  pub unequal : (a b : Option (List Value)) → IsAbove order a b → ¬ AreEqual order a b
  unequal None None h e = e
  unequal None (Some y) h e = e
  unequal (Some x) None h e = e
  unequal (Some x) (Some y) h e = less_equal (entry_cmp order x y) h e

  pub not_above : (a : Option (List Value)) → ¬ IsAbove order a a
  not_above None h = h
  not_above (Some x) h = less_equal (entry_cmp order x x) h (self_equal x)

  pub above_none : (a b : Option (List Value)) → IsAbove order a b → IsAbove order None b
  above_none a None h = absurd h
  above_none a (Some y) h = tt

  pub apart : (a b : Option (List Value)) → IsAbove order a b → a ≢ b
  apart a b h same = not_above b (subst (λ (z : Option (List Value)). IsAbove order z b) same h)

  pub ascend_each : (before key : Option (List Value)) (keys : List (Option (List Value))) → Ascend order before keys → In key keys → IsAbove order before key
  ascend_each before key [] h i = absurd i
  ascend_each before key (x ∷ keys) h (inl e) = subst (IsAbove order before) (sym e) h.0
  ascend_each before key (x ∷ keys) h (inr i) = above_trans before x key h.0 (ascend_each x key keys h.1 i)

  -- They ascend from another one, too, where each of them comes behind it.
  pub ascend_from : (a b : Option (List Value)) (keys : List (Option (List Value))) → Ascend order a keys
      → ((key : Option (List Value)) → In key keys → IsAbove order b key) → Ascend order b keys
  ascend_from a b [] h above = tt
  ascend_from a b (x ∷ keys) h above = (above x (inl refl), h.1)

  -- and where it equals the one that they ascend from
  pub ascend_equal : (a b : Option (List Value)) (keys : List (Option (List Value))) → AreEqual order b a → Ascend order a keys → Ascend order b keys
  ascend_equal a b keys e h = ascend_from a b keys h (λ key i. equal_above b a key e (ascend_each a key keys h i))

  -- each of these comes behind the one that they ascend from
  pub above_each : {A : Type 0} (key : A → Option (List Value)) (before : Option (List Value)) (x : A) (xs : List A) → Ascend order before (map key xs) → In x xs → IsAbove order before (key x)
  above_each key before x xs h i = ascend_each before (key x) (map key xs) h (in_map key x xs i)

  pub row_above : (width : ℕ) (before : Option (List Value)) (r : Row) (rows : List Row) → Ascend order before (keys_of width rows) → In r rows → IsAbove order before (key_of width r)
  row_above width before r rows h i = above_each (key_of width) before r rows h i
