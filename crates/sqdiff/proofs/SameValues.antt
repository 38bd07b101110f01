-- Which rows are the same.
use Rattle.std.proofs.Common.{◌≡◌, ◌≢◌, ◌⊎◌, Bool, true, false, List, [], ◌∷◌, ◌++◌, ℕ, Option, Some, None, inl, inr, refl, sym, ap, ◌∙◌}
use Rattle.std.specs.Prelude.{ℤ, IsTrue, not as is_not}
use Rattle.std.specs.Bool.{Decides}
use Rattle.std.specs.Str.{bytes_eq}
use Rattle.std.specs.Ordering.{int_eq}
use Rattle.std.proofs.lemmas.Bool.Decides.{Decides-int_eq}
use Rattle.std.proofs.lemmas.Slice.Eq.{bytes_eq-Decides}
use Rattle.sqval.specs.Datum.{Datum, null, integer, real, text, blob, datum_of}
use Rattle.sqval.specs.declared.value.Value.{Value}
use Rattle.std.specs.Iterator.{YieldsFirstBy}
use Rattle.std.specs.Option.{is_some}
use Rattle.sqpage.specs.Lists.{In}
use Rattle.sqrows.specs.Rows.{Row}
use Rattle.sqdiff.specs.Changes.{IsFree}
use Rattle.sqdiff.proofs.HeadsOfLists.{free_with}

either : (P : Type 0) (b : Bool) → Decides b P → P ⊎ ¬ P
either P true d = inl (d.0 refl)
either P false d = inr (λ p. let not : false ≡ true = d.1 p in cc)

same_number : (a b : ℤ) → (a ≡ b) ⊎ (a ≢ b)
same_number a b = either (a ≡ b) (int_eq a b) (Decides-int_eq a b)

same_bytes : (a b : List ℕ) → (a ≡ b) ⊎ (a ≢ b)
same_bytes a b = either (a ≡ b) (bytes_eq a b) (bytes_eq-Decides a b)

-- of the same constructor
by_part : {A : Type 0} (f : A → Datum) (a b : A) → ((f a ≡ f b) → a ≡ b) → (a ≡ b) ⊎ (a ≢ b) → (f a ≡ f b) ⊎ (f a ≢ f b)
by_part f a b back (inl e) = inl (ap f e)
by_part f a b back (inr not) = inr (λ e. not (back e))

same_datum : (a b : Datum) → (a ≡ b) ⊎ (a ≢ b)
same_datum null null = inl refl
same_datum (integer a) (integer b) = by_part integer a b (λ e. cc) (same_number a b)
same_datum (real a) (real b) = by_part real a b (λ e. cc) (same_bytes a b)
same_datum (text a) (text b) = by_part text a b (λ e. cc) (same_bytes a b)
same_datum (blob a) (blob b) = by_part blob a b (λ e. cc) (same_bytes a b)
same_datum a b = inr (λ e. cc)

same_heads : (a b : Datum) (xs ys : List Datum) → (a ≡ b) ⊎ (a ≢ b) → (xs ≡ ys) ⊎ (xs ≢ ys) → (a ∷ xs ≡ b ∷ ys) ⊎ (a ∷ xs ≢ b ∷ ys)
same_heads a b xs ys (inl e) (inl f) = inl (ap (λ z. z ∷ xs) e ∙ ap (λ zs. b ∷ zs) f)
same_heads a b xs ys (inl e) (inr not) = inr (λ f. not (cc))
same_heads a b xs ys (inr not) other = inr (λ f. not (cc))

pub same_values : (a b : List Datum) → (a ≡ b) ⊎ (a ≢ b)
same_values [] [] = inl refl
same_values [] (b ∷ ys) = inr (λ e. cc)
same_values (a ∷ xs) [] = inr (λ e. cc)
same_values (a ∷ xs) (b ∷ ys) = same_heads a b xs ys (same_datum a b) (same_values xs ys)

pub same_rowid : (a b : Option ℤ) → (a ≡ b) ⊎ (a ≢ b)
same_rowid None None = inl refl
same_rowid None (Some b) = inr (λ e. cc)
same_rowid (Some a) None = inr (λ e. cc)
same_rowid (Some a) (Some b) = elim (same_number a b) [ inl e ↦ inl (ap Some e) | inr not ↦ inr (λ e. not (cc)) ]

-- One of these rows has this rowid, or none.
pub found : (id : Option ℤ) (rows : List Row) → ((r : Row) × In r rows × (r.rowid ≡ id)) ⊎ IsFree id rows
found id [] = inr (λ r i. absurd i)
found id (x ∷ rows) = elim (same_rowid x.rowid id) [
  | inl e ↦ inl (x, inl refl, e)
  | inr not ↦ elim (found id rows) [
    | inl h ↦ inl (h.0, inr h.1, h.2)
    | inr free ↦ inr (free_with x id rows not free)
  ]
]

pub row_same : (r s : Row) → r.rowid ≡ s.rowid → r.values ≡ s.values → r ≡ s
row_same r s p q = two (λ a b. record { rowid = a; values = b }) r.rowid s.rowid r.values s.values p q
  where
    two : (f : Option ℤ → List Datum → Row) (a a' : Option ℤ) (b b' : List Datum) → a ≡ a' → b ≡ b' → f a b ≡ f a' b'
    two f a a' b b' p q = cc

-- lists that begin alike
behind : (pre xs ys : List Datum) → pre ++ xs ≡ pre ++ ys → xs ≡ ys
behind [] xs ys e = e
behind (p ∷ pre) xs ys e = behind pre xs ys (cc)

pub heads_differ : (pre old new xs ys : List Datum) (x y : Datum) → pre ++ x ∷ xs ≡ old → pre ++ y ∷ ys ≡ new → x ≢ y → old ≢ new
heads_differ pre old new xs ys x y one other differ same =
    let e : x ∷ xs ≡ y ∷ ys = behind pre (x ∷ xs) (y ∷ ys) (one ∙ same ∙ sym other) in
    differ (cc)

pub one_ends : (pre old new xs rest : List Datum) (x : Datum) → pre ++ x ∷ xs ≡ old → pre ++ rest ≡ new → rest ≡ [] → old ≢ new
one_ends pre old new xs rest x one other none same =
    let e : x ∷ xs ≡ rest = behind pre (x ∷ xs) rest (one ∙ same ∙ sym other) in cc

-- Where one list ended, the other is the same just where it ends too.
pub ended : (pre old new others rest : List Datum) (r : Option Value) (b : Bool) → is_some r ≡ is_not b → YieldsFirstBy datum_of (λ (values : List Datum). values) others r rest
    → pre ++ [] ≡ old → pre ++ others ≡ new → (IsTrue b → old ≡ new) × (old ≡ new → IsTrue b)
ended pre old new others rest None true said none p q = (λ e. sym p ∙ ap (λ l. pre ++ l) (sym none.0) ∙ q, λ e. refl)
ended pre old new others rest None false said none p q = absurd (cc)
ended pre old new others rest (Some x) true said one p q = absurd (cc)
ended pre old new others rest (Some x) false said one p q =
    (λ e. cc, λ same. absurd (one_ends pre new old rest [] (datum_of x) (ap (λ l. pre ++ l) (sym one) ∙ q) p refl (sym same)))
