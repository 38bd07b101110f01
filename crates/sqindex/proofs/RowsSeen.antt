-- The rows of a table, read one after another.
use Rattle.std.proofs.Common.{◌≡◌, ◌+◌, ⊎_elim, ℕ, List, [], ◌∷◌, ◌++◌, length, slice_get, Option, Some, None, IfSome, IsSome, ℤ, pos, ◌<ℤ◌, unwrap_or, refl, sym, ap, ◌∙◌, subst, arith, length-append}
use Rattle.std.proofs.lemmas.Int.{ints}
use Rattle.std.proofs.lemmas.Option.{slice_get_within}
use Rattle.std.proofs.lemmas.List.Elements.{All-push, All-contains}
use Rattle.sqval.specs.Database.{Database}
use Rattle.sqrows.specs.declared.cells.Cells.{Cells}
use Rattle.sqindex.specs.declared.error.ReadError.{ReadError}
use Rattle.sqindex.specs.declared.error.ReadError.TheVariants as errors
use Rattle.sqindex.specs.declared.walk.Found.{Found}
use Rattle.sqindex.specs.declared.walk.Walk.{Walk}
use Rattle.sqindex.specs.Stored.{Stored}
use Rattle.sqindex.specs.Keys.{rowid_of}
use Rattle.sqindex.specs.Rules.{Rise, HasKeyedRows}
use Rattle.sqindex.specs.Indexes.{NoRows, ReadRefused}
use Rattle.sqindex.specs.internal.Reading.{stored_of, WalkMoves, AreTaken}
use Rattle.sqindex.specs.internal.Joining.{IsAbove, NotAbove, IsLast, AreSeen}
use Rattle.sqindex.proofs.Places.{at_once, get_left, get_here, get_push, contained}
use Rattle.sqindex.proofs.CellsTaken.{taken_first, one_taken, all_taken}

last_below : (rows : List Stored) (last : Option ℤ) (r : ℤ) (i : ℕ) (a : Stored) → IsLast rows last → IfSome last (λ l. l <ℤ r) → slice_get rows i ≡ Some a → i + 1 ≡ length rows → rowid_of a <ℤ r
last_below rows None r i a ends above at end = absurd (let few : length rows ≡ 0 = ap length ends in omega (arith, few, end))
last_below rows (Some l) r i a ends above at end =
    let same : i ≡ ends.0 = omega (arith, end, ends.2) in
    let is : a ≡ ends.1 = at_once rows ends.0 a ends.1 (subst (λ k. slice_get rows k ≡ Some a) same at) ends.3 in
    subst (λ z. z <ℤ r) (sym (ap rowid_of is ∙ ends.4)) above

-- a row above the last one goes on rising
pub rise_push : (rows : List Stored) (last : Option ℤ) (x : Stored) → Rise rows → IsLast rows last → IfSome last (λ l. l <ℤ rowid_of x) → Rise (rows ++ x ∷ [])
rise_push rows last x rise ends above i a b at next = ⊎_elim
    (λ (old : slice_get rows (i + 1) ≡ Some b).
    let within = slice_get_within rows (i + 1) b old in
    ⊎_elim
    (λ (here : slice_get rows i ≡ Some a). rise i a b here old)
    (λ new. absurd (omega (arith, within, new.0)))
    (get_push rows x i a at))
    (λ new. ⊎_elim
    (λ (here : slice_get rows i ≡ Some a). subst (λ z. rowid_of a <ℤ rowid_of z) (sym new.1) (last_below rows last (rowid_of x) i a ends above here new.0))
    (λ also. absurd (omega (arith, new.0, also.0)))
    (get_push rows x i a at))
    (get_push rows x (i + 1) b next)

pub none_seen : (d : Database) (table : ℕ) (cells : Cells) → AreTaken d table cells [] → AreSeen d table cells None []
none_seen d table cells w = record { taken = w; keyed = λ k d less. absurd (omega (arith, less)); rise = λ i a b at next. absurd (cc); ends = refl }

is_some : (o : Option ℤ) (r : ℤ) → o ≡ Some r → IsSome o
is_some o r e = subst (λ (z : Option ℤ). IsSome z) (sym e) refl

pub one_seen : (d : Database) (table : ℕ) (old : Cells) (walk : Walk) (found : Found) (last now : Option ℤ) (rows : List Stored) → AreSeen d table old last rows
    → WalkMoves d old (Some found) walk → IsAbove last found.rowid now → AreSeen d table walk.cells now (rows ++ stored_of found walk.payload.items ∷ [])
one_seen d table old walk found last now rows w m above =
    let x = stored_of found walk.payload.items in
    let r = above.0 in
    let is : rowid_of x ≡ r = ap (λ (o : Option ℤ). unwrap_or o (pos 0)) above.2 in
    record {
      taken = one_taken d table old walk found rows w.taken m;
      keyed = All-push (λ row. IsSome row.rowid) rows x w.keyed (is_some found.rowid r above.2);
      rise = rise_push rows last x w.rise w.ends (subst (λ z. IfSome last (λ l. l <ℤ z)) (sym is) above.3);
      ends = subst (IsLast (rows ++ x ∷ [])) (sym (above.1 ∙ above.2)) (length rows, x, grow, get_here rows x [], is);
    }
  where
    grow : length (rows ++ stored_of found walk.payload.items ∷ []) ≡ length rows + 1
    grow = omega (arith, length-append rows (stored_of found walk.payload.items ∷ []))

pub all_seen : (d : Database) (table : ℕ) (old : Cells) (walk : Walk) (last : Option ℤ) (rows : List Stored) → AreSeen d table old last rows → WalkMoves d old None walk → HasKeyedRows d table rows
all_seen d table old walk last rows w m = record { stored = (all_taken d table old walk rows w.taken m).has; keyed = w.keyed; rise = w.rise }

nothing_is_some : IsSome {T = ℤ} None → ⊥
nothing_is_some e = cc

-- a row without a rowid, or with one that isn't above the last
pub not_above : (d : Database) (table limit : ℕ) (cells : Cells) (old : Cells) (last : Option ℤ) (rows : List Stored) (x : Stored) (e : ReadError) → AreSeen d table old last rows
    → AreTaken d table cells (rows ++ x ∷ []) → NotAbove last x.rowid e → ReadRefused d table limit (NoRows d table) e
not_above d table limit cells old last rows x (errors.Tree e) w taken h = absurd h
not_above d table limit cells old last rows x errors.TooLong w taken h = absurd h
not_above d table limit cells old last rows x errors.NoMemory w taken h = absurd h
not_above d table limit cells old last rows x errors.OtherKind w taken h = λ all has.
    let f = taken_first d table cells (rows ++ x ∷ []) all taken has.stored in
    let here : slice_get all (length rows) ≡ Some x = subst (λ z. slice_get z (length rows) ≡ Some x) (sym f.3) (get_left (rows ++ x ∷ []) f.1 (length rows) x (get_here rows x [])) in
    let some : IsSome x.rowid = All-contains (λ row. IsSome row.rowid) all x has.keyed (contained all (length rows) x here) in
    nothing_is_some (subst (λ (o : Option ℤ). IsSome o) h some)
not_above d table limit cells old last rows x errors.RowidOrder w taken h = λ all has.
    let f = taken_first d table cells (rows ++ x ∷ []) all taken has.stored in
    let ends = subst (IsLast rows) h.2 w.ends in
    let here : slice_get all (length rows) ≡ Some x = subst (λ z. slice_get z (length rows) ≡ Some x) (sym f.3) (get_left (rows ++ x ∷ []) f.1 (length rows) x (get_here rows x [])) in
    let before : slice_get all ends.0 ≡ Some ends.1 = subst (λ z. slice_get z ends.0 ≡ Some ends.1) (sym f.3) (get_left (rows ++ x ∷ []) f.1 ends.0 ends.1 (get_left rows (x ∷ []) ends.0 ends.1 ends.3)) in
    let less : rowid_of ends.1 <ℤ rowid_of x = has.rise ends.0 ends.1 x before (subst (λ k. slice_get all k ≡ Some x) ends.2 here) in
    let mine : rowid_of x ≡ h.1 = ap (λ (o : Option ℤ). unwrap_or o (pos 0)) h.3 in
    omega (arith, ints, less, mine, ends.4, h.4)
