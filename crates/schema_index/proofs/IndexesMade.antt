-- Indexes that are made one by one.
use Rattle.std.proofs.Common.{◌≡◌, ◌<◌, ◌+◌, ◌++◌, ◌||◌, ℕ, Bool, true, false, cond, List, [], ◌∷◌, drop, get_or, length, map, filter, ap, ◌∙◌}
use Rattle.std.specs.Prelude.{Vec}
use Rattle.std.specs.List.{list_any, fold}
use Rattle.std.specs.declared.alloc.Global.{Global}
use Rattle.std.proofs.lemmas.List.{map-append, drop_more}
use Rattle.schema_columns.specs.declared.keys.Key.{Key}
use Rattle.schema_index.specs.declared.columns.KeyColumn.{KeyColumn}

-- the columns of indexes
abbrev pub items_of : List (Vec KeyColumn Global) → List (List KeyColumn)
items_of indexes = map (λ i. i.items) indexes

pub one_more : (indexes : List (Vec KeyColumn Global)) (key : Vec KeyColumn Global) → items_of (indexes ++ key ∷ []) ≡ items_of indexes ++ key.items ∷ []
one_more indexes key =
    let items : Vec KeyColumn Global → List KeyColumn = λ i. i.items in
    map-append items indexes (key ∷ [])

-- one of them, from one on
pub any_next : (is : List KeyColumn → Bool) (indexes : List (Vec KeyColumn Global)) (n : ℕ) (x : Vec KeyColumn Global) → n < length indexes
    → list_any is (items_of (drop n indexes)) ≡ (is (get_or indexes n x).items || list_any is (items_of (drop (n + 1) indexes)))
any_next is indexes n x within = ap (λ z. list_any is (items_of z)) (drop_more indexes n x within)

taken : (step : List (List KeyColumn) → List KeyColumn → List (List KeyColumn)) (columns : Key → List KeyColumn) (made : List (List KeyColumn)) (b : Bool) (k : Key) (keys : List Key) → b ≡ true
    → fold step made (map columns (cond b (k ∷ keys) keys)) ≡ fold step (step made (columns k)) (map columns keys)
taken step columns made b k keys there = ap (λ z. fold step made (map columns (cond z (k ∷ keys) keys))) there

left : (step : List (List KeyColumn) → List KeyColumn → List (List KeyColumn)) (columns : Key → List KeyColumn) (made : List (List KeyColumn)) (b : Bool) (k : Key) (keys : List Key) → b ≡ false
    → fold step made (map columns (cond b (k ∷ keys) keys)) ≡ fold step made (map columns keys)
left step columns made b k keys gone = ap (λ z. fold step made (map columns (cond z (k ∷ keys) keys))) gone

-- the next key gets an index, or none
pub key_taken : (step : List (List KeyColumn) → List KeyColumn → List (List KeyColumn)) (columns : Key → List KeyColumn) (p : Key → Bool) (keys : List Key) (n : ℕ) (x : Key) (made : List (List KeyColumn)) → n < length keys → p (get_or keys n x) ≡ true
    → fold step made (map columns (filter p (drop n keys))) ≡ fold step (step made (columns (get_or keys n x))) (map columns (filter p (drop (n + 1) keys)))
key_taken step columns p keys n x made within there =
    ap (λ z. fold step made (map columns (filter p z))) (drop_more keys n x within)
    ∙ taken step columns made (p (get_or keys n x)) (get_or keys n x) (filter p (drop (n + 1) keys)) there

pub key_left : (step : List (List KeyColumn) → List KeyColumn → List (List KeyColumn)) (columns : Key → List KeyColumn) (p : Key → Bool) (keys : List Key) (n : ℕ) (x : Key) (made : List (List KeyColumn)) → n < length keys → p (get_or keys n x) ≡ false
    → fold step made (map columns (filter p (drop n keys))) ≡ fold step made (map columns (filter p (drop (n + 1) keys)))
key_left step columns p keys n x made within gone =
    ap (λ z. fold step made (map columns (filter p z))) (drop_more keys n x within)
    ∙ left step columns made (p (get_or keys n x)) (get_or keys n x) (filter p (drop (n + 1) keys)) gone
