use Rattle.crashdisk.proofs.Below.{Bool, Bor, Global, List, MatchOption, None, Option, Some, Vec, [], ap, cond, eq-eqb, eqb_tells, get_or, inl, inr, last_torn, length, map, map-append, nat_eq, subst, sym, take, take_more, torn_more, ℕ, ◌++◌, ◌+◌, ◌<◌, ◌∙◌, ◌∷◌, ◌≡◌}
use Rattle.crashdisk.proofs.choice.FileChoice.torn_bytes.Goals as goal

pair_of : ℕ × Vec ℕ Global → ℕ × List ℕ
pair_of entry = (entry.0, entry.1.items)

step : (items all : List (ℕ × Vec ℕ Global)) (i k : ℕ) (e : ℕ × Vec ℕ Global) → items ≡ all → i < length items → e ≡ get_or items i e
    → last_torn (map (λ entry. (entry.0, entry.1.items)) (take (i + 1) all)) k ≡ cond (nat_eq e.0 k) (Some e.1.items) (last_torn (map (λ entry. (entry.0, entry.1.items)) (take i all)) k)
step items all i k e same lt is =
    ap (λ (l : List (ℕ × Vec ℕ Global)). last_torn (map (λ entry. (entry.0, entry.1.items)) (take (i + 1) l)) k) (sym same)
    ∙ ap (λ (l : List (ℕ × Vec ℕ Global)). last_torn (map (λ entry. (entry.0, entry.1.items)) l) k) (take_more items i e lt ∙ ap (λ (x : ℕ × Vec ℕ Global). take i items ++ x ∷ []) (sym is))
    ∙ ap (λ (l : List (ℕ × List ℕ)). last_torn l k) (map-append (λ entry. (entry.0, entry.1.items)) (take i items) (e ∷ []))
    ∙ torn_more (map (λ entry. (entry.0, entry.1.items)) (take i items)) (e.0, e.1.items) k
    ∙ ap (λ (l : List (ℕ × Vec ℕ Global)). cond (nat_eq e.0 k) (Some e.1.items) (last_torn (map (λ entry. (entry.0, entry.1.items)) (take i l)) k)) same

here : (a b : ℕ) (n : Option (List ℕ)) (x : List ℕ) → a ≡ b → cond (nat_eq a b) (Some x) n ≡ Some x
here a b n x is = ap (λ (t : Bool). cond t (Some x) n) (eq-eqb a b is)

there : (a b : ℕ) (n : Option (List ℕ)) (x : List ℕ) → (a ≡ b → ⊥) → cond (nat_eq a b) (Some x) n ≡ n
there a b n x ne = elim (eqb_tells a b) [ inl yes_ ↦ absurd (ne yes_.1) | inr no_ ↦ ap (λ (t : Bool). cond t (Some x) n) no_.0 ]

pub loop-entry-preserved : goal.loop-entry-preserved
loop-entry-preserved c =
    let all = c.args.self.now.torn.items in
    let i = c.loop-entry.entry-index in
    let k = c.args.k in
    let e = c.entry-item.result in
    let was : Option (List ℕ) = last_torn (map (λ entry. (entry.0, entry.1.items)) (take i all)) k in
    let now : Option (List ℕ) = last_torn (map (λ entry. (entry.0, entry.1.items)) (take (i + 1) all)) k in
    let more = step c.deref-entry-items.result.now all i k e c.deref-entry-items.ensures.value c.loop-entry-test.true c.entry-item.is in
    elim c.if-entry-k.branch [
      | goal.then-entry-k w ↦ subst (λ (found : Option (Bor (List ℕ))). MatchOption found (now ≡ None) (λ bytes. now ≡ Some bytes.now)) (sym w.found-is) (more ∙ here e.0 k was e.1.items w.if-entry-k.true ∙ ap (λ (x : List ℕ). Some x) (sym w.as_slice.ensures.value))
      | goal.else-entry-k w ↦
          subst (λ (found : Option (Bor (List ℕ))). MatchOption found (now ≡ None) (λ bytes. now ≡ Some bytes.now)) (sym w.found-is)
          (subst (λ (t : Option (List ℕ)). MatchOption c.loop-entry.found (t ≡ None) (λ bytes. t ≡ Some bytes.now)) (sym (more ∙ there e.0 k was e.1.items w.if-entry-k.false)) c.loop-entry.invariant)
    ]
