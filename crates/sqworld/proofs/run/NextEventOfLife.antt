-- A life goes on by one event.
use Rattle.sqworld.proofs.Words.{IsNoted, List, None, Option, Run, Some, [], ap, cons_option, filter_map, list_of, map-append, refl, subst, sym, ℕ, ◌++◌, ◌∙◌, ◌∷◌, ◌≡◌}
use Rattle.std.proofs.lemmas.List.Elements.{filter_map-append}
use Rattle.sqworld.specs.Lives.{Leads, IsLife}
use Rattle.sqworld.specs.declared.engine.Given.{Given}

-- the item of one
one_of : {X : Type 0} (h : Given → Option X) (g : Given) → filter_map h (g ∷ []) ≡ list_of (h g)
one_of {X} h g = of (h g)
  where
    of : (o : Option X) → cons_option o [] ≡ list_of o
    of None = refl
    of (Some x) = refl

items_more : {X : Type 0} (h : Given → Option X) (items new : List X) (gs : List Given) (g : Given) → items ≡ filter_map h gs → new ≡ items ++ list_of (h g) → new ≡ filter_map h (gs ++ g ∷ [])
items_more h items new gs g are more =
    more ∙ (ap (λ xs. xs ++ list_of (h g)) are ∙ (ap (λ ys. filter_map h gs ++ ys) (sym (one_of h g)) ∙ sym (filter_map-append h gs (g ∷ []))))

module _ {E V : Type 0} (Answered : V → E → Given → E → Type 0) (counted : E → ℕ) where
  leads_more : (first mid last : E) (events : List V) (gs : List Given) (counts : List ℕ) (event : V) (g : Given) → Leads Answered counted first events gs counts mid → Answered event mid g last
      → Leads Answered counted first (events ++ event ∷ []) (gs ++ g ∷ []) (counts ++ counted last ∷ []) last
  leads_more first mid last [] [] [] event g is answered = (last, subst (λ e. Answered event e g last) is answered, refl, refl)
  leads_more first mid last (e ∷ events) (x ∷ gs) (n ∷ counts) event g is answered = (is.0, is.1, is.2, leads_more is.0 mid last events gs counts event g is.3 answered)
  leads_more first mid last [] [] (n ∷ counts) event g is answered = absurd is
  leads_more first mid last [] (x ∷ gs) counts event g is answered = absurd is
  leads_more first mid last (e ∷ events) [] counts event g is answered = absurd is
  leads_more first mid last (e ∷ events) (x ∷ gs) [] event g is answered = absurd is

  pub life_none : (first : E) (run : Run) → run.replies.items ≡ [] → run.refused.items ≡ [] → run.found.items ≡ [] → run.crashed.items ≡ [] → IsLife Answered counted first [] run first
  life_none first run replies refused found crashed = record {
    given = [];
    replies = replies;
    found = found;
    crashed = crashed;
    leads = subst (λ counts. Leads Answered counted first [] [] counts first) (sym refused) refl;
  }

  pub life_more : (first mid last : E) (events : List V) (run new : Run) (event : V) (g : Given) → IsLife Answered counted first events run mid → Answered event mid g last → IsNoted g (counted last) run new
      → IsLife Answered counted first (events ++ event ∷ []) new last
  life_more first mid last events run new event g life answered noted = record {
    given = life.given ++ g ∷ [];
    replies = noted.replies ∙ (ap (λ rs. rs ++ g.reply ∷ []) life.replies ∙ sym (map-append (λ (x : Given). x.reply) life.given (g ∷ [])));
    found = items_more (λ (x : Given). x.found) run.found.items new.found.items life.given g life.found noted.found;
    crashed = items_more (λ (x : Given). x.crashed) run.crashed.items new.crashed.items life.given g life.crashed noted.crashed;
    leads = subst (λ counts. Leads Answered counted first (events ++ event ∷ []) (life.given ++ g ∷ []) counts last) (sym noted.refused)
        (leads_more first mid last events life.given run.refused.items event g life.leads answered);
  }
