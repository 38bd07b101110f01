-- The moments of a run that goes on.
use Rattle.sqworld.proofs.Words.{Bool, CrashedLog, Found, IsComplete, IsNoted, List, Moment, None, Option, Reply, Run, Some, WorldKind, [], ap, arith, cond, count_by, false, is_some, lacks, length, length-append, list_of, moment, moments, moments_of, refl, rest, sym, taken, true, ℕ, ◌&&◌, ◌++◌, ◌+◌, ◌∙◌, ◌∷◌, ◌≡◌}
use Rattle.std.proofs.lemmas.List.Sums.{sum_by-cons, sum_by-append}
use Rattle.sqworld.specs.declared.engine.Given.{Given}

pub none_due : (tears : Bool) → let none : ℕ = 0 in none ≡ cond tears 0 0
none_due true = refl
none_due false = refl

-- ---- What events take of a list that has an item for each that takes one, or none at all.

none_taken : {X : Type 0} (xs : List X) → taken xs false ≡ None
none_taken [] = refl
none_taken (x ∷ xs) = refl

all_rest : {X : Type 0} (xs : List X) → rest xs false ≡ xs
all_rest [] = refl
all_rest (x ∷ xs) = refl

none_lacks : {X : Type 0} (xs : List X) → lacks xs false ≡ false
none_lacks [] = refl
none_lacks (x ∷ xs) = refl

taken_front : {X : Type 0} (has : Bool) (xs ys : List X) (takes : Bool) (m : ℕ) → length xs ≡ cond has (cond takes 1 0 + m) 0 → (has ≡ false → ys ≡ []) → taken (xs ++ ys) takes ≡ taken xs takes
taken_front has (x ∷ xs) ys true m h none = refl
taken_front has (x ∷ xs) ys false m h none = refl
taken_front has [] ys false m h none = none_taken ys
taken_front true [] ys true m h none = absurd (omega arith)
taken_front false [] ys true m h none = ap (λ zs. taken zs true) (none refl)

rest_front : {X : Type 0} (has : Bool) (xs ys : List X) (takes : Bool) (m : ℕ) → length xs ≡ cond has (cond takes 1 0 + m) 0 → (has ≡ false → ys ≡ []) → rest (xs ++ ys) takes ≡ rest xs takes ++ ys
rest_front has (x ∷ xs) ys true m h none = refl
rest_front has (x ∷ xs) ys false m h none = refl
rest_front has [] ys false m h none = all_rest ys
rest_front true [] ys true m h none = absurd (omega arith)
rest_front false [] ys true m h none = ap (λ zs. rest zs true) (none refl) ∙ sym (none refl)

rest_long : {X : Type 0} (has : Bool) (xs : List X) (takes : Bool) (m : ℕ) → length xs ≡ cond has (cond takes 1 0 + m) 0 → length (rest xs takes) ≡ cond has m 0
rest_long true (x ∷ xs) true m h = omega arith
rest_long true (x ∷ xs) false m h = omega arith
rest_long false (x ∷ xs) takes m h = absurd (omega arith)
rest_long true [] true m h = absurd (omega arith)
rest_long true [] false m h = omega arith
rest_long false [] takes m h = refl

none_lacking : {X : Type 0} (xs ys : List X) (takes : Bool) (m : ℕ) → length xs ≡ cond takes 1 0 + m → lacks (xs ++ ys) takes ≡ false
none_lacking (x ∷ xs) ys takes m h = refl
none_lacking [] ys true m h = absurd (omega arith)
none_lacking [] ys false m h = none_lacks ys

none_lacked : {X : Type 0} (xs : List X) (takes : Bool) (m : ℕ) → length xs ≡ cond takes 1 0 + m → lacks xs takes ≡ false
none_lacked (x ∷ xs) takes m h = refl
none_lacked [] true m h = absurd (omega arith)
none_lacked [] false m h = refl

-- of one item, or none
one_lacked : {X : Type 0} (o : Option X) (b : Bool) → is_some o ≡ b → lacks (list_of o) b ≡ false
one_lacked None false h = refl
one_lacked None true h = absurd (cc h)
one_lacked (Some x) b h = refl

one_taken : {X : Type 0} (o : Option X) (b : Bool) → is_some o ≡ b → taken (list_of o) b ≡ o
one_taken None b h = refl
one_taken (Some x) true h = refl
one_taken (Some x) false h = absurd (cc h)

one_left : {X : Type 0} (tears : Bool) (o : Option X) (b : Bool) → is_some o ≡ (tears && b) → taken (list_of o) b ≡ o
one_left tears None b h = refl
one_left tears (Some x) true h = refl
one_left true (Some x) false h = absurd (cc h)
one_left false (Some x) false h = absurd (cc h)

none_left : {X : Type 0} (tears : Bool) (o : Option X) (b : Bool) → is_some o ≡ (tears && b) → tears ≡ false → list_of o ≡ []
none_left tears None b h e = refl
none_left true (Some x) b h e = absurd (cc e)
none_left false (Some x) b h e = absurd (cc h)

one_item : {X : Type 0} (o : Option X) (b : Bool) → is_some o ≡ b → length (list_of o) ≡ cond b 1 0
one_item None false h = refl
one_item None true h = absurd (cc h)
one_item (Some x) true h = refl
one_item (Some x) false h = absurd (cc h)

-- ---- One event more.

counted_first : {E : Type 0} (p : E → Bool) (e : E) (es : List E) → count_by p (e ∷ es) ≡ cond (p e) 1 0 + count_by p es
counted_first p e es = sum_by-cons (λ x. cond (p x) 1 0) e es

counted_more : {E : Type 0} (p : E → Bool) (es : List E) (e : E) → count_by p (es ++ e ∷ []) ≡ count_by p es + cond (p e) 1 0
counted_more p es e = sum_by-append (λ x. cond (p x) 1 0) es (e ∷ []) ∙ ap (λ n. count_by p es + n) (sum_by-cons (λ x. cond (p x) 1 0) e [] ∙ omega arith)

crashed_more : {E : Type 0} (p : E → Bool) (tears : Bool) (es : List E) (e : E) (n m : ℕ) → n ≡ cond tears (count_by p es) 0 → m ≡ cond (tears && p e) 1 0 → n + m ≡ cond tears (count_by p (es ++ e ∷ [])) 0
crashed_more p true es e n m h i = let c = counted_more p es e in omega (arith, c)
crashed_more p false es e n m h i = omega arith

module _ {E V : Type 0} (kind : WorldKind E V) where
  joined : (e : V) (r : Reply) (n : ℕ) (b c : Bool) (f g : Option Found) (k l : Option CrashedLog) (ms ns end : List (Moment kind.Act)) → b ≡ false → c ≡ false → f ≡ g → k ≡ l → ms ≡ ns ++ end
      → cond b [] (moment kind e f k r n ∷ ms) ≡ cond c [] (moment kind e g l r n ∷ ns) ++ end
  joined e r n false false f g k l ms ns end hb hc hf hk hm =
      ap (λ x. moment kind e x k r n ∷ ms) hf ∙ (ap (λ x. moment kind e g x r n ∷ ms) hk ∙ ap (λ xs. moment kind e g l r n ∷ xs) hm)
  joined e r n true c f g k l ms ns end hb hc hf hk hm = absurd (cc hb)
  joined e r n false true f g k l ms ns end hb hc hf hk hm = absurd (cc hc)

  -- one moment
  one_moment : (tears : Bool) (e : V) (r : Reply) (n : ℕ) (found : Option Found) (crashed : Option CrashedLog) → is_some found ≡ kind.is_opening e → is_some crashed ≡ (tears && kind.is_crash e)
      → moments kind (e ∷ []) (r ∷ []) (n ∷ []) (list_of found) (list_of crashed) ≡ moment kind e found crashed r n ∷ []
  one_moment tears e r n found crashed f c =
      joined e r n (lacks (list_of found) (kind.is_opening e)) false (taken (list_of found) (kind.is_opening e)) found (taken (list_of crashed) (kind.is_crash e)) crashed [] [] []
      (one_lacked found (kind.is_opening e) f) refl (one_taken found (kind.is_opening e) f) (one_left tears crashed (kind.is_crash e) c) refl

  one_more : (tears : Bool) (es : List V) (rs : List Reply) (cs : List ℕ) (fs : List Found) (ks : List CrashedLog) (e : V) (r : Reply) (c : ℕ) (gs : List Found) (ls : List CrashedLog)
      → length rs ≡ length es → length cs ≡ length es → length fs ≡ count_by kind.is_opening es → length ks ≡ cond tears (count_by kind.is_crash es) 0 → (tears ≡ false → ls ≡ [])
      → moments kind (es ++ e ∷ []) (rs ++ r ∷ []) (cs ++ c ∷ []) (fs ++ gs) (ks ++ ls) ≡ moments kind es rs cs fs ks ++ moments kind (e ∷ []) (r ∷ []) (c ∷ []) gs ls
  one_more tears [] [] [] [] [] e r c gs ls h i j k none = refl
  one_more tears [] (x ∷ rs) cs fs ks e r c gs ls h i j k none = absurd (omega arith)
  one_more tears [] [] (x ∷ cs) fs ks e r c gs ls h i j k none = absurd (omega arith)
  one_more tears [] [] [] (f ∷ fs) ks e r c gs ls h i j k none = absurd (omega arith)
  one_more tears [] [] [] [] (l ∷ ks) e r c gs ls h i j k none = let d = none_due tears in absurd (omega (arith, d))
  one_more tears (x ∷ es) [] cs fs ks e r c gs ls h i j k none = absurd (omega arith)
  one_more tears (x ∷ es) (y ∷ rs) [] fs ks e r c gs ls h i j k none = absurd (omega arith)
  one_more tears (x ∷ es) (y ∷ rs) (n ∷ cs) fs ks e r c gs ls h i j k none =
      let opens = kind.is_opening x in
      let stops = kind.is_crash x in
      let found : length fs ≡ cond opens 1 0 + count_by kind.is_opening es = j ∙ counted_first kind.is_opening x es in
      let left : length ks ≡ cond tears (cond stops 1 0 + count_by kind.is_crash es) 0 = k ∙ ap (λ m. cond tears m 0) (counted_first kind.is_crash x es) in
      let all : true ≡ false → gs ≡ [] = λ never. absurd (cc never) in
      joined x y n (lacks (fs ++ gs) opens) (lacks fs opens) (taken (fs ++ gs) opens) (taken fs opens) (taken (ks ++ ls) stops) (taken ks stops)
      (moments kind (es ++ e ∷ []) (rs ++ r ∷ []) (cs ++ c ∷ []) (rest (fs ++ gs) opens) (rest (ks ++ ls) stops)) (moments kind es rs cs (rest fs opens) (rest ks stops)) (moments kind (e ∷ []) (r ∷ []) (c ∷ []) gs ls)
      (none_lacking fs gs opens (count_by kind.is_opening es) found) (none_lacked fs opens (count_by kind.is_opening es) found)
      (taken_front true fs gs opens (count_by kind.is_opening es) found all) (taken_front tears ks ls stops (count_by kind.is_crash es) left none)
      (ap (λ xs. moments kind (es ++ e ∷ []) (rs ++ r ∷ []) (cs ++ c ∷ []) xs (rest (ks ++ ls) stops)) (rest_front true fs gs opens (count_by kind.is_opening es) found all)
      ∙ (ap (λ xs. moments kind (es ++ e ∷ []) (rs ++ r ∷ []) (cs ++ c ∷ []) (rest fs opens ++ gs) xs) (rest_front tears ks ls stops (count_by kind.is_crash es) left none)
      ∙ one_more tears es rs cs (rest fs opens) (rest ks stops) e r c gs ls (omega arith) (omega arith) (rest_long true fs opens (count_by kind.is_opening es) found) (rest_long tears ks stops (count_by kind.is_crash es) left) none))

  -- an event more, answered and noted
  pub moments_more : (tears : Bool) (es : List V) (run new : Run) (e : V) (given : Given) (n : ℕ) → IsComplete kind tears es run → IsNoted given n run new
      → is_some given.found ≡ kind.is_opening e → is_some given.crashed ≡ (tears && kind.is_crash e)
      → moments_of kind (es ++ e ∷ []) new ≡ moments_of kind es run ++ moment kind e given.found given.crashed given.reply n ∷ []
  moments_more tears es run new e given n complete noted f c =
      ap (λ rs. moments kind (es ++ e ∷ []) rs new.refused.items new.found.items new.crashed.items) noted.replies
      ∙ (ap (λ cs. moments kind (es ++ e ∷ []) (run.replies.items ++ given.reply ∷ []) cs new.found.items new.crashed.items) noted.refused
      ∙ (ap (λ fs. moments kind (es ++ e ∷ []) (run.replies.items ++ given.reply ∷ []) (run.refused.items ++ n ∷ []) fs new.crashed.items) noted.found
      ∙ (ap (λ ks. moments kind (es ++ e ∷ []) (run.replies.items ++ given.reply ∷ []) (run.refused.items ++ n ∷ []) (run.found.items ++ list_of given.found) ks) noted.crashed
      ∙ (one_more tears es run.replies.items run.refused.items run.found.items run.crashed.items e given.reply n (list_of given.found) (list_of given.crashed) complete.replies complete.refused complete.found complete.crashed (none_left tears given.crashed (kind.is_crash e) c)
      ∙ ap (λ ms. moments kind es run.replies.items run.refused.items run.found.items run.crashed.items ++ ms) (one_moment tears e given.reply n given.found given.crashed f c)))))

  pub complete_more : (tears : Bool) (es : List V) (run new : Run) (e : V) (given : Given) (n : ℕ) → IsComplete kind tears es run → IsNoted given n run new
      → is_some given.found ≡ kind.is_opening e → is_some given.crashed ≡ (tears && kind.is_crash e) → IsComplete kind tears (es ++ e ∷ []) new
  complete_more tears es run new e given n complete noted f c = record {
    replies = ap length noted.replies ∙ (length-append run.replies.items (given.reply ∷ []) ∙ (ap (λ k. k + 1) complete.replies ∙ sym (length-append es (e ∷ []))));
    refused = ap length noted.refused ∙ (length-append run.refused.items (n ∷ []) ∙ (ap (λ k. k + 1) complete.refused ∙ sym (length-append es (e ∷ []))));
    found = ap length noted.found ∙ (length-append run.found.items (list_of given.found)
        ∙ (let a = complete.found in let b = one_item given.found (kind.is_opening e) f in let d = counted_more kind.is_opening es e in omega (arith, a, b, d)));
    crashed = ap length noted.crashed ∙ (length-append run.crashed.items (list_of given.crashed)
        ∙ crashed_more kind.is_crash tears es e (length run.crashed.items) (length (list_of given.crashed)) complete.crashed (one_item given.crashed (tears && kind.is_crash e) c));
  }
