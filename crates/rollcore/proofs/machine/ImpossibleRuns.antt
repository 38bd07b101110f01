-- What is no run of the machine.
use Rattle.rollcore.proofs.Between.{IsHeld, List, NoHalf, NoLostCommit, None, Option, Refuses, Show, [], after, appended, arith, closed, committed, first_opening, get_or, inl, inr, length, opened, opening, page, refl, refusal_of, same_count, same_page, start, subst, suc, three, true, zero, ℕ, ◌<◌, ◌∷◌, ◌≡◌, ◌≤◌}

held_three : (x y z : List ℕ) → length x ≡ 512 → length y ≡ 512 → length z ≡ 512 → IsHeld 512 (x ∷ y ∷ z ∷ [])
unfolding page
held_three x y z lx ly lz = record { some = omega arith; full = sized; few = omega arith }
  where
    sized : (p : ℕ) → 1 ≤ p → p ≤ 3 → length (page (x ∷ y ∷ z ∷ []) p) ≡ 512
    sized zero one le = absurd (omega arith)
    sized (suc zero) one le = lx
    sized (suc (suc zero)) one le = ly
    sized (suc (suc (suc zero))) one le = lz
    sized (suc (suc (suc (suc p)))) one le = absurd (omega arith)

-- of these two databases, none shows the other
not_one : (db w a b : List ℕ) → Show 512 db w (b ∷ []) → Show 512 db w (three a) → ⊥
not_one db w a b s t = let e : 1 ≡ 3 = same_count 512 db w (b ∷ []) (three a) s t in omega (arith, e)

pub no_lost_commit : NoLostCommit
no_lost_commit a b f1 f2 la lb v1 v2 h =
    let s0 = opened (start 512 (three a)) 0 in
    let s1 = committed s0 ((1, b) ∷ []) 1 in
    let h0 = first_opening h in
    let h1 = after s1 (λ mid step. step.1) h0 in
    let h2 = after (closed s1) (λ mid step. step) h1 in
    let o = opening h2 in
    at_one o.k o.from o.within o.shows
  where
    at_one : (k : ℕ) → 1 ≤ k → k < 2 → Show 512 f2.db f2.log (get_or (three a ∷ (b ∷ []) ∷ []) k []) → ⊥
    at_one zero le lt s = absurd (omega arith)
    at_one (suc zero) le lt s = not_one f2.db f2.log a b s v2
    at_one (suc (suc k)) le lt s = absurd (omega arith)

-- a commit that is refused by 15 leaves its database behind
stopped : {S : Type 0} (first : Option ℕ) (failed : S) (b a : ℕ) (old new : S) → first ≡ None → Refuses first true failed b a old 15 new → new ≡ failed
stopped {S = S} first failed b a old new e h = by (subst (λ (x : Option ℕ). Refuses x true failed b a old 15 new) e h)
  where
    by : Refuses None true failed b a old 15 new → new ≡ failed
    by (inl x) = absurd (let bad : 15 ≡ 14 = x.1 in omega (arith, bad))
    by (inr x) = x.2

fits : (content : List ℕ) → length content ≡ 512 → refusal_of 3 512 ((1, content) ∷ []) 1 1 ≡ None
fits content e = rw e refl

pub no_half : NoHalf
unfolding page
no_half a b f1 f2 la lb v1 ne v2 h =
    let s0 = opened (start 512 (three a)) 0 in
    let h0 = first_opening h in
    let h1 = after s0 (λ mid step. step) h0 in
    let h2 = after (closed (appended s0 ((1, b) ∷ []) 1)) (λ mid step. stopped _ _ _ _ _ mid (fits b lb) step) h1 in
    let h3 = after (closed (appended s0 ((1, b) ∷ []) 1)) (λ mid step. step) h2 in
    let o = opening h3 in
    neither o.k o.within o.shows
  where
    neither : (k : ℕ) → k < 2 → Show 512 f2.db f2.log (get_or (three a ∷ (b ∷ []) ∷ []) k []) → ⊥
    neither zero lt s = ne (same_page 512 f2.db f2.log (three a) (b ∷ a ∷ a ∷ []) s v2 (held_three a a a la la la) (held_three b a a lb la la) 1 (omega arith) (omega arith))
    neither (suc zero) lt s = let e : 1 ≡ 3 = same_count 512 f2.db f2.log (b ∷ []) (b ∷ a ∷ a ∷ []) s v2 in omega (arith, e)
    neither (suc (suc k)) lt s = absurd (omega arith)
