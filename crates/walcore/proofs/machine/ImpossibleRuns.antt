-- What is no run of the machine.
use Rattle.walcore.proofs.Below.{Database, List, NoEarlyComplete, NoLostSync, NoOtherPage, NoReturn, NoSkipped, Show, [], after, ap, arith, begun, cases_eq, committed, first_opening, front_exists, get_or, get_or-append, get_or-append_seam, get_or-take, gone, length, length-append, length-take-le, named_size, opened, opening, page, start, suc, sym, synced, take, view_unique, zero, ℕ, ⊎_elim, ◌++◌, ◌+◌, ◌<◌, ◌∙◌, ◌∷◌, ◌≡◌, ◌≢◌, ◌≤◌}

-- a file and a log show one database
pub show_unique : (size : ℕ) (db w : List ℕ) (d e : Database) → Show size db w d → Show size db w e → d ≡ e
show_unique size db w d e sd se =
    let f = front_exists (named_size w) w in
    view_unique size db w f.0 d e (sd f.0 f.1).1 (se f.0 f.1).1

abbrev one_page : List ℕ → Database
one_page a = a ∷ []

-- of three databases of one page, the last two aren't this one
not_later : (a b c : List ℕ) (k : ℕ) → 1 ≤ k → k < 3 → a ≢ b → a ≢ c → get_or (one_page a ∷ one_page b ∷ one_page c ∷ []) k [] ≢ one_page a
not_later a b c zero le lt ab ac e = absurd (omega arith)
not_later a b c (suc zero) le lt ab ac e = ab (cc)
not_later a b c (suc (suc zero)) le lt ab ac e = ac (cc)
not_later a b c (suc (suc (suc k))) le lt ab ac e = absurd (omega arith)

pub no_lost_sync : NoLostSync
no_lost_sync a b c d f1 f2 f3 la lb lc ld v1 ab ac v2 h =
    let s0 = opened (start 512 (a ∷ [])) 0 in
    let s1 = committed s0 ((1, b) ∷ []) 1 in
    let s2 = synced s1 in
    let s3 = committed s2 ((1, c) ∷ []) 1 in
    let h0 = first_opening h in
    let h1 = after s1 (λ mid step. step.1) h0 in
    let h2 = after s2 (λ mid step. step.1) h1 in
    let h3 = after s3 (λ mid step. step.1) h2 in
    let h4 = after (gone s3) (λ mid step. step) h3 in
    let o = opening h4 in
    not_later a b c o.k o.from o.within ab ac (show_unique 512 f2.db f2.log _ _ o.shows v2)

same_page : (a b : List ℕ) → one_page a ≡ one_page b → a ≡ b
same_page a b e = cc

none_of_two : (a b c : List ℕ) (k : ℕ) → k < 3 → a ≢ b → get_or (one_page a ∷ one_page b ∷ (b ∷ c ∷ []) ∷ []) k [] ≢ a ∷ c ∷ []
none_of_two a b c zero lt ab e = absurd (cc)
none_of_two a b c (suc zero) lt ab e = absurd (cc)
none_of_two a b c (suc (suc zero)) lt ab e = ab (cc)
none_of_two a b c (suc (suc (suc k))) lt ab e = absurd (omega arith)

pub no_skipped : NoSkipped
unfolding page
no_skipped a b c d f1 f2 f3 la lb lc ld v1 ab v2 h =
    let s0 = opened (start 512 (a ∷ [])) 0 in
    let s1 = committed s0 ((1, b) ∷ []) 1 in
    let s2 = committed s1 ((2, c) ∷ []) 2 in
    let h0 = first_opening h in
    let h1 = after s1 (λ mid step. step.1) h0 in
    let h2 = after s2 (λ mid step. step.1) h1 in
    let h3 = after (gone s2) (λ mid step. step) h2 in
    let o = opening h3 in
    none_of_two a b c o.k o.within ab (show_unique 512 f2.db f2.log _ _ o.shows v2)

-- a history cut behind database k, with another one behind it: nothing else stands there
at_or_behind : (h : List Database) (e d : Database) (k j : ℕ) → k < length h → k ≤ j → j < length (take (k + 1) h ++ e ∷ []) → get_or h k [] ≢ d → e ≢ d → get_or (take (k + 1) h ++ e ∷ []) j [] ≢ d
at_or_behind h e d k j lt le within not_at not_e is =
    let long : length (take (k + 1) h) ≡ k + 1 = length-take-le (k + 1) h (omega arith) in
    let len : length (take (k + 1) h ++ e ∷ []) ≡ length (take (k + 1) h) + 1 = length-append (take (k + 1) h) (e ∷ []) in
    ⊎_elim
    (λ z. not_at (sym (get_or-append (take (k + 1) h) (e ∷ []) [] j (omega arith) ∙ (ap (λ i. get_or (take (k + 1) h) i []) z ∙ get_or-take (k + 1) h k [] (omega arith))) ∙ is))
    (λ z. let end : j ≡ length (take (k + 1) h) = omega arith in not_e (sym (ap (λ i. get_or (take (k + 1) h ++ e ∷ []) i []) end ∙ get_or-append_seam (take (k + 1) h) e [] []) ∙ is))
    (cases_eq j k)

pub no_return : NoReturn
no_return a b c d f1 f2 f3 la lb lc ld v1 bd cd v2 v3 h =
    let s0 = opened (start 512 (a ∷ [])) 0 in
    let s1 = committed s0 ((1, b) ∷ []) 1 in
    let s2 = committed s1 ((1, c) ∷ []) 1 in
    let s3 = committed s2 ((1, d) ∷ []) 1 in
    let h0 = first_opening h in
    let h1 = after s1 (λ mid step. step.1) h0 in
    let h2 = after s2 (λ mid step. step.1) h1 in
    let h3 = after s3 (λ mid step. step.1) h2 in
    let h4 = after (gone s3) (λ mid step. step) h3 in
    let o = opening h4 in
    let s5 = opened (gone s3) o.k in
    let s6 = begun s5 in
    let s7 = committed s6 ((1, c) ∷ []) 1 in
    let h6 = after s6 (λ mid step. step.2) o.rest in
    let h7 = after s6 (λ mid step. step.2) h6 in
    let h8 = after s7 (λ mid step. step.1) h7 in
    let h9 = after (gone s7) (λ mid step. step) h8 in
    let p = opening h9 in
    let is_b : get_or s3.history o.k [] ≡ one_page b = show_unique 512 f2.db f2.log _ _ o.shows v2 in
    let is_d : get_or s7.history p.k [] ≡ one_page d = show_unique 512 f3.db f3.log _ _ p.shows v3 in
    at_or_behind s3.history (one_page c) (one_page d) o.k p.k o.within p.from p.within (λ e. bd (same_page b d (sym is_b ∙ e))) (λ e. cd (same_page c d e)) is_d

pub no_other_page : NoOtherPage
unfolding page
no_other_page a b c d f1 f2 f3 la lb lc ld v1 ab h =
    let s0 = opened (start 512 (a ∷ [])) 0 in
    let s1 = begun s0 in
    let s2 = committed s1 ((1, b) ∷ []) 1 in
    let h0 = first_opening h in
    let h1 = after s1 (λ mid step. step.2) h0 in
    let h2 = after s2 (λ mid step. step.1) h1 in
    ab (sym h2.runs.2.1.1.1)

pub no_early_complete : NoEarlyComplete
no_early_complete a b c d f1 f2 f3 la lb lc ld v1 h =
    let s0 = opened (start 512 (a ∷ [])) 0 in
    let s1 = committed s0 ((1, b) ∷ []) 1 in
    let s2 = begun s1 in
    let s3 = committed s2 ((1, c) ∷ []) 1 in
    let h0 = first_opening h in
    let h1 = after s1 (λ mid step. step.1) h0 in
    let h2 = after s2 (λ mid step. step.2) h1 in
    let h3 = after s3 (λ mid step. step.1) h2 in
    let complete = h3.runs.2.1.1.1 in
    absurd (cc complete)
