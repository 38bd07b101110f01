-- The valid frames of a log are those that were made under its header.
use Rattle.walcore.proofs.Below.{AllPass, AreMade, Contains, IsHeader, IsLog, IsValidFrame, List, NoChance, Passes, ap, arith, below_end, frame_at, frame_at-suc, frame_end, frame_end-suc, frame_end-zero, length, named_size, part, same_log, subst, suc, sym, take, take_add, word, word_in, word_same, zero, ℕ, ◌+◌, ◌∙◌, ◌≡◌, ◌≤◌}

-- a log whose header is that of one that was made names its page size
pub named_same : (size : ℕ) (e w : List ℕ) → IsHeader size e → take 32 w ≡ take 32 e → named_size w ≡ size
named_same size e w header head = word_same w e 32 8 head (omega arith) ∙ header.named

module _ (size : ℕ) (logs : List (List ℕ)) (e w : List ℕ) (are : AreMade size logs) (in_made : Contains logs e) (chance : NoChance logs w) (head : take 32 w ≡ take 32 e) where
  -- a made frame that stands in a log whose salts are those of a made log is that log's
  own_frame : (i : ℕ) → named_size w ≡ size → IsValidFrame size w i → (frame_end size i ≤ length e) × (part w (frame_at size i) (24 + size) ≡ part e (frame_at size i) (24 + size))
  own_frame i named valid =
      let Q : ℕ → Type 0 = λ k. (f : List ℕ) × Contains logs f × (frame_end k i ≤ length f) × (part w (frame_at k i) (24 + k) ≡ part f (frame_at k i) (24 + k)) in
      let from : Q size = subst Q named (chance.frame i (subst (λ (k : ℕ). IsValidFrame k w i) (sym named) valid)) in
      let f : List ℕ = from.0 in
      let at : ℕ = frame_at size i in
      let same : part w at (24 + size) ≡ part f at (24 + size) = from.3 in
      let log = are.each f from.1 in
      let p : Passes size w i = valid.each i valid.first (omega arith) in
      let within : i ≤ log.0 = below_end size i log.0 (omega (arith, from.2, log.1.whole)) in
      let q : Passes size f i = log.1.all i valid.first within in
      let salt_1 : word f 16 ≡ word e 16 = sym q.salts.0 ∙ sym (word_in w f at at (24 + size) 8 same (omega arith)) ∙ p.salts.0 ∙ word_same w e 32 16 head (omega arith) in
      let salt_2 : word f 20 ≡ word e 20 = sym q.salts.1 ∙ sym (word_in w f at at (24 + size) 12 same (omega arith)) ∙ p.salts.1 ∙ word_same w e 32 20 head (omega arith) in
      let is : f ≡ e = same_log size logs f e are from.1 in_made salt_1 salt_2 in (
        subst (λ (x : List ℕ). frame_end size i ≤ length x) is from.2,
        same ∙ ap (λ (x : List ℕ). part x at (24 + size)) is,
      )

  pub known : (n i : ℕ) → IsLog size e n → AllPass size w i → (i ≤ n) × (take (frame_end size i) w ≡ take (frame_end size i) e)
  known n zero log all = (omega arith, rw (frame_end-zero size) head)
  known n (suc i) log all =
      let before = known n i log (λ j a b. all j a (omega arith)) in
      let own = own_frame (suc i) (named_same size e w log.header head) (record { first = omega arith; each = all }) in
      let end : frame_end size (suc i) ≡ frame_end size i + (24 + size) = omega (arith, frame_end-suc size i) in
      let at : frame_at size (suc i) ≡ frame_end size i = frame_at-suc size i in
      let same : part w (frame_end size i) (24 + size) ≡ part e (frame_end size i) (24 + size) = subst (λ (a : ℕ). part w a (24 + size) ≡ part e a (24 + size)) at own.1 in (
        below_end size (suc i) n (omega (arith, own.0, log.whole)),
        rw end (take_add w (frame_end size i) (24 + size) ∙ (let e0 : take (frame_end size i) w ≡ take (frame_end size i) e = before.1 in cc) ∙ sym (take_add e (frame_end size i) (24 + size))),
      )
