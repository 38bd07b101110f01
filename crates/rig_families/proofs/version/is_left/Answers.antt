use Rattle.std.proofs.Common.{◌≡◌, inl, inr, ℕ, ◌<◌, true, false, List, [], ◌∷◌, ◌++◌, length, get_or, length-append, sym, ◌∙◌, ap, subst, arith}
use Rattle.std.proofs.Math.ListN.{get_or-append}
use Rattle.std.proofs.Math.Seq.{get_or-append_seam}
use Rattle.std.proofs.lemmas.Bool.{cases_lt}
use Rattle.std.proofs.lemmas.List.{get_or_default}
use Rattle.std.specs.List.{Contains}
use Rattle.rig_play.specs.Plays.{files_of, epoch_now, epochs_of}
use Rattle.rig_play.specs.declared.meta.Epoch.{Epoch}
use Rattle.rig_play.specs.declared.meta.Holds.TheVariants.{Any}
use Rattle.rig_images.proofs.TearingPlaces.{has_now}
use Rattle.rig_families.proofs.version.is_left.Goals as goal

-- one of a list with one more is of the list, or the last one
of_more : {C : Type 0} (xs : List Epoch) (x e : Epoch) → Contains (xs ++ x ∷ []) e → ((k : ℕ) → k < length xs → get_or xs k e ≡ e → C) → (x ≡ e → C) → C
of_more xs x e (k, less, at) first last = elim (cases_lt k (length xs)) [
  | inl below ↦ first k below (sym (get_or-append xs (x ∷ []) e k below) ∙ at)
  | inr past ↦
      let end : k ≡ length xs = omega (arith, past, less, length-append xs (x ∷ [])) in
      last (sym (get_or-append_seam xs x [] e) ∙ ap (λ (n : ℕ). get_or (xs ++ x ∷ []) n e) (sym end) ∙ at)
]

pub loop-i-preserved : goal.loop-i-preserved
loop-i-preserved c = λ k e below same.
    let earlier = c.earlier-earlier.result.now in
    let any : Epoch = record { db = Any; wal = Any; journal = Any } in
    elim (cases_lt k c.loop-i.i) [
      | inl less ↦ c.loop-i.invariant k e less same
      | inr past ↦
          let at : k ≡ c.loop-i.i = omega (arith, past, below) in
          let here : get_or earlier c.loop-i.i any ≡ c.args.epoch =
          get_or_default earlier c.loop-i.i any e c.loop-i-test.true ∙ ap (λ (n : ℕ). get_or earlier n e) (sym at) ∙ same in
          absurd (let no : false ≡ true = c.if-are_same.ensures.1 here in cc no)
    ]

pub returns : goal.returns
returns c =
    let s = files_of c.args.player.now in
    let epoch = c.args.epoch in
    let end : c.loop-i.i ≡ length s.earlier = omega (arith, c.loop-i.auto.i-end, c.loop-i-test.false, ap (λ (l : List Epoch). length l) c.earlier-earlier.ensures) in (
      λ yes. subst (λ (x : Epoch). Contains (epochs_of s) x) (sym c.epoch.ensures ∙ c.are_same-2.ensures.0 yes) (has_now s),
      λ has. of_more s.earlier (epoch_now s) epoch has
          (λ k less at. absurd (c.loop-i.invariant k epoch (omega (arith, end, less)) (ap (λ (l : List Epoch). get_or l k epoch) c.earlier-earlier.ensures ∙ at)))
          (λ last. c.are_same-2.ensures.1 (c.epoch.ensures ∙ last)),
    )
