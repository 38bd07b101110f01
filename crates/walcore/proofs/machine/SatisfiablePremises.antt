-- The premises on a run can be met.
use Rattle.walcore.proofs.Words.{Answer, Contains, List, NoChance, Opens, Permits, [], arith, nothing, refl, ℕ}

pub made_passes : (logs : List (List ℕ)) (e : List ℕ) → Contains logs e → NoChance logs e
made_passes logs e has = record {
  header = λ h. (e, has, refl);
  frame = λ i v. (e, has, (v.each i v.first (omega arith)).whole, refl);
}

pub first_permits : (salts : ℕ × ℕ) (db : List ℕ) (answer : Answer) → Permits nothing (Opens salts (record { db = db; log = [] })) answer
first_permits salts db answer = (
  record {
    header = λ h. absurd (let w = h.whole in omega arith);
    frame = λ i v. absurd (let w = (v.each i v.first (omega arith)).header.whole in omega arith);
  },
  λ e has a b. absurd (let lt = has.1 in omega arith),
)
