-- A journal's end is read as the journal.
use Rattle.std.proofs.Common.{◌≡◌, ◌⊎◌, ⊎_elim, inl, refl, ℕ, ◌+◌, ◌-◌, ◌≤◌, List, length, take, drop, sym, ap, ◌∙◌, arith}
use Rattle.std.proofs.lemmas.List.{drop-drop}
use Rattle.byteorder.specs.Endian.{big_number}
use Rattle.sqval.specs.Bytes.{part, word}
use Rattle.fmt_super.specs.Supers.{IsEndOf, IsSuperName}

module _ (journal end : List ℕ) (is : IsEndOf journal end) where
  part_end : (at n : ℕ) → part end at n ≡ part journal (length journal - length end + at) n
  part_end at n = ap (λ (l : List ℕ). take n (drop at l)) (sym is.is) ∙ ap (take n) (drop-drop at (length journal - length end) journal)

  pub drop_end : (at to : ℕ) → length journal - length end + at ≡ to → drop at end ≡ drop to journal
  drop_end at to e = ap (drop at) (sym is.is) ∙ drop-drop at (length journal - length end) journal ∙ ap (λ (k : ℕ). drop k journal) e

  pub part_at : (at to n : ℕ) → length journal - length end + at ≡ to → part end at n ≡ part journal to n
  part_at at to n e = part_end at n ∙ ap (λ (k : ℕ). part journal k n) e

  pub word_at : (at to : ℕ) → length journal - length end + at ≡ to → word end at ≡ word journal to
  word_at at to e = ap (big_number 4) (part_at at to 4 e)

  pub named_by_end : (name : List ℕ) → IsSuperName end name → IsSuperName journal name
  named_by_end name n = record {
    some = n.some;
    most = n.most;
    within = omega (arith, n.within, is.within);
    is = sym (part_at (length end - 16 - length name) (length journal - 16 - length name) (length name) (omega (arith, n.within, is.within))) ∙ n.is;
    counted = sym (word_at (length end - 16) (length journal - 16) (omega (arith, n.within, is.within))) ∙ n.counted;
    summed = sym (word_at (length end - 12) (length journal - 12) (omega (arith, n.within, is.within))) ∙ n.summed;
    ends = sym (drop_end (length end - 8) (length journal - 8) (omega (arith, n.within, is.within))) ∙ n.ends;
    begins = n.begins;
  }

  fits : (name : List ℕ) → IsSuperName journal name → length name + 16 ≤ length end
  fits name n = ⊎_elim (λ (all : length end ≡ length journal). omega (arith, n.within, all)) (λ (some : 528 ≤ length end). omega (arith, n.most, some)) is.enough

  pub names_by_end : (name : List ℕ) → IsSuperName journal name → IsSuperName end name
  names_by_end name n =
      let within : length name + 16 ≤ length end = fits name n in record {
        some = n.some;
        most = n.most;
        within = within;
        is = part_at (length end - 16 - length name) (length journal - 16 - length name) (length name) (omega (arith, within, is.within)) ∙ n.is;
        counted = word_at (length end - 16) (length journal - 16) (omega (arith, within, is.within)) ∙ n.counted;
        summed = word_at (length end - 12) (length journal - 12) (omega (arith, within, is.within)) ∙ n.summed;
        ends = drop_end (length end - 8) (length journal - 8) (omega (arith, within, is.within)) ∙ n.ends;
        begins = n.begins;
      }

-- a journal is its own end
pub whole_end : (b : List ℕ) → IsEndOf b b
whole_end b = let none : length b - length b ≡ 0 = omega arith in record { within = omega arith; is = ap (λ (k : ℕ). drop k b) none; enough = inl refl }
