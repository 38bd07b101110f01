use Rattle.sqcheck.proofs.Words.{Bool, List, count_by, length, not, subst, sym, with_items, with_items_is, ◌+◌, ◌<◌, ◌^◌, ◌∙◌, ◌≡◌, ◌≤◌}
use Rattle.sqcheck.proofs.uses.Uses.take.Goals as goal

pub invariant_of-self : goal.invariant_of-self
invariant_of-self c =
    let s = c.args.self.now in
    let same : (with_items s.marks c.mark.new.marks).items ≡ s.marks.items = with_items_is s.marks c.mark.new.marks (c.mark.ensures.length ∙ c.deref_mut.ensures.len) ∙ c.in_err-mark.ensures.unchanged ∙ c.deref_mut.ensures.value in
    record {
      few = subst (λ (l : List Bool). length l < 2 ^ 32) (sym same) s.few;
      counted = subst (λ (l : List Bool). s.counts.btree + s.counts.overflow + s.counts.free + count_by not l ≤ length l) (sym same) s.counted;
      trees = s.trees;
    }
