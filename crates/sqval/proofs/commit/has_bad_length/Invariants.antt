use Rattle.std.proofs.Common.{◌≡◌, ℕ, ◌<◌, false, get_or, take, length, Bor, List}
use Rattle.std.specs.Prelude.{◌==◌, not}
use Rattle.std.specs.List.{list_any}
use Rattle.sqval.specs.Bytes.{AreBytes}
use Rattle.sqval.proofs.commit.has_bad_length.Given as goal

abbrev pub invariant-loop-x : goal.invariant-loop-x
invariant-loop-x l = record {
  none : list_any (λ x. not (length x.1.now == l.page_size)) (take l.x-index l.pages) ≡ false;
  bytes : (k : ℕ) (d : ℕ × Bor (List ℕ)) → k < l.x-index → AreBytes (get_or l.pages k d).1.now;
}
