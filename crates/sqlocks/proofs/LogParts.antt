-- The header of a log and a frame's in the log.
use Rattle.std.proofs.Common.{◌≡◌, ◌≢◌, ℕ, ◌+◌, ◌≤◌, List, length, take, drop, sym, ◌∙◌, ap, arith, add-zero, zero-add}
use Rattle.std.specs.Prelude.{◌↔◌, IsTrue, Bool}
use Rattle.std.proofs.lemmas.List.{take_all}
use Rattle.sqval.specs.Bytes.{part, word}
use Rattle.sqwal.specs.Frames.{frame_at}
use Rattle.sqwal.proofs.log.PartsOfBytes.{word_in}
use Rattle.sqlocks.specs.Index.{IsFrontOf}
use Rattle.sqlocks.specs.internal.Fronts.{NamesFront}
use Rattle.sqlocks.specs.declared.index.IndexHead.{IndexHead}

-- a word of a part, in the whole
word_there : (w v : List ℕ) (at n k : ℕ) → part w at n ≡ v → length v ≡ n → k + 4 ≤ n → word w (at + k) ≡ word v k
word_there w v at n k is len fits =
    word_in w v at 0 n k (is ∙ sym (take_all n v (omega arith))) fits ∙ ap (word v) (zero-add k)

module _ (head : IndexHead) (w header frame : List ℕ) (h : part w 0 32 ≡ header) (f : part w (frame_at head.page_size head.frames) 24 ≡ frame)
    (len_h : length header ≡ 32) (len_f : length frame ≡ 24) where
  in_header : (k : ℕ) → k + 4 ≤ 32 → word w k ≡ word header k
  in_header k fits = ap (word w) (sym (zero-add k)) ∙ word_there w header 0 32 k h len_h fits

  in_frame : (k : ℕ) → k + 4 ≤ 24 → word w (frame_at head.page_size head.frames + k) ≡ word frame k
  in_frame k fits = word_there w frame (frame_at head.page_size head.frames) 24 k f len_f fits

  there : NamesFront head header frame → IsFrontOf head w
  there n = record {
    page_size = in_header 8 (omega arith) ∙ n.page_size;
    salts = (in_header 16 (omega arith) ∙ n.salts.0, in_header 20 (omega arith) ∙ n.salts.1);
    frame_salts = (in_frame 8 (omega arith) ∙ n.frame_salts.0, in_frame 12 (omega arith) ∙ n.frame_salts.1);
    sums = (in_frame 16 (omega arith) ∙ n.sums.0, in_frame 20 (omega arith) ∙ n.sums.1);
    commit = λ e. n.commit (sym (in_frame 4 (omega arith)) ∙ e);
  }

  back : IsFrontOf head w → NamesFront head header frame
  back n = record {
    page_size = sym (in_header 8 (omega arith)) ∙ n.page_size;
    salts = (sym (in_header 16 (omega arith)) ∙ n.salts.0, sym (in_header 20 (omega arith)) ∙ n.salts.1);
    frame_salts = (sym (in_frame 8 (omega arith)) ∙ n.frame_salts.0, sym (in_frame 12 (omega arith)) ∙ n.frame_salts.1);
    sums = (sym (in_frame 16 (omega arith)) ∙ n.sums.0, sym (in_frame 20 (omega arith)) ∙ n.sums.1);
    commit = λ e. n.commit (in_frame 4 (omega arith) ∙ e);
  }

  pub front_in_log : (r : Bool) → (IsTrue r ↔ NamesFront head header frame) → IsTrue r ↔ IsFrontOf head w
  front_in_log r named = (λ t. there (named.0 t), λ n. named.1 (back n))
