-- The frames of a commit, one after another, behind a log.
use Rattle.walcore.proofs.Words.{AreBytes, IsAppended, IsExtended, IsLog, List, Pages, Sum, WalHeader, [], ap, arith, cases_eq, cond, content_of, content_same, frame_end, frame_end-le, get_or, length, page_of, page_same, size_of, size_same, subst, suc, sym, take, take_all, take_less, ℕ, ⊎_elim, ◌+◌, ◌<◌, ◌==◌, ◌∙◌, ◌≡◌, ◌≤◌}

-- frame n + k + 1 is that of page k of a commit to size s
pub record IsFrameOf (size n : ℕ) (pages : Pages) (s : ℕ) (f : List ℕ) (k : ℕ) : Type 0 where
  pub page : page_of size f (n + suc k) ≡ (get_or pages k (0, [])).0
  pub content : content_of size f (n + suc k) ≡ (get_or pages k (0, [])).1
  pub size_is : size_of size f (n + suc k) ≡ cond (suc k == length pages) s 0

-- the frames of the first k pages stand behind the n frames of e
pub record IsGrown (size : ℕ) (e : List ℕ) (n : ℕ) (pages : Pages) (s k : ℕ) (f : List ℕ) : Type 0 where
  pub bytes : AreBytes f
  pub log : IsLog size f (n + k)
  pub front : take (length e) f ≡ e
  pub each : (j : ℕ) → j < k → IsFrameOf size n pages s f j

pub grown_none : (size : ℕ) (e : List ℕ) (n : ℕ) (pages : Pages) (s : ℕ) → AreBytes e → IsLog size e n → IsGrown size e n pages s 0 e
grown_none size e n pages s bytes log = record {
  bytes = bytes;
  log = subst (λ m. IsLog size e m) (let z : n ≡ n + 0 = omega arith in z) log;
  front = take_all (length e) e (omega arith);
  each = λ j lt. absurd (omega arith);
}

frame_stays : (size n : ℕ) (pages : Pages) (s : ℕ) (f g : List ℕ) (to j : ℕ) → take to f ≡ take to g → frame_end size (n + suc j) ≤ to → IsFrameOf size n pages s f j → IsFrameOf size n pages s g j
frame_stays size n pages s f g to j same lt is = record {
  page = sym (page_same size f g to (n + suc j) same (omega arith) lt) ∙ is.page;
  content = sym (content_same size f g to (n + suc j) same (omega arith) lt) ∙ is.content;
  size_is = sym (size_same size f g to (n + suc j) same (omega arith) lt) ∙ is.size_is;
}

pub grown_next : (h : WalHeader) (e : List ℕ) (n : ℕ) (pages : Pages) (s k : ℕ) (f g : List ℕ) (after : Sum) → IsLog h.page_size e n → IsGrown h.page_size e n pages s k f → AreBytes g
    → IsAppended h f (n + k) (get_or pages k (0, [])).0 (cond (suc k == length pages) s 0) (get_or pages k (0, [])).1 after g → IsGrown h.page_size e n pages s (suc k) g
grown_next h e n pages s k f g after log grown bytes is =
    let size : ℕ = h.page_size in
    let to : ℕ = frame_end size (n + k) in
    let next : suc (n + k) ≡ n + suc k = omega arith in
    let within : length e ≤ to = omega (arith, log.whole, frame_end-le size n (n + k) (omega arith)) in
    record {
      bytes = bytes;
      log = subst (λ m. IsLog size g m) next is.log;
      front = take_less g f to (length e) is.before within ∙ grown.front;
      each = λ j lt. ⊎_elim
          (λ z. subst (λ i. IsFrameOf size n pages s g i) (sym z) (record {
            page = ap (page_of size g) (sym next) ∙ is.page_is;
            content = ap (content_of size g) (sym next) ∙ is.content_is;
            size_is = ap (size_of size g) (sym next) ∙ is.size_is;
          }))
          (λ other.
          let before : j < k = omega arith in
          frame_stays size n pages s f g to j (sym is.before) (frame_end-le size (n + suc j) (n + k) (omega arith)) (grown.each j before))
          (cases_eq j k);
    }

pub grown_all : (size : ℕ) (e : List ℕ) (n : ℕ) (pages : Pages) (s : ℕ) (f : List ℕ) → IsGrown size e n pages s (length pages) f → IsExtended size e n pages s f
grown_all size e n pages s f is = record {
  bytes = is.bytes;
  log = is.log;
  front = is.front;
  page = λ k lt. (is.each k lt).page;
  content = λ k lt. (is.each k lt).content;
  sizes = λ k lt. (is.each k lt).size_is;
}
