-- What a scan has taken (own).
use Rattle.std.specs.Prelude.{◌≡◌, ◌≢◌, ℕ, suc, ◌+◌, ◌<◌, ◌≤◌, List, [], ◌++◌, length, drop, get_or, Option, Some, None}
use Rattle.sqval.specs.Bytes.{AreBytes}
use Rattle.sqwal.specs.Sums.{IsSumOf}
use Rattle.sqwal.specs.Header.{IsHeaderOf}
use Rattle.sqwal.specs.Frames.{frame_end, page_of, size_of, summed, AllPass}
use Rattle.sqwal.specs.Stops.{StopsFor}
use Rattle.sqwal.specs.Refusal.{most_frames}
use Rattle.sqwal.specs.declared.header.WalHeader.{WalHeader}
use Rattle.sqwal.specs.declared.sum.Sum.{Sum}
use Rattle.sqwal.specs.declared.scan.Entry.{Entry}
use Rattle.sqwal.specs.declared.scan.Front.{Front}
use Rattle.sqwal.specs.declared.scan.Why.{Why}
use Rattle.sqwal.specs.declared.scan.Progress.{Progress}
use Rattle.sqwal.specs.declared.scan.Scan.{Scan}

-- the last commit frame among the frames 1 to n
pub record IsFrontTo (size : ℕ) (b : List ℕ) (n : ℕ) (front : Front) : Type 0 where
  pub within : front.frames ≤ n
  pub none : front.frames ≡ 0 → front.size ≡ 0
  pub commit : 1 ≤ front.frames → (front.size ≡ size_of size b front.frames) × (front.size ≢ 0)
  pub last : (i : ℕ) → front.frames < i → i ≤ n → size_of size b i ≡ 0
  pub end : front.end ≡ frame_end size front.frames

-- behind frame n a frame is begun: its bytes are held back, and the sum is that of all before it
pub record IsBegun (h : WalHeader) (b held : List ℕ) (n : ℕ) (sum : Sum) : Type 0 where
  pub sum_before : IsSumOf h.order (summed h.page_size b n) sum
  pub from : frame_end h.page_size n ≤ length b
  pub rest : held ≡ drop (frame_end h.page_size n) b
  pub short : length held < 24 + h.page_size

-- frame n + 1 is whole and doesn't pass
pub record IsRefused (size : ℕ) (b : List ℕ) (n : ℕ) (why : Why) : Type 0 where
  pub whole : frame_end size (suc n) ≤ length b
  pub stops : StopsFor size b (suc n) why

-- what lies behind frame n: a frame that is begun, or one that doesn't pass
abbrev pub IsBehind : (h : WalHeader) (b held : List ℕ) (n : ℕ) → Sum → Option Why → Type 0
IsBehind h b held n sum None = IsBegun h b held n sum
IsBehind h b held n sum (Some why) = IsRefused h.page_size b n why

-- the valid frames of b with their pages and sizes, their front, and what lies behind them
pub record TookFrames (h : WalHeader) (b held : List ℕ) (entries : List Entry) (p : Progress) : Type 0 where
  pub header : IsHeaderOf b h
  pub next : p.next ≡ suc (length entries)
  pub most : length entries ≤ p.limits.frames
  pub valid : AllPass h.page_size b (length entries)
  pub pages : (i : ℕ) (d : Entry) → i < length entries → (get_or entries i d).page ≡ page_of h.page_size b (suc i)
  pub sizes : (i : ℕ) (d : Entry) → i < length entries → (get_or entries i d).size ≡ size_of h.page_size b (suc i)
  pub front : IsFrontTo h.page_size b (length entries) p.front
  pub behind : IsBehind h b held (length entries) p.sum p.refused

-- the header isn't whole: all bytes are held back
pub record TookNone (b held : List ℕ) (entries : List Entry) (p : Progress) : Type 0 where
  pub short : length b < 32
  pub all : held ≡ b
  pub nothing : entries ≡ []
  pub next : p.next ≡ 0
  pub front : p.front ≡ record { frames = 0; size = 0; end = 0 }
  pub refused : p.refused ≡ None

-- what the parts of a scan hold of the bytes b, whether the header is whole or not
abbrev pub TookParts : (b held : List ℕ) (entries : List Entry) (p : Progress) → Option WalHeader → Type 0
TookParts b held entries p None = TookNone b held entries p
TookParts b held entries p (Some h) = TookFrames h b held entries p

-- a scan that takes at most so many frames is one of these bytes
pub record TookWithin (most : ℕ) (b : List ℕ) (s : Scan) : Type 0 where
  pub bytes : AreBytes b
  pub limit : s.frames.progress.limits.frames ≡ most
  pub parts : TookParts b s.held.items s.frames.entries.items s.frames.progress s.header

-- the same at the usual limit
abbrev pub Took : List ℕ → Scan → Type 0
Took b s = TookWithin most_frames b s

-- whatever bytes follow, the scan is one of them all
abbrev pub IsSettledWithin : (most : ℕ) → List ℕ → Scan → Type 0
IsSettledWithin most b s = (more : List ℕ) → AreBytes more → TookWithin most (b ++ more) s
