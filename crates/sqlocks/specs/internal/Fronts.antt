-- What names a front of a log, by parts of the log alone (own). No public contract cites this word.
use Rattle.std.specs.Prelude.{◌≡◌, ◌≢◌, ℕ, List}
use Rattle.sqval.specs.Bytes.{word}
use Rattle.sqlocks.specs.declared.index.IndexHead.{IndexHead}

-- the first 32 bytes of a log and the 24 bytes with which frame mxFrame begins end a commit of the log, under the salts
-- and with the sums that the index names
pub record NamesFront (head : IndexHead) (header frame : List ℕ) : Type 0 where
  pub page_size : word header 8 ≡ head.page_size
  pub salts : (word header 16 ≡ head.salt1) × (word header 20 ≡ head.salt2)
  pub frame_salts : (word frame 8 ≡ head.salt1) × (word frame 12 ≡ head.salt2)
  pub sums : (word frame 16 ≡ head.sum.s0) × (word frame 20 ≡ head.sum.s1)
  pub commit : word frame 4 ≢ 0
