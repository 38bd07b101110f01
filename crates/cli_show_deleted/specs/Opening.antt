-- What page 1 says of all pages.
use Rattle.std.specs.Prelude.{◌≡◌, ℕ, ◌-◌, ◌<◌, ◌≤◌, List, length}
use Rattle.sqval.specs.Bytes.{word}
use Rattle.sqpage.specs.Header.{byte}
use Rattle.sqpage.specs.declared.fault.Fault.TheVariants as faults
use Rattle.sqdeep.specs.Texts.{encoding_named}
use Rattle.cli_row_text.specs.declared.form.Notation.{Notation}
use Rattle.cli_row_text.specs.Lines.{form_of}
use Rattle.cli_show_rows.specs.declared.stop.Stop.{Stop}
use Rattle.cli_show_rows.specs.declared.stop.Stop.TheVariants.{Fault, Encoding}
use Rattle.cli_show_deleted.specs.declared.layout.Layout.{Layout}

-- This is what these bytes of it say.
pub record IsLayoutIn (notation : Notation) (bytes : List ℕ) (layout : Layout) : Type 0 where
  pub usable : layout.usable ≡ length bytes - byte bytes 20
  pub enough : 480 ≤ length bytes - byte bytes 20
  pub known : word bytes 56 ≤ 3
  pub form : layout.form ≡ form_of notation (encoding_named (word bytes 56))

-- They say nothing that can be.
abbrev pub IsUnlaid : List ℕ → Stop → Type 0
IsUnlaid bytes (Fault e) = (e.fault ≡ faults.Reserved) × (e.page ≡ 1) × (length bytes - byte bytes 20 < 480)
IsUnlaid bytes Encoding = 3 < word bytes 56
IsUnlaid bytes _ = ⊥
