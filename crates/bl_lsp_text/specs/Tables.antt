-- Tables of readers of a text.
use Rattle.std.specs.Prelude.{ℕ, ◌+◌, ◌*◌, ◌≡◌, ◌<◌, ◌≤◌, List, length, slice_index_or, take}
use Rattle.bl_lsp_text.specs.declared.stand.Stand.{Stand}
use Rattle.bl_lsp_text.specs.Positions.{at_start, passed_all}

-- the entries are readers before each 64th byte of the text
abbrev pub AreStands : List ℕ → List Stand → Type 0
AreStands text stands = (k : ℕ) → k < length stands → slice_index_or stands k at_start ≡ passed_all at_start (take (k * 64) text)

-- the table of a text: an entry before each 64th byte, and one at the text's end
pub record IsTable (text : List ℕ) (stands : List Stand) : Type 0 where
  pub stand : AreStands text stands
  pub enough : length text + 64 ≤ length stands * 64
