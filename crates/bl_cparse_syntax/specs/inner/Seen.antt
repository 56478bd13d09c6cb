-- What the recogniser keeps of the piece that it reads.
use Rattle.std.specs.Prelude.{Bool, List, length, ℕ, ◌≡◌, ◌≤◌}
use Rattle.bl_ctext.specs.Token.{Token}
use Rattle.bl_ctext.specs.Names.{is_among, is_name, prelude_functions}

-- a piece stands between the offsets, or the text ends at both
pub record IsAt (text : List ℕ) (start end : ℕ) : Type 0 where
  pub short : length text ≤ 67108864
  pub in_order : start ≤ end
  pub inside : end ≤ length text
  pub at_end : start ≡ end → end ≡ length text

-- what is known of a piece: whether it is a name, and whether a function of the prelude
pub record IsSeen (piece : Token) (named of_prelude : Bool) : Type 0 where
  pub name : named ≡ is_name piece
  pub prelude : of_prelude ≡ is_among piece prelude_functions
