-- What a comparison of bytes says of what is left to read.
use Rattle.std.proofs.Common.{◌≡◌, ℕ, true, List, [], ◌∷◌, drop, refl, arith}
use Rattle.std.proofs.lemmas.Bool.Decides.{nat_tests}
use Rattle.bl_ctext.specs.Token.{Token}
use Rattle.bl_ctext.specs.Spellable.{has_any}
use Rattle.bl_cparse_syntax.specs.Pieces.{first_piece, is_same}
use Rattle.bl_ctext.proofs.PlainWords.{same_bytes}

pub is_same-same : (xs ys : List ℕ) → is_same xs ys ≡ true → xs ≡ ys
unfolding is_same
is_same-same xs ys h = same_bytes xs ys h

-- where the first piece has a byte, it stands first
pub first_is : (ts : List Token) (what : Token) → first_piece ts ≡ what → has_any what ≡ true → ts ≡ what ∷ drop 1 ts
first_is [] what e h = cc
first_is (t ∷ ts) what e h = rw e refl

pub seen : (ts : List Token) (what : Token) → is_same (first_piece ts) what ≡ true → has_any what ≡ true → ts ≡ what ∷ drop 1 ts
seen ts what same h = first_is ts what (is_same-same (first_piece ts) what same) h
