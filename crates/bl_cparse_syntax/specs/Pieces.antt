-- Bytes cut into pieces: tokens, and bytes that begin none.
use Rattle.std.specs.Prelude.{ℕ, Bool, true, false, ◌&&◌, cond, List, ◌∷◌, drop, slice_range, nat_eq, []}
use Rattle.std.specs.Cmp.Lexicographic.{pointwise}
use Rattle.bl_ctext.specs.Token.{Token, is_blank, is_word_byte, is_double_sign}
use Rattle.bl_ctext.specs.Token.{put_before}

-- the pieces of bytes whose first two are a and b, cut before a. `far` are the pieces behind both, and `near` those behind a
abbrev pub cut_off : (blank pair word : Bool) → ℕ → ℕ → (far near : List Token) → List Token
cut_off true pair word a b far near = near
cut_off false true word a b far near = (a ∷ b ∷ []) ∷ far
cut_off false false true a b far near = put_before a near
cut_off false false false a b far near = (a ∷ []) ∷ near

-- the bytes cut from their front on, white space left out: words and signs as long as possible, and else single bytes
abbrev pub pieces : List ℕ → List Token
pieces [] = []
pieces (a ∷ []) = cond (is_blank a) [] ((a ∷ []) ∷ [])
pieces (a ∷ b ∷ bs) = cut_off (is_blank a) (is_double_sign a b) (is_word_byte a && is_word_byte b) a b (pieces bs) (pieces (b ∷ bs))

-- a piece before others, where it has a byte
abbrev pub put : Token → List Token → List Token
put [] ts = ts
put (b ∷ bs) ts = (b ∷ bs) ∷ ts

-- the piece that stands between two offsets, and those behind it
abbrev pub left_of : List ℕ → ℕ → ℕ → List Token
left_of text start end = put (slice_range text start end) (pieces (drop end text))

-- the first piece, and no bytes where there is none
abbrev pub first_piece : List Token → Token
first_piece [] = []
first_piece (t ∷ ts) = t

-- whether two runs of bytes are the same
unfoldable pub is_same : List ℕ → List ℕ → Bool
is_same one other = pointwise nat_eq one other
