-- The tokens of a text that is written piece by piece.
use Rattle.std.proofs.Common.{◌≡◌, ◌≢◌, ℕ, zero, suc, ◌+◌, ◌-◌, ◌<◌, ◌≤◌, Bool, true, false, ◌&&◌, List, [], ◌∷◌, ◌++◌, length, get_or, take, drop, refl, ap}
use Rattle.std.proofs.Common.{sym, ◌∙◌, subst, arith, append_assoc, append-nil, length-append}
use Rattle.std.specs.Prelude.{slice_get, slice_range, Some, All, ⊤}
use Rattle.std.specs.List.{list_all}
use Rattle.std.proofs.Math.Seq.{take-append_seam, drop-append_seam, get_or-append_seam, get_or-append_right}
use Rattle.std.proofs.Math.ListN.{get_or-append}
use Rattle.bl_tree.specs.declared.token.TokenKind.{TokenKind}
use Rattle.bl_tree.specs.declared.token.TokenKind.TheVariants.{Sign}
use Rattle.bl_lex.specs.declared.piece.Form.{Form}
use Rattle.bl_lex.specs.declared.piece.Form.TheVariants.{Blank, Token, Outside}
use Rattle.bl_lex.specs.Spelling.{signs, is_blank, is_word_byte}
use Rattle.bl_lex.specs.Pieces.{IsWord, WordIs, IsSign}
use Rattle.bl_lex.specs.Tokens.{LexedPiece, IsLongest, Covers, tokens_of}
use Rattle.bl_lex.proofs.PieceLaws.{longest_blank, longest_word, longest_sign}
use Rattle.bl_lex.proofs.Signs.{sign_first, at_most_one, range_two}
use Rattle.bl_lex.proofs.Tables.{is_two_bytes, two_bytes_known}
use Rattle.bl_face.specs.Lexemes.{Lexeme, lexeme_of, class_of, class_of_sign, lexemes}
use Rattle.bl_face.specs.Lexemes.Lexeme.{marked}

-- ---- pieces

pub data Chunk : Type 0 where
  blank : ℕ → Chunk
  word : List ℕ → TokenKind → Chunk
  -- the byte of a sign, and its number
  mark : ℕ → ℕ → Chunk

abbrev pub bytes_of : Chunk → List ℕ
bytes_of (Chunk.blank b) = b ∷ []
bytes_of (Chunk.word w kind) = w
bytes_of (Chunk.mark b k) = b ∷ []

abbrev pub form_of : Chunk → Form
form_of (Chunk.blank b) = Blank
form_of (Chunk.word w kind) = Token kind
form_of (Chunk.mark b k) = Token (Sign k)

abbrev pub lexeme_in : Chunk → List Lexeme → List Lexeme
lexeme_in (Chunk.blank b) rest = rest
lexeme_in (Chunk.word w kind) rest = lexeme_of (class_of kind) w ∷ rest
lexeme_in (Chunk.mark b k) rest = marked (class_of_sign k) ∷ rest

abbrev pub text_of : List Chunk → List ℕ
text_of [] = []
text_of (c ∷ cs) = bytes_of c ++ text_of cs

abbrev pub lexemes_in : List Chunk → List Lexeme
lexemes_in [] = []
lexemes_in (c ∷ cs) = lexeme_in c (lexemes_in cs)

-- the byte that comes next, 0 at the end
abbrev pub next_byte : List ℕ → ℕ
next_byte rest = get_or rest 0 0

pub record WordStands (w : List ℕ) (kind : TokenKind) (next : ℕ) : Type 0 where
  pub nonempty : 0 < length w
  pub each : list_all is_word_byte w ≡ true
  pub stops : is_word_byte next ≡ false
  pub means : (text : List ℕ) (end : ℕ) → get_or text end 0 ≡ next → WordIs text end w (Token kind)

pub record MarkStands (b k next : ℕ) : Type 0 where
  pub spelled : slice_get signs k ≡ Some (b ∷ [])
  pub alone : is_two_bytes b next ≡ false
  pub no_slash : b ≢ 47

abbrev pub Stands : Chunk → ℕ → Type 0
Stands (Chunk.blank b) next = is_blank b ≡ true
Stands (Chunk.word w kind) next = WordStands w kind next
Stands (Chunk.mark b k) next = MarkStands b k next

abbrev pub AllStand : List Chunk → Type 0
AllStand [] = ⊤
AllStand (c ∷ cs) = Stands c (next_byte (text_of cs)) × AllStand cs

-- ---- places

right_at : (xs ys : List ℕ) → get_or (xs ++ ys) (length xs) 0 ≡ get_or ys 0 0
right_at xs [] = get_or-append_right xs [] (length xs) 0 (omega arith)
right_at xs (y ∷ ys) = get_or-append_seam xs y ys 0

all_at : (p : ℕ → Bool) (w : List ℕ) (j : ℕ) → list_all p w ≡ true → j < length w → p (get_or w j 0) ≡ true
all_at p [] j all inside = absurd (omega (arith, inside))
all_at p (b ∷ w) zero all inside = left (p b) (list_all p w) all
  where
    left : (x y : Bool) → x && y ≡ true → x ≡ true
    left true y e = refl
    left false y e = e
all_at p (b ∷ w) (suc j) all inside = all_at p w j (right (p b) (list_all p w) all) (omega (arith, inside))
  where
    right : (x y : Bool) → x && y ≡ true → y ≡ true
    right true y e = e
    right false y e = cc

module _ (text pre w rest : List ℕ) (is : text ≡ pre ++ (w ++ rest)) where
  in_two : text ≡ (pre ++ w) ++ rest
  in_two = is ∙ sym (append_assoc pre w rest)

  pub next_at : get_or text (length pre + length w) 0 ≡ get_or rest 0 0
  next_at = ap (λ n. get_or text n 0) (sym (length-append pre w)) ∙ ap (λ (t : List ℕ). get_or t (length (pre ++ w)) 0) in_two ∙ right_at (pre ++ w) rest

  pub range : slice_range text (length pre) (length pre + length w) ≡ w
  range = let size : length pre + length w - length pre ≡ length w = omega arith in
      ap (λ n. take n (drop (length pre) text)) size
      ∙ ap (λ (t : List ℕ). take (length w) (drop (length pre) t)) is
      ∙ ap (take (length w)) (drop-append_seam pre (w ++ rest)) ∙ take-append_seam w rest

  pub inside : length pre + length w ≤ length text
  inside = omega (arith, ap length is, length-append pre (w ++ rest), length-append w rest)

  byte_at : (i : ℕ) → length pre ≤ i → i < length pre + length w → get_or text i 0 ≡ get_or w (i - length pre) 0
  byte_at i low high = ap (λ (t : List ℕ). get_or t i 0) is ∙ get_or-append_right pre (w ++ rest) i 0 low
      ∙ get_or-append w rest 0 (i - length pre) (omega (arith, low, high))

  pub is_word : (kind : TokenKind) → WordStands w kind (get_or rest 0 0) → IsWord text (length pre) (length pre + length w)
  is_word kind stands = record {
    nonempty = omega (arith, stands.nonempty);
    inside = inside;
    each = λ i low high. subst (λ b. is_word_byte b ≡ true) (sym (byte_at i low high))
        (all_at is_word_byte w (i - length pre) stands.each (omega (arith, low, high)));
    stops = λ _. subst (λ b. is_word_byte b ≡ false) (sym next_at) stands.stops;
  }

  pub long_word : (kind : TokenKind) → WordStands w kind (get_or rest 0 0) →
      IsLongest text (record { start = length pre; end = length pre + length w; form = Token kind })
  long_word kind stands = let whole = is_word kind stands in
      longest_word text (length pre) (length pre + length w) (Token kind) (whole.each (length pre) (omega arith) whole.nonempty) whole
      (subst (λ (v : List ℕ). WordIs text (length pre + length w) v (Token kind)) (sym range) (stands.means text (length pre + length w) next_at))

module _ (text pre : List ℕ) (b : ℕ) (rest : List ℕ) (is : text ≡ pre ++ ((b ∷ []) ++ rest)) where
  first_at : get_or text (length pre) 0 ≡ b
  first_at = ap (λ (t : List ℕ). get_or t (length pre) 0) is ∙ get_or-append_seam pre b rest 0

  pub long_blank : is_blank b ≡ true → IsLongest text (record { start = length pre; end = length pre + 1; form = Blank })
  long_blank stands = longest_blank text (length pre) (omega (arith, inside text pre (b ∷ []) rest is))
      (subst (λ c. is_blank c ≡ true) (sym first_at) stands)

  module _ (k : ℕ) (stands : MarkStands b k (get_or rest 0 0)) where
    no_two : (j : ℕ) → ¬ IsSign text (length pre) (length pre + 2) j
    no_two j s =
        let second : length pre + 1 < length text = omega (arith, s.inside) in
        let spelled : slice_get signs j ≡ Some (get_or text (length pre) 0 ∷ get_or text (length pre + 1) 0 ∷ []) =
        s.spelled ∙ ap Some (range_two text (length pre) second) in
        let two = two_bytes_known (get_or text (length pre) 0) (get_or text (length pre + 1) 0) j spelled in
        both_ways _ (subst (λ c. is_two_bytes c (get_or text (length pre + 1) 0) ≡ true) first_at two)
        (subst (λ c. is_two_bytes b c ≡ false) (sym (next_at text pre (b ∷ []) rest is)) stands.alone)
      where
        both_ways : (x : Bool) → x ≡ true → x ≡ false → ⊥
        both_ways x t f = cc

    is_sign : IsSign text (length pre) (length pre + 1) k
    is_sign = record {
      nonempty = omega arith;
      inside = inside text pre (b ∷ []) rest is;
      spelled = stands.spelled ∙ ap Some (sym (range text pre (b ∷ []) rest is));
      no_comment = λ opens. stands.no_slash (sym first_at ∙ opens.0);
    }

    pub long_sign : IsLongest text (record { start = length pre; end = length pre + 1; form = Token (Sign k) })
    long_sign = let first = sign_first text (length pre) (length pre + 1) k is_sign in
        longest_sign text (length pre) (length pre + 1) k (Token (Sign k)) first.0 first.1 (λ slash. stands.no_slash (sym first_at ∙ slash)) refl is_sign
        (λ other j s. at_most_one text (length pre) other j no_two s)

longest_chunk : (text pre : List ℕ) (c : Chunk) (rest : List ℕ) → text ≡ pre ++ (bytes_of c ++ rest) → Stands c (next_byte rest) →
    IsLongest text (record { start = length pre; end = length pre + length (bytes_of c); form = form_of c })
longest_chunk text pre (Chunk.blank b) rest is stands = long_blank text pre b rest is stands
longest_chunk text pre (Chunk.word w kind) rest is stands = long_word text pre w rest is kind stands
longest_chunk text pre (Chunk.mark b k) rest is stands = long_sign text pre b rest is k stands

-- ---- covers

pub record Cover (text : List ℕ) (start : ℕ) (chunks : List Chunk) : Type 0 where
  pub parts : List LexedPiece
  pub covers : Covers text start parts (length text)
  pub kept : All (λ part. part.form ≢ Outside) parts
  pub lexed : lexemes text (tokens_of text parts) ≡ lexemes_in chunks

all_cons : (x : LexedPiece) (xs : List LexedPiece) → x.form ≢ Outside → All (λ part. part.form ≢ Outside) xs →
    (k : ℕ) (d : LexedPiece) → k < length (x ∷ xs) → (get_or (x ∷ xs) k d).form ≢ Outside
all_cons x xs first rest zero d inside = first
all_cons x xs first rest (suc k) d inside = rest k d (omega (arith, inside))

is_kept : (c : Chunk) → form_of c ≢ Outside
is_kept (Chunk.blank b) e = cc
is_kept (Chunk.word w kind) e = cc
is_kept (Chunk.mark b k) e = cc

lexed_more : (text : List ℕ) (start : ℕ) (c : Chunk) (cs : List Chunk) (parts : List LexedPiece) →
    slice_range text start (start + length (bytes_of c)) ≡ bytes_of c → lexemes text (tokens_of text parts) ≡ lexemes_in cs →
    lexemes text (tokens_of text (record { start = start; end = start + length (bytes_of c); form = form_of c } ∷ parts)) ≡ lexemes_in (c ∷ cs)
lexed_more text start (Chunk.blank b) cs parts bytes rest = rest
lexed_more text start (Chunk.word w kind) cs parts bytes rest =
    ap (λ (v : List ℕ). lexeme_of (class_of kind) v ∷ lexemes text (tokens_of text parts)) bytes
    ∙ ap (λ (ls : List Lexeme). lexeme_of (class_of kind) w ∷ ls) rest
lexed_more text start (Chunk.mark b k) cs parts bytes rest = ap (λ (ls : List Lexeme). marked (class_of_sign k) ∷ ls) rest

more : (text : List ℕ) (start : ℕ) (c : Chunk) (cs : List Chunk) →
    IsLongest text (record { start = start; end = start + length (bytes_of c); form = form_of c }) →
    slice_range text start (start + length (bytes_of c)) ≡ bytes_of c → Cover text (start + length (bytes_of c)) cs → Cover text start (c ∷ cs)
more text start c cs longest bytes rest = record {
  parts = record { start = start; end = start + length (bytes_of c); form = form_of c } ∷ rest.parts;
  covers = (refl, longest, rest.covers);
  kept = all_cons _ rest.parts (is_kept c) rest.kept;
  lexed = lexed_more text start c cs rest.parts bytes rest.lexed;
}

pub cover : (text pre : List ℕ) (chunks : List Chunk) → text ≡ pre ++ text_of chunks → AllStand chunks → Cover text (length pre) chunks
cover text pre [] is stand = record {
  parts = [];
  covers = sym (ap length (is ∙ append-nil pre));
  kept = λ k d inside. absurd (omega (arith, inside));
  lexed = refl;
}
cover text pre (c ∷ cs) is stand =
    more text (length pre) c cs (longest_chunk text pre c (text_of cs) is stand.0) (range text pre (bytes_of c) (text_of cs) is)
    (subst (λ n. Cover text n cs) (length-append pre (bytes_of c))
    (cover text (pre ++ bytes_of c) cs (is ∙ sym (append_assoc pre (bytes_of c) (text_of cs))) stand.1))
