-- What a token's text is, where the token is a name.
use Rattle.std.proofs.Common.{◌≡◌, ◌≢◌, ℕ, zero, suc, ◌+◌, ◌-◌, ◌<◌, Bool, true, false, not, ◌&&◌, List, [], ◌∷◌, length, get_or, drop, refl, ap, sym, ◌∙◌}
use Rattle.std.proofs.Common.{subst, arith, get_or-take, get_or-drop}
use Rattle.std.proofs.lemmas.List.Sums.{list_all-from_AllPass}
use Rattle.std.proofs.lemmas.Slice.Eq.{bytes_eq-Decides}
use Rattle.std.proofs.lemmas.List.{get_or_default}
use Rattle.std.specs.Prelude.{Option, Some, None, option_map, slice_get, slice_range}
use Rattle.std.specs.List.{list_all, cons_option}
use Rattle.std.specs.Str.{bytes_eq}
use Rattle.std.specs.Char.{is_ascii_digit}
use Rattle.std.proofs.lemmas.Bool.{false_from_ne_true}
use Rattle.bl_tree.specs.declared.token.Token.{Token as Lexed}
use Rattle.bl_tree.specs.declared.token.TokenKind.{TokenKind}
use Rattle.bl_tree.specs.declared.token.TokenKind.TheVariants.{Name}
use Rattle.bl_tree.specs.Words.{is_among, is_name}
use Rattle.bl_lex.specs.declared.piece.Form.{Form}
use Rattle.bl_lex.specs.declared.piece.Form.TheVariants.{Blank, Comment, Token, Outside}
use Rattle.bl_lex.specs.Spelling.{keywords, words_outside, is_word_byte, begins_with_digit}
use Rattle.bl_lex.specs.Pieces.{IsPiece, kind_of}
use Rattle.bl_lex.specs.Pieces.WordIs.{name}
use Rattle.bl_lex.specs.Pieces.IsPiece.{word}
use Rattle.bl_lex.specs.Tokens.{LexedPiece, place_of, IsLongest, Covers, line_at, tokens_of, Lexes}
use Rattle.bl_lex.proofs.ReservedWords.{found_by}
use Rattle.bl_lex.proofs.Signs.{range_length}

-- a word in none of the lists is in neither as a test
not_among : (list : List (List ℕ)) (w : List ℕ) → ((k : ℕ) → slice_get list k ≢ Some w) → is_among w list ≡ false
not_among list w none = false_from_ne_true _ (λ is. let h = found_by (bytes_eq w) list is in let e : w ≡ h.1.0 =
    (bytes_eq-Decides w h.1.0).0 h.1.2 in none h.0 (h.1.1 ∙ ap Some (sym e)))

all_four : (a b c d : Bool) → a ≡ false → b ≡ true → c ≡ false → d ≡ false → (not a && b) && (not c && not d) ≡ true
all_four a b c d ea eb ec ed = rw (ea, eb, ec, ed) refl

name_is_name : (w : List ℕ) → 0 < length w → begins_with_digit w ≡ false →
    ((i : ℕ) → i < length w → is_word_byte (get_or w i 0) ≡ true) → is_among w keywords ≡ false → is_among w words_outside ≡ false →
    is_name w ≡ true
unfolding keywords words_outside
name_is_name [] some digit each a b = absurd (omega arith)
name_is_name (c ∷ cs) some digit each a b =
    all_four (is_ascii_digit c) (list_all is_word_byte (c ∷ cs)) _ _ digit
    (list_all-from_AllPass is_word_byte (c ∷ cs) (λ k d inside. rw (get_or_default (c ∷ cs) k d 0 inside) (each k inside))) a b

module _ (text : List ℕ) where
  name_piece : (start end : ℕ) → IsPiece text start end (Token Name) → is_name (slice_range text start end) ≡ true
  name_piece start end (word w (name digit no_keyword not_outside)) =
      let size = range_length text start end (omega (arith, w.nonempty)) w.inside in
      name_is_name (slice_range text start end) (omega (arith, w.nonempty)) digit
      (λ i inside. rw (get_or-take (end - start) (drop start text) i 0 (omega arith), get_or-drop start text i 0)
      (w.each (start + i) (omega arith) (omega (arith, w.nonempty))))
      (not_among keywords _ no_keyword) (not_among words_outside _ not_outside)

  -- what holds of the token of each part holds of each token
  of_tokens : (P : Lexed → Type 0) → ((part : LexedPiece) (kind : TokenKind) → IsLongest text part → kind_of part.form ≡ Some kind →
      P (record { kind = kind; place = place_of part; line = line_at text part.start }))
      → (start : ℕ) (parts : List LexedPiece) (end : ℕ) → Covers text start parts end → (k : ℕ) (d : Lexed) →
      k < length (tokens_of text parts) → P (get_or (tokens_of text parts) k d)
  of_tokens P here start [] end covers k d inside = absurd (omega arith)
  of_tokens P here start (p ∷ ps) end covers k d inside = by_kind (kind_of p.form) refl (of_tokens P here p.end ps end covers.2) k inside
    where
      by_kind : (o : Option TokenKind) → kind_of p.form ≡ o →
          ((k : ℕ) (d : Lexed) → k < length (tokens_of text ps) → P (get_or (tokens_of text ps) k d))
          → (k : ℕ) → k < length (cons_option (option_map (λ kind.
          record { kind = kind; place = place_of p; line = line_at text p.start }) o) (tokens_of text ps))
          → P (get_or (cons_option (option_map (λ kind. record { kind = kind; place = place_of p; line = line_at text p.start }) o) (tokens_of text ps)) k d)
      by_kind None is rest k inside = rest k d inside
      by_kind (Some kind) is rest zero inside = here p kind covers.1 is
      by_kind (Some kind) is rest (suc k) inside = rest k d (omega arith)

kind_form : (form : Form) (kind : TokenKind) → kind_of form ≡ Some kind → form ≡ Token kind
kind_form Blank kind is = cc
kind_form Comment kind is = cc
kind_form (Token other) kind is = cc
kind_form Outside kind is = cc

pub names_among : (text : List ℕ) (parts : List LexedPiece) (end : ℕ) → Covers text 0 parts end →
    (tokens : List Lexed) → tokens ≡ tokens_of text parts → (k : ℕ) (d : Lexed) → k < length tokens →
    (get_or tokens k d).kind ≡ Name → is_name (slice_range text (get_or tokens k d).place.start (get_or tokens k d).place.end) ≡ true
names_among text parts end covers tokens are = rw are (of_tokens text IsNamed here 0 parts end covers)
  where
    IsNamed : Lexed → Type 0
    IsNamed token = token.kind ≡ Name → is_name (slice_range text token.place.start token.place.end) ≡ true

    here : (part : LexedPiece) (kind : TokenKind) → IsLongest text part → kind_of part.form ≡ Some kind → kind ≡ Name →
        is_name (slice_range text part.start part.end) ≡ true
    here part kind longest is_kind is_name = name_piece text part.start part.end
        (subst (IsPiece text part.start part.end) (kind_form part.form kind is_kind ∙ ap Token is_name) longest.piece)

pub names_are_names : (text : List ℕ) (tokens : List Lexed) → Lexes text tokens → (k : ℕ) (d : Lexed) → k < length tokens →
    (get_or tokens k d).kind ≡ Name → is_name (slice_range text (get_or tokens k d).place.start (get_or tokens k d).place.end) ≡ true
names_are_names text tokens is = names_among text is.parts (length text) is.covers tokens is.are_tokens
