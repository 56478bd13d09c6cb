-- A token of a text is on one of its lines.
use Rattle.std.proofs.Common.{◌≡◌, ℕ, zero, suc, ◌+◌, ◌<◌, ◌≤◌, Bool, true, false, List, [], ◌∷◌, ◌++◌, length, get_or, refl, ap, sym, ◌∙◌, subst, arith}
use Rattle.std.proofs.lemmas.List.Sums.{count_by-le-length, sum_by-append, sum_by-take-le}
use Rattle.std.specs.List.{cons_option}
use Rattle.std.specs.Prelude.{All, Option, Some, None, ◌==◌, option_map, slice_get}
use Rattle.bl_tree.specs.declared.token.Token.{Token}
use Rattle.bl_tree.specs.declared.token.TokenKind.{TokenKind}
use Rattle.bl_lex.specs.Pieces.{kind_of}
use Rattle.bl_lex.specs.Tokens.{LexedPiece, Lexes, line_at, place_of, token_of, tokens_of}
use Rattle.bl_lex.proofs.RuleLaws.{tokens_inside}
use Rattle.bl_joined.specs.Joined.{FitsBehind}
use Rattle.bl_joined.specs.Texts.{line_feeds}

pub feeds_append : (xs ys : List ℕ) → line_feeds (xs ++ ys) ≡ line_feeds xs + line_feeds ys
feeds_append xs ys = sum_by-append _ xs ys

pub feeds_few : (text : List ℕ) → line_feeds text ≤ length text
feeds_few text = count_by-le-length _ text

line_in_parts : (text : List ℕ) (parts : List LexedPiece) (k : ℕ) (one : Token) → slice_get (tokens_of text parts) k ≡ Some one →
    one.line ≤ line_feeds text
line_in_parts text [] k one is = cc
line_in_parts text (part ∷ parts) k one is = by_option (token_of text part) (by_kind (kind_of part.form)) (λ j at. line_in_parts text parts j one at) k is
  where
    line_of : Option Token → ℕ
    line_of (Some t) = t.line
    line_of None = 0

    by_kind : (kind : Option TokenKind) (t : Token) →
        option_map (λ kind. record { kind = kind; place = place_of part; line = line_at text part.start }) kind ≡ Some t → t.line ≤ line_feeds text
    by_kind None t same = cc
    by_kind (Some kind) t same =
        let line : line_at text part.start ≡ t.line = ap line_of same in
        subst (λ n. n ≤ line_feeds text) line (sum_by-take-le _ text part.start)

    by_option : (o : Option Token) → ((t : Token) → o ≡ Some t → t.line ≤ line_feeds text)
        → ((j : ℕ) → slice_get (tokens_of text parts) j ≡ Some one → one.line ≤ line_feeds text) → (k : ℕ) →
        slice_get (cons_option o (tokens_of text parts)) k ≡ Some one → one.line ≤ line_feeds text
    by_option None each rest k same = rest k same
    by_option (Some t) each rest zero same = each one same
    by_option (Some t) each rest (suc k) same = rest k same

-- the line of a token isn't beyond the last line of its text
pub line_inside : (text : List ℕ) (tokens : List Token) → Lexes text tokens → (k : ℕ) (one : Token) → slice_get tokens k ≡ Some one → one.line ≤ line_feeds text
line_inside text tokens h k one is = line_in_parts text h.parts k one (subst (λ (ts : List Token). slice_get ts k ≡ Some one) h.are_tokens is)

get_at : (tokens : List Token) (k : ℕ) (d : Token) → k < length tokens → slice_get tokens k ≡ Some (get_or tokens k d)
get_at [] k d inside = absurd (omega (arith, inside))
get_at (x ∷ tokens) zero d inside = refl
get_at (x ∷ tokens) (suc k) d inside = get_at tokens k d (omega (arith, inside))

pub tokens_fit : (text : List ℕ) (tokens : List Token) (offset lines : ℕ) → Lexes text tokens → offset + length text + 1 < 4294967296 → lines ≤ offset →
    All (FitsBehind offset lines) tokens
tokens_fit text tokens offset lines h room few k d inside =
    let place = tokens_inside text tokens h k d inside in
    let line = line_inside text tokens h k (get_or tokens k d) (get_at tokens k d inside) in
    let feeds = feeds_few text in record {
      start = omega (arith, place.0, place.1, room);
      end = omega (arith, place.1, room);
      line = omega (arith, line, feeds, room, few);
    }
