-- The front of a text, up to where no token begins.
use Rattle.std.proofs.Common.{◌≡◌, ◌≢◌, ℕ, ◌+◌, ◌≤◌, List, [], ◌∷◌, ◌++◌, length, refl, ap, sym, ◌∙◌, subst, arith}
use Rattle.std.proofs.lemmas.List.Elements.{All-push}
use Rattle.std.specs.Prelude.{All}
use Rattle.bl_tree.specs.declared.place.Place.{Place}
use Rattle.bl_tree.specs.declared.token.Token.{Token as Lexed}
use Rattle.bl_lex.specs.declared.piece.Form.{Form}
use Rattle.bl_lex.specs.declared.piece.Form.TheVariants.{Outside}
use Rattle.bl_lex.specs.Pieces.{IsPiece}
use Rattle.bl_lex.specs.Pieces.IsPiece.{word}
use Rattle.bl_lex.specs.Rules.{IsFault}
use Rattle.bl_lex.specs.Tokens.{BeginsNoToken, Covers, FrontOf, IsLongest, LexedPiece, Lexes, tokens_of}
use Rattle.bl_lex.proofs.PieceLaws.{of_word, one_form, one_word, piece_forward, piece_inside}
use Rattle.bl_lex.proofs.RuleLaws.{covers_are_one, covers_forward, fault_begins_nothing, nothing_at_end, one_longest}
use Rattle.bl_lex.proofs.WalkLaws.{Covers-push}

-- where a piece begins that the profile leaves out, no other piece begins
outside_alone : (text : List ℕ) (at end : ℕ) → IsPiece text at end Outside → BeginsNoToken text at
outside_alone text at end (word whole is) other form piece =
    let letter = whole.each at (omega arith) whole.nonempty in
    let same = one_word text at end other whole (of_word text at letter piece).0 in
    one_form text at piece (subst (λ (e : ℕ). IsPiece text at e Outside) same (word whole is))

pub nothing_else : (text : List ℕ) (at end : ℕ) (form : Form) → IsPiece text at end form → form ≡ Outside → BeginsNoToken text at
nothing_else text at end form piece is = outside_alone text at end (subst (IsPiece text at end) is piece)

pub fault_begins_no_token : (text : List ℕ) (at : ℕ) (place : Place) → place.start ≡ at → IsFault text place → BeginsNoToken text at
fault_begins_no_token text at place is fault end form piece =
    absurd (fault_begins_nothing text place fault end form (subst (λ (s : ℕ). IsPiece text s end form) (sym is) piece))

pub end_begins_no_token : (text : List ℕ) (at : ℕ) → at ≡ length text → BeginsNoToken text at
end_begins_no_token text at is end form piece =
    absurd (nothing_at_end text end form (subst (λ (s : ℕ). IsPiece text s end form) is piece))

-- ---- the walk

-- a cover of no bytes has no part
no_part : (text : List ℕ) (start : ℕ) (p : LexedPiece) (ps : List LexedPiece) (end : ℕ) → start ≡ end → Covers text start (p ∷ ps) end → ⊥
no_part text start p ps end none c =
    let a = piece_forward text p.start c.1.piece in let b = covers_forward text p.end ps end c.2 in omega (arith, c.0, none)

-- two covers of the same bytes are one
same_bytes : (text : List ℕ) (start end : ℕ) (ps qs : List LexedPiece) → Covers text start ps end → Covers text start qs end → ps ≡ qs
same_bytes text start end [] [] p q = refl
same_bytes text start end [] (q ∷ qs) p c = absurd (no_part text start q qs end p c)
same_bytes text start end (p ∷ ps) [] c q = absurd (no_part text start p ps end q c)
same_bytes text start end (p ∷ ps) (q ∷ qs) c d =
    let first = one_longest text p q (c.0 ∙ sym d.0) c.1 d.1 in
    let rest = same_bytes text p.end end ps qs c.2 (subst (λ (e : ℕ). Covers text e qs end) (ap (λ (r : LexedPiece). r.end) (sym first)) d.2) in
    λ i. first i ∷ rest i

abbrev Kept : List LexedPiece → Type 0
Kept parts = All (λ part. part.form ≢ Outside) parts

-- before the first byte there is no part
pub kept_none : (text : List ℕ) (parts : List LexedPiece) → Covers text 0 parts 0 → Kept parts
kept_none text [] covers k d within = absurd (omega arith)
kept_none text (p ∷ ps) covers k d within = absurd (no_part text 0 p ps 0 refl covers)

-- one part more that the profile leaves in
pub kept_next : (text : List ℕ) (at end : ℕ) (form : Form) (parts more : List LexedPiece) → Covers text 0 parts at → Kept parts
    → IsLongest text (record { start = at; end = end; form = form }) → form ≢ Outside → Covers text 0 more end → Kept more
kept_next text at end form parts more covers kept longest is_kept covers_more =
    let part : LexedPiece = record { start = at; end = end; form = form } in
    let pushed = Covers-push text 0 parts at part covers refl longest in
    subst Kept (same_bytes text 0 end (parts ++ part ∷ []) more pushed covers_more)
    (All-push (λ (p : LexedPiece). p.form ≢ Outside) parts part kept is_kept)

-- ---- laws

one_front : (text : List ℕ) (xs ys : List Lexed) (a b : ℕ) → (x : FrontOf text xs a) → (y : FrontOf text ys b) → (x.parts ≡ y.parts) × (a ≡ b)
one_front text xs ys a b x y =
    covers_are_one (λ form. form ≢ Outside) text 0 x.parts y.parts a b x.covers y.covers x.each_has_a_kind y.each_has_a_kind
    (λ end form piece kept. kept (x.stops end form piece)) (λ end form piece kept. kept (y.stops end form piece))

pub same_tokens : (text : List ℕ) (xs ys : List Lexed) (a b : ℕ) → FrontOf text xs a → FrontOf text ys b → xs ≡ ys
same_tokens text xs ys a b x y = x.are_tokens ∙ ap (λ ps. tokens_of text ps) (one_front text xs ys a b x y).0 ∙ sym y.are_tokens

pub same_stop : (text : List ℕ) (xs ys : List Lexed) (a b : ℕ) → FrontOf text xs a → FrontOf text ys b → a ≡ b
same_stop text xs ys a b x y = (one_front text xs ys a b x y).1

pub lexed : (text : List ℕ) (tokens : List Lexed) → FrontOf text tokens (length text) → Lexes text tokens
lexed text tokens x = record { parts = x.parts; covers = x.covers; each_has_a_kind = x.each_has_a_kind; are_tokens = x.are_tokens }

pub whole : (text : List ℕ) (tokens : List Lexed) → Lexes text tokens → FrontOf text tokens (length text)
whole text tokens x = record {
  parts = x.parts;
  covers = x.covers;
  each_has_a_kind = x.each_has_a_kind;
  are_tokens = x.are_tokens;
  stops = end_begins_no_token text (length text) refl;
}

covers_inside : (text : List ℕ) (start : ℕ) (parts : List LexedPiece) (end : ℕ) → start ≤ length text → Covers text start parts end → end ≤ length text
covers_inside text start [] end inside c = omega (arith, c)
covers_inside text start (p ∷ ps) end inside c = covers_inside text p.end ps end (piece_inside text p.start c.1.piece) c.2

pub inside : (text : List ℕ) (tokens : List Lexed) (stop : ℕ) → FrontOf text tokens stop → stop ≤ length text
inside text tokens stop x = covers_inside text 0 x.parts stop (omega arith) x.covers
