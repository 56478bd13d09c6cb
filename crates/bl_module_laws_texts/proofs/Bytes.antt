-- The joined text of texts that keep the rules Lex and Profile and end in neither `@` nor `[` keeps them.
use Rattle.std.proofs.Common.{◌≡◌, ℕ, ◌+◌, List, [], ◌∷◌, ◌++◌, length, map, refl, ap, sym, ◌∙◌, subst, arith, append-nil}
use Rattle.std.proofs.lemmas.List.Elements.{filter-append}
use Rattle.std.specs.Prelude.{None, ⊤, not}
use Rattle.bl_tree.specs.declared.place.Place.{Place}
use Rattle.bl_tree.specs.declared.rule.Rule.{Rule}
use Rattle.bl_tree.specs.declared.rule.Rule.TheVariants as rule
use Rattle.bl_lex.specs.declared.piece.Form.TheVariants.{Blank}
use Rattle.bl_lex.specs.Pieces.{is_between}
use Rattle.bl_lex.specs.Rules.{Fails, FailsLex, FailsProfile, Passes}
use Rattle.bl_lex.specs.Tokens.{Covers, LexedPiece, place_of, without_between}
use Rattle.bl_lex.specs.inner.Walk.{NoneLeftOut}
use Rattle.bl_lex.proofs.RuleLaws.{covers_are_one, fault_begins_nothing, fault_inside, nothing_at_end}
use Rattle.bl_joined.specs.Texts.{joined_text}
use Rattle.bl_joined_laws.proofs.Bytes.{range}
use Rattle.bl_joined_laws.proofs.Joining.{further, more, size_more}
use Rattle.bl_joined_laws.proofs.Pieces.{longest_feed, longest_there}
use Rattle.bl_module_laws_texts.proofs.Border.{both, covers_inside, last_form, last_moved, moved_piece, none_of_none, none_there, without_moved}
use Rattle.bl_module_laws_texts.proofs.Last.{EndsItems}
use Rattle.bl_joined_laws.proofs.Joining.{covers_append}

-- pieces cover the text, the profile leaves none out, and the last is neither `@` nor `[`
pub record HasPieces (text : List ℕ) : Type 0 where
  pub parts : List LexedPiece
  pub covers : Covers text 0 parts (length text)
  pub none : NoneLeftOut text (without_between parts)
  pub ends : EndsItems (last_form None (without_between parts))

-- each text has such pieces
abbrev pub AllHavePieces : List (List ℕ) → Type 0
AllHavePieces [] = ⊤
AllHavePieces (text ∷ texts) = HasPieces text × AllHavePieces texts

-- no piece is left out that covers a text which keeps the rules
pub none_where_passing : (text : List ℕ) → Passes text → (parts : List LexedPiece) → Covers text 0 parts (length text) →
    NoneLeftOut text (without_between parts)
none_where_passing text passes parts covers before part after stands left = passes rule.Profile (place_of part) []
    (record { parts = parts; covers = covers; before = before; part = part; after = after; stands = stands; left_out = left; at = refl }, refl)

-- the rest of the whole, from a position on, is covered, and the profile leaves none of it out
record Rest (whole : List ℕ) (start : ℕ) : Type 0 where
  parts : List LexedPiece
  covers : Covers whole start parts (length whole)
  none : NoneLeftOut whole (without_between parts)

-- ---- one text

module _ (whole before text after : List ℕ) (is : whole ≡ before ++ (text ++ 10 ∷ after)) where
  covers_there : (start : ℕ) (parts : List LexedPiece) (end : ℕ) → Covers text start parts end →
      Covers whole (length before + start) (map (moved_piece (length before)) parts) (length before + end)
  covers_there start [] end c = ap (λ k. length before + k) c
  covers_there start (part ∷ parts) end c = (
    ap (λ k. length before + k) c.0,
    longest_there whole before text after is part.start part.end part.form c.1,
    covers_there part.end parts end c.2,
  )

  feed_piece : LexedPiece
  feed_piece = record { start = length before + length text; end = length before + length text + 1; form = Blank }

  first_covers : (parts : List LexedPiece) → Covers text 0 parts (length text) →
      Covers whole (length before) (map (moved_piece (length before)) parts) (length before + length text)
  first_covers parts c = let none : length before + 0 ≡ length before = omega arith in
      subst (λ (s : ℕ). Covers whole s (map (moved_piece (length before)) parts) (length before + length text)) none
      (covers_there 0 parts (length text) c)

  tokens_both : (parts rest : List LexedPiece) →
      without_between (map (moved_piece (length before)) parts ++ feed_piece ∷ rest)
      ≡ map (moved_piece (length before)) (without_between parts) ++ without_between rest
  unfolding feed_piece
  tokens_both parts rest = filter-append (λ part. not (is_between part.form)) (map (moved_piece (length before)) parts) (feed_piece ∷ rest)
      ∙ ap (λ (xs : List LexedPiece). xs ++ without_between rest) (without_moved (length before) parts)

  rest_more : HasPieces text → Rest whole (length before + length text + 1) → Rest whole (length before)
  unfolding feed_piece
  rest_more own rest = record {
    parts = map (moved_piece (length before)) own.parts ++ feed_piece ∷ rest.parts;
    covers = covers_append whole (length before) (map (moved_piece (length before)) own.parts) (length before + length text) (feed_piece ∷ rest.parts)
        (length whole) (first_covers own.parts own.covers) (refl, longest_feed whole before text after is, rest.covers);
    none = subst (λ (xs : List LexedPiece). NoneLeftOut whole xs) (sym (tokens_both own.parts rest.parts))
        (both whole (map (moved_piece (length before)) (without_between own.parts))
        (subst EndsItems (sym (last_moved (length before) None (without_between own.parts))) own.ends)
        (without_between rest.parts)
        (none_there text whole (length before) (range whole before text after is) (without_between own.parts)
        (covers_inside text 0 own.parts (length text) own.covers) own.none) rest.none);
  }

-- ---- all texts

rest_from : (whole before : List ℕ) (texts : List (List ℕ)) → whole ≡ before ++ joined_text texts → AllHavePieces texts → Rest whole (length before)
rest_from whole before [] is each = record { parts = []; covers = sym (ap length (is ∙ append-nil before)); none = none_of_none whole }
rest_from whole before (text ∷ texts) is each =
    rest_more whole before text (joined_text texts) is each.0
    (subst (λ (start : ℕ). Rest whole start) (size_more before text)
    (rest_from whole (more before text) texts (further before text whole (joined_text texts) is) each.1))

-- ---- the rules

module _ (text : List ℕ) (parts : List LexedPiece) (covers : Covers text 0 parts (length text)) where
  no_lex : (place : Place) → ¬ FailsLex text place
  no_lex place fails =
      let one = covers_are_one (λ form. ⊤) text 0 parts fails.parts (length text) place.start covers fails.covers
      (λ k d inside. tt) (λ k d inside. tt) (λ end form piece any. nothing_at_end text end form piece)
      (λ end form piece any. fault_begins_nothing text place fails.fault end form piece) in
      let ends = one.1 in
      let inside = fault_inside text place fails.fault in absurd (omega (arith, ends, inside))

  no_profile : NoneLeftOut text (without_between parts) → (place : Place) → ¬ FailsProfile text place
  no_profile none place fails =
      let one = covers_are_one (λ form. ⊤) text 0 parts fails.parts (length text) (length text) covers fails.covers
      (λ k d inside. tt) (λ k d inside. tt) (λ end form piece any. nothing_at_end text end form piece)
      (λ end form piece any. nothing_at_end text end form piece) in
      none fails.before fails.part fails.after (ap without_between one.0 ∙ fails.stands) fails.left_out

  size_alone : NoneLeftOut text (without_between parts) → (of : Rule) (at : Place) (also : List Place) → Fails text of at also → of ≡ rule.Size
  size_alone none rule.Size at also fails = refl
  size_alone none rule.Lex at also fails = absurd (no_lex at fails.0)
  size_alone none rule.Profile at also fails = absurd (no_profile none at fails.0)
  size_alone none _ at also fails = absurd fails

pub joined_size_alone : (texts : List (List ℕ)) → AllHavePieces texts → (of : Rule) (at : Place) (also : List Place) → Fails (joined_text texts) of at also →
    of ≡ rule.Size
joined_size_alone texts each =
    let all = rest_from (joined_text texts) [] texts refl each in
    size_alone (joined_text texts) all.parts all.covers all.none
