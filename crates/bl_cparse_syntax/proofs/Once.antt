-- A text fails at one place.
use Rattle.std.proofs.Common.{◌≡◌, ℕ, zero, suc, ◌+◌, ◌-◌, ◌<◌, ◌≤◌, Bool, true, false, ◌&&◌, cond, List, [], ◌∷◌, ◌++◌, length, drop, get_or, refl, ap, sym}
use Rattle.std.proofs.Common.{◌∙◌, subst, ⊎_elim, inl, inr, arith, append_assoc, append-nil}
use Rattle.std.proofs.Math.Seq.{drop-cons}
use Rattle.std.proofs.str.Laws.{order}
use Rattle.std.proofs.lemmas.List.{drop_all}
use Rattle.std.proofs.lemmas.Bool.{or_right}
use Rattle.bl_tree.specs.Reduce.{joined}
use Rattle.bl_ctext.specs.Token.{Token, is_blank, is_word_byte, is_double_sign}
use Rattle.bl_ctext.specs.Token.{put_before}
use Rattle.bl_ctext.proofs.Bytes.{joined-not_blank}
use Rattle.bl_cparse_syntax.specs.Pieces.{cut_off, pieces}
use Rattle.bl_cparse_syntax.specs.Grammar.{SpellText}
use Rattle.bl_cparse_syntax.specs.Rules.{BeginsText, Passes, StandAt, FailsAtPiece, FailsFirst}

-- how many of the bytes are no white space
abbrev count : List ℕ → ℕ
count [] = 0
count (b ∷ bs) = cond (is_blank b) (count bs) (suc (count bs))

one_more : (b : ℕ) (ts : List Token) → length (joined (put_before b ts)) ≡ suc (length (joined ts))
one_more b [] = refl
one_more b (t ∷ ts) = refl

-- the pieces have just these bytes
counted : (bs : List ℕ) → length (joined (pieces bs)) ≡ count bs
counted [] = refl
counted (a ∷ []) = by_blank (is_blank a)
  where
    by_blank : (blank : Bool) → length (joined (cond blank [] ((a ∷ []) ∷ []))) ≡ cond blank 0 1
    by_blank true = refl
    by_blank false = refl
counted (a ∷ b ∷ bs) = by_kind (is_blank a) (is_double_sign a b) (is_word_byte a && is_word_byte b) refl refl refl (counted bs) (counted (b ∷ bs))
  where
    by_kind : (blank pair word : Bool) → is_blank a ≡ blank → is_double_sign a b ≡ pair → (is_word_byte a && is_word_byte b) ≡ word
        → length (joined (pieces bs)) ≡ count bs → length (joined (pieces (b ∷ bs))) ≡ count (b ∷ bs)
        → length (joined (cut_off blank pair word a b (pieces bs) (pieces (b ∷ bs)))) ≡ cond blank (count (b ∷ bs)) (suc (count (b ∷ bs)))
    by_kind true pair word eb ep ew far near = near
    by_kind false true word eb ep ew far near =
        let second : is_blank b ≡ false = (joined-not_blank a b (or_right _ _ ep)).1 in
        rw second (ap (λ n. suc (suc n)) far)
    by_kind false false true eb ep ew far near = one_more a (pieces (b ∷ bs)) ∙ ap suc near
    by_kind false false false eb ep ew far near = ap suc near

module _ (text : List ℕ) where
  one_less : (i : ℕ) → count (drop (suc i) text) ≤ count (drop i text)
  one_less i = ⊎_elim (λ inside. rw (drop-cons text i 0 inside) (either (is_blank (get_or text i 0)) (count (drop (suc i) text))))
      (λ over. rw (drop_all (suc i) text (omega (arith, over)), drop_all i text over) (omega arith)) (order i (length text))
    where
      either : (blank : Bool) (n : ℕ) → n ≤ cond blank n (suc n)
      either true n = omega arith
      either false n = omega arith

  none_more : (k i : ℕ) → count (drop (k + i) text) ≤ count (drop i text)
  none_more zero i = ap_le i
    where
      ap_le : (i : ℕ) → count (drop (0 + i) text) ≤ count (drop i text)
      ap_le i = let e : 0 + i ≡ i = omega arith in rw e (omega arith)
  none_more (suc k) i =
      let e : suc k + i ≡ suc (k + i) = omega arith in
      let here : count (drop (suc (k + i)) text) ≤ count (drop (k + i) text) = one_less (k + i) in
      let there : count (drop (k + i) text) ≤ count (drop i text) = none_more k i in
      rw e (omega (arith, here, there))

  fewer_behind : (at other : ℕ) → at < length text → is_blank (get_or text at 0) ≡ false → at < other →
      count (drop other text) < count (drop at text)
  fewer_behind at other inside solid less =
      let k : ℕ = other - suc at in
      let e : k + suc at ≡ other = omega (arith, less) in
      let here : count (drop at text) ≡ suc (count (drop (suc at) text)) = ap count (drop-cons text at 0 inside) ∙ rw solid refl in
      let rest : count (drop other text) ≤ count (drop (suc at) text) =
      subst (λ n. count (drop n text) ≤ count (drop (suc at) text)) e (none_more k (suc at)) in
      omega (arith, here, rest)

  same_count : (at other : ℕ) (left : List Token) → StandAt text at left → StandAt text other left → count (drop at text) ≡ count (drop other text)
  same_count at other left a b = sym (counted (drop at text)) ∙ ap (λ ts. length (joined ts)) (a.left_there ∙ sym b.left_there)
      ∙ counted (drop other text)

  not_behind : (at other : ℕ) (left : List Token) → StandAt text at left → StandAt text other left → other ≤ at
  not_behind at other left a b = ⊎_elim
      (λ less. absurd (omega (arith, fewer_behind at other a.inside a.no_blank less, same_count at other left a b))) (λ more. more) (order at other)

  one_place : (at other : ℕ) (left : List Token) → StandAt text at left → StandAt text other left → at ≡ other
  one_place at other left a b = omega (arith, not_behind at other left a b, not_behind other at left b a)

-- of two pieces of a list, each with those before it: they are one, or the one stands before the other
data Order (before : List Token) (piece : Token) (after front : List Token) (other : Token) (back : List Token) : Type 0 where
  same : piece ∷ after ≡ other ∷ back → Order before piece after front other back
  earlier : (rest : List Token) → front ≡ before ++ piece ∷ [] ++ rest → Order before piece after front other back
  later : (rest : List Token) → before ≡ front ++ other ∷ [] ++ rest → Order before piece after front other back

order_of : (before : List Token) (piece : Token) (after front : List Token) (other : Token) (back : List Token) →
    before ++ piece ∷ after ≡ front ++ other ∷ back → Order before piece after front other back
order_of [] piece after [] other back e = same e
order_of [] piece after (x ∷ front) other back e = earlier front (let h : x ≡ piece = cc in ap (λ y. y ∷ front) h)
order_of (y ∷ before) piece after [] other back e = later before (let h : y ≡ other = cc in ap (λ x. x ∷ before) h)
order_of (y ∷ before) piece after (x ∷ front) other back e =
    let head : y ≡ x = cc in let tail : before ++ piece ∷ after ≡ front ++ other ∷ back = cc in
    more y x head (order_of before piece after front other back tail)
  where
    more : (y x : Token) → y ≡ x → Order before piece after front other back → Order (y ∷ before) piece after (x ∷ front) other back
    more y x head (same e) = same e
    more y x head (earlier rest e) = earlier rest (ap (λ (zs : List Token). x ∷ zs) e ∙ ap (λ z. z ∷ (before ++ piece ∷ [] ++ rest)) (sym head))
    more y x head (later rest e) = later rest (ap (λ (zs : List Token). y ∷ zs) e ∙ ap (λ z. z ∷ (front ++ other ∷ [] ++ rest)) head)

-- a front of what begins a text begins one
front_begins : (front back all : List Token) → all ≡ front ++ back → BeginsText all → BeginsText front
front_begins front back all is begins =
    (back ++ begins.0, subst SpellText (ap (λ (ts : List Token). ts ++ begins.0) is ∙ append_assoc front back begins.0) begins.1)

piece_or_begins : (text : List ℕ) (start at : ℕ) → FailsAtPiece text start at → ¬ BeginsText (pieces (drop start text))
piece_or_begins text start at a begins =
    a.ends (front_begins (a.before ++ a.piece ∷ []) a.after (pieces (drop start text))
    (a.stands ∙ sym (append_assoc a.before (a.piece ∷ []) a.after)) begins)

one_piece : (text : List ℕ) (start at other : ℕ) → FailsAtPiece text start at → FailsAtPiece text start other → at ≡ other
one_piece text start at other a b = by_order (order_of a.before a.piece a.after b.before b.piece b.after (sym a.stands ∙ b.stands))
  where
    by_order : Order a.before a.piece a.after b.before b.piece b.after → at ≡ other
    by_order (same e) = one_place text at other (a.piece ∷ a.after) a.there (subst (λ (ts : List Token). StandAt text other ts) (sym e) b.there)
    by_order (earlier rest e) = absurd (a.ends (front_begins (a.before ++ a.piece ∷ []) rest b.before e b.begins))
    by_order (later rest e) = absurd (b.ends (front_begins (b.before ++ b.piece ∷ []) rest a.before e a.begins))

pub one_failure : (text : List ℕ) (start at other : ℕ) → FailsFirst text start at → FailsFirst text start other → at ≡ other
one_failure text start at other (inl a) (inl b) = one_piece text start at other a b
one_failure text start at other (inl a) (inr b) = absurd (piece_or_begins text start at a b.begins)
one_failure text start at other (inr a) (inl b) = absurd (piece_or_begins text start other b a.begins)
one_failure text start at other (inr a) (inr b) = a.at_end ∙ sym b.at_end

pub no_failure : (text : List ℕ) (start at : ℕ) → Passes text start → ¬ FailsFirst text start at
no_failure text start at passes (inl a) = piece_or_begins text start at a ([], subst SpellText (sym (append-nil (pieces (drop start text)))) passes)
no_failure text start at passes (inr a) = a.no_text passes
