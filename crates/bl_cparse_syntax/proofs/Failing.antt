-- Where the pieces of a text stop beginning one of the subset.
use Rattle.std.proofs.Common.{◌≡◌, ℕ, suc, ◌<◌, ◌≤◌, Bool, true, false, List, [], ◌∷◌, ◌++◌, map, length, drop, refl, ap, sym, ◌∙◌, subst, arith, append_assoc}
use Rattle.std.proofs.Common.{append-nil, inl, inr}
use Rattle.std.specs.Prelude.{slice_index, slice_range}
use Rattle.std.specs.List.{list_all}
use Rattle.std.proofs.lemmas.List.{drop_all}
use Rattle.bl_ctext.specs.Token.{Token, is_blank}
use Rattle.bl_cparse_syntax.specs.Pieces.{pieces, left_of}
use Rattle.bl_cparse_syntax.specs.Grammar.{Wanted, SpellText}
use Rattle.bl_cparse_syntax.specs.Stack.{CStackCompletes}
use Rattle.bl_cparse_syntax.specs.inner.Stacks.{StackAnswers, may_vanish, shown}
use Rattle.bl_cparse_syntax.specs.Rules.{BeginsText, Passes, FailsAtPiece, FailsFirst}
use Rattle.bl_cparse_syntax.proofs.Ranges.{range_none}
use Rattle.bl_cparse_syntax.proofs.PieceLemmas.{left_cut}
use Rattle.bl_cparse_syntax.proofs.Reading.{Rows, seen, begins_text, begins_none, read_one, accepts, rejects, vanish_seen}

module _ (text : List ℕ) (start from end : ℕ) where
  -- what was read before the piece between the offsets, and what it leaves
  abbrev pub Read : List Wanted → Type 0
  Read stack = (front : List Token) × (CStackCompletes front stack × (pieces (drop start text) ≡ front ++ left_of text from end))

  fails_at : (front : List Token) (stack rest : List Wanted) → CStackCompletes front stack →
      pieces (drop start text) ≡ front ++ left_of text from end → from < end → end ≤ length text
      → pieces (drop from text) ≡ left_of text from end → (from < length text → is_blank (slice_index text from) ≡ false) →
      StackAnswers (slice_range text from end) stack false rest → FailsAtPiece text start from
  fails_at front stack rest stands is beyond inside there no_blank refuses = record {
    before = front;
    piece = slice_range text from end;
    after = pieces (drop end text);
    stands = is ∙ ap (λ (ts : List Token). front ++ ts) (left_cut text from end beyond inside);
    begins = begins_text front stack stands;
    ends = begins_none front (slice_range text from end) stack rest stands refuses;
    there = record {
      inside = omega (arith, beyond, inside);
      no_blank = no_blank (omega (arith, beyond, inside));
      left_there = there ∙ left_cut text from end beyond inside;
    };
  }

  pub fails_here : (piece : Token) (stack rest : List Wanted) (taken : Bool) → piece ≡ slice_range text from end → Read stack →
      from < end → end ≤ length text → pieces (drop from text) ≡ left_of text from end
      → (from < length text → is_blank (slice_index text from) ≡ false) → StackAnswers piece stack taken rest → taken ≡ false →
      FailsFirst text start from
  fails_here piece stack rest taken is read beyond inside there no_blank answers is_no =
      inl (fails_at read.0 stack rest read.1.0 read.1.1 beyond inside there no_blank
      (subst (λ (t : Token). StackAnswers t stack false rest) is (subst (λ b. StackAnswers piece stack b rest) is_no answers)))

  pub reads_on : (piece : Token) (stack rest : List Wanted) (taken : Bool) → piece ≡ slice_range text from end → Read stack →
      from < end → end ≤ length text → (left : List Token) → left ≡ pieces (drop end text)
      → StackAnswers piece stack taken rest → taken ≡ true →
      (front : List Token) × (CStackCompletes front rest × (pieces (drop start text) ≡ front ++ left))
  reads_on piece stack rest taken of read beyond inside left is answers is_yes = (
    read.0 ++ slice_range text from end ∷ [],
    (
      read_one read.0 (slice_range text from end) stack rest read.1.0
          (subst (λ (t : Token). StackAnswers t stack true rest) of (subst (λ b. StackAnswers piece stack b rest) is_yes answers)),
      read.1.1 ∙ ap (λ (ts : List Token). read.0 ++ ts) (left_cut text from end beyond inside
          ∙ ap (λ (ts : List Token). slice_range text from end ∷ ts) (sym is))
          ∙ sym (append_assoc read.0 (slice_range text from end ∷ []) left),
    ),
  )

  pub shorter : (left : List Token) → from < end → end ≤ length text → left ≡ pieces (drop end text) → length left < length (left_of text from end)
  shorter left beyond inside is =
      let e : length (left_of text from end) ≡ suc (length left) =
      ap length (left_cut text from end beyond inside) ∙ ap (λ (ts : List Token). suc (length ts)) (sym is) in
      omega (arith, e)

  left_none : from ≡ end → end ≡ length text → left_of text from end ≡ []
  left_none same ends = rw (range_none text from end (omega (arith, same)), drop_all end text (omega (arith, ends))) refl

  all_read : (front : List Token) → pieces (drop start text) ≡ front ++ left_of text from end → from ≡ end → end ≡ length text →
      front ≡ pieces (drop start text)
  all_read front is same ends = sym (append-nil front) ∙ ap (λ (ts : List Token). front ++ ts) (sym (left_none same ends)) ∙ sym is

  over : from ≤ end → end ≤ from → from ≡ end
  over order stops = omega (arith, order, stops)

  pub passes_here : (rows : Rows) (may : Bool) → Read (seen rows) → from ≤ end → (from ≡ end → end ≡ length text) → end ≤ from →
      may ≡ list_all may_vanish (map shown rows) → may ≡ true → Passes text start
  passes_here rows may read order at_end stops is is_yes =
      subst SpellText (all_read read.0 read.1.1 (over order stops) (at_end (over order stops)))
      (accepts read.0 (seen rows) read.1.0 (vanish_seen (map shown rows) ∙ sym is ∙ is_yes))

  pub fails_at_end : (rows : Rows) (may : Bool) → Read (seen rows) → from ≤ end → (from ≡ end → end ≡ length text) → end ≤ from →
      may ≡ list_all may_vanish (map shown rows) → may ≡ false → FailsFirst text start (length text)
  fails_at_end rows may read order at_end stops is is_no =
      let all : read.0 ≡ pieces (drop start text) = all_read read.0 read.1.1 (over order stops) (at_end (over order stops)) in
      inr (record {
        begins = subst BeginsText all (begins_text read.0 (seen rows) read.1.0);
        no_text = subst (λ (ts : List Token). ¬ SpellText ts) all (rejects read.0 (seen rows) read.1.0 (vanish_seen (map shown rows) ∙ sym is ∙ is_no));
        at_end = refl;
      })
