-- What is expected of expressions and places, by the piece that stands next.
use Rattle.std.proofs.Common.{◌≡◌, ℕ, ◌-◌, ◌≤◌, Bool, true, false, ◌||◌, List, [], ◌∷◌, ◌++◌, map, codes, refl, sym, ap, ◌∙◌, subst, arith}
use Rattle.bl_tree.specs.declared.scalar.Width.{Width}
use Rattle.bl_tree.specs.declared.scalar.Width.TheVariants.{W8, W16, W32, W64}
use Rattle.bl_ctext.specs.Token.{Token}
use Rattle.bl_ctext.specs.Names.{is_among, is_name, is_turn_name}
use Rattle.bl_ctext.specs.Spelling.{constant_word, width_digits}
use Rattle.bl_grammar.specs.declared.symbol.Symbol.TheVariants.{Terminal}
use Rattle.bl_grammar.specs.Derivations.Derives.{terminal}
use Rattle.bl_grammar.proofs.Predictive.{not_both, or_left, or_right, expansion, fold_in, join}
use Rattle.bl_cparse_syntax.specs.declared.grammar.Digits.TheVariants.{Elements, Int, Negated, Unsigned}
use Rattle.bl_cparse_syntax.specs.declared.grammar.Group.TheVariants.{PlainLiterals, IndexFunctions}
use Rattle.bl_cparse_syntax.specs.declared.grammar.Part.TheVariants.{Expr, Simple, Constant, Inside, Negative, NameUse, Steps, Index, Args, ArgRest, Arg, Place}
use Rattle.bl_cparse_syntax.specs.Pieces.{is_same, first_piece}
use Rattle.bl_cparse_syntax.specs.Classes.{Class, matches, spells_number}
use Rattle.bl_cparse_syntax.specs.Classes.Class.{exactly, one_of, a_name, number}
use Rattle.bl_cparse_syntax.specs.Grammar.{Wanted, Production, Produces, CDerives, IsAmong, productions, wanted_for, needing_none, needing, word, name, digits}
use Rattle.bl_cparse_syntax.specs.Grammar.{the, within_brackets, constant}
use Rattle.bl_cparse_syntax.specs.Grammar.IsAmong.{here, later}
use Rattle.bl_cparse_syntax.specs.Tables.{has, starts, absent}
use Rattle.bl_cparse_syntax.specs.Expects.{Expects}
use Rattle.bl_cparse_syntax.specs.Follow.{constant_starts, after_place, avoided}
use Rattle.bl_cparse_syntax_laws.proofs.Pieces.{name_is}
use Rattle.bl_cparse_syntax.proofs.ClassLemmas.{exactly_is}
use Rattle.bl_cparse.specs.inner.Reading.{sign, name_of, prelude_function, operator, index_function, elements, part, signed_starts, literal_starts}
use Rattle.bl_cparse.proofs.ReadLemmas.{seated, opened, begun, omitted, next, passed, retold, other_next}

-- tests of which none holds
pub four_off : (a b c d : Bool) → a || (b || (c || (d || false))) ≡ false → (a ≡ false) × ((b ≡ false) × ((c ≡ false) × (d ≡ false)))
four_off true b c d h = absurd (not_both _ refl h)
four_off false true c d h = absurd (not_both _ refl h)
four_off false false true d h = absurd (not_both _ refl h)
four_off false false false true h = absurd (not_both _ refl h)
four_off false false false false h = (refl, (refl, (refl, refl)))

pub name_has : (t : Token) → is_name t ≡ true → has (a_name ∷ []) t ≡ true
unfolding matches
name_has t is = rw is refl

no_less : (n : ℕ) → n ≡ n - 0
no_less n = omega arith

first_turn : is_turn_name (codes "t0") ≡ true
unfolding is_turn_name
first_turn = refl

least_plain : (w : Width) → matches (one_of PlainLiterals) (codes "INT" ++ (width_digits w ++ codes "_MIN")) ≡ true
unfolding matches is_among
least_plain W8 = refl
least_plain W16 = refl
least_plain W32 = refl
least_plain W64 = refl

never_first : {class : Class} {rest : List Wanted} {ts : List Token} → matches class (first_piece ts) ≡ false →
    CDerives (Terminal class ∷ rest) ts [] → ⊥
never_first off (terminal m r) = not_both _ m off

last_off : (a b : Bool) → a || b ≡ false → b ≡ false
last_off true b h = absurd (not_both _ refl h)
last_off false b h = h

-- a constant begins with its word
constant_first : {room : ℕ} {rest : List Wanted} {ts : List Token} → Expects (part Constant room ∷ rest) ts → has constant_starts (first_piece ts) ≡ true
constant_first {room} {rest} {ts} e = let o = opened e in by_one o.production o.is_one o.name o.expects
  where
    by_one : (p : Production) → IsAmong p (productions Constant) → (own : Token) →
        Expects (map (seated room own) p.shapes ++ rest) ts → has constant_starts (first_piece ts) ≡ true
    by_one p here own e = or_left _ _ (next e).matched
    by_one p (later here) own e = or_right (matches (exactly (codes "INT8_C")) (first_piece ts)) _ (or_left _ _ (next e).matched)
    by_one p (later (later here)) own e = or_right (matches (exactly (codes "INT8_C")) (first_piece ts)) _
        (or_right (matches (exactly (codes "INT16_C")) (first_piece ts)) _ (or_left _ _ (next e).matched))
    by_one p (later (later (later here))) own e = or_right (matches (exactly (codes "INT8_C")) (first_piece ts)) _
        (or_right (matches (exactly (codes "INT16_C")) (first_piece ts)) _
        (or_right (matches (exactly (codes "INT32_C")) (first_piece ts)) _ (or_left _ _ (next e).matched)))
    by_one p (later (later (later (later here)))) own e =
        or_right (matches (exactly (codes "INT8_C")) (first_piece ts)) _
        (or_right (matches (exactly (codes "INT16_C")) (first_piece ts)) _
        (or_right (matches (exactly (codes "INT32_C")) (first_piece ts)) _
        (or_right (matches (exactly (codes "INT64_C")) (first_piece ts)) _ (or_left _ _ (next e).matched))))
    by_one p (later (later (later (later (later here))))) own e =
        or_right (matches (exactly (codes "INT8_C")) (first_piece ts)) _
        (or_right (matches (exactly (codes "INT16_C")) (first_piece ts)) _
        (or_right (matches (exactly (codes "INT32_C")) (first_piece ts)) _
        (or_right (matches (exactly (codes "INT64_C")) (first_piece ts)) _
        (or_right (matches (exactly (codes "UINT8_C")) (first_piece ts)) _ (or_left _ _ (next e).matched)))))
    by_one p (later (later (later (later (later (later here)))))) own e =
        or_right (matches (exactly (codes "INT8_C")) (first_piece ts)) _
        (or_right (matches (exactly (codes "INT16_C")) (first_piece ts)) _
        (or_right (matches (exactly (codes "INT32_C")) (first_piece ts)) _
        (or_right (matches (exactly (codes "INT64_C")) (first_piece ts)) _
        (or_right (matches (exactly (codes "UINT8_C")) (first_piece ts)) _
        (or_right (matches (exactly (codes "UINT16_C")) (first_piece ts)) _ (or_left _ _ (next e).matched))))))
    by_one p (later (later (later (later (later (later (later here))))))) own e =
        or_right (matches (exactly (codes "INT8_C")) (first_piece ts)) _
        (or_right (matches (exactly (codes "INT16_C")) (first_piece ts)) _
        (or_right (matches (exactly (codes "INT32_C")) (first_piece ts)) _
        (or_right (matches (exactly (codes "INT64_C")) (first_piece ts)) _
        (or_right (matches (exactly (codes "UINT8_C")) (first_piece ts)) _
        (or_right (matches (exactly (codes "UINT16_C")) (first_piece ts)) _
        (or_right (matches (exactly (codes "UINT32_C")) (first_piece ts)) _ (or_left _ _ (next e).matched)))))))
    by_one p (later (later (later (later (later (later (later (later is)))))))) own e = elim is [ ]

as_steps : {room : ℕ} {rest : List Wanted} {ts : List Token} → matches (exactly (codes "(")) (first_piece ts) ≡ false →
    CDerives (part NameUse room ∷ rest) ts [] → CDerives (part Steps room ∷ rest) ts []
as_steps {room} {rest} {ts} off d = let x = expansion Produces matches d in
    by_one x.made.production x.made.is_one x.made.name x.made.is_turn
    (subst (λ (w : List Wanted). CDerives (w ++ rest) ts []) x.made.made (join Produces matches x.first x.rest))
  where
    by_one : (p : Production) → IsAmong p (productions NameUse) → (own : Token) → is_turn_name own ≡ true →
        CDerives (map (wanted_for room own) p.shapes ++ rest) ts [] → CDerives (part Steps room ∷ rest) ts []
    by_one p here own is d = absurd (never_first off d)
    by_one p (later here) own is d = fold_in Produces matches _
        (record {
          production = needing_none (word (codes ".") ∷ name ∷ the Index ∷ the Steps ∷ []);
          is_one = here;
          has_room =
              omega arith;
          name = own;
          is_turn = is;
          made = refl;
        }) d
    by_one p (later (later here)) own is d = fold_in Produces matches _
        (record { production = needing_none []; is_one = later here; has_room = omega arith; name = own; is_turn = is; made = refl }) d
    by_one p (later (later (later is))) own t d = elim is [ ]

module _ {room : ℕ} {rest : List Wanted} {ts : List Token} where
  pub simple_literal : matches (one_of PlainLiterals) (first_piece ts) ≡ true → Expects (part Simple room ∷ rest) ts →
      Expects (Terminal (one_of PlainLiterals) ∷ rest) ts
  unfolding starts matches is_same is_among is_name spells_number is_turn_name
  simple_literal is e = (begun (needing_none (Terminal (one_of PlainLiterals) ∷ [])) (later (later here)) refl (rw is refl) e).1

  simple_constant : has constant_starts (first_piece ts) ≡ true → Expects (part Simple room ∷ rest) ts → Expects (part Constant room ∷ rest) ts
  unfolding starts matches is_same is_among is_name spells_number is_turn_name
  simple_constant is e = (begun (needing 1 (the Constant ∷ [])) (later (later (later here))) refl is e).1

  pub signed_constant : (w : Width) → first_piece ts ≡ constant_word (codes "INT") w → Expects (part Simple room ∷ rest) ts →
      Expects (sign (constant_word (codes "INT") w) ∷ sign (codes "(") ∷ Terminal (number (Int w)) ∷ sign (codes ")") ∷ rest) ts
  unfolding starts matches is_same is_among is_name spells_number is_turn_name
  signed_constant W8 is e = (begun (needing_none (constant (codes "INT8_C") (Int W8))) here refl (rw is refl) (simple_constant (rw is refl) e)).1
  signed_constant W16 is e = (begun (needing_none (constant (codes "INT16_C") (Int W16))) (later here) refl (rw is refl) (simple_constant (rw is refl) e)).1
  signed_constant W32 is e = (begun (needing_none (constant (codes "INT32_C") (Int W32))) (later (later here)) refl (rw is refl)
      (simple_constant (rw is refl) e)).1
  signed_constant W64 is e = (begun (needing_none (constant (codes "INT64_C") (Int W64))) (later (later (later here))) refl (rw is refl)
      (simple_constant (rw is refl) e)).1

  pub unsigned_constant : (w : Width) → first_piece ts ≡ constant_word (codes "UINT") w → Expects (part Simple room ∷ rest) ts →
      Expects (sign (constant_word (codes "UINT") w) ∷ sign (codes "(") ∷ Terminal (number (Unsigned w)) ∷ sign (codes ")") ∷ rest) ts
  unfolding starts matches is_same is_among is_name spells_number is_turn_name
  unsigned_constant W8 is e = (begun (needing_none (constant (codes "UINT8_C") (Unsigned W8))) (later (later (later (later here)))) refl
      (rw is refl) (simple_constant (rw is refl) e)).1
  unsigned_constant W16 is e = (begun (needing_none (constant (codes "UINT16_C") (Unsigned W16)))
      (later (later (later (later (later here))))) refl (rw is refl) (simple_constant (rw is refl) e)).1
  unsigned_constant W32 is e = (begun (needing_none (constant (codes "UINT32_C") (Unsigned W32)))
      (later (later (later (later (later (later here)))))) refl (rw is refl) (simple_constant (rw is refl) e)).1
  unsigned_constant W64 is e = (begun (needing_none (constant (codes "UINT64_C") (Unsigned W64)))
      (later (later (later (later (later (later (later here))))))) refl (rw is refl) (simple_constant (rw is refl) e)).1

  pub negative_constant : (w : Width) → first_piece ts ≡ constant_word (codes "INT") w → Expects (part Negative room ∷ rest) ts →
      Expects (sign (constant_word (codes "INT") w) ∷ sign (codes "(") ∷ Terminal (number (Negated w)) ∷ sign (codes ")") ∷ rest) ts
  unfolding starts matches is_same is_among is_name spells_number is_turn_name
  negative_constant W8 is e = (begun (needing_none (constant (codes "INT8_C") (Negated W8))) here refl (rw is refl) (e)).1
  negative_constant W16 is e = (begun (needing_none (constant (codes "INT16_C") (Negated W16))) (later here) refl (rw is refl) (e)).1
  negative_constant W32 is e = (begun (needing_none (constant (codes "INT32_C") (Negated W32))) (later (later here)) refl (rw is refl) (e)).1
  negative_constant W64 is e = (begun (needing_none (constant (codes "INT64_C") (Negated W64))) (later (later (later here))) refl (rw is refl) (e)).1

  pub negative_stands : has signed_starts (first_piece ts) ≡ false → Expects (part Negative room ∷ rest) ts → ⊥
  negative_stands off e = let o = opened e in by_one o.production o.is_one o.name o.expects
    where
      none : (matches (exactly (codes "INT8_C")) (first_piece ts) ≡ false)
          × ((matches (exactly (codes "INT16_C")) (first_piece ts) ≡ false)
          × ((matches (exactly (codes "INT32_C")) (first_piece ts) ≡ false) × (matches (exactly (codes "INT64_C")) (first_piece ts) ≡ false)))
      none = four_off (matches (exactly (codes "INT8_C")) (first_piece ts)) (matches (exactly (codes "INT16_C")) (first_piece ts))
          (matches (exactly (codes "INT32_C")) (first_piece ts)) (matches (exactly (codes "INT64_C")) (first_piece ts)) off

      by_one : (p : Production) → IsAmong p (productions Negative) → (own : Token) → Expects (map (seated room own) p.shapes ++ rest) ts → ⊥
      by_one p here own e = other_next none.0 e
      by_one p (later here) own e = other_next none.1.0 e
      by_one p (later (later here)) own e = other_next none.1.1.0 e
      by_one p (later (later (later here))) own e = other_next none.1.1.1 e
      by_one p (later (later (later (later is)))) own e = elim is [ ]

  plain_passed : {new : List Token} (w : Token) → matches (one_of PlainLiterals) w ≡ true → ts ≡ w ∷ new →
      Expects (part Simple room ∷ rest) ts → Expects rest new
  plain_passed w is stands e = passed stands (simple_literal (ap (λ us. matches (one_of PlainLiterals) (first_piece us)) stands ∙ is) e)

  pub true_passed : {new : List Token} → ts ≡ codes "true" ∷ new → Expects (part Simple room ∷ rest) ts → Expects rest new
  unfolding matches is_among
  true_passed stands e = plain_passed (codes "true") refl stands e

  pub false_passed : {new : List Token} → ts ≡ codes "false" ∷ new → Expects (part Simple room ∷ rest) ts → Expects rest new
  unfolding matches is_among
  false_passed stands e = plain_passed (codes "false") refl stands e

  pub least_passed : {new : List Token} (w : Width) {t : Token} → t ≡ codes "INT" ++ (width_digits w ++ codes "_MIN") →
      ts ≡ t ∷ new → Expects (part Simple room ∷ rest) ts → Expects rest new
  least_passed w {t} is stands e = plain_passed t (ap (matches (one_of PlainLiterals)) is ∙ least_plain w) stands e

  pub expr_bracketed : matches (exactly (codes "(")) (first_piece ts) ≡ true → Expects (part Expr room ∷ rest) ts →
      (1 ≤ room) × Expects (sign (codes "(") ∷ part Inside room ∷ rest) ts
  unfolding starts matches is_same is_among is_name spells_number is_turn_name
  expr_bracketed is e = (begun (needing 1 (word (codes "(") ∷ the Inside ∷ [])) here refl (rw is refl) e)

  pub expr_simple : matches (exactly (codes "(")) (first_piece ts) ≡ false → Expects (part Expr room ∷ rest) ts → Expects (part Simple room ∷ rest) ts
  expr_simple off e = let o = opened e in by_one o.production o.is_one o.has_room o.name o.expects
    where
      by_one : (p : Production) → IsAmong p (productions Expr) → p.needs ≤ room → (own : Token) →
          Expects (map (seated room own) p.shapes ++ (rest)) ts → Expects (part Simple room ∷ rest) ts
      by_one p here enough own e = absurd (other_next off e)
      by_one p (later here) enough own e = e
      by_one p (later (later is)) enough own e = elim is [ ]

  pub inside_place : matches (exactly (codes "*")) (first_piece ts) ≡ true → Expects (part Inside room ∷ rest) ts →
      Expects (sign (codes "*") ∷ name_of ∷ sign (codes ")") ∷ part Steps room ∷ rest) ts
  unfolding starts matches is_same is_among is_name spells_number is_turn_name
  inside_place is e = (begun (needing_none (word (codes "*") ∷ name ∷ word (codes ")") ∷ the Steps ∷ [])) here refl (rw is refl) e).1

  pub inside_not : matches (exactly (codes "!")) (first_piece ts) ≡ true → Expects (part Inside room ∷ rest) ts →
      Expects (sign (codes "!") ∷ part Expr (room - 1) ∷ sign (codes ")") ∷ rest) ts
  unfolding starts matches is_same is_among is_name spells_number is_turn_name
  inside_not is e = (begun (needing_none (word (codes "!") ∷ within_brackets 1 Expr ∷ word (codes ")") ∷ [])) (later here) refl (rw is refl) e).1

  pub inside_negative : matches (exactly (codes "-")) (first_piece ts) ≡ true → Expects (part Inside room ∷ rest) ts →
      Expects (sign (codes "-") ∷ part Negative room ∷ sign (codes ")") ∷ rest) ts
  unfolding starts matches is_same is_among is_name spells_number is_turn_name
  inside_negative is e = (begun (needing 2 (word (codes "-") ∷ the Negative ∷ word (codes ")") ∷ [])) (later (later here)) refl (rw is refl) e).1

  pub inside_two : matches (exactly (codes "*")) (first_piece ts) ≡ false → matches (exactly (codes "!")) (first_piece ts) ≡ false →
      matches (exactly (codes "-")) (first_piece ts) ≡ false → Expects (part Inside room ∷ rest) ts →
      Expects (part Expr (room - 1) ∷ operator ∷ part Expr (room - 1) ∷ sign (codes ")") ∷ rest) ts
  inside_two star bang minus e = let o = opened e in by_one o.production o.is_one o.has_room o.name o.expects
    where
      by_one : (p : Production) → IsAmong p (productions Inside) → p.needs ≤ room → (own : Token) →
          Expects (map (seated room own) p.shapes ++ (rest)) ts →
          Expects (part Expr (room - 1) ∷ operator ∷ part Expr (room - 1) ∷ sign (codes ")") ∷ rest) ts
      by_one p here enough own e = absurd (other_next star e)
      by_one p (later here) enough own e = absurd (other_next bang e)
      by_one p (later (later here)) enough own e = absurd (other_next minus e)
      by_one p (later (later (later here))) enough own e = e
      by_one p (later (later (later (later is)))) enough own e = elim is [ ]

  pub simple_named : is_name (first_piece ts) ≡ true → Expects (part Simple room ∷ rest) ts → Expects (name_of ∷ part NameUse room ∷ rest) ts
  unfolding starts matches is_same is_among is_name spells_number is_turn_name
  simple_named is e = (begun (needing_none (name ∷ the NameUse ∷ [])) here refl (name_has (first_piece ts) is) e).1

  pub simple_prelude : is_name (first_piece ts) ≡ false → has literal_starts (first_piece ts) ≡ false →
      Expects (part Simple room ∷ rest) ts → (1 ≤ room) × Expects
      (prelude_function ∷ sign (codes "(") ∷ part Args (room - 1) ∷ sign (codes ")") ∷ rest) ts
  simple_prelude other plain_ e = let o = opened e in by_one o.production o.is_one o.has_room o.name o.expects
    where
      by_one : (p : Production) → IsAmong p (productions Simple) → p.needs ≤ room → (own : Token) →
          Expects (map (seated room own) p.shapes ++ (rest)) ts →
          (1 ≤ room) × Expects (prelude_function ∷ sign (codes "(") ∷ part Args (room - 1) ∷ sign (codes ")") ∷ rest) ts
      by_one p here enough own e = absurd (not_both _ (name_is (first_piece ts) (next e).matched) other)
      by_one p (later here) enough own e = (enough, e)
      by_one p (later (later here)) enough own e = absurd (not_both _ (or_left _ _ (next e).matched) plain_)
      by_one p (later (later (later here))) enough own e =
          absurd (not_both _ (or_right (matches (one_of PlainLiterals) (first_piece ts)) _ (constant_first e)) plain_)
      by_one p (later (later (later (later is)))) enough own e = elim is [ ]

  pub use_called : matches (exactly (codes "(")) (first_piece ts) ≡ true → Expects (part NameUse room ∷ rest) ts →
      (1 ≤ room) × Expects (sign (codes "(") ∷ part Args (room - 1) ∷ sign (codes ")") ∷ rest) ts
  unfolding starts matches is_same is_among is_name spells_number is_turn_name
  use_called is e = (begun (needing 1 (word (codes "(") ∷ within_brackets 1 Args ∷ word (codes ")") ∷ [])) here refl (rw is refl) e)

  -- the use of a name that isn't called is steps
  pub use_steps : matches (exactly (codes "(")) (first_piece ts) ≡ false → Expects (part NameUse room ∷ rest) ts → Expects (part Steps room ∷ rest) ts
  unfolding avoided
  use_steps off e = record {
    good = ((λ token leads. last_off (matches (exactly (codes "(")) token) (has after_place token) (e.good.0 token leads)), e.good.1);
    spells = as_steps off e.spells;
  }

  pub steps_more : matches (exactly (codes ".")) (first_piece ts) ≡ true → Expects (part Steps room ∷ rest) ts →
      Expects (sign (codes ".") ∷ name_of ∷ part Index room ∷ part Steps room ∷ rest) ts
  unfolding starts matches is_same is_among is_name spells_number is_turn_name
  steps_more is e = (begun (needing_none (word (codes ".") ∷ name ∷ the Index ∷ the Steps ∷ [])) here refl (rw is refl) e).1

  pub steps_end : matches (exactly (codes ".")) (first_piece ts) ≡ false → Expects (part Steps room ∷ rest) ts → Expects rest ts
  unfolding starts absent
  steps_end off e = omitted refl (rw off refl) e

  pub index_stands : matches (exactly (codes "[")) (first_piece ts) ≡ true → Expects (part Index room ∷ rest) ts →
      (2 ≤ room) × Expects (sign (codes "[") ∷ index_function ∷ sign (codes "(") ∷ part Expr (room - 2) ∷ sign (codes ",")
      ∷ elements ∷ sign (codes ")") ∷ sign (codes "]") ∷ rest) ts
  unfolding starts matches is_same is_among is_name spells_number is_turn_name
  index_stands is e = (begun (needing 2 (word (codes "[") ∷ Terminal (one_of IndexFunctions) ∷ word (codes "(") ∷ within_brackets 2 Expr
      ∷ word (codes ",") ∷ digits Elements ∷ word (codes ")") ∷ word (codes "]") ∷ [])) here refl (rw is refl) e)

  pub index_absent : matches (exactly (codes "[")) (first_piece ts) ≡ false → Expects (part Index room ∷ rest) ts → Expects rest ts
  unfolding starts absent
  index_absent off e = omitted refl (rw off refl) e

  pub args_none : matches (exactly (codes ")")) (first_piece ts) ≡ true → Expects (part Args room ∷ rest) ts → Expects rest ts
  unfolding starts absent matches is_same is_among is_name
  args_none is e = omitted refl (rw (sym (exactly_is (codes ")") (first_piece ts) is)) refl) e

  pub args_some : matches (exactly (codes ")")) (first_piece ts) ≡ false → Expects (part Args room ∷ sign (codes ")") ∷ rest) ts →
      Expects (part Arg room ∷ part ArgRest room ∷ sign (codes ")") ∷ rest) ts
  args_some off e = let o = opened e in by_one o.production o.is_one o.has_room o.name o.expects
    where
      by_one : (p : Production) → IsAmong p (productions Args) → p.needs ≤ room → (own : Token) →
          Expects (map (seated room own) p.shapes ++ (sign (codes ")") ∷ rest)) ts →
          Expects (part Arg room ∷ part ArgRest room ∷ sign (codes ")") ∷ rest) ts
      by_one p here enough own e = e
      by_one p (later here) enough own e = absurd (other_next off e)
      by_one p (later (later is)) enough own e = elim is [ ]

  pub arg_more : matches (exactly (codes ",")) (first_piece ts) ≡ true → Expects (part ArgRest room ∷ rest) ts →
      Expects (sign (codes ",") ∷ part Arg room ∷ part ArgRest room ∷ rest) ts
  unfolding starts matches is_same is_among is_name spells_number is_turn_name
  arg_more is e = (begun (needing_none (word (codes ",") ∷ the Arg ∷ the ArgRest ∷ [])) here refl (rw is refl) e).1

  pub args_end : matches (exactly (codes ",")) (first_piece ts) ≡ false → Expects (part ArgRest room ∷ rest) ts → Expects rest ts
  unfolding starts absent
  args_end off e = omitted refl (rw off refl) e

  pub arg_address : matches (exactly (codes "&")) (first_piece ts) ≡ true → Expects (part Arg room ∷ rest) ts →
      Expects (sign (codes "&") ∷ part Place room ∷ rest) ts
  unfolding starts matches is_same is_among is_name spells_number is_turn_name
  arg_address is e = (begun (needing_none (word (codes "&") ∷ the Place ∷ [])) here refl (rw is refl) e).1

  pub arg_value : matches (exactly (codes "&")) (first_piece ts) ≡ false → Expects (part Arg room ∷ rest) ts → Expects (part Expr room ∷ rest) ts
  arg_value off e = let o = opened e in by_one o.production o.is_one o.has_room o.name o.expects
    where
      by_one : (p : Production) → IsAmong p (productions Arg) → p.needs ≤ room → (own : Token) →
          Expects (map (seated room own) p.shapes ++ (rest)) ts → Expects (part Expr room ∷ rest) ts
      by_one p here enough own e = absurd (other_next off e)
      by_one p (later here) enough own e = e
      by_one p (later (later is)) enough own e = elim is [ ]

  pub place_through : matches (exactly (codes "(")) (first_piece ts) ≡ true → Expects (part Place room ∷ rest) ts →
      (1 ≤ room) × Expects (sign (codes "(") ∷ sign (codes "*") ∷ name_of ∷ sign (codes ")") ∷ part Steps room ∷ rest) ts
  unfolding starts matches is_same is_among is_name spells_number is_turn_name
  place_through is e = (begun (needing 1 (word (codes "(") ∷ word (codes "*") ∷ name ∷ word (codes ")") ∷ the Steps ∷ []))
      (later here) refl (rw is refl) e)

  pub place_named : matches (exactly (codes "(")) (first_piece ts) ≡ false → Expects (part Place room ∷ rest) ts →
      Expects (name_of ∷ part Steps room ∷ rest) ts
  place_named off e = let o = opened e in by_one o.production o.is_one o.has_room o.name o.expects
    where
      by_one : (p : Production) → IsAmong p (productions Place) → p.needs ≤ room → (own : Token) →
          Expects (map (seated room own) p.shapes ++ (rest)) ts → Expects (name_of ∷ part Steps room ∷ rest) ts
      by_one p here enough own e = e
      by_one p (later here) enough own e = absurd (other_next off e)
      by_one p (later (later is)) enough own e = elim is [ ]

  -- what begins with no parenthesis is an expression
  pub simple_expr : Expects (part Simple room ∷ rest) ts → Expects (part Expr room ∷ rest) ts
  unfolding avoided
  simple_expr e = record {
    good = e.good;
    spells = fold_in Produces matches (part Simple room ∷ [])
        (record {
          production = needing_none (the Simple ∷ []);
          is_one = later here;
          has_room = omega arith;
          name = codes "t0";
          is_turn =
              first_turn;
          made = ap (λ n. part Simple n ∷ []) (no_less room);
        }) e.spells;
  }

-- of the two functions that take an index, the other one
pub other_index : {rest : List Wanted} {old new : List Token} → new ≡ old →
    matches (exactly (codes "bl_ix_s")) (first_piece old) ≡ false → Expects (index_function ∷ rest) old → Expects (sign (codes "bl_ix_u") ∷ rest) new
unfolding matches is_among is_same
other_index {rest} {old} {new} same off e =
    let n = next e in
    subst (λ (ts : List Token). Expects (sign (codes "bl_ix_u") ∷ rest) ts) (sym same)
    (retold (one_left (matches (exactly (codes "bl_ix_s")) (first_piece old)) (matches (exactly (codes "bl_ix_u")) (first_piece old)) off n.matched) e)
  where
    one_left : (a b : Bool) → a ≡ false → a || (b || false) ≡ true → b ≡ true
    one_left true b off h = absurd (not_both _ refl off)
    one_left false true off h = refl
    one_left false false off h = absurd (not_both _ h refl)
