-- The tables are right, and one token decides.
use Rattle.std.proofs.Common.{◌≡◌, Bool, true, false, not, cond, ◌&&◌, ◌||◌, List, [], ◌∷◌, ◌++◌, refl, ap, sym, ◌∙◌, subst}
use Rattle.std.specs.Prelude.{Some, None}
use Rattle.std.specs.List.{list_all}
use Rattle.std.proofs.lemmas.Bool.{eqb-true}
use Rattle.std.proofs.lemmas.Bool.{false_from_ne_true, not-true}
use Rattle.bl_tree.proofs.KeywordLemmas.{same_word_is}
use Rattle.bl_grammar.proofs.Predictive.{or_left, or_right, and_both, and_left, and_right, not_both, same_some, no_some}
use Rattle.bl_parse_syntax.specs.declared.grammar.Class.{Class}
use Rattle.bl_parse_syntax.specs.declared.grammar.Class.TheVariants.{AnyName, AnyNumber, Keyword, Mark}
use Rattle.bl_parse_syntax.specs.declared.grammar.TokenView.{TokenView}
use Rattle.bl_parse_syntax.specs.declared.grammar.Part.{Part}
use Rattle.bl_parse_syntax.specs.declared.grammar.Part.TheVariants.{Program, AfterReturn}
use Rattle.bl_parse_syntax.specs.Grammar.{Piece, productions, same_class, may_stand, continues, expression_starts, IsAmong, Produces}
use Rattle.bl_parse_syntax.specs.Grammar.IsAmong.{here, later}
use Rattle.bl_parse_syntax.specs.Tables.{has, firsts, starts, absent, has_empty, Choice, choices_of, choices, chosen, permits, or_absent, pick}
use Rattle.bl_parse_syntax.specs.Follow.{avoided}
use Rattle.bl_parse_syntax.specs.Stack.{begins}
use Rattle.bl_parse_syntax.proofs.Checks.{are_apart, are_within, all_on, are_separate, is_bare, starts_are, separate, own_avoided}

-- classes

pub same_is : (a b : Class) → same_class a b ≡ true → a ≡ b
same_is AnyName AnyName e = refl
same_is AnyNumber AnyNumber e = refl
same_is (Keyword k) (Keyword n) e = ap Keyword (same_word_is k n e)
same_is (Mark k) (Mark n) e = ap Mark (eqb-true k n e)
same_is _ _ e = cc

-- of a test that all pass, what is among them passes it
pub all_has : (test : Class → Bool) (xs : List Class) (c : Class) → list_all test xs ≡ true → has xs c ≡ true → test c ≡ true
all_has test [] c all is = absurd (not_both false is refl)
all_has test (x ∷ xs) c all is = by_same (same_class x c) refl is (all_has test xs c (and_right (test x) _ all))
  where
    by_same : (b : Bool) → same_class x c ≡ b → b || has xs c ≡ true → (has xs c ≡ true → test c ≡ true) → test c ≡ true
    by_same true e is rest = subst (λ k. test k ≡ true) (same_is x c e) (and_left _ _ all)
    by_same false e is rest = rest is

pub apart : (xs ys : List Class) (c : Class) → are_apart xs ys ≡ true → has xs c ≡ true → has ys c ≡ false
apart xs ys c all is = not-true _ (all_has (λ k. not (has ys k)) xs c all is)

pub has_append : (xs ys : List Class) (c : Class) → has (xs ++ ys) c ≡ has xs c || has ys c
has_append [] ys c = refl
has_append (x ∷ xs) ys c = ap (λ b. same_class x c || b) (has_append xs ys c) ∙ or_assoc (same_class x c) _ _
  where
    or_assoc : (a b c : Bool) → a || (b || c) ≡ (a || b) || c
    or_assoc true b c = refl
    or_assoc false b c = refl

-- of a test that all productions pass, one of them passes it
pub all_among : (test : List Piece → Bool) (ps : List (List Piece)) (p : List Piece) → list_all test ps ≡ true → IsAmong p ps → test p ≡ true
all_among test [] p all among = elim among [ ]
all_among test (q ∷ ps) p all here = and_left _ _ all
all_among test (q ∷ ps) p all (later is) = all_among test ps p (and_right (test q) _ all) is

-- choices

pub empty_is : (ps : List (List Piece)) → IsAmong [] ps → has_empty ps ≡ true
empty_is [] among = elim among [ ]
empty_is ([] ∷ ps) here = refl
empty_is ([] ∷ ps) (later is) = refl
empty_is ((x ∷ q) ∷ ps) (later is) = empty_is ps is

pub is_empty : (ps : List (List Piece)) → has_empty ps ≡ true → IsAmong [] ps
is_empty [] e = absurd (not_both false e refl)
is_empty ([] ∷ ps) e = here
is_empty ((x ∷ q) ∷ ps) e = later (is_empty ps e)

pub on_choice : (ps : List (List Piece)) (x : Piece) (q : List Piece) (c : Class) → IsAmong (x ∷ q) ps →
    has (firsts starts (x ∷ q)) c ≡ true → has (all_on (choices_of ps)) c ≡ true
on_choice [] x q c among is = elim among [ ]
on_choice (_ ∷ ps) x q c here is = has_append _ _ c ∙ or_left _ _ is
on_choice ([] ∷ ps) x q c (later among) is = on_choice ps x q c among is
on_choice ((y ∷ r) ∷ ps) x q c (later among) is = has_append (firsts starts (y ∷ r)) _ c
    ∙ or_right (has (firsts starts (y ∷ r)) c) _ (on_choice ps x q c among is)

pub chosen_choice : (ps : List (List Piece)) (x : Piece) (q : List Piece) (c : Class) → are_separate (choices_of ps) ≡ true →
    IsAmong (x ∷ q) ps → has (firsts starts (x ∷ q)) c ≡ true → chosen (choices_of ps) c ≡ Some (x ∷ q)
chosen_choice [] x q c apart_all among is = elim among [ ]
chosen_choice (_ ∷ ps) x q c apart_all here is = rw is refl
chosen_choice ([] ∷ ps) x q c apart_all (later among) is = chosen_choice ps x q c apart_all among is
chosen_choice ((y ∷ r) ∷ ps) x q c apart_all (later among) is =
    let other : has (firsts starts (y ∷ r)) c ≡ false =
    false_from_ne_true _ (λ on. not_both _ (on_choice ps x q c among is) (apart _ (all_on (choices_of ps)) c (and_left _ _ apart_all) on)) in
    rw other (chosen_choice ps x q c (and_right (are_apart (firsts starts (y ∷ r)) (all_on (choices_of ps))) _ apart_all) among is)

pub chosen_none : (cs : List Choice) (c : Class) → has (all_on cs) c ≡ false → chosen cs c ≡ None
chosen_none [] c none = refl
chosen_none (x ∷ cs) c none = by_here (has x.on c) (has (all_on cs) c) refl (sym (has_append x.on (all_on cs) c) ∙ none) (chosen_none cs c)
  where
    by_here : (a b : Bool) → has (all_on cs) c ≡ b → a || b ≡ false → (has (all_on cs) c ≡ false → chosen cs c ≡ None) →
        cond a (Some x.production) (chosen cs c) ≡ None
    by_here true b eb none rest = absurd (not_both true refl none)
    by_here false b eb none rest = rest (eb ∙ none)

pub chosen_among : (ps : List (List Piece)) (c : Class) (p : List Piece) → chosen (choices_of ps) c ≡ Some p → IsAmong p ps
chosen_among [] c p is = absurd (no_some p is)
chosen_among ([] ∷ ps) c p is = later (chosen_among ps c p is)
chosen_among ((x ∷ q) ∷ ps) c p is = by_here (has (firsts starts (x ∷ q)) c) is (chosen_among ps c p)
  where
    by_here : (b : Bool) → cond b (Some (x ∷ q)) (chosen (choices_of ps) c) ≡ Some p →
        (chosen (choices_of ps) c ≡ Some p → IsAmong p ps) → IsAmong p ((x ∷ q) ∷ ps)
    by_here true is rest = subst (λ (r : List Piece). IsAmong r ((x ∷ q) ∷ ps)) (same_some _ _ is) here
    by_here false is rest = later (rest is)

pub chosen_on : (cs : List Choice) (c : Class) (p : List Piece) → chosen cs c ≡ Some p → has (all_on cs) c ≡ true
chosen_on cs c p is = by_on (has (all_on cs) c) refl
  where
    by_on : (b : Bool) → has (all_on cs) c ≡ b → b ≡ true
    by_on true e = refl
    by_on false e = absurd (no_some p (sym (chosen_none cs c e) ∙ is))

-- the parts of the grammar

-- where a production that isn't empty may stand, the part may begin at the token
pub permits_of : (A : Part) (v : TokenView) (x : Piece) (q : List Piece) → may_stand A (Some v) (x ∷ q) ≡ true → permits A v ≡ true
permits_of AfterReturn v x q may = and_left _ _ may
permits_of Program v x q may = refl
permits_of _ v x q may = refl

pub chosen_of : (A : Part) (x : Piece) (q : List Piece) (c : Class) → IsAmong (x ∷ q) (productions A) →
    has (firsts starts (x ∷ q)) c ≡ true → chosen (choices A) c ≡ Some (x ∷ q)
unfolding choices
chosen_of A x q c among is = chosen_choice (productions A) x q c (separate A) among is

pub begun_of : (A : Part) (x : Piece) (q : List Piece) (c : Class) → IsAmong (x ∷ q) (productions A) →
    has (firsts starts (x ∷ q)) c ≡ true → has (starts A) c ≡ true
unfolding choices
begun_of A x q c among is = subst (λ (cs : List Class). has cs c ≡ true) (starts_are A) (on_choice (productions A) x q c among is)

pub pick_of : (A : Part) (v : TokenView) (x : Piece) (q : List Piece) → Produces A (Some v) (x ∷ q) →
    has (firsts starts (x ∷ q)) v.class ≡ true → pick A v ≡ Some (x ∷ q)
unfolding pick
pick_of A v x q made is = rw (permits_of A v x q made.1, chosen_of A x q v.class made.0 is) refl

pub begins_of : (A : Part) (v : TokenView) (x : Piece) (q : List Piece) → Produces A (Some v) (x ∷ q) →
    has (firsts starts (x ∷ q)) v.class ≡ true → begins A v ≡ true
begins_of A v x q made is = and_both _ _ (permits_of A v x q made.1) (begun_of A x q v.class made.0 is)

-- a class that begins nothing of the part decides on none of its productions
pub unpicked : (A : Part) (v : TokenView) → absent A ≡ true → has (starts A) v.class ≡ false → pick A v ≡ Some []
unfolding pick
unpicked A v may none = rw (
  chosen_none (choices A) v.class
      (subst (λ (cs : List Class). has cs v.class ≡ false) (sym (starts_are A)) none),
  may,
) (either (permits A v))
  where
    either : (b : Bool) → or_absent true (cond b None None) ≡ Some []
    either true = refl
    either false = refl

-- the expression of `return` begins at the classes that begin one
pub after_return_starts : starts AfterReturn ≡ expression_starts
unfolding starts
after_return_starts = refl

pub bare_pick : (v : TokenView) → not (continues (Some v)) ≡ true → pick AfterReturn v ≡ Some []
unfolding pick absent
bare_pick v bare = by_line v.fresh (has (starts AfterReturn) v.class) refl
    (subst (λ (cs : List Class). not (not v.fresh && has cs v.class) ≡ true) (sym after_return_starts) bare)
  where
    by_line : (fresh on : Bool) → has (starts AfterReturn) v.class ≡ on → not (not fresh && on) ≡ true →
        or_absent true (cond (not fresh) (chosen (choices AfterReturn) v.class) None) ≡ Some []
    by_line true on e bare = refl
    by_line false true e bare = absurd (not_both false bare refl)
    by_line false false e bare = rw (chosen_none (choices AfterReturn) v.class
        (subst (λ (cs : List Class). has cs v.class ≡ false) (sym (starts_are AfterReturn)) e)) refl

pub own_apart : (A : Part) → is_bare A ≡ false → absent A ≡ true → are_within (starts A) (avoided A) ≡ true
own_apart A other may = by_absent (is_bare A) (absent A) other may (own_avoided A)
  where
    by_absent : (bare may : Bool) → bare ≡ false → may ≡ true → bare || (not may || are_within (starts A) (avoided A)) ≡ true →
        are_within (starts A) (avoided A) ≡ true
    by_absent true may eb em own = absurd (not_both true refl eb)
    by_absent false true eb em own = own
    by_absent false false eb em own = absurd (not_both false em refl)

pub other_pick : (A : Part) (v : TokenView) → is_bare A ≡ false → absent A ≡ true → has (avoided A) v.class ≡ false → pick A v ≡ Some []
other_pick A v other may none = unpicked A v may (false_from_ne_true _ (λ on. not_both _ (all_has (has (avoided A)) (starts A) v.class (own_apart A other may) on) none))

pub empty_pick : (A : Part) (v : TokenView) → may_stand A (Some v) [] ≡ true → absent A ≡ true → has (avoided A) v.class ≡ false → pick A v ≡ Some []
empty_pick AfterReturn v stands may none = bare_pick v stands
empty_pick Program v stands may none = other_pick Program v refl may none
empty_pick part v stands may none = other_pick part v refl may none
