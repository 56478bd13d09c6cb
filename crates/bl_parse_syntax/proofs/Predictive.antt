-- The grammar is one that the next token decides.
use Rattle.std.proofs.Common.{◌≡◌, ℕ, ◌<◌, ◌≤◌, Bool, true, false, not, cond, ◌&&◌, ◌||◌, ◌⊎◌, inl, inr, ⊎_elim, List, [], ◌∷◌, refl, ap, sym, ◌∙◌, subst}
use Rattle.std.proofs.Common.{arith}
use Rattle.std.specs.Prelude.{Option, Some, None, nat_lt}
use Rattle.std.proofs.lemmas.Bool.{ltb-true, eq-eqb}
use Rattle.std.proofs.lemmas.Bool.{false_from_ne_true, not-true}
use Rattle.bl_tree.proofs.KeywordLemmas.{same_word_self}
use Rattle.bl_grammar.specs.declared.symbol.Symbol.TheVariants.{Terminal, Nonterminal}
use Rattle.bl_grammar.specs.Predictive
use Rattle.bl_grammar.proofs.Predictive.{or_left, and_left, and_right, not_both, same_some, no_some}
use Rattle.bl_parse_syntax.specs.declared.grammar.Class.{Class}
use Rattle.bl_parse_syntax.specs.declared.grammar.Class.TheVariants.{AnyName, AnyNumber, Keyword, Mark}
use Rattle.bl_parse_syntax.specs.declared.grammar.TokenView.{TokenView}
use Rattle.bl_parse_syntax.specs.declared.grammar.Part.{Part}
use Rattle.bl_parse_syntax.specs.declared.grammar.Part.TheVariants.{Program, AfterReturn, Expr}
use Rattle.bl_parse_syntax.specs.Grammar.{Piece, the, productions, same_class, matches, may_stand, begins_expression, IsAmong, Produces}
use Rattle.bl_parse_syntax.specs.Grammar.IsAmong.{here, later}
use Rattle.bl_parse_syntax.specs.Tables.{has, starts, absent, choices, permits, or_absent, pick}
use Rattle.bl_parse_syntax.specs.Follow.{avoided, height, depth, are_lower, lower_of}
use Rattle.bl_parse_syntax.specs.Stack.{tables}
use Rattle.bl_parse_syntax.proofs.Checks.{are_apart, are_within, heads_of, may_vanish, follows, is_headed, has_lower, headed, followed, shallow, lower}
use Rattle.bl_parse_syntax.proofs.Right.{all_has, apart, has_append, all_among, empty_is, is_empty, chosen_among, pick_of, begins_of, empty_pick}

absent_of : (A : Part) → IsAmong [] (productions A) → absent A ≡ true
unfolding absent
absent_of A among = empty_is (productions A) among

of_absent : (A : Part) → absent A ≡ true → IsAmong [] (productions A)
unfolding absent
of_absent A may = is_empty (productions A) may

head_of : (A : Part) (next : Option TokenView) (p : List Piece) → Produces A next p → is_headed (absent A) (depth A) p ≡ true
head_of A next p made = all_among (is_headed (absent A) (depth A)) (productions A) p (headed A) made.0

headed_of : (A : Part) (next : Option TokenView) (p : List Piece) → Produces A next p → Predictive.IsHeaded Produces matches tables A next p
headed_of A next [] made = absent_of A made.0
headed_of A next (Terminal k ∷ q) made = λ v e m. begins_of A v (Terminal k) q (subst (λ n. Produces A n (Terminal k ∷ q)) e made) (or_left _ _ m)
headed_of A next (Nonterminal B ∷ q) made = (
  not-true _ (and_left _ _ (head_of A next (Nonterminal B ∷ q) made)),
  λ v e b. begins_of A v (Nonterminal B) q (subst (λ n. Produces A n (Nonterminal B ∷ q)) e made) (and_right (permits B v) _ b),
)

heads_has : (q : List Piece) (v : TokenView) → Predictive.heads Produces matches tables q v ≡ true → has (heads_of q) v.class ≡ true
heads_has [] v is = is
heads_has (Terminal k ∷ q) v is = or_left _ _ is
heads_has (Nonterminal B ∷ q) v is = has_append (starts B) (cond (absent B) (heads_of q) []) v.class
    ∙ by_start (has (starts B) v.class) (permits B v) (absent B) is (heads_has q v)
  where
    by_start : (on may gone : Bool) → (may && on) || (gone && Predictive.heads Produces matches tables q v) ≡ true →
        (Predictive.heads Produces matches tables q v ≡ true → has (heads_of q) v.class ≡ true)
        → on || has (cond gone (heads_of q) []) v.class ≡ true
    by_start true may gone is rest = refl
    by_start false true true is rest = rest is
    by_start false false true is rest = rest is
    by_start false true false is rest = absurd (not_both false is refl)
    by_start false false false is rest = absurd (not_both false is refl)

vanish_same : (q : List Piece) → Predictive.vanish Produces matches tables q ≡ may_vanish q
vanish_same [] = refl
vanish_same (Terminal k ∷ q) = refl
vanish_same (Nonterminal B ∷ q) = ap (λ b. absent B && b) (vanish_same q)

within_of : (B : Part) (outer : List Class) (q : List Piece) → not (may_vanish q) || are_within (avoided B) outer ≡ true →
    Predictive.vanish Produces matches tables q ≡ true → (v : TokenView) → has outer v.class ≡ false → has (avoided B) v.class ≡ false
within_of B outer q is vanish v none = false_from_ne_true _ (λ on. not_both _
    (all_has (has outer) (avoided B) v.class (inner (may_vanish q) (sym (vanish_same q) ∙ vanish) is) on) none)
  where
    inner : (b : Bool) → b ≡ true → not b || are_within (avoided B) outer ≡ true → are_within (avoided B) outer ≡ true
    inner true e is = is
    inner false e is = absurd (not_both false e refl)

follow_of : (A : Part) (p : List Piece) → follows (avoided A) p ≡ true → Predictive.Follow Produces matches tables A p
follow_of A [] is = tt
follow_of A (Terminal k ∷ q) is = follow_of A q is
follow_of A (Nonterminal B ∷ q) is =
    let rest = and_right (are_apart (heads_of q) (avoided B)) _ is in (
      λ v heads. apart (heads_of q) (avoided B) v.class (and_left _ _ is) (heads_has q v heads),
      within_of B (avoided A) q (and_left _ _ rest),
      follow_of A q (and_right (not (may_vanish q) || are_within (avoided B) (avoided A)) _ rest),
    )

forced_of : (A : Part) (v : TokenView) (p : List Piece) → Produces A (Some v) p → Predictive.IsForced Produces matches tables A v p
forced_of A v [] made = λ none. empty_pick A v made.1 (absent_of A made.0) none
forced_of A v (Terminal k ∷ q) made = λ m. pick_of A v (Terminal k) q made (or_left _ _ m)
forced_of A v (Nonterminal B ∷ q) made = λ b. pick_of A v (Nonterminal B) q made (and_right (permits B v) _ b)

some_or_absent : (may : Bool) (o : Option (List Piece)) (p : List Piece) → or_absent may o ≡ Some p →
    (o ≡ Some p) ⊎ ((may ≡ true) × (o ≡ None) × (p ≡ []))
some_or_absent may (Some q) p is = inl is
some_or_absent true None p is = inr (refl, refl, sym (same_some _ _ is))
some_or_absent false None p is = absurd (no_some p is)

some_cond : (b : Bool) (o : Option (List Piece)) (p : List Piece) → cond b o None ≡ Some p → (b ≡ true) × (o ≡ Some p)
some_cond true o p is = (refl, is)
some_cond false o p is = absurd (no_some p is)

picked_among : (A : Part) (v : TokenView) (p : List Piece) → pick A v ≡ Some p → IsAmong p (productions A)
unfolding pick choices
picked_among A v p is = ⊎_elim (λ h. chosen_among (productions A) v.class p (some_cond (permits A v) _ p h).1)
    (λ h. subst (λ (r : List Piece). IsAmong r (productions A)) (sym h.2) (of_absent A h.0)) (some_or_absent (absent A) _ p is)

after_return_is : (v : TokenView) → pick AfterReturn v ≡ or_absent true
    (cond (not v.fresh) (cond (begins_expression v.class) (Some (the Expr ∷ [])) None) None)
unfolding pick absent choices starts
after_return_is v = refl

-- what `may_stand` says after `return`
gives : Bool → Bool → List Piece → Bool
gives fresh begun [] = not (not fresh && begun)
gives fresh begun (x ∷ q) = not fresh && begun

after_return_gives : (fresh begun : Bool) (p : List Piece) →
    or_absent true (cond (not fresh) (cond begun (Some (the Expr ∷ [])) None) None) ≡ Some p → gives fresh begun p ≡ true
unfolding gives
after_return_gives true begun p is = subst (λ (r : List Piece). gives true begun r ≡ true) (same_some _ _ is) refl
after_return_gives false true p is = subst (λ (r : List Piece). gives false true r ≡ true) (same_some _ _ is) refl
after_return_gives false false p is = subst (λ (r : List Piece). gives false false r ≡ true) (same_some _ _ is) refl

gives_is : (v : TokenView) (p : List Piece) → gives v.fresh (begins_expression v.class) p ≡ true → may_stand AfterReturn (Some v) p ≡ true
unfolding gives
gives_is v [] is = is
gives_is v (x ∷ q) is = is

picked_stands : (A : Part) (v : TokenView) (p : List Piece) → pick A v ≡ Some p → may_stand A (Some v) p ≡ true
picked_stands AfterReturn v p is = gives_is v p (after_return_gives v.fresh (begins_expression v.class) p (sym (after_return_is v) ∙ is))
picked_stands Program v p is = refl
picked_stands _ v p is = refl

descends_of : (A : Part) (v : TokenView) (p : List Piece) → IsAmong p (productions A) → is_headed (absent A) (depth A) p ≡ true →
    Predictive.Descends Produces matches tables A p
descends_of A v [] among head = absent_of A among
descends_of A v (Terminal k ∷ q) among head = tt
descends_of A v (Nonterminal B ∷ q) among head = (
  not-true _ (and_left _ _ head),
  λ may. by_absent (absent A) (and_right (not (absent B)) _ head) may,
  λ other. by_other (absent A) (and_right (not (absent B)) _ head) other,
)
  where
    by_absent : (b : Bool) → nat_lt (depth B) (cond b 32 (depth A)) ≡ true → b ≡ true → depth B < 32
    by_absent true is may = ltb-true _ _ is
    by_absent false is may = absurd (not_both false may refl)

    by_other : (b : Bool) → nat_lt (depth B) (cond b 32 (depth A)) ≡ true → b ≡ false → depth B < depth A
    by_other true is other = absurd (not_both true refl other)
    by_other false is other = ltb-true _ _ is

at_end : (A : Part) → may_stand A None [] ≡ true
at_end AfterReturn = refl
at_end Program = refl
at_end _ = refl

lower_among : (high : ℕ) (ps : List (List Piece)) → has_lower high ps ≡ true →
    IsAmong (lower_of high ps) ps × (are_lower high (lower_of high ps) ≡ true)
lower_among high [] is = absurd (not_both false is refl)
lower_among high (p ∷ ps) is = by_here (are_lower high p) refl is (lower_among high ps)
  where
    by_here : (b : Bool) → are_lower high p ≡ b → b || has_lower high ps ≡ true →
        (has_lower high ps ≡ true → IsAmong (lower_of high ps) ps × (are_lower high (lower_of high ps) ≡ true))
        → IsAmong (cond b p (lower_of high ps)) (p ∷ ps) × (are_lower high (cond b p (lower_of high ps)) ≡ true)
    by_here true e is rest = (here, e)
    by_here false e is rest = let h = rest is in (later h.0, h.1)

lower_of_part : (high : ℕ) (p : List Piece) → are_lower high p ≡ true → Predictive.AreLower Produces matches tables high p
lower_of_part high [] is = tt
lower_of_part high (Terminal k ∷ q) is = lower_of_part high q is
lower_of_part high (Nonterminal B ∷ q) is = (ltb-true _ _ (and_left _ _ is), lower_of_part high q (and_right (nat_lt (height B) high) _ is))

easy_stands : (A : Part) (next : Option TokenView) → Predictive.IsNeutral Produces matches tables next →
    may_stand A next (lower_of (height A) (productions A)) ≡ true
unfolding height
easy_stands AfterReturn None neutral = refl
easy_stands AfterReturn (Some v) neutral = rw neutral refl
easy_stands Program next neutral = refl
easy_stands _ next neutral = refl

pub same_self : (k : Class) → same_class k k ≡ true
same_self AnyName = refl
same_self AnyNumber = refl
same_self (Keyword k) = same_word_self k
same_self (Mark k) = eq-eqb k k refl

ranked_of : (A : Part) → (0 < depth A) × (0 < 32) × (depth A ≤ 32)
ranked_of A =
    let low : 0 < depth A = ltb-true _ _ (and_left _ _ (shallow A)) in
    let high : depth A < 32 = ltb-true _ _ (and_right (nat_lt 0 (depth A)) _ (shallow A)) in
    (low, omega arith, omega (arith, high))

pub predictive : Predictive.IsPredictive Produces matches tables
predictive = record {
  headed = λ made. headed_of _ _ _ made;
  follow = λ {A} {next} {production} made. follow_of A production (all_among (follows (avoided A)) (productions A) production (followed A) made.0);
  forced = λ made. forced_of _ _ _ made;
  picked = λ A v p is. (picked_among A v p is, picked_stands A v p is);
  descends = λ A v p is. let among = picked_among A v p is in
      descends_of A v p among (all_among (is_headed (absent A) (depth A)) (productions A) p (headed A) among);
  ranked = ranked_of;
  ends = λ A may. (of_absent A may, at_end A);
  easy = λ A next neutral. ((lower_among (height A) (productions A) (lower A)).0, easy_stands A next neutral);
  lower = λ A. lower_of_part (height A) (lower_of (height A) (productions A)) (lower_among (height A) (productions A) (lower A)).1;
  samples = λ k. (same_self k, refl);
}
