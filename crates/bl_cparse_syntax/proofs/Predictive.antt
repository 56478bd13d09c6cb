-- The grammar is one that the next piece decides.
use Rattle.std.proofs.Common.{◌≡◌, ℕ, ◌<◌, ◌≤◌, Bool, true, false, not, cond, ◌&&◌, ◌||◌, List, [], ◌∷◌, map, refl, ap, sym, ◌∙◌, subst, arith}
use Rattle.std.specs.Prelude.{Option, Some, None, nat_lt, nat_le, codes}
use Rattle.std.proofs.lemmas.Bool.{ltb-true, leb-true}
use Rattle.std.proofs.lemmas.Bool.{false_from_ne_true, not-true}
use Rattle.bl_ctext.specs.Token.{Token}
use Rattle.bl_ctext.specs.Names.{is_turn_name}
use Rattle.bl_grammar.specs.declared.symbol.Symbol.TheVariants.{Terminal, Nonterminal}
use Rattle.bl_grammar.specs.Predictive
use Rattle.bl_grammar.proofs.Predictive.{or_left, and_left, and_right, not_both, same_some, no_some}
use Rattle.bl_cparse_syntax.specs.declared.grammar.Roomed.{Roomed}
use Rattle.bl_cparse_syntax.specs.Classes.{Class, matches}
use Rattle.bl_cparse_syntax.specs.Classes.Class.{exactly, one_of, a_name, number, turn}
use Rattle.bl_cparse_syntax.specs.Grammar.{Shape, Wanted, Production, productions, with_turn_name, wanted_for, IsAmong, Produces}
use Rattle.bl_cparse_syntax.specs.Grammar.IsAmong.{here, later}
use Rattle.bl_cparse_syntax.specs.Tables.{has, firsts, starts, absent, choices, decided_production, turn_name_for, wanted_of, decided, pick}
use Rattle.bl_cparse_syntax.specs.Follow.{avoided, height, depth, are_lower, is_lower, lower_of}
use Rattle.bl_cparse_syntax.specs.Stack.{tables}
use Rattle.bl_cparse_syntax.proofs.ClassLemmas.{named_of, exactly_is, turn_of_is, turn_of_turn, sampled}
use Rattle.bl_cparse_syntax.proofs.Checks.{are_apart, are_within, heads_of, may_vanish, follows, is_headed, has_lower, is_turn, has_no_turn, names_first}
use Rattle.bl_cparse_syntax.proofs.Checks.{headed, followed, shallow, lower, named_first}
use Rattle.bl_cparse_syntax.proofs.Right.{apart, within, has_append, all_among, Empty, empty_is, is_empty, chosen_among, begun_of, pick_of, empty_pick, free_of}

-- one of the part's productions in its room, where this is the name of the loop's turns
abbrev in_room : Roomed → Token → List Shape → List Wanted
in_room A name shapes = map (wanted_for A.room name) shapes

-- what a production begins with is what the tables say

module _ (A : Roomed) (p : Production) (among : IsAmong p (productions A.part)) (has_room : p.needs ≤ A.room) (name : Token)
    (is : is_turn_name name ≡ true) where
  absent_of : (shapes : List Shape) → p.shapes ≡ shapes → shapes ≡ [] → absent A.part ≡ true
  unfolding absent
  absent_of shapes e none = empty_is (productions A.part) p among (e ∙ none)

  head_of : (shapes : List Shape) → p.shapes ≡ shapes → is_headed (absent A.part) (depth A.part) shapes ≡ true
  head_of shapes e = subst (λ (ss : List Shape). is_headed (absent A.part) (depth A.part) ss ≡ true) e
      (all_among (λ q. is_headed (absent A.part) (depth A.part) q.shapes) (productions A.part) p (headed A.part) among)

  begun_at : (shapes : List Shape) → p.shapes ≡ shapes → (t : Token) → has (firsts starts shapes) t ≡ true → has (starts A.part) t ≡ true
  begun_at shapes e t on = begun_of A.part p t among (subst (λ (ss : List Shape). has (firsts starts ss) t ≡ true) (sym e) on)

  headed_at : (next : Option Token) (shapes : List Shape) → p.shapes ≡ shapes → Predictive.IsHeaded Produces matches tables A next (in_room A name shapes)
  headed_at next [] e = absent_of [] e refl
  headed_at next (Terminal k ∷ q) e = λ t n m. begun_at (Terminal k ∷ q) e t (or_left _ _ (named_of name k t is m))
  headed_at next (Nonterminal B ∷ q) e = (not-true _ (and_left _ _ (head_of (Nonterminal B ∷ q) e)), λ t n b. begun_at (Nonterminal B ∷ q) e t b)

  names_at : (shapes : List Shape) → p.shapes ≡ shapes → names_first shapes ≡ true
  names_at shapes e = subst (λ (ss : List Shape). names_first ss ≡ true) e
      (all_among (λ q. names_first q.shapes) (productions A.part) p (named_first A.part) among)

  -- where no other name is to stand, the name is any
  any_class : (k : Class) (other : Token) → is_turn k ≡ false → with_turn_name name k ≡ with_turn_name other k
  any_class (exactly w) other none = refl
  any_class (one_of g) other none = refl
  any_class a_name other none = refl
  any_class (number of) other none = refl
  any_class turn other none = absurd (not_both true refl none)

  any_name : (shapes : List Shape) (other : Token) → has_no_turn shapes ≡ true → in_room A name shapes ≡ in_room A other shapes
  any_name [] other none = refl
  any_name (Terminal k ∷ q) other none =
      let first : with_turn_name name k ≡ with_turn_name other k = any_class k other (not-true _ (and_left _ _ none)) in
      let rest : in_room A name q ≡ in_room A other q = any_name q other (and_right (not (is_turn k)) _ none) in
      rw (first, rest) refl
  any_name (Nonterminal B ∷ q) other none = ap (λ (ws : List Wanted). wanted_for A.room name (Nonterminal B) ∷ ws) (any_name q other none)

  by_first : (k : Class) (q : List Shape) (t : Token) → is_turn k || has_no_turn q ≡ true → matches (with_turn_name name k) t ≡ true →
      in_room A name (Terminal k ∷ q) ≡ in_room A (turn_name_for t) (Terminal k ∷ q)
  by_first turn q t first m =
      let same : name ≡ t = exactly_is name t m in
      let own : turn_name_for t ≡ t = turn_of_turn t (subst (λ n. is_turn_name n ≡ true) same is) in
      ap (λ n. in_room A n (Terminal turn ∷ q)) (same ∙ sym own)
  by_first (exactly w) q t first m = ap (λ (ws : List Wanted). Terminal (exactly w) ∷ ws) (any_name q (turn_name_for t) first)
  by_first (one_of g) q t first m = ap (λ (ws : List Wanted). Terminal (one_of g) ∷ ws) (any_name q (turn_name_for t) first)
  by_first a_name q t first m = ap (λ (ws : List Wanted). Terminal a_name ∷ ws) (any_name q (turn_name_for t) first)
  by_first (number of) q t first m = ap (λ (ws : List Wanted). Terminal (number of) ∷ ws) (any_name q (turn_name_for t) first)

  pick_at : (shapes : List Shape) → p.shapes ≡ shapes → (t : Token) → has (firsts starts shapes) t ≡ true →
      in_room A name shapes ≡ in_room A (turn_name_for t) shapes → pick A t ≡ Some (in_room A name shapes)
  pick_at shapes e t on same =
      pick_of A p t among has_room (subst (λ (ss : List Shape). has (firsts starts ss) t ≡ true) (sym e) on)
      ∙ ap (λ (ws : List Wanted). Some ws) (ap (in_room A (turn_name_for t)) e ∙ sym same)

  forced_at : (t : Token) (shapes : List Shape) → p.shapes ≡ shapes → Predictive.IsForced Produces matches tables A t (in_room A name shapes)
  forced_at t [] e = λ none. empty_pick A t (absent_of [] e refl) none
  forced_at t (Terminal k ∷ q) e = λ m. pick_at (Terminal k ∷ q) e t (or_left _ _ (named_of name k t is m))
      (by_first k q t (names_at (Terminal k ∷ q) e) m)
  forced_at t (Nonterminal B ∷ q) e = λ b. pick_at (Nonterminal B ∷ q) e t b
      (any_name (Nonterminal B ∷ q) (turn_name_for t) (names_at (Nonterminal B ∷ q) e))

  descends_at : (shapes : List Shape) → p.shapes ≡ shapes → Predictive.Descends Produces matches tables A (in_room A name shapes)
  descends_at [] e = absent_of [] e refl
  descends_at (Terminal k ∷ q) e = tt
  descends_at (Nonterminal B ∷ q) e = (
    not-true _ (and_left _ _ (head_of (Nonterminal B ∷ q) e)),
    λ may. by_absent (absent A.part) (and_right (not (absent B.part)) _ (head_of (Nonterminal B ∷ q) e)) may,
    λ other. by_other (absent A.part) (and_right (not (absent B.part)) _ (head_of (Nonterminal B ∷ q) e)) other,
  )
    where
      by_absent : (b : Bool) → nat_lt (depth B.part) (cond b 32 (depth A.part)) ≡ true → b ≡ true → depth B.part < 32
      by_absent true h may = ltb-true _ _ h
      by_absent false h may = absurd (not_both false may refl)

      by_other : (b : Bool) → nat_lt (depth B.part) (cond b 32 (depth A.part)) ≡ true → b ≡ false → depth B.part < depth A.part
      by_other true h other = absurd (not_both true refl other)
      by_other false h other = ltb-true _ _ h

-- what follows

heads_has : (room : ℕ) (name : Token) → is_turn_name name ≡ true → (q : List Shape) (t : Token) →
    Predictive.heads Produces matches tables (map (wanted_for room name) q) t ≡ true → has (heads_of q) t ≡ true
heads_has room name is [] t h = h
heads_has room name is (Terminal k ∷ q) t h = or_left _ _ (named_of name k t is h)
heads_has room name is (Nonterminal B ∷ q) t h =
    has_append (starts B.part) (cond (absent B.part) (heads_of q) []) t ∙ by_start (has (starts B.part) t) (absent B.part) h (heads_has room name is q t)
  where
    by_start : (on gone : Bool) → on || (gone && Predictive.heads Produces matches tables (map (wanted_for room name) q) t) ≡ true
        → (Predictive.heads Produces matches tables (map (wanted_for room name) q) t ≡ true → has (heads_of q) t ≡ true) →
        on || has (cond gone (heads_of q) []) t ≡ true
    by_start true gone h rest = refl
    by_start false true h rest = rest h
    by_start false false h rest = absurd (not_both false h refl)

vanish_same : (room : ℕ) (name : Token) (q : List Shape) → Predictive.vanish Produces matches tables (map (wanted_for room name) q) ≡ may_vanish q
vanish_same room name [] = refl
vanish_same room name (Terminal k ∷ q) = refl
vanish_same room name (Nonterminal B ∷ q) = ap (λ b. absent B.part && b) (vanish_same room name q)

none_within : (xs ys : List Class) (may vanishes : Bool) (t : Token) → not may || are_within xs ys ≡ true → vanishes ≡ may →
    vanishes ≡ true → has ys t ≡ false → has xs t ≡ false
none_within xs ys true vanishes t h e v none = false_from_ne_true _ (λ on. not_both _ (within xs ys t h on) none)
none_within xs ys false vanishes t h e v none = absurd (not_both _ v e)

follow_at : (A : Roomed) (room : ℕ) (name : Token) → is_turn_name name ≡ true → (q : List Shape) →
    follows (avoided A.part) q ≡ true → Predictive.Follow Produces matches tables A (map (wanted_for room name) q)
follow_at A room name is [] h = tt
follow_at A room name is (Terminal k ∷ q) h = follow_at A room name is q h
follow_at A room name is (Nonterminal B ∷ q) h =
    let rest = and_right (are_apart (heads_of q) (avoided B.part)) _ h in (
      λ t heads. apart (heads_of q) (avoided B.part) t (and_left _ _ h) (heads_has room name is q t heads),
      λ v t none. none_within (avoided B.part) (avoided A.part) (may_vanish q) _ t (and_left _ _ rest) (vanish_same room name q) v none,
      follow_at A room name is q (and_right (not (may_vanish q) || are_within (avoided B.part) (avoided A.part)) _ rest),
    )

-- what is picked

module _ (A : Roomed) (t : Token) (wanted : List Wanted) where
  none_made : (may : Bool) → may ≡ absent A.part → decided A.room t may None ≡ Some wanted → Produces A (Some t) wanted
  unfolding absent
  none_made true e is =
      let h : Empty (productions A.part) = is_empty (productions A.part) (sym e) in record {
        production = h.production;
        is_one = h.among;
        has_room = omega (arith, free_of A.part h.production h.among h.none);
        name = turn_name_for t;
        is_turn = turn_of_is t;
        made = sym (same_some _ _ is) ∙ sym (ap (map (wanted_for A.room (turn_name_for t))) h.none);
      }
  none_made false e is = absurd (no_some wanted is)

  one_made : (p : Production) → IsAmong p (productions A.part) → (b : Bool) → nat_le p.needs A.room ≡ b →
      cond b (Some (wanted_of A.room t p)) None ≡ Some wanted → Produces A (Some t) wanted
  one_made p among true room is = record {
    production = p;
    is_one = among;
    has_room = leb-true _ _ room;
    name = turn_name_for t;
    is_turn =
        turn_of_is t;
    made = sym (same_some _ _ is);
  }
  one_made p among false room is = absurd (no_some wanted is)

  picked_by : (found : Option Production) → decided_production (choices A.part) t ≡ found →
      decided A.room t (absent A.part) found ≡ Some wanted → Produces A (Some t) wanted
  unfolding choices
  picked_by (Some p) e is = one_made p (chosen_among (productions A.part) t p e) (nat_le p.needs A.room) refl is
  picked_by None e is = none_made (absent A.part) refl is

  picked_made : pick A t ≡ Some wanted → Produces A (Some t) wanted
  unfolding pick
  picked_made is = picked_by (decided_production (choices A.part) t) refl is

-- ends

at_end : (A : Roomed) → absent A.part ≡ true → Produces A None []
unfolding absent
at_end A may =
    let h : Empty (productions A.part) = is_empty (productions A.part) may in record {
      production = h.production;
      is_one = h.among;
      has_room = omega (arith, free_of A.part h.production h.among h.none);
      name = turn_name_for (codes "t0");
      is_turn = turn_of_is (codes "t0");
      made = sym (ap (map (wanted_for A.room (turn_name_for (codes "t0")))) h.none);
    }

lower_among : (high : ℕ) (ps : List Production) → has_lower high ps ≡ true →
    IsAmong (lower_of high ps) ps × (is_lower high (lower_of high ps) ≡ true)
lower_among high [] is = absurd (not_both false is refl)
lower_among high (p ∷ ps) is = by_here (is_lower high p) refl is (lower_among high ps)
  where
    by_here : (b : Bool) → is_lower high p ≡ b → b || has_lower high ps ≡ true →
        (has_lower high ps ≡ true → IsAmong (lower_of high ps) ps × (is_lower high (lower_of high ps) ≡ true))
        → IsAmong (cond b p (lower_of high ps)) (p ∷ ps) × (is_lower high (cond b p (lower_of high ps)) ≡ true)
    by_here true e is rest = (here, e)
    by_here false e is rest = let h = rest is in (later h.0, h.1)

lower_shapes : (high room : ℕ) (name : Token) (q : List Shape) → are_lower high q ≡ true →
    Predictive.AreLower Produces matches tables high (map (wanted_for room name) q)
lower_shapes high room name [] is = tt
lower_shapes high room name (Terminal k ∷ q) is = lower_shapes high room name q is
lower_shapes high room name (Nonterminal B ∷ q) is =
    (ltb-true _ _ (and_left _ _ is), lower_shapes high room name q (and_right (nat_lt (height B.part) high) _ is))

module _ (A : Roomed) where
  abbrev easiest : Production
  easiest = lower_of (height A.part) (productions A.part)

  easy_is : IsAmong easiest (productions A.part) × (is_lower (height A.part) easiest ≡ true)
  easy_is = lower_among (height A.part) (productions A.part) (lower A.part)

  easy_made : (next : Option Token) → Produces A next (wanted_of A.room (codes "t0") easiest)
  easy_made next =
      let few : easiest.needs ≤ 0 = leb-true _ _ (and_left _ _ easy_is.1) in
      record {
        production = easiest;
        is_one = easy_is.0;
        has_room = omega (arith, few);
        name = turn_name_for (codes "t0");
        is_turn =
            turn_of_is (codes "t0");
        made = refl;
      }

  easy_lower : Predictive.AreLower Produces matches tables (height A.part) (wanted_of A.room (codes "t0") easiest)
  easy_lower = lower_shapes (height A.part) A.room (turn_name_for (codes "t0")) easiest.shapes (and_right (nat_le easiest.needs 0) _ easy_is.1)

  ranked_of : (0 < depth A.part) × (0 < 32) × (depth A.part ≤ 32)
  ranked_of =
      let low : 0 < depth A.part = ltb-true _ _ (and_left _ _ (shallow A.part)) in
      let high : depth A.part < 32 = ltb-true _ _ (and_right (nat_lt 0 (depth A.part)) _ (shallow A.part)) in
      (low, omega arith, omega (arith, high))

headed_of : (A : Roomed) (next : Option Token) (wanted : List Wanted) → Produces A next wanted → Predictive.IsHeaded Produces matches tables A next wanted
headed_of A next wanted m = subst (λ (ws : List Wanted). Predictive.IsHeaded Produces matches tables A next ws) (sym m.made)
    (headed_at A m.production m.is_one m.has_room m.name m.is_turn next m.production.shapes refl)

follow_of : (A : Roomed) (next : Option Token) (wanted : List Wanted) → Produces A next wanted → Predictive.Follow Produces matches tables A wanted
follow_of A next wanted m = subst (λ (ws : List Wanted). Predictive.Follow Produces matches tables A ws) (sym m.made)
    (follow_at A A.room m.name m.is_turn m.production.shapes
    (all_among (λ p. follows (avoided A.part) p.shapes) (productions A.part) m.production (followed A.part) m.is_one))

forced_of : (A : Roomed) (t : Token) (wanted : List Wanted) → Produces A (Some t) wanted → Predictive.IsForced Produces matches tables A t wanted
forced_of A t wanted m = subst (λ (ws : List Wanted). Predictive.IsForced Produces matches tables A t ws) (sym m.made)
    (forced_at A m.production m.is_one m.has_room m.name m.is_turn t m.production.shapes refl)

descends_of : (A : Roomed) (next : Option Token) (wanted : List Wanted) → Produces A next wanted → Predictive.Descends Produces matches tables A wanted
descends_of A next wanted m = subst (λ (ws : List Wanted). Predictive.Descends Produces matches tables A ws) (sym m.made)
    (descends_at A m.production m.is_one m.has_room m.name m.is_turn m.production.shapes refl)

pub predictive : Predictive.IsPredictive Produces matches tables
predictive = record {
  headed = λ made. headed_of _ _ _ made;
  follow = λ made. follow_of _ _ _ made;
  forced = λ made. forced_of _ _ _ made;
  picked = λ A t wanted is. picked_made A t wanted is;
  descends = λ A t wanted is. descends_of A (Some t) wanted (picked_made A t wanted is);
  ranked = λ A. ranked_of A;
  ends = λ A may. at_end A may;
  easy = λ A next neutral. easy_made A next;
  lower = λ A. easy_lower A;
  samples = λ k. (sampled k, refl);
}
