-- The tables are right, and one piece decides.
use Rattle.std.proofs.Common.{◌≡◌, ◌≤◌, Bool, true, false, not, cond, ◌||◌, ◌⊎◌, ⊎_elim, inl, inr, List, [], ◌∷◌, ◌++◌, refl, ap, sym, ◌∙◌, subst}
use Rattle.std.specs.Prelude.{Some, None, nat_le}
use Rattle.std.proofs.lemmas.Bool.{leb-true, le-leb}
use Rattle.std.specs.List.{list_all, list_any}
use Rattle.std.proofs.lemmas.Bool.{false_from_ne_true}
use Rattle.bl_ctext.specs.Token.{Token}
use Rattle.bl_grammar.proofs.Predictive.{or_left, or_right, and_left, and_right, not_both, same_some, no_some}
use Rattle.bl_cparse_syntax.specs.declared.grammar.Part.{Part}
use Rattle.bl_cparse_syntax.specs.declared.grammar.Roomed.{Roomed}
use Rattle.bl_cparse_syntax.specs.Classes.{Class, matches}
use Rattle.bl_cparse_syntax.specs.Grammar.{Shape, Production, productions, IsAmong}
use Rattle.bl_cparse_syntax.specs.Grammar.IsAmong.{here, later}
use Rattle.bl_cparse_syntax.specs.Tables.{has, firsts, starts, absent, is_none, has_empty, Choice, choice_before, choices_of, choices, decided_production}
use Rattle.bl_cparse_syntax.specs.Tables.{wanted_of, pick}
use Rattle.bl_cparse_syntax.specs.Follow.{avoided}
use Rattle.bl_cparse_syntax.proofs.ClassLemmas.{class_apart, apart_of, same_class, same_is}
use Rattle.bl_cparse_syntax.proofs.Checks.{are_apart, are_within, all_on, are_separate, is_free, starts_are, separate, own_avoided, free}

-- classes

-- one of the classes that all pass a test has the piece
all_of_them : (P : Type 0) (test : Class → Bool) (xs : List Class) (t : Token) → list_all test xs ≡ true → has xs t ≡ true →
    ((k : Class) → test k ≡ true → matches k t ≡ true → P) → P
all_of_them P test [] t all is give = absurd (not_both false is refl)
all_of_them P test (x ∷ xs) t all is give = by_first (matches x t) refl is (λ h. all_of_them P test xs t (and_right (test x) _ all) h give)
  where
    by_first : (b : Bool) → matches x t ≡ b → b || has xs t ≡ true → (has xs t ≡ true → P) → P
    by_first true e is rest = give x (and_left _ _ all) e
    by_first false e is rest = rest is

apart_one : (k : Class) (ys : List Class) (t : Token) → list_all (class_apart k) ys ≡ true → matches k t ≡ true → has ys t ≡ false
apart_one k [] t all is = refl
apart_one k (y ∷ ys) t all is = rw (apart_of k y t (and_left _ _ all) is) (apart_one k ys t (and_right (class_apart k y) _ all) is)

pub apart : (xs ys : List Class) (t : Token) → are_apart xs ys ≡ true → has xs t ≡ true → has ys t ≡ false
apart xs ys t all is = all_of_them (has ys t ≡ false) (λ k. list_all (class_apart k) ys) xs t all is (λ k none m. apart_one k ys t none m)

within_one : (k : Class) (ys : List Class) (t : Token) → list_any (same_class k) ys ≡ true → matches k t ≡ true → has ys t ≡ true
within_one k [] t any is = absurd (not_both false any refl)
within_one k (y ∷ ys) t any is = by_same (same_class k y) refl any (λ h. within_one k ys t h is)
  where
    by_same : (b : Bool) → same_class k y ≡ b → b || list_any (same_class k) ys ≡ true →
        (list_any (same_class k) ys ≡ true → has ys t ≡ true) → matches y t || has ys t ≡ true
    by_same true e any rest = or_left _ _ (subst (λ (c : Class). matches c t ≡ true) (same_is k y e) is)
    by_same false e any rest = or_right (matches y t) _ (rest any)

pub within : (xs ys : List Class) (t : Token) → are_within xs ys ≡ true → has xs t ≡ true → has ys t ≡ true
within xs ys t all is = all_of_them (has ys t ≡ true) (λ k. list_any (same_class k) ys) xs t all is (λ k any m. within_one k ys t any m)

pub has_append : (xs ys : List Class) (t : Token) → has (xs ++ ys) t ≡ has xs t || has ys t
has_append [] ys t = refl
has_append (x ∷ xs) ys t = ap (λ b. matches x t || b) (has_append xs ys t) ∙ or_assoc (matches x t) _ _
  where
    or_assoc : (a b c : Bool) → a || (b || c) ≡ (a || b) || c
    or_assoc true b c = refl
    or_assoc false b c = refl

-- of a test that all productions pass, one of them passes it
pub all_among : (test : Production → Bool) (ps : List Production) (p : Production) → list_all test ps ≡ true → IsAmong p ps → test p ≡ true
all_among test [] p all among = elim among [ ]
all_among test (q ∷ ps) p all here = and_left _ _ all
all_among test (q ∷ ps) p all (later is) = all_among test ps p (and_right (test q) _ all) is

-- the empty production

pub empty_is : (ps : List Production) (p : Production) → IsAmong p ps → p.shapes ≡ [] → has_empty ps ≡ true
empty_is [] p among e = elim among [ ]
empty_is (q ∷ ps) p here e = rw e refl
empty_is (q ∷ ps) p (later is) e = either (is_none q.shapes) (empty_is ps p is e)
  where
    either : (b : Bool) → has_empty ps ≡ true → cond b true (has_empty ps) ≡ true
    either true h = refl
    either false h = h

-- one that is among the productions and stands for nothing
pub record Empty (ps : List Production) : Type 0 where
  pub production : Production
  pub among : IsAmong production ps
  pub none : production.shapes ≡ []

none_is : (shapes : List Shape) → is_none shapes ≡ true → shapes ≡ []
none_is [] e = refl
none_is (x ∷ q) e = absurd (not_both false e refl)

pub is_empty : (ps : List Production) → has_empty ps ≡ true → Empty ps
is_empty [] e = absurd (not_both false e refl)
is_empty (q ∷ ps) e = by_first (is_none q.shapes) refl e (is_empty ps)
  where
    by_first : (b : Bool) → is_none q.shapes ≡ b → cond b true (has_empty ps) ≡ true → (has_empty ps ≡ true → Empty ps) → Empty (q ∷ ps)
    by_first true n e rest = record { production = q; among = here; none = none_is q.shapes n }
    by_first false n e rest = let h = rest e in record { production = h.production; among = later h.among; none = h.none }

-- choices

before_on : (p : Production) (ss : List Shape) (cs : List Choice) (t : Token) → has (firsts starts ss) t ≡ true →
    has (all_on (choice_before p ss cs)) t ≡ true
before_on p [] cs t is = absurd (not_both false is refl)
before_on p (x ∷ q) cs t is = has_append (firsts starts (x ∷ q)) (all_on cs) t ∙ or_left _ _ is

later_on : (p : Production) (ss : List Shape) (cs : List Choice) (t : Token) → has (all_on cs) t ≡ true → has (all_on (choice_before p ss cs)) t ≡ true
later_on p [] cs t is = is
later_on p (x ∷ q) cs t is = has_append (firsts starts (x ∷ q)) (all_on cs) t ∙ or_right (has (firsts starts (x ∷ q)) t) _ is

pub on_choice : (ps : List Production) (p : Production) (t : Token) → IsAmong p ps → has (firsts starts p.shapes) t ≡ true →
    has (all_on (choices_of ps)) t ≡ true
on_choice [] p t among is = elim among [ ]
on_choice (r ∷ ps) p t here is = before_on p p.shapes (choices_of ps) t is
on_choice (r ∷ ps) p t (later among) is = later_on r r.shapes (choices_of ps) t (on_choice ps p t among is)

chosen_here : (p : Production) (ss : List Shape) (cs : List Choice) (t : Token) → has (firsts starts ss) t ≡ true →
    decided_production (choice_before p ss cs) t ≡ Some p
chosen_here p [] cs t is = absurd (not_both false is refl)
chosen_here p (x ∷ q) cs t is = rw is refl

separate_later : (p : Production) (ss : List Shape) (cs : List Choice) → are_separate (choice_before p ss cs) ≡ true → are_separate cs ≡ true
separate_later p [] cs e = e
separate_later p (x ∷ q) cs e = and_right (are_apart (firsts starts (x ∷ q)) (all_on cs)) _ e

chosen_later : (p : Production) (ss : List Shape) (cs : List Choice) (t : Token) → are_separate (choice_before p ss cs) ≡ true →
    has (all_on cs) t ≡ true → decided_production (choice_before p ss cs) t ≡ decided_production cs t
chosen_later p [] cs t e is = refl
chosen_later p (x ∷ q) cs t e is =
    let other : has (firsts starts (x ∷ q)) t ≡ false =
    false_from_ne_true _ (λ on. not_both _ is (apart (firsts starts (x ∷ q)) (all_on cs) t (and_left _ _ e) on)) in
    rw other refl

pub chosen_choice : (ps : List Production) (p : Production) (t : Token) → are_separate (choices_of ps) ≡ true → IsAmong p ps →
    has (firsts starts p.shapes) t ≡ true → decided_production (choices_of ps) t ≡ Some p
chosen_choice [] p t e among is = elim among [ ]
chosen_choice (r ∷ ps) p t e here is = chosen_here p p.shapes (choices_of ps) t is
chosen_choice (r ∷ ps) p t e (later among) is =
    chosen_later r r.shapes (choices_of ps) t e (on_choice ps p t among is)
    ∙ chosen_choice ps p t (separate_later r r.shapes (choices_of ps) e) among is

pub chosen_none : (cs : List Choice) (t : Token) → has (all_on cs) t ≡ false → decided_production cs t ≡ None
chosen_none [] t none = refl
chosen_none (x ∷ cs) t none = by_here (has x.on t) (has (all_on cs) t) refl (sym (has_append x.on (all_on cs) t) ∙ none) (chosen_none cs t)
  where
    by_here : (a b : Bool) → has (all_on cs) t ≡ b → a || b ≡ false → (has (all_on cs) t ≡ false → decided_production cs t ≡ None) →
        cond a (Some x.production) (decided_production cs t) ≡ None
    by_here true b eb none rest = absurd (not_both true refl none)
    by_here false b eb none rest = rest (eb ∙ none)

chosen_first : (r : Production) (ss : List Shape) (cs : List Choice) (t : Token) (p : Production) →
    decided_production (choice_before r ss cs) t ≡ Some p → (r ≡ p) ⊎ (decided_production cs t ≡ Some p)
chosen_first r [] cs t p is = inr is
chosen_first r (x ∷ q) cs t p is = by_here (has (firsts starts (x ∷ q)) t) is
  where
    by_here : (b : Bool) → cond b (Some r) (decided_production cs t) ≡ Some p → (r ≡ p) ⊎ (decided_production cs t ≡ Some p)
    by_here true is = inl (same_some _ _ is)
    by_here false is = inr is

pub chosen_among : (ps : List Production) (t : Token) (p : Production) → decided_production (choices_of ps) t ≡ Some p → IsAmong p ps
chosen_among [] t p is = absurd (no_some p is)
chosen_among (r ∷ ps) t p is =
    ⊎_elim (λ e. subst (λ (q : Production). IsAmong q (r ∷ ps)) e here) (λ e. later (chosen_among ps t p e))
    (chosen_first r r.shapes (choices_of ps) t p is)

-- the parts of the grammar

pub chosen_of : (A : Part) (p : Production) (t : Token) → IsAmong p (productions A) → has (firsts starts p.shapes) t ≡ true →
    decided_production (choices A) t ≡ Some p
unfolding choices
chosen_of A p t among is = chosen_choice (productions A) p t (separate A) among is

pub begun_of : (A : Part) (p : Production) (t : Token) → IsAmong p (productions A) → has (firsts starts p.shapes) t ≡ true → has (starts A) t ≡ true
unfolding choices
begun_of A p t among is = subst (λ (cs : List Class). has cs t ≡ true) (starts_are A) (on_choice (productions A) p t among is)

pub pick_of : (A : Roomed) (p : Production) (t : Token) → IsAmong p (productions A.part) → p.needs ≤ A.room →
    has (firsts starts p.shapes) t ≡ true → pick A t ≡ Some (wanted_of A.room t p)
unfolding pick
pick_of A p t among room is = rw (chosen_of A.part p t among is, le-leb p.needs A.room room) refl

-- a piece that begins nothing of the part decides on none of its productions
pub unpicked : (A : Roomed) (t : Token) → absent A.part ≡ true → has (starts A.part) t ≡ false → pick A t ≡ Some []
unfolding pick
unpicked A t may none = rw (chosen_none (choices A.part) t (subst (λ (cs : List Class). has cs t ≡ false) (sym (starts_are A.part)) none), may) refl

pub empty_pick : (A : Roomed) (t : Token) → absent A.part ≡ true → has (avoided A.part) t ≡ false → pick A t ≡ Some []
empty_pick A t may none = unpicked A t may (false_from_ne_true _
    (λ on. not_both _ (within (starts A.part) (avoided A.part) t (own (absent A.part) may (own_avoided A.part)) on) none))
  where
    own : (b : Bool) → b ≡ true → not b || are_within (starts A.part) (avoided A.part) ≡ true → are_within (starts A.part) (avoided A.part) ≡ true
    own true e h = h
    own false e h = absurd (not_both false e refl)

-- an empty production needs no room
pub free_of : (A : Part) (p : Production) → IsAmong p (productions A) → p.shapes ≡ [] → p.needs ≤ 0
free_of A p among none = leb-true _ _ (by_none (is_none p.shapes) (ap is_none none) (all_among is_free (productions A) p (free A) among))
  where
    by_none : (b : Bool) → b ≡ true → not b || nat_le p.needs 0 ≡ true → nat_le p.needs 0 ≡ true
    by_none true e h = h
    by_none false e h = absurd (not_both false e refl)
