-- Where what two bodies touch may have something in common: at homes of paths that overlap, and nowhere inside their calls.
use Rattle.std.proofs.Common.{◌≡◌, ℕ, Bool, true, ◌&&◌, ◌||◌, List, [], ◌∷◌, ◌++◌, get_or, Option, Some, None, refl, sym, ap, ◌∙◌, subst, arith, eqb-true}
use Rattle.std.proofs.Common.{eq-eqb}
use Rattle.std.specs.Prelude.{nat_eq}
use Rattle.std.proofs.lemmas.List.Quantifiers.{position-Some}
use Rattle.std.proofs.lemmas.Bool.{and_from, or_left, or_right}
use Rattle.bl_tree.proofs.Basics.{and_first, and_second, not_both}
use Rattle.bl_tree.specs.declared.place.Place.{Place}
use Rattle.bl_tree.specs.declared.static_path.Static.{Static}
use Rattle.bl_tree.specs.declared.tree.StructDef.{StructDef}
use Rattle.bl_tree.specs.declared.tree.Unit.{Unit as UnitDef}
use Rattle.bl_tree.specs.Rules.{same_place}
use Rattle.bl_tree.specs.Static.{is_front, overlaps, whole}
use Rattle.bl_effects.proofs.SetLemmas.{overlaps_symm}
use Rattle.bl_graph_nodes.specs.Plain.{Block}
use Rattle.bl_ctree.specs.declared.instance.Instance.{Instance}
use Rattle.bl_ctree.specs.declared.instance.Origin.{Origin}
use Rattle.bl_ctree.specs.Instances.{Setting, begins_at, callee_of, setting_of}
use Rattle.bl_ctree.specs.Store.{Location, home, led, overlap, whole_of}
use Rattle.bl_ctree_laws.proofs.Tests.{or_le, or_of}
use Rattle.bl_ctree_laws_confluence.specs.Deeds.Homes.{OutputsAreApart}
use Rattle.bl_ctree_laws_confluence.proofs.OnDeeds.Homes.{homes_are_apart_so, overlap_cut}
use Rattle.bl_ctree_laws_confluence.proofs.OnDeeds.Nesting.{programs_nest}
use Rattle.bl_ctree_laws_confluence.proofs.OnDeeds.Origins.{homes_lead_out}
use Rattle.bl_ctree_laws_confluence.specs.Apart.Owned.{IsInsideCall, RunsAt, SomeIn}
use Rattle.bl_ctree_laws_confluence.specs.Apart.Seen.{InCall}
use Rattle.bl_ctree_laws_confluence.proofs.OnApart.Seen.{longer}
use Rattle.bl_tree.proofs.FirstLemmas.{same_true}

-- ---- paths that lead on

fronts : (xs ys f g : List ℕ) → (is_front (xs ++ f) (ys ++ g) || is_front (ys ++ g) (xs ++ f)) ≡ true → (is_front xs ys || is_front ys xs) ≡ true
fronts [] ys f g e = refl
fronts (x ∷ xs) [] f g e = refl
fronts (x ∷ xs) (y ∷ ys) f g e =
    or_of (nat_eq x y && One) (nat_eq y x && Other) Goal
    (λ one. both (and_first (nat_eq x y) One one) (eq-eqb y x (sym (eqb-true x y (and_first (nat_eq x y) One one))))
    (fronts xs ys f g (or_left One Other (and_second (nat_eq x y) One one))))
    (λ other. both (eq-eqb x y (sym (eqb-true y x (and_first (nat_eq y x) Other other)))) (and_first (nat_eq y x) Other other)
    (fronts xs ys f g (or_right One Other (and_second (nat_eq y x) Other other)))) e
  where
    One : Bool
    One = is_front (xs ++ f) (ys ++ g)

    Other : Bool
    Other = is_front (ys ++ g) (xs ++ f)

    Goal : Bool
    Goal = (nat_eq x y && is_front xs ys) || (nat_eq y x && is_front ys xs)

    both : nat_eq x y ≡ true → nat_eq y x ≡ true → (is_front xs ys || is_front ys xs) ≡ true → Goal ≡ true
    both same back some = or_le (is_front xs ys) (is_front ys xs) (nat_eq x y && is_front xs ys) (nat_eq y x && is_front ys xs)
        (λ one. and_from (nat_eq x y) (is_front xs ys) same one) (λ other. and_from (nat_eq y x) (is_front ys xs) back other) some

pub overlap_swapped : (a b : Location) → overlap a b ≡ true → overlap b a ≡ true
overlap_swapped a b e =
    and_from (nat_eq b.instance a.instance) (overlaps b.path a.path)
    (eq-eqb b.instance a.instance (sym (eqb-true a.instance b.instance (and_first (nat_eq a.instance b.instance) (overlaps a.path b.path) e))))
    (overlaps_symm b.path a.path ∙ and_second (nat_eq a.instance b.instance) (overlaps a.path b.path) e)

same_instance : (a b : Location) → overlap a b ≡ true → a.instance ≡ b.instance
same_instance a b e = eqb-true a.instance b.instance (and_first (nat_eq a.instance b.instance) (overlaps a.path b.path) e)

overlapping : (a b : Location) → overlap a b ≡ true → overlaps a.path b.path ≡ true
overlapping a b e = and_second (nat_eq a.instance b.instance) (overlaps a.path b.path) e

-- two paths of which this holds, and which overlap
pub record Met (P Q : Static → Type 0) : Type 0 where
  pub one : Static
  pub other : Static
  pub holds : P one
  pub other_holds : Q other
  pub over : overlaps one other ≡ true

module _ (structs : List StructDef) (units : List UnitDef) (entry : ℕ) where
  abbrev W : Setting
  W = setting_of structs units entry

  -- a home in the instance itself is the path's own
  home_stays : (at : Location) → (home W at).instance ≡ at.instance → home W at ≡ at
  home_stays at same = by_led (led W at) refl
    where
      by_led : (next : Option Location) → led W at ≡ next → home W at ≡ at
      by_led None e = homes_lead_out.own W at e
      by_led (Some next) e =
          let less = homes_lead_out.earlier structs units entry at next e in
          let before = homes_lead_out.no_later structs units entry next in
          let is = ap (λ at. at.instance) (homes_lead_out.out structs units entry at next e) in
          absurd (omega arith)

  -- one place alone begins an instance
  one_place : (i callee : ℕ) (place other : Place) → callee_of W i place ≡ Some callee → callee_of W i other ≡ Some callee → place ≡ other
  one_place i callee place other one two =
      let d : Instance = record { unit = 0; depth = 0; origin = None } in
      by_origin (get_or W.instances callee d).origin ((position-Some (λ instance. begins_at i place instance.origin) W.instances callee d one).1)
      ((position-Some (λ instance. begins_at i other instance.origin) W.instances callee d two).1)
    where
      by_origin : (o : Option Origin) → begins_at i place o ≡ true → begins_at i other o ≡ true → place ≡ other
      by_origin None e f = absurd cc
      by_origin (Some origin) e f =
          sym (same_true origin.place place (and_second (nat_eq origin.caller i) (same_place origin.place place) e))
          ∙ same_true origin.place other (and_second (nat_eq origin.caller i) (same_place origin.place other) f)

  not_own : {A : Type 0} {i : ℕ} {body : Block} → IsInsideCall W i body i → A
  not_own {i = i} one =
      let less = (programs_nest structs units entry).later i one.callee one.place one.begins in
      let after = (programs_nest structs units entry).inside one.callee i one.inside in
      absurd (omega arith)

  -- no home of the instance is inside a call
  not_home : {A : Type 0} {i k : ℕ} {body : Block} (path : Static) → IsInsideCall W i body k →
      k ≡ (home W (record { instance = i; path = path })).instance → A
  not_home {i = i} {k = k} path one same =
      not_both (nat_eq k (home W (record { instance = i; path = path })).instance)
      ((programs_nest structs units entry).hidden i one.callee k one.place path one.begins one.inside)
      (eq-eqb k (home W (record { instance = i; path = path })).instance same)

  -- where what a body touches may be: inside a call of it, at the home of a path of the instance or further on, or at a variable that it declares
  pub data At (i : ℕ) (body : Block) (P : Static → Type 0) (at : Location) : Type 0 where
    inner : IsInsideCall W i body at.instance → At i body P at
    outer : (path : Static) (fields : List ℕ) → at ≡ home W (record { instance = i; path = longer path fields }) → P path → At i body P at
    kept : (k : ℕ) → at ≡ whole_of i k → P (whole k) → At i body P at

  pub at_more : {i : ℕ} {body : Block} {P Q : Static → Type 0} {at : Location} → ((path : Static) → P path → Q path) →
      At i body P at → At i body Q at
  at_more so (inner one) = inner one
  at_more so (outer path fields is holds) = outer path fields is (so path holds)
  at_more so (kept k is holds) = kept k is (so (whole k) holds)

  -- what is inside a call of the instance is at no home of it
  pub not_in_call : {i : ℕ} {body : Block} {P Q : Static → Type 0} {at : Location} → InCall W i at.instance → At i body P at → At i body Q at
  not_in_call called (inner one) = inner one
  not_in_call {i = i} {at = at} called (outer path fields is holds) =
      not_both (nat_eq at.instance (home W (record { instance = i; path = longer path fields })).instance)
      ((programs_nest structs units entry).hidden i called.callee at.instance called.place (longer path fields) called.runs called.inside)
      (eq-eqb at.instance (home W (record { instance = i; path = longer path fields })).instance (ap (λ at. at.instance) is))
  not_in_call {i = i} {at = at} called (kept k is holds) =
      let less = (programs_nest structs units entry).later i called.callee called.place called.runs in
      let after = (programs_nest structs units entry).inside called.callee at.instance called.inside in
      let same = ap (λ at. at.instance) is in
      absurd (omega arith)

  module _ (apart : OutputsAreApart W) (i : ℕ) (one other : Block)
      (runs : (place : Place) → SomeIn (RunsAt place) one → SomeIn (RunsAt place) other → ⊥) where
    pub called_apart : {A : Type 0} (k : ℕ) → IsInsideCall W i one k → IsInsideCall W i other k → A
    called_apart k a b =
        let same : a.callee ≡ b.callee =
        (programs_nest structs units entry).apart i a.callee b.callee k a.place b.place a.begins b.begins a.inside b.inside in
        let place : a.place ≡ b.place =
        one_place i b.callee a.place b.place (subst (λ callee. callee_of W i a.place ≡ Some callee) same a.begins) b.begins in
        absurd (runs b.place (subst (λ place. SomeIn (RunsAt place) one) place a.stands) b.stands)

    -- what is inside a call of the one is nothing that the other touches
    pub called_clash : {A : Type 0} {Q : Static → Type 0} (k : ℕ) (over : Location) → IsInsideCall W i one k → At i other Q over → k ≡ over.instance → A
    called_clash k over a (inner b) same = called_apart k a (subst (IsInsideCall W i other) (sym same) b)
    called_clash k over a (outer path fields is holds) same = not_home (longer path fields) a (same ∙ ap (λ at. at.instance) is)
    called_clash k over a (kept n is holds) same = not_own (subst (IsInsideCall W i one) (same ∙ ap (λ at. at.instance) is) a)

    -- the home of a path and a declared variable
    home_and_kept : (path : Static) (fields : List ℕ) (k : ℕ) →
        overlap (home W (record { instance = i; path = longer path fields })) (whole_of i k) ≡ true →
        overlaps path (whole k) ≡ true
    home_and_kept path fields k over =
        let here : Location = record { instance = i; path = longer path fields } in
        let stays : home W here ≡ here = home_stays here (same_instance (home W here) (whole_of i k) over) in
        overlap_cut path (whole k) fields []
        (overlapping here (whole_of i k) (subst (λ at. overlap at (whole_of i k) ≡ true) stays over))

    -- so where they overlap both are of the instance, and of paths that overlap
    pub meet : {P Q : Static → Type 0} (at over : Location) → At i one P at → At i other Q over → overlap at over ≡ true → Met P Q
    meet at over (inner a) b e = called_clash at.instance over a b (same_instance at over e)
    meet at over (outer path fields is holds) (inner b) e =
        not_home (longer path fields) b (same_instance over at (overlap_swapped at over e) ∙ ap (λ at. at.instance) is)
    meet at over (outer path fields is holds) (outer path' fields' is' holds') e = record {
      one = path;
      other = path';
      holds = holds;
      other_holds = holds';
      over = overlap_cut path path' fields fields'
          (homes_are_apart_so structs units entry i (longer path fields) (longer path' fields') apart (sym (λ j. overlap (is j) (is' j)) ∙ e));
    }
    meet at over (outer path fields is holds) (kept k is' holds') e = record {
      one = path;
      other = whole k;
      holds = holds;
      other_holds = holds';
      over = home_and_kept path fields k (sym (λ j. overlap (is j) (is' j)) ∙ e);
    }
    meet at over (kept k is holds) (inner b) e =
        not_own (subst (IsInsideCall W i other) (same_instance over at (overlap_swapped at over e) ∙ ap (λ at. at.instance) is) b)
    meet at over (kept k is holds) (outer path fields is' holds') e = record {
      one = whole k;
      other = path;
      holds = holds;
      other_holds = holds';
      over = overlaps_symm (whole k) path ∙ home_and_kept path fields k
          (overlap_swapped (whole_of i k) (home W (record { instance = i; path = longer path fields })) (sym (λ j. overlap (is j) (is' j)) ∙ e));
    }
    meet at over (kept k is holds) (kept n is' holds') e = record {
      one = whole k;
      other = whole n;
      holds = holds;
      other_holds = holds';
      over = overlapping (whole_of i k) (whole_of i n) (sym (λ j. overlap (is j) (is' j)) ∙ e);
    }
