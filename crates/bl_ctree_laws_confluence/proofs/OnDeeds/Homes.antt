-- Two paths of an instance have homes that overlap only where they overlap themselves.
use Rattle.std.proofs.Common.{◌≡◌, ℕ, zero, suc, ◌+◌, ◌<◌, ◌≤◌, Bool, true, false, ◌&&◌, ◌||◌, List, [], ◌∷◌, ◌++◌, Option, Some, None, refl, sym, ap, ◌∙◌}
use Rattle.std.proofs.Common.{subst, arith, eq-eqb, eqb-true}
use Rattle.std.specs.Prelude.{◌-◌, nat_eq, nat_le, nat_lt, option_map, slice_get, if◌then◌else◌}
use Rattle.std.proofs.lemmas.Bool.{leb-true}
use Rattle.std.proofs.lemmas.Bool.{and_from, or_left, or_right}
use Rattle.bl_tree.proofs.Basics.{and_first, and_second, either_case, one_some}
use Rattle.bl_tree.specs.declared.static_path.Static.{Static}
use Rattle.bl_tree.specs.declared.tree.StructDef.{StructDef}
use Rattle.bl_tree.specs.declared.tree.Unit.{Unit as UnitDef}
use Rattle.bl_tree.specs.Static.{is_front, overlaps}
use Rattle.bl_ctree.specs.declared.instance.Origin.{Origin}
use Rattle.bl_ctree.specs.Instances.{Setting, setting_of, unit_of}
use Rattle.bl_ctree.specs.Store.{Location, home, is_output_of, led, led_by, overlap, under}
use Rattle.bl_ctree_laws_confluence.specs.Deeds.Homes.{HomesAreApart, OutputsAreApart}
use Rattle.bl_ctree_laws_confluence.proofs.OnDeeds.Origins.{homes_lead_out, led_from}
use Rattle.bl_ctree_laws_confluence.proofs.OnApart.Seen.{longer}

-- ---- fields

front_cut : (xs ps ys qs : List ℕ) → is_front (xs ++ ps) (ys ++ qs) ≡ true → (is_front xs ys || is_front ys xs) ≡ true
front_cut [] ps ys qs e = refl
front_cut (x ∷ xs) ps [] qs e = refl
front_cut (x ∷ xs) ps (y ∷ ys) qs e =
    let same = and_first (nat_eq x y) (is_front (xs ++ ps) (ys ++ qs)) e in
    let back = eq-eqb y x (sym (eqb-true x y same)) in
    either_case (is_front xs ys) (is_front ys xs) (front_cut xs ps ys qs (and_second (nat_eq x y) (is_front (xs ++ ps) (ys ++ qs)) e))
    (λ one. or_left (nat_eq x y && is_front xs ys) (nat_eq y x && is_front ys xs) (and_from (nat_eq x y) (is_front xs ys) same one))
    (λ other. or_right (nat_eq x y && is_front xs ys) (nat_eq y x && is_front ys xs) (and_from (nat_eq y x) (is_front ys xs) back other))

front_same : (fs ps qs : List ℕ) → is_front (fs ++ ps) (fs ++ qs) ≡ is_front ps qs
front_same [] ps qs = refl
front_same (f ∷ fs) ps qs = ap (λ b. b && is_front (fs ++ ps) (fs ++ qs)) (eq-eqb f f refl) ∙ front_same fs ps qs

or_swapped : (a b : Bool) → (a || b) ≡ true → (b || a) ≡ true
or_swapped a b e = either_case a b e (λ one. or_right b a one) (λ other. or_left b a other)

pub overlap_cut : (a b : Static) (ps qs : List ℕ) → overlaps (longer a ps) (longer b qs) ≡ true → overlaps a b ≡ true
overlap_cut a b ps qs e =
    let roots = and_first (nat_eq a.root b.root) (is_front (a.fields ++ ps) (b.fields ++ qs) || is_front (b.fields ++ qs) (a.fields ++ ps)) e in
    let fronts = and_second (nat_eq a.root b.root) (is_front (a.fields ++ ps) (b.fields ++ qs) || is_front (b.fields ++ qs) (a.fields ++ ps)) e in
    and_from (nat_eq a.root b.root) (is_front a.fields b.fields || is_front b.fields a.fields) roots
    (either_case (is_front (a.fields ++ ps) (b.fields ++ qs)) (is_front (b.fields ++ qs) (a.fields ++ ps)) fronts
    (λ one. front_cut a.fields ps b.fields qs one)
    (λ other. or_swapped (is_front b.fields a.fields) (is_front a.fields b.fields) (front_cut b.fields qs a.fields ps other)))

overlap_same : (o p q : Static) → p.root ≡ q.root → overlaps (longer o p.fields) (longer o q.fields) ≡ true → overlaps p q ≡ true
overlap_same o p q roots e =
    and_from (nat_eq p.root q.root) (is_front p.fields q.fields || is_front q.fields p.fields) (eq-eqb p.root q.root roots)
    (sym (λ i. front_same o.fields p.fields q.fields i || front_same o.fields q.fields p.fields i)
    ∙ and_second (nat_eq o.root o.root) (is_front (o.fields ++ p.fields) (o.fields ++ q.fields) || is_front (o.fields ++ q.fields) (o.fields ++ p.fields)) e)

-- ---- what an output stands for

record Stands (origin : Origin) (unit : UnitDef) (path : Static) (next : Location) : Type 0 where
  output : Static
  there : slice_get origin.outputs (path.root - unit.inputs) ≡ Some output
  past : unit.inputs ≤ path.root
  is : next ≡ under origin.caller path.fields output

stands_for : (origin : Origin) (unit : UnitDef) (path : Static) (next : Location) → led_by path origin unit ≡ Some next → Stands origin unit path next
stands_for origin unit path next e = by_test (is_output_of unit path.root) refl e
  where
    by_output : unit.inputs ≤ path.root → (o : Option Static) → slice_get origin.outputs (path.root - unit.inputs) ≡ o →
        option_map (under origin.caller path.fields) o ≡ Some next → Stands origin unit path next
    by_output past None there e = absurd cc
    by_output past (Some o) there e =
        let same : under origin.caller path.fields o ≡ next = cc in
        record { output = o; there = there; past = past; is = sym same }

    by_test : (b : Bool) → is_output_of unit path.root ≡ b →
        (if b then option_map (under origin.caller path.fields) (slice_get origin.outputs (path.root - unit.inputs)) else None) ≡ Some next →
        Stands origin unit path next
    by_test true is e =
        by_output (leb-true unit.inputs path.root (and_first (nat_le unit.inputs path.root) (nat_lt path.root (unit.inputs + unit.outputs)) is))
        (slice_get origin.outputs (path.root - unit.inputs)) refl e
    by_test false is e = absurd cc

module _ (structs : List StructDef) (units : List UnitDef) (entry : ℕ) (apart : OutputsAreApart (setting_of structs units entry)) where
  abbrev W : Setting
  W = setting_of structs units entry

  abbrev at : ℕ → Static → Location
  at i path = record { instance = i; path = path }

  abbrev Goal : ℕ → Static → Static → Type 0
  Goal i p q = overlap (home W (at i p)) (home W (at i q)) ≡ true → overlaps p q ≡ true

  one_place : (a b : Location) → overlap a b ≡ true → a.instance ≡ b.instance
  one_place a b e = eqb-true a.instance b.instance (and_first (nat_eq a.instance b.instance) (overlaps a.path b.path) e)

  -- the home of an output is not of the instance itself
  not_own : (i : ℕ) (p : Static) (next : Location) → led W (at i p) ≡ Some next → (home W (at i p)).instance ≡ i → ⊥
  not_own i p next e same =
      let less = homes_lead_out.earlier structs units entry (at i p) next e in
      let more = homes_lead_out.no_later structs units entry next in
      let out = ap (λ at. at.instance) (homes_lead_out.out structs units entry (at i p) next e) in
      absurd (omega arith)

  own_is : (i : ℕ) (p : Static) → led W (at i p) ≡ None → home W (at i p) ≡ at i p
  own_is i p e = homes_lead_out.own W (at i p) e

  both_out : (i : ℕ) (p q : Static) (a b : Location) → led W (at i p) ≡ Some a → led W (at i q) ≡ Some b →
      ((j : ℕ) → j < i → (p q : Static) → Goal j p q) → Goal i p q
  both_out i p q a b e f inner over =
      let d = led_from W (at i p) a e in
      let g = led_from W (at i q) b f in
      let instances : d.instance ≡ g.instance = one_some d.instance g.instance (slice_get W.instances i) d.there g.there in
      let origins : d.origin ≡ g.origin = one_some d.origin g.origin d.instance.origin d.began (ap (λ instance. instance.origin) instances ∙ g.began) in
      let its_units : d.unit ≡ g.unit = one_some d.unit g.unit (unit_of W d.instance) d.of (ap (unit_of W) instances ∙ g.of) in
      let one = stands_for d.origin d.unit p a d.leads in
      let two = stands_for d.origin d.unit q b
      ((λ i. led_by q (origins i) (its_units i)) ∙ g.leads) in
      let a_is : a ≡ at d.origin.caller (longer one.output p.fields) = one.is in
      let b_is : b ≡ at d.origin.caller (longer two.output q.fields) = two.is in
      let caller_less : d.origin.caller < i =
      subst (λ a. a.instance < i) a_is (homes_lead_out.earlier structs units entry (at i p) a e) in
      let over_out : overlap (home W a) (home W b) ≡ true =
      (λ j. overlap (sym (homes_lead_out.out structs units entry (at i p) a e) j) (sym (homes_lead_out.out structs units entry (at i q) b f) j)) ∙ over in
      let outs : overlaps (longer one.output p.fields) (longer two.output q.fields) ≡ true =
      inner d.origin.caller caller_less (longer one.output p.fields) (longer two.output q.fields)
      ((λ j. overlap (home W (sym a_is j)) (home W (sym b_is j))) ∙ over_out) in
      let index = apart i d.instance d.origin d.there d.began (p.root - d.unit.inputs) (q.root - d.unit.inputs) one.output two.output one.there two.there
      (overlap_cut one.output two.output p.fields q.fields outs) in
      let past = one.past in
      let past' = two.past in
      let roots : p.root ≡ q.root = omega arith in
      let outputs : two.output ≡ one.output =
      one_some two.output one.output (slice_get d.origin.outputs (q.root - d.unit.inputs)) two.there
      (ap (slice_get d.origin.outputs) (sym index) ∙ one.there) in
      overlap_same one.output p q roots (subst (λ o. overlaps (longer one.output p.fields) (longer o q.fields) ≡ true) outputs outs)

  by_led : (i : ℕ) (p q : Static) (a b : Option Location) → led W (at i p) ≡ a → led W (at i q) ≡ b →
      ((j : ℕ) → j < i → (p q : Static) → Goal j p q) → Goal i p q
  by_led i p q None None e f inner over =
      and_second (nat_eq i i) (overlaps p q) (sym (λ j. overlap (own_is i p e j) (own_is i q f j)) ∙ over)
  by_led i p q (Some a) None e f inner over =
      absurd (not_own i p a e (one_place (home W (at i p)) (home W (at i q)) over ∙ ap (λ at. at.instance) (own_is i q f)))
  by_led i p q None (Some b) e f inner over =
      absurd (not_own i q b f (sym (one_place (home W (at i p)) (home W (at i q)) over) ∙ ap (λ at. at.instance) (own_is i p e)))
  by_led i p q (Some a) (Some b) e f inner over = both_out i p q a b e f inner over

  below : (n i : ℕ) → i < n → (p q : Static) → Goal i p q
  below zero i less p q = absurd (omega arith)
  below (suc n) i less p q = by_led i p q (led W (at i p)) (led W (at i q)) refl refl (λ j lower p q. below n j (omega arith) p q)

pub homes_are_apart_so : HomesAreApart
homes_are_apart_so structs units entry i p q apart over = below structs units entry apart (suc i) i (omega arith) p q over
