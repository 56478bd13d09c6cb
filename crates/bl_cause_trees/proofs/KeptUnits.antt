-- What is kept of units, and the first failure over all of them.
use Rattle.std.proofs.Common.{◌≡◌, ◌+◌, ◌<◌, ◌≤◌, Bool, true, false, ◌||◌, cond, List, [], ◌∷◌, ◌++◌, ◌⊎◌, inl, inr, ⊎_elim, Option, Some, None, length, get_or}
use Rattle.std.proofs.Common.{refl, sym, ap, subst, ◌∙◌, append-nil, arith}
use Rattle.std.specs.Prelude.{Contains, if◌then◌else◌, is_some, ⊤}
use Rattle.std.proofs.lemmas.List.Elements.{filter-append}
use Rattle.bl_tree.proofs.Basics.{contains_none, first_or_further, true_and_false}
use Rattle.bl_graph.specs.declared.tick_graph.Graph.{Graph}
use Rattle.bl_tree.specs.declared.place.Place.{Place}
use Rattle.bl_tree.specs.declared.rule.Refusal.{Refusal}
use Rattle.bl_tree.specs.declared.rule.Refusal.TheVariants as refusal
use Rattle.bl_tree.specs.declared.rule.Rule.{Rule}
use Rattle.bl_tree.specs.declared.rule.Rule.TheVariants as rule
use Rattle.bl_tree.specs.declared.tree.Stmt.{Stmt}
use Rattle.bl_tree.specs.declared.tree.Unit.{Unit as UnitDef}
use Rattle.bl_tree.specs.Rules.{AreNoLater, FailsFirst as FirstOf, IsBefore, IsCause, Passes as NoneOf, compared, is_before, number_of}
use Rattle.bl_tree.specs.Typing.{is_activity}
use Rattle.bl_tree.proofs.FirstLemmas.{alike_first}
use Rattle.bl_cause.specs.Activities.{AreGraphs, AreOrders, EachTwo, IsGraphOf, IsOrderOf, activities}
use Rattle.bl_cause.specs.declared.order.Order.{Order}
use Rattle.bl_cause.specs.inner.Graphs.{GraphsFail}
use Rattle.bl_cause.specs.Rules.{Passes as OwnGraphsPass}
use Rattle.bl_cause.proofs.AlikeLemmas.{program_passes}
use Rattle.bl_cause.proofs.FirstLemmas.{no_later}
use Rattle.bl_cause.proofs.PairLemmas.{contains_either, contains_last, contains_left, each_first, each_push}
use Rattle.bl_cause_trees.specs.declared.activity.Judged.{Judged}
use Rattle.bl_cause_trees.specs.declared.units.Kept.{Kept}
use Rattle.bl_cause_trees.specs.inner.Judging.{AreKept, IsPeeledBy, after_activity, after_function, earlier_refusal, with_bodies, with_body}
use Rattle.bl_cause_trees.specs.Rules.{Fails, FailsInPeeled, Passes}
use Rattle.bl_cause_trees.specs.Peeled.{ArePeeled, of_function}
use Rattle.bl_cause_trees.proofs.Judged.{graph_alone, ordered_never_cycle, ordered_never_twice}
use Rattle.bl_cause_trees.proofs.Peeled.{peeled_units_are_judged}
use Rattle.bl_tree.proofs.FirstLemmas.{before_trans, before_true}

-- ---- units with other bodies

pub peeled_by : (units : List UnitDef) (bodies : List (Option (List Stmt))) → EachTwo IsPeeledBy units bodies → ArePeeled units (with_bodies units bodies)
peeled_by [] [] each = tt
peeled_by [] (body ∷ bodies) each = absurd each
peeled_by (unit ∷ units) [] each = absurd each
peeled_by (unit ∷ units) (body ∷ bodies) each = (each.0, peeled_by units bodies each.1)

pub few_bodies : (units : List UnitDef) (bodies : List (Option (List Stmt))) → EachTwo IsPeeledBy units bodies → length bodies ≤ length units
few_bodies [] [] each = omega arith
few_bodies [] (body ∷ bodies) each = absurd each
few_bodies (unit ∷ units) [] each = absurd each
few_bodies (unit ∷ units) (body ∷ bodies) each = let rest = few_bodies units bodies each.1 in omega arith

with_more : (units : List UnitDef) (bodies : List (Option (List Stmt))) (unit : UnitDef) (body : Option (List Stmt)) →
    EachTwo IsPeeledBy units bodies → with_bodies (units ++ unit ∷ []) (bodies ++ body ∷ []) ≡ with_bodies units bodies ++ with_body unit body ∷ []
with_more [] [] unit body each = refl
with_more [] (other ∷ bodies) unit body each = absurd each
with_more (first ∷ units) [] unit body each = absurd each
with_more (first ∷ units) (other ∷ bodies) unit body each = ap (λ rest. with_body first other ∷ rest) (with_more units bodies unit body each.1)

kind_stays : (unit : UnitDef) (body : Option (List Stmt)) → (with_body unit body).kind ≡ unit.kind
kind_stays unit None = refl
kind_stays unit (Some body) = refl

-- ---- activities among units

activities_more : (units : List UnitDef) (unit : UnitDef) (b : Bool) → is_activity unit.kind ≡ b →
    activities (units ++ unit ∷ []) ≡ activities units ++ cond b (unit ∷ []) []
activities_more units unit b is =
    filter-append (λ it. is_activity it.kind) units (unit ∷ []) ∙ ap (λ (b : Bool). activities units ++ cond b (unit ∷ []) []) is

-- ---- what is kept

module _ (units : List UnitDef) (kept : Kept) (are : AreKept units kept) (unit : UnitDef) where
  abbrev peeled_units : List UnitDef
  peeled_units = with_bodies units kept.bodies

  pub function_kept : is_activity unit.kind ≡ false → AreKept (units ++ unit ∷ []) (after_function kept)
  function_kept function =
      let more = with_more units kept.bodies unit None are.each_peeled in
      record {
        each_peeled = each_push IsPeeledBy units kept.bodies unit None are.each_peeled (of_function function);
        each_graph = subst (λ it. AreGraphs it kept.graphs) (sym more)
            (subst (λ it. EachTwo IsGraphOf it kept.graphs) (sym (activities_more peeled_units unit false function ∙ append-nil (activities peeled_units)))
            are.each_graph);
        each_order = are.each_order;
        own = λ none. more ∙ ap (λ it. it ++ unit ∷ []) (are.own none);
      }

  none_peels : (body : Option (List Stmt)) → (kept.peels || is_some body) ≡ false → peeled_units ++ with_body unit body ∷ [] ≡ units ++ unit ∷ []
  none_peels None none = ap (λ it. it ++ unit ∷ []) (are.own (or_first kept.peels none))
    where
      or_first : (b : Bool) → (b || false) ≡ false → b ≡ false
      or_first true is = is
      or_first false is = refl
  none_peels (Some body) none = absurd (or_true kept.peels none)
    where
      or_true : (b : Bool) → (b || true) ≡ false → ⊥
      or_true true is = cc
      or_true false is = cc

  pub activity_kept : (judged : Judged) → is_activity unit.kind ≡ true → IsPeeledBy unit judged.peeled →
      IsGraphOf (with_body unit judged.peeled) judged.ordered.graph → IsOrderOf judged.ordered.graph judged.ordered.order →
      AreKept (units ++ unit ∷ []) (after_activity kept judged)
  activity_kept judged activity peeled_unit graph order =
      let more = with_more units kept.bodies unit judged.peeled are.each_peeled in
      let body = with_body unit judged.peeled in
      record {
        each_peeled = each_push IsPeeledBy units kept.bodies unit judged.peeled are.each_peeled peeled_unit;
        each_graph = subst (λ it. AreGraphs it (kept.graphs ++ judged.ordered.graph ∷ [])) (sym more)
            (subst (λ it. EachTwo IsGraphOf it (kept.graphs ++ judged.ordered.graph ∷ []))
            (sym (activities_more peeled_units body true (ap is_activity (kind_stays unit judged.peeled) ∙ activity)))
            (each_push IsGraphOf (activities peeled_units) kept.graphs body judged.ordered.graph are.each_graph graph));
        each_order = each_push IsOrderOf kept.graphs kept.orders judged.ordered.graph judged.ordered.order are.each_order order;
        own = λ none. more ∙ none_peels judged.peeled none;
      }

-- ---- the rules pass for what is kept

module _ (graphs : List Graph) (orders : List Order) (are : AreOrders graphs orders) where
  ordered_pass : NoneOf (GraphsFail graphs)
  ordered_pass rule.Twice at also any =
      let own = each_first IsOrderOf graphs orders any.graph are any.is_there in ordered_never_twice any.graph own.0 own.2 at also any.fails
  ordered_pass rule.Cycle at also any =
      let own = each_first IsOrderOf graphs orders any.graph are any.is_there in ordered_never_cycle any.graph own.0 own.2 at also any.fails
  ordered_pass _ at also any = absurd any

pub peeled_pass : (units : List UnitDef) (kept : Kept) → AreKept units kept → OwnGraphsPass (with_bodies units kept.bodies)
peeled_pass units kept are =
    program_passes (with_bodies units kept.bodies) kept.graphs are.each_graph (ordered_pass kept.graphs kept.orders are.each_order)

pub kept_passes : (units : List UnitDef) (kept : Kept) → AreKept units kept → Passes units
kept_passes units kept are r at also fails =
    peeled_pass units kept are r at also
    ((peeled_units_are_judged units (with_bodies units kept.bodies) (peeled_by units kept.bodies are.each_peeled) r at also).0 fails)

-- an activity passes whose peeled unit has a tick graph with an order
pub activity_passes : (unit : UnitDef) (body : Option (List Stmt)) (graph : Graph) (order : Order) → is_activity unit.kind ≡ true →
    IsPeeledBy unit body → IsGraphOf (with_body unit body) graph → IsOrderOf graph order → Passes (unit ∷ [])
activity_passes unit body graph order activity peeled_unit own rises r at also fails =
    let made = with_body unit body in
    program_passes (made ∷ []) (graph ∷ []) (graph_alone made graph (ap is_activity (kind_stays unit body) ∙ activity) own)
    (ordered_pass (graph ∷ []) (order ∷ []) (rises, tt)) r at also ((peeled_units_are_judged (unit ∷ []) (made ∷ []) (peeled_unit, tt) r at also).0 fails)

-- ---- one unit more

alone_function : (FailsIn : Graph → Place → List Place → Type 0) (unit : UnitDef) → is_activity unit.kind ≡ false → (at : Place) (also : List Place) →
    FailsInPeeled FailsIn (unit ∷ []) at also → ⊥
alone_function FailsIn unit function at also fails =
    ⊎_elim
    (λ (is : unit ≡ fails.unit). true_and_false (is_activity unit.kind) (ap (λ (it : UnitDef). is_activity it.kind) is ∙ fails.activity) function)
    (λ (none : Contains [] fails.unit). contains_none fails.unit none) (first_or_further unit [] fails.unit fails.is_there)

no_later_then : (a b c : Place) → AreNoLater (a ∷ []) (b ∷ []) → AreNoLater (b ∷ []) (c ∷ []) → AreNoLater (a ∷ []) (c ∷ [])
no_later_then a b c one two =
    ⊎_elim
    (λ (less : IsBefore a b).
    ⊎_elim (λ (more : IsBefore b c). inl (before_trans a b c less more))
    (λ (same : (b ≡ c) × ⊤). inl (subst (IsBefore a) same.0 less)) two)
    (λ (same : (a ≡ b) × ⊤). subst (λ it. AreNoLater (it ∷ []) (c ∷ [])) (sym same.0) two) one

module _ (FailsIn : Graph → Place → List Place → Type 0) (units : List UnitDef) (unit : UnitDef) (at : Place) (also : List Place) where
  moved : (others : List UnitDef) → (fails : FailsInPeeled FailsIn others at also) → (all : List UnitDef) → Contains all fails.unit →
      FailsInPeeled FailsIn all at also
  moved others fails all there = record {
    unit = fails.unit;
    is_there = there;
    activity = fails.activity;
    peeled_unit = fails.peeled_unit;
    is_peeled = fails.is_peeled;
    graph = fails.graph;
    of_peeled = fails.of_peeled;
    fails = fails.fails;
  }

  in_earlier : FailsInPeeled FailsIn units at also → FailsInPeeled FailsIn (units ++ unit ∷ []) at also
  in_earlier fails = moved units fails (units ++ unit ∷ []) (contains_left units (unit ∷ []) fails.unit fails.is_there)

  in_last : FailsInPeeled FailsIn (unit ∷ []) at also → FailsInPeeled FailsIn (units ++ unit ∷ []) at also
  in_last fails =
      moved (unit ∷ []) fails (units ++ unit ∷ [])
      (⊎_elim (λ (none : Contains [] fails.unit). absurd (contains_none fails.unit none))
      (λ (is : unit ≡ fails.unit). subst (Contains (units ++ unit ∷ [])) is (contains_last units unit))
      (contains_either [] unit fails.unit fails.is_there))

  in_which : FailsInPeeled FailsIn (units ++ unit ∷ []) at also → FailsInPeeled FailsIn units at also ⊎ FailsInPeeled FailsIn (unit ∷ []) at also
  in_which fails =
      ⊎_elim (λ (there : Contains units fails.unit). inl (moved (units ++ unit ∷ []) fails units there))
      (λ (is : unit ≡ fails.unit).
      inr (moved (units ++ unit ∷ []) fails (unit ∷ []) (subst (Contains (unit ∷ [])) is (contains_last [] unit))))
      (contains_either units unit fails.unit fails.is_there)

module _ (units : List UnitDef) (unit : UnitDef) where
  abbrev more : List UnitDef
  more = units ++ unit ∷ []

  earlier_fails : (r : Rule) (at : Place) (also : List Place) → Fails units r at also → Fails more r at also
  earlier_fails rule.Twice at also fails = in_earlier _ units unit at also fails
  earlier_fails rule.Cycle at also fails = in_earlier _ units unit at also fails
  earlier_fails _ at also fails = absurd fails

  last_fails : (r : Rule) (at : Place) (also : List Place) → Fails (unit ∷ []) r at also → Fails more r at also
  last_fails rule.Twice at also fails = in_last _ units unit at also fails
  last_fails rule.Cycle at also fails = in_last _ units unit at also fails
  last_fails _ at also fails = absurd fails

  which_fails : (r : Rule) (at : Place) (also : List Place) → Fails more r at also → Fails units r at also ⊎ Fails (unit ∷ []) r at also
  which_fails rule.Twice at also fails = in_which _ units unit at also fails
  which_fails rule.Cycle at also fails = in_which _ units unit at also fails
  which_fails _ at also fails = absurd fails

  -- where the earlier units pass, the last one decides
  pub cause_of_last : Passes units → (told : Refusal) → IsCause (Fails (unit ∷ [])) told → IsCause (Fails more) told
  cause_of_last pass (refusal.Rule r at also) first =
      alike_first (Fails (unit ∷ [])) (Fails more) last_fails
      (λ s elsewhere further fails.
      ⊎_elim (λ (h : Fails units s elsewhere further). absurd (pass s elsewhere further h)) (λ (h : Fails (unit ∷ []) s elsewhere further). h)
      (which_fails s elsewhere further fails)) r at also first
  cause_of_last pass refusal.NoMemory first = tt

  -- where the last unit passes, the earlier ones decide
  pub cause_of_earlier : Passes (unit ∷ []) → (told : Refusal) → IsCause (Fails units) told → IsCause (Fails more) told
  cause_of_earlier pass (refusal.Rule r at also) first =
      alike_first (Fails units) (Fails more) earlier_fails
      (λ s elsewhere further fails.
      ⊎_elim (λ (h : Fails units s elsewhere further). h) (λ (h : Fails (unit ∷ []) s elsewhere further). absurd (pass s elsewhere further h))
      (which_fails s elsewhere further fails)) r at also first
  cause_of_earlier pass refusal.NoMemory first = tt

  -- no function fails
  pub function_passes : is_activity unit.kind ≡ false → Passes (unit ∷ [])
  function_passes function rule.Twice at also fails = alone_function _ unit function at also fails
  function_passes function rule.Cycle at also fails = alone_function _ unit function at also fails
  function_passes function _ at also fails = absurd fails

  -- ---- the earlier of two failures

  -- one that is first of the earlier units or of the last, and no later than the failures of the others
  first_of_more : (r : Rule) (at : Place) (also : List Place) → Fails more r at also →
      ((s : Rule) (elsewhere : Place) (further : List Place) → Fails units s elsewhere further → number_of r ≤ number_of s) →
      ((s : Rule) (elsewhere : Place) (further : List Place) → Fails (unit ∷ []) s elsewhere further → number_of r ≤ number_of s) →
      ((elsewhere : Place) (further : List Place) → Fails units r elsewhere further →
      AreNoLater (compared r at also) (compared r elsewhere further)) →
      ((elsewhere : Place) (further : List Place) → Fails (unit ∷ []) r elsewhere further →
      AreNoLater (compared r at also) (compared r elsewhere further)) → FirstOf (Fails more) r at also
  first_of_more r at also fails one other place elsewhere_place = record {
    fails = fails;
    least_rule = λ s elsewhere further it.
        ⊎_elim (λ (h : Fails units s elsewhere further). one s elsewhere further h)
        (λ (h : Fails (unit ∷ []) s elsewhere further). other s elsewhere further h) (which_fails s elsewhere further it);
    least_places = λ elsewhere further it.
        ⊎_elim (λ (h : Fails units r elsewhere further). place elsewhere further h)
        (λ (h : Fails (unit ∷ []) r elsewhere further). elsewhere_place elsewhere further h) (which_fails r elsewhere further it);
  }

  -- of two failures of one rule the one at the earlier place is first
  module _ (r : Rule)
      (to : (one other : Place) (also further : List Place) → AreNoLater (one ∷ []) (other ∷ []) → AreNoLater (compared r one also) (compared r other further))
      (from : (one other : Place) (also further : List Place) → AreNoLater (compared r one also) (compared r other further) → AreNoLater (one ∷ []) (other ∷ []))
      (p q : Place)
      (a b : List Place)
      (one : FirstOf (Fails units) r p a)
      (two : FirstOf (Fails (unit ∷ [])) r q b) where
    of_one_rule : IsCause (Fails more) (if is_before q p then refusal.Rule r q b else refusal.Rule r p a)
    of_one_rule =
        elim (is_before q p) as (λ test. is_before q p ≡ test → IsCause (Fails more) (if test then refusal.Rule r q b else refusal.Rule r p a)) [
          | true ↦ λ is.
              first_of_more r q b (last_fails r q b two.fails) one.least_rule two.least_rule
              (λ x y h. to q x b y (no_later_then q p x (inl (before_true q p is)) (from p x a y (one.least_places x y h)))) two.least_places
          | false ↦ λ is.
              first_of_more r p a (earlier_fails r p a one.fails) one.least_rule two.least_rule one.least_places
              (λ x y h. to p x a y (no_later_then p q x (no_later p q is) (from q x b y (two.least_places x y h))))
        ] refl

  pub cause_of_both : (r s : Rule) (p q : Place) (a b : List Place) → FirstOf (Fails units) r p a → FirstOf (Fails (unit ∷ [])) s q b →
      IsCause (Fails more) (earlier_refusal (refusal.Rule r p a) (refusal.Rule s q b))
  cause_of_both rule.Twice rule.Twice p q a b one two = of_one_rule rule.Twice (λ x y u v h. h) (λ x y u v h. h) p q a b one two
  cause_of_both rule.Cycle rule.Cycle p q a b one two = of_one_rule rule.Cycle (λ x y u v h. h) (λ x y u v h. h) p q a b one two
  cause_of_both rule.Twice rule.Cycle p q a b one two =
      first_of_more rule.Twice p a (earlier_fails rule.Twice p a one.fails) one.least_rule
      (λ s x y h. let most = two.least_rule s x y h in omega arith) one.least_places
      (λ x y h. let most = two.least_rule rule.Twice x y h in absurd (omega arith))
  cause_of_both rule.Cycle rule.Twice p q a b one two =
      first_of_more rule.Twice q b (last_fails rule.Twice q b two.fails) (λ s x y h. let most = one.least_rule s x y h in omega arith) two.least_rule
      (λ x y h. let most = one.least_rule rule.Twice x y h in absurd (omega arith)) two.least_places
  cause_of_both rule.Twice _ p q a b one two = absurd two.fails
  cause_of_both rule.Cycle _ p q a b one two = absurd two.fails
  cause_of_both _ s p q a b one two = absurd one.fails

  -- a failure of earlier units and a refusal of the last
  pub cause_of_two : (r : Rule) (p : Place) (a : List Place) → FirstOf (Fails units) r p a → (told : Refusal) → IsCause (Fails (unit ∷ [])) told →
      IsCause (Fails more) (earlier_refusal (refusal.Rule r p a) told)
  cause_of_two r p a one (refusal.Rule s q b) two = cause_of_both r s p q a b one two
  cause_of_two r p a one refusal.NoMemory two = tt

-- ---- copies of units

-- one unit more, for the next body
pub copied : (units : List UnitDef) (before : List (Option (List Stmt))) (body : Option (List Stmt)) (unit : UnitDef) (copies next : List UnitDef) →
    copies ≡ with_bodies units before → length copies ≡ length before → length copies < length units → unit ≡ get_or units (length copies) unit →
    next ≡ copies ++ with_body unit body ∷ [] → next ≡ with_bodies units (before ++ body ∷ [])
copied units before body unit copies next made many inside is grew =
    grew ∙ ap (λ it. it ++ with_body unit body ∷ []) made
    ∙ sym (with_next units before body unit (subst (λ k. k < length units) many inside) (subst (λ k. unit ≡ get_or units k unit) many is))
  where
    with_next : (units : List UnitDef) (before : List (Option (List Stmt))) (body : Option (List Stmt)) (unit : UnitDef) →
        length before < length units → unit ≡ get_or units (length before) unit →
        with_bodies units (before ++ body ∷ []) ≡ with_bodies units before ++ with_body unit body ∷ []
    with_next [] before body unit inside is = absurd (omega arith)
    with_next (first ∷ rest) [] body unit inside is = ap (λ it. with_body it body ∷ with_bodies rest []) (sym is) ∙ one rest
      where
        one : (rest : List UnitDef) → with_body unit body ∷ with_bodies rest [] ≡ with_body unit body ∷ []
        one [] = refl
        one (next ∷ rest) = refl
    with_next (first ∷ rest) (other ∷ before) body unit inside is =
        ap (λ it. with_body first other ∷ it) (with_next rest before body unit (omega arith) is)

pub with_none : (units : List UnitDef) → [] ≡ with_bodies units []
with_none [] = refl
with_none (unit ∷ units) = refl

count_more : {X : Type 0} (xs : List X) (x : X) → length (xs ++ x ∷ []) ≡ length xs + 1
count_more [] x = refl
count_more (y ∷ xs) x = let rest = count_more xs x in omega arith

pub one_longer : {X : Type 0} (xs longer : List X) (x : X) → longer ≡ xs ++ x ∷ [] → length longer ≡ length xs + 1
one_longer xs longer x is = ap length is ∙ count_more xs x
