-- The activities of a program one after another.
use Rattle.std.proofs.Common.{◌≡◌, ℕ, ◌+◌, ◌<◌, Bool, true, false, cond, Some, List, [], ◌∷◌, ◌++◌, length, get_or, take, refl, sym, ap, subst, ◌∙◌}
use Rattle.std.specs.Prelude.{slice_get}
use Rattle.std.proofs.lemmas.List.{append-nil, take_more}
use Rattle.std.proofs.lemmas.List.Elements.{filter-append}
use Rattle.std.proofs.lemmas.Option.{slice_get_read}
use Rattle.bl_graph.specs.declared.tick_graph.Graph.{Graph}
use Rattle.bl_tree.specs.declared.tree.Unit.{Unit as UnitDef}
use Rattle.bl_tree.specs.declared.tree.UnitKind.{UnitKind}
use Rattle.bl_tree.specs.declared.tree.UnitKind.TheVariants as kinds
use Rattle.bl_tree.specs.Typing.{is_activity}
use Rattle.bl_cause.specs.Activities.{AreGraphs, AreOrders, EachTwo, activities}
use Rattle.bl_cause.specs.Laws.{GraphsAreFound, OrdersAreFound}
use Rattle.bl_cause.specs.declared.order.Order.{Order}
use Rattle.bl_machine.specs.declared.machine.Activity.{Activity}
use Rattle.bl_machine.specs.inner.Found.{IsFound}

-- ---- lists whose elements belong together

pub each_length : {A B : Type 0} (R : A → B → Type 0) (xs : List A) (ys : List B) → EachTwo R xs ys → length xs ≡ length ys
each_length R [] [] each = refl
each_length R [] (y ∷ ys) each = absurd each
each_length R (x ∷ xs) [] each = absurd each
each_length R (x ∷ xs) (y ∷ ys) each = let rest = each_length R xs ys each.1 in cc

each_push : {A B : Type 0} (R : A → B → Type 0) (xs : List A) (ys : List B) (x : A) (y : B) → EachTwo R xs ys → R x y →
    EachTwo R (xs ++ x ∷ []) (ys ++ y ∷ [])
each_push R [] [] x y each r = (r, tt)
each_push R [] (b ∷ ys) x y each r = absurd each
each_push R (a ∷ xs) [] x y each r = absurd each
each_push R (a ∷ xs) (b ∷ ys) x y each r = (each.0, each_push R xs ys x y each.1 r)

-- ---- the activities among the first units

pub no_activity : (kind : UnitKind) → (kind ≡ kinds.Activity → ⊥) → is_activity kind ≡ false
no_activity kinds.Function other = refl
no_activity kinds.Activity other = absurd (other refl)

module _ (units view : List UnitDef) (same : view ≡ units) (k : ℕ) (unit : UnitDef) (inside : k < length view) (is : unit ≡ get_or view k unit) where
  within : k < length units
  within = subst (λ it. k < length it) same inside

  is_there : unit ≡ get_or units k unit
  is_there = subst (λ it. unit ≡ get_or it k unit) same is

  stands : slice_get units k ≡ Some unit
  stands = slice_get_read units (length units) k unit refl within is_there

  front_more : take (k + 1) units ≡ take k units ++ unit ∷ []
  front_more = take_more units k unit within ∙ ap (λ y. take k units ++ y ∷ []) (sym is_there)

  activities_more : is_activity unit.kind ≡ true → activities (take (k + 1) units) ≡ activities (take k units) ++ unit ∷ []
  activities_more activity =
      ap activities front_more ∙ filter-append (λ it. is_activity it.kind) (take k units) (unit ∷ [])
      ∙ ap (λ (b : Bool). activities (take k units) ++ cond b (unit ∷ []) []) activity

  activities_same : is_activity unit.kind ≡ false → activities (take (k + 1) units) ≡ activities (take k units)
  activities_same function =
      ap activities front_more ∙ filter-append (λ it. is_activity it.kind) (take k units) (unit ∷ [])
      ∙ ap (λ (b : Bool). activities (take k units) ++ cond b (unit ∷ []) []) function ∙ append-nil (activities (take k units))

  -- an activity has the next place
  pub made_more : (R : UnitDef → Activity → Type 0) (made next : List Activity) (activity : Activity) → is_activity unit.kind ≡ true →
      next ≡ made ++ activity ∷ [] → R unit activity → EachTwo R (activities (take k units)) made → EachTwo R (activities (take (k + 1) units)) next
  made_more R made next activity kind grew own are =
      subst (EachTwo R (activities (take (k + 1) units))) (sym grew)
      (subst (λ it. EachTwo R it (made ++ activity ∷ [])) (sym (activities_more kind))
      (each_push R (activities (take k units)) made unit activity are own))

  -- a function has none
  pub made_same : (R : UnitDef → Activity → Type 0) (made next : List Activity) → is_activity unit.kind ≡ false → next ≡ made →
      EachTwo R (activities (take k units)) made → EachTwo R (activities (take (k + 1) units)) next
  made_same R made next function grew are =
      subst (EachTwo R (activities (take (k + 1) units))) (sym grew) (subst (λ it. EachTwo R it made) (sym (activities_same function)) are)

  -- the tick graph and the order of the next activity stand behind those of the earlier ones
  pub found_next : (R : UnitDef → Activity → Type 0) (graphs : List Graph) (orders : List Order) (made : List Activity) (next : ℕ) →
      GraphsAreFound → OrdersAreFound → AreGraphs units graphs → AreOrders graphs orders → is_activity unit.kind ≡ true →
      EachTwo R (activities (take k units)) made → next ≡ length made → IsFound unit graphs orders next
  found_next R graphs orders made next find order are_graphs are_orders kind are count =
      let has = find units graphs are_graphs k unit stands kind in
      let at : length (activities (take k units)) ≡ next = each_length R (activities (take k units)) made are ∙ sym count in
      let there : slice_get graphs next ≡ Some has.graph = ap (slice_get graphs) (sym at) ∙ has.stands in
      let one = order graphs orders are_orders next has.graph there in record {
        graph = has.graph;
        has_graph = there;
        of_unit = has.of_unit;
        order = one.order;
        has_order = one.stands;
        of_graph = one.of_graph;
      }
