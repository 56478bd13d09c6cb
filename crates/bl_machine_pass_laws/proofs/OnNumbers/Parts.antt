-- The rules of a `cobegin` and of a `when`, part by part.
use Rattle.std.proofs.Common.{◌≡◌, Bool, true, false, List, [], ◌∷◌, ◌++◌, Contains, map}
use Rattle.bl_tree.specs.declared.place.Place.{Place}
use Rattle.bl_tree.specs.declared.tree.Expr.{Expr}
use Rattle.bl_tree.specs.declared.tree.Guard.{Guard as GuardKind}
use Rattle.bl_graph_nodes.specs.Nodes.{CheckAt, DepthEndAt, DepthJoinAt, ForkAt, SurfaceEndAt, SurfaceJoinAt, are_instant, is_instant}
use Rattle.bl_graph_nodes.specs.Plain.{Block, Bodies, Cobegin, Label, When}
use Rattle.bl_machine.specs.Uses.{Slots}
use Rattle.bl_machine_pass.specs.Transitions.{Change, ClearsBoth, IsNew, RestedIn, Transition, age_of, body_ends, counters_in, fires, flagged, joins, once}
use Rattle.bl_machine_pass.specs.Transitions.{rests_in, rule_where, rules_in, rules_in_each, rules_of}
use Rattle.bl_machine_pass_laws.specs.Turns.Sits.{RulesAreAmong}
use Rattle.bl_machine_pass_laws.proofs.OnNumbers.Members.{Each, each_of, each_left, each_right}

-- the rule of the surface join of a `cobegin`, and where it has none the empty list
abbrev pub surface_join : Slots → Label → Place → Bodies → Change → List Transition
surface_join slots l at bodies next =
    rule_where (is_instant (Cobegin l at bodies)) (joins slots l bodies (IsNew (ForkAt l at)) (SurfaceJoinAt l at) next)

-- that of its depth join
abbrev pub depth_join : Slots → Label → Place → Bodies → Change → Transition
depth_join slots l at bodies next = joins slots l bodies (age_of (is_instant (Cobegin l at bodies)) (ForkAt l at)) (DepthJoinAt l at) next

-- the rule of the surface end of a `when`
abbrev pub surface_end : Label → Place → Block → Change → List Transition
surface_end l at body next = rule_where (are_instant body) (flagged (SurfaceEndAt l at) (next ∷ []))

-- that of its check
abbrev pub check : Slots → Label → Place → GuardKind → Expr → Block → Change → Transition
check slots l at guard e body next = record {
  node = CheckAt l at e;
  condition = RestedIn (rests_in slots body);
  on_true = map ClearsBoth (once (counters_in slots body)) ++ fires guard l at body next ∷ [];
  on_false = [];
}

-- that of its depth end, and all further ones
abbrev pub behind_check : Slots → Label → Place → Block → Change → List Transition
behind_check slots l at body next = flagged (DepthEndAt l at) (next ∷ []) ∷ rules_in slots body (body_ends l at body)

-- ---- rules that are among those of a statement

module _ (slots : Slots) (all : List Transition) (l : Label) (at : Place) where
  pub branch_rules : (bodies : Bodies) (next : Change) → RulesAreAmong all (rules_of slots (Cobegin l at bodies) next) →
      Each all (rules_in_each slots l 0 bodies)
  branch_rules bodies next among =
      (each_right all (surface_join slots l at bodies next) (depth_join slots l at bodies next ∷ rules_in_each slots l 0 bodies)
      (each_of all (rules_of slots (Cobegin l at bodies) next) among).1).1

  pub depth_join_there : (bodies : Bodies) (next : Change) → RulesAreAmong all (rules_of slots (Cobegin l at bodies) next) →
      Contains all (depth_join slots l at bodies next)
  depth_join_there bodies next among =
      (each_right all (surface_join slots l at bodies next) (depth_join slots l at bodies next ∷ rules_in_each slots l 0 bodies)
      (each_of all (rules_of slots (Cobegin l at bodies) next) among).1).0

  first_where : (b : Bool) (rule : Transition) → b ≡ true → Each all (rule_where b rule) → Contains all rule
  first_where true rule is each = each.0
  first_where false rule is each = absurd cc

  pub surface_join_there : (bodies : Bodies) (next : Change) → is_instant (Cobegin l at bodies) ≡ true →
      RulesAreAmong all (rules_of slots (Cobegin l at bodies) next) →
      Contains all (joins slots l bodies (IsNew (ForkAt l at)) (SurfaceJoinAt l at) next)
  surface_join_there bodies next instant among =
      first_where (is_instant (Cobegin l at bodies)) (joins slots l bodies (IsNew (ForkAt l at)) (SurfaceJoinAt l at) next) instant
      (each_left all (surface_join slots l at bodies next) (depth_join slots l at bodies next ∷ rules_in_each slots l 0 bodies)
      (each_of all (rules_of slots (Cobegin l at bodies) next) among).1)

  module _ (guard : GuardKind) (e : Expr) (body : Block) (next : Change) (among : RulesAreAmong all (rules_of slots (When l at guard e body) next)) where
    behind : Each all (check slots l at guard e body next ∷ behind_check slots l at body next)
    behind =
        each_right all (surface_end l at body next) (check slots l at guard e body next ∷ behind_check slots l at body next)
        (each_of all (rules_of slots (When l at guard e body) next) among).1

    pub check_there : Contains all (check slots l at guard e body next)
    check_there = behind.0

    pub depth_end_there : Contains all (flagged (DepthEndAt l at) (next ∷ []))
    depth_end_there = behind.1.0

    pub body_rules : Each all (rules_in slots body (body_ends l at body))
    body_rules = behind.1.1

    pub surface_end_there : are_instant body ≡ true → Contains all (flagged (SurfaceEndAt l at) (next ∷ []))
    surface_end_there instant =
        first_where (are_instant body) (flagged (SurfaceEndAt l at) (next ∷ [])) instant
        (each_left all (surface_end l at body next) (check slots l at guard e body next ∷ behind_check slots l at body next)
        (each_of all (rules_of slots (When l at guard e body) next) among).1)
