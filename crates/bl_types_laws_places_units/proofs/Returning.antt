-- Where a unit returns doesn't depend on places nor on the positions of constants.
use Rattle.std.proofs.Common.{◌≡◌, List, [], ◌∷◌, ◌++◌, map, Option, Some, None, refl, ap, ap₂, sym, ◌∙◌}
use Rattle.std.specs.Prelude.{All, Bool, true, false, ◌&&◌, ◌||◌, is_none, nat_eq, option_map, if◌then◌else◌}
use Rattle.bl_tree.specs.declared.place.Place.{Place}
use Rattle.bl_tree.specs.declared.rule.Failure.{Failure}
use Rattle.bl_tree.specs.declared.rule.Rule.TheVariants as rule
use Rattle.bl_tree.specs.Reduce.{all_of, joined}
use Rattle.bl_tree.specs.Returns.{last_of}
use Rattle.bl_tree.specs.Typing.{is_activity, is_inhabited}
use Rattle.bl_tree_laws_places.proofs.Lists.{joined-map, map-after, map-behind}
use Rattle.bl_names_laws_places.specs.Renamed.{Renaming, renamed_stmt, renamed_type, renamed_unit}
use Rattle.bl_names_laws_places.proofs.Stmts.{arming, branching}
use Rattle.bl_names_tree.specs.declared.expr.NamedExpr.{NamedExpr}
use Rattle.bl_names_tree.specs.declared.item.NamedUnit.{NamedUnit}
use Rattle.bl_names_tree.specs.declared.stmt.NamedArm.{NamedArm, fold-roll-NamedArm, roll-NamedArm}
use Rattle.bl_names_tree.specs.declared.stmt.NamedBranch.{NamedBranch, fold-NamedBranch, fold-roll-NamedBranch, roll-NamedBranch}
use Rattle.bl_names_tree.specs.declared.stmt.NamedStmt.{NamedStmt, fold-roll-NamedStmt, out-roll-NamedStmt}
use Rattle.bl_names_tree.specs.declared.stmt.NamedStmtKind.{NamedStmtKind, fold-NamedStmtKind, fold-roll-NamedStmtKind, map-NamedStmtKind, out-NamedStmtKind}
use Rattle.bl_names_tree.specs.declared.stmt.NamedStmtKind.{out-roll-NamedStmtKind, roll-NamedStmtKind}
use Rattle.bl_names_tree.specs.declared.stmt.NamedStmtKind.TheOpen.{NamedStmtKind-F}
use Rattle.bl_names_tree.specs.declared.types.NamedType.{NamedType}
use Rattle.bl_types.specs.Failures.{unless}
use Rattle.bl_types.specs.Returns.{activity_returns, arm_layer_strays, arm_returns, arm_surely_returns, branch_layer_strays, branch_returns, function_returns}
use Rattle.bl_types.specs.Returns.{is_return, is_return_kind, kind_returns, kind_strays, layer_returns, layer_strays, return_failures, stray, strays, strays_in}
use Rattle.bl_types.specs.Returns.{strays_in_arm, strays_in_branch, surely_returns}
use Rattle.bl_types_laws.proofs.NamedStmtInduction.{Cases, induct, stmt}
use Rattle.bl_types_laws.proofs.StmtLayers.{Layer}
use Rattle.bl_types_laws_places.specs.Agree.{placed_failure, placed_failures}
use Rattle.bl_types_laws_places_units.proofs.Alike.{both_placed, unless_placed}
use Rattle.bl_types_laws_places_units.proofs.Renamed.{arm_is, branch_is, relayered, stmt_is}

-- ---- a statement, by its layer

abbrev returns_by : Layer → Bool
returns_by layer = kind_returns
    (map-NamedStmtKind NamedStmtKind NamedArm NamedBranch NamedStmt Bool Bool Bool Bool
    (fold-NamedStmtKind Bool Bool Bool Bool kind_returns arm_returns branch_returns layer_returns) arm_surely_returns
    (fold-NamedBranch Bool Bool Bool Bool kind_returns arm_returns branch_returns layer_returns) surely_returns layer)

returns_is : (place : Place) (layer : Layer) → surely_returns (stmt place layer) ≡ returns_by layer
returns_is place layer = rw (fold-roll-NamedStmt, fold-roll-NamedStmtKind) refl

abbrev strays_by : Layer → Place → List Failure
strays_by layer = kind_strays
    (map-NamedStmtKind NamedStmtKind NamedArm NamedBranch NamedStmt (Place → List Failure) (List Failure) (List Failure) (List Failure)
    (fold-NamedStmtKind (Place → List Failure) (List Failure) (List Failure) (List Failure) kind_strays arm_layer_strays branch_layer_strays
    layer_strays) strays_in_arm strays_in_branch strays_in layer)

strays_is : (place : Place) (layer : Layer) → strays_in (stmt place layer) ≡ strays_by layer place
strays_is place layer = rw (fold-roll-NamedStmt, fold-roll-NamedStmtKind) refl

is_return_of : (place : Place) (layer : Layer) → is_return (stmt place layer) ≡ is_return_kind layer
is_return_of place layer =
    ap (λ layer. is_return_kind (out-NamedStmtKind layer.what)) (out-roll-NamedStmt (record { place = place; what = roll-NamedStmtKind layer }))
    ∙ ap is_return_kind (out-roll-NamedStmtKind layer)

module _ (by : Renaming) where
  abbrev f : Place → Place
  f = by.place

  -- a `return` stays one, and stray ones fail at the mapped places
  pub record SameReturns (s : NamedStmt) : Type 0 where
    pub surely : surely_returns (renamed_stmt by s) ≡ surely_returns s
    pub strays : strays_in (renamed_stmt by s) ≡ placed_failures f (strays_in s)
    pub returns : is_return (renamed_stmt by s) ≡ is_return s

  record SameArm (arm : NamedArm) : Type 0 where
    surely : arm_surely_returns (arming by arm) ≡ arm_surely_returns arm
    strays : strays_in_arm (arming by arm) ≡ placed_failures f (strays_in_arm arm)

  abbrev SameBranch : NamedBranch → Type 0
  SameBranch branch = strays_in_branch (branching by branch) ≡ placed_failures f (strays_in_branch branch)

  stays_return : (layer : Layer) → is_return_kind (relayered by layer) ≡ is_return_kind layer
  stays_return (NamedStmtKind-F.Declare k value) = refl
  stays_return (NamedStmtKind-F.Const k) = refl
  stays_return (NamedStmtKind-F.Assign target e) = refl
  stays_return (NamedStmtKind-F.Call name k inputs outputs) = refl
  stays_return (NamedStmtKind-F.Await e) = refl
  stays_return (NamedStmtKind-F.Run target name k inputs outputs) = refl
  stays_return (NamedStmtKind-F.If arms other) = refl
  stays_return (NamedStmtKind-F.Cobegin branches) = refl
  stays_return (NamedStmtKind-F.When guard e body) = refl
  stays_return (NamedStmtKind-F.Repeat body) = refl
  stays_return (NamedStmtKind-F.Until body e) = refl
  stays_return (NamedStmtKind-F.While e body) = refl
  stays_return (NamedStmtKind-F.Return e) = refl

  by_layer : (place : Place) (layer : Layer) → returns_by (relayered by layer) ≡ returns_by layer →
      strays_by (relayered by layer) (f place) ≡ placed_failures f (strays_by layer place) → SameReturns (stmt place layer)
  by_layer place layer surely stray_ones = record {
    surely = ap surely_returns (stmt_is by place layer) ∙ returns_is (f place) (relayered by layer) ∙ surely ∙ sym (returns_is place layer);
    strays =
        ap strays_in (stmt_is by place layer) ∙ strays_is (f place) (relayered by layer) ∙ stray_ones
        ∙ ap (placed_failures f) (sym (strays_is place layer));
    returns =
        ap is_return (stmt_is by place layer) ∙ is_return_of (f place) (relayered by layer) ∙ stays_return layer
        ∙ sym (is_return_of place layer);
  }

  -- ---- parts one after another

  all_strays : {X : Type 0} (gives : X → List Failure) (change : X → X) (xs : List X) →
      All (λ x. gives (change x) ≡ placed_failures f (gives x)) xs →
      joined (map gives (map change xs)) ≡ placed_failures f (joined (map gives xs))
  all_strays gives change xs each = ap joined (map-behind gives change (placed_failures f) xs each) ∙ joined-map (placed_failure f) (map gives xs)

  body_strays : (body : List NamedStmt) → All SameReturns body →
      joined (map strays_in (map (renamed_stmt by) body)) ≡ placed_failures f (joined (map strays_in body))
  body_strays body each = all_strays strays_in (renamed_stmt by) body (λ k d less. (each k d less).strays)

  body_surely : (body : List NamedStmt) → All SameReturns body → map surely_returns (map (renamed_stmt by) body) ≡ map surely_returns body
  body_surely body each = map-after surely_returns (renamed_stmt by) body (λ k d less. (each k d less).surely)

  if_case : (place : Place) (arms : List NamedArm) (other : List NamedStmt) → All SameArm arms → All SameReturns other →
      SameReturns (stmt place (NamedStmtKind-F.If arms other))
  if_case place arms other each_arm each =
      by_layer place (NamedStmtKind-F.If arms other)
      (ap₂ (λ xs ys. all_of xs && last_of ys) (map-after arm_surely_returns (arming by) arms (λ k d less. (each_arm k d less).surely))
      (body_surely other each))
      (both_placed f (joined (map strays_in_arm arms)) (joined (map strays_in other)) _ _
      (all_strays strays_in_arm (arming by) arms (λ k d less. (each_arm k d less).strays)) (body_strays other each))

  arm_case : (test : NamedExpr) (body : List NamedStmt) → All SameReturns body → SameArm (roll-NamedArm (record { test = test; body = body }))
  arm_case test body each =
      let surely_as : (test : NamedExpr) (body : List NamedStmt) →
      arm_surely_returns (roll-NamedArm (record { test = test; body = body })) ≡ last_of (map surely_returns body) =
      λ test body. rw fold-roll-NamedArm refl in
      let strays_as : (test : NamedExpr) (body : List NamedStmt) →
      strays_in_arm (roll-NamedArm (record { test = test; body = body })) ≡ joined (map strays_in body) =
      λ test body. rw fold-roll-NamedArm refl in
      record {
        surely =
            ap arm_surely_returns (arm_is by test body) ∙ surely_as _ (map (renamed_stmt by) body) ∙ ap last_of (body_surely body each)
            ∙ sym (surely_as test body);
        strays =
            ap strays_in_arm (arm_is by test body) ∙ strays_as _ (map (renamed_stmt by) body) ∙ body_strays body each
            ∙ ap (placed_failures f) (sym (strays_as test body));
      }

  branch_case : (weak : Bool) (body : List NamedStmt) → All SameReturns body → SameBranch (roll-NamedBranch (record { weak = weak; body = body }))
  branch_case weak body each =
      let strays_as : (body : List NamedStmt) →
      strays_in_branch (roll-NamedBranch (record { weak = weak; body = body })) ≡ joined (map strays_in body) =
      λ body. rw fold-roll-NamedBranch refl in
      ap strays_in_branch (branch_is by weak body) ∙ strays_as (map (renamed_stmt by) body) ∙ body_strays body each
      ∙ ap (placed_failures f) (sym (strays_as body))

  cases : Cases SameReturns SameArm SameBranch
  cases = record {
    declare = λ place k value. by_layer place (NamedStmtKind-F.Declare k value) refl refl;
    constant = λ place k. by_layer place (NamedStmtKind-F.Const k) refl refl;
    assign = λ place target e. by_layer place (NamedStmtKind-F.Assign target e) refl refl;
    call = λ place name k inputs outputs. by_layer place (NamedStmtKind-F.Call name k inputs outputs) refl refl;
    await = λ place e. by_layer place (NamedStmtKind-F.Await e) refl refl;
    run = λ place target name a inputs outputs. by_layer place (NamedStmtKind-F.Run target name a inputs outputs) refl refl;
    branching = if_case;
    cobegin = λ place branches each. by_layer place (NamedStmtKind-F.Cobegin branches) refl
        (all_strays strays_in_branch (branching by) branches each);
    guarded = λ place guard e body each. by_layer place (NamedStmtKind-F.When guard e body) refl (body_strays body each);
    repeat = λ place body each. by_layer place (NamedStmtKind-F.Repeat body) refl (body_strays body each);
    until = λ place body e each. by_layer place (NamedStmtKind-F.Until body e) refl (body_strays body each);
    while = λ place e body each. by_layer place (NamedStmtKind-F.While e body) refl (body_strays body each);
    returns = λ place e. by_layer place (NamedStmtKind-F.Return e) refl refl;
    arm = arm_case;
    branch = branch_case;
  }

  same_returns : (s : NamedStmt) → SameReturns s
  same_returns = induct SameReturns SameArm SameBranch cases

  -- ---- units

  one_stray : (last : Bool) (s : NamedStmt) → stray last (renamed_stmt by s) ≡ placed_failures f (stray last s)
  one_stray true s = (same_returns s).strays
  one_stray false s =
      (λ i. if (same_returns s).returns i then [] else (same_returns s).strays i) ∙ by_test (is_return s)
    where
      by_test : (test : Bool) → (if test then [] else placed_failures f (strays_in s)) ≡ placed_failures f (if test then [] else strays_in s)
      by_test true = refl
      by_test false = refl

  inhabited : (body : List NamedStmt) → is_inhabited (map (renamed_stmt by) body) ≡ is_inhabited body
  inhabited [] = refl
  inhabited (s ∷ rest) = refl

  strays_placed : (body : List NamedStmt) → strays (map (renamed_stmt by) body) ≡ placed_failures f (strays body)
  strays_placed [] = refl
  strays_placed (s ∷ rest) =
      both_placed f (stray (is_inhabited rest) s) (strays rest) _ _
      (ap (λ last. stray last (renamed_stmt by s)) (inhabited rest) ∙ one_stray (is_inhabited rest) s) (strays_placed rest)

  none_written : (unit : NamedUnit) → is_none (option_map (renamed_type by) unit.result) ≡ is_none unit.result
  none_written unit = by_result unit.result
    where
      by_result : (result : Option NamedType) → is_none (option_map (renamed_type by) result) ≡ is_none result
      by_result (Some ty) = refl
      by_result None = refl

  function_stays : (unit : NamedUnit) → function_returns (renamed_unit by unit) ≡ function_returns unit
  function_stays unit =
      λ i. none_written unit i || (nat_eq unit.outputs 0 && last_of (body_surely unit.body (λ k d less. same_returns _) i))

  activity_stays : (unit : NamedUnit) → activity_returns (renamed_unit by unit) ≡ activity_returns unit
  activity_stays unit =
      λ i. none_written unit i || last_of (map-after is_return (renamed_stmt by) unit.body (λ k d less. (same_returns _).returns) i)

  -- rule Return fails for a changed unit at the mapped places
  pub returns_placed : (unit : NamedUnit) → return_failures (renamed_unit by unit) ≡ placed_failures f (return_failures unit)
  returns_placed unit = by_kind (is_activity unit.kind)
    where
      owed : unless (activity_returns (renamed_unit by unit)) rule.Return (f unit.name.place)
          ≡ placed_failures f (unless (activity_returns unit) rule.Return unit.name.place)
      owed = ap (λ test. unless test rule.Return (f unit.name.place)) (activity_stays unit)
          ∙ unless_placed f (activity_returns unit) rule.Return unit.name.place

      by_kind : (activity : Bool) →
          (if activity then unless (activity_returns (renamed_unit by unit)) rule.Return (f unit.name.place)
          ++ strays (map (renamed_stmt by) unit.body) else unless (function_returns (renamed_unit by unit)) rule.Return (f unit.name.place))
          ≡ placed_failures f (if activity then unless (activity_returns unit) rule.Return unit.name.place
          ++ strays unit.body else unless (function_returns unit) rule.Return unit.name.place)
      by_kind true =
          both_placed f (unless (activity_returns unit) rule.Return unit.name.place) (strays unit.body) _ _ owed (strays_placed unit.body)
      by_kind false = ap (λ test. unless test rule.Return (f unit.name.place)) (function_stays unit)
          ∙ unless_placed f (function_returns unit) rule.Return unit.name.place
