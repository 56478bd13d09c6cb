-- What an instance sees after its acts, and once a target of a `run` has its result.
use Rattle.std.proofs.Common.{◌≡◌, ℕ, zero, suc, true, List, [], ◌∷◌, map, take, Contains, Option, Some, None}
use Rattle.std.proofs.Common.{sym, ap, ◌∙◌, subst, arith}
use Rattle.std.proofs.lemmas.Option.{same_Some}
use Rattle.std.specs.Prelude.{option_map, slice_get, ⊤}
use Rattle.bl_tree.specs.declared.place.Place.{Place}
use Rattle.bl_tree.specs.declared.tree.Path.{Path}
use Rattle.bl_tree.specs.declared.tree.Stmt.{Stmt}
use Rattle.bl_tree.specs.declared.tree.StructDef.{StructDef}
use Rattle.bl_tree.specs.declared.tree.Unit.{Unit as UnitDef}
use Rattle.bl_tree.specs.declared.value.Value.{Value}
use Rattle.bl_tree.specs.Program.{IsWellTyped}
use Rattle.bl_tree.specs.Reduce.{joined}
use Rattle.bl_tree.specs.Static.{static_of}
use Rattle.bl_tree.specs.Typing.{TypingContext, fits, site_of, target_fits}
use Rattle.bl_graph_nodes.specs.Nodes.{ActAt, Arguments, EnterAt, nodes_in}
use Rattle.bl_graph_nodes.specs.Plain.{Label, plain_body}
use Rattle.bl_eval.specs.Values.{put_at}
use Rattle.bl_ctree.specs.declared.instance.Run.{Run}
use Rattle.bl_ctree.specs.Actions.{Performed, acted_kind, done, given_to, result_at, target_gets}
use Rattle.bl_ctree.specs.Instances.{Setting, runs_in, setting_of, unit_at}
use Rattle.bl_ctree.specs.Positions.{stmt_kind}
use Rattle.bl_ctree.specs.Store.{Store, home, value_among, view_at}
use Rattle.bl_ctree_laws_confluence.specs.Deeds.Nesting.{ProgramsNest}
use Rattle.bl_ctree_laws_confluence.proofs.OnDeeds.Activities.{AllOf}
use Rattle.bl_ctree_laws_typing.proofs.OnViews.Running.{body_fits}
use Rattle.bl_ctree_laws_confluence.specs.Stores.{PutsKeepOthers}
use Rattle.bl_machine.specs.declared.machine.Activity.{Activity as InMachine}
use Rattle.bl_machine_pass_laws_typing.proofs.OnFits.Doing.{Stands, stands_at}
use Rattle.bl_machine_pass_laws_typing.proofs.OnFits.NodesFit.{NodeFits, RunFits, body_nodes}
use Rattle.bl_machine_pass_laws_typing.specs.Seen as seen
use Rattle.bl_machine_pass_laws_typing.specs.Seen.{ActsAreSeen}
use Rattle.bl_emit_spec_laws_nodes.specs.Calling.{TargetGiven}
use Rattle.bl_emit_spec_laws.specs.Calls.Built.{Activities}
use Rattle.bl_emit_spec_laws.specs.Calls.Laws.{CompilationContext}
use Rattle.bl_emit_spec_laws_nodes.proofs.OnViews.Leaving.{Leaves, kept_inside, nests_inside}
use Rattle.bl_emit_spec_laws_nodes.specs.Seen.{OwnIsSeen, TargetsAreSeen}
use Rattle.bl_eval.proofs.UnitFits.{unit_at as unit_stands_at}
use Rattle.bl_ctree_laws_confluence.proofs.OnDeeds.Activities.{all_at}

-- ---- nodes

pub among : {A : Type 0} (P : A → Type 0) (xs : List A) (x : A) → AllOf P xs → Contains xs x → P x
among P [] x all there = let below = there.1 in absurd (omega arith)
among P (y ∷ xs) x all (zero, within, is) = subst P is all.0
among P (y ∷ xs) x all (suc k, within, is) = among P xs x all.1 (k, omega arith, is)

abbrev AnyRun : Run → Type 0
AnyRun run = ⊤

any_runs : (runs : List Run) → AllOf AnyRun runs
any_runs [] = tt
any_runs (run ∷ runs) = (tt, any_runs runs)

module _ (structs : List StructDef) (units : List UnitDef) (entry : ℕ) (keeps : IsWellTyped structs units entry) (i : ℕ) (unit : UnitDef)
    (is : unit_at (setting_of structs units entry) i ≡ Some unit) where
  abbrev stands : Stands structs units entry i unit
  stands = stands_at structs units entry i unit is

  abbrev site : TypingContext
  site = site_of structs (take stands.instance.unit units) unit

  nodes_fit : AllOf (NodeFits site AnyRun) (nodes_in (plain_body unit.body))
  nodes_fit =
      body_nodes site AnyRun unit.body
      (body_fits structs (take stands.instance.unit units) unit
      (unit_stands_at structs [] units stands.instance.unit unit keeps.units_stand stands.of))
      (any_runs (joined (map runs_in unit.body)))

  act_fits : (position : ℕ) (l : Label) (s : Stmt) → slice_get (nodes_in (plain_body unit.body)) position ≡ Some (ActAt l s) →
      fits site s ≡ true
  act_fits position l s node =
      all_at (NodeFits site AnyRun) (nodes_in (plain_body unit.body)) position (ActAt l s) nodes_fit node

  run_fits : (l : Label) (at : Place) (arguments : Arguments) → Contains (nodes_in (plain_body unit.body)) (EnterAt l at arguments) →
      RunFits site AnyRun at arguments
  run_fits l at arguments node = among (NodeFits site AnyRun) (nodes_in (plain_body unit.body)) (EnterAt l at arguments) nodes_fit node

-- ---- acts

performed_left : (p : Performed) (left : Store) → Some p ≡ Some (record { answer = true; store = left }) → p.store ≡ left
performed_left p left e = ap (λ (p : Performed). p.store) (same_Some p (record { answer = true; store = left }) e)

acted_left : (o : Option Store) (left : Store) → option_map done o ≡ Some (record { answer = true; store = left }) → o ≡ Some left
acted_left None left e = absurd cc
acted_left (Some store) left e = ap Some (performed_left (done store) left e)

pub own_is_seen : ActsAreSeen → OwnIsSeen
own_is_seen acts structs units entry machine activities compiled i unit l s store left values acted =
    let w = setting_of structs units entry in
    let at = stands_at structs units entry i unit acted.is_there in
    acts structs units entry i at.instance unit s store left values compiled.well_typed compiled.passes at.there at.of
    (act_fits structs units entry compiled.well_typed i unit acted.is_there acted.position l s acted.node) acted.fitting acted.outcome
    (acted_left (acted_kind w i s (stmt_kind s) store) left acted.done)

-- ---- targets

module _ (targets : seen.TargetsAreSeen) (puts : PutsKeepOthers) (structs : List StructDef) (units : List UnitDef) (entry : ℕ)
    (machine : List InMachine) (activities : Activities) (compiled : CompilationContext structs units entry machine activities) (i j : ℕ) (path : Path)
    (value : Value) (store left : Store) (given : TargetGiven (setting_of structs units entry) i j path value store left) where
  abbrev W : Setting
  W = setting_of structs units entry

  left_is : target_gets W i store path value ≡ left
  left_is =
      sym (ap (λ result. given_to W i (Some path) result store) given.result)
      ∙ performed_left (done (given_to W i (Some path) (result_at store j) store)) left given.done

  own : put_at (static_of path).root (static_of path).fields value (view_at W store i).now ≡ Some (view_at W left i).now
  own =
      let run = run_fits structs units entry compiled.well_typed i given.unit given.is_there given.label given.at given.arguments given.node in
      let at = stands_at structs units entry i given.unit given.is_there in
      targets structs units entry i given.unit (take at.instance.unit units) run.callee.result path value store compiled.well_typed compiled.passes
      given.is_there
      (subst (λ target. target_fits (site_of structs (take at.instance.unit units) given.unit) run.callee.result target ≡ true) given.target
      run.target)
      given.fitting
      ∙ ap (λ (left : Store). Some (view_at W left i).now) left_is

  leaves : Leaves W i left store
  leaves = record {
    result = sym (ap (λ left. result_at left i) left_is) ∙ puts.results (home W (record { instance = i; path = static_of path })) value store i;
    now = λ b clear.
        sym (ap (λ (left : Store). value_among (λ frame. frame.now) left b) left_is)
        ∙ puts.now (home W (record { instance = i; path = static_of path })) b value store (clear (static_of path));
  }

pub targets_seen_so : seen.TargetsAreSeen → ProgramsNest → PutsKeepOthers → TargetsAreSeen
targets_seen_so targets nests puts structs units entry machine activities compiled =
    let w = setting_of structs units entry in record {
      own = λ i j path value store left given. own targets puts structs units entry machine activities compiled i j path value store left given;
      inner = λ i j path value store left given at c k f m f' m' x var called nest known held.
          kept_inside structs units entry machine activities compiled k x var known held (nests structs units entry) i c at store left called
          (nests_inside w activities c k f m f' m' nest)
          (leaves targets puts structs units entry machine activities compiled i j path value store left given);
      result = λ i j path value store left given.
          (leaves targets puts structs units entry machine activities compiled i j path value store left given).result;
    }
