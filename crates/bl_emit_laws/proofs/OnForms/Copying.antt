-- What is copied suffices.
use Rattle.std.proofs.Common.{◌≡◌, ℕ, zero, suc, ◌<◌, ⊎_elim, Bool, true, false, List, [], ◌∷◌, ◌++◌, map, length}
use Rattle.std.proofs.Common.{Option, Some, None, refl, sym, ap, ◌∙◌, subst, arith, nat_eq}
use Rattle.std.proofs.lemmas.List.Elements.{Contains-append_cases, Contains-append_left, Contains-append_right}
use Rattle.std.proofs.lemmas.Option.{same_Some, slice_get_within}
use Rattle.std.specs.Prelude.{Contains, is_some, slice_get, unwrap_or}
use Rattle.std.specs.List.{list_any}
use Rattle.bl_tree.proofs.Basics.{contains_further, contains_mapped, index_of}
use Rattle.bl_tree.specs.declared.place.Place.{Place}
use Rattle.bl_tree.specs.declared.tree.Arm.{Arm}
use Rattle.bl_tree.specs.declared.tree.Branch.{Branch}
use Rattle.bl_tree.specs.declared.tree.Stmt.{Stmt, out-Stmt}
use Rattle.bl_tree.specs.declared.tree.StmtKind.{StmtKind, out-StmtKind}
use Rattle.bl_tree.specs.declared.tree.StmtKind.TheOpen.{StmtKind-F}
use Rattle.bl_tree.specs.declared.tree.StructDef.{StructDef}
use Rattle.bl_tree.specs.declared.tree.Unit.{Unit as UnitDef}
use Rattle.bl_tree.specs.declared.tree.Var.{Var}
use Rattle.bl_tree.specs.Program.{IsWellTyped}
use Rattle.bl_tree.specs.Types.{scalar_in}
use Rattle.bl_graph_nodes.specs.Nodes.{ActAt, Arguments, CheckAt, DepthEndAt, DepthJoinAt, EnterAt, ForkAt, HeadAt, Node, PauseAt, ResumeAt, StartAt}
use Rattle.bl_graph_nodes.specs.Nodes.{SurfaceEndAt, SurfaceJoinAt, TestAt, are_instant, is_instant, nodes_in, nodes_in_each, nodes_of, where_so}
use Rattle.bl_graph_nodes.specs.Plain.{Act, Again, Await, Block, Bodies, Body as BodyOf, Cobegin, Done, If, Label, Last, Plain, Repeat, Run as RunOf, Then}
use Rattle.bl_graph_nodes.specs.Plain.{Until, When, While, plain_body}
use Rattle.bl_machine.specs.Blocks.{up_to}
use Rattle.bl_machine.specs.Uses.{Slots}
use Rattle.bl_machine_pass.specs.Transitions.{Transition, rules}
use Rattle.bl_machine_prevs.specs.Prevs.{prevs_of}
use Rattle.bl_machine_prevs_laws.specs.Scalar.{PrevsAreScalar, is_scalar_var}
use Rattle.bl_emit_acts.specs.Acts.{is_copied}
use Rattle.bl_emit_spec.specs.Activities.{Activity, copies_of, rules_at}
use Rattle.bl_emit_spec_laws_nodes.specs.Calling.{RunsStand}
use Rattle.bl_emit_spec_laws_nodes.specs.Copied.{NodesCopied, RunsCopied}
use Rattle.bl_emit_spec_laws_nodes.specs.Points.Nodes.{act_copied, copied_there}
use Rattle.bl_emit_spec_laws_wellformed_bodies.specs.Bodies.{CopiesSuffice, act_named, named_there}
use Rattle.bl_emit_spec_laws.proofs.OnOwn.Counting.{get_up_to}
use Rattle.bl_emit_spec_laws_nodes.proofs.OnCopied.Copied.{get_mapped}

-- ---- where a `run` goes on one begins

module _ (l : Label) (at : Place) (arguments : Arguments) where
  abbrev Ends : List Node → Type 0
  Ends nodes = Contains nodes (ResumeAt l at arguments)

  abbrev Starts : List Node → Type 0
  Starts nodes = Contains nodes (EnterAt l at arguments)

  -- another node in front
  behind : (n : Node) (nodes : List Node) → (n ≡ ResumeAt l at arguments → ⊥) → (Ends nodes → Starts nodes) → Ends (n ∷ nodes) →
      Starts (n ∷ nodes)
  behind n nodes other rest (zero, below, is) = absurd (other is)
  behind n nodes other rest (suc j, below, is) = contains_further n nodes (EnterAt l at arguments) (rest (j, omega (arith, below), is))

  both : (ms ns : List Node) → (Ends ms → Starts ms) → (Ends ns → Starts ns) → Ends (ms ++ ns) → Starts (ms ++ ns)
  both ms ns one other has =
      ⊎_elim (λ left. Contains-append_left ms ns (EnterAt l at arguments) (one left))
      (λ right. Contains-append_right ms ns (EnterAt l at arguments) (other right)) (Contains-append_cases ms ns (ResumeAt l at arguments) has)

  nothing : Ends [] → Starts []
  nothing (j, below, is) = absurd (omega (arith, below))

  where_one : (b : Bool) (n : Node) → (n ≡ ResumeAt l at arguments → ⊥) → Ends (where_so b n) → Starts (where_so b n)
  where_one true n other has = behind n [] other nothing has
  where_one false n other has = nothing has

  run_pair : (m : Label) (place : Place) (given : Arguments) → Ends (EnterAt m place given ∷ ResumeAt m place given ∷ []) →
      Starts (EnterAt m place given ∷ ResumeAt m place given ∷ [])
  run_pair m place given (zero, below, is) = absurd (let no : EnterAt m place given ≡ ResumeAt l at arguments = is in cc)
  run_pair m place given (suc zero, below, is) = (zero, omega arith, same is)
    where
      same : ResumeAt m place given ≡ ResumeAt l at arguments → EnterAt m place given ≡ EnterAt l at arguments
      same is = cc
  run_pair m place given (suc (suc j), below, is) = absurd (omega (arith, below))

  mutual
    of_plain : (s : Plain) → Ends (nodes_of s) → Starts (nodes_of s)
    of_plain (Act m s) has = behind (ActAt m s) [] (λ is. (let no : ActAt m s ≡ ResumeAt l at arguments = is in cc)) nothing has
    of_plain (Await m place e) has =
        behind (PauseAt m place) (TestAt m place e ∷ []) (λ is. (let no : PauseAt m place ≡ ResumeAt l at arguments = is in cc))
        (behind (TestAt m place e) [] (λ is. (let no : TestAt m place e ≡ ResumeAt l at arguments = is in cc)) nothing) has
    of_plain (RunOf m place target a inputs outputs) has = run_pair m place _ has
    of_plain (If m place e body other) has =
        behind (TestAt m place e) (nodes_in body ++ nodes_in other) (λ is. (let no : TestAt m place e ≡ ResumeAt l at arguments = is in cc))
        (both (nodes_in body) (nodes_in other) (of_block body) (of_block other)) has
    of_plain (Cobegin m place bodies) has =
        behind (ForkAt m place)
        (where_so (is_instant (Cobegin m place bodies)) (SurfaceJoinAt m place) ++ DepthJoinAt m place ∷ nodes_in_each bodies)
        (λ is. (let no : ForkAt m place ≡ ResumeAt l at arguments = is in cc))
        (both (where_so (is_instant (Cobegin m place bodies)) (SurfaceJoinAt m place)) (DepthJoinAt m place ∷ nodes_in_each bodies)
        (where_one (is_instant (Cobegin m place bodies)) (SurfaceJoinAt m place)
        (λ is. (let no : SurfaceJoinAt m place ≡ ResumeAt l at arguments = is in cc)))
        (behind (DepthJoinAt m place) (nodes_in_each bodies) (λ is. (let no : DepthJoinAt m place ≡ ResumeAt l at arguments = is in cc)) (of_bodies bodies)))
        has
    of_plain (When m place guard e body) has =
        behind (StartAt m place)
        (where_so (are_instant body) (SurfaceEndAt m place) ++ CheckAt m place e ∷ DepthEndAt m place ∷ nodes_in body)
        (λ is. (let no : StartAt m place ≡ ResumeAt l at arguments = is in cc))
        (both (where_so (are_instant body) (SurfaceEndAt m place)) (CheckAt m place e ∷ DepthEndAt m place ∷ nodes_in body)
        (where_one (are_instant body) (SurfaceEndAt m place) (λ is. (let no : SurfaceEndAt m place ≡ ResumeAt l at arguments = is in cc)))
        (behind (CheckAt m place e) (DepthEndAt m place ∷ nodes_in body) (λ is. (let no : CheckAt m place e ≡ ResumeAt l at arguments = is in cc))
        (behind (DepthEndAt m place) (nodes_in body) (λ is. (let no : DepthEndAt m place ≡ ResumeAt l at arguments = is in cc)) (of_block body))))
        has
    of_plain (Repeat m place body) has =
        behind (HeadAt m place) (nodes_in body) (λ is. (let no : HeadAt m place ≡ ResumeAt l at arguments = is in cc)) (of_block body) has
    of_plain (Until m place body e) has =
        behind (HeadAt m place) (TestAt m place e ∷ nodes_in body) (λ is. (let no : HeadAt m place ≡ ResumeAt l at arguments = is in cc))
        (behind (TestAt m place e) (nodes_in body) (λ is. (let no : TestAt m place e ≡ ResumeAt l at arguments = is in cc)) (of_block body)) has
    of_plain (While m place e body) has =
        behind (TestAt m place e) (nodes_in body) (λ is. (let no : TestAt m place e ≡ ResumeAt l at arguments = is in cc)) (of_block body) has
    of_plain (Again m place body e) has =
        behind (HeadAt m place) (TestAt m place e ∷ nodes_in body) (λ is. (let no : HeadAt m place ≡ ResumeAt l at arguments = is in cc))
        (behind (TestAt m place e) (nodes_in body) (λ is. (let no : TestAt m place e ≡ ResumeAt l at arguments = is in cc)) (of_block body)) has

    of_block : (body : Block) → Ends (nodes_in body) → Starts (nodes_in body)
    of_block Done has = nothing has
    of_block (Then s rest) has = both (nodes_of s) (nodes_in rest) (of_plain s) (of_block rest) has

    of_bodies : (bodies : Bodies) → Ends (nodes_in_each bodies) → Starts (nodes_in_each bodies)
    of_bodies Last has = nothing has
    of_bodies (BodyOf weak body rest) has = both (nodes_in body) (nodes_in_each rest) (of_block body) (of_bodies rest) has

-- ---- names under a `prev`

same_named : (copied : ℕ → Bool) (layer : StmtKind-F StmtKind Arm Branch Stmt) → act_copied copied layer ≡ true → act_named copied layer ≡ true
same_named copied (StmtKind-F.Return (Some e)) is = is
same_named copied (StmtKind-F.Return None) is = refl
same_named copied (StmtKind-F.Declare j initial) is = is
same_named copied (StmtKind-F.Assign path e) is = is
same_named copied (StmtKind-F.Call f inputs outputs) is = is
same_named copied (StmtKind-F.Await e) is = refl
same_named copied (StmtKind-F.Run target f inputs outputs) is = refl
same_named copied (StmtKind-F.If arms other) is = refl
same_named copied (StmtKind-F.Cobegin branches) is = refl
same_named copied (StmtKind-F.When guard e body) is = refl
same_named copied (StmtKind-F.Repeat body) is = refl
same_named copied (StmtKind-F.Until body e) is = refl
same_named copied (StmtKind-F.While e body) is = refl

-- ---- lists

-- what is copied is named under a `prev`
copied_named : (unit : UnitDef) (x : ℕ) → x < length unit.vars → is_copied (copies_of unit) x ≡ true → list_any (nat_eq x) (prevs_of unit) ≡ true
copied_named unit x less on =
    sym (ap (λ o. unwrap_or o false)
    (get_mapped (λ k. list_any (nat_eq k) (prevs_of unit)) (up_to (length unit.vars)) x x (get_up_to (length unit.vars) x less))) ∙ on

scalar_there : (o : Option Var) (var : Var) → o ≡ Some var → is_scalar_var o ≡ true → is_some (scalar_in var.ty) ≡ true
scalar_there None var is scalar = absurd (cc)
scalar_there (Some v) var is scalar = ap (λ (v : Var). is_some (scalar_in v.ty)) (sym (same_Some v var is)) ∙ scalar

module _ (structs : List StructDef) (units : List UnitDef) (entry k : ℕ) (a : Activity) (keeps : IsWellTyped structs units entry)
    (there : slice_get units k ≡ Some a.unit)
    (nodes : (slots : Slots) (body : Block) → map (λ (rule : Transition). rule.node) (rules slots body) ≡ nodes_in body)
    (copied_so : NodesCopied) (runs : RunsCopied) (scalar : PrevsAreScalar) where
  abbrev mine : ℕ → Bool
  mine = is_copied (copies_of a.unit)

  node_there : (rule : Transition) → Contains (rules_at a) rule → Contains (nodes_in (plain_body a.unit.body)) rule.node
  node_there rule has =
      subst (λ ns. Contains ns rule.node) (nodes a.slots (plain_body a.unit.body)) (contains_mapped (λ (rule : Transition). rule.node) (rules_at a) rule has)

  node_copied : (n : Node) → Contains (nodes_in (plain_body a.unit.body)) n → copied_there mine n ≡ true
  node_copied n has =
      let at = index_of (nodes_in (plain_body a.unit.body)) n has in
      copied_so structs units entry k at.0 a.unit n keeps there at.1

  stand : RunsStand units
  stand = runs structs units entry keeps

  named : (n : Node) → Contains (nodes_in (plain_body a.unit.body)) n → named_there mine n ≡ true
  named (ActAt l s) has = same_named mine (out-StmtKind (out-Stmt s).what) (node_copied (ActAt l s) has)
  named (TestAt l at e) has = node_copied (TestAt l at e) has
  named (CheckAt l at e) has = node_copied (CheckAt l at e) has
  named (EnterAt l at arguments) has = stand.inputs k a.unit l at arguments there has
  named (ResumeAt l at arguments) has =
      stand.inputs k a.unit l at arguments there (of_block l at arguments (plain_body a.unit.body) has)
  named (PauseAt l at) has = refl
  named (HeadAt l at) has = refl
  named (StartAt l at) has = refl
  named (SurfaceEndAt l at) has = refl
  named (DepthEndAt l at) has = refl
  named (ForkAt l at) has = refl
  named (SurfaceJoinAt l at) has = refl
  named (DepthJoinAt l at) has = refl

  pub copies-suffice : CopiesSuffice a
  copies-suffice = record {
    named = λ rule has. named rule.node (node_there rule has);
    scalars = λ x var on found.
        scalar_there (slice_get a.unit.vars x) var found
        (scalar structs units entry k x a.unit keeps there (copied_named a.unit x (slice_get_within a.unit.vars x var found) on));
  }
