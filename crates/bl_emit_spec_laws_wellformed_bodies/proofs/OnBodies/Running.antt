-- Both nodes of a `run` belong to one of the `run`s of the activity.
use Rattle.std.proofs.Common.{◌≡◌, ℕ, suc, List, [], ◌∷◌, map, Some, refl, sym, ap, ◌∙◌}
use Rattle.std.specs.Prelude.{Contains, slice_get, ⊤}
use Rattle.bl_tree.proofs.Basics.{get_mapped}
use Rattle.bl_tree.specs.declared.place.Place.{Place}
use Rattle.bl_tree.specs.declared.tree.StructDef.{StructDef}
use Rattle.bl_tree.specs.declared.tree.Unit.{Unit as UnitDef}
use Rattle.bl_tree.specs.Program.{IsWellTyped}
use Rattle.bl_graph_nodes.specs.Nodes.{ActAt, CheckAt, DepthEndAt, DepthJoinAt, EnterAt, ForkAt, HeadAt, Node, PauseAt, ResumeAt, StartAt}
use Rattle.bl_graph_nodes.specs.Nodes.{SurfaceEndAt, SurfaceJoinAt, TestAt, entry, nodes_in}
use Rattle.bl_graph_nodes.specs.Plain.{Block, Plain}
use Rattle.bl_machine.specs.Uses.{Slots}
use Rattle.bl_machine_pass.specs.Transitions.{Flagged, Transition, rules}
use Rattle.bl_machine_transitions.specs.Callees.{callees_in}
use Rattle.bl_emit_spec.specs.Activities.{Activity, RunAt, activity_view, body_of, rules_at, runs_in_body}
use Rattle.bl_emit_spec_laws.proofs.OnRunPlaces.Sharing.{resumed_kept, run_kept}

-- what holds of each pair of a list of callees and one of rules
abbrev pub Pairs : (ℕ → Transition → Type 0) → List ℕ → List Transition → Type 0
Pairs P [] rules = ⊤
Pairs P (a ∷ callees) [] = ⊤
Pairs P (a ∷ callees) (rule ∷ rules) = P a rule × Pairs P callees rules

-- what holds at each position holds of all pairs
pairs-at : (P : ℕ → Transition → Type 0) (callees : List ℕ) (rules : List Transition) →
    ((p u : ℕ) (rule : Transition) → slice_get callees p ≡ Some u → slice_get rules p ≡ Some rule → P u rule) → Pairs P callees rules
pairs-at P [] rules each = tt
pairs-at P (a ∷ callees) [] each = tt
pairs-at P (a ∷ callees) (rule ∷ rules) each =
    (each 0 a rule refl refl, pairs-at P callees rules (λ p u other one two. each (suc p) u other one two))

module _ (run : Place → ℕ) (runs : List RunAt) where
  -- a node of a `run` that calls this activity has one of the `run`s, by its place
  abbrev pub HasRun : ℕ → Node → Type 0
  HasRun a (EnterAt l at arguments) = Contains runs (record { place = at; number = run at; unit = a })
  HasRun a (ResumeAt l at arguments) = Contains runs (record { place = at; number = run at; unit = a })
  HasRun a _ = ⊤

  abbrev pub RuleRuns : ℕ → Transition → Type 0
  RuleRuns a rule = HasRun a rule.node

module _ (nodes : (slots : Slots) (body : Block) → map (λ (rule : Transition). rule.node) (rules slots body) ≡ nodes_in body) (a : Activity)
    (structs : List StructDef) (units : List UnitDef) (entry : ℕ) (keeps : IsWellTyped structs units entry) (k : ℕ)
    (there : slice_get units k ≡ Some a.unit) where
  has-run : (p u : ℕ) (n : Node) → slice_get (nodes_in (body_of a)) p ≡ Some n → slice_get (callees_in (body_of a)) p ≡ Some u →
      HasRun (activity_view a).run (runs_in_body a) u n
  has-run p u (EnterAt l at arguments) node callee = run_kept nodes a structs units entry keeps k there p u l at arguments node callee
  has-run p u (ResumeAt l at arguments) node callee = resumed_kept nodes a structs units entry keeps k there p u l at arguments node callee
  has-run p u (ActAt l s) node callee = tt
  has-run p u (TestAt l at e) node callee = tt
  has-run p u (PauseAt l at) node callee = tt
  has-run p u (HeadAt l at) node callee = tt
  has-run p u (StartAt l at) node callee = tt
  has-run p u (CheckAt l at e) node callee = tt
  has-run p u (SurfaceEndAt l at) node callee = tt
  has-run p u (DepthEndAt l at) node callee = tt
  has-run p u (ForkAt l at) node callee = tt
  has-run p u (SurfaceJoinAt l at) node callee = tt
  has-run p u (DepthJoinAt l at) node callee = tt

  -- the rules of a body, each with the activity that its node calls
  pub body-runs : Pairs (RuleRuns (activity_view a).run (runs_in_body a)) (callees_in (body_of a)) (rules_at a)
  body-runs =
      pairs-at (RuleRuns (activity_view a).run (runs_in_body a)) (callees_in (body_of a)) (rules_at a)
      (λ p u rule callee is.
      has-run p u rule.node
      (ap (λ (ns : List Node). slice_get ns p) (sym (nodes a.slots (body_of a))) ∙ get_mapped (λ (rule : Transition). rule.node) (rules_at a) p rule is)
      callee)

-- ---- the entry

-- the node at which a statement begins waits by its flag
pub record Begins (slots : Slots) (s : Plain) (rules : List Transition) : Type 0 where
  pub rule : Transition
  pub there : Contains rules rule
  pub node : rule.node ≡ entry s
  pub condition : rule.condition ≡ Flagged
