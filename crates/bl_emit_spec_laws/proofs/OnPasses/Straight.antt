-- Nodes that go straight on: acts and heads of loops.
use Rattle.std.proofs.Common.{◌≡◌, ℕ, Bool, true, false, List, [], ◌∷◌, Option, Some, None, append-nil, refl, sym, ap}
use Rattle.std.proofs.lemmas.Option.{same_Some}
use Rattle.std.specs.Prelude.{option_map}
use Rattle.bl_graph_nodes.specs.Nodes.{ActAt, CheckAt, DepthEndAt, DepthJoinAt, EnterAt, ForkAt, HeadAt, Node, PauseAt, ResumeAt, StartAt, SurfaceEndAt}
use Rattle.bl_graph_nodes.specs.Nodes.{SurfaceJoinAt, TestAt}
use Rattle.bl_ctree.specs.Actions.{Performed, done as performed}
use Rattle.bl_ctree.specs.Store.{Store}
use Rattle.bl_machine.specs.Blocks.{goes_straight}
use Rattle.bl_machine_pass.specs.Transitions.{Transition}
use Rattle.bl_emit_spec.specs.Blocks.{ActivityView, NodeCode, acted, node_code, own_code}
use Rattle.bl_emit_spec_laws.specs.Calls.Laws.{shown_rule}

-- whether no others stand behind a turn in its block
abbrev pub is_last : List NodeCode → Bool
is_last [] = true
is_last (t ∷ ts) = false

-- what an act or a head does itself is all that it does by a rule without changes
pub own_alone : (view : ActivityView) (u : ℕ) (rule : Transition) (n : Node) → goes_straight n ≡ true →
    node_code view u (shown_rule false rule) n ≡ own_code view u rule n
own_alone view u rule (ActAt l s) straight = append-nil (acted view s)
own_alone view u rule (HeadAt l at) straight = refl
own_alone view u rule (TestAt l at e) straight = absurd (cc)
own_alone view u rule (PauseAt l at) straight = absurd (cc)
own_alone view u rule (EnterAt l at arguments) straight = absurd (cc)
own_alone view u rule (ResumeAt l at arguments) straight = absurd (cc)
own_alone view u rule (StartAt l at) straight = absurd (cc)
own_alone view u rule (CheckAt l at e) straight = absurd (cc)
own_alone view u rule (SurfaceEndAt l at) straight = absurd (cc)
own_alone view u rule (DepthEndAt l at) straight = absurd (cc)
own_alone view u rule (ForkAt l at) straight = absurd (cc)
own_alone view u rule (SurfaceJoinAt l at) straight = absurd (cc)
own_alone view u rule (DepthJoinAt l at) straight = absurd (cc)

-- an act and a head answer true
pub answers_true : (o : Option Store) (answer : Bool) (left : Store) → option_map performed o ≡ Some (record { answer = answer; store = left }) → answer ≡ true
answers_true None answer left is = absurd (cc)
answers_true (Some s) answer left is =
    ap (λ (p : Performed). p.answer) (sym (same_Some (performed s) (record { answer = answer; store = left }) is))
