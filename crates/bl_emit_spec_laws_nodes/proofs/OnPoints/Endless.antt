-- No pass ends an activity whose last statement is a `repeat` without a condition.
use Rattle.std.proofs.Common.{◌≡◌, ℕ, Bool, true, false, ◌||◌, List, Some, refl, sym, ◌∙◌, subst}
use Rattle.std.proofs.lemmas.Option.{same_Some}
use Rattle.std.specs.List.{list_any}
use Rattle.std.proofs.lemmas.Bool.{or_from}
use Rattle.bl_tree.proofs.Basics.{true_and_false}
use Rattle.bl_tree.specs.declared.tree.Unit.{Unit as UnitDef}
use Rattle.bl_tree.specs.declared.value.Value.{Value}
use Rattle.bl_graph_nodes.specs.Nodes.{Node}
use Rattle.bl_ctree.specs.Instances.{Setting, unit_at}
use Rattle.bl_ctree.specs.Store.{Store}
use Rattle.bl_machine.specs.Uses.{Slots}
use Rattle.bl_machine_pass.specs.Registers.{Registers, after_rule, all_changed}
use Rattle.bl_machine_pass.specs.Transitions.{Change, Transition}
use Rattle.bl_machine_pass_laws_execution.specs.Executes as executes
use Rattle.bl_machine_pass_laws_execution.specs.Executes.{Executes, HasRule}
use Rattle.bl_machine_pass_laws_execution.specs.Frames.{Frames}
use Rattle.bl_emit_spec.specs.Blocks.{unit_may_end}
use Rattle.bl_emit_spec_laws.specs.Registers.Laws.{ends_body}
use Rattle.bl_emit_spec_laws.proofs.OnOwn.Endless.{quiet_sides, unit_quiet}
use Rattle.bl_emit_spec_laws.proofs.OnOwn.Quiet.{is_quiet}
use Rattle.bl_emit_spec_laws_nodes.proofs.OnPoints.Silent.{over_after}

-- ---- changes

stays_open : (number : Node → ℕ) (changes : List Change) (r : Registers) → list_any ends_body changes ≡ false → r.over ≡ false →
    (all_changed number changes r).over ≡ false
stays_open number changes r quiet going = by (all_changed number changes r).over (over_after number changes r)
  where
    by : (over : Bool) → (over ≡ true → (r.over || list_any ends_body changes) ≡ true) → over ≡ false
    by true h = absurd (true_and_false (r.over || list_any ends_body changes) (h refl) (or_from r.over (list_any ends_body changes) going quiet))
    by false h = refl

rule_open : (number : Node → ℕ) (rule : Transition) (answer : Bool) (r : Registers) → is_quiet rule ≡ true → r.over ≡ false →
    (after_rule number rule answer r).over ≡ false
rule_open number rule true r quiet going = stays_open number rule.on_true r (quiet_sides rule quiet).0 going
rule_open number rule false r quiet going = stays_open number rule.on_false r (quiet_sides rule quiet).1 going

-- ---- passes

module _ (w : Setting) (rank : ℕ → Node → ℕ) (slots : ℕ → Slots) (clear : ℕ → Frames → Frames) (unit : UnitDef) (never : unit_may_end unit ≡ false) where
  -- an instance of the unit that hasn't ended doesn't end in a pass
  pub pass_open : {i k : ℕ} {frames : Frames} {store : Store} {copies : List Value} {r : Registers} {frames' : Frames} {left : Store} {r' : Registers} →
      unit_at w i ≡ Some unit → Executes w rank slots clear i k frames store copies r frames' left r' → r.over ≡ false → r'.over ≡ false
  pass_open is (executes.ends of below) going = going
  pass_open is (executes.skips of due more) going = pass_open is more going
  pass_open is (executes.acts {i = i} {r = r} {answer = answer} {unit = other} of rule has at due alone sees performs more) going =
      pass_open is more
      (rule_open (rank i) rule answer r
      (unit_quiet (slots i) unit rule never (subst (λ (unit : UnitDef). HasRule slots i unit rule) (same_Some other unit (sym of ∙ is)) has)) going)
