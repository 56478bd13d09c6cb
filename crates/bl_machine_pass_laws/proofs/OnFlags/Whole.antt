-- The flag of a node that could stand in one block with the node before it is set by the rule of that one alone.
use Rattle.std.proofs.Common.{◌≡◌, ◌⊎◌, inl, inr, zero, suc, true, false, List, [], ◌∷◌, Contains, ap, sym, subst, ◌∙◌, arith}
use Rattle.bl_graph_nodes.specs.Nodes.{Node}
use Rattle.bl_graph_nodes.specs.Plain.{Block}
use Rattle.bl_graph.specs.Edges.{EdgeAll, OutAll}
use Rattle.bl_machine.specs.Blocks.{CouldFollow, goes_straight}
use Rattle.bl_machine.specs.Uses.{Slots}
use Rattle.bl_machine_pass.specs.Transitions.{Change, Finishes, Transition, rules}
use Rattle.bl_machine_pass_laws.specs.Flags.{FlagsAreReached, FlagsComeFromBefore, MayFlag}
use Rattle.bl_machine_pass_laws.proofs.OnFlags.Leading.{AllChanges, AllLed, Led, RuleLed, of_block}

change_at : (P : Change → Type 0) (changes : List Change) (change : Change) → AllChanges P changes → Contains changes change → P change
change_at P [] change all has = let less = has.1 in absurd (omega (arith, less))
change_at P (c ∷ rest) change all (zero, within, is) = subst P is all.0
change_at P (c ∷ rest) change all (suc k, within, is) = change_at P rest change all.1 (k, omega arith, is)

rule_at : (E : Node → Node → Type 0) (O : Node → Type 0) (next : Change) (some : List Transition) (rule : Transition) → AllLed E O next some →
    Contains some rule → RuleLed E O next rule
rule_at E O next [] rule all has = let less = has.1 in absurd (omega (arith, less))
rule_at E O next (r ∷ rest) rule all (zero, within, is) = subst (RuleLed E O next) is all.0
rule_at E O next (r ∷ rest) rule all (suc k, within, is) = rule_at E O next rest rule all.1 (k, omega arith, is)

module _ (slots : Slots) (body : Block) (n m : Node) (rule : Transition) (follow : CouldFollow body n m) where
  abbrev P : Change → Type 0
  P = λ change. (m : Node) → MayFlag change m → Led (EdgeAll body) (OutAll body) Finishes rule.node m

  -- what leads to m is n, and an act or a head
  by_led : Led (EdgeAll body) (OutAll body) Finishes rule.node m → rule.node ≡ n
  by_led led = by led.edge led.own
    where
      by : EdgeAll body led.via m ⊎ (OutAll body led.via × MayFlag Finishes m) → (rule.node ≡ led.via) ⊎ (goes_straight led.via ≡ false) →
          rule.node ≡ n
      by (inl edge) (inl own) = own ∙ follow.alone led.via edge
      by (inl edge) (inr other) =
          absurd (differ (sym follow.straight ∙ ap goes_straight (sym (follow.alone led.via edge)) ∙ other))
        where
          differ : true ≡ false → ⊥
          differ h = cc
      by (inr out) own = absurd out.1

  pub only_before : (change : Change) → Contains (rules slots body) rule → Contains rule.on_true change ⊎ Contains rule.on_false change →
      MayFlag change m → rule.node ≡ n
  only_before change there among flags = by among
    where
      led : RuleLed (EdgeAll body) (OutAll body) Finishes rule
      led = rule_at (EdgeAll body) (OutAll body) Finishes (rules slots body) rule (of_block slots body Finishes) there

      by : Contains rule.on_true change ⊎ Contains rule.on_false change → rule.node ≡ n
      by (inl on_true) = by_led (change_at P rule.on_true change led.on_true on_true m flags)
      by (inr on_false) = by_led (change_at P rule.on_false change led.on_false on_false m flags)

pub flags_before : FlagsComeFromBefore
flags_before slots body n m rule change follow there among flags = only_before slots body n m rule follow change there among flags

pub flags_reached : FlagsAreReached
flags_reached slots body m rule change there among flags = by among
  where
    found : Led (EdgeAll body) (OutAll body) Finishes rule.node m → (via : Node) × EdgeAll body via m
    found led = of_edge led.edge
      where
        of_edge : EdgeAll body led.via m ⊎ (OutAll body led.via × MayFlag Finishes m) → (via : Node) × EdgeAll body via m
        of_edge (inl edge) = (led.via, edge)
        of_edge (inr out) = absurd out.1

    of_rule : RuleLed (EdgeAll body) (OutAll body) Finishes rule
    of_rule = rule_at (EdgeAll body) (OutAll body) Finishes (rules slots body) rule (of_block slots body Finishes) there

    by : Contains rule.on_true change ⊎ Contains rule.on_false change → (via : Node) × EdgeAll body via m
    by (inl on_true) =
        found (change_at (λ c. (m : Node) → MayFlag c m → Led (EdgeAll body) (OutAll body) Finishes rule.node m) rule.on_true change of_rule.on_true on_true m flags)
    by (inr on_false) =
        found
        (change_at (λ c. (m : Node) → MayFlag c m → Led (EdgeAll body) (OutAll body) Finishes rule.node m)
        rule.on_false change of_rule.on_false on_false m flags)
