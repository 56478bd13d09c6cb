-- The `if`s of blocks by positions of rules are those of the turns of their nodes.
use Rattle.std.proofs.Common.{◌≡◌, ◌∙◌, ℕ, zero, suc, Bool, true, false, List, [], ◌∷◌, ◌++◌, Option, Some, None, map, refl, ap, sym, drop, slice_get}
use Rattle.std.proofs.lemmas.List.{append_assoc}
use Rattle.std.proofs.lemmas.Option.{same_Some, slice_get-map}
use Rattle.std.specs.Prelude.{is_some, option_and_then, option_map, option_to_list, if◌then◌else◌}
use Rattle.bl_tree.specs.declared.c.CStmt.{CStmt}
use Rattle.bl_emit_functions.specs.Trees.{c_if}
use Rattle.bl_machine_transitions.specs.Told.{NumberedTransition, rule_in}
use Rattle.bl_machine_transitions.specs.declared.transition.Transition.{Transition as Kept}
use Rattle.bl_emit_spec.specs.Activities.{blocks_code, picked}
use Rattle.bl_emit_spec.specs.Blocks.{ActivityView, NodeCode, all_merged, entered_by, first_turn, fused_code, last_turn, leaving_flag, merged_code}
use Rattle.bl_emit_spec.specs.Blocks.{next_turn, same_run}
use Rattle.bl_emit_blocks.specs.Merging.{all_at, control_where, first_at, last_behind, left_at, left_where, merged_at, merged_where, next_at, own_at, own_where}
use Rattle.bl_emit_blocks.specs.Merging.{rule_or}
use Rattle.bl_emit_blocks.specs.Numbered.{numbered_own, numbered_turn}

-- the rule at a position
pub rule_is : (rules : List Kept) (seen : Option Kept) (k : ℕ) → seen ≡ slice_get rules k → option_map rule_in seen ≡ slice_get (map rule_in rules) k
rule_is rules seen k is = ap (option_map rule_in) is ∙ sym (slice_get-map rule_in rules k)

-- the first rule of the block at a position
pub next_is : (rules : List NumberedTransition) (blocks : List (List ℕ)) (k : ℕ) →
    next_at rules (drop k blocks) ≡ option_and_then (first_at rules) (slice_get blocks k)
next_is rules [] zero = refl
next_is rules [] (suc k) = refl
next_is rules (block ∷ rest) zero = refl
next_is rules (block ∷ rest) (suc k) = next_is rules rest k

module _ (view : ActivityView) (rules : List NumberedTransition) where
  abbrev turn : NumberedTransition → NodeCode
  turn = numbered_turn view

  abbrev turns : List NodeCode
  turns = map turn rules

  -- what is picked at a position and those behind it
  turn_at : (k : ℕ) (block : List ℕ) → picked turns (k ∷ block) ≡ option_to_list (option_map turn (slice_get rules k)) ++ picked turns block
  turn_at k block = ap (λ (seen : Option NodeCode). option_to_list seen ++ picked turns block) (slice_get-map turn rules k)

  -- ---- the first and the last node

  first_is : (block : List ℕ) → first_turn (picked turns block) ≡ option_map turn (first_at rules block)
  first_is [] = refl
  first_is (k ∷ block) = ap first_turn (turn_at k block) ∙ by (slice_get rules k) (first_is block)
    where
      by : (seen : Option NumberedTransition) → first_turn (picked turns block) ≡ option_map turn (first_at rules block) →
          first_turn (option_to_list (option_map turn seen) ++ picked turns block) ≡ option_map turn (rule_or seen (first_at rules block))
      by None more = more
      by (Some rule) more = refl

  last_is : (rule : NumberedTransition) (block : List ℕ) →
      option_map turn (last_behind rules (Some rule) block) ≡ Some (last_turn (turn rule) (picked turns block))
  last_is rule [] = refl
  last_is rule (k ∷ block) =
      by (slice_get rules k) (λ rule. last_is rule block) ∙ ap (λ (some : List NodeCode). Some (last_turn (turn rule) some)) (sym (turn_at k block))
    where
      by : (seen : Option NumberedTransition) →
          ((rule : NumberedTransition) → option_map turn (last_behind rules (Some rule) block) ≡ Some (last_turn (turn rule) (picked turns block))) →
          option_map turn (last_behind rules (rule_or seen (Some rule)) block)
          ≡ Some (last_turn (turn rule) (option_to_list (option_map turn seen) ++ picked turns block))
      by None more = more rule
      by (Some next) more = more next

  -- ---- what is left

  next_turn_is : (blocks : List (List ℕ)) → next_turn (map (picked turns) blocks) ≡ option_map turn (next_at rules blocks)
  next_turn_is [] = refl
  next_turn_is (block ∷ rest) = first_is block

  left_is : (block : List ℕ) (next : Option NumberedTransition) → left_at rules block next ≡ leaving_flag (picked turns block) (option_map turn next)
  left_is [] None = refl
  left_is [] (Some next) = refl
  left_is (k ∷ block) next =
      by (slice_get rules k) (left_is block next) ∙ ap (λ (some : List NodeCode). leaving_flag some (option_map turn next)) (sym (turn_at k block))
    where
      between : (rule : NumberedTransition) (last : Option NumberedTransition) (next : Option NumberedTransition) →
          option_map turn last ≡ Some (last_turn (turn rule) (picked turns block)) →
          left_where (Some rule) last next ≡ leaving_flag (turn rule ∷ picked turns block) (option_map turn next)
      between rule None next is = absurd (cc)
      between rule (Some last) None is = refl
      between rule (Some last) (Some next) is =
          ap (λ (end : NodeCode). if same_run end.run (turn next).run then (turn rule).flag else None) (same_Some (turn last) _ is)

      by : (seen : Option NumberedTransition) → left_at rules block next ≡ leaving_flag (picked turns block) (option_map turn next) →
          left_where (rule_or seen (first_at rules block)) (last_behind rules (rule_or seen None) block) next
          ≡ leaving_flag (option_to_list (option_map turn seen) ++ picked turns block) (option_map turn next)
      by None more = more
      by (Some rule) more = between rule (last_behind rules (Some rule) block) next (last_is rule block)

  -- ---- `if`s

  fused_is : (leaves : Bool) (rule : NumberedTransition) (block : List ℕ) →
      numbered_own view rule rule.task ++ (own_at view rules block ++ control_where view leaves (last_behind rules (Some rule) block))
      ≡ fused_code leaves (turn rule) (picked turns block)
  fused_is true rule [] = refl
  fused_is false rule [] = refl
  fused_is leaves rule (k ∷ block) =
      by (slice_get rules k) (λ rule. fused_is leaves rule block) ∙ ap (fused_code leaves (turn rule)) (sym (turn_at k block))
    where
      by : (seen : Option NumberedTransition) →
          ((rule : NumberedTransition) →
          numbered_own view rule rule.task ++ (own_at view rules block ++ control_where view leaves (last_behind rules (Some rule) block))
          ≡ fused_code leaves (turn rule) (picked turns block)) →
          numbered_own view rule rule.task
          ++ ((own_where view seen ++ own_at view rules block) ++ control_where view leaves (last_behind rules (rule_or seen (Some rule)) block))
          ≡ fused_code leaves (turn rule) (option_to_list (option_map turn seen) ++ picked turns block)
      by None more = more rule
      by (Some next) more =
          ap (λ (code : List CStmt). numbered_own view rule rule.task ++ code)
          (append_assoc (numbered_own view next next.task) (own_at view rules block) (control_where view leaves (last_behind rules (Some next) block))
          ∙ more next)

  merged_is : (before : Option ℕ) (leaves : Bool) (block : List ℕ) →
      merged_at view before leaves rules block ≡ merged_code view.word before leaves (picked turns block)
  merged_is before leaves [] = refl
  merged_is before leaves (k ∷ block) =
      by (slice_get rules k) (merged_is before leaves block) ∙ ap (merged_code view.word before leaves) (sym (turn_at k block))
    where
      by : (seen : Option NumberedTransition) → merged_at view before leaves rules block ≡ merged_code view.word before leaves (picked turns block) →
          merged_where view before (rule_or seen (first_at rules block))
          ((own_where view seen ++ own_at view rules block) ++ control_where view leaves (last_behind rules (rule_or seen None) block))
          ≡ merged_code view.word before leaves (option_to_list (option_map turn seen) ++ picked turns block)
      by None more = more
      by (Some rule) more =
          ap (λ (code : List CStmt). c_if (entered_by view.word before (turn rule).test) code None ∷ [])
          (append_assoc (numbered_own view rule rule.task) (own_at view rules block) (control_where view leaves (last_behind rules (Some rule) block))
          ∙ fused_is leaves rule block)

  all_merged_are : (before : Option ℕ) (blocks : List (List ℕ)) → all_at view before rules blocks ≡ all_merged view.word before (map (picked turns) blocks)
  all_merged_are before [] = refl
  all_merged_are before (block ∷ rest) =
      let left = left_is block (next_at rules rest) ∙ ap (leaving_flag (picked turns block)) (sym (next_turn_is rest)) in
      ap (λ (left : Option ℕ). merged_at view before (is_some left) rules block ++ all_at view left rules rest) left
      ∙ (λ i. merged_is before (is_some (leaving_flag (picked turns block) (next_turn (map (picked turns) rest)))) block i
      ++ all_merged_are (leaving_flag (picked turns block) (next_turn (map (picked turns) rest))) rest i)

  -- the `if`s of all blocks
  pub all_are : (blocks : List (List ℕ)) → all_at view None rules blocks ≡ blocks_code view.word turns blocks
  all_are = all_merged_are None
