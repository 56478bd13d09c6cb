-- No rule of an activity whose last statement is a `repeat` without a condition ends its body.
use Rattle.std.proofs.Common.{◌≡◌, inl, inr, ◌⊎◌, ℕ, zero, suc, arith, Bool, true, false, not, List, [], ◌∷◌, ◌++◌}
use Rattle.std.proofs.Common.{Contains, map, refl, sym, ap, ◌∙◌, subst}
use Rattle.std.specs.List.{list_all, list_any}
use Rattle.std.proofs.lemmas.Bool.{not-false, not-true}
use Rattle.bl_tree.proofs.Basics.{and_first, and_second, any_from}
use Rattle.bl_tree.specs.declared.place.Place.{Place}
use Rattle.bl_tree.specs.declared.tree.Arm.{Arm}
use Rattle.bl_tree.specs.declared.tree.Branch.{Branch}
use Rattle.bl_tree.specs.declared.tree.Stmt.{Stmt, fold-roll-Stmt, out-Stmt, roll-Stmt, roll-out-Stmt}
use Rattle.bl_tree.specs.declared.tree.StmtKind.{StmtKind, fold-roll-StmtKind, out-StmtKind, roll-out-StmtKind}
use Rattle.bl_tree.specs.declared.tree.StmtKind.TheOpen.{StmtKind-F}
use Rattle.bl_tree.specs.declared.tree.Unit.{Unit as UnitDef}
use Rattle.bl_tree.specs.Returns.{last_of}
use Rattle.bl_tree.proofs.StmtInduction.{stmt}
use Rattle.bl_graph_nodes.specs.Nodes.{HeadAt}
use Rattle.bl_graph_nodes.specs.Plain.{Block, Label, Plain, Position, Repeat, block_at, block_from, inside, label_at, plain_body, plain_stmt}
use Rattle.bl_machine.specs.Uses.{Slots}
use Rattle.bl_machine_pass.specs.Transitions.{Change, Finishes, SetsFlag, Transition, enter, rules, rules_in, rules_of}
use Rattle.bl_emit_spec.specs.Blocks.{is_endless, layer_endless, unit_may_end}
use Rattle.bl_emit_spec_laws.specs.Registers.Laws.{ends_body}
use Rattle.bl_emit_spec_laws.proofs.OnOwn.Quiet.{Quiet, is_quiet, quiet_both, quiet_of}
use Rattle.bl_emit_spec_laws.proofs.OnOwn.Quiet.{no_rules}

-- ---- statements, by their layers

pub made_is : (s : Stmt) → stmt (out-Stmt s).place (out-StmtKind (out-Stmt s).what) ≡ s
made_is s =
    ap (λ (what : StmtKind). roll-Stmt (record { place = (out-Stmt s).place; what = what })) (roll-out-StmtKind (out-Stmt s).what) ∙ roll-out-Stmt s

-- ---- the rules of such a body

plain_repeat : (place : Place) (body : List Stmt) (at : Position) → plain_stmt (stmt place (StmtKind-F.Repeat body)) at
    ≡ Repeat (label_at at) place (block_at (map plain_stmt body) (inside (label_at at) 0))
plain_repeat place body at = rw (fold-roll-Stmt, fold-roll-StmtKind) refl

-- what follows a `repeat` without a condition isn't in its rules
loop_quiet : (slots : Slots) (l : Label) (at : Place) (body : Block) (next : Change) → Quiet (rules_of slots (Repeat l at body) next)
loop_quiet slots l at body next = quiet_of slots (Repeat l at body) (SetsFlag (HeadAt l at)) refl

repeat_quiet : (slots : Slots) (place : Place) (body : List Stmt) (at : Position) (next : Change) →
    Quiet (rules_of slots (plain_stmt (stmt place (StmtKind-F.Repeat body)) at) next)
repeat_quiet slots place body at next =
    subst (λ (s : Plain). Quiet (rules_of slots s next)) (sym (plain_repeat place body at))
    (loop_quiet slots (label_at at) place (block_at (map plain_stmt body) (inside (label_at at) 0)) next)

last_quiet : (slots : Slots) (s : Stmt) (at : Position) (next : Change) → is_endless s ≡ true → Quiet (rules_of slots (plain_stmt s at) next)
last_quiet slots s at next h =
    subst (λ s. Quiet (rules_of slots (plain_stmt s at) next)) (made_is s) (by (out-StmtKind (out-Stmt s).what) h)
  where
    place : Place
    place = (out-Stmt s).place

    by : (layer : StmtKind-F StmtKind Arm Branch Stmt) → layer_endless layer ≡ true → Quiet (rules_of slots (plain_stmt (stmt place layer) at) next)
    by (StmtKind-F.Repeat body) h = repeat_quiet slots place body at next
    by (StmtKind-F.Declare k initial) h = absurd (cc)
    by (StmtKind-F.Assign path e) h = absurd (cc)
    by (StmtKind-F.Call f inputs outputs) h = absurd (cc)
    by (StmtKind-F.Await e) h = absurd (cc)
    by (StmtKind-F.Run target a inputs outputs) h = absurd (cc)
    by (StmtKind-F.If arms other) h = absurd (cc)
    by (StmtKind-F.Cobegin branches) h = absurd (cc)
    by (StmtKind-F.When guard e body) h = absurd (cc)
    by (StmtKind-F.Until body e) h = absurd (cc)
    by (StmtKind-F.While e body) h = absurd (cc)
    by (StmtKind-F.Return e) h = absurd (cc)

body_quiet : (slots : Slots) (body : List Stmt) (k : ℕ) (block : Position) → last_of (map is_endless body) ≡ true →
    Quiet (rules_in slots (block_from (map plain_stmt body) k block) Finishes)
body_quiet slots [] k block h = absurd (cc)
body_quiet slots (s ∷ []) k block h =
    quiet_both (rules_of slots (plain_stmt s (block ++ k ∷ [])) Finishes) [] (last_quiet slots s (block ++ k ∷ []) Finishes h) no_rules
body_quiet slots (s ∷ t ∷ rest) k block h =
    let more = block_from (map plain_stmt (t ∷ rest)) (suc k) block in
    quiet_both (rules_of slots (plain_stmt s (block ++ k ∷ [])) (enter more Finishes)) (rules_in slots more Finishes)
    (quiet_of slots (plain_stmt s (block ++ k ∷ [])) (enter more Finishes) refl) (body_quiet slots (t ∷ rest) (suc k) block h)

-- ---- rules that don't end the body

-- changes of which none ends the body, on either side
pub quiet_sides : (rule : Transition) → is_quiet rule ≡ true →
    (list_any ends_body rule.on_true ≡ false) × (list_any ends_body rule.on_false ≡ false)
quiet_sides rule quiet =
    let on_true = list_any ends_body rule.on_true in
    let on_false = list_any ends_body rule.on_false in
    (not-true on_true (and_first (not on_true) (not on_false) quiet), not-true on_false (and_second (not on_true) (not on_false) quiet))

quiet_at : (all : List Transition) (rule : Transition) → list_all is_quiet all ≡ true → Contains all rule → is_quiet rule ≡ true
quiet_at [] rule h there = let below = there.1 in absurd (omega arith)
quiet_at (first ∷ all) rule h (zero, within, is) =
    subst (λ (x : Transition). is_quiet x ≡ true) is (and_first (is_quiet first) (list_all is_quiet all) h)
quiet_at (first ∷ all) rule h (suc k, within, is) = quiet_at all rule (and_second (is_quiet first) (list_all is_quiet all) h) (k, omega arith, is)

-- no rule of a unit that never ends ends its body
pub unit_quiet : (slots : Slots) (unit : UnitDef) (rule : Transition) → unit_may_end unit ≡ false → Contains (rules slots (plain_body unit.body)) rule →
    is_quiet rule ≡ true
unit_quiet slots unit rule never there =
    quiet_at (rules slots (plain_body unit.body)) rule
    (body_quiet slots unit.body 0 [] (not-false (last_of (map is_endless unit.body)) never)).all there

none_ends : (changes : List Change) (change : Change) → list_any ends_body changes ≡ false → Contains changes change → ends_body change ≡ true → ⊥
none_ends changes change none among ends = let some = any_from ends_body changes change among ends in cc

-- a change that ends the body is one of a unit that may end
pub ends_of_unit : (slots : Slots) (unit : UnitDef) (rule : Transition) (change : Change) → Contains (rules slots (plain_body unit.body)) rule →
    Contains rule.on_true change ⊎ Contains rule.on_false change → ends_body change ≡ true → unit_may_end unit ≡ true
ends_of_unit slots unit rule change there among ends = by (unit_may_end unit) refl
  where
    by : (may : Bool) → unit_may_end unit ≡ may → may ≡ true
    by true is = refl
    by false never = absurd (no_end among)
      where
        quiet : (list_any ends_body rule.on_true ≡ false) × (list_any ends_body rule.on_false ≡ false)
        quiet = quiet_sides rule (unit_quiet slots unit rule never there)

        no_end : Contains rule.on_true change ⊎ Contains rule.on_false change → ⊥
        no_end (inl first) = none_ends rule.on_true change quiet.0 first ends
        no_end (inr last) = none_ends rule.on_false change quiet.1 last ends
