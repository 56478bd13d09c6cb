-- The numbers of nodes and of resting places are the same where units are shown.
use Rattle.std.proofs.Common.{◌≡◌, ℕ, zero, suc, ◌<◌, ◌≤◌, arith, Bool, true, false, List, [], ◌∷◌, cond, take, length, Option, Some, None, refl, sym, ap, ap₂}
use Rattle.std.proofs.Common.{◌∙◌, subst}
use Rattle.std.specs.Prelude.{slice_get, unwrap_or}
use Rattle.bl_tree.specs.declared.tree.Stmt.{Stmt}
use Rattle.bl_tree.specs.declared.tree.StructDef.{StructDef}
use Rattle.bl_tree.specs.declared.tree.Unit.{Unit as UnitDef}
use Rattle.bl_tree.specs.Reduce.{joined}
use Rattle.bl_tree.specs.Typing.{is_activity}
use Rattle.bl_cause.specs.Activities.{activities, graph_position}
use Rattle.bl_graph_nodes.specs.Nodes.{Node}
use Rattle.bl_graph_nodes.specs.Plain.{plain_body}
use Rattle.bl_machine.specs.declared.machine.Activity.{Activity as InMachine}
use Rattle.bl_machine_pass.specs.Numbered.{slots_of}
use Rattle.bl_emit_spec.specs.Activities.{node_number}
use Rattle.bl_emit_spec_laws.specs.Tables.Tables.{activities_of, no_part, no_unit}
use Rattle.bl_emit_file.proofs.OnShown.Machines.{machine_of, shown_position}
use Rattle.bl_emit_file.proofs.OnShown.Units.{Shown, same_body, shown_there}

-- ---- parts of the machine

taken_at : {A : Type 0} (n : ℕ) (xs : List A) (k : ℕ) → k < n → slice_get (take n xs) k ≡ slice_get xs k
taken_at zero xs k less = absurd (omega (arith, less))
taken_at (suc n) [] k less = refl
taken_at (suc n) (x ∷ xs) zero less = refl
taken_at (suc n) (x ∷ xs) (suc k) less = taken_at n xs k (omega (arith, less))

active_first : (unit : UnitDef) (rest : List UnitDef) → is_activity unit.kind ≡ true → 0 < length (activities (unit ∷ rest))
active_first unit rest active =
    subst (λ b. 0 < length (cond b (unit ∷ activities rest) (activities rest))) (sym active) (let it : 0 < suc (length (activities rest)) = omega arith in it)

position_less : {units shown : List UnitDef} {n : ℕ} → Shown units n shown → (unit : UnitDef) → slice_get units n ≡ Some unit →
    is_activity unit.kind ≡ true → (k : ℕ) → k ≤ n → graph_position shown k < length (activities shown)
position_less (Shown.entry {unit = first}) unit there active zero few =
    active_first (Rattle.bl_emit_spec.specs.Lent.lent_unit first) []
    (ap (λ (u : UnitDef). is_activity u.kind) (Rattle.std.proofs.lemmas.Option.same_Some first unit there) ∙ active)
position_less (Shown.entry) unit there active (suc k) few = absurd (omega (arith, few))
position_less (Shown.before {unit = first} {shown} more) unit there active zero few =
    by (is_activity first.kind) (position_less more unit there active 0 (omega arith))
  where
    by : (b : Bool) → 0 < length (activities shown) → 0 < length (cond b (first ∷ activities shown) (activities shown))
    by true some = omega arith
    by false some = some
position_less (Shown.before {unit = first} {shown} more) unit there active (suc k) few =
    by (is_activity first.kind) (position_less more unit there active k (omega (arith, few)))
  where
    by : (b : Bool) → length (activities (take k shown)) < length (activities shown) →
        length (cond b (first ∷ activities (take k shown)) (activities (take k shown))) < length (cond b (first ∷ activities shown) (activities shown))
    by true less = omega (arith, less)
    by false less = less

-- ---- numbers

module _ (structs : List StructDef) (units shown : List UnitDef) (entry : ℕ) (are : Shown units entry shown) (unit : UnitDef)
    (there : slice_get units entry ≡ Some unit) (active : is_activity unit.kind ≡ true) (machine : List InMachine) where
  abbrev part : List UnitDef → List InMachine → ℕ → InMachine
  part units machine k = unwrap_or (slice_get machine (graph_position units k)) no_part

  part_same : (k : ℕ) → k ≤ entry → part shown (machine_of shown machine) k ≡ part units machine k
  part_same k few =
      ap (λ o. unwrap_or o no_part)
      (taken_at (length (activities shown)) machine (graph_position shown k) (position_less are unit there active k few)
      ∙ ap (slice_get machine) (shown_position are k few))

  abbrev body : Option UnitDef → List Stmt
  body o = (unwrap_or o no_unit).body

  get_longer : (units shown : List UnitDef) (n : ℕ) → Shown units n shown → (k : ℕ) → k ≤ n → slice_get units k ≡ None → slice_get shown k ≡ None
  get_longer _ _ _ (Shown.entry) zero few none = absurd (cc)
  get_longer _ _ _ (Shown.entry) (suc k) few none = absurd (omega (arith, few))
  get_longer _ _ _ (Shown.before more) zero few none = absurd (cc)
  get_longer _ _ _ (Shown.before more) (suc k) few none = get_longer _ _ _ more k (omega (arith, few)) none

  body_same : (k : ℕ) → k ≤ entry → body (slice_get shown k) ≡ body (slice_get units k)
  body_same k few = by (slice_get units k) refl
    where
      by : (o : Option UnitDef) → slice_get units k ≡ o → body (slice_get shown k) ≡ body (slice_get units k)
      by None is = ap body (get_longer units shown entry are k few is ∙ sym is)
      by (Some one) is = let found = shown_there are k one few is in ap body found.1 ∙ same_body found.2 ∙ sym (ap body is)

  pub order_same : (k : ℕ) → k ≤ entry → (n : Node) →
      node_number (activities_of structs shown (machine_of shown machine) k).order (plain_body (activities_of structs shown (machine_of shown machine) k).unit.body) n
      ≡ node_number (activities_of structs units machine k).order (plain_body (activities_of structs units machine k).unit.body) n
  order_same k few n =
      ap₂ (λ (one : InMachine) (body : List Stmt). node_number (joined one.blocks) (plain_body body) n) (part_same k few) (body_same k few)

  pub slots_same : (k : ℕ) → k ≤ entry →
      (activities_of structs shown (machine_of shown machine) k).slots ≡ (activities_of structs units machine k).slots
  slots_same k few = ap₂ (λ (one : InMachine) (body : List Stmt). slots_of (plain_body body) one.slots) (part_same k few) (body_same k few)
