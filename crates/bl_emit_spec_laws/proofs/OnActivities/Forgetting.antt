-- What an activity that remembers nothing calls holds no variable.
use Rattle.std.proofs.Common.{◌≡◌, ℕ, zero, suc, ◌+◌, ◌<◌, Bool, true, false, List, [], ◌∷◌, length}
use Rattle.std.proofs.Common.{nat_lt, Some, sym, ap, ◌∙◌, arith}
use Rattle.std.proofs.Common.{length-append}
use Rattle.std.proofs.lemmas.Bool.{lt-ltb}
use Rattle.std.proofs.lemmas.Option.{same_Some}
use Rattle.std.specs.Prelude.{map, slice_get}
use Rattle.bl_tree.specs.declared.tree.StructDef.{StructDef}
use Rattle.bl_tree.specs.declared.tree.Unit.{Unit as UnitDef}
use Rattle.bl_tree.specs.declared.tree.Var.{Var}
use Rattle.bl_tree.specs.Reduce.{joined}
use Rattle.bl_tree.specs.Typing.{TypingContext, var_at}
use Rattle.bl_ctext_semantics.specs.Memory.{Location}
use Rattle.bl_ctree.specs.Instances.{Setting, setting_of}
use Rattle.bl_emit_acts.specs.Places.{home_of}
use Rattle.bl_emit_acts.specs.declared.home.Home.TheVariants.{Held}
use Rattle.bl_emit_acts_laws_simulation.specs.Encodes.{home_at}
use Rattle.bl_emit_functions.specs.Functions.{is_held, member_of, members_from}
use Rattle.bl_emit_spec.specs.Activities.{Activity, activity_view, memory_member, remembered, remembers_any, runs_in_body}
use Rattle.bl_machine.specs.declared.machine.Activity.{Activity as InMachine}
use Rattle.bl_emit_spec_laws.specs.Calls.Built.{Activities, activity_at, site_at}
use Rattle.bl_emit_spec_laws.specs.Calls.Laws.{CompilationContext}
use Rattle.bl_emit_spec_laws.specs.Calls.Memories as memories
use Rattle.bl_emit_spec_laws.specs.Calls.Memories.{Nests}
use Rattle.bl_emit_spec_laws.specs.Activities.{CalleesRemember}

one_more : (b : Bool) (structs : List StructDef) (all : List Var) (k : ℕ) (var : Var) → b ≡ true → 0 < length (member_of b structs all k var)
one_more true structs all k var is = omega arith
one_more false structs all k var is = absurd (cc)

-- a variable that is held is a member
held_member : (site : TypingContext) (k : ℕ) (vars : List Var) (x : ℕ) (var : Var) → slice_get vars x ≡ Some var →
    is_held (home_of site (Some var)) ≡ true → 0 < length (members_from site k vars)
held_member site k [] x var there held = absurd (cc)
held_member site k (first ∷ rest) zero var there held =
    let here = one_more (is_held (home_of site (Some first))) site.structs site.vars k first
    (ap (λ (v : Var). is_held (home_of site (Some v))) (same_Some first var there) ∙ held) in
    let all = length-append (member_of (is_held (home_of site (Some first))) site.structs site.vars k first) (members_from site (k + 1) rest) in
    omega (arith, here, all)
held_member site k (first ∷ rest) (suc x) var there held =
    let later = held_member site (k + 1) rest x var there held in
    let all = length-append (member_of (is_held (home_of site (Some first))) site.structs site.vars k first) (members_from site (k + 1) rest) in
    omega (arith, later, all)

less_true : (n : ℕ) → 0 < n → nat_lt 0 n ≡ true
less_true n less = lt-ltb 0 n less

-- so an activity with a variable that is held remembers something
pub holder_remembers : (a : Activity) (x : ℕ) (var : Var) → var_at (activity_view a).site x ≡ Some var → home_at (activity_view a).site x ≡ Held →
    remembers_any a ≡ true
holder_remembers a x var there held =
    let own = held_member (activity_view a).site 0 (activity_view a).site.vars x var there
    (ap is_held (ap (home_of (activity_view a).site) (sym there) ∙ held)) in
    let all = length-append (members_from (activity_view a).site 0 (activity_view a).site.vars) (joined (map (memory_member a) (runs_in_body a))) in
    less_true (length (remembered a)) (omega (arith, own, all))

module _ (structs : List StructDef) (units : List UnitDef) (entry : ℕ) (machine : List InMachine) (activities : Activities)
    (compiled : CompilationContext structs units entry machine activities) (remember : CalleesRemember structs units entry machine activities) where
  abbrev W : Setting
  W = setting_of structs units entry

  -- what holds a variable inside makes the activity remember
  pub inner_remembers : {i k : ℕ} {f m f' m' : Location} → Nests W activities i f m k f' m' → (x : ℕ) (var : Var) →
      var_at (site_at W activities k) x ≡ Some var → home_at (site_at W activities k) x ≡ Held → remembers_any (activity_at W activities i) ≡ true
  inner_remembers {i} memories.here x var there held = holder_remembers (activity_at W activities i) x var there held
  inner_remembers {i} (memories.inside {j = j} {unit = unit} {l = l} {at = at} {arguments = arguments} is within calls rest) x var there held =
      remember i j unit l at arguments compiled is within calls (inner_remembers rest x var there held)
