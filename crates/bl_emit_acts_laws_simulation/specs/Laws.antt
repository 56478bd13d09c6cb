-- What holds of the C of every typed program's expressions, paths and acts.
use Rattle.std.specs.Prelude.{◌≡◌, ℕ, Bool, true, false, nat_eq, List, [], map, take, Some, None, slice_get}
use Rattle.std.specs.List.{list_any}
use Rattle.bl_tree.specs.declared.tree.Expr.{Expr}
use Rattle.bl_tree.specs.declared.tree.Path.{Path}
use Rattle.bl_tree.specs.declared.tree.Stmt.{Stmt, out-Stmt}
use Rattle.bl_tree.specs.declared.tree.StmtKind.{out-StmtKind}
use Rattle.bl_tree.specs.declared.tree.StmtKind.TheOpen.{StmtKind-F}
use Rattle.bl_tree.specs.declared.tree.StructDef.{StructDef}
use Rattle.bl_tree.specs.declared.tree.Ty.{Ty}
use Rattle.bl_tree.specs.declared.tree.Unit.{Unit as UnitDef}
use Rattle.bl_tree.specs.declared.tree.Var.{Var}
use Rattle.bl_tree.specs.declared.value.Value.{Value}
use Rattle.bl_tree.specs.Program.{IsWellTyped, is_input}
use Rattle.bl_tree.specs.Typing.{TypingContext, fits, site_of, type_of, type_of_path, var_at}
use Rattle.bl_effects.specs.Rules.{Aliased, aliases_of}
use Rattle.bl_eval.specs.Functions.{callees_of}
use Rattle.bl_eval.specs.Meaning.{View, meaning_of, path_meaning_of}
use Rattle.bl_eval.specs.Standing.{ViewFits, outcome_of, scope_of}
use Rattle.bl_eval.specs.Values.{put_at, values_fit}
use Rattle.bl_ctext_semantics.specs.Course.{goes_on}
use Rattle.bl_ctext_semantics.specs.Meaning.{Scope, block_c, location_c}
use Rattle.bl_ctext_semantics.specs.Memory.{CValue, Memory, set_at}
use Rattle.bl_emit_acts.specs.Acts.{act_code, c_copied, is_copied}
use Rattle.bl_emit_acts.specs.Expressions.{made_of, stands}
use Rattle.bl_emit_acts_laws_simulation.specs.Acts.{BegunWith, CopiesApart, ProceduresAgree, Simulates, before_after, copied_in_layer, is_act}
use Rattle.bl_emit_acts_laws_simulation.specs.Frames.{FrameApart, PointersAreValid}
use Rattle.bl_emit_acts_laws_simulation.specs.Encodes.{CopiesEncoded, Encodes, VariablesAllocated, VariablesApart, VariablesEncoded, copied_in, copied_in_path}
use Rattle.bl_emit_acts_laws_simulation.specs.Encodes.{location_in, type_after, way_to}
use Rattle.bl_emit_acts_laws_simulation.specs.Simulation.{ExpressionSimulates, FunctionsAgree, PlaceSimulates}

-- C memory encodes the values of the variables of the unit at a position. Values fit their types, variables and copies are allocated, and the functions of
-- earlier units agree
pub record Beside (structs : List StructDef) (units : List UnitDef) (k : ℕ) (unit : UnitDef) (view : View) (copied : ℕ → Bool) (scope : Scope)
    (here : Memory) : Type 0 where
  pub is_there : slice_get units k ≡ Some unit
  pub fitting : ViewFits (site_of structs (take k units) unit) view
  pub variables : VariablesEncoded (site_of structs (take k units) unit) view.now scope here
  pub live : VariablesAllocated (site_of structs (take k units) unit) scope
  pub copies : CopiesEncoded (site_of structs (take k units) unit) view.before copied scope here
  pub functions : FunctionsAgree structs (take k units) (callees_of structs (take k units)) scope

-- the C of each expression simulates it
abbrev pub ExpressionsSimulate : List StructDef → List UnitDef → ℕ → Type 0
ExpressionsSimulate structs units entry =
    (k : ℕ) (unit : UnitDef) (e : Expr) (ty : Ty) (view : View) (copied : ℕ → Bool) (scope : Scope) (here : Memory) → IsWellTyped structs units entry →
    Beside structs units k unit view copied scope here → type_of (site_of structs (take k units) unit) e ≡ Some ty → copied_in copied e ≡ true →
    ExpressionSimulates structs ty scope here (made_of (site_of structs (take k units) unit) e) (meaning_of (scope_of (site_of structs (take k units) unit)) e view)

-- the place of a path simulates the path
abbrev pub PlacesSimulate : List StructDef → List UnitDef → ℕ → Type 0
PlacesSimulate structs units entry =
    (k : ℕ) (unit : UnitDef) (path : Path) (ty : Ty) (view : View) (copied : ℕ → Bool) (scope : Scope) (here : Memory) → IsWellTyped structs units entry →
    Beside structs units k unit view copied scope here → type_of_path (site_of structs (take k units) unit) path ≡ Some ty →
    copied_in_path copied path ≡ true →
    PlaceSimulates (site_of structs (take k units) unit) view scope ty
    (location_c (stands (site_of structs (take k units) unit) path).place scope here).answer
    (path_meaning_of (scope_of (site_of structs (take k units) unit)) path)

-- the premises of a write to part of a variable: the part exists, memory has its value, and these are the values after the write
pub record PartWrite (structs : List StructDef) (units : List UnitDef) (k : ℕ) (unit : UnitDef) (scope : Scope) (here : Memory) (now made : List Value)
    (root : ℕ) (var : Var) (ks : List ℕ) (ty : Ty) (new : Value) (held : CValue) : Type 0 where
  pub is_there : slice_get units k ≡ Some unit
  pub fits : values_fit structs unit.vars now ≡ true
  pub variables : VariablesEncoded (site_of structs (take k units) unit) now scope here
  pub apart : VariablesApart (site_of structs (take k units) unit) scope
  pub known : var_at (site_of structs (take k units) unit) root ≡ Some var
  pub written : is_input var.role ≡ false
  pub typed : type_after structs ks (Some var.ty) ≡ Some ty
  pub holds : Encodes structs ty new held
  pub put : put_at root ks new now ≡ Some made

-- each variable holds its value after what holds the new part was set at the part's place
abbrev pub WritesEncode : List StructDef → List UnitDef → ℕ → Type 0
WritesEncode structs units entry =
    (k : ℕ) (unit : UnitDef) (scope : Scope) (here : Memory) (now made : List Value) (root : ℕ) (var : Var) (ks : List ℕ) (ty : Ty) (new : Value)
    (held : CValue) → IsWellTyped structs units entry → PartWrite structs units k unit scope here now made root var ks ty new held →
    VariablesEncoded (site_of structs (take k units) unit) made scope
    (set_at here (location_in scope (site_of structs (take k units) unit) root (way_to structs ks (Some var.ty))) held)

-- C memory encodes the values of a unit's variables, and acts may write it: variables are apart from others and from copies, and earlier procedures agree
pub record BesideActs (structs : List StructDef) (units : List UnitDef) (k : ℕ) (unit : UnitDef) (view : View) (copied : ℕ → Bool) (scope : Scope)
    (here : Memory) : Type 0 where
  pub beside : Beside structs units k unit view copied scope here
  pub apart : VariablesApart (site_of structs (take k units) unit) scope
  pub copies_apart : CopiesApart (site_of structs (take k units) unit) copied scope
  pub procedures : ProceduresAgree structs (take k units) (callees_of structs (take k units)) scope

-- the variables and copies of a unit are apart where its pointers are valid
abbrev pub FramesApart : Type 0
FramesApart = (site : TypingContext) (copied : ℕ → Bool) (scope : Scope) → PointersAreValid site scope → FrameApart site copied scope

-- the C that copies these variables gives each copy the value of its variable, as at the start of a tick
abbrev pub CopiesBegin : Type 0
CopiesBegin =
    (site : TypingContext) (copied : ℕ → Bool) (scope : Scope) (now : List Value) (ks : List ℕ) (here : Memory) → CopiesApart site copied scope →
    VariablesEncoded site now scope here → ((k : ℕ) → list_any (nat_eq k) ks ≡ true
    → (var : Var) × (var_at site k ≡ Some var) × (copied k ≡ true)) →
    ((block_c (map (c_copied site) ks) scope here).end ≡ goes_on) × BegunWith site scope here now ks (block_c (map (c_copied site) ks) scope here).memory

-- the overlaps in the arguments of an act
abbrev pub overlaps_in : {A B C D : Type 0} → StmtKind-F A B C D → List Aliased
overlaps_in (StmtKind-F.Call f inputs outputs) = aliases_of None inputs outputs
overlaps_in _ = []

-- the C of an act that fits simulates it, if its arguments don't overlap: it traps iff the act does, and else represents the values after it. Other memory is
-- unchanged
abbrev pub ActsSimulate : List StructDef → List UnitDef → ℕ → Type 0
ActsSimulate structs units entry =
    (k : ℕ) (unit : UnitDef) (s : Stmt) (view : View) (copies : List Bool) (scope : Scope) (here : Memory) → IsWellTyped structs units entry →
    BesideActs structs units k unit view (is_copied copies) scope here → is_act (out-StmtKind (out-Stmt s).what) ≡ true →
    fits (site_of structs (take k units) unit) s ≡ true → copied_in_layer (is_copied copies) (out-StmtKind (out-Stmt s).what) ≡ true →
    overlaps_in (out-StmtKind (out-Stmt s).what) ≡ [] →
    Simulates (site_of structs (take k units) unit) (is_copied copies) scope here
    (λ now. before_after (out-StmtKind (out-Stmt s).what) now view.before)
    (outcome_of (site_of structs (take k units) unit) s view) (block_c (act_code (site_of structs (take k units) unit) copies s) scope here)
