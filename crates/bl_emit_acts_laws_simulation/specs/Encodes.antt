-- Values of a program in the memory of C.
use Rattle.std.specs.Prelude.{◌≡◌, ℕ, ℤ, Bool, true, false, not, ◌&&◌, ◌||◌, nat_eq, nat_le, List, [], ◌∷◌, ◌++◌, Option}
use Rattle.std.specs.Prelude.{Some, None}
use Rattle.std.specs.Prelude.{codes, option_and_then}
use Rattle.std.specs.Prelude.{slice_get}
use Rattle.bl_tree.specs.declared.tree.Expr.{Expr, fold-Expr}
use Rattle.bl_tree.specs.declared.tree.ExprKind.TheOpen.{ExprKind-F, Part-F, Path-F, Expr-F}
use Rattle.bl_tree.specs.declared.tree.Path.{Path, fold-Path}
use Rattle.bl_tree.specs.declared.tree.StructDef.{StructDef}
use Rattle.bl_tree.specs.declared.tree.Ty.{Ty, out-Ty}
use Rattle.bl_tree.specs.declared.tree.Ty.TheOpen.{Ty-F}
use Rattle.bl_tree.specs.declared.tree.Var.{Var}
use Rattle.bl_tree.specs.declared.value.Value.{Value}
use Rattle.bl_tree.specs.Program.{is_input}
use Rattle.bl_tree.specs.Reduce.{all_of}
use Rattle.bl_tree.specs.Typing.{TypingContext, field_in, is_activity, var_at}
use Rattle.bl_eval.specs.Values.{number_in, value_at}
use Rattle.bl_ctext_semantics.specs.Meaning.{Scope, further, named_location}
use Rattle.bl_ctext_semantics.specs.Memory.{CValue, Location, Memory, Projection, Root, element, member, variable}
use Rattle.bl_ctext_semantics.specs.Memory as memory
use Rattle.bl_emit_acts.specs.declared.home.Home.{Home}
use Rattle.bl_emit_acts.specs.declared.home.Home.TheVariants.{Held, Local, Lent}
use Rattle.bl_emit_acts.specs.Expressions.{field_of_struct, name_of_field}
use Rattle.bl_emit_acts.specs.Places.{home_of}
use Rattle.bl_emit_acts.specs.Types.{copy_name, elements_name, field_name, variable_name}

-- ---- parts

-- the way from a type of one level to its part at a position
abbrev pub lead_level : List StructDef → ℕ → Ty-F Ty → List Projection
lead_level structs k (Ty-F.Scalar s) = []
lead_level structs k (Ty-F.Struct s) = member (field_name (name_of_field (field_of_struct structs k (Ty-F.Struct s)))) ∷ []
lead_level structs k (Ty-F.Array n inner) = member elements_name ∷ element k ∷ []

-- the way in C to the part at a position of a type: a member, or an element of the one member of an array's struct
abbrev pub lead_to : List StructDef → ℕ → Ty → List Projection
lead_to structs k ty = lead_level structs k (out-Ty ty)

-- the type of a part of a type, by its level
abbrev pub part_level : List StructDef → ℕ → Ty-F Ty → Option Ty
part_level structs k (Ty-F.Scalar s) = None
part_level structs k (Ty-F.Struct s) = field_in structs k (Ty-F.Struct s)
part_level structs k (Ty-F.Array n inner) = Some inner

-- the type of that part
abbrev pub part_type : List StructDef → ℕ → Ty → Option Ty
part_type structs k ty = part_level structs k (out-Ty ty)

-- the way in C to what lies at positions in a value of a type, from the outermost inwards
abbrev pub way_to : List StructDef → List ℕ → Option Ty → List Projection
way_to structs [] ty = []
way_to structs (k ∷ ks) None = []
way_to structs (k ∷ ks) (Some ty) = lead_to structs k ty ++ way_to structs ks (part_type structs k ty)

-- the type of what lies at positions in a value of a type
abbrev pub type_after : List StructDef → List ℕ → Option Ty → Option Ty
type_after structs [] ty = ty
type_after structs (k ∷ ks) None = None
type_after structs (k ∷ ks) (Some ty) = type_after structs ks (part_type structs k ty)

-- the number at positions in a value
abbrev pub number_within : List ℕ → Value → Option ℤ
number_within ks value = option_and_then number_in (value_at ks value)

-- a C value encodes a value of a type: each number in the value is that of its cell
pub record Encodes (structs : List StructDef) (ty : Ty) (value : Value) (held : CValue) : Type 0 where
  pub each : (ks : List ℕ) (n : ℤ) → number_within ks value ≡ Some n → held (way_to structs ks (Some ty)) ≡ n

-- ---- variables

-- the location at which the place of the variable at a position among its unit's starts
abbrev pub start_in : Scope → Bool → Home → List Var → ℕ → Location
start_in scope activity Held vars k = named_location scope activity (codes "m")
start_in scope activity Local vars k = named_location scope false (variable_name vars k)
start_in scope activity Lent vars k = named_location scope true (variable_name vars k)

-- the steps from the start of a variable's place to the variable, by its home
abbrev pub lead_in : Home → List Var → ℕ → List Projection
lead_in Held vars k = member (variable_name vars k) ∷ []
lead_in Local vars k = []
lead_in Lent vars k = []

-- the home of the variable at a position
abbrev pub home_at : TypingContext → ℕ → Home
home_at site k = home_of site (var_at site k)

-- the location of what lies at a way in the variable at a position
abbrev pub location_in : Scope → TypingContext → ℕ → List Projection → Location
location_in scope site k way =
    further (start_in scope (is_activity site.kind) (home_at site k) site.vars k) (lead_in (home_at site k) site.vars k ++ way)

-- each variable of a unit has its value at its place
pub record VariablesEncoded (site : TypingContext) (now : List Value) (scope : Scope) (here : Memory) : Type 0 where
  pub each : (k : ℕ) (var : Var) (value : Value) → var_at site k ≡ Some var → slice_get now k ≡ Some value →
      Encodes site.structs var.ty value (memory.value_at here (location_in scope site k []))

-- each copy of a variable, of those that are copied, has what the variable was when the tick began
pub record CopiesEncoded (site : TypingContext) (before : List Value) (copied : ℕ → Bool) (scope : Scope) (here : Memory) : Type 0 where
  pub each : (k : ℕ) (var : Var) (value : Value) → copied k ≡ true → var_at site k ≡ Some var → slice_get before k ≡ Some value →
      Encodes site.structs var.ty value (memory.value_at here (named_location scope false (copy_name site.vars k)))

-- ---- copies that an expression needs

-- whether all that a kind of expression needs is copied, from what its parts tell
abbrev pub kind_copied : (ℕ → Bool) → ExprKind-F Bool Bool Bool Bool → Bool
kind_copied copied (ExprKind-F.Literal n s) = true
kind_copied copied (ExprKind-F.Read path) = path
kind_copied copied (ExprKind-F.Prev k) = copied k
kind_copied copied (ExprKind-F.One op a) = a
kind_copied copied (ExprKind-F.Two op a b) = a && b
kind_copied copied (ExprKind-F.Cast target a) = a
kind_copied copied (ExprKind-F.Call f inputs) = all_of inputs

-- whether all that a part of a path needs is copied, from what its index tells
abbrev pub part_copied : Part-F Bool Bool Bool Bool → Bool
part_copied (Part-F.Field k) = true
part_copied (Part-F.Index e) = e

-- whether all that an expression needs is copied, from what its kind tells
abbrev pub expr_copied : Expr-F Bool Bool Bool Bool → Bool
expr_copied e = e.what

-- whether all that a path needs is copied, from what its parts tell
abbrev pub path_copied : Path-F Bool Bool Bool Bool → Bool
path_copied path = all_of path.parts

-- whether each variable that the expression names under a `prev` is copied
abbrev pub copied_in : (ℕ → Bool) → Expr → Bool
copied_in copied = fold-Expr Bool Bool Bool Bool (kind_copied copied) part_copied expr_copied path_copied

-- whether each variable that the path names under a `prev` is copied
abbrev pub copied_in_path : (ℕ → Bool) → Path → Bool
copied_in_path copied = fold-Path Bool Bool Bool Bool (kind_copied copied) part_copied expr_copied path_copied

-- ---- where variables don't meet

-- whether two ways diverge: neither is a prefix of the other
abbrev pub ways_part : List Projection → List Projection → Bool
ways_part (p ∷ ps) (q ∷ qs) = not (memory.same_part p q) || ways_part ps qs
ways_part _ _ = false

-- whether two places have nothing in common
abbrev pub are_apart : Location → Location → Bool
are_apart p q = not (memory.same_root p.root q.root) || ways_part p.parts q.parts

-- whether a root is live while a function runs at this depth: it is no variable of a callee
abbrev pub is_live : ℕ → Root → Bool
is_live depth (variable d name) = nat_le d depth
is_live depth _ = true

-- the places of a unit's variables are there
pub record VariablesAllocated (site : TypingContext) (scope : Scope) : Type 0 where
  pub each : (k : ℕ) (var : Var) → var_at site k ≡ Some var → is_live scope.depth (location_in scope site k []).root ≡ true

-- a variable that may be written is apart from all others. Inputs may overlap: one struct may be handed over twice
pub record VariablesApart (site : TypingContext) (scope : Scope) : Type 0 where
  pub each : (j k : ℕ) (a b : Var) → var_at site j ≡ Some a → var_at site k ≡ Some b → is_input a.role ≡ false → nat_eq j k ≡ false →
      are_apart (location_in scope site j []) (location_in scope site k []) ≡ true
