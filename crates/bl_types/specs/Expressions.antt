-- Expressions and targets with their types, and what fails in them.
use Rattle.std.specs.Prelude.{ℕ, ℤ, pos, neg_ℤ, ◌+◌, min, ◌^◌, Bool, true, false, ◌&&◌, nat_eq, is_some, List, [], ◌∷◌, ◌++◌, map, length, slice_get, bytes_eq}
use Rattle.std.specs.Prelude.{filter_map, Option, Some, None, option_map, option_and_then, if◌then◌else◌}
use Rattle.std.specs.List.{cons_option}
use Rattle.bl_tree.specs.declared.place.Place.{Place}
use Rattle.bl_tree.specs.declared.rule.Failure.{Failure}
use Rattle.bl_tree.specs.declared.rule.Rule.TheVariants as rule
use Rattle.bl_tree.specs.declared.scalar.Op.{Op}
use Rattle.bl_tree.specs.declared.scalar.Scalar.{Scalar as ScalarType}
use Rattle.bl_tree.specs.declared.scalar.Scalar.TheVariants.{Bool as OfBool}
use Rattle.bl_tree.specs.declared.tree.Expr.{Expr, out-Expr, roll-Expr}
use Rattle.bl_tree.specs.declared.tree.ExprKind.TheVariants as what
use Rattle.bl_tree.specs.declared.tree.Field.{Field}
use Rattle.bl_tree.specs.declared.tree.Part.{Part}
use Rattle.bl_tree.specs.declared.tree.Part.TheVariants as part
use Rattle.bl_tree.specs.declared.tree.Path.{Path, out-Path, roll-Path}
use Rattle.bl_tree.specs.declared.tree.Role.{Role}
use Rattle.bl_tree.specs.declared.tree.StructDef.{StructDef}
use Rattle.bl_tree.specs.declared.tree.Ty.{Ty, out-Ty}
use Rattle.bl_tree.specs.declared.tree.Ty.TheOpen.{Ty-F}
use Rattle.bl_tree.specs.declared.tree.Unit.{Unit as UnitDef}
use Rattle.bl_tree.specs.declared.tree.UnitKind.{UnitKind}
use Rattle.bl_tree.specs.declared.tree.Var.{Var}
use Rattle.bl_tree.specs.Numbers.{number_of}
use Rattle.bl_tree.specs.Reduce.{joined}
use Rattle.bl_tree.specs.Scalar.{is_whole}
use Rattle.bl_tree.specs.Types.{same_type, scalar, scalar_in}
use Rattle.bl_tree.specs.Typing.{cast_type, element_in, inputs_of, is_activity, is_variable, one_type, two_type}
use Rattle.bl_parse_tree.specs.declared.name.Name.{Name}
use Rattle.bl_names_tree.specs.declared.expr.NamedExpr.{NamedExpr, fold-NamedExpr}
use Rattle.bl_names_tree.specs.declared.expr.NamedExprKind.TheOpen.{NamedExprKind-F, NamedPart-F, NamedExpr-F, NamedTarget-F}
use Rattle.bl_names_tree.specs.declared.expr.NamedPart.{NamedPart, fold-NamedPart}
use Rattle.bl_names_tree.specs.declared.expr.NamedTarget.{NamedTarget, fold-NamedTarget}
use Rattle.bl_names_tree.specs.declared.expr.Root.{Root}
use Rattle.bl_names_tree.specs.declared.expr.Root.TheVariants as root
use Rattle.bl_types.specs.declared.environment.Constant.{Constant}
use Rattle.bl_types.specs.declared.environment.Environment.{Environment}
use Rattle.bl_types.specs.declared.environment.Variable.{Variable}
use Rattle.bl_types.specs.declared.form.Form.{Form}
use Rattle.bl_types.specs.declared.form.Form.TheVariants.{Failing, Open, Of}
use Rattle.bl_types.specs.declared.form.Found.{Found}
use Rattle.bl_types.specs.declared.form.Found.TheVariants as found
use Rattle.bl_types.specs.Failures.{fails_at, unless}
use Rattle.bl_types.specs.Settled.{Settled, behind, given, int32, is_logical, keeps_one_open, keeps_two_open, kept, literal, nothing, one, settled, settled_if}
use Rattle.bl_types.specs.Settled.{two, unfit}

-- what is known of an expression by itself, and what fails in it
pub record Judged : Type 0 where
  pub place : Place
  pub form : Form
  pub failures : List Failure

-- what a form comes to, and what fails at it
pub record Formed : Type 0 where
  pub form : Form
  pub failures : List Failure

-- a form without a type, in which nothing more fails
abbrev pub failing : Formed
failing = record { form = Failing; failures = [] }

-- Type: the form at this place fails
abbrev pub fails_type : Place → Formed
fails_type at = record { form = Failing; failures = fails_at rule.Type at }

-- an expression of this type, in which nothing fails
abbrev pub has_type : Ty → Expr → Formed
has_type ty e = record { form = Of ty e; failures = [] }

-- Type: the operands of a form don't fit it; at the whole form. Where they do, it has this type
abbrev pub formed_as : Option Ty → Place → Expr → Formed
formed_as (Some ty) at e = has_type ty e
formed_as None at e = fails_type at

-- what fails earlier, and then what is formed
abbrev pub after_failures : List Failure → Formed → Formed
after_failures earlier formed = record { form = formed.form; failures = earlier ++ formed.failures }

-- ---- where a type is wanted

-- the expression, or a failure of rule Type at it where it doesn't have the type wanted of it
abbrev pub same_or_unfit : Ty → Place → Ty → Expr → Settled
same_or_unfit wanted at ty e = if same_type wanted ty then kept e else unfit at

-- an expression of which this type is wanted; an open one takes it
abbrev pub wanted_as : Ty → Place → Form → Settled
wanted_as wanted at Failing = nothing
wanted_as wanted at (Open e) = given wanted e
wanted_as wanted at (Of ty e) = same_or_unfit wanted at ty e

-- an expression of which nothing is wanted; an open one takes `int32`
abbrev pub unwanted : Form → Settled
unwanted Failing = nothing
unwanted (Open e) = settled int32 e
unwanted (Of ty e) = kept e

-- an expression of which a type or nothing is wanted
abbrev pub fitting : Option Ty → Place → Form → Settled
fitting (Some wanted) at form = wanted_as wanted at form
fitting None at form = unwanted form

-- an expression where a type or nothing is wanted, behind what fails in it
abbrev pub in_context : Option Ty → Judged → Settled
in_context wanted judged = behind judged.failures (fitting wanted judged.place judged.form)

-- what is formed of an open expression that is made one of a type
abbrev pub of_settled : ScalarType → Option Expr → Form
of_settled s (Some e) = Of (scalar s) e
of_settled s None = Failing

-- an expression of which nothing is wanted
abbrev pub closed_form : Form → Formed
closed_form Failing = failing
closed_form (Open e) = record { form = of_settled int32 (settled int32 e).made; failures = (settled int32 e).failures }
closed_form (Of ty e) = has_type ty e

-- ---- operators

-- an operator of one operand: it stays open, takes the type of its operand, or fails
abbrev pub one_formed : Place → Op → Form → Formed
one_formed at op Failing = failing
one_formed at op (Open a) = if keeps_one_open op then record { form = Open (one at op a); failures = [] } else fails_type (out-Expr a).place
one_formed at op (Of ty a) = formed_as (option_and_then (one_type op) (scalar_in ty)) at (one at op a)

-- the result type of a binary operator, where it takes operands of the two types
abbrev pub type_of_two : Op → Ty → Ty → Option Ty
type_of_two op ty other = option_and_then (λ s. option_and_then (two_type op s) (scalar_in other)) (scalar_in ty)

-- operands that are made, where this is the type of what the operator gives; none where it doesn't take them
abbrev pub operands_made : Place → Op → Option Ty → Option Expr → Option Expr → Formed
operands_made at op ty (Some a) (Some b) = formed_as ty at (two at op a b)
operands_made at op ty _ _ = failing

-- an operator of two operands in their places, where this is the type of what it gives
abbrev pub two_of : Place → Op → Option Ty → Settled → Settled → Formed
two_of at op ty a b = after_failures a.failures (after_failures b.failures (operands_made at op ty a.made b.made))

-- an open operand beside one of a type, which it takes; rule Type fails at it under a logical operator
abbrev pub beside : Op → Ty → Expr → Settled
beside op ty e = if is_logical op then unfit (out-Expr e).place else given ty e

-- two open operands that take `int32`
abbrev pub settled_two : Place → Op → Expr → Expr → Formed
settled_two at op a b = two_of at op (type_of_two op (scalar int32) (scalar int32)) (beside op (scalar int32) a) (beside op (scalar int32) b)

-- two open operands: they stay open, or take `int32`
abbrev pub open_two : Place → Op → Expr → Expr → Formed
open_two at op a b = if keeps_two_open op then record { form = Open (two at op a b); failures = [] } else settled_two at op a b

-- a binary form with an operand without a type has none; an open operand takes `int32` in it
abbrev pub beside_none : Op → Form → Formed
beside_none op (Open e) = record { form = Failing; failures = (beside op (scalar int32) e).failures }
beside_none op _ = failing

-- an operator of two operands, from their forms
abbrev pub two_formed : Place → Op → Form → Form → Formed
two_formed at op Failing b = beside_none op b
two_formed at op (Open a) Failing = beside_none op (Open a)
two_formed at op (Open a) (Open b) = open_two at op a b
two_formed at op (Open a) (Of ty b) = two_of at op (type_of_two op ty ty) (beside op ty a) (kept b)
two_formed at op (Of ty a) Failing = failing
two_formed at op (Of ty a) (Open b) = two_of at op (type_of_two op ty ty) (kept a) (beside op ty b)
two_formed at op (Of ty a) (Of other b) = two_of at op (type_of_two op ty other) (kept a) (kept b)

-- the tree of a cast at a place
abbrev pub cast : Place → ScalarType → Expr → Expr
cast at target a = roll-Expr (record { place = at; what = what.Cast target a })

-- a cast of an operand that is made has the target type
abbrev pub cast_made : Place → ScalarType → Option Expr → Form
cast_made at target (Some a) = Of (scalar target) (cast at target a)
cast_made at target None = Failing

-- an open operand takes the target type
abbrev pub cast_settled : Place → ScalarType → Settled → Formed
cast_settled at target a = record { form = cast_made at target a.made; failures = a.failures }

-- a cast, from the form of its operand
abbrev pub cast_formed : Place → ScalarType → Form → Formed
cast_formed at target Failing = failing
cast_formed at target (Open a) = cast_settled at target (settled_if (is_whole target) target a)
cast_formed at target (Of ty a) = formed_as (option_and_then (cast_type target) (scalar_in ty)) at (cast at target a)

-- ---- variables

-- the tree of `prev` at a place, of the variable with number k
abbrev pub previous : Place → ℕ → Expr
previous at k = roll-Expr (record { place = at; what = what.Prev k })

-- Prev: the variable is no scalar `var` of an activity
abbrev pub previous_fits : UnitKind → Role → Ty → Bool
previous_fits kind role ty = is_activity kind && (is_variable role && is_some (scalar_in ty))

-- `prev` of a variable of this role and type, in a unit of this kind
abbrev pub previous_typed : UnitKind → Place → ℕ → Role → Option Ty → Formed
previous_typed kind at k role (Some ty) = record { form = Of ty (previous at k); failures = unless (previous_fits kind role ty) rule.Prev at }
previous_typed kind at k role None = failing

-- `prev` of a variable, where it is known
abbrev pub previous_formed : UnitKind → Place → ℕ → Option Variable → Formed
previous_formed kind at k (Some var) = previous_typed kind at k var.role var.ty
previous_formed kind at k None = failing

-- ---- targets and paths

-- a field of a struct: its position among the fields, and its type
pub record FieldAt : Type 0 where
  pub position : ℕ
  pub ty : Ty

-- the first field of the name in a list of fields that begins at the position
abbrev pub field_among : List ℕ → List Field → ℕ → Option FieldAt
field_among name [] k = None
field_among name (field ∷ rest) k = if bytes_eq field.name name then Some (record { position = k; ty = field.ty }) else field_among name rest (k + 1)

-- the field of the name in a type; none where that is no struct or has none of the name
abbrev pub field_in : List StructDef → List ℕ → Ty-F Ty → Option FieldAt
field_in structs name (Ty-F.Struct s) = option_and_then (λ def. field_among name def.fields 0) (slice_get structs s)
field_in structs name _ = None

-- where one part leads, and what fails at it
pub record Stepped : Type 0 where
  pub ty : Option Ty
  pub part : Option Part
  pub failures : List Failure

-- a part leads nowhere, and this fails
abbrev pub lost : List Failure → Stepped
lost failures = record { ty = None; part = None; failures = failures }

-- Type: what is reached is no struct with a field of the name; at the name
abbrev pub field_found : Place → Option FieldAt → Stepped
field_found at (Some field) = record { ty = Some field.ty; part = Some (part.Field field.position); failures = [] }
field_found at None = lost (fails_at rule.Type at)

-- a step to a field
abbrev pub to_field : List StructDef → Name → Option Ty → Stepped
to_field structs name (Some ty) = field_found name.place (field_in structs name.text (out-Ty ty))
to_field structs name None = lost []

-- Type: an index has no whole-number type; at the index
abbrev pub whole_or_unfit : Place → Option ScalarType → Expr → Settled
whole_or_unfit at (Some s) e = if is_whole s then kept e else unfit at
whole_or_unfit at None e = unfit at

-- an expression as an index, of which nothing is wanted but a whole number: an open one takes `int32`
abbrev pub as_index : Place → Form → Settled
as_index at Failing = nothing
as_index at (Open e) = settled int32 e
as_index at (Of ty e) = whole_or_unfit at (scalar_in ty) e

-- the elements of what has this type have this one, where that is an array
abbrev pub element_type : Option Ty → Option Ty
element_type reached = option_and_then (λ ty. element_in (out-Ty ty)) reached

-- Type: what is reached is no array; at the index
abbrev pub no_array : Place → Option Ty → List Failure
no_array at (Some ty) = unless (is_some (element_in (out-Ty ty))) rule.Type at
no_array at None = []

-- a step to an element, behind the form of its index, which is judged as one whatever is reached
abbrev pub to_element : Place → Form → Option Ty → Stepped
to_element at index reached = record {
  ty = option_and_then (λ e. element_type reached) (as_index at index).made;
  part = option_map part.Index (as_index at index).made;
  failures = no_array at reached ++ (as_index at index).failures;
}

-- a step to an element, after what fails in its index
abbrev pub after_index : Judged → Stepped → Stepped
after_index index step = record { ty = step.ty; part = step.part; failures = index.failures ++ step.failures }

-- the type that a list of parts leads to, the typed parts, and the failures at them
pub record Led : Type 0 where
  pub ty : Option Ty
  pub parts : List Part
  pub failures : List Failure

-- the list with one more element at its front, if there is one
abbrev pub with_made : {A : Type 0} → Option A → List A → List A
with_made one rest = cons_option one rest

-- the steps of the parts of a target, one after another
abbrev pub stepped : List (Option Ty → Stepped) → Option Ty → Led
stepped [] ty = record { ty = ty; parts = []; failures = [] }
stepped (step ∷ rest) ty =
    let first : Stepped = step ty in
    let further : Led = stepped rest first.ty in
    record { ty = further.ty; parts = with_made first.part further.parts; failures = first.failures ++ further.failures }

-- what a target leads to, and what fails in it
pub record Targeted : Type 0 where
  pub found : Found
  pub failures : List Failure

-- the tree of a path at a place: its variable, its parts and the type of what it names
abbrev pub path : Place → ℕ → List Part → Ty → Path
path at k parts ty = roll-Path (record { place = at; root = k; parts = parts; ty = ty })

-- a path that leads to something of the type; nothing where it leads nowhere
abbrev pub path_found : Place → ℕ → List Part → Option Ty → Found
path_found at k parts (Some ty) = found.Place (path at k parts ty)
path_found at k parts None = found.Nothing

-- the type of a variable, where it is known
abbrev pub type_of_variable : Option Variable → Option Ty
type_of_variable var = option_and_then (λ var. var.ty) var

-- the type of a constant, where it is known
abbrev pub type_of_constant : Option Constant → Option Ty
type_of_constant constant = option_and_then (λ constant. option_map scalar constant.ty) constant

-- the number that a constant stands for, and zero where it is not known
abbrev pub value_of_constant : Option Constant → ℤ
value_of_constant (Some constant) = constant.value
value_of_constant None = pos 0

-- a constant number of the type; nothing where it has no scalar type
abbrev pub constant_found : ℤ → Option ScalarType → Found
constant_found n (Some s) = found.Constant s n
constant_found n None = found.Nothing

-- what a target at the place leads to: the root, and then one step after another
abbrev pub targeted_from : Environment → Place → Root → List (Option Ty → Stepped) → Targeted
targeted_from env at (root.Variable k) steps =
    let reached : Led = stepped steps (type_of_variable (slice_get env.vars k)) in
    record { found = path_found at k reached.parts reached.ty; failures = reached.failures }
targeted_from env at (root.Constant k) steps =
    let reached : Led = stepped steps (type_of_constant (slice_get env.constants k)) in
    record { found = constant_found (value_of_constant (slice_get env.constants k)) (option_and_then scalar_in reached.ty); failures = reached.failures }

-- the tree of an expression at a place that reads a path
abbrev pub read : Place → Path → Expr
read at path = roll-Expr (record { place = at; what = what.Read path })

-- what is read: a constant stands as the literal of its number
abbrev pub reading : Place → Found → Form
reading at found.Nothing = Failing
reading at (found.Constant s n) = Of (scalar s) (literal at n s)
reading at (found.Place path) = Of (out-Path path).ty (read at path)

-- ---- calls

-- the type that is wanted of the next argument; none beyond the parameters
abbrev pub first_type : List Var → Option Ty
first_type [] = None
first_type (var ∷ rest) = Some var.ty

-- the parameters of the arguments after the next
abbrev pub but_first : List Var → List Var
but_first [] = []
but_first (var ∷ rest) = rest

-- arguments, of each of which the type of its parameter is wanted, and nothing of those beyond the parameters
abbrev pub fitted : List Judged → List Var → List Settled
fitted [] params = []
fitted (argument ∷ rest) params = in_context (first_type params) argument ∷ fitted rest (but_first params)

-- the trees of those that have types that fit
abbrev pub all_made : List Settled → List Expr
all_made arguments = filter_map (λ settled. settled.made) arguments

-- what fails in arguments, in order
abbrev pub all_failures : List Settled → List Failure
all_failures arguments = joined (map (λ settled. settled.failures) arguments)

-- the inputs of the unit that is called; none where it is not known
abbrev pub params_of : Option UnitDef → List Var
params_of (Some unit) = inputs_of unit
params_of None = []

-- Arity: a unit has another number of inputs or outputs; at the call's name
abbrev pub miscounted : Place → ℕ → ℕ → UnitDef → List Failure
miscounted at inputs outputs callee = unless (nat_eq inputs callee.inputs && nat_eq outputs callee.outputs) rule.Arity at

-- a call in an expression has no outputs; Return: it names a function without a result
abbrev pub misnamed : Place → ℕ → Option UnitDef → List Failure
misnamed at inputs (Some callee) = miscounted at inputs 0 callee ++ unless (is_some callee.result) rule.Return at
misnamed at inputs None = []

-- the tree of a call at a place: the number of the function, and the inputs
abbrev pub call : Place → ℕ → List Expr → Expr
call at f inputs = roll-Expr (record { place = at; what = what.Call f inputs })

-- a call has the type of the result, where all its arguments have types that fit
abbrev pub call_form : Place → ℕ → List Expr → Bool → Option ScalarType → Form
call_form at f inputs true (Some s) = Of (scalar s) (call at f inputs)
call_form at f inputs _ _ = Failing

-- a call, from its arguments and the unit that is called
abbrev pub call_formed : Place → Place → ℕ → List Settled → Option UnitDef → Formed
call_formed at name f arguments callee = record {
  form = call_form at f (all_made arguments) (nat_eq (length (all_made arguments)) (length arguments)) (option_and_then (λ unit. unit.result) callee);
  failures = all_failures arguments ++ misnamed name (length arguments) callee;
}

-- ---- all expressions

-- the number that is written; 2^64, which no type has, stands for all greater ones
abbrev pub written_number : Bool → ℕ → ℤ
written_number true n = neg_ℤ (pos (min n (2 ^ 64)))
written_number false n = pos (min n (2 ^ 64))

-- a kind of expression at a place, from what is known of its parts
abbrev pub judged_kind : Environment → NamedExprKind-F (Place → Formed) (Option Ty → Stepped) Judged Targeted → Place → Formed
judged_kind env (NamedExprKind-F.Number minus n) at = record { form = Open (literal at (written_number minus n) int32); failures = [] }
judged_kind env (NamedExprKind-F.Truth truth) at = has_type (scalar OfBool) (literal at (number_of truth) OfBool)
judged_kind env (NamedExprKind-F.Read target) at = record { form = reading at target.found; failures = target.failures }
judged_kind env (NamedExprKind-F.Prev k) at = previous_formed env.kind at k (slice_get env.vars k)
judged_kind env (NamedExprKind-F.One op a) at = after_failures a.failures (one_formed at op a.form)
judged_kind env (NamedExprKind-F.Two op a b) at = after_failures a.failures (after_failures b.failures (two_formed at op a.form b.form))
judged_kind env (NamedExprKind-F.Cast target a) at = after_failures a.failures (cast_formed at target a.form)
judged_kind env (NamedExprKind-F.Call name f inputs) at =
    call_formed at name f (fitted inputs (params_of (slice_get env.units f))) (slice_get env.units f)

-- a part of a target, from the type of what is reached before it
abbrev pub judged_part : Environment → NamedPart-F (Place → Formed) (Option Ty → Stepped) Judged Targeted → Option Ty → Stepped
judged_part env (NamedPart-F.Field name) ty = to_field env.structs name ty
judged_part env (NamedPart-F.Index index) ty = after_index index (to_element index.place index.form ty)

-- an expression, from what its kind comes to at its place
abbrev pub judged_layer : NamedExpr-F (Place → Formed) (Option Ty → Stepped) Judged Targeted → Judged
judged_layer e = let formed : Formed = e.what e.place in record { place = e.place; form = formed.form; failures = formed.failures }

-- a target, from the steps of its parts
abbrev pub judged_target : Environment → NamedTarget-F (Place → Formed) (Option Ty → Stepped) Judged Targeted → Targeted
judged_target env target = targeted_from env target.place target.root target.parts

-- the judgement of an expression
abbrev pub judged : Environment → NamedExpr → Judged
judged env = fold-NamedExpr (Place → Formed) (Option Ty → Stepped) Judged Targeted (judged_kind env) (judged_part env) judged_layer (judged_target env)

-- a call in an expression; the name of the function stands at the second place
abbrev pub call_judged : Environment → Place → Place → ℕ → List NamedExpr → Formed
call_judged env at name f inputs = call_formed at name f (fitted (map (judged env) inputs) (params_of (slice_get env.units f))) (slice_get env.units f)

-- a part of a target, from the type of what is reached before it
abbrev pub step_of : Environment → NamedPart → Option Ty → Stepped
step_of env = fold-NamedPart (Place → Formed) (Option Ty → Stepped) Judged Targeted (judged_kind env) (judged_part env) judged_layer (judged_target env)

-- the judgement of a target
abbrev pub targeted : Environment → NamedTarget → Targeted
targeted env = fold-NamedTarget (Place → Formed) (Option Ty → Stepped) Judged Targeted (judged_kind env) (judged_part env) judged_layer (judged_target env)
