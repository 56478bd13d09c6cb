-- What the values of the check stand for.
use Rattle.std.specs.Prelude.{ℕ, List, map, Bool, true, false, Option, Some, None, option_map, slice_get, drop, length, not, ◌&&◌, nat_le, if◌then◌else◌}
use Rattle.bl_tree.specs.declared.c.CType.{CType}
use Rattle.bl_tree.specs.declared.c.CType.TheVariants.{Scalar as OfScalar, Struct as OfStruct}
use Rattle.bl_tree.specs.declared.c.CMember.{CMember}
use Rattle.bl_tree.specs.declared.c.CFunc.{CFunc}
use Rattle.bl_tree.specs.declared.c.CArg.{CArg}
use Rattle.bl_tree.specs.declared.place.Place.{Place}
use Rattle.bl_ctext_semantics.specs.declared.check.types.Ty.{Ty}
use Rattle.bl_ctext_semantics.specs.declared.check.types.Ty.TheVariants.{Scalar, Struct}
use Rattle.bl_ctext_semantics.specs.declared.check.context.Variable.{Variable as CodeVariable}
use Rattle.bl_ctext_semantics.specs.declared.check.context.Param.{Param}
use Rattle.bl_ctext_semantics.specs.declared.check.context.Context.{Context as CodeContext}
use Rattle.bl_ctext_semantics.specs.declared.check.context.Callee.{Callee}
use Rattle.bl_ctext_semantics.specs.declared.check.context.Callee.TheVariants.{Builtin as OfPrelude, Own}
use Rattle.bl_ctext_semantics.specs.Builtin.{builtin_params, builtin_result}
use Rattle.bl_ctext_semantics.specs.Faults.{Variable, Signature, Context, JudgedArg, by_value, signature_in, fit_each, fits_param, if_typed, judged_arg}
use Rattle.std.specs.Borrow.{Bor}
use Rattle.std.specs.HashMap.{HashMap}
use Rattle.bl_ctext_semantics.specs.Tables.{Table}
use Rattle.bl_ctext_semantics.specs.inner.Maps.{text_at}

-- a type
abbrev pub type_of : Ty → CType
type_of (Scalar s) = OfScalar s
type_of (Struct name) = OfStruct name.now

-- a parameter or local
abbrev pub variable_of : CodeVariable → Variable
variable_of v = record { pointer = v.pointer; ty = v.ty.now }

-- a parameter of a function that is called
abbrev pub param_of : Param → Variable
param_of p = record { pointer = p.pointer; ty = type_of p.ty }

-- a function that is called
abbrev pub signature_for : Callee → Signature
signature_for (OfPrelude b) = record { widens = true; params = map by_value (builtin_params b); result = builtin_result b }
signature_for (Own function) = signature_in function.now

-- the members of a struct
abbrev pub members_in_map : {S : Type 0} → HashMap (Bor (List ℕ)) (Bor CMember) S → Table CMember
members_in_map members name = option_map (λ m. m.now) (text_at members name)

-- the structs
abbrev pub checked_structs : {S T : Type 0} → HashMap (Bor (List ℕ)) (HashMap (Bor (List ℕ)) (Bor CMember) S) T → Table (Table CMember)
checked_structs structs struct = option_map members_in_map (text_at structs struct)

-- the functions
abbrev pub functions_of : {S : Type 0} → HashMap (Bor (List ℕ)) (Bor CFunc) S → Table Signature
functions_of functions name = option_map (λ f. signature_in f.now) (text_at functions name)

-- the parameters and locals of a function
abbrev pub variables_in_map : {S : Type 0} → HashMap (Bor (List ℕ)) CodeVariable S → Table Variable
variables_in_map variables name = option_map variable_of (text_at variables name)

-- what is declared
abbrev pub context_of : CodeContext → Context
context_of c = record {
  structs = checked_structs c.structs.now;
  functions = functions_of c.functions.now;
  variables = variables_in_map c.variables.now;
  result = c.result;
  is_read_only = c.is_read_only;
}

-- the arguments of a call
abbrev pub judged_args : List CArg → Context → Place → List JudgedArg
judged_args args context place = map (λ judge. judge context place) (map judged_arg args)

-- whether an argument after `&` begins with (*
abbrev pub is_handed : JudgedArg → Bool
is_handed a = a.address && a.through

-- whether the arguments suit a function from its k-th parameter on
abbrev pub fit_from : Option Signature → ℕ → List JudgedArg → Bool
fit_from None k args = true
fit_from (Some s) k args = fit_each s.widens (drop k s.params) args

-- whether an argument fits a parameter, where there is one
abbrev pub fits_param_at : Bool → Option Variable → Bool → Option CType → Bool
fits_param_at widens None address ty = false
fits_param_at widens (Some p) address ty = (if p.pointer then address else not address) && if_typed ty (fits_param widens p.ty)

-- whether an argument fits the k-th parameter
abbrev pub fits_nth : Option Signature → ℕ → Bool → Option CType → Bool
fits_nth None k address ty = true
fits_nth (Some s) k address ty = fits_param_at s.widens (slice_get s.params k) address ty

-- whether a function wants at most so many arguments
abbrev pub wants_up_to : Option Signature → ℕ → Bool
wants_up_to None n = true
wants_up_to (Some s) n = nat_le (length s.params) n
