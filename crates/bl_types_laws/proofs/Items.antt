-- What is known between units stays so after a struct and after a constant.
use Rattle.std.proofs.Common.{◌≡◌, ℕ, List, [], length, Some, refl, ap, sym, ◌∙◌}
use Rattle.std.specs.Prelude.{true, slice_get}
use Rattle.std.specs.List.{list_all}
use Rattle.std.proofs.lemmas.List.{append-nil}
use Rattle.bl_tree.proofs.Basics.{and_second}
use Rattle.bl_tree.specs.declared.tree.Field.{Field}
use Rattle.bl_tree.specs.declared.tree.StructDef.{StructDef}
use Rattle.bl_tree.specs.Types.{type_stands}
use Rattle.bl_names_tree.specs.declared.item.NamedConstant.{NamedConstant}
use Rattle.bl_names_tree.specs.declared.item.NamedStruct.{NamedStruct}
use Rattle.bl_names_tree.specs.Placed.{constant_placed, expr_placed, holds_if, struct_placed, type_placed}
use Rattle.bl_types.specs.declared.environment.Environment.{Environment}
use Rattle.bl_types.specs.declared.environment.Variable.{Variable}
use Rattle.bl_types.specs.Declarations.{after_constant, after_struct, constant_of, initial, struct_of}
use Rattle.bl_types_laws.specs.Standing.{Around, BetweenUnits, VariableKnown}
use Rattle.bl_types_laws.specs.Within.{calls_functions, known_in}
use Rattle.bl_types_laws.proofs.Declared.{constant_known}
use Rattle.bl_types_laws.proofs.Initials.{constant_fits}
use Rattle.bl_types_laws.proofs.Turns.{push_further}
use Rattle.bl_types_laws.proofs.TypesStand.{struct_stands}
use Rattle.bl_types_laws.proofs.Walks.{site_in, within_in}

nothing_known : (n : ℕ) (xs : List Variable) → xs ≡ [] → (k : ℕ) (known : Variable) → slice_get xs k ≡ Some known → VariableKnown n known
nothing_known n xs none k known is = absurd (let there : slice_get [] k ≡ Some known = ap (λ xs. slice_get xs k) (sym none) ∙ is in cc)

pub struct_between : (def : NamedStruct) (env : Environment) → BetweenUnits env → struct_placed (known_in env) def ≡ true →
    (after_struct def env).failures ≡ [] →
    BetweenUnits (after_struct def env).env
struct_between def env between placed none = record {
  vars = between.vars;
  known = record {
    vars = nothing_known (length (after_struct def env).env.structs) env.vars between.vars;
    fields = push_further (λ (k : ℕ) (def : StructDef). list_all (λ (field : Field). type_stands k field.ty) def.fields ≡ true)
        env.structs (struct_of env def)
        between.known.fields (struct_stands def env placed none);
    constants = between.known.constants;
  };
  heads = between.heads;
}

around_self : (env : Environment) → BetweenUnits env → Around env (site_in env)
around_self env between = record { later = []; structs = sym (append-nil env.structs); units = refl; kind = refl; result = refl; heads = between.heads }

pub constant_between : (constant : NamedConstant) (env : Environment) → BetweenUnits env → constant_placed (known_in env) constant ≡ true →
    calls_functions env.units constant.value ≡ true → (after_constant constant env).failures ≡ [] →
    BetweenUnits (after_constant constant env).env
constant_between constant env between placed calls none = record {
  vars = between.vars;
  known = constant_known env (constant_of constant.value (initial env constant.ty constant.value).valued) between.known
      (constant_fits env (site_in env) (within_in env (site_in env) (around_self env between) between.known) constant
      (and_second (holds_if (type_placed (known_in env)) constant.ty) (expr_placed (known_in env) constant.value) placed) calls none);
  heads = between.heads;
}
