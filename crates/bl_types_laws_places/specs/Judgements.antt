-- Judgements whose places are mapped.
use Rattle.std.specs.Prelude.{◌≡◌, map, option_map}
use Rattle.bl_tree.specs.declared.place.Place.{Place}
use Rattle.bl_tree_laws_places.specs.Placed.{placed_expr, placed_path}
use Rattle.bl_names_laws_places.specs.Renamed.{Renaming}
use Rattle.bl_types.specs.declared.form.Form.{Form}
use Rattle.bl_types.specs.declared.form.Form.TheVariants as form
use Rattle.bl_types.specs.declared.form.Found.{Found}
use Rattle.bl_types.specs.declared.form.Found.TheVariants as found
use Rattle.bl_types.specs.declared.form.Valued.{Valued}
use Rattle.bl_types.specs.Declarations.{Declaring, Initial}
use Rattle.bl_types.specs.Expressions.{Formed, Judged, Targeted}
use Rattle.bl_types.specs.Settled.{Settled}
use Rattle.bl_types.specs.Statements.{Arguments, Lent, RunTarget}
use Rattle.bl_types_laws_places.specs.Agree.{EnvironmentsAgree, placed_failures}

-- ---- expressions

-- what is known of an expression, with all places in its tree mapped
abbrev pub placed_form : (Place → Place) → Form → Form
placed_form f form.Failing = form.Failing
placed_form f (form.Open e) = form.Open (placed_expr f e)
placed_form f (form.Of ty e) = form.Of ty (placed_expr f e)

-- the judgement of an expression, with all places mapped
abbrev pub placed_judged : (Place → Place) → Judged → Judged
placed_judged f judged = record { place = f judged.place; form = placed_form f judged.form; failures = placed_failures f judged.failures }

-- what a form comes to, with all places mapped
abbrev pub placed_formed : (Place → Place) → Formed → Formed
placed_formed f formed = record { form = placed_form f formed.form; failures = placed_failures f formed.failures }

-- an expression in its place, with all places mapped
abbrev pub placed_settled : (Place → Place) → Settled → Settled
placed_settled f settled = record { made = option_map (placed_expr f) settled.made; failures = placed_failures f settled.failures }

-- ---- targets

-- what a target leads to, with all places in its path mapped
abbrev pub placed_found : (Place → Place) → Found → Found
placed_found f found.Nothing = found.Nothing
placed_found f (found.Constant s n) = found.Constant s n
placed_found f (found.Place path) = found.Place (placed_path f path)

-- the judgement of a target, with all places mapped
abbrev pub placed_targeted : (Place → Place) → Targeted → Targeted
placed_targeted f targeted = record { found = placed_found f targeted.found; failures = placed_failures f targeted.failures }

-- ---- arguments

-- a path that stands for an output or takes a result, with all places mapped
abbrev pub placed_lent : (Place → Place) → Lent → Lent
placed_lent f lent = record { made = option_map (placed_path f) lent.made; failures = placed_failures f lent.failures }

-- the arguments of a call or run, with all places mapped
abbrev pub placed_arguments : (Place → Place) → Arguments → Arguments
placed_arguments f arguments = record {
  inputs = map (placed_expr f) arguments.inputs;
  outputs = map (placed_path f) arguments.outputs;
  complete = arguments.complete;
  failures = placed_failures f arguments.failures;
}

-- the target of a run, with all places mapped
abbrev pub placed_run_target : (Place → Place) → RunTarget → RunTarget
placed_run_target f target = record { made = option_map (option_map (placed_path f)) target.made; failures = placed_failures f target.failures }

-- ---- declarations

-- what an initial value gives, with all places in its tree mapped
abbrev pub placed_valued : (Place → Place) → Valued → Valued
placed_valued f valued = record { ty = valued.ty; value = option_map (placed_expr f) valued.value }

-- the judgement of an initial value, with all places mapped
abbrev pub placed_initial : (Place → Place) → Initial → Initial
placed_initial f initial = record { valued = placed_valued f initial.valued; failures = placed_failures f initial.failures }

-- a declaration fails at the mapped places, and what is known after it corresponds
pub record DeclaringsAgree (by : Renaming) (near far : Declaring) : Type 0 where
  pub env : EnvironmentsAgree by near.env far.env
  pub failures : far.failures ≡ placed_failures by.place near.failures
