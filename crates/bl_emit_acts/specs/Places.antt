-- Where the variables of a unit stand in C.
use Rattle.std.specs.Prelude.{ℕ, Bool, true, false, ◌&&◌, List, ◌∷◌, Option, Some, None, codes, is_some}
use Rattle.bl_tree.specs.declared.c.CPlace.{CPlace}
use Rattle.bl_tree.specs.declared.c.CStep.{CStep}
use Rattle.bl_tree.specs.declared.tree.Role.{Role}
use Rattle.bl_tree.specs.declared.tree.Role.TheVariants.{Input, Output, Variable, Fixed}
use Rattle.bl_tree.specs.declared.tree.Ty.{Ty}
use Rattle.bl_tree.specs.declared.tree.Var.{Var}
use Rattle.bl_tree.specs.Types.{scalar_in}
use Rattle.bl_tree.specs.Typing.{TypingContext, is_activity, is_function, var_at}
use Rattle.bl_emit_acts.specs.declared.home.Home.{Home}
use Rattle.bl_emit_acts.specs.declared.home.Home.TheVariants.{Held, Local, Lent}
use Rattle.bl_emit_acts.specs.Trees.{c_place, c_step}
use Rattle.bl_emit_acts.specs.Types.{variable_name}

-- the home of an input: a scalar is a parameter by value, and an aggregate a pointer. A function with a result first copies the latter, as it may not hand on
-- pointers that it was given
abbrev pub home_of_input : Bool → Bool → Home
home_of_input true copies = Local
home_of_input false true = Held
home_of_input false false = Lent

-- the home of a variable that the body declares: a local by itself (true), or a member of the struct of variables
abbrev pub home_of_declared : Bool → Home
home_of_declared true = Local
home_of_declared false = Held

-- the home of a variable by its role, and by whether declared variables of its type are locals; an output is a pointer
abbrev pub home_of_role : Bool → Role → Bool → Bool → Home
home_of_role alone Input scalar copies = home_of_input scalar copies
home_of_role alone Output scalar copies = Lent
home_of_role alone Variable scalar copies = home_of_declared alone
home_of_role alone Fixed scalar copies = home_of_declared alone

-- whether the unit of the site copies its aggregate inputs
abbrev pub copies_inputs : TypingContext → Bool
copies_inputs site = is_function site.kind && is_some site.result

-- whether a declared variable of a type is a local by itself: a scalar of a function is. An activity remembers all that it declares
abbrev pub is_alone : TypingContext → Ty → Bool
is_alone site ty = is_function site.kind && is_some (scalar_in ty)

-- the home of a variable of the site
abbrev pub home_of : TypingContext → Option Var → Home
home_of site (Some var) = home_of_role (is_alone site var.ty) var.role (is_some (scalar_in var.ty)) (copies_inputs site)
home_of site None = Held

-- the place to which the steps lead from the variable at a position among its unit's. An activity is given a pointer to what it remembers; a function has it
abbrev pub place_by_steps : Bool → Home → List Var → ℕ → List CStep → CPlace
place_by_steps activity Held vars k steps = c_place activity (codes "m") (c_step (variable_name vars k) ∷ steps)
place_by_steps activity Local vars k steps = c_place false (variable_name vars k) steps
place_by_steps activity Lent vars k steps = c_place true (variable_name vars k) steps

-- the place to which the steps lead from the variable at a position of the site
abbrev pub place_in : TypingContext → ℕ → List CStep → CPlace
place_in site k steps = place_by_steps (is_activity site.kind) (home_of site (var_at site k)) site.vars k steps
