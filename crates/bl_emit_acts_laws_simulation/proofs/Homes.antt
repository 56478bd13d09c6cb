-- Which homes variables have, by their roles.
use Rattle.std.proofs.Common.{◌≡◌, Bool, true, false, not, ◌&&◌, ◌||◌, Some, refl, ap, ◌∙◌}
use Rattle.std.specs.Prelude.{is_some}
use Rattle.bl_tree.specs.declared.tree.Role.{Role}
use Rattle.bl_tree.specs.declared.tree.Role.TheVariants.{Input, Output, Variable, Fixed}
use Rattle.bl_tree.specs.declared.tree.Ty.{Ty}
use Rattle.bl_tree.specs.declared.tree.Var.{Var}
use Rattle.bl_tree.specs.Program.{is_input, is_output}
use Rattle.bl_tree.specs.Types.{scalar_in}
use Rattle.bl_tree.specs.Typing.{TypingContext, is_activity, is_fixed, is_variable}
use Rattle.bl_emit_acts.specs.declared.home.Home.TheVariants.{Held, Lent}
use Rattle.bl_emit_acts.specs.Places.{copies_inputs, home_of, home_of_declared, home_of_role, is_alone}

-- ---- activities

-- no variable of an activity is a local by itself
pub activity_alone : (site : TypingContext) (ty : Ty) → is_activity site.kind ≡ true → is_alone site ty ≡ false
activity_alone site ty active = ap (λ activity. not activity && is_some (scalar_in ty)) active

-- an activity copies no input
pub activity_copies : (site : TypingContext) → is_activity site.kind ≡ true → copies_inputs site ≡ false
activity_copies site active = ap (λ activity. not activity && is_some site.result) active

-- so a variable's home is told by its role
pub activity_home : (site : TypingContext) (var : Var) → is_activity site.kind ≡ true →
    home_of site (Some var) ≡ home_of_role false var.role (is_some (scalar_in var.ty)) false
activity_home site var active =
    ap (λ alone. home_of_role alone var.role (is_some (scalar_in var.ty)) (copies_inputs site)) (activity_alone site var.ty active)
    ∙ ap (home_of_role false var.role (is_some (scalar_in var.ty))) (activity_copies site active)

-- ---- the homes of roles

-- an output is lent, whether declared variables are locals or not
pub output_home : (alone : Bool) (role : Role) (scalar copies : Bool) → is_output role ≡ true → home_of_role alone role scalar copies ≡ Lent
output_home alone Input scalar copies is = absurd (cc)
output_home alone Output scalar copies is = refl
output_home alone Variable scalar copies is = absurd (cc)
output_home alone Fixed scalar copies is = absurd (cc)

-- a declared variable is a local or held
pub declared_home : (alone : Bool) (role : Role) (scalar copies : Bool) → (is_variable role || is_fixed role) ≡ true →
    home_of_role alone role scalar copies ≡ home_of_declared alone
declared_home alone Input scalar copies is = absurd (cc)
declared_home alone Output scalar copies is = absurd (cc)
declared_home alone Variable scalar copies is = refl
declared_home alone Fixed scalar copies is = refl

-- what is lent and no input is an output
pub lent_output : (alone : Bool) (role : Role) (scalar copies : Bool) → home_of_role alone role scalar copies ≡ Lent → is_input role ≡ false →
    is_output role ≡ true
lent_output alone Input scalar copies is no_input = absurd (cc)
lent_output alone Output scalar copies is no_input = refl
lent_output true Variable scalar copies is no_input = absurd (cc)
lent_output false Variable scalar copies is no_input = absurd (cc)
lent_output true Fixed scalar copies is no_input = absurd (cc)
lent_output false Fixed scalar copies is no_input = absurd (cc)

-- no output is held
pub output_unheld : (alone : Bool) (role : Role) (scalar copies : Bool) → is_output role ≡ true → home_of_role alone role scalar copies ≡ Held → ⊥
output_unheld alone Input scalar copies output is = absurd (cc)
output_unheld alone Output scalar copies output is = cc
output_unheld alone Variable scalar copies output is = absurd (cc)
output_unheld alone Fixed scalar copies output is = absurd (cc)

-- and no input, where inputs aren't copied
pub input_unheld : (alone : Bool) (role : Role) (scalar : Bool) → is_input role ≡ true → home_of_role alone role scalar false ≡ Held → ⊥
input_unheld alone Input true input is = cc
input_unheld alone Input false input is = cc
input_unheld alone Output scalar input is = absurd (cc)
input_unheld alone Variable scalar input is = absurd (cc)
input_unheld alone Fixed scalar input is = absurd (cc)

-- a declared variable isn't lent
pub declared_unlent : (alone : Bool) → home_of_declared alone ≡ Lent → ⊥
declared_unlent true is = cc
declared_unlent false is = cc
