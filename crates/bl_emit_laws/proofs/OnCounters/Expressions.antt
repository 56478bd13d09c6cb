-- What is made of expressions and paths names no counter.
use Rattle.std.proofs.Common.{◌≡◌, ℕ, ℤ, Bool, false, List, [], ◌∷◌, map}
use Rattle.std.specs.Prelude.{All}
use Rattle.bl_tree.specs.declared.text.Text.{Text}
use Rattle.bl_tree.specs.declared.c.CArg.{CArg}
use Rattle.bl_tree.specs.declared.c.CArg.TheVariants.{Value, Address}
use Rattle.bl_tree.specs.declared.c.CExpr.{CExpr}
use Rattle.bl_tree.specs.declared.c.CPlace.{CPlace}
use Rattle.bl_tree.specs.declared.c.CStep.{CStep}
use Rattle.bl_tree.specs.declared.scalar.Op.{Op}
use Rattle.bl_tree.specs.declared.scalar.Scalar.{Scalar as ScalarType}
use Rattle.bl_tree.specs.declared.tree.Expr.{Expr}
use Rattle.bl_tree.specs.declared.tree.Path.{Path}
use Rattle.bl_tree.specs.Reduce.{joined}
use Rattle.bl_tree.specs.Typing.{TypingContext}
use Rattle.bl_emit_acts.specs.Expressions.{arg_of, code_of, hidden, made_of, stands}
use Rattle.bl_emit_acts.specs.Places.{place_in}
use Rattle.bl_emit_acts.specs.Trees.{c_call, c_literal, c_not, c_place, c_read, c_step, c_two}
use Rattle.bl_ctext_places.specs.Counters.{is_counter_name, names_counter}
use Rattle.bl_ctext_places.specs.Places.{CPath, parts_of_step, places_in, places_in_arg, places_in_call, places_in_place}
use Rattle.bl_emit_laws.proofs.OnCounters.Fine.{Fine}
use Rattle.bl_emit_laws.proofs.OnCounters.Paths as paths

-- no name is asked for
abbrev Any : Text → Type 0
Any name = Unit {0}

abbrev any : paths.OfVariables Any
any = record { variable = λ vars k. tt; copy = λ vars k. tt; memory = tt }

module _ (P : CPath → Type 0) (plain : (place : CPath) → names_counter place ≡ false → P place) where
  abbrev pub ExprFine : CExpr → Type 0
  ExprFine e = Fine P (places_in e)

  abbrev pub PlaceFine : CPlace → Type 0
  PlaceFine place = Fine P (places_in_place place)

  abbrev pub ArgsFine : List CArg → Type 0
  ArgsFine args = Fine P (joined (map places_in_arg args))

  abbrev plainly : (place : CPath) → names_counter place ≡ false → Any place.name → P place
  plainly place none named = plain place none

  abbrev StepsFine : List CStep → Type 0
  StepsFine = paths.StepsFine P Any any plainly

  pub member-fine : (member : Text) → is_counter_name member ≡ false → paths.Passes P Any any plainly (parts_of_step (c_step member))
  member-fine = paths.member-fine P Any any plainly

  pub place-fine : (through : Bool) (name : Text) (steps : List CStep) → StepsFine steps → PlaceFine (c_place through name steps)
  place-fine through name steps all = paths.place-fine P Any any plainly through name steps tt all

  pub root-fine : (through : Bool) (name : Text) → PlaceFine (c_place through name [])
  root-fine through name = paths.root-fine P Any any plainly through name tt

  pub literal-fine : (s : ScalarType) (v : ℤ) → ExprFine (c_literal s v)
  literal-fine = paths.literal-fine P Any any plainly

  pub read-fine : (place : CPlace) → PlaceFine place → ExprFine (c_read place)
  read-fine = paths.read-fine P Any any plainly

  pub not-fine : (a : CExpr) → ExprFine a → ExprFine (c_not a)
  not-fine = paths.not-fine P Any any plainly

  pub two-fine : (op : Op) (a b : CExpr) → ExprFine a → ExprFine b → ExprFine (c_two op a b)
  two-fine = paths.two-fine P Any any plainly

  pub call-fine : (name : Text) (args : List CArg) → ArgsFine args → Fine P (places_in_call (c_call name args))
  call-fine = paths.call-fine P Any any plainly

  pub value-fine : (a : CExpr) → ExprFine a → Fine P (places_in_arg (Value a))
  value-fine = paths.value-fine P Any any plainly

  pub address-fine : (place : CPlace) → PlaceFine place → Fine P (places_in_arg (Address place))
  address-fine = paths.address-fine P Any any plainly

  pub first-arg : (arg : CArg) (args : List CArg) → Fine P (places_in_arg arg) → ArgsFine args → ArgsFine (arg ∷ args)
  first-arg = paths.first-arg P Any any plainly

  pub hidden-fine : (s : ScalarType) (a : CExpr) → ExprFine a → ExprFine (hidden s a)
  hidden-fine = paths.hidden-fine P Any any plainly

  pub args_fine : (site : TypingContext) (inputs : List Expr) → All (λ e. ExprFine (code_of (made_of site e))) inputs →
      ArgsFine (map arg_of (map (made_of site) inputs))
  args_fine = paths.args_fine P Any any plainly

  -- the place of a variable names no counter
  pub own_fine : (site : TypingContext) (k : ℕ) → PlaceFine (place_in site k [])
  own_fine = paths.own_fine P Any any plainly

  -- what is made of an expression names no counter
  pub expr_fine : (site : TypingContext) (e : Expr) → ExprFine (code_of (made_of site e))
  expr_fine = paths.expr_fine P Any any plainly

  -- and neither does the place of a path
  pub path_fine : (site : TypingContext) (path : Path) → PlaceFine (stands site path).place
  path_fine = paths.path_fine P Any any plainly
