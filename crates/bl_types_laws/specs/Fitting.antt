-- What is made of a named tree fits its site.
use Rattle.std.specs.Prelude.{◌≡◌, true, [], Option, Some, List, map, length}
use Rattle.bl_tree.specs.declared.scalar.Scalar.{Scalar as ScalarType}
use Rattle.bl_tree.specs.declared.tree.Expr.{Expr}
use Rattle.bl_tree.specs.declared.tree.Path.{Path, out-Path}
use Rattle.bl_tree.specs.declared.tree.Ty.{Ty}
use Rattle.bl_tree.specs.declared.tree.Var.{Var}
use Rattle.bl_tree.specs.Reduce.{all_of}
use Rattle.bl_tree.specs.Scalar.{in_range, is_whole}
use Rattle.bl_tree.specs.Types.{scalar}
use Rattle.bl_tree.specs.Typing.{TypingContext, is_outlet, type_of, type_of_path, types_match}
use Rattle.bl_types.specs.declared.form.Form.{Form}
use Rattle.bl_types.specs.declared.form.Form.TheVariants.{Failing, Open, Of}
use Rattle.bl_types.specs.declared.form.Found.{Found}
use Rattle.bl_types.specs.declared.form.Found.TheVariants as found
use Rattle.bl_types.specs.declared.form.Valued.{Valued}
use Rattle.bl_types.specs.Settled.{Settled, settled}
use Rattle.bl_types.specs.Statements.{Lent, paths_made}

-- an expression of the type is made
pub record IsMade (site : TypingContext) (ty : Ty) (made : Option Expr) : Type 0 where
  pub it : Expr
  pub is : made ≡ Some it
  pub is_typed : type_of site it ≡ Some ty

-- where nothing fails, an expression of the type is made
abbrev pub SettledFits : TypingContext → Ty → Settled → Type 0
SettledFits site ty settled = settled.failures ≡ [] → IsMade site ty settled.made

-- an open expression takes each whole-number type at which nothing in it fails
abbrev pub OpenFits : TypingContext → Expr → Type 0
OpenFits site e = (s : ScalarType) → is_whole s ≡ true → SettledFits site (scalar s) (settled s e)

-- an expression is not failing: it is open, or has its type at the site
abbrev pub FormFits : TypingContext → Form → Type 0
FormFits site Failing = ⊥
FormFits site (Open e) = OpenFits site e
FormFits site (Of ty e) = type_of site e ≡ Some ty

-- what a target leads to is there: a number of a constant's type, or a path of its type at the site
abbrev pub FoundFits : TypingContext → Found → Type 0
FoundFits site found.Nothing = ⊥
FoundFits site (found.Constant s n) = in_range s n ≡ true
FoundFits site (found.Place path) = type_of_path site path ≡ Some (out-Path path).ty

-- a path of the type is made, that may stand for an output or take a result
pub record IsLent (site : TypingContext) (ty : Ty) (made : Option Path) : Type 0 where
  pub it : Path
  pub is : made ≡ Some it
  pub is_typed : type_of_path site it ≡ Some ty
  pub is_outlet_there : is_outlet site it ≡ true

-- paths are made one for each parameter, have the types of the parameters, and may stand for outputs
pub record AllLent (site : TypingContext) (params : List Var) (all : List Lent) : Type 0 where
  pub count : length (paths_made all) ≡ length all
  pub match : types_match (map (type_of_path site) (paths_made all)) params ≡ true
  pub outlets : all_of (map (is_outlet site) (paths_made all)) ≡ true

-- an initial value has a type, and is made with it
pub record InitialFits (site : TypingContext) (valued : Valued) : Type 0 where
  pub ty : Ty
  pub it : Expr
  pub is_typed : valued.ty ≡ Some ty
  pub is_made : valued.value ≡ Some it
  pub fits : type_of site it ≡ Some ty
