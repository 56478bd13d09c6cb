-- What is declared in an open scope has a lesser position than what is declared next.
use Rattle.std.proofs.Common.{◌≡◌, ℕ, ◌<◌, ◌≤◌, true, false, cond, List, [], ◌∷◌, ◌++◌, inl, inr, ⊎_elim, ◌⊎◌, Option, Some, None, refl, ap, subst, ◌∙◌, arith}
use Rattle.std.specs.Prelude.{bytes_eq, ⊤}
use Rattle.std.specs.Option.{option_or}
use Rattle.bl_names_scopes.specs.declared.kind.Kind.{Kind}
use Rattle.bl_names_scopes.specs.declared.kind.Kind.TheVariants as kind
use Rattle.bl_names_scopes.specs.declared.scopes.Counts.{Counts}
use Rattle.bl_names_scopes.specs.declared.scopes.Declaration.{Declaration}
use Rattle.bl_names_scopes.specs.Marks.{declares}
use Rattle.bl_names_scopes.specs.Scopes.{Declared, Scopes, bound, bound_around, count_of, counted, declaration_of, declared, enter, found}
use Rattle.bl_parse_tree.specs.declared.name.Name.{Name}

-- no use is bound to a field
abbrev pub DeclarationBelow : Counts → Declaration → Type 0
DeclarationBelow counts declaration = (declaration.kind ≡ kind.Field) ⊎ (declaration.position < count_of counts declaration.kind)

abbrev pub ScopeBelow : Counts → Declared → Type 0
ScopeBelow counts [] = ⊤
ScopeBelow counts (entry ∷ rest) = DeclarationBelow counts entry.1 × ScopeBelow counts rest

abbrev pub OuterBelow : Counts → List Declared → Type 0
OuterBelow counts [] = ⊤
OuterBelow counts (scope ∷ outer) = ScopeBelow counts scope × OuterBelow counts outer

-- so it is of everything in the open scopes
abbrev pub Below : Scopes → Type 0
Below scopes = ScopeBelow scopes.counts scopes.inner × OuterBelow scopes.counts scopes.outer

-- ---- what is bound

abbrev given : Option Declaration → Declaration → Declaration
given (Some declaration) other = declaration
given None other = other

found_below : (counts : Counts) (scope : Declared) (name : List ℕ) (declaration : Declaration) → ScopeBelow counts scope
    → found scope name ≡ Some declaration → DeclarationBelow counts declaration
found_below counts [] name declaration below is = absurd (cc)
found_below counts (entry ∷ rest) name declaration below is =
    elim (bytes_eq name entry.0) as (λ test. cond test (Some entry.1) (found rest name) ≡ Some declaration → DeclarationBelow counts declaration) [
      | true ↦ λ h. subst (DeclarationBelow counts) (ap (λ o. given o entry.1) h) below.0
      | false ↦ λ h. found_below counts rest name declaration below.1 h
    ] is

around_below : (counts : Counts) (outer : List Declared) (name : List ℕ) (declaration : Declaration) → OuterBelow counts outer
    → bound_around outer name ≡ Some declaration → DeclarationBelow counts declaration
around_below counts [] name declaration below is = absurd (cc)
around_below counts (scope ∷ outer) name declaration below is =
    elim (found scope name) as (λ first. found scope name ≡ first → option_or first (bound_around outer name) ≡ Some declaration
    → DeclarationBelow counts declaration) [
      | Some d ↦ λ there h. found_below counts scope name declaration below.0 (there ∙ h)
      | None ↦ λ there h. around_below counts outer name declaration below.1 h
    ] refl is

pub bound_below : (scopes : Scopes) (name : List ℕ) (declaration : Declaration) → Below scopes → bound scopes name ≡ Some declaration
    → DeclarationBelow scopes.counts declaration
bound_below scopes name declaration below is =
    elim (found scopes.inner name) as (λ first. found scopes.inner name ≡ first → option_or first (bound_around scopes.outer name) ≡ Some declaration
    → DeclarationBelow scopes.counts declaration) [
      | Some d ↦ λ there h. found_below scopes.counts scopes.inner name declaration below.0 (there ∙ h)
      | None ↦ λ there h. around_below scopes.counts scopes.outer name declaration below.1 h
    ] refl is

-- ---- where more is declared

-- no count is less
abbrev pub Grown : Counts → Counts → Type 0
Grown old new = (kind : Kind) → count_of old kind ≤ count_of new kind

declaration_grown : (old new : Counts) (declaration : Declaration) → Grown old new → DeclarationBelow old declaration → DeclarationBelow new declaration
declaration_grown old new declaration grown below =
    ⊎_elim (λ is. inl is) (λ less. let le : count_of old declaration.kind ≤ count_of new declaration.kind =
    grown declaration.kind in inr (omega arith)) below

pub scope_grown : (old new : Counts) (scope : Declared) → Grown old new → ScopeBelow old scope → ScopeBelow new scope
scope_grown old new [] grown below = tt
scope_grown old new (entry ∷ rest) grown below = (declaration_grown old new entry.1 grown below.0, scope_grown old new rest grown below.1)

pub outer_grown : (old new : Counts) (outer : List Declared) → Grown old new → OuterBelow old outer → OuterBelow new outer
outer_grown old new [] grown below = tt
outer_grown old new (scope ∷ outer) grown below = (scope_grown old new scope grown below.0, outer_grown old new outer grown below.1)

below_append : (counts : Counts) (first second : Declared) → ScopeBelow counts first → ScopeBelow counts second → ScopeBelow counts (first ++ second)
below_append counts [] second one two = two
below_append counts (entry ∷ first) second one two = (one.0, below_append counts first second one.1 two)

pub declared_below : (counts : Counts) (earlier : Option Declaration) (scope : Declared) (name : Name) (kind : Kind) (position : ℕ) →
    ScopeBelow counts scope → DeclarationBelow counts (declaration_of name kind position) → ScopeBelow counts (declared earlier scope name kind position)
declared_below counts (Some d) scope name kind position below one = below
declared_below counts None scope name kind position below one =
    below_append counts scope ((name.text, declaration_of name kind position) ∷ []) below (one, tt)

pub declare_below : (scopes : Scopes) (name : Name) (kind : Kind) → Grown scopes.counts (counted scopes.counts kind) →
    DeclarationBelow (counted scopes.counts kind) (declaration_of name kind (count_of scopes.counts kind)) → Below scopes
    → Below (enter scopes (declares name kind))
declare_below scopes name kind grown one below = (
  declared_below (counted scopes.counts kind) (found scopes.inner name.text) scopes.inner name kind (count_of scopes.counts kind)
      (scope_grown scopes.counts (counted scopes.counts kind) scopes.inner grown below.0) one,
  outer_grown scopes.counts (counted scopes.counts kind) scopes.outer grown below.1,
)

variable_grown : (counts : Counts) → Grown counts (counted counts kind.Variable)
variable_grown counts kind.Struct = omega arith
variable_grown counts kind.Constant = omega arith
variable_grown counts kind.Variable = omega arith
variable_grown counts kind.Function = omega arith
variable_grown counts kind.Activity = omega arith
variable_grown counts kind.Field = omega arith

constant_grown : (counts : Counts) → Grown counts (counted counts kind.Constant)
constant_grown counts kind.Struct = omega arith
constant_grown counts kind.Constant = omega arith
constant_grown counts kind.Variable = omega arith
constant_grown counts kind.Function = omega arith
constant_grown counts kind.Activity = omega arith
constant_grown counts kind.Field = omega arith

struct_grown : (counts : Counts) → Grown counts (counted counts kind.Struct)
struct_grown counts kind.Struct = omega arith
struct_grown counts kind.Constant = omega arith
struct_grown counts kind.Variable = omega arith
struct_grown counts kind.Function = omega arith
struct_grown counts kind.Activity = omega arith
struct_grown counts kind.Field = omega arith

pub variable_below : (scopes : Scopes) (name : Name) → Below scopes → Below (enter scopes (declares name kind.Variable))
variable_below scopes name = declare_below scopes name kind.Variable (variable_grown scopes.counts) (inr (omega arith))

pub constant_below : (scopes : Scopes) (name : Name) → Below scopes → Below (enter scopes (declares name kind.Constant))
constant_below scopes name = declare_below scopes name kind.Constant (constant_grown scopes.counts) (inr (omega arith))

pub struct_below : (scopes : Scopes) (name : Name) → Below scopes → Below (enter scopes (declares name kind.Struct))
struct_below scopes name = declare_below scopes name kind.Struct (struct_grown scopes.counts) (inr (omega arith))
