-- What is declared in an open scope stands at its position, under its name.
use Rattle.std.proofs.Common.{◌≡◌, ℕ, true, false, cond, List, [], ◌∷◌, ◌++◌, Option, Some, None, refl, sym, ap, subst, ◌∙◌}
use Rattle.std.specs.Prelude.{bytes_eq, option_map, ⊤}
use Rattle.std.specs.Option.{option_or}
use Rattle.std.proofs.lemmas.Slice.Eq.{bytes_eq-Decides}
use Rattle.bl_parse_tree.specs.declared.name.Name.{Name}
use Rattle.bl_names_tree.specs.declared.item.NamedVar.{NamedVar}
use Rattle.bl_names_tree.specs.declared.named.Named.{Named}
use Rattle.bl_names_scopes.specs.declared.kind.Kind.{Kind}
use Rattle.bl_names_scopes.specs.declared.kind.Kind.TheVariants as kinds
use Rattle.bl_names_scopes.specs.declared.kind.Wanted.TheVariants as wants
use Rattle.bl_names_scopes.specs.declared.scopes.Declaration.{Declaration}
use Rattle.bl_names_scopes.specs.Kinds.{suits}
use Rattle.bl_names_scopes.specs.Marks.{declares}
use Rattle.bl_names_scopes.specs.Scopes.{Declared, Scopes, bound, bound_around, count_of, declaration_of, declared, enter, found}
use Rattle.bl_names_laws.specs.Referents.{constant_at, struct_at, unit_at, variable_at}

-- what stands at a position, by its kind; no use names a field
abbrev pub at_position : Named → List NamedVar → Kind → ℕ → Option Name
at_position named vars kinds.Struct k = struct_at named k
at_position named vars kinds.Constant k = constant_at named k
at_position named vars kinds.Variable k = variable_at vars k
at_position named vars kinds.Function k = unit_at named k
at_position named vars kinds.Activity k = unit_at named k
at_position named vars kinds.Field k = None

-- a text at the place of a declaration
abbrev pub name_at : List ℕ → Declaration → Name
name_at text declaration = record { text = text; place = declaration.place }

-- the name of what a name stands for
abbrev pub bound_name : Scopes → Name → Option Name
bound_name scopes name = option_map (name_at name.text) (bound scopes name.text)

abbrev given : Option Declaration → Declaration → Declaration
given (Some declaration) other = declaration
given None other = other

module _ (named : Named) (vars : List NamedVar) where
  abbrev pub DeclarationListed : List ℕ → Declaration → Type 0
  DeclarationListed text declaration = at_position named vars declaration.kind declaration.position ≡ Some (name_at text declaration)

  abbrev pub ScopeListed : Declared → Type 0
  ScopeListed [] = ⊤
  ScopeListed (entry ∷ rest) = DeclarationListed entry.0 entry.1 × ScopeListed rest

  abbrev pub OuterListed : List Declared → Type 0
  OuterListed [] = ⊤
  OuterListed (scope ∷ outer) = ScopeListed scope × OuterListed outer

  -- so it is with everything in the open scopes
  abbrev pub Listed : Scopes → Type 0
  Listed scopes = ScopeListed scopes.inner × OuterListed scopes.outer

  -- ---- what is bound

  found_listed : (scope : Declared) (name : List ℕ) (declaration : Declaration) → ScopeListed scope → found scope name ≡ Some declaration →
      DeclarationListed name declaration
  found_listed [] name declaration listed is = absurd (cc)
  found_listed (entry ∷ rest) name declaration listed is =
      elim (bytes_eq name entry.0) as (λ same. bytes_eq name entry.0 ≡ same → cond same (Some entry.1) (found rest name) ≡ Some declaration →
      DeclarationListed name declaration) [
        | true ↦ λ same h.
            subst (DeclarationListed name) (ap (λ o. given o entry.1) h)
            (subst (λ text. DeclarationListed text entry.1) (sym ((bytes_eq-Decides name entry.0).0 same)) listed.0)
        | false ↦ λ same h. found_listed rest name declaration listed.1 h
      ] refl is

  around_listed : (outer : List Declared) (name : List ℕ) (declaration : Declaration) → OuterListed outer →
      bound_around outer name ≡ Some declaration →
      DeclarationListed name declaration
  around_listed [] name declaration listed is = absurd (cc)
  around_listed (scope ∷ outer) name declaration listed is =
      elim (found scope name) as (λ first. found scope name ≡ first → option_or first (bound_around outer name) ≡ Some declaration →
      DeclarationListed name declaration) [
        | Some d ↦ λ there h. found_listed scope name declaration listed.0 (there ∙ h)
        | None ↦ λ there h. around_listed outer name declaration listed.1 h
      ] refl is

  pub bound_listed : (scopes : Scopes) (name : List ℕ) (declaration : Declaration) → Listed scopes → bound scopes name ≡ Some declaration →
      DeclarationListed name declaration
  bound_listed scopes name declaration listed is =
      elim (found scopes.inner name) as
      (λ first. found scopes.inner name ≡ first → option_or first (bound_around scopes.outer name) ≡ Some declaration →
      DeclarationListed name declaration) [
        | Some d ↦ λ there h. found_listed scopes.inner name declaration listed.0 (there ∙ h)
        | None ↦ λ there h. around_listed scopes.outer name declaration listed.1 h
      ] refl is

  -- ---- where more is declared

  listed_append : (first second : Declared) → ScopeListed first → ScopeListed second → ScopeListed (first ++ second)
  listed_append [] second one two = two
  listed_append (entry ∷ first) second one two = (one.0, listed_append first second one.1 two)

  declared_listed : (earlier : Option Declaration) (scope : Declared) (name : Name) (kind : Kind) (position : ℕ) → ScopeListed scope →
      DeclarationListed name.text (declaration_of name kind position) → ScopeListed (declared earlier scope name kind position)
  declared_listed (Some d) scope name kind position listed one = listed
  declared_listed None scope name kind position listed one =
      listed_append scope ((name.text, declaration_of name kind position) ∷ []) listed (one, tt)

  pub declare_listed : (scopes : Scopes) (name : Name) (kind : Kind) → at_position named vars kind (count_of scopes.counts kind) ≡ Some name →
      Listed scopes → Listed (enter scopes (declares name kind))
  declare_listed scopes name kind one listed =
      (declared_listed (found scopes.inner name.text) scopes.inner name kind (count_of scopes.counts kind) listed.0 one, listed.1)

-- ---- what suits

module _ (named : Named) (vars : List NamedVar) where
  -- a position of the kind that is wanted leads to what stands at it
  pub variable_suits : (kind : Kind) (k : ℕ) → suits wants.Variable kind ≡ true → variable_at vars k ≡ at_position named vars kind k
  variable_suits kinds.Struct k suited = absurd (cc)
  variable_suits kinds.Constant k suited = absurd (cc)
  variable_suits kinds.Variable k suited = refl
  variable_suits kinds.Function k suited = absurd (cc)
  variable_suits kinds.Activity k suited = absurd (cc)
  variable_suits kinds.Field k suited = absurd (cc)

  pub struct_suits : (kind : Kind) (k : ℕ) → suits wants.Type kind ≡ true → struct_at named k ≡ at_position named vars kind k
  struct_suits kinds.Struct k suited = refl
  struct_suits kinds.Constant k suited = absurd (cc)
  struct_suits kinds.Variable k suited = absurd (cc)
  struct_suits kinds.Function k suited = absurd (cc)
  struct_suits kinds.Activity k suited = absurd (cc)
  struct_suits kinds.Field k suited = absurd (cc)

  pub constant_suits : (kind : Kind) (k : ℕ) → suits wants.Length kind ≡ true → constant_at named k ≡ at_position named vars kind k
  constant_suits kinds.Struct k suited = absurd (cc)
  constant_suits kinds.Constant k suited = refl
  constant_suits kinds.Variable k suited = absurd (cc)
  constant_suits kinds.Function k suited = absurd (cc)
  constant_suits kinds.Activity k suited = absurd (cc)
  constant_suits kinds.Field k suited = absurd (cc)

  pub function_suits : (kind : Kind) (k : ℕ) → suits wants.Function kind ≡ true → unit_at named k ≡ at_position named vars kind k
  function_suits kinds.Struct k suited = absurd (cc)
  function_suits kinds.Constant k suited = absurd (cc)
  function_suits kinds.Variable k suited = absurd (cc)
  function_suits kinds.Function k suited = refl
  function_suits kinds.Activity k suited = absurd (cc)
  function_suits kinds.Field k suited = absurd (cc)

  pub activity_suits : (kind : Kind) (k : ℕ) → suits wants.Activity kind ≡ true → unit_at named k ≡ at_position named vars kind k
  activity_suits kinds.Struct k suited = absurd (cc)
  activity_suits kinds.Constant k suited = absurd (cc)
  activity_suits kinds.Variable k suited = absurd (cc)
  activity_suits kinds.Function k suited = absurd (cc)
  activity_suits kinds.Activity k suited = refl
  activity_suits kinds.Field k suited = absurd (cc)
