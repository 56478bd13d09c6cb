-- Open scopes of which each variable has a position that passes a test.
use Rattle.std.proofs.Common.{◌≡◌, ℕ, ◌+◌, ◌<◌, ◌≤◌, Bool, true, false, cond, List, [], ◌∷◌, ◌++◌, refl, ap, subst, ◌∙◌, Option, Some, None, arith}
use Rattle.std.specs.Prelude.{bytes_eq, nat_lt, ⊤}
use Rattle.std.specs.Option.{option_or}
use Rattle.std.proofs.lemmas.Bool.{lt-ltb, ltb-true}
use Rattle.bl_parse_tree.specs.declared.name.Name.{Name}
use Rattle.bl_names_scopes.specs.declared.kind.Kind.{Kind}
use Rattle.bl_names_scopes.specs.declared.kind.Kind.TheVariants as kind
use Rattle.bl_names_scopes.specs.declared.scopes.Declaration.{Declaration}
use Rattle.bl_names_scopes.specs.Marks.{declares}
use Rattle.bl_names_scopes.specs.Scopes.{Declared, Scopes, bound, bound_around, count_of, declaration_of, declared, enter, found}

abbrev pub DeclarationOnly : (ℕ → Bool) → Declaration → Type 0
DeclarationOnly test declaration = declaration.kind ≡ kind.Variable → test declaration.position ≡ true

abbrev pub ScopeOnly : (ℕ → Bool) → Declared → Type 0
ScopeOnly test [] = ⊤
ScopeOnly test (entry ∷ rest) = DeclarationOnly test entry.1 × ScopeOnly test rest

abbrev pub OuterOnly : (ℕ → Bool) → List Declared → Type 0
OuterOnly test [] = ⊤
OuterOnly test (scope ∷ outer) = ScopeOnly test scope × OuterOnly test outer

-- the position of each variable that is declared in an open scope passes the test
abbrev pub Only : (ℕ → Bool) → Scopes → Type 0
Only test scopes = ScopeOnly test scopes.inner × OuterOnly test scopes.outer

-- less than what is declared next
abbrev pub below : ℕ → ℕ → Bool
below n k = nat_lt k n

abbrev pub Low : Scopes → Type 0
Low scopes = Only (below scopes.counts.variables) scopes

-- ---- what is bound

abbrev given : Option Declaration → Declaration → Declaration
given (Some declaration) other = declaration
given None other = other

module _ (test : ℕ → Bool) where
  found_only : (scope : Declared) (name : List ℕ) (declaration : Declaration) → ScopeOnly test scope → found scope name ≡ Some declaration
      → DeclarationOnly test declaration
  found_only [] name declaration only is = absurd (cc)
  found_only (entry ∷ rest) name declaration only is =
      elim (bytes_eq name entry.0) as (λ same. cond same (Some entry.1) (found rest name) ≡ Some declaration → DeclarationOnly test declaration) [
        | true ↦ λ h. subst (DeclarationOnly test) (ap (λ o. given o entry.1) h) only.0
        | false ↦ λ h. found_only rest name declaration only.1 h
      ] is

  around_only : (outer : List Declared) (name : List ℕ) (declaration : Declaration) → OuterOnly test outer → bound_around outer name ≡ Some declaration
      → DeclarationOnly test declaration
  around_only [] name declaration only is = absurd (cc)
  around_only (scope ∷ outer) name declaration only is =
      elim (found scope name) as (λ first. found scope name ≡ first → option_or first (bound_around outer name) ≡ Some declaration
      → DeclarationOnly test declaration) [
        | Some d ↦ λ there h. found_only scope name declaration only.0 (there ∙ h)
        | None ↦ λ there h. around_only outer name declaration only.1 h
      ] refl is

  pub bound_only : (scopes : Scopes) (name : List ℕ) (declaration : Declaration) → Only test scopes → bound scopes name ≡ Some declaration
      → DeclarationOnly test declaration
  bound_only scopes name declaration only is =
      elim (found scopes.inner name) as (λ first. found scopes.inner name ≡ first → option_or first (bound_around scopes.outer name) ≡ Some declaration
      → DeclarationOnly test declaration) [
        | Some d ↦ λ there h. found_only scopes.inner name declaration only.0 (there ∙ h)
        | None ↦ λ there h. around_only scopes.outer name declaration only.1 h
      ] refl is

  -- ---- where more is declared

  only_append : (first second : Declared) → ScopeOnly test first → ScopeOnly test second → ScopeOnly test (first ++ second)
  only_append [] second one two = two
  only_append (entry ∷ first) second one two = (one.0, only_append first second one.1 two)

  declared_only : (earlier : Option Declaration) (scope : Declared) (name : Name) (kind : Kind) (position : ℕ) →
      ScopeOnly test scope → DeclarationOnly test (declaration_of name kind position) → ScopeOnly test (declared earlier scope name kind position)
  declared_only (Some d) scope name kind position only one = only
  declared_only None scope name kind position only one = only_append scope ((name.text, declaration_of name kind position) ∷ []) only (one, tt)

  pub declare_only : (scopes : Scopes) (name : Name) (kind : Kind) → DeclarationOnly test (declaration_of name kind (count_of scopes.counts kind))
      → Only test scopes → Only test (enter scopes (declares name kind))
  declare_only scopes name kind one only =
      (declared_only (found scopes.inner name.text) scopes.inner name kind (count_of scopes.counts kind) only.0 one, only.1)

-- ---- a weaker test

module _ (test other : ℕ → Bool) (weaker : (k : ℕ) → test k ≡ true → other k ≡ true) where
  scope_weaker : (scope : Declared) → ScopeOnly test scope → ScopeOnly other scope
  scope_weaker [] only = tt
  scope_weaker (entry ∷ rest) only = ((λ is. weaker entry.1.position (only.0 is)), scope_weaker rest only.1)

  outer_weaker : (outer : List Declared) → OuterOnly test outer → OuterOnly other outer
  outer_weaker [] only = tt
  outer_weaker (scope ∷ outer) only = (scope_weaker scope only.0, outer_weaker outer only.1)

  pub only_weaker : (scopes : Scopes) → Only test scopes → Only other scopes
  only_weaker scopes only = (scope_weaker scopes.inner only.0, outer_weaker scopes.outer only.1)

-- ---- less than what is declared next

pub below_more : (m n k : ℕ) → m ≤ n → below m k ≡ true → below n k ≡ true
below_more m n k most is = less (ltb-true k m is)
  where
    less : k < m → below n k ≡ true
    less h = lt-ltb k n (omega arith)

pub low_variable : (scopes : Scopes) (name : Name) → Low scopes → Low (enter scopes (declares name kind.Variable))
low_variable scopes name low =
    let n = scopes.counts.variables in
    declare_only (below (n + 1)) scopes name kind.Variable (λ is. lt-ltb n (n + 1) (omega arith))
    (only_weaker (below n) (below (n + 1)) (λ k. below_more n (n + 1) k (omega arith)) scopes low)
