-- What open scopes say of functions and activities: each is declared with the position of one.
use Rattle.std.proofs.Common.{◌≡◌, ℕ, zero, suc, Bool, true, false, ◌&&◌, cond, List, [], ◌∷◌, ◌++◌, map, Option, Some, None, refl, ap, subst, ◌∙◌}
use Rattle.std.proofs.lemmas.Option.{same_Some}
use Rattle.std.specs.Prelude.{bytes_eq, slice_get}
use Rattle.std.specs.List.{list_all}
use Rattle.std.specs.Option.{option_or}
use Rattle.std.proofs.lemmas.List.Folds.{list_all-append}
use Rattle.std.proofs.lemmas.Bool.{and_from}
use Rattle.bl_tree.proofs.Basics.{all_weaker, and_first, and_second, get_in_front}
use Rattle.bl_tree.specs.declared.tree.Unit.{Unit as UnitDef}
use Rattle.bl_tree.specs.declared.tree.UnitKind.{UnitKind}
use Rattle.bl_tree.specs.Typing.{is_activity, is_function}
use Rattle.bl_parse_tree.specs.declared.name.Name.{Name}
use Rattle.bl_names_tree.specs.Placed.{holds_of}
use Rattle.bl_names_scopes.specs.declared.kind.Kind.{Kind}
use Rattle.bl_names_scopes.specs.declared.kind.Kind.TheVariants as kinds
use Rattle.bl_names_scopes.specs.declared.kind.Wanted.TheVariants as wants
use Rattle.bl_names_scopes.specs.declared.scopes.Declaration.{Declaration}
use Rattle.bl_names_scopes.specs.Kinds.{suits}
use Rattle.bl_names_scopes.specs.Marks.{declares}
use Rattle.bl_names_scopes.specs.Scopes.{Declared, Scopes, bound, bound_around, count_of, declaration_of, declared, enter, found}
use Rattle.bl_names.specs.Naming.{position, position_of}

abbrev pub kinds_of : List UnitDef → List UnitKind
kinds_of units = map (λ unit. unit.kind) units

-- whether these units have one of the kind at a position; of other kinds nothing is told
abbrev pub kind_told : List UnitKind → Kind → ℕ → Bool
kind_told units kinds.Function k = holds_of is_function (slice_get units k)
kind_told units kinds.Activity k = holds_of is_activity (slice_get units k)
kind_told units _ k = true

abbrev pub scope_told : List UnitKind → Declared → Bool
scope_told units scope = list_all (λ (entry : List ℕ × Declaration). kind_told units entry.1.kind entry.1.position) scope

-- so it is with every declaration in the open scopes
abbrev pub Told : List UnitKind → Scopes → Type 0
Told units scopes = (scope_told units scopes.inner ≡ true) × (list_all (scope_told units) scopes.outer ≡ true)

-- ---- what a use is bound to

abbrev DeclarationTold : List UnitKind → Declaration → Type 0
DeclarationTold units d = kind_told units d.kind d.position ≡ true

found_told : (units : List UnitKind) (scope : Declared) (name : List ℕ) (d : Declaration) → scope_told units scope ≡ true →
    found scope name ≡ Some d →
    DeclarationTold units d
found_told units [] name d told is = absurd (cc)
found_told units (entry ∷ rest) name d told is =
    elim (bytes_eq name entry.0) as (λ test. cond test (Some entry.1) (found rest name) ≡ Some d → DeclarationTold units d) [
      | true ↦ λ h.
          subst (DeclarationTold units) (same_Some entry.1 d h) (and_first (kind_told units entry.1.kind entry.1.position) (scope_told units rest) told)
      | false ↦ λ h. found_told units rest name d (and_second (kind_told units entry.1.kind entry.1.position) (scope_told units rest) told) h
    ] is

around_told : (units : List UnitKind) (outer : List Declared) (name : List ℕ) (d : Declaration) → list_all (scope_told units) outer ≡ true →
    bound_around outer name ≡ Some d → DeclarationTold units d
around_told units [] name d told is = absurd (cc)
around_told units (scope ∷ outer) name d told is =
    elim (found scope name) as (λ first. found scope name ≡ first → option_or first (bound_around outer name) ≡ Some d → DeclarationTold units d) [
      | Some e ↦ λ there h. found_told units scope name d (and_first (scope_told units scope) (list_all (scope_told units) outer) told) (there ∙ h)
      | None ↦ λ there h. around_told units outer name d (and_second (scope_told units scope) (list_all (scope_told units) outer) told) h
    ] refl is

bound_told : (units : List UnitKind) (scopes : Scopes) (name : List ℕ) (d : Declaration) → Told units scopes → bound scopes name ≡ Some d →
    DeclarationTold units d
bound_told units scopes name d told is =
    elim (found scopes.inner name) as (λ first. found scopes.inner name ≡ first → option_or first (bound_around scopes.outer name) ≡ Some d →
    DeclarationTold units d) [
      | Some e ↦ λ there h. found_told units scopes.inner name d told.0 (there ∙ h)
      | None ↦ λ there h. around_told units scopes.outer name d told.1 h
    ] refl is

pub kind_at : (test : UnitKind → Bool) (units : List UnitDef) (k : ℕ) → holds_of (λ (unit : UnitDef). test unit.kind) (slice_get units k)
    ≡ holds_of test (slice_get (kinds_of units) k)
kind_at test [] k = refl
kind_at test (unit ∷ units) zero = refl
kind_at test (unit ∷ units) (suc k) = kind_at test units k

suited_function : (units : List UnitKind) (kind : Kind) (k : ℕ) → suits wants.Function kind ≡ true → kind_told units kind k ≡ true →
    holds_of is_function (slice_get units k) ≡ true
suited_function units kinds.Struct k suited told = absurd (cc)
suited_function units kinds.Constant k suited told = absurd (cc)
suited_function units kinds.Variable k suited told = absurd (cc)
suited_function units kinds.Function k suited told = told
suited_function units kinds.Activity k suited told = absurd (cc)
suited_function units kinds.Field k suited told = absurd (cc)

suited_activity : (units : List UnitKind) (kind : Kind) (k : ℕ) → suits wants.Activity kind ≡ true → kind_told units kind k ≡ true →
    holds_of is_activity (slice_get units k) ≡ true
suited_activity units kinds.Struct k suited told = absurd (cc)
suited_activity units kinds.Constant k suited told = absurd (cc)
suited_activity units kinds.Variable k suited told = absurd (cc)
suited_activity units kinds.Function k suited told = absurd (cc)
suited_activity units kinds.Activity k suited told = told
suited_activity units kinds.Field k suited told = absurd (cc)

module _ (units : List UnitDef) (scopes : Scopes) (name : Name) (d : Declaration) (told : Told (kinds_of units) scopes)
    (is_bound : bound scopes name.text ≡ Some d) where
  -- a name that stands for a function has the position of one
  pub function_there : suits wants.Function d.kind ≡ true →
      holds_of (λ (unit : UnitDef). is_function unit.kind) (slice_get units (position scopes name)) ≡ true
  function_there suited =
      ap (λ found. holds_of (λ (unit : UnitDef). is_function unit.kind) (slice_get units (position_of found))) is_bound
      ∙ kind_at is_function units d.position ∙ suited_function (kinds_of units) d.kind d.position suited
      (bound_told (kinds_of units) scopes name.text d told is_bound)

  -- and one that stands for an activity that of one
  pub activity_there : suits wants.Activity d.kind ≡ true →
      holds_of (λ (unit : UnitDef). is_activity unit.kind) (slice_get units (position scopes name)) ≡ true
  activity_there suited =
      ap (λ found. holds_of (λ (unit : UnitDef). is_activity unit.kind) (slice_get units (position_of found))) is_bound
      ∙ kind_at is_activity units d.position ∙ suited_activity (kinds_of units) d.kind d.position suited
      (bound_told (kinds_of units) scopes name.text d told is_bound)

-- ---- where more is declared

declared_told : (units : List UnitKind) (earlier : Option Declaration) (scope : Declared) (name : Name) (kind : Kind) (k : ℕ) →
    scope_told units scope ≡ true → kind_told units kind k ≡ true → scope_told units (declared earlier scope name kind k) ≡ true
declared_told units (Some d) scope name kind k told one = told
declared_told units None scope name kind k told one =
    list_all-append (λ (entry : List ℕ × Declaration). kind_told units entry.1.kind entry.1.position) scope ((name.text, declaration_of name kind k) ∷ [])
    ∙ and_from (scope_told units scope) (kind_told units kind k && true) told (and_from (kind_told units kind k) true one refl)

pub told_declared : (units : List UnitKind) (scopes : Scopes) (name : Name) (kind : Kind) → kind_told units kind (count_of scopes.counts kind) ≡ true →
    Told units scopes → Told units (enter scopes (declares name kind))
told_declared units scopes name kind one told = (
  declared_told units (found scopes.inner name.text) scopes.inner name kind (count_of scopes.counts kind) told.0
      one,
  told.1,
)

-- ---- where there are more units

module _ (units more : List UnitKind) where
  found_more : (test : UnitKind → Bool) (k : ℕ) (found : Option UnitKind) → slice_get units k ≡ found → holds_of test found ≡ true →
      holds_of test (slice_get (units ++ more) k) ≡ true
  found_more test k (Some kind) is holds = ap (holds_of test) (get_in_front units more k kind is) ∙ holds
  found_more test k None is holds = absurd (cc)

  kind_more : (kind : Kind) (k : ℕ) → kind_told units kind k ≡ true → kind_told (units ++ more) kind k ≡ true
  kind_more kinds.Struct k told = refl
  kind_more kinds.Constant k told = refl
  kind_more kinds.Variable k told = refl
  kind_more kinds.Function k told = found_more is_function k (slice_get units k) refl told
  kind_more kinds.Activity k told = found_more is_activity k (slice_get units k) refl told
  kind_more kinds.Field k told = refl

  scope_more : (scope : Declared) → scope_told units scope ≡ true → scope_told (units ++ more) scope ≡ true
  scope_more scope told =
      all_weaker (λ (entry : List ℕ × Declaration). kind_told units entry.1.kind entry.1.position)
      (λ (entry : List ℕ × Declaration). kind_told (units ++ more) entry.1.kind entry.1.position)
      (λ entry. kind_more entry.1.kind entry.1.position) scope told

  -- what is told of these units is told of more of them
  pub told_more : (scopes : Scopes) → Told units scopes → Told (units ++ more) scopes
  told_more scopes told = (scope_more scopes.inner told.0, all_weaker (scope_told units) (scope_told (units ++ more)) scope_more scopes.outer told.1)
