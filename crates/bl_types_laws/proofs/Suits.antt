-- From the scopes before a part to those behind it, where a test holds of what is made of it.
use Rattle.std.proofs.Common.{◌≡◌, ◌+◌, Bool, true, ◌&&◌, List, [], ◌∷◌, ◌++◌, length, refl, sym, subst, ◌∙◌, arith}
use Rattle.std.specs.List.{list_all}
use Rattle.std.proofs.lemmas.List.Folds.{list_all-append}
use Rattle.std.proofs.lemmas.Bool.{and_from}
use Rattle.bl_tree.proofs.Basics.{plus_none}
use Rattle.bl_tree.specs.declared.tree.Unit.{Unit as UnitDef}
use Rattle.bl_names_tree.specs.declared.item.NamedConstant.{NamedConstant}
use Rattle.bl_names_tree.specs.declared.item.NamedVar.{NamedVar}
use Rattle.bl_names_scopes.specs.declared.kind.Kind.TheVariants as kind
use Rattle.bl_names_scopes.specs.Marks.{Marks, closes, declares, in_scope}
use Rattle.bl_names_scopes.specs.Scopes.{Scopes, after, enter}
use Rattle.bl_parse_tree.specs.declared.name.Name.{Name}
use Rattle.bl_names.specs.Named.{opened}
use Rattle.bl_names.proofs.PlacedStmt.{closed_is}
use Rattle.bl_names.proofs.StillLemmas.{Still, after-append}
use Rattle.bl_types_laws.specs.Within.{calls_functions}
use Rattle.bl_types_laws.proofs.Told.{Told, kinds_of, told_declared}
use Rattle.bl_names.proofs.PastLemmas.{more}

-- whether calls in the value of a constant name functions
abbrev pub constant_calls : List UnitDef → NamedConstant → Bool
constant_calls units constant = calls_functions units constant.value

-- a test holds of a part that declares these variables and constants, and no unit
pub record Suits (units : List UnitDef) (holds : Bool) (scopes new : Scopes) (vars : List NamedVar) (constants : List NamedConstant) : Type 0 where
  pub named : holds ≡ true
  pub told : Told (kinds_of units) new
  pub outer : new.outer ≡ scopes.outer
  pub more_vars : new.counts.variables ≡ scopes.counts.variables + length vars
  pub more_constants : new.counts.constants ≡ scopes.counts.constants + length constants
  pub same_units : new.counts.units ≡ scopes.counts.units
  pub calls : list_all (constant_calls units) constants ≡ true

pub told_opened : (units : List UnitDef) (scopes : Scopes) → Told (kinds_of units) scopes → Told (kinds_of units) (opened scopes)
told_opened units scopes told = (refl, and_from _ _ told.0 told.1)

module _ (units : List UnitDef) where
  -- one part and then another
  pub suits_then : (one other : Bool) (scopes middle new : Scopes) (vars more_vars : List NamedVar) (constants more_constants : List NamedConstant) →
      Suits units one scopes middle vars constants → Suits units other middle new more_vars more_constants →
      Suits units (one && other) scopes new (vars ++ more_vars) (constants ++ more_constants)
  suits_then one other scopes middle new vars more_vars constants more_constants first second = record {
    named = and_from one other first.named second.named;
    told = second.told;
    outer = second.outer ∙ first.outer;
    more_vars = more vars more_vars scopes.counts.variables middle.counts.variables new.counts.variables first.more_vars second.more_vars;
    more_constants = more constants more_constants scopes.counts.constants middle.counts.constants new.counts.constants first.more_constants
        second.more_constants;
    same_units = second.same_units ∙ first.same_units;
    calls = list_all-append (constant_calls units) constants more_constants
        ∙ and_from (list_all (constant_calls units) constants) (list_all (constant_calls units) more_constants) first.calls second.calls;
  }

  -- another test
  pub suits_so : (one other : Bool) (scopes new : Scopes) (vars : List NamedVar) (constants : List NamedConstant) → (one ≡ true → other ≡ true) →
      Suits units one scopes new vars constants → Suits units other scopes new vars constants
  suits_so one other scopes new vars constants so suits = record {
    named = so suits.named;
    told = suits.told;
    outer = suits.outer;
    more_vars = suits.more_vars;
    more_constants = suits.more_constants;
    same_units = suits.same_units;
    calls = suits.calls;
  }

  pub suits_none : (scopes : Scopes) → Told (kinds_of units) scopes → Suits units true scopes scopes [] []
  suits_none scopes told = record {
    named = refl;
    told = told;
    outer = refl;
    more_vars = plus_none scopes.counts.variables;
    more_constants = plus_none scopes.counts.constants;
    same_units = refl;
    calls = refl;
  }

  -- a part that declares nothing
  pub suits_still : (holds : Bool) (scopes : Scopes) (marks : Marks) → Still marks → Told (kinds_of units) scopes → holds ≡ true →
      Suits units holds scopes (after scopes marks) [] []
  suits_still holds scopes marks still told is =
      subst (λ new. Suits units holds scopes new [] []) (sym (still scopes)) (suits_so true holds scopes scopes [] [] (λ sure. is) (suits_none scopes told))

  -- a declaration of a variable
  pub suits_variable : (holds : Bool) (scopes : Scopes) (name : Name) (var : NamedVar) → Told (kinds_of units) scopes → holds ≡ true →
      Suits units holds scopes (enter scopes (declares name kind.Variable)) (var ∷ []) []
  suits_variable holds scopes name var told is = record {
    named = is;
    told = told_declared (kinds_of units) scopes name kind.Variable refl told;
    outer = refl;
    more_vars = refl;
    more_constants = plus_none scopes.counts.constants;
    same_units = refl;
    calls = refl;
  }

  -- and of a constant
  pub suits_constant : (scopes : Scopes) (name : Name) (constant : NamedConstant) → Told (kinds_of units) scopes →
      constant_calls units constant ≡ true →
      Suits units (constant_calls units constant) scopes (enter scopes (declares name kind.Constant)) [] (constant ∷ [])
  suits_constant scopes name constant told is = record {
    named = is;
    told = told_declared (kinds_of units) scopes name kind.Constant refl told;
    outer = refl;
    more_vars = plus_none scopes.counts.variables;
    more_constants = refl;
    same_units = refl;
    calls = and_from (constant_calls units constant) true is refl;
  }

  -- behind a scope of its own
  pub scope_is : (scopes : Scopes) (marks : Marks) → (after (opened scopes) marks).outer ≡ scopes.inner ∷ scopes.outer →
      after scopes (in_scope marks) ≡ record scopes { counts = (after (opened scopes) marks).counts }
  scope_is scopes marks is = after-append (opened scopes) marks (closes ∷ []) ∙ closed_is scopes (after (opened scopes) marks) is

  pub suits_closed : (holds : Bool) (scopes : Scopes) (marks : Marks) (vars : List NamedVar) (constants : List NamedConstant) →
      Told (kinds_of units) scopes →
      Suits units holds (opened scopes) (after (opened scopes) marks) vars constants → Suits units holds scopes (after scopes (in_scope marks)) vars constants
  suits_closed holds scopes marks vars constants told inside =
      subst (λ new. Suits units holds scopes new vars constants) (sym (scope_is scopes marks inside.outer))
      (record {
        named = inside.named;
        told = told;
        outer = refl;
        more_vars = inside.more_vars;
        more_constants = inside.more_constants;
        same_units = inside.same_units;
        calls = inside.calls;
      })
