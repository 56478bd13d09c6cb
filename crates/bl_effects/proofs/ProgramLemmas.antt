-- How what was told unit by unit comes to what is told of the program.
use Rattle.std.proofs.Common.{◌≡◌, ℕ, ◌+◌, ◌<◌, ◌≤◌, List, [], ◌∷◌, ◌++◌, inl, inr, ⊎_elim, take, length, get_or, Some}
use Rattle.std.proofs.Common.{refl, sym, ap, ◌∙◌, subst, take-suc, take_all, add-one}
use Rattle.std.proofs.lemmas.List.Elements.{Contains-append_left, Contains-push, Contains-push_cases}
use Rattle.bl_tree.proofs.Basics.{contains_none}
use Rattle.bl_tree.specs.declared.tree.Stmt.{Stmt}
use Rattle.bl_tree.specs.declared.tree.Unit.{Unit as UnitDef}
use Rattle.bl_effects.specs.inner.Gathered.{TableKept, TableRecords, TableTold}
use Rattle.bl_tree.specs.Within.{Effect, PlacesDecide, StandsIn, StandsInUnits, place_of}
use Rattle.bl_effects.specs.Table.{TableTellsEffects}
use Rattle.bl_effects.proofs.GatherLemmas.{records_then}

-- before the first unit
pub units_none : (units : List UnitDef) → TableRecords (StandsInUnits (take 0 units)) [] []
units_none units at = inl (record { same = refl; none = λ s stands. absurd (contains_none stands.unit stands.is_there) })

next : (units : List UnitDef) (k : ℕ) (unit : UnitDef) → k < length units → unit ≡ get_or units k unit →
    take (k + 1) units ≡ take k units ++ unit ∷ []
next units k unit within is = ap (λ n. take n units) (add-one k) ∙ take-suc units k unit within ∙ ap (λ one. take k units ++ one ∷ []) (sym is)

-- after one unit more
pub units_step : (units : List UnitDef) (k : ℕ) (unit : UnitDef) (body : List Stmt) → k < length units →
    unit ≡ get_or units k unit → body ≡ unit.body → (a b c : List Effect)
    → TableRecords (StandsInUnits (take k units)) a b → TableRecords (StandsIn body) b c → TableRecords (StandsInUnits (take (k + 1) units)) a c
units_step units k unit body within is same a b c before one =
    subst (λ front. TableRecords (StandsInUnits front) a c) (sym (next units k unit within is))
    (records_then (StandsInUnits (take k units)) (StandsIn unit.body) (StandsInUnits (take k units ++ unit ∷ []))
    (λ s stands. ⊎_elim (λ there. inl (record { unit = stands.unit; is_there = there; stands = stands.stands }))
    (λ (its : unit ≡ stands.unit). inr (subst (λ (u : UnitDef). StandsIn u.body s) (sym its) stands.stands))
    (Contains-push_cases (take k units) unit stands.unit stands.is_there))
    (λ s stands. record {
      unit = stands.unit;
      is_there =
          Contains-append_left (take k units) (unit ∷ []) stands.unit stands.is_there;
      stands = stands.stands;
    })
    (λ s stands. record { unit = unit; is_there = Contains-push (take k units) unit; stands = stands })
    a b c before (subst (λ body. TableRecords (StandsIn body) b c) same one))

-- a table that was told of all units tells of every statement, since statements of one place have the same effects
pub told_all : (units : List UnitDef) (k : ℕ) (effects : List Effect) → length units ≤ k →
    TableRecords (StandsInUnits (take k units)) [] effects → PlacesDecide units → TableTellsEffects effects units
told_all units k effects over records decide s stands =
    let all : TableRecords (StandsInUnits units) [] effects = subst (λ front. TableRecords (StandsInUnits front) [] effects) (take_all k units over) records in
    ⊎_elim (λ (kept : TableKept (StandsInUnits units) [] effects (place_of s)). absurd (kept.none s stands refl))
    (λ (told : TableTold (StandsInUnits units) effects (place_of s)). told.tells
    ∙ ap Some (decide told.statement s told.stands stands told.there)) (all (place_of s))
