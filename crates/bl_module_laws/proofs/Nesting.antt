-- Rule Cells looks at the nesting of the types of a file as it does among others.
use Rattle.std.proofs.Common.{◌≡◌, ◌∙◌, inl, inr, ⊎_elim, ℕ, zero, ◌≤◌, List, [], ◌∷◌, ◌++◌, refl, ap, sym, subst, arith}
use Rattle.std.proofs.lemmas.List.{append-nil, append_assoc}
use Rattle.std.specs.Prelude.{Contains, slice_index}
use Rattle.bl_tree.proofs.Basics.{contains_further as later, contains_none, first_or_further, get_in_front}
use Rattle.bl_cause_trees.specs.Peeled.{ArePeeled, IsPeeledUnit, clean, of_function, too_large, with_turns}
use Rattle.bl_limits.specs.Rules.{DeepStruct, DeepVariable, NestingPasses, Passes as LimitsPass}
use Rattle.bl_limits_laws_places.specs.Laws.{NestingStays}
use Rattle.bl_limits_measures.proofs.TypeLemmas.{induct}
use Rattle.bl_limits_measures.specs.InOrder.{answers_after}
use Rattle.bl_limits_measures.specs.Types.{fields_nesting, nesting, struct_nestings}
use Rattle.bl_tree.specs.declared.place.Place.{Place}
use Rattle.bl_tree.specs.declared.rule.Rule.TheVariants as rule
use Rattle.bl_tree.specs.declared.scalar.Scalar.{Scalar as ScalarType}
use Rattle.bl_tree.specs.declared.tree.StructDef.{StructDef}
use Rattle.bl_tree.specs.declared.tree.Ty.{Ty, fold-roll-Ty, roll-Ty}
use Rattle.bl_tree.specs.declared.tree.Ty.TheOpen.{Ty-F}
use Rattle.bl_tree.specs.declared.tree.Unit.{Unit as UnitDef}
use Rattle.bl_tree_laws_places.specs.Placed.{placed_structs, placed_units}
use Rattle.bl_module_laws.proofs.Lists.{index_grows}

-- ---- nesting among more structs

after-append : (known : List ℕ) (xs ys : List StructDef) →
    answers_after fields_nesting known (xs ++ ys) ≡ answers_after fields_nesting (answers_after fields_nesting known xs) ys
after-append known [] ys = refl
after-append known (x ∷ xs) ys = after-append (known ++ fields_nesting known x ∷ []) xs ys

-- answers are added to those that are known
after_grows : (known : List ℕ) (xs : List StructDef) → (more : List ℕ) × (answers_after fields_nesting known xs ≡ known ++ more)
after_grows known [] = ([], sym (append-nil known))
after_grows known (x ∷ xs) =
    let rest = after_grows (known ++ fields_nesting known x ∷ []) xs in
    (fields_nesting known x ∷ rest.0, rest.1 ∙ append_assoc known (fields_nesting known x ∷ []) rest.0)

module _ (structs more : List StructDef) where
  -- the structs' nestings are the first among those of all
  front : (further : List ℕ) × (struct_nestings (structs ++ more) ≡ struct_nestings structs ++ further)
  front =
      let grown = after_grows (struct_nestings structs) more in
      (grown.0, after-append [] structs more ∙ grown.1)

  index_more : (k : ℕ) → slice_index (struct_nestings structs) k ≤ slice_index (struct_nestings (structs ++ more)) k
  index_more k = subst (λ all. slice_index (struct_nestings structs) k ≤ slice_index all k) (sym front.1) (index_grows (struct_nestings structs) front.0 k)

  abbrev Deeper : Ty → Type 0
  Deeper ty = nesting structs ty ≤ nesting (structs ++ more) ty

  scalar_deeper : (s : ScalarType) → Deeper (roll-Ty (Ty-F.Scalar s))
  scalar_deeper s = rw (fold-roll-Ty, fold-roll-Ty) (omega arith)

  struct_deeper : (k : ℕ) → Deeper (roll-Ty (Ty-F.Struct k))
  struct_deeper k = rw (fold-roll-Ty, fold-roll-Ty) (index_more k)

  array_deeper : (n : ℕ) (element : Ty) → Deeper element → Deeper (roll-Ty (Ty-F.Array n element))
  array_deeper n element less = rw (fold-roll-Ty, fold-roll-Ty) (omega (arith, less))

  deeper : (ty : Ty) → Deeper ty
  deeper = induct Deeper scalar_deeper struct_deeper array_deeper

  struct_among : (from : ℕ) (at : Place) → DeepStruct from structs at → DeepStruct 0 (structs ++ more) at
  struct_among from at h = record {
    position = h.position;
    later = omega arith;
    def = h.def;
    is_there = get_in_front structs more h.position h.def h.is_there;
    deep = let grown = index_more h.position in let deep = h.deep in omega (arith, grown, deep);
    at_name = h.at_name;
  }

  -- a unit whose variables are those of another among others
  abbrev Shown : List UnitDef → UnitDef → Type 0
  Shown all unit = (other : UnitDef) × Contains all other × (other.vars ≡ unit.vars)

  variable_among : (units all : List UnitDef) → ((unit : UnitDef) → Contains units unit → Shown all unit) → (at : Place) →
      DeepVariable structs units at → DeepVariable (structs ++ more) all at
  variable_among units all shown at h =
      let other = shown h.unit h.of_program in record {
        unit = other.0;
        of_program = other.1;
        var = h.var;
        of_unit = subst (λ vars. Contains vars h.var) (sym other.2) h.of_unit;
        deep = let grown = deeper h.var.ty in let deep = h.deep in omega (arith, grown, deep);
        at_name = h.at_name;
      }

  -- what is nested too deep is so among others
  pub nesting_among : (from : ℕ) (units all : List UnitDef) → ((unit : UnitDef) → Contains units unit → Shown all unit) →
      NestingPasses 0 (structs ++ more) all → NestingPasses from structs units
  nesting_among from units all shown passes rule.Cells at also h =
      passes rule.Cells at also (⊎_elim (λ deep. inl (struct_among from at deep)) (λ deep. inr (variable_among units all shown at deep)) h.0, h.1)
  nesting_among from units all shown passes _ at also h = absurd h

-- ---- peeled units have the variables of their units

vars_of_peeled : (unit peeled_unit : UnitDef) → IsPeeledUnit unit peeled_unit → peeled_unit.vars ≡ unit.vars
vars_of_peeled unit peeled_unit (of_function is) = refl
vars_of_peeled unit peeled_unit (clean is) = refl
vars_of_peeled unit peeled_unit (too_large is) = refl
vars_of_peeled unit peeled_unit (with_turns is has few) = refl

pub peeled_there : (units peeled_units : List UnitDef) → ArePeeled units peeled_units → (unit : UnitDef) → Contains units unit →
    (peeled_unit : UnitDef) × Contains peeled_units peeled_unit × (peeled_unit.vars ≡ unit.vars)
peeled_there [] peeled_units are unit there = absurd (contains_none unit there)
peeled_there (u ∷ units) [] are unit there = absurd are
peeled_there (u ∷ units) (peeled_unit ∷ peeled_units) are unit there =
    ⊎_elim
    (λ is. (peeled_unit, (zero, omega arith, refl), vars_of_peeled u peeled_unit are.0 ∙ ap (λ (it : UnitDef). it.vars) is))
    (λ further. let found = peeled_there units peeled_units are.1 unit further in (found.0, later peeled_unit peeled_units found.0 found.1, found.2))
    (first_or_further u units unit there)

-- ---- rule Cells of a whole program

pub limits_nesting : (structs : List StructDef) (units : List UnitDef) (entry : ℕ) → LimitsPass structs units entry → NestingPasses 0 structs units
limits_nesting structs units entry passes rule.Cells at also h = passes rule.Cells at also (inr h.0, h.1)
limits_nesting structs units entry passes _ at also h = absurd h

-- ---- places

-- structs that are equal up to places are nested alike
pub nesting_alike : NestingStays → (g : Place → Place) (from : ℕ) (structs others : List StructDef) (units : List UnitDef) →
    placed_structs g others ≡ placed_structs g structs → NestingPasses from others units → NestingPasses from structs units
nesting_alike stays g from structs others units same passes =
    (stays g from structs units).0
    (subst (λ them. NestingPasses from them (placed_units g units)) same ((stays g from others units).1 passes))
