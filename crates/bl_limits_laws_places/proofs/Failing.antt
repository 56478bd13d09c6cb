-- How deep structs and variables are nested doesn't hang on places.
use Rattle.std.proofs.Common.{◌≡◌, ◌⊎◌, inl, inr, ℕ, ◌<◌, List, [], ◌∷◌, ◌++◌, map, refl, ap, sym, subst, ◌∙◌}
use Rattle.std.specs.Prelude.{◌↔◌, Contains, slice_index}
use Rattle.bl_tree.proofs.Basics.{contains_mapped, get_mapped}
use Rattle.bl_tree.specs.declared.place.Place.{Place}
use Rattle.bl_tree.specs.declared.rule.Rule.TheVariants as rule
use Rattle.bl_tree.specs.declared.tree.StructDef.{StructDef}
use Rattle.bl_tree.specs.declared.tree.Ty.{Ty}
use Rattle.bl_tree.specs.declared.tree.Unit.{Unit as UnitDef}
use Rattle.bl_tree.specs.declared.tree.Var.{Var}
use Rattle.bl_tree_laws_places.specs.Laws.{FailsMoved}
use Rattle.bl_tree_laws_places.specs.Placed.{placed_struct, placed_structs, placed_unit, placed_units, placed_var}
use Rattle.bl_tree_laws_places.proofs.Lists.{from_got, from_map}
use Rattle.bl_limits_measures.specs.InOrder.{answers_after}
use Rattle.bl_limits_measures.specs.Types.{fields_nesting, nesting, nesting_by, struct_nestings}
use Rattle.bl_limits.specs.Rules.{DeepStruct, DeepVariable, FailsNesting, NestingFails}
use Rattle.bl_limits_laws_places.specs.Laws.{NestingMoves, NestingStays}

module _ (f : Place → Place) where
  answers_stay : (known : List ℕ) (structs : List StructDef) →
      answers_after fields_nesting known (placed_structs f structs) ≡ answers_after fields_nesting known structs
  answers_stay known [] = refl
  answers_stay known (def ∷ structs) = answers_stay (known ++ fields_nesting known def ∷ []) structs

  nestings_stay : (structs : List StructDef) → struct_nestings (placed_structs f structs) ≡ struct_nestings structs
  nestings_stay structs = answers_stay [] structs

  nesting_of : (structs : List StructDef) (ty : Ty) → nesting (placed_structs f structs) ty ≡ nesting structs ty
  nesting_of structs ty = ap (λ known. nesting_by known ty) (nestings_stay structs)

  module _ (from : ℕ) (structs : List StructDef) (units : List UnitDef) where
    -- a place at which types are nested too deep, by its image
    record Moved (at : Place) : Type 0 where
      source : Place
      fails : FailsNesting from structs units source
      is : at ≡ f source

    struct_from : (at : Place) → DeepStruct from (placed_structs f structs) at → Moved at
    struct_from at h = let def = from_got (placed_struct f) structs h.position h.def h.is_there in record {
      source = def.source.place;
      fails = inl (record {
        position = h.position;
        later = h.later;
        def = def.source;
        is_there = def.got;
        deep = subst (λ known. 100 < slice_index known h.position) (nestings_stay structs) h.deep;
        at_name = refl;
      });
      is = h.at_name ∙ ap (λ (d : StructDef). d.place) def.is;
    }

    variable_from : (at : Place) → DeepVariable (placed_structs f structs) (placed_units f units) at → Moved at
    variable_from at h =
        let unit = from_map (placed_unit f) units h.unit h.of_program in
        let var = from_map (placed_var f) unit.source.vars h.var (subst (λ (u : UnitDef). Contains u.vars h.var) unit.is h.of_unit) in
        record {
          source = var.source.place;
          fails = inr (record {
            unit = unit.source;
            of_program = unit.is_there;
            var = var.source;
            of_unit = var.is_there;
            deep = subst (λ n. 100 < n) (nesting_of structs h.var.ty ∙ ap (λ (v : Var). nesting structs v.ty) var.is) h.deep;
            at_name = refl;
          });
          is = h.at_name ∙ ap (λ (v : Var). v.place) var.is;
        }

    nesting_from : (at : Place) → FailsNesting from (placed_structs f structs) (placed_units f units) at → Moved at
    nesting_from at (inl h) = struct_from at h
    nesting_from at (inr h) = variable_from at h

    nesting_to : (at source : Place) → at ≡ f source → FailsNesting from structs units source →
        FailsNesting from (placed_structs f structs) (placed_units f units) at
    nesting_to at source is (inl h) = inl (record {
      position = h.position;
      later = h.later;
      def = placed_struct f h.def;
      is_there = get_mapped (placed_struct f) structs h.position h.def h.is_there;
      deep = subst (λ known. 100 < slice_index known h.position) (sym (nestings_stay structs)) h.deep;
      at_name = is ∙ ap f h.at_name;
    })
    nesting_to at source is (inr h) = inr (record {
      unit = placed_unit f h.unit;
      of_program = contains_mapped (placed_unit f) units h.unit h.of_program;
      var = placed_var f h.var;
      of_unit = contains_mapped (placed_var f) h.unit.vars h.var h.of_unit;
      deep = subst (λ n. 100 < n) (sym (nesting_of structs h.var.ty)) h.deep;
      at_name = is ∙ ap f h.at_name;
    })

    cells_from : (at : Place) (also : List Place) → NestingFails from (placed_structs f structs) (placed_units f units) rule.Cells at also →
        FailsMoved f (NestingFails from structs units) rule.Cells at also
    cells_from at also h = let moved = nesting_from at h.0 in record {
      source = moved.source;
      further = [];
      fails = (moved.fails, refl);
      is_at = moved.is;
      is_also = h.1;
    }

    cells_to : (at : Place) (also : List Place) → FailsMoved f (NestingFails from structs units) rule.Cells at also →
        NestingFails from (placed_structs f structs) (placed_units f units) rule.Cells at also
    cells_to at also h = (nesting_to at h.source h.is_at h.fails.0, h.is_also ∙ ap (map f) h.fails.1)

pub nesting_moves : NestingMoves
nesting_moves f from structs units rule.Cells at also = (cells_from f from structs units at also, cells_to f from structs units at also)
nesting_moves f from structs units _ at also = (λ h. absurd h, λ h. absurd h.fails)

pub nesting_stays : NestingStays
nesting_stays f from structs units = (
  λ passes r at also fails.
      passes r (f at) (map f also)
      ((nesting_moves f from structs units r (f at) (map f also)).1
      (record { source = at; further = also; fails = fails; is_at = refl; is_also = refl })),
  λ passes r at also fails.
      let moved = (nesting_moves f from structs units r at also).0 fails in passes r moved.source moved.further moved.fails,
)
