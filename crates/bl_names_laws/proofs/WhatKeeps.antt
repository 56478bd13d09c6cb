-- All that the named tree of a program keeps.
use Rattle.std.proofs.Common.{◌≡◌, ℕ, Bool, true, ◌&&◌, List, [], ◌∷◌, refl}
use Rattle.std.specs.List.{list_all}
use Rattle.std.proofs.lemmas.Bool.{and_from}
use Rattle.bl_tree.proofs.Basics.{and_first, and_second}
use Rattle.bl_parse_tree.specs.declared.item.RawItem.{RawItem}
use Rattle.bl_parse_tree.specs.WellFormed.{RawIsWellFormed}
use Rattle.bl_names_scopes.specs.Rules.{Passes}
use Rattle.bl_names.specs.Named.{named_program}
use Rattle.bl_names.proofs.PlacedProgram.{is_placed}
use Rattle.bl_names_laws.specs.WellFormed.{NamedIsWellFormed, body_apart, body_filled, body_shallow, fields_differ, fields_named, parameters_differ, variables_named}
use Rattle.bl_names_laws.proofs.ApartProgram.{units_are_apart}
use Rattle.bl_names_laws.proofs.Distinct.{all_fields_differ, all_parameters_differ, names_differ}
use Rattle.bl_names_laws.proofs.Filled.{units_are_filled}
use Rattle.bl_names_laws.proofs.Names.{fields_are_named, names_are, variables_are_named}
use Rattle.bl_names_laws.proofs.Starts.{in_order}
use Rattle.bl_names_laws.proofs.StmtDepth.{units_are_shallow}

-- two tests that hold of all hold of all together
pub all_both : {A : Type 0} (one other : A → Bool) (xs : List A) → list_all one xs ≡ true → list_all other xs ≡ true →
    list_all (λ x. one x && other x) xs ≡ true
all_both one other [] first second = refl
all_both one other (x ∷ xs) first second =
    and_from (one x && other x) (list_all (λ x. one x && other x) xs)
    (and_from (one x) (other x) (and_first (one x) (list_all one xs) first) (and_first (other x) (list_all other xs) second))
    (all_both one other xs (and_second (one x) (list_all one xs) first) (and_second (other x) (list_all other xs) second))

pub what_keeps : (items : List RawItem) (bytes : ℕ) → RawIsWellFormed items → Passes items → NamedIsWellFormed (named_program items bytes)
what_keeps items bytes keeps passes =
    let named = named_program items bytes in
    record {
      placed = is_placed items bytes passes;
      names = names_are items bytes keeps.stand;
      distinct = names_differ items bytes passes;
      structs = all_both fields_named fields_differ named.structs (fields_are_named items bytes keeps.stand) (all_fields_differ items bytes passes);
      units = all_both (λ unit. variables_named unit && parameters_differ unit)
          (λ unit. body_filled unit && (body_shallow unit && body_apart unit)) named.units
          (all_both variables_named parameters_differ named.units (variables_are_named items bytes keeps.stand) (all_parameters_differ items bytes passes))
          (all_both body_filled (λ unit. body_shallow unit && body_apart unit) named.units (units_are_filled items bytes keeps.stand)
          (all_both body_shallow body_apart named.units (units_are_shallow items bytes keeps.shallow) (units_are_apart items bytes passes)));
      in_order = in_order items bytes keeps.in_order;
    }
