-- What a table knows of chains once the C function of an activity joins it, and how long they are.
use Rattle.std.proofs.Common.{◌≡◌, ℕ, ◌<◌, ◌≤◌, inr, ⊎_elim, true, List, []}
use Rattle.std.proofs.Common.{◌∷◌, map}
use Rattle.std.proofs.Common.{Some, refl, sym, ◌∙◌, subst, arith}
use Rattle.std.proofs.lemmas.Bool.{cases_lt}
use Rattle.std.proofs.lemmas.List.Folds.{list_all-append}
use Rattle.std.proofs.lemmas.Slice.Eq.{bytes_eq-Decides}
use Rattle.std.specs.List.{list_all}
use Rattle.std.specs.Prelude.{bytes_eq, slice_get, if◌then◌else◌}
use Rattle.bl_tree.proofs.Basics.{and_second}
use Rattle.bl_tree.specs.declared.rule.Rule.TheVariants as rule
use Rattle.bl_tree.specs.declared.tree.StructDef.{StructDef}
use Rattle.bl_tree.specs.declared.tree.Unit.{Unit as UnitDef}
use Rattle.bl_tree.specs.Words.{is_name}
use Rattle.bl_limits_measures.specs.Units.{chain_at}
use Rattle.bl_ctext_semantics.specs.Faults.{depth_of_function}
use Rattle.bl_emit_acts.specs.Expressions.{function_name}
use Rattle.bl_emit_acts.specs.Types.{unit_name}
use Rattle.bl_emit_functions_laws_wellformed.proofs.OnFiles.Growing.{distinct_behind, names, one_place}
use Rattle.bl_emit_spec.specs.Activities.{activity_function}
use Rattle.bl_emit_spec_laws_wellformed.specs.Chains.{ActivityChainsFollow, ActivityChainsGrow, ActivityChainsShort}
use Rattle.bl_emit_functions_laws_wellformed.proofs.OnFiles.Growing.{at_most, named_at, prelude_other, still_none, unnamed_other}

-- ---- names

-- ---- tables

pub grow : ActivityChainsFollow → ActivityChainsGrow
grow follow structs units entry k unit a depths keeps of known = record {
  prelude = λ word s.
      still_none (depths (function_name word s)) (bytes_eq (unit_name unit.name) (function_name word s)) d (known.prelude word s)
      (prelude_other unit.name word s);
  unnamed = still_none (depths (unit_name [])) (bytes_eq (unit_name unit.name) (unit_name [])) d known.unnamed (unnamed_other unit.name named);
  of_units = λ f other found.
      at_most (depths (unit_name other.name)) (bytes_eq (unit_name unit.name) (unit_name other.name)) d (chain_at units f) (known.of_units f other found)
      (same_unit f other found);
}
  where
    d : ℕ
    d = depth_of_function depths (activity_function a)

    struct_names : List (List ℕ)
    struct_names = map (λ (def : StructDef). def.name) structs

    named : is_name unit.name ≡ true
    named =
        named_at units k unit
        (and_second (list_all is_name struct_names) (list_all is_name (names units)) (sym (list_all-append is_name struct_names (names units)) ∙ keeps.named))
        of.there

    same_unit : (f : ℕ) (other : UnitDef) → slice_get units f ≡ Some other → bytes_eq (unit_name unit.name) (unit_name other.name) ≡ true →
        d ≤ chain_at units f
    same_unit f other found same =
        let text : unit.name ≡ other.name = (bytes_eq-Decides unit.name other.name).0 same in
        let place : k ≡ f = one_place units k f unit other (distinct_behind struct_names (names units) keeps.distinct) of.there found text in
        subst (λ f. d ≤ chain_at units f) place (follow units k unit a depths of known)

pub short : ActivityChainsFollow → ActivityChainsShort
short follow structs units entry k unit a depths passes of known =
    let less : depth_of_function depths (activity_function a) ≤ chain_at units k = follow units k unit a depths of known in
    ⊎_elim
    (λ (long : 100 < chain_at units k). absurd (passes rule.Frames unit.place []
    (inr (record { position = k; unit = unit; heads = of.there; long = long; at_name = refl }), refl)))
    (λ (few : chain_at units k ≤ 100). omega (arith, less, few))
    (cases_lt 100 (chain_at units k))
