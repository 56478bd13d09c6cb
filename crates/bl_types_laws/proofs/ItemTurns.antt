-- All turns through the items of a program, from the first.
use Rattle.std.proofs.Common.{◌≡◌, ℕ, List, [], ◌∷◌, Some, refl, inl}
use Rattle.std.specs.Prelude.{Contains, slice_get}
use Rattle.bl_tree.specs.declared.rule.Failure.{Failure}
use Rattle.bl_tree.specs.declared.tree.StructDef.{StructDef}
use Rattle.bl_tree.specs.Rules.{further_places}
use Rattle.bl_tree.proofs.FirstLemmas.{in_contains}
use Rattle.bl_names_tree.specs.declared.named.Named.{Named}
use Rattle.bl_names_scopes.specs.Rules.{Passes as NamesPass}
use Rattle.bl_names_scopes.specs.Scopes.{file_scope}
use Rattle.bl_parse_tree.specs.declared.item.RawItem.{RawItem}
use Rattle.bl_parse_tree.specs.declared.item.RawItem.TheVariants as item
use Rattle.bl_names.specs.Named.{named_program}
use Rattle.bl_names.proofs.FitLemmas.{program_fits}
use Rattle.bl_types.specs.declared.environment.Constant.{Constant}
use Rattle.bl_types.specs.declared.environment.Variable.{Variable}
use Rattle.bl_types.specs.Programs.{failures_of, fresh}
use Rattle.bl_types.specs.Rules.{Passes}
use Rattle.bl_types_laws.specs.Standing.{BetweenUnits}
use Rattle.bl_types_laws.proofs.Premises.{Shapes, Suits}
use Rattle.bl_types_laws.proofs.ConstantTurn.{constant_turn}
use Rattle.bl_types_laws.proofs.Ends.{ends_whole}
use Rattle.bl_types_laws.proofs.Reached.{At, Induction, none_turn}
use Rattle.bl_types_laws.proofs.StructTurn.{struct_turn}
use Rattle.bl_types_laws.proofs.UnitTurn.{unit_turn}

module _ (named : Named) (suits : Suits named) (shapes : Shapes) where
  turn : (one : RawItem) (items : List RawItem) → Induction named items → Induction named (one ∷ items)
  turn (item.Struct def) items rec = struct_turn named def items rec
  turn (item.Constant def) items rec = constant_turn named suits def items rec
  turn (item.Unit def) items rec = unit_turn named suits shapes def items rec

  -- one item after another
  pub turns : (items : List RawItem) → Induction named items
  turns [] = none_turn named
  turns (one ∷ items) = turn one items (turns items)

-- ---- where nothing fails

pub none_contained : (xs : List Failure) → ((failure : Failure) → Contains xs failure → ⊥) → xs ≡ []
none_contained [] none = refl
none_contained (failure ∷ rest) none = absurd (none failure (in_contains failure (failure ∷ rest) (inl refl)))

pub no_failure : (named : Named) → Passes named → failures_of named ≡ []
no_failure named passes =
    none_contained (failures_of named)
    (λ failure there. passes failure.rule failure.at (further_places failure.further)
    (record { failure = failure; is_there = there; of_rule = refl; at_place = refl; further = refl }))

-- ---- the first turn

pub no_variable : (k : ℕ) (known : Variable) → slice_get [] k ≡ Some known → ⊥
no_variable k known is = absurd (cc)

no_constant : (k : ℕ) (constant : Constant) → slice_get [] k ≡ Some constant → ⊥
no_constant k constant is = absurd (cc)

pub no_struct : (k : ℕ) (def : StructDef) → slice_get [] k ≡ Some def → ⊥
no_struct k def is = absurd (cc)

fresh_between : BetweenUnits fresh
fresh_between = record {
  vars = refl;
  known = record {
    vars = λ k known is. absurd (no_variable k known is);
    fields = λ k def is. absurd (no_struct k def is);
    constants = λ k constant is. absurd (no_constant k constant is);
  };
  heads = refl;
}

pub at_start : (items : List RawItem) (bytes : ℕ) → NamesPass items → At (named_program items bytes) file_scope items fresh
at_start items bytes passes =
    let named = named_program items bytes in
    record {
      below = (tt, tt);
      none = refl;
      fits = program_fits items passes;
      structs = ends_whole named.structs;
      constants = ends_whole named.constants;
      units = ends_whole named.units;
      counts = refl;
      between = fresh_between;
      kinds = refl;
    }
