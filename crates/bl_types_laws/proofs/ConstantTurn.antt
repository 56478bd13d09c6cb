-- What is made of the items behind a constant.
use Rattle.std.proofs.Common.{◌≡◌, refl, true, List, [], ◌∷◌, length, map, take, sym, ap, ◌∙◌, append-nil}
use Rattle.bl_tree.proofs.Basics.{and_second, first_empty, second_empty}
use Rattle.bl_names_tree.specs.declared.item.Item.TheVariants as kind
use Rattle.bl_names_tree.specs.declared.item.NamedConstant.{NamedConstant}
use Rattle.bl_names_tree.specs.declared.item.NamedUnit.{NamedUnit}
use Rattle.bl_names_tree.specs.declared.named.Named.{Named}
use Rattle.bl_names_tree.specs.Placed.{DeclaredBefore, constant_placed, expr_placed, holds_if, type_placed}
use Rattle.bl_names_scopes.specs.Marks.{constant_marks, marks_of}
use Rattle.bl_names_scopes.specs.Scopes.{Scopes, after}
use Rattle.bl_parse_tree.specs.declared.item.RawItem.{RawItem}
use Rattle.bl_parse_tree.specs.declared.item.RawItem.TheVariants as item
use Rattle.bl_parse_tree.specs.declared.stmt.RawConstant.{RawConstant}
use Rattle.bl_names.specs.Named.{along, constants_of, named_constant, structs_of, units_of}
use Rattle.bl_names.specs.Order.{order_of}
use Rattle.bl_names.proofs.FitLemmas.{fits_first, fits_second}
use Rattle.bl_names.proofs.PlacedExpr.{earlier}
use Rattle.bl_types.specs.declared.environment.Environment.{Environment}
use Rattle.bl_types.specs.Declarations.{after_constant, constant_of, initial}
use Rattle.bl_types.specs.Programs.{after_item, after_items}
use Rattle.bl_types_laws.specs.Within.{calls_functions, known_in}
use Rattle.bl_types_laws.proofs.Items.{constant_between}
use Rattle.bl_types_laws.proofs.Premises.{Suits}
use Rattle.bl_types_laws.proofs.Ends.{ends_first, ends_next, ends_on, ends_take}
use Rattle.bl_types_laws.proofs.Onward.{constant_onward, constant_there}
use Rattle.bl_types_laws.proofs.Reached.{At, Induction, Made, constant_next, first_taken, no_more, one_more, same_counts}

module _ (named : Named) (suits : Suits named) where
  module _ (def : RawConstant) (items : List RawItem) (scopes : Scopes) (env : Environment) (at : At named scopes (item.Constant def ∷ items) env) where
    abbrev new_constant : NamedConstant
    new_constant = named_constant scopes def

    abbrev behind_constant : Scopes
    behind_constant = after scopes (constant_marks def)

    constant_chosen : after_item named kind.Constant env ≡ after_constant new_constant env
    constant_chosen = constant_next named scopes (item.Constant def ∷ items) env at new_constant refl

    placed_earlier : constant_placed (earlier scopes) new_constant ≡ true
    placed_earlier =
        constant_there named.constants scopes def at.below (fits_first scopes (constant_marks def) (marks_of items) at.fits)
        (ends_first named.constants scopes.counts.constants (new_constant ∷ []) (along constants_of behind_constant items) at.constants)

    is_placed_there : constant_placed (known_in env) new_constant ≡ true
    is_placed_there = ap (λ (e : DeclaredBefore). constant_placed e new_constant) at.counts ∙ placed_earlier

    calls : calls_functions env.units new_constant.value ≡ true
    calls =
        let count : scopes.counts.units ≡ length env.units = ap (λ (e : DeclaredBefore). e.units) (sym at.counts) in
        suits.constants scopes.counts.constants new_constant
        (ends_next named.constants scopes.counts.constants (new_constant ∷ along constants_of behind_constant items) at.constants) env.units (earlier scopes)
        count
        (at.kinds ∙ ap (map (λ (unit : NamedUnit). unit.kind))
        (sym (ends_take named.units scopes.counts.units (along units_of behind_constant items) at.units))
        ∙ ap (λ n. map (λ (unit : NamedUnit). unit.kind) (take n named.units)) count)
        (and_second (holds_if (type_placed (earlier scopes)) new_constant.ty) (expr_placed (earlier scopes) new_constant.value) placed_earlier)

    at_constant : (after_constant new_constant env).failures ≡ [] → At named behind_constant items (after_constant new_constant env).env
    at_constant none =
        let on = constant_onward scopes def at.below at.none in
        record {
          below = on.below;
          none = on.none;
          fits = fits_second scopes (constant_marks def) (marks_of items) at.fits;
          structs = ends_on named.structs scopes.counts.structs behind_constant.counts.structs [] (along structs_of behind_constant items) on.more_structs
              at.structs;
          constants = ends_on named.constants scopes.counts.constants behind_constant.counts.constants (new_constant ∷ [])
              (along constants_of behind_constant items) on.more_constants at.constants;
          units = ends_on named.units scopes.counts.units behind_constant.counts.units [] (along units_of behind_constant items) on.more_units at.units;
          counts = same_counts (after_constant new_constant env).env behind_constant
              (no_more (length env.structs) scopes.counts.structs behind_constant.counts.structs (ap (λ (e : DeclaredBefore). e.structs) at.counts) on.more_structs)
              (one_more env.constants (constant_of new_constant.value (initial env new_constant.ty new_constant.value).valued) scopes.counts.constants
              behind_constant.counts.constants (ap (λ (e : DeclaredBefore). e.constants) at.counts) on.more_constants)
              (no_more (length env.units) scopes.counts.units behind_constant.counts.units (ap (λ (e : DeclaredBefore). e.units) at.counts) on.more_units)
              (ap length at.between.vars ∙ sym on.none);
          between = constant_between new_constant env at.between is_placed_there calls none;
          kinds = at.kinds ∙ ap (map (λ (unit : NamedUnit). unit.kind)) (sym (append-nil at.units.before));
        }

    constant_case : (final : Environment) → Made behind_constant items (after_constant new_constant env).env final →
        Made scopes (item.Constant def ∷ items) env final
    constant_case final rest = record {
      later = rest.later;
      structs = rest.structs;
      structs_stand = rest.structs_stand;
      struct_names = rest.struct_names;
      more = rest.more;
      units = rest.units;
      units_stand = rest.units_stand;
      shallow = rest.shallow;
      unit_names = rest.unit_names;
      driven = rest.driven;
      starts = rest.starts;
    }

  pub constant_turn : (def : RawConstant) (items : List RawItem) → Induction named items → Induction named (item.Constant def ∷ items)
  constant_turn def items rec scopes env at keep_structs keep_units =
      let d = named_constant scopes def in
      first_taken named (item.Constant def) items scopes env (after_constant d env) (constant_chosen def items scopes env at)
      (λ none.
      let first = first_empty (after_constant d env).failures (after_items named (order_of items) (after_constant d env).env).failures none in
      constant_case def items scopes env at (after_items named (order_of items) (after_constant d env).env).env
      (rec (after scopes (constant_marks def)) (after_constant d env).env (at_constant def items scopes env at first) keep_structs keep_units
      (second_empty (after_constant d env).failures (after_items named (order_of items) (after_constant d env).env).failures none)))
