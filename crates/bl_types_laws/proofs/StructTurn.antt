-- What is made of a struct, and of the items behind it.
use Rattle.std.proofs.Common.{◌≡◌, refl, ◌+◌, true, List, [], ◌∷◌, length, map, sym, ap, subst, ◌∙◌, append-nil, append_assoc}
use Rattle.std.specs.List.{list_all}
use Rattle.std.proofs.lemmas.List.{length-append}
use Rattle.std.proofs.lemmas.Bool.{and_from}
use Rattle.bl_tree.proofs.Basics.{and_first, and_second, first_empty, second_empty}
use Rattle.bl_tree.specs.Program.{struct_stands, structs_stand_from}
use Rattle.bl_names_tree.specs.declared.item.Item.TheVariants as kind
use Rattle.bl_names_tree.specs.declared.item.NamedStruct.{NamedStruct}
use Rattle.bl_names_tree.specs.declared.item.NamedUnit.{NamedUnit}
use Rattle.bl_names_tree.specs.declared.named.Named.{Named}
use Rattle.bl_names_tree.specs.Placed.{DeclaredBefore, struct_placed}
use Rattle.bl_names_scopes.specs.Marks.{marks_of, struct_marks}
use Rattle.bl_names_scopes.specs.Scopes.{Scopes, after}
use Rattle.bl_names_laws.specs.WellFormed.{struct_stands as struct_keeps}
use Rattle.bl_parse_tree.specs.declared.item.RawItem.{RawItem}
use Rattle.bl_parse_tree.specs.declared.item.RawItem.TheVariants as item
use Rattle.bl_parse_tree.specs.declared.item.RawStruct.{RawStruct}
use Rattle.bl_names.specs.Named.{along, constants_of, named_struct, structs_of, units_of}
use Rattle.bl_names.specs.Order.{order_of}
use Rattle.bl_names.proofs.FitLemmas.{fits_first, fits_second}
use Rattle.bl_names.proofs.PlacedItem.{struct_is}
use Rattle.bl_types.specs.declared.environment.Environment.{Environment}
use Rattle.bl_types.specs.Declarations.{after_struct, struct_of}
use Rattle.bl_types.specs.Programs.{after_item, after_items}
use Rattle.bl_types_laws.specs.Within.{known_in}
use Rattle.bl_types_laws.proofs.Items.{struct_between}
use Rattle.bl_types_laws.proofs.Ends.{ends_on}
use Rattle.bl_types_laws.proofs.Onward.{struct_onward}
use Rattle.bl_types_laws.proofs.Standing.{struct_made}
use Rattle.bl_types_laws.proofs.Reached.{At, Induction, Made, first_taken, no_more, one_more, same_counts, struct_next}

module _ (named : Named) where
  module _ (def : RawStruct) (items : List RawItem) (scopes : Scopes) (env : Environment) (at : At named scopes (item.Struct def ∷ items) env) where
    abbrev new_struct : NamedStruct
    new_struct = named_struct scopes def

    abbrev behind_struct : Scopes
    behind_struct = after scopes (struct_marks def)

    struct_chosen : after_item named kind.Struct env ≡ after_struct new_struct env
    struct_chosen = struct_next named scopes (item.Struct def ∷ items) env at new_struct refl

    struct_there : struct_placed (known_in env) new_struct ≡ true
    struct_there = ap (λ (e : DeclaredBefore). struct_placed e new_struct) at.counts
        ∙ struct_is scopes def at.below (fits_first scopes (struct_marks def) (marks_of items) at.fits)

    at_struct : (after_struct new_struct env).failures ≡ [] → At named behind_struct items (after_struct new_struct env).env
    at_struct none =
        let on = struct_onward scopes def at.below at.none in
        let between = struct_between new_struct env at.between struct_there none in
        record {
          below = on.below;
          none = on.none;
          fits = fits_second scopes (struct_marks def) (marks_of items) at.fits;
          structs = ends_on named.structs scopes.counts.structs behind_struct.counts.structs (new_struct ∷ []) (along structs_of behind_struct items)
              on.more_structs at.structs;
          constants = ends_on named.constants scopes.counts.constants behind_struct.counts.constants [] (along constants_of behind_struct items)
              on.more_constants at.constants;
          units = ends_on named.units scopes.counts.units behind_struct.counts.units [] (along units_of behind_struct items) on.more_units at.units;
          counts = same_counts (after_struct new_struct env).env behind_struct
              (one_more env.structs (struct_of env new_struct) scopes.counts.structs behind_struct.counts.structs (ap (λ (e : DeclaredBefore). e.structs) at.counts)
              on.more_structs)
              (no_more (length env.constants) scopes.counts.constants behind_struct.counts.constants (ap (λ (e : DeclaredBefore). e.constants) at.counts)
              on.more_constants)
              (no_more (length env.units) scopes.counts.units behind_struct.counts.units (ap (λ (e : DeclaredBefore). e.units) at.counts) on.more_units)
              (ap length at.between.vars ∙ sym on.none);
          between = between;
          kinds = at.kinds ∙ ap (map (λ (unit : NamedUnit). unit.kind)) (sym (append-nil at.units.before));
        }

    struct_case : (final : Environment) → struct_keeps new_struct ≡ true → (after_struct new_struct env).failures ≡ [] →
        Made behind_struct items (after_struct new_struct env).env final → Made scopes (item.Struct def ∷ items) env final
    struct_case final keeps none rest =
        let made = struct_of env new_struct in
        record {
          later = made ∷ rest.later;
          structs = rest.structs ∙ append_assoc env.structs (made ∷ []) rest.later;
          structs_stand = and_from (struct_stands (length env.structs) made) (structs_stand_from (length env.structs + 1) rest.later)
              (struct_made new_struct env keeps struct_there none)
              (subst (λ n. structs_stand_from n rest.later ≡ true) (length-append env.structs (made ∷ [])) rest.structs_stand);
          struct_names = ap (λ names. def.name.text ∷ names) rest.struct_names;
          more = rest.more;
          units = rest.units;
          units_stand = rest.units_stand;
          shallow = rest.shallow;
          unit_names = rest.unit_names;
          driven = rest.driven;
          starts = rest.starts;
        }

  pub struct_turn : (def : RawStruct) (items : List RawItem) → Induction named items → Induction named (item.Struct def ∷ items)
  struct_turn def items rec scopes env at keep_structs keep_units =
      let d = named_struct scopes def in
      let new = after scopes (struct_marks def) in
      first_taken named (item.Struct def) items scopes env (after_struct d env) (struct_chosen def items scopes env at)
      (λ none.
      let first = first_empty (after_struct d env).failures (after_items named (order_of items) (after_struct d env).env).failures none in
      struct_case def items scopes env at (after_items named (order_of items) (after_struct d env).env).env
      (and_first (struct_keeps d) (list_all struct_keeps (along structs_of new items)) keep_structs) first
      (rec new (after_struct d env).env (at_struct def items scopes env at first)
      (and_second (struct_keeps d) (list_all struct_keeps (along structs_of new items)) keep_structs) keep_units
      (second_empty (after_struct d env).failures (after_items named (order_of items) (after_struct d env).env).failures none)))
