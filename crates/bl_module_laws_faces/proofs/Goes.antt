-- Structs and units are added alone behind the items of a file.
use Rattle.std.proofs.Common.{◌≡◌, List, [], ◌∷◌, ◌++◌, refl, sym, ap, subst, ◌∙◌, append-nil, append_assoc}
use Rattle.bl_tree.proofs.Basics.{first_empty, second_empty}
use Rattle.bl_module_laws_faces.proofs.Here.{Here, constant_chosen, here_constant, here_struct, here_unit, struct_chosen, structs_still, unit_chosen, units_are}
use Rattle.bl_names.specs.Named.{named_constant, named_struct, named_unit}
use Rattle.bl_names.specs.Order.{kind_of_item, order_of}
use Rattle.bl_names_scopes.specs.Scopes.{Scopes}
use Rattle.bl_names_tree.specs.declared.named.Named.{Named}
use Rattle.bl_parse_tree.specs.declared.item.RawItem.{RawItem}
use Rattle.bl_parse_tree.specs.declared.item.RawItem.TheVariants as item
use Rattle.bl_parse_tree.specs.declared.item.RawStruct.{RawStruct}
use Rattle.bl_parse_tree.specs.declared.item.RawUnit.{RawUnit}
use Rattle.bl_parse_tree.specs.declared.stmt.RawConstant.{RawConstant}
use Rattle.bl_tree.specs.declared.tree.StructDef.{StructDef}
use Rattle.bl_tree.specs.declared.tree.Unit.{Unit as UnitDef}
use Rattle.bl_types.specs.declared.environment.Environment.{Environment}
use Rattle.bl_types.specs.Declarations.{Declaring, after_constant, after_struct, struct_of}
use Rattle.bl_types.specs.Programs.{after_item, after_items}
use Rattle.bl_types.specs.Units.{after_unit}
use Rattle.bl_types_laws.proofs.Standing.{made_of}

-- what is known later begins with what is known
pub record Goes (env final : Environment) : Type 0 where
  pub later : List StructDef
  pub structs : final.structs ≡ env.structs ++ later
  pub more : List UnitDef
  pub units : final.units ≡ env.units ++ more

-- behind the first item, and then behind the others
pub goes_on : (env first final : Environment) (structs : List StructDef) (units : List UnitDef) → first.structs ≡ env.structs ++ structs →
    first.units ≡ env.units ++ units → Goes first final → Goes env final
goes_on env first final structs units one two goes = record {
  later = structs ++ goes.later;
  structs = goes.structs ∙ ap (λ l. l ++ goes.later) one ∙ append_assoc env.structs structs goes.later;
  more = units ++ goes.more;
  units = goes.units ∙ ap (λ l. l ++ goes.more) two ∙ append_assoc env.units units goes.more;
}

module _ (named : Named) where
  -- where no rule fails in items
  abbrev pub Going : List RawItem → Type 0
  Going items = (scopes : Scopes) (env : Environment) → Here named scopes items env → (after_items named (order_of items) env).failures ≡ [] →
      Goes env (after_items named (order_of items) env).env

  -- where the first item gives this
  by_first : (one : RawItem) (items : List RawItem) (env : Environment) (first : Declaring) → after_item named (kind_of_item one) env ≡ first →
      (first.failures ≡ [] → (after_items named (order_of items) first.env).failures ≡ [] →
      Goes env (after_items named (order_of items) first.env).env) →
      (after_items named (order_of (one ∷ items)) env).failures ≡ [] → Goes env (after_items named (order_of (one ∷ items)) env).env
  by_first one items env first is shown =
      subst (λ (first : Declaring). first.failures ++ (after_items named (order_of items) first.env).failures ≡ [] →
      Goes env (after_items named (order_of items) first.env).env) (sym is)
      (λ none. shown (first_empty first.failures (after_items named (order_of items) first.env).failures none)
      (second_empty first.failures (after_items named (order_of items) first.env).failures none))

  struct_goes : (def : RawStruct) (items : List RawItem) → Going items → Going (item.Struct def ∷ items)
  struct_goes def items rest scopes env here =
      let first : Declaring = after_struct (named_struct scopes def) env in
      by_first (item.Struct def) items env first (struct_chosen named def items scopes env here)
      (λ none more. goes_on env first.env (after_items named (order_of items) first.env).env (struct_of env (named_struct scopes def) ∷ []) [] refl
      (sym (append-nil env.units)) (rest _ first.env (here_struct named def items scopes env here none) more))

  constant_goes : (def : RawConstant) (items : List RawItem) → Going items → Going (item.Constant def ∷ items)
  constant_goes def items rest scopes env here =
      let first : Declaring = after_constant (named_constant scopes def) env in
      by_first (item.Constant def) items env first (constant_chosen named def items scopes env here)
      (λ none more. goes_on env first.env (after_items named (order_of items) first.env).env [] [] (sym (append-nil env.structs))
      (sym (append-nil env.units)) (rest _ first.env (here_constant named def items scopes env here none) more))

  unit_goes : (def : RawUnit) (items : List RawItem) → Going items → Going (item.Unit def ∷ items)
  unit_goes def items rest scopes env here =
      let first : Declaring = after_unit named.constants (named_unit scopes def) env in
      by_first (item.Unit def) items env first (unit_chosen named def items scopes env here)
      (λ none more. goes_on env first.env (after_items named (order_of items) first.env).env []
      (made_of named.constants (named_unit scopes def) env ∷ []) (structs_still named def items scopes env here none ∙ sym (append-nil env.structs))
      (units_are named def items scopes env here none) (rest _ first.env (here_unit named def items scopes env here none) more))

  turn : (one : RawItem) (items : List RawItem) → Going items → Going (one ∷ items)
  turn (item.Struct def) items rest = struct_goes def items rest
  turn (item.Constant def) items rest = constant_goes def items rest
  turn (item.Unit def) items rest = unit_goes def items rest

  pub goes : (items : List RawItem) → Going items
  goes [] scopes env here none = record { later = []; structs = sym (append-nil env.structs); more = []; units = sym (append-nil env.units) }
  goes (one ∷ items) scopes env here none = turn one items (goes items) scopes env here none
