-- The item of a face that shows a constant.
use Rattle.std.proofs.Common.{◌≡◌, ℕ, ◌+◌, true, false, List, [], ◌∷◌, ◌++◌, length, Some, None, refl, sym, ap, subst, ◌∙◌, append_assoc, arith}
use Rattle.std.specs.Prelude.{Bool, slice_get}
use Rattle.std.specs.List.{cons_option}
use Rattle.std.proofs.lemmas.Bool.{and_from}
use Rattle.bl_tree.proofs.Basics.{first_empty, get_seam, second_empty}
use Rattle.bl_face.specs.declared.item.FaceItem.{FaceItem}
use Rattle.bl_face.specs.declared.item.FaceItem.TheVariants as shows
use Rattle.bl_limits_measures.specs.Types.{struct_nestings}
use Rattle.bl_module.specs.Behind.{after_item as walk_on, item_stands}
use Rattle.bl_module.specs.declared.names.Referent.{Referent}
use Rattle.bl_module.specs.declared.names.Referent.TheVariants as referent
use Rattle.bl_module.specs.declared.walk.Walk.{Walk}
use Rattle.bl_module.specs.Names.{is_new}
use Rattle.bl_module.specs.Own.{constant_item, items_from, typed_constant}
use Rattle.bl_module_laws_faces.proofs.Here.{Here, constant_chosen, constant_fresh, constant_scopes, here_constant}
use Rattle.bl_module_laws_faces.proofs.Scoped.{NamesAgree, names_next, new_alike}
use Rattle.bl_names.proofs.StillLemmas.{still_value}
use Rattle.bl_names.specs.Named.{named_constant}
use Rattle.bl_names.specs.Order.{order_of}
use Rattle.bl_names_scopes.specs.declared.kind.Kind.TheVariants as kind
use Rattle.bl_names_scopes.specs.declared.kind.Wanted.TheVariants as wanted
use Rattle.bl_names_scopes.specs.Kinds.{suits}
use Rattle.bl_names_scopes.specs.Marks.{expr_marks, optional, type_marks}
use Rattle.bl_names_scopes.specs.Scopes.{Scopes, after, found}
use Rattle.bl_names_tree.specs.declared.named.Named.{Named}
use Rattle.bl_parse_tree.specs.declared.item.RawItem.{RawItem}
use Rattle.bl_parse_tree.specs.declared.item.RawItem.TheVariants as item
use Rattle.bl_parse_tree.specs.declared.stmt.RawConstant.{RawConstant}
use Rattle.bl_tree.specs.Scalar.{in_range}
use Rattle.bl_types.specs.declared.environment.Constant.{Constant as KnownConstant}
use Rattle.bl_types.specs.declared.environment.Environment.{Environment}
use Rattle.bl_types.specs.declared.environment.Known.{Known}
use Rattle.bl_types.specs.Declarations.{Declaring, after_constant, constant_of, initial}
use Rattle.bl_types.specs.Programs.{after_items, globals_of}
use Rattle.bl_types_laws.specs.Within.{ConstantStands}
use Rattle.bl_module_laws_faces.proofs.Adding.{Adding, Adds, Agrees, absent_behind, adds_first, by_first, next_at, one_behind}
use Rattle.bl_names_tree.specs.declared.item.NamedConstant.{NamedConstant}
use Rattle.bl_names_scopes.specs.Marks.{constant_marks}

abbrev is_struct_name : Referent → Bool
is_struct_name (referent.Struct at depth) = true
is_struct_name referent.Other = false

-- what is no struct
pub no_struct : (at depth : ℕ) → referent.Other ≡ referent.Struct at depth → ⊥
no_struct at depth is = let no : false ≡ true = ap is_struct_name is in cc

pub no_constant : suits wanted.Type kind.Constant ≡ true → ⊥
no_constant is = absurd (cc)

module _ (named : Named) (known : Known) (from_structs from_units : ℕ) (def : RawConstant) (items : List RawItem) (scopes : Scopes)
    (env : Environment) (walk : Walk) (here : Here named scopes (item.Constant def ∷ items) env)
    (agrees : Agrees named known from_structs from_units scopes env walk) where
  abbrev nestings : List ℕ
  nestings = struct_nestings known.structs

  abbrev made_of_it : NamedConstant
  made_of_it = named_constant scopes def

  abbrev c : KnownConstant
  c = constant_of made_of_it.value (initial env made_of_it.ty made_of_it.value).valued

  abbrev first : Declaring
  first = after_constant made_of_it env

  absent : found scopes.inner def.name.text ≡ None
  absent = absent_behind scopes (optional type_marks def.ty ++ expr_marks def.value) def.name kind.Constant (still_value def.ty (Some def.value))
      (constant_fresh named def items scopes env here)

  module _ (none : first.failures ≡ []) (others : List KnownConstant) (front : known.globals ≡ walk.behind.constants ++ (c ∷ [] ++ others)) where
    fit : ConstantStands c
    fit = (here_constant named def items scopes env here none).at.between.known.constants (length env.constants) c (get_seam env.constants c [])

    abbrev shows_constant : FaceItem
    shows_constant = shows.Constant def.name.text fit.ty c.value

    stands : item_stands walk.names shows_constant ≡ true
    stands = and_from (is_new walk.names def.name.text) (in_range fit.ty c.value)
        (new_alike def.name.text scopes.inner walk.names agrees.names.texts absent) fit.is_number

    is_shown : constant_item def.name (slice_get known.globals (length walk.behind.constants)) ≡ shows_constant ∷ []
    is_shown =
        ap (constant_item def.name) (ap (λ constants. slice_get constants (length walk.behind.constants)) front ∙ get_seam walk.behind.constants c others)
        ∙ ap (λ ty. typed_constant def.name.text ty c.value) fit.is_typed

    abbrev next : Walk
    next = walk_on walk shows_constant

    constants_are : walk.behind.constants ++ c ∷ [] ≡ next.behind.constants
    constants_are = λ i. walk.behind.constants ++ record { ty = fit.is_typed i; value = c.value } ∷ []

    globals_are : known.globals ≡ next.behind.constants ++ others
    globals_are = front ∙ sym (append_assoc walk.behind.constants (c ∷ []) others) ∙ ap (λ constants. constants ++ others) constants_are

    next_agrees : Agrees named known from_structs from_units (after scopes (constant_marks def)) first.env next
    next_agrees = record {
      names = subst (NamesAgree nestings (length env.structs) next.names) (constant_scopes named def items scopes env here)
          (names_next nestings (length env.structs) (length env.structs) walk.names scopes scopes.counts def.name kind.Constant referent.Other (omega arith)
          agrees.names absent (λ suited. absurd (no_constant suited)) (λ at depth is. absurd (no_struct at depth is)));
      structs = agrees.structs;
      units = agrees.units;
      own_structs = agrees.own_structs;
      own_units = agrees.own_units;
    }

    one_more : length walk.behind.constants + 1 ≡ length next.behind.constants
    one_more = one_behind walk.behind.constants (record { ty = Some fit.ty; value = c.value })

    items_are : shows_constant ∷ items_from known (next_at first.env next) items ≡ items_from known (next_at env walk) (item.Constant def ∷ items)
    items_are = λ i.
        sym is_shown i
        ++ items_from known (record { structs = length env.structs; constants = sym one_more i; units = length env.units }) items

module _ (named : Named) (known : Known) (from_structs from_units : ℕ) where
  pub constant_adds : (def : RawConstant) (items : List RawItem) → Adding named known from_structs from_units items →
      Adding named known from_structs from_units (item.Constant def ∷ items)
  constant_adds def items rest scopes env walk here agrees =
      let d : NamedConstant = named_constant scopes def in
      let c : KnownConstant = constant_of d.value (initial env d.ty d.value).valued in
      let first : Declaring = after_constant d env in
      let behind : Scopes = after scopes (constant_marks def) in
      let others : List KnownConstant = globals_of named (order_of items) first.env in
      by_first named known from_structs from_units (item.Constant def) items env walk first (constant_chosen named def items scopes env here)
      (λ none structs units globals.
      let one = first_empty first.failures (after_items named (order_of items) first.env).failures none in
      let more = second_empty first.failures (after_items named (order_of items) first.env).failures none in
      let front : known.globals ≡ walk.behind.constants ++ (c ∷ [] ++ others) =
      globals ∙ ap (λ found. walk.behind.constants ++ (cons_option found [] ++ others)) (get_seam env.constants c []) in
      let it : FaceItem =
      shows.Constant def.name.text (fit named known from_structs from_units def items scopes env walk here agrees one others front).ty c.value in
      subst (Adds named known from_structs from_units (item.Constant def ∷ items) walk)
      (items_are named known from_structs from_units def items scopes env walk here agrees one others front)
      (adds_first named known from_structs from_units (item.Constant def) items walk it (items_from known (next_at first.env (walk_on walk it)) items)
      (stands named known from_structs from_units def items scopes env walk here agrees one others front) refl
      (rest behind first.env (walk_on walk it) (here_constant named def items scopes env here one)
      (next_agrees named known from_structs from_units def items scopes env walk here agrees one others front) more structs units
      (globals_are named known from_structs from_units def items scopes env walk here agrees one others front))))
