-- The item of a face that shows a unit.
use Rattle.std.proofs.Common.{◌≡◌, ℕ, suc, ◌≤◌, true, List, [], ◌∷◌, ◌++◌, length, map, Some, None, refl, sym, ap, subst, ◌∙◌, append-nil, append_assoc, arith}
use Rattle.std.specs.Prelude.{Bool, ◌&&◌, nat_le, slice_get}
use Rattle.std.specs.List.{list_all}
use Rattle.std.proofs.lemmas.List.{length-map}
use Rattle.std.proofs.lemmas.List.Folds.{list_all-append}
use Rattle.std.proofs.lemmas.Bool.{and_from}
use Rattle.bl_tree.proofs.Basics.{and_first, and_second, first_empty, get_seam, second_empty}
use Rattle.bl_face.specs.declared.item.FaceField.{FaceField}
use Rattle.bl_face.specs.declared.item.FaceItem.{FaceItem}
use Rattle.bl_face.specs.declared.item.FaceItem.TheVariants as shows
use Rattle.bl_limits_measures.specs.Types.{nesting_by, struct_nestings}
use Rattle.bl_module.specs.Behind.{after_item as walk_on, gives_once, item_stands, resolved_head, resolved_param, types_stand}
use Rattle.bl_module.specs.declared.names.Referent.TheVariants as referent
use Rattle.bl_module.specs.declared.walk.Walk.{Walk}
use Rattle.bl_module.specs.Names.{are_new, is_new, with_fields}
use Rattle.bl_module.specs.Own.{items_from, params_known_from, unit_item}
use Rattle.bl_module_laws_faces.proofs.Elements.{params_are, params_shown, shown_params, typed_params}
use Rattle.bl_module_laws_faces.proofs.Fresh.{Fresh, fresh_first, fresh_second}
use Rattle.bl_module_laws_faces.proofs.Goes.{goes}
use Rattle.bl_module_laws_faces.proofs.Heads.{gives_once_is, head_is, placed_again}
use Rattle.bl_module_laws_faces.proofs.Here.{Here, body_end, here_unit, passed, step_there, structs_still, unit_behind, unit_chosen, unit_fits, unit_fresh}
use Rattle.bl_module_laws_faces.proofs.Here.{units_are}
use Rattle.bl_module_laws_faces.proofs.Scoped.{NamesAgree, names_next, new_alike, resolves_opened}
use Rattle.bl_module_laws_faces.proofs.Variables.{VariablesAre, variables_are}
use Rattle.bl_names.proofs.FitLemmas.{Fits, fits_first, fits_second}
use Rattle.bl_names.proofs.ItemLemmas.{inside_scopes}
use Rattle.bl_names.proofs.PlacedExpr.{earlier}
use Rattle.bl_names.proofs.PlacedStmt.{closed_is}
use Rattle.bl_names.proofs.StillLemmas.{after-append}
use Rattle.bl_names.specs.Named.{block_piece, named_unit, opened, params_piece}
use Rattle.bl_names.specs.Order.{order_of}
use Rattle.bl_names_scopes.specs.declared.kind.Wanted.TheVariants as wanted
use Rattle.bl_names_scopes.specs.Kinds.{suits}
use Rattle.bl_names_scopes.specs.Marks.{Marks, closes, declares, in_scope, inside_unit, kind_of_unit, optional, param_marks, stmt_marks, type_marks, unit_marks}
use Rattle.bl_names_scopes.specs.Scopes.{Scopes, after, enter, found}
use Rattle.bl_names_tree.specs.declared.named.Named.{Named}
use Rattle.bl_names_tree.specs.Placed.{DeclaredBefore}
use Rattle.bl_parse_tree.specs.declared.item.RawItem.{RawItem}
use Rattle.bl_parse_tree.specs.declared.item.RawItem.TheVariants as item
use Rattle.bl_parse_tree.specs.declared.item.RawParam.{RawParam}
use Rattle.bl_parse_tree.specs.declared.item.RawUnit.{RawUnit}
use Rattle.bl_tree.specs.declared.tree.Role.TheVariants as role
use Rattle.bl_tree.specs.declared.tree.Unit.{Unit as UnitDef}
use Rattle.bl_tree.specs.declared.tree.UnitKind.{UnitKind}
use Rattle.bl_tree.specs.declared.tree.UnitKind.TheVariants.{Function, Activity}
use Rattle.bl_tree.specs.declared.tree.Var.{Var}
use Rattle.bl_tree.specs.Reduce.{joined}
use Rattle.bl_tree.specs.Types.{type_stands as typed_stands}
use Rattle.bl_tree_laws_places.specs.Placed.{placed_var}
use Rattle.bl_types.specs.declared.environment.Constant.{Constant as KnownConstant}
use Rattle.bl_types.specs.declared.environment.Environment.{Environment}
use Rattle.bl_types.specs.declared.environment.Known.{Known}
use Rattle.bl_types.specs.Declarations.{Declaring}
use Rattle.bl_types.specs.Programs.{after_items}
use Rattle.bl_types.specs.Units.{after_unit}
use Rattle.bl_types_laws.proofs.Standing.{made_of, passing}
use Rattle.bl_types_laws_places.specs.Agree.{SameHeads, SameStructs, head_of_unit, unplaced}
use Rattle.bl_module_laws_faces.proofs.Adding.{Adding, Adds, Agrees, Shallow, adds_first, by_first, next_at, one_behind, pushed}
use Rattle.bl_types_laws.proofs.Standing.{Passing}
use Rattle.bl_names_tree.specs.declared.item.NamedUnit.{NamedUnit}
use Rattle.bl_tree.specs.declared.tree.Role.{Role}
use Rattle.bl_module_laws_faces.proofs.Here.{is_named, outer_still}
use Rattle.bl_module_laws_faces.proofs.Elements.{ParamsShown}
use Rattle.bl_module_laws_faces.proofs.Constants.{no_struct}

pub no_kind : (of : UnitKind) → suits wanted.Type (kind_of_unit of) ≡ true → ⊥
no_kind Function is = absurd (cc)
no_kind Activity is = absurd (cc)

typed_long : (constants : List KnownConstant) (of : Role) (params : List RawParam) (scopes : Scopes) →
    length (typed_params constants of scopes params) ≡ length params
typed_long constants of [] scopes = refl
typed_long constants of (param ∷ params) scopes = ap suc (typed_long constants of params (after scopes (param_marks param)))

shown_long : (constants : List KnownConstant) (params : List RawParam) (scopes : Scopes) → length (shown_params constants scopes params) ≡ length params
shown_long constants [] scopes = refl
shown_long constants (param ∷ params) scopes = ap suc (shown_long constants params (after scopes (param_marks param)))

module _ (named : Named) (known : Known) (from_structs from_units : ℕ) (shallow : Shallow named known from_structs from_units) (def : RawUnit)
    (items : List RawItem) (scopes : Scopes) (env : Environment) (walk : Walk) (here : Here named scopes (item.Unit def ∷ items) env)
    (agrees : Agrees named known from_structs from_units scopes env walk) where
  abbrev nestings : List ℕ
  nestings = struct_nestings known.structs

  abbrev n : ℕ
  n = length env.structs

  abbrev named_one : NamedUnit
  named_one = named_unit scopes def

  abbrev made : UnitDef
  made = made_of named.constants named_one env

  abbrev first : Declaring
  first = after_unit named.constants named_one env

  abbrev in_marks : Marks
  in_marks = joined (map param_marks def.inputs)

  abbrev out_marks : Marks
  out_marks = joined (map param_marks def.outputs)

  abbrev body_marks : Marks
  body_marks = optional type_marks def.result ++ joined (map stmt_marks def.body)

  abbrev begun : Scopes
  begun = opened scopes

  abbrev between : Scopes
  between = after begun in_marks

  abbrev typed_ins : List Var
  typed_ins = typed_params env.constants role.Input begun def.inputs

  abbrev typed_outs : List Var
  typed_outs = typed_params env.constants role.Output between def.outputs

  abbrev ins : List FaceField
  ins = shown_params env.constants begun def.inputs

  abbrev outs : List FaceField
  outs = shown_params env.constants between def.outputs

  inside_fit : Fits begun (inside_unit def)
  inside_fit = fits_first begun (inside_unit def) (closes ∷ [])
      (fits_first scopes (in_scope (inside_unit def)) (declares def.name (kind_of_unit def.kind) ∷ []) (unit_fits named def items scopes env here)).1

  inside_fresh : Fresh begun (inside_unit def)
  inside_fresh = fresh_first begun (inside_unit def) (closes ∷ [])
      (fresh_first scopes (in_scope (inside_unit def)) (declares def.name (kind_of_unit def.kind) ∷ []) (unit_fresh named def items scopes env here)).1

  -- the scope of the file is as before behind the body
  closed : (after scopes (in_scope (inside_unit def))).inner ≡ scopes.inner
  closed =
      ap (λ (s : Scopes). s.inner)
      (after-append begun (inside_unit def) (closes ∷ [])
      ∙ ap (λ s. enter s closes) (sym (inside_scopes begun def) ∙ after-append begun (params_piece def).marks (block_piece def.body).marks)
      ∙ closed_is scopes (body_end named def items scopes env here) (outer_still named def items scopes env here))

  absent : found scopes.inner def.name.text ≡ None
  absent = ap (λ scope. found scope def.name.text) (sym closed)
      ∙ (fresh_second scopes (in_scope (inside_unit def)) (declares def.name (kind_of_unit def.kind) ∷ []) (unit_fresh named def items scopes env here)).0

  module _ (none : first.failures ≡ []) (later : List UnitDef) (front : known.units ≡ first.env.units ++ later) where
    abbrev behind_counts : DeclaredBefore
    behind_counts = earlier (after scopes (unit_marks def))

    vars : VariablesAre named.constants scopes def env here.at.between (is_named named def items scopes env here) behind_counts
        (step_there named def items scopes env here) none
    vars = variables_are named.constants scopes def env here.at.between (is_named named def items scopes env here) behind_counts
        (step_there named def items scopes env here) none

    there : slice_get known.units (length env.units) ≡ Some made
    there =
        ap (λ units. slice_get units (length env.units))
        (front ∙ ap (λ units. units ++ later) (units_are named def items scopes env here none) ∙ append_assoc env.units (made ∷ []) later)
        ∙ get_seam env.units made later

    fit : Passing env.structs named_one env.units made
    fit = passing env.structs named.constants named_one env (earlier (after scopes (unit_marks def)))
        (passed named def items scopes env here env.structs [] (sym (append-nil env.structs)) none)

    abbrev stands_typed : Var → Bool
    stands_typed var = typed_stands n var.ty

    abbrev not_deep : Var → Bool
    not_deep var = nat_le (nesting_by nestings var.ty) 100

    all_stand : list_all stands_typed (typed_ins ++ (typed_outs ++ vars.more)) ≡ true
    all_stand = ap (list_all stands_typed) (sym vars.are) ∙ fit.vars_stand

    all_shallow : list_all not_deep (typed_ins ++ (typed_outs ++ vars.more)) ≡ true
    all_shallow = ap (list_all not_deep) (sym vars.are) ∙ shallow.units (length env.units) made agrees.own_units there

    first_all : (test : Var → Bool) → list_all test (typed_ins ++ (typed_outs ++ vars.more)) ≡ true →
        (list_all test typed_ins ≡ true) × (list_all test typed_outs ≡ true)
    first_all test all =
        let one = sym (list_all-append test typed_ins (typed_outs ++ vars.more)) ∙ all in
        let two = sym (list_all-append test typed_outs vars.more)
        ∙ and_second (list_all test typed_ins) (list_all test (typed_outs ++ vars.more)) one in
        (and_first (list_all test typed_ins) (list_all test (typed_outs ++ vars.more)) one, and_first (list_all test typed_outs) (list_all test vars.more) two)

    inputs : ParamsShown nestings n walk.names agrees.names.told env.constants role.Input begun def.inputs []
    inputs = params_shown nestings n walk.names agrees.names.told env.constants role.Input n def.inputs begun []
        (resolves_opened walk.names scopes agrees.names.resolves) tt
        (fits_first begun in_marks (out_marks ++ body_marks) inside_fit) (fresh_first begun in_marks (out_marks ++ body_marks) inside_fresh)
        (first_all stands_typed all_stand).0 (first_all not_deep all_shallow).0

    outputs : ParamsShown nestings n walk.names agrees.names.told env.constants role.Output between def.outputs (with_fields [] ins)
    outputs = params_shown nestings n walk.names agrees.names.told env.constants role.Output n def.outputs between (with_fields [] ins)
        inputs.resolves inputs.texts
        (fits_first between out_marks body_marks (fits_second begun in_marks (out_marks ++ body_marks) inside_fit))
        (fresh_first between out_marks body_marks (fresh_second begun in_marks (out_marks ++ body_marks) inside_fresh))
        (first_all stands_typed all_stand).1 (first_all not_deep all_shallow).1

    abbrev shows_unit : FaceItem
    shows_unit = shows.Head def.kind def.name.text ins outs made.result

    stands : item_stands walk.names shows_unit ≡ true
    stands =
        and_from (is_new walk.names def.name.text && (are_new [] ins && are_new (with_fields [] ins) outs))
        ((types_stand walk.names ins && types_stand walk.names outs) && gives_once def.kind outs made.result)
        (and_from (is_new walk.names def.name.text) (are_new [] ins && are_new (with_fields [] ins) outs)
        (new_alike def.name.text scopes.inner walk.names agrees.names.texts absent)
        (and_from (are_new [] ins) (are_new (with_fields [] ins) outs) inputs.new outputs.new))
        (and_from (types_stand walk.names ins && types_stand walk.names outs) (gives_once def.kind outs made.result)
        (and_from (types_stand walk.names ins) (types_stand walk.names outs) inputs.stand outputs.stand)
        (gives_once_is made outs fit.returns (sym (shown_long env.constants def.outputs between))))

    is_shown : unit_item def (slice_get known.units (length env.units)) ≡ shows_unit
    is_shown =
        ap (unit_item def) there
        ∙ ap
        (λ vars. shows.Head def.kind def.name.text (params_known_from 0 vars def.inputs) (params_known_from (length def.inputs) vars def.outputs) made.result)
        vars.are
        ∙ (λ i. shows.Head def.kind def.name.text (params_are env.constants role.Input begun def.inputs [] (typed_outs ++ vars.more) 0 refl i)
        (params_are env.constants role.Output between def.outputs typed_ins vars.more (length def.inputs)
        (typed_long env.constants role.Input def.inputs begun) i)
        made.result)

    abbrev next : Walk
    next = walk_on walk shows_unit

    abbrev head : UnitDef
    head = resolved_head walk.names def.kind def.name.text ins outs made.result

    abbrev resolved_ins : List Var
    resolved_ins = map (resolved_param walk.names role.Input) ins

    abbrev resolved_outs : List Var
    resolved_outs = map (resolved_param walk.names role.Output) outs

    -- the face shows the head of the unit
    same_head : head_of_unit head ≡ head_of_unit made
    same_head =
        head_is head resolved_ins resolved_outs [] (ap (λ l. resolved_ins ++ l) (sym (append-nil resolved_outs)))
        (length-map ins (resolved_param walk.names role.Input)) (length-map outs (resolved_param walk.names role.Output))
        ∙ (λ i. record {
          name = def.name.text;
          kind = def.kind;
          inputs = (ap (map (placed_var unplaced)) inputs.same ∙ placed_again typed_ins) i;
          outputs = (ap (map (placed_var unplaced)) outputs.same ∙ placed_again typed_outs) i;
          input_count = shown_long env.constants def.inputs begun i;
          output_count = shown_long env.constants def.outputs between i;
          result = made.result;
        })
        ∙ sym (head_is made typed_ins typed_outs vars.more vars.are (typed_long env.constants role.Input def.inputs begun)
        (typed_long env.constants role.Output def.outputs between))

    names_agree : NamesAgree nestings n next.names (after scopes (unit_marks def))
    names_agree =
        subst (NamesAgree nestings n next.names) (unit_behind named def items scopes env here)
        (names_next nestings n n walk.names scopes (body_end named def items scopes env here).counts def.name (kind_of_unit def.kind) referent.Other
        (omega arith) agrees.names absent (λ suited. absurd (no_kind def.kind suited)) (λ at depth is. absurd (no_struct at depth is)))

    structs_kept : first.env.structs ≡ env.structs
    structs_kept = structs_still named def items scopes env here none

    units_now : first.env.units ≡ env.units ++ made ∷ []
    units_now = units_are named def items scopes env here none

    next_agrees : Agrees named known from_structs from_units (after scopes (unit_marks def)) first.env next
    next_agrees = record {
      names = subst (λ structs. NamesAgree nestings (length structs) next.names (after scopes (unit_marks def))) (sym structs_kept) names_agree;
      structs = subst (SameStructs walk.behind.structs) (sym structs_kept) agrees.structs;
      units = subst (SameHeads next.behind.units) (sym units_now)
          (sym (pushed head_of_unit walk.behind.units env.units head made (sym agrees.units) same_head));
      own_structs = subst (λ structs. from_structs ≤ length structs) (sym structs_kept) agrees.own_structs;
      own_units = subst (λ units. from_units ≤ length units) (sym units_now)
          (let own = agrees.own_units in let more = one_behind env.units made in omega (arith, own, more));
    }

    items_are : shows_unit ∷ items_from known (next_at first.env next) items ≡ items_from known (next_at env walk) (item.Unit def ∷ items)
    items_are = λ i.
        sym is_shown i
        ∷ items_from known
        (record {
          structs = length (structs_kept i);
          constants = length walk.behind.constants;
          units = (ap length units_now ∙ sym (one_behind env.units made)) i;
        })
        items

module _ (named : Named) (known : Known) (from_structs from_units : ℕ) (shallow : Shallow named known from_structs from_units) where
  pub unit_adds : (def : RawUnit) (items : List RawItem) → Adding named known from_structs from_units items →
      Adding named known from_structs from_units (item.Unit def ∷ items)
  unit_adds def items rest scopes env walk here agrees =
      let u : NamedUnit = named_unit scopes def in
      let first : Declaring = after_unit named.constants u env in
      let behind : Scopes = after scopes (unit_marks def) in
      let begun : Scopes = opened scopes in
      by_first named known from_structs from_units (item.Unit def) items env walk first (unit_chosen named def items scopes env here)
      (λ none structs units globals.
      let one = first_empty first.failures (after_items named (order_of items) first.env).failures none in
      let more = second_empty first.failures (after_items named (order_of items) first.env).failures none in
      let gone = goes named items behind first.env (here_unit named def items scopes env here one) more in
      let front = units ∙ gone.units in
      let it : FaceItem = shows.Head def.kind def.name.text (shown_params env.constants begun def.inputs)
      (shown_params env.constants (after begun (joined (map param_marks def.inputs))) def.outputs) (made_of named.constants u env).result in
      subst (Adds named known from_structs from_units (item.Unit def ∷ items) walk)
      (items_are named known from_structs from_units shallow def items scopes env walk here agrees one gone.more front)
      (adds_first named known from_structs from_units (item.Unit def) items walk it (items_from known (next_at first.env (walk_on walk it)) items)
      (stands named known from_structs from_units shallow def items scopes env walk here agrees one gone.more front) refl
      (rest behind first.env (walk_on walk it) (here_unit named def items scopes env here one)
      (next_agrees named known from_structs from_units shallow def items scopes env walk here agrees one gone.more front) more structs units globals)))
