-- Items that were named in scopes that correspond.
use Rattle.std.proofs.Common.{◌≡◌, ℕ, List, [], ◌∷◌, ◌++◌, length, map, refl, ap, ap₂, subst, sym, ◌∙◌}
use Rattle.std.proofs.lemmas.List.{length-map, map-append}
use Rattle.std.specs.Prelude.{All, Option, Some, None, option_map}
use Rattle.bl_tree.specs.declared.tree.Role.{Role}
use Rattle.bl_tree.specs.declared.tree.Role.TheVariants as role
use Rattle.bl_tree.specs.Reduce.{joined}
use Rattle.bl_joined.specs.Trees.{placed_field, placed_item, placed_name, placed_param, placed_stmt, placed_struct, placed_type, placed_unit}
use Rattle.bl_names.proofs.FitLemmas.{Fits, fits_behind, fits_first, fits_second, marks_fit}
use Rattle.bl_names.proofs.PieceLemmas.{block_marks, role_marks}
use Rattle.bl_names.proofs.StillLemmas.{after-append, still_optional, still_type}
use Rattle.bl_names.specs.Named.{Piece, along, block_piece, constants_of, followed, inside_piece, named_constant, named_field, named_struct, named_unit}
use Rattle.bl_names.specs.Named.{named_var, opened, param_piece, params_piece, role_piece, structs_of, unit_inside, units_of}
use Rattle.bl_names.specs.Naming.{named_type}
use Rattle.bl_names_scopes.specs.declared.kind.Kind.TheVariants as kind
use Rattle.bl_names_scopes.specs.Marks.{Marks, closes, constant_marks, declares, field_mark, field_type_marks, in_scope, inside_unit, item_marks, kind_of_unit}
use Rattle.bl_names_scopes.specs.Marks.{marks_of, optional, param_marks, stmt_marks, struct_marks, type_marks, unit_marks}
use Rattle.bl_names_scopes.specs.Rules.{PassesBehind}
use Rattle.bl_names_scopes.specs.Scopes.{Scopes, after, enter}
use Rattle.bl_names_scopes_laws_places.specs.Agree.{ScopesAgree, placed_marks}
use Rattle.bl_names_scopes_laws_places.proofs.MarksMoved.{after_moves, both, item_moves, type_moves}
use Rattle.bl_names_tree.specs.declared.item.NamedConstant.{NamedConstant}
use Rattle.bl_names_tree.specs.declared.item.NamedField.{NamedField}
use Rattle.bl_names_tree.specs.declared.item.NamedStruct.{NamedStruct}
use Rattle.bl_names_tree.specs.declared.item.NamedUnit.{NamedUnit}
use Rattle.bl_names_tree.specs.declared.item.NamedVar.{NamedVar}
use Rattle.bl_parse_tree.specs.declared.item.RawField.{RawField}
use Rattle.bl_parse_tree.specs.declared.item.RawItem.{RawItem}
use Rattle.bl_parse_tree.specs.declared.item.RawItem.TheVariants.{Struct, Constant, Unit as UnitItem}
use Rattle.bl_parse_tree.specs.declared.item.RawParam.{RawParam}
use Rattle.bl_parse_tree.specs.declared.item.RawStruct.{RawStruct}
use Rattle.bl_parse_tree.specs.declared.item.RawUnit.{RawUnit}
use Rattle.bl_parse_tree.specs.declared.stmt.RawConstant.{RawConstant}
use Rattle.bl_parse_tree.specs.declared.types.RawType.{RawType}
use Rattle.bl_names_laws_places.specs.Laws.{NamesAgree, SameItems}
use Rattle.bl_names_laws_places.specs.Renamed.{Renaming, renamed_constant, renamed_field, renamed_stmt, renamed_struct, renamed_type, renamed_unit, renamed_var}
use Rattle.bl_names_laws_places.proofs.Pieces.{PieceAgrees, all_agree, inward, keeps_append, keeps_still, onward}
use Rattle.bl_names_laws_places.proofs.Positions.{both_ways, each_fits, map-made}
use Rattle.bl_names_laws_places.proofs.Stmts.{block_agrees, constant_agrees, var_agrees}
use Rattle.bl_names_laws_places.proofs.Types.{optional_type_agrees, type_agrees}

-- marks fit one behind the other
fits_append : (scopes : Scopes) (first second : Marks) → Fits scopes first → Fits (after scopes first) second → Fits scopes (first ++ second)
fits_append scopes [] second one two = two
fits_append scopes (mark ∷ first) second one two = (one.0, fits_append (enter scopes mark) first second one.1 two)

module _ (by : Renaming) where
  -- ---- structs

  field_agrees : (one other : Scopes) → ScopesAgree by.constant one other → (field : RawField) → Fits one (field_type_marks field) →
      named_field other (placed_field by.place field) ≡ renamed_field by (named_field one field)
  field_agrees one other agree field fits =
      ap (λ t. record { name = placed_name by.place field.name; ty = t }) (type_agrees by one other agree one.counts field.ty fits)

  struct_agrees : (one other : Scopes) → ScopesAgree by.constant one other → (def : RawStruct) → Fits one (struct_marks def) →
      named_struct other (placed_struct by.place def) ≡ renamed_struct by (named_struct one def)
  struct_agrees one other agree def fits =
      ap (λ fields. record { name = placed_name by.place def.name; fields = fields })
      (map-made (named_field other) (placed_field by.place) (renamed_field by) (named_field one) def.fields
      (both_ways (λ field. Fits one (field_type_marks field))
      (λ field. named_field other (placed_field by.place field) ≡ renamed_field by (named_field one field)) def.fields
      (λ k d less. field_agrees one other agree _)
      (each_fits field_type_marks (λ field. still_type field.ty) one def.fields
      (fits_first one (joined (map field_type_marks def.fields)) (in_scope (map field_mark def.fields))
      (fits_first one (joined (map field_type_marks def.fields) ++ in_scope (map field_mark def.fields)) (declares def.name kind.Struct ∷ []) fits)))))

  -- ---- parameters

  param_agrees : (of : Role) (param : RawParam) → PieceAgrees by (renamed_var by) (param_piece of param) (param_piece of (placed_param by.place param))
  param_agrees of param = record {
    marks = after_moves by.place _ (type_marks param.ty) param.name kind.Variable (type_moves by.place param.ty);
    keeps =
        keeps_append (type_marks param.ty) (declares param.name kind.Variable ∷ []) (keeps_still (type_marks param.ty) (still_type param.ty))
        (λ scopes. refl);
    made = λ one other agree fits. var_is one other agree fits;
    vars = λ one other agree fits. ap (λ var. var ∷ []) (var_is one other agree fits);
    constants = λ one other agree fits. refl;
  }
    where
      var_is : (one other : Scopes) → ScopesAgree by.constant one other → Fits one (param_marks param) →
          named_var other (placed_name by.place param.name) (Some (placed_type by.place param.ty)) of
          ≡ renamed_var by (named_var one param.name (Some param.ty) of)
      var_is one other agree fits =
          var_agrees by one other agree param.name (Some param.ty) of (fits_first one (type_marks param.ty) (declares param.name kind.Variable ∷ []) fits)

  role_agrees : (of : Role) (params : List RawParam) →
      PieceAgrees by (map (renamed_var by)) (role_piece of params) (role_piece of (map (placed_param by.place) params))
  role_agrees of params = all_agree by (param_piece of) (placed_param by.place) (renamed_var by) params (λ k d less. param_agrees of _)

  -- a part, and then another
  followed_agrees : {A B : Type 0} (renamed : A → A) (changed : B → B) (a c : Piece A) (b d : Piece B) → PieceAgrees by renamed a c →
      PieceAgrees by changed b d → PieceAgrees by changed (followed a b) (followed c d)
  followed_agrees renamed changed a c b d first second = record {
    marks = both by.place c.marks d.marks a.marks b.marks first.marks second.marks;
    keeps = keeps_append a.marks b.marks first.keeps second.keeps;
    made = λ one other agree fits. second.made _ _ (behind one other agree) (fits_second one a.marks b.marks fits);
    vars = λ one other agree fits.
        ap₂ (λ xs ys. xs ++ ys) (first.vars one other agree (fits_first one a.marks b.marks fits))
        (second.vars _ _ (behind one other agree) (fits_second one a.marks b.marks fits))
        ∙ sym (map-append (renamed_var by) (a.vars one) (b.vars (after one a.marks)));
    constants = λ one other agree fits.
        ap₂ (λ xs ys. xs ++ ys) (first.constants one other agree (fits_first one a.marks b.marks fits))
        (second.constants _ _ (behind one other agree) (fits_second one a.marks b.marks fits))
        ∙ sym (map-append (renamed_constant by) (a.constants one) (b.constants (after one a.marks)));
  }
    where
      behind : (one other : Scopes) → ScopesAgree by.constant one other → ScopesAgree by.constant (after one a.marks) (after other c.marks)
      behind one other agree = onward by one other agree a.marks c.marks first.marks

  params_agree : (def : RawUnit) → PieceAgrees by (map (renamed_var by)) (params_piece def) (params_piece (placed_unit by.place def))
  params_agree def =
      followed_agrees (map (renamed_var by)) (map (renamed_var by)) (role_piece role.Input def.inputs)
      (role_piece role.Input (map (placed_param by.place) def.inputs)) (role_piece role.Output def.outputs)
      (role_piece role.Output (map (placed_param by.place) def.outputs)) (role_agrees role.Input def.inputs) (role_agrees role.Output def.outputs)

  inside_agrees : (def : RawUnit) → PieceAgrees by (map (renamed_stmt by)) (inside_piece def) (inside_piece (placed_unit by.place def))
  inside_agrees def =
      followed_agrees (map (renamed_var by)) (map (renamed_stmt by)) (params_piece def) (params_piece (placed_unit by.place def)) (block_piece def.body)
      (block_piece (map (placed_stmt by.place) def.body)) (params_agree def) (block_agrees by def.body)

  -- ---- units

  -- the marks of a unit by its parts
  record PartsFit (scopes : Scopes) (def : RawUnit) : Type 0 where
    result : Fits (after scopes (params_piece def).marks) (optional type_marks def.result)
    all : Fits scopes (inside_piece def).marks

  parts_fit : (scopes : Scopes) (def : RawUnit) → Fits scopes (inside_unit def) → PartsFit scopes def
  parts_fit scopes def fits =
      let ins : Marks = joined (map param_marks def.inputs) in
      let outs : Marks = joined (map param_marks def.outputs) in
      let of_result : Marks = optional type_marks def.result in
      let of_body : Marks = joined (map stmt_marks def.body) in
      let first = fits_first scopes ins (outs ++ (of_result ++ of_body)) fits in
      let second = fits_second scopes ins (outs ++ (of_result ++ of_body)) fits in
      let third = fits_first (after scopes ins) outs (of_result ++ of_body) second in
      let fourth = fits_second (after scopes ins) outs (of_result ++ of_body) second in
      let last = fits_behind (after (after scopes ins) outs) of_result of_body (still_optional type_marks def.result still_type) fourth in
      let params_are : (params_piece def).marks ≡ ins ++ outs =
      ap₂ (λ xs ys. xs ++ ys) (role_marks role.Input def.inputs) (role_marks role.Output def.outputs) in
      let here : after scopes (params_piece def).marks ≡ after (after scopes ins) outs = ap (after scopes) params_are ∙ after-append scopes ins outs in
      record {
        result = subst (λ s. Fits s of_result) (sym here) (fits_first (after (after scopes ins) outs) of_result of_body fourth);
        all =
            fits_append scopes (params_piece def).marks (block_piece def.body).marks
            (subst (Fits scopes) (sym params_are) (fits_append scopes ins outs first third))
            (subst (λ s. Fits s (block_piece def.body).marks) (sym here)
            (subst (Fits (after (after scopes ins) outs)) (sym (block_marks def.body)) last));
      }

  unit_agrees_in : (one other : Scopes) → ScopesAgree by.constant one other → (def : RawUnit) → PartsFit one def →
      unit_inside other (placed_unit by.place def) ≡ renamed_unit by (unit_inside one def)
  unit_agrees_in one other agree def fits = λ i. record {
    entry = def.entry;
    kind = def.kind;
    name = placed_name by.place def.name;
    vars = (inside_agrees def).vars one other agree fits.all i;
    inputs = length-map def.inputs (placed_param by.place) i;
    outputs = length-map def.outputs (placed_param by.place) i;
    result =
        optional_type_agrees by (after one (params_piece def).marks) (after other (params_piece (placed_unit by.place def)).marks)
        (onward by one other agree (params_piece def).marks (params_piece (placed_unit by.place def)).marks (params_agree def).marks)
        (after one (params_piece def).marks).counts def.result fits.result i;
    body = (inside_agrees def).made one other agree fits.all i;
  }

  unit_fits : (one : Scopes) (def : RawUnit) → Fits one (unit_marks def) → PartsFit (opened one) def
  unit_fits one def fits =
      parts_fit (opened one) def
      (fits_first (opened one) (inside_unit def) (closes ∷ [])
      (fits_first one (in_scope (inside_unit def)) (declares def.name (kind_of_unit def.kind) ∷ []) fits).1)

  -- ---- items

  structs_agree : (one other : Scopes) → ScopesAgree by.constant one other → (item : RawItem) → Fits one (item_marks item) →
      structs_of other (placed_item by.place item) ≡ map (renamed_struct by) (structs_of one item)
  structs_agree one other agree (Struct def) fits = ap (λ s. s ∷ []) (struct_agrees one other agree def fits)
  structs_agree one other agree (Constant constant) fits = refl
  structs_agree one other agree (UnitItem def) fits = refl

  constants_agree : (one other : Scopes) → ScopesAgree by.constant one other → (item : RawItem) → Fits one (item_marks item) →
      constants_of other (placed_item by.place item) ≡ map (renamed_constant by) (constants_of one item)
  constants_agree one other agree (Struct def) fits = refl
  constants_agree one other agree (Constant constant) fits = ap (λ c. c ∷ []) (constant_agrees by one other agree constant fits)
  constants_agree one other agree (UnitItem def) fits =
      (inside_agrees def).constants (opened one) (opened other) (inward by one other agree) (unit_fits one def fits).all

  units_agree : (one other : Scopes) → ScopesAgree by.constant one other → (item : RawItem) → Fits one (item_marks item) →
      units_of other (placed_item by.place item) ≡ map (renamed_unit by) (units_of one item)
  units_agree one other agree (Struct def) fits = refl
  units_agree one other agree (Constant constant) fits = refl
  units_agree one other agree (UnitItem def) fits =
      ap (λ u. u ∷ []) (unit_agrees_in (opened one) (opened other) (inward by one other agree) def (unit_fits one def fits))

  module _ {A : Type 0} (gives : Scopes → RawItem → List A) (renamed : A → A)
      (same : (one other : Scopes) → ScopesAgree by.constant one other → (item : RawItem) → Fits one (item_marks item) →
      gives other (placed_item by.place item) ≡ map renamed (gives one item)) where
    along_agrees : (one other : Scopes) → ScopesAgree by.constant one other → (items : List RawItem) → Fits one (marks_of items) →
        along gives other (map (placed_item by.place) items) ≡ map renamed (along gives one items)
    along_agrees one other agree [] fits = refl
    along_agrees one other agree (item ∷ items) fits =
        ap₂ (λ xs ys. xs ++ ys) (same one other agree item (fits_first one (item_marks item) (marks_of items) fits))
        (along_agrees (after one (item_marks item)) (after other (item_marks (placed_item by.place item)))
        (onward by one other agree (item_marks item) (item_marks (placed_item by.place item)) (item_moves by.place item)) items
        (fits_second one (item_marks item) (marks_of items) fits))
        ∙ sym (map-append renamed (gives one item) (along gives (after one (item_marks item)) items))

pub names_agree : NamesAgree
names_agree by one other agree items passes =
    let fits = marks_fit one (marks_of items) passes in
    record {
      structs = along_agrees by structs_of (renamed_struct by) (structs_agree by) one other agree items fits;
      constants = along_agrees by constants_of (renamed_constant by) (constants_agree by) one other agree items fits;
      units = along_agrees by units_of (renamed_unit by) (units_agree by) one other agree items fits;
    }
