-- The border behind one file more.
use Rattle.std.proofs.Common.{◌≡◌, ◌∙◌, ℕ, ◌+◌, ◌-◌, ◌<◌, Bool, false, List, [], ◌∷◌, ◌++◌, length, map, None, refl, sym, ap, subst, inl, inr, arith}
use Rattle.std.proofs.lemmas.Bool.{cases_lt}
use Rattle.std.proofs.lemmas.List.{append_assoc, length-append, nil_from_length}
use Rattle.std.proofs.lemmas.Option.{slice_get_past}
use Rattle.std.specs.List.{list_any}
use Rattle.std.specs.Prelude.{slice_get}
use Rattle.bl_tree.proofs.Basics.{get_behind, get_in_front}
use Rattle.bl_face.specs.declared.face.Face.{Face}
use Rattle.bl_joined.specs.Trees.{placed_item}
use Rattle.bl_module.specs.Faces.{behind_faces}
use Rattle.bl_module.specs.Rules.{known_at, named_in}
use Rattle.bl_module.specs.declared.behind.Behind.{Behind}
use Rattle.bl_module_laws_faces.specs.Declared.{FaceAdds, face_heading}
use Rattle.bl_names.specs.Named.{along, units_of}
use Rattle.bl_names.specs.Order.{order_of}
use Rattle.bl_names_laws_files.specs.Globals.{DeclareItems, declared_constants, global_positions, name_and_kind, renumber}
use Rattle.bl_names_laws_files.specs.Laws.{RenumberedInTurn, declared_globals_with}
use Rattle.bl_names_scopes.specs.Marks.{marks_of}
use Rattle.bl_names_scopes.specs.Scopes.{file_scope, opened_by}
use Rattle.bl_names_tree.specs.declared.named.Named.{Named}
use Rattle.bl_parse_tree.specs.declared.item.RawItem.{RawItem}
use Rattle.bl_parse_tree.specs.declared.item.RawItem.TheVariants.{Struct, Constant as ConstantItem, Unit as UnitItem}
use Rattle.bl_parse_tree.specs.declared.raw.Raw.{Raw}
use Rattle.bl_tree.specs.declared.place.Place.{Place}
use Rattle.bl_tree_laws_places.specs.Laws.{BringsBack}
use Rattle.bl_tree_laws_places.specs.Placed.{placed_structs}
use Rattle.bl_types.specs.declared.environment.Constant.{Constant}
use Rattle.bl_types.specs.declared.environment.Environment.{Environment}
use Rattle.bl_types.specs.Programs.{after_items, fresh, globals_of}
use Rattle.bl_types_laws_places.specs.Agree.{EnvironmentsAgree, head_of_unit, unplaced}
use Rattle.bl_types_laws_places_units.specs.Laws.{ItemsAlike, KnownAfter}
use Rattle.bl_module_laws.proofs.Borders.{Border, IsNamedOf, border_counts, changed, constants_counted, front_known, known_behind_items}
use Rattle.bl_module_laws.proofs.Constants.{as_many, found_at, goes_on, has_among, has_behind, there_is}
use Rattle.bl_module_laws.proofs.Entries.{has_mark, unmarked_both, unmarked_renamed}
use Rattle.bl_module_laws.proofs.Globals.{HasAt, globals_there}
use Rattle.bl_module_laws.proofs.Parts.{NameLaws, TypeLaws, UnitLaws}
use Rattle.bl_module_laws.proofs.Steps.{NearPasses, alike, front_passes, known_both, named_units, names_far}
use Rattle.bl_names_laws_files.proofs.Counting.{declared_both}

-- ---- headings

headings_declare : (items : List RawItem) → DeclareItems (map face_heading items) items
headings_declare [] = refl
headings_declare (Struct def ∷ items) = ap (λ them. name_and_kind (face_heading (Struct def)) ∷ them) (headings_declare items)
headings_declare (ConstantItem constant ∷ items) = ap (λ them. name_and_kind (face_heading (ConstantItem constant)) ∷ them) (headings_declare items)
headings_declare (UnitItem def ∷ items) = ap (λ them. name_and_kind (face_heading (UnitItem def)) ∷ them) (headings_declare items)

-- ---- constants of marks one after another

module _ (names : NameLaws) (types : TypeLaws) (named : Named) (front : List RawItem) (f : Place → Place) (raw : Raw) (rest : List RawItem)
    (is : IsNamedOf named (front ++ (map (placed_item f) raw.items ++ rest))) (faces : List Face) (border : Border named front (behind_faces faces))
    (last : Bool) (passes : NearPasses (behind_faces faces) last raw) (face : Face) (adds : FaceAdds faces face raw) where
  abbrev behind : Behind
  behind = behind_faces faces

  abbrev next : Behind
  next = behind_faces (faces ++ face ∷ [])

  abbrev own : List RawItem
  own = map (placed_item f) raw.items

  abbrev near : Environment
  near = known_at behind

  abbrev far : Environment
  far = known_behind_items named front

  abbrev far_next : Environment
  far_next = known_behind_items named (front ++ own)

  abbrev globals : List Constant
  globals = globals_of (named_in behind raw) (order_of raw.items) near

  abbrev A : ItemsAlike (changed f front) near far (after_items (named_in behind raw) (order_of raw.items) near) (after_items named (order_of raw.items) far)
  A = alike names types named front f raw rest is behind border passes.names

  is_next : IsNamedOf named ((front ++ own) ++ rest)
  is_next = subst (IsNamedOf named) (sym (append_assoc front own rest)) is

  next_known : KnownAfter fresh far_next (declared_globals_with file_scope (front ++ own))
  next_known = front_known names types named (front ++ own) rest is_next (names_far names types named front f raw rest is behind border passes.names)

  -- ---- headings

  next_declare : DeclareItems next.headings (front ++ own)
  next_declare =
      subst (λ headings. DeclareItems headings (front ++ own)) (sym adds.headings)
      (names.declared behind.headings (map face_heading raw.items) front own border.declare
      (names.declared_placed f (map face_heading raw.items) raw.items (headings_declare raw.items)))

  -- ---- constants

  far_constants : far_next.constants ≡ far.constants ++ A.constants
  far_constants = ap (λ (env : Environment). env.constants) (known_both names types named front f raw rest is behind border) ∙ A.far_constants

  next_constants : next.constants ≡ behind.constants ++ globals
  next_constants = adds.constants

  abbrev positions : List ℕ
  positions = global_positions 0 raw.items

  -- the file's constants outside of bodies, among those that it declares
  own_there : HasAt A.constants positions globals
  own_there =
      let none : length behind.constants + 0 ≡ length behind.constants = omega arith in
      has_among behind.constants A.constants positions globals
      (subst (λ ks. HasAt (behind.constants ++ A.constants) ks globals)
      (ap (λ n. global_positions n raw.items) (sym none) ∙ names.globals_move (length behind.constants) 0 raw.items)
      (subst (λ all. HasAt all (global_positions (length behind.constants) raw.items) globals) A.near_constants
      (globals_there names types behind.headings front raw.items raw.bytes border.declare passes.names [] raw.items refl near
      (border_counts names types named front (own ++ rest) is behind border))))

  -- as many constants are known behind the first items as they declare
  declared_far : length far.constants ≡ declared_constants (marks_of front)
  declared_far =
      let known = front_known names types named front (own ++ rest) is border.passes.names in
      let counted = names.counted file_scope front in
      let size = ap (λ counts. counts.constants) known.counts_are in
      let declared = counted.declared in
      omega (arith, size, declared)

  declared_next : length far_next.constants ≡ declared_constants (marks_of front) + declared_constants (marks_of own)
  declared_next =
      let counted = names.counted file_scope (front ++ own) in
      let size = ap (λ counts. counts.constants) next_known.counts_are in
      let declared = counted.declared in
      let both = ap declared_constants (names.marks_in_turn front own) ∙ declared_both (marks_of front) (marks_of own) in
      omega (arith, size, declared, both)

  abbrev far_positions : List ℕ
  far_positions = global_positions (0 + declared_constants (marks_of front)) own

  -- and among all
  far_there : HasAt far_next.constants far_positions globals
  far_there =
      let start : length far.constants + 0 ≡ 0 + declared_constants (marks_of front) = let far_size = declared_far in omega (arith, far_size) in
      subst (λ ks. HasAt far_next.constants ks globals)
      (sym (names.globals_move (length far.constants) 0 raw.items)
      ∙ ap (λ n. global_positions n raw.items) start
      ∙ sym (names.globals_placed f (0 + declared_constants (marks_of front)) raw.items))
      (subst (λ all. HasAt all (map (λ k. length far.constants + k) positions) globals) (sym far_constants)
      (has_behind far.constants A.constants positions globals own_there))

  abbrev end : ℕ
  end = 0 + declared_constants (marks_of front) + declared_constants (marks_of own)

  beyond : (j : ℕ) → slice_get far_next.constants (end + j) ≡ None
  beyond j = slice_get_past far_next.constants (end + j) (let size = declared_next in omega (arith, size))

  earlier_count : length behind.constants ≡ length (global_positions 0 front)
  earlier_count =
      constants_counted names types named front (own ++ rest) is behind border
      ∙ names.globals_counted 0 front behind.headings border.declare

  abbrev R : RenumberedInTurn 0 front own
  R = names.renumber 0 front own

  -- a constant of an earlier file
  earlier_at : (k : ℕ) → k < length behind.constants → slice_get far_next.constants (renumber (front ++ own) k) ≡ slice_get next.constants k
  earlier_at k less =
      let found = there_is behind.constants k less in
      let among : k < length (global_positions 0 front) = let count = earlier_count in omega (arith, less, count) in
      ap (slice_get far_next.constants) (R.earlier k among)
      ∙ ap (λ them. slice_get them (renumber front k)) far_constants
      ∙ get_in_front far.constants A.constants (renumber front k) found.0 ((border.agree f).constants k ∙ found.1)
      ∙ sym (get_in_front behind.constants globals k found.0 found.1)
      ∙ ap (λ them. slice_get them k) (sym next_constants)

  -- a constant of this file, or none
  later_at : (i : ℕ) → slice_get far_next.constants (renumber (front ++ own) (length behind.constants + i))
      ≡ slice_get next.constants (length behind.constants + i)
  later_at i =
      ap (λ n. slice_get far_next.constants (renumber (front ++ own) (n + i))) earlier_count
      ∙ ap (slice_get far_next.constants) (R.later i)
      ∙ found_at far_next.constants end beyond far_positions globals far_there i
      ∙ sym (get_behind behind.constants globals i)
      ∙ ap (λ them. slice_get them (length behind.constants + i)) (sym next_constants)

  constants_at : (k : ℕ) → slice_get far_next.constants (renumber (front ++ own) k) ≡ slice_get next.constants k
  constants_at k = elim (cases_lt k (length behind.constants)) [
    | inl less ↦ earlier_at k less
    | inr most ↦
        let same : length behind.constants + (k - length behind.constants) ≡ k = omega (arith, most) in
        subst (λ n. slice_get far_next.constants (renumber (front ++ own) n) ≡ slice_get next.constants n) same (later_at (k - length behind.constants))
  ]

  constants_next : (j : ℕ) → renumber (front ++ own) (length next.constants + j) ≡ length far_next.constants + j
  constants_next j =
      let many = as_many far_next.constants far_positions globals far_there in
      let size = ap length next_constants ∙ length-append behind.constants globals in
      let count = earlier_count in
      let at : length next.constants + j ≡ length (global_positions 0 front) + (length far_positions + j) = omega (arith, many, size, count) in
      let all = declared_next in
      let past : end + j ≡ length far_next.constants + j = omega (arith, all) in
      ap (renumber (front ++ own)) at ∙ R.later (length far_positions + j) ∙ goes_on far_positions end j ∙ past

  -- ---- what is known

  next_agree : (h : Place → Place) → EnvironmentsAgree (changed h (front ++ own)) (known_at next) far_next
  next_agree h = record {
    structs =
        ap (λ (env : Environment). placed_structs unplaced env.structs) (known_both names types named front f raw rest is behind border)
        ∙ A.agree.structs
        ∙ adds.structs;
    constants = constants_at;
    next = constants_next;
    units =
        ap (λ (env : Environment). map head_of_unit env.units) (known_both names types named front f raw rest is behind border)
        ∙ A.agree.units
        ∙ adds.units;
    vars = nil_from_length far_next.vars (ap (λ counts. counts.variables) next_known.counts_are);
    kind = inl refl;
    result = next_known.result refl;
  }

  pub next_border : UnitLaws → (g : Place → Place) → BringsBack g f →
      list_any has_mark (along units_of (opened_by behind.headings) raw.items) ≡ false → Border named (front ++ own) next
  next_border laws g back unmarked = record {
    passes = front_passes names types named front f raw rest is behind border laws g back last passes;
    declare = next_declare;
    agree = next_agree;
    unmarked =
        ap (list_any has_mark) (named_units names types named front f raw rest is behind border passes.names)
        ∙ unmarked_both (along units_of file_scope front) _ border.unmarked
        (unmarked_renamed (changed f front) (along units_of (opened_by behind.headings) raw.items) ∙ unmarked);
  }
