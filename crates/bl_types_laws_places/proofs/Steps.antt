-- Targets and paths in environments that agree, part by part.
use Rattle.std.proofs.Common.{◌≡◌, ℕ, ℤ, List, [], ◌∷◌, ◌++◌, map, refl, ap, ap₂, sym, ◌∙◌}
use Rattle.std.specs.Prelude.{All, Option, Some, None, is_some, option_and_then, option_map, slice_get}
use Rattle.std.proofs.lemmas.List.Elements.{All-head, All-tail}
use Rattle.bl_tree.specs.declared.place.Place.{Place}
use Rattle.bl_tree.specs.declared.rule.Failure.{Failure}
use Rattle.bl_tree.specs.declared.rule.Rule.TheVariants as rule
use Rattle.bl_tree.specs.declared.scalar.Scalar.{Scalar as ScalarType}
use Rattle.bl_tree.specs.declared.tree.Expr.{Expr}
use Rattle.bl_tree.specs.declared.tree.Part.{Part}
use Rattle.bl_tree.specs.declared.tree.Part.TheVariants as part
use Rattle.bl_tree.specs.declared.tree.Ty.{Ty, out-Ty}
use Rattle.bl_tree.specs.Scalar.{is_whole}
use Rattle.bl_tree.specs.Types.{scalar, scalar_in}
use Rattle.bl_tree.specs.Typing.{element_in}
use Rattle.bl_tree_laws_places.specs.Placed.{placed_expr}
use Rattle.bl_tree_laws_places.proofs.Exprs.{stepped as moved_part}
use Rattle.bl_joined.specs.Trees.{placed_name}
use Rattle.bl_parse_tree.specs.declared.name.Name.{Name}
use Rattle.bl_names_tree.specs.declared.expr.Root.{Root}
use Rattle.bl_names_tree.specs.declared.expr.Root.TheVariants as root
use Rattle.bl_names_laws_places.specs.Renamed.{Renaming, renamed_root}
use Rattle.bl_types.specs.declared.environment.Environment.{Environment}
use Rattle.bl_types.specs.declared.form.Form.{Form}
use Rattle.bl_types.specs.declared.form.Form.TheVariants as form
use Rattle.bl_types.specs.declared.form.Found.{Found}
use Rattle.bl_types.specs.declared.form.Found.TheVariants as found
use Rattle.bl_types.specs.Expressions.{FieldAt, Judged, Led, Stepped, Targeted, after_index, as_index, constant_found, element_type, field_found, field_in}
use Rattle.bl_types.specs.Expressions.{no_array, path_found, reading, stepped, targeted_from, to_element, to_field, type_of_constant, type_of_variable}
use Rattle.bl_types.specs.Expressions.{value_of_constant, whole_or_unfit, with_made}
use Rattle.bl_types.specs.Settled.{Settled, int32, kept, unfit}
use Rattle.bl_types_laws_places.specs.Agree.{EnvironmentsAgree, placed_failures}
use Rattle.bl_types_laws_places.specs.Judgements.{placed_form, placed_found, placed_judged, placed_settled, placed_targeted}
use Rattle.bl_types_laws_places.proofs.Environments.{field_same, type_same}
use Rattle.bl_types_laws_places.proofs.Settling.{choice_placed, settled_placed}
use Rattle.bl_types_laws_places.proofs.Trees.{both_placed, field_moved, index_moved, literal_placed, made_first, path_placed, read_placed, type_placed}
use Rattle.bl_types_laws_places.proofs.Trees.{unless_placed}

-- where one part leads, with the places in its index mapped
abbrev pub placed_stepped : (Place → Place) → Stepped → Stepped
placed_stepped f step = record { ty = step.ty; part = option_map (moved_part f) step.part; failures = placed_failures f step.failures }

-- where parts lead, with all places mapped
abbrev pub placed_led : (Place → Place) → Led → Led
placed_led f led = record { ty = led.ty; parts = map (moved_part f) led.parts; failures = placed_failures f led.failures }

-- a step that comes first, and where the others lead
abbrev first_step : Stepped → Led → Led
first_step step further = record { ty = further.ty; parts = with_made step.part further.parts; failures = step.failures ++ further.failures }

-- what a target comes to whose root is a variable, from where its parts lead
abbrev pub the_path : Place → ℕ → Led → Targeted
the_path at k led = record { found = path_found at k led.parts led.ty; failures = led.failures }

-- what a target comes to whose root is a constant of this number, from where its parts lead
abbrev the_constant : ℤ → Led → Targeted
the_constant n led = record { found = constant_found n (option_and_then scalar_in led.ty); failures = led.failures }

abbrev step_made : Option Ty → Option Part → List Failure → Stepped
step_made ty part failures = record { ty = ty; part = part; failures = failures }

module _ (f : Place → Place) where
  -- ---- fields

  field_placed : (at : Place) (found : Option FieldAt) → field_found (f at) found ≡ placed_stepped f (field_found at found)
  field_placed at (Some field) = ap (λ step. step_made (Some field.ty) (Some step) []) (sym (field_moved f field.position))
  field_placed at None = refl

  pub to_field_placed : (near far : Environment) →
      ((name : List ℕ) (ty : Ty) → field_in far.structs name (out-Ty ty) ≡ field_in near.structs name (out-Ty ty)) →
      (name : Name) (ty : Option Ty) → to_field far.structs (placed_name f name) ty ≡ placed_stepped f (to_field near.structs name ty)
  to_field_placed near far same name (Some ty) =
      ap (field_found (f name.place)) (same name.text ty) ∙ field_placed name.place (field_in near.structs name.text (out-Ty ty))
  to_field_placed near far same name None = refl

  -- ---- elements

  whole_placed : (at : Place) (s : Option ScalarType) (e : Expr) →
      whole_or_unfit (f at) s (placed_expr f e) ≡ placed_settled f (whole_or_unfit at s e)
  whole_placed at (Some s) e = choice_placed f (is_whole s) (kept e) (unfit at) (kept (placed_expr f e)) (unfit (f at)) refl refl
  whole_placed at None e = refl

  as_index_placed : (at : Place) (form : Form) → as_index (f at) (placed_form f form) ≡ placed_settled f (as_index at form)
  as_index_placed at form.Failing = refl
  as_index_placed at (form.Open e) = settled_placed f int32 e
  as_index_placed at (form.Of ty e) = whole_placed at (scalar_in ty) e

  no_array_placed : (at : Place) (ty : Option Ty) → no_array (f at) ty ≡ placed_failures f (no_array at ty)
  no_array_placed at (Some ty) = unless_placed f (is_some (element_in (out-Ty ty))) rule.Type at
  no_array_placed at None = refl

  index_part : (e : Option Expr) → option_map part.Index (option_map (placed_expr f) e) ≡ option_map (moved_part f) (option_map part.Index e)
  index_part (Some e) = ap Some (sym (index_moved f e))
  index_part None = refl

  index_type : (reached : Option Ty) (e : Option Expr) →
      option_and_then (λ e. element_type reached) (option_map (placed_expr f) e) ≡ option_and_then (λ e. element_type reached) e
  index_type reached (Some e) = refl
  index_type reached None = refl

  -- a step to an element, from its index in its place
  abbrev element_step : List Failure → Option Ty → Settled → Stepped
  element_step missing reached index = step_made (option_and_then (λ e. element_type reached) index.made) (option_map part.Index index.made)
      (missing ++ index.failures)

  element_step_placed : (missing : List Failure) (reached : Option Ty) (index : Settled) →
      element_step (placed_failures f missing) reached (placed_settled f index) ≡ placed_stepped f (element_step missing reached index)
  element_step_placed missing reached index =
      ap (λ ty. step_made ty (option_map part.Index (option_map (placed_expr f) index.made)) (placed_failures f missing ++ placed_failures f index.failures))
      (index_type reached index.made)
      ∙ ap₂ (step_made (option_and_then (λ e. element_type reached) index.made)) (index_part index.made) (both_placed f missing index.failures)

  pub to_element_placed : (at : Place) (index : Form) (reached : Option Ty) →
      to_element (f at) (placed_form f index) reached ≡ placed_stepped f (to_element at index reached)
  to_element_placed at index reached =
      ap₂ (λ missing index. element_step missing reached index) (no_array_placed at reached) (as_index_placed at index)
      ∙ element_step_placed (no_array at reached) reached (as_index at index)

  pub index_step : (index index' : Judged) → index' ≡ placed_judged f index → (ty : Option Ty) →
      after_index index' (to_element index'.place index'.form ty) ≡ placed_stepped f (after_index index (to_element index.place index.form ty))
  index_step index index' is ty =
      ap (λ (j : Judged). after_index j (to_element j.place j.form ty)) is
      ∙ ap (after_index (placed_judged f index)) (to_element_placed index.place index.form ty)
      ∙ ap (step_made (to_element index.place index.form ty).ty (option_map (moved_part f) (to_element index.place index.form ty).part))
      (both_placed f index.failures (to_element index.place index.form ty).failures)

  -- ---- one step after another

  first_step_placed : (step : Stepped) (further : Led) →
      first_step (placed_stepped f step) (placed_led f further) ≡ placed_led f (first_step step further)
  first_step_placed step further =
      ap₂ (λ parts failures. record { ty = further.ty; parts = parts; failures = failures })
      (made_first (moved_part f) step.part further.parts (map (moved_part f) further.parts) refl)
      (both_placed f step.failures further.failures)

  pub stepped_placed : {X : Type 0} (near far : X → Option Ty → Stepped) (xs : List X) →
      All (λ x. (ty : Option Ty) → far x ty ≡ placed_stepped f (near x ty)) xs → (ty : Option Ty) →
      stepped (map far xs) ty ≡ placed_led f (stepped (map near xs) ty)
  stepped_placed near far [] each ty = refl
  stepped_placed near far (x ∷ xs) each ty =
      let first : far x ty ≡ placed_stepped f (near x ty) = All-head (λ x. (ty : Option Ty) → far x ty ≡ placed_stepped f (near x ty)) x xs each ty in
      let further : stepped (map far xs) (near x ty).ty ≡ placed_led f (stepped (map near xs) (near x ty).ty) =
      stepped_placed near far xs (All-tail (λ x. (ty : Option Ty) → far x ty ≡ placed_stepped f (near x ty)) x xs each) (near x ty).ty in
      ap (λ (step : Stepped). first_step step (stepped (map far xs) step.ty)) first
      ∙ ap (first_step (placed_stepped f (near x ty))) further
      ∙ first_step_placed (near x ty) (stepped (map near xs) (near x ty).ty)

  -- ---- what is found

  path_found_placed : (at : Place) (k : ℕ) (parts : List Part) (ty : Option Ty) →
      path_found (f at) k (map (moved_part f) parts) ty ≡ placed_found f (path_found at k parts ty)
  path_found_placed at k parts (Some ty) = ap found.Place (sym (path_placed f at k parts ty))
  path_found_placed at k parts None = refl

  pub led_found : (at : Place) (k : ℕ) (led led' : Led) → led' ≡ placed_led f led →
      the_path (f at) k led' ≡ placed_targeted f (the_path at k led)
  led_found at k led led' is =
      ap (the_path (f at) k) is
      ∙ ap (λ found. record { found = found; failures = placed_failures f led.failures }) (path_found_placed at k led.parts led.ty)

  constant_placed : (n : ℤ) (s : Option ScalarType) → constant_found n s ≡ placed_found f (constant_found n s)
  constant_placed n (Some s) = refl
  constant_placed n None = refl

  pub reading_placed : (at : Place) (leads : Found) → reading (f at) (placed_found f leads) ≡ placed_form f (reading at leads)
  reading_placed at found.Nothing = refl
  reading_placed at (found.Constant s n) = ap (form.Of (scalar s)) (sym (literal_placed f at n s))
  reading_placed at (found.Place path) = ap₂ form.Of (type_placed f path) (sym (read_placed f at path))

-- ---- targets

module _ (by : Renaming) (near far : Environment) (agree : EnvironmentsAgree by near far) where
  pub to_field_agrees : (name : Name) (ty : Option Ty) →
      to_field far.structs (placed_name by.place name) ty ≡ placed_stepped by.place (to_field near.structs name ty)
  to_field_agrees name ty =
      to_field_placed by.place near far (λ name ty. field_same near.structs far.structs agree.structs name (out-Ty ty)) name ty

  pub targeted_agrees : {X : Type 0} (step_near step_far : X → Option Ty → Stepped) (xs : List X) →
      All (λ x. (ty : Option Ty) → step_far x ty ≡ placed_stepped by.place (step_near x ty)) xs → (at : Place) (root : Root) →
      targeted_from far (by.place at) (renamed_root by root) (map step_far xs)
      ≡ placed_targeted by.place (targeted_from near at root (map step_near xs))
  targeted_agrees step_near step_far xs each at (root.Variable k) =
      led_found by.place at k (stepped (map step_near xs) (type_of_variable (slice_get near.vars k)))
      (stepped (map step_far xs) (type_of_variable (slice_get far.vars k)))
      (ap (stepped (map step_far xs)) (type_same by near far agree k)
      ∙ stepped_placed by.place step_near step_far xs each (type_of_variable (slice_get near.vars k)))
  targeted_agrees step_near step_far xs each at (root.Constant k) =
      ap (λ constant. the_constant (value_of_constant constant) (stepped (map step_far xs) (type_of_constant constant))) (agree.constants k)
      ∙ ap (the_constant (value_of_constant (slice_get near.constants k)))
      (stepped_placed by.place step_near step_far xs each (type_of_constant (slice_get near.constants k)))
      ∙ ap
      (λ found. record {
        found = found;
        failures = placed_failures by.place (stepped (map step_near xs) (type_of_constant (slice_get near.constants k))).failures;
      })
      (constant_placed by.place (value_of_constant (slice_get near.constants k))
      (option_and_then scalar_in (stepped (map step_near xs) (type_of_constant (slice_get near.constants k))).ty))
