-- A path leads where its variable leads, and on by its fields.
use Rattle.std.proofs.Common.{◌≡◌, ℕ, zero, suc, Bool, true, false, List, ◌++◌, Option, Some, None, refl, sym, ap, ◌∙◌, append_assoc}
use Rattle.std.specs.Prelude.{◌-◌, option_map, option_and_then, slice_get, unwrap_or, if◌then◌else◌}
use Rattle.bl_tree.specs.declared.static_path.Static.{Static}
use Rattle.bl_tree.specs.declared.tree.Unit.{Unit as UnitDef}
use Rattle.bl_ctree.specs.declared.instance.Instance.{Instance}
use Rattle.bl_ctree.specs.declared.instance.Origin.{Origin}
use Rattle.bl_ctree.specs.Instances.{Setting, unit_of}
use Rattle.bl_ctree.specs.Store.{Location, depth_at, home_within, is_output_of, led, led_by, under, whole_of}
use Rattle.bl_ctree_laws_confluence.specs.Stores.{HomesLeadOn, onward}

module _ (w : Setting) (fields : List ℕ) where
  abbrev on : Location → Location
  on at = onward at fields

  by_output : (caller : ℕ) (front : List ℕ) (o : Option Static) →
      option_map (under caller (front ++ fields)) o ≡ option_map on (option_map (under caller front) o)
  by_output caller front None = refl
  by_output caller front (Some o) =
      ap (λ all. Some (record { instance = caller; path = record { root = o.root; fields = all } })) (sym (append_assoc o.fields front fields))

  by_test : (b : Bool) (caller : ℕ) (front : List ℕ) (o : Option Static) →
      (if b then option_map (under caller (front ++ fields)) o else None) ≡ option_map on (if b then option_map (under caller front) o else None)
  by_test true caller front o = by_output caller front o
  by_test false caller front o = refl

  by_unit : (at : Location) (origin : Origin) (unit : Option UnitDef) →
      option_and_then (led_by (on at).path origin) unit ≡ option_map on (option_and_then (led_by at.path origin) unit)
  by_unit at origin None = refl
  by_unit at origin (Some unit) =
      by_test (is_output_of unit at.path.root) origin.caller at.path.fields (slice_get origin.outputs (at.path.root - unit.inputs))

  by_origin : (at : Location) (unit : Option UnitDef) (origin : Option Origin) →
      option_and_then (λ origin. option_and_then (led_by (on at).path origin) unit) origin
      ≡ option_map on (option_and_then (λ origin. option_and_then (led_by at.path origin) unit) origin)
  by_origin at unit None = refl
  by_origin at unit (Some origin) = by_unit at origin unit

  by_instance : (at : Location) (instance : Option Instance) →
      option_and_then (λ instance. option_and_then (λ origin. option_and_then (led_by (on at).path origin) (unit_of w instance)) instance.origin) instance
      ≡ option_map on
      (option_and_then (λ instance. option_and_then (λ origin. option_and_then (led_by at.path origin) (unit_of w instance)) instance.origin)
      instance)
  by_instance at None = refl
  by_instance at (Some instance) = by_origin at (unit_of w instance) instance.origin

  led_on : (at : Location) → led w (on at) ≡ option_map on (led w at)
  led_on at = by_instance at (slice_get w.instances at.instance)

  by_led : (depth : ℕ) (at : Location) → ((next : Location) → home_within w depth (on next) ≡ on (home_within w depth next)) →
      (next : Option Location) →
      unwrap_or (option_map (home_within w depth) (option_map on next)) (on at) ≡ on (unwrap_or (option_map (home_within w depth) next) at)
  by_led depth at inner None = refl
  by_led depth at inner (Some next) = inner next

  within_on : (depth : ℕ) (at : Location) → home_within w depth (on at) ≡ on (home_within w depth at)
  within_on zero at = refl
  within_on (suc depth) at =
      ap (λ next. unwrap_or (option_map (home_within w depth) next) (on at)) (led_on at) ∙ by_led depth at (λ next. within_on depth next) (led w at)

pub homes_lead_on : HomesLeadOn
homes_lead_on w i path = within_on w path.fields (depth_at w i) (whole_of i path.root)
