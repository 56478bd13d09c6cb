-- Homes of what is inside an instance are inside it, or on from those of its outputs.
use Rattle.std.proofs.Common.{◌≡◌, ◌⊎◌, inl, inr, ℕ, ◌+◌, ◌-◌, ◌<◌, ◌≤◌, Bool, true, false}
use Rattle.std.proofs.Common.{◌&&◌, ◌||◌, ◌++◌, List, [], ◌∷◌}
use Rattle.std.proofs.Common.{Option, Some, None, refl, sym, ap, ◌∙◌, subst, eqb-true, eq-eqb}
use Rattle.std.proofs.lemmas.Bool.{leb-true, ltb-true}
use Rattle.std.specs.Prelude.{nat_eq, nat_le, nat_lt, option_and_then, option_map, slice_get, if◌then◌else◌}
use Rattle.std.proofs.lemmas.Bool.{and_from}
use Rattle.bl_tree.proofs.Basics.{and_first, and_second, number_test_swap, numbers_differ}
use Rattle.bl_tree.specs.declared.static_path.Static.{Static}
use Rattle.bl_tree.specs.declared.tree.StructDef.{StructDef}
use Rattle.bl_tree.specs.declared.tree.Unit.{Unit as UnitDef}
use Rattle.bl_tree.specs.Static.{is_front, overlaps}
use Rattle.bl_ctree.specs.declared.instance.Instance.{Instance}
use Rattle.bl_ctree.specs.declared.instance.Origin.{Origin}
use Rattle.bl_ctree.specs.Instances.{Setting, setting_of, unit_at, unit_of}
use Rattle.bl_ctree.specs.Store.{Location, home, is_output_of, led, led_by, overlap, under, whole_of}
use Rattle.bl_ctree_laws_confluence.specs.Deeds.Nesting.{Inside, InstancesNest, IsOutput, deeper, itself}
use Rattle.bl_ctree_laws_confluence.specs.Deeds.Origins.{HomesLeadOut}
use Rattle.bl_ctree_laws_confluence.specs.Stores.{HomesLeadOn, onward}
use Rattle.bl_machine_pass_laws_execution.specs.Kept.Kept.{NoOutput}

-- ---- tests

equal_back : (a b : ℕ) → nat_eq a b ≡ true → nat_eq b a ≡ true
equal_back a b e = eq-eqb b a (sym (eqb-true a b e))

-- ---- homes that overlap

either_front : (b c one other short shorter : Bool) → b ≡ c → ((one || other) ≡ true → (short || shorter) ≡ true) →
    ((b && one) || (c && other)) ≡ true → ((c && short) || (b && shorter)) ≡ true
either_front true true one other short shorter same so e = so e
either_front false false one other short shorter same so e = e
either_front true false one other short shorter same so e = absurd cc
either_front false true one other short shorter same so e = absurd cc

-- of two fields of which one is a front of the other that is so of fronts of the first
cut_front : (xs ys more : List ℕ) → (is_front (ys ++ more) xs || is_front xs (ys ++ more)) ≡ true →
    (is_front xs ys || is_front ys xs) ≡ true
cut_front [] ys more e = refl
cut_front (x ∷ xs) [] more e = refl
cut_front (x ∷ xs) (y ∷ ys) more e =
    either_front (nat_eq y x) (nat_eq x y) (is_front (ys ++ more) xs) (is_front xs (ys ++ more)) (is_front xs ys) (is_front ys xs)
    (number_test_swap y x) (cut_front xs ys more) e

-- what overlaps no location overlaps none that leads on from it
apart_onward : (at from : Location) (fields : List ℕ) → overlap at from ≡ false → overlap (onward from fields) at ≡ false
apart_onward at from fields apart = by_test (overlap (onward from fields) at) refl
  where
    long : List ℕ
    long = from.path.fields ++ fields

    fronts : Bool
    fronts = is_front long at.path.fields || is_front at.path.fields long

    overlapped : overlap (onward from fields) at ≡ true → overlap at from ≡ true
    overlapped e =
        let paths : (nat_eq from.path.root at.path.root && fronts) ≡ true =
        and_second (nat_eq from.instance at.instance) (nat_eq from.path.root at.path.root && fronts) e in
        and_from (nat_eq at.instance from.instance)
        (nat_eq at.path.root from.path.root && (is_front at.path.fields from.path.fields || is_front from.path.fields at.path.fields))
        (equal_back from.instance at.instance
        (and_first (nat_eq from.instance at.instance) (nat_eq from.path.root at.path.root && fronts) e))
        (and_from (nat_eq at.path.root from.path.root) (is_front at.path.fields from.path.fields || is_front from.path.fields at.path.fields)
        (equal_back from.path.root at.path.root (and_first (nat_eq from.path.root at.path.root) fronts paths))
        (cut_front at.path.fields from.path.fields fields (and_second (nat_eq from.path.root at.path.root) fronts paths)))

    by_test : (t : Bool) → overlap (onward from fields) at ≡ t → t ≡ false
    by_test true e = sym (overlapped e) ∙ apart
    by_test false e = refl

-- ---- inside

pub through : (w : Setting) (a b k : ℕ) → Inside w a b → Inside w b k → Inside w a k
through w a b k one itself = one
through w a b k one (deeper j place more runs) = deeper j place (through w a b j one more) runs

-- the location is on from the home of an output of the instance
record FromOutput (w : Setting) (j : ℕ) (unit : UnitDef) (at : Location) : Type 0 where
  number : ℕ
  least : unit.inputs ≤ number
  below : number < unit.inputs + unit.outputs
  fields : List ℕ
  leads : at ≡ onward (home w (whole_of j number)) fields

-- what leads to a caller's path is an output
leads_output : (w : Setting) (j : ℕ) (unit : UnitDef) (path : Static) (next : Location) → unit_at w j ≡ Some unit →
    led w (record { instance = j; path = path }) ≡ Some next → is_output_of unit path.root ≡ true
leads_output w j unit path next is e = by_instance (slice_get w.instances j) is e
  where
    by_test : (origin : Origin) (b : Bool) →
        (if b then option_map (under origin.caller path.fields) (slice_get origin.outputs (path.root - unit.inputs)) else None) ≡ Some next →
        b ≡ true
    by_test origin true e = refl
    by_test origin false e = absurd cc

    by_origin : (o : Option Origin) → option_and_then (λ origin. option_and_then (led_by path origin) (Some unit)) o ≡ Some next →
        is_output_of unit path.root ≡ true
    by_origin None e = absurd cc
    by_origin (Some origin) e = by_test origin (is_output_of unit path.root) e

    by_instance : (o : Option Instance) → option_and_then (unit_of w) o ≡ Some unit →
        option_and_then (λ instance. option_and_then
        (λ origin. option_and_then (led_by path origin) (unit_of w instance)) instance.origin) o
        ≡ Some next →
        is_output_of unit path.root ≡ true
    by_instance None is e = absurd cc
    by_instance (Some instance) is e =
        by_origin instance.origin
        (sym (ap (λ u. option_and_then (λ origin. option_and_then (led_by path origin) u) instance.origin) is) ∙ e)

module _ (structs : List StructDef) (units : List UnitDef) (entry : ℕ) (out : HomesLeadOut) (nest : InstancesNest structs units entry)
    (lead_on : HomesLeadOn) where
  abbrev W : Setting
  W = setting_of structs units entry

  abbrev home_of : ℕ → Static → Location
  home_of k path = home W (record { instance = k; path = path })

  abbrev There : ℕ → UnitDef → ℕ → Static → Type 0
  There j unit k path = Inside W j (home_of k path).instance ⊎ FromOutput W j unit (home_of k path)

  own_there : (j : ℕ) (unit : UnitDef) (path : Static) → unit_at W j ≡ Some unit → There j unit j path
  own_there j unit path is = by_led (led W (record { instance = j; path = path })) refl
    where
      by_led : (next : Option Location) → led W (record { instance = j; path = path }) ≡ next → There j unit j path
      by_led None e = inl (subst (λ at. Inside W j at.instance) (sym (out.own W (record { instance = j; path = path }) e)) itself)
      by_led (Some next) e =
          let test = leads_output W j unit path next is e in
          inr (record {
            number = path.root;
            least = leb-true unit.inputs path.root
                (and_first (nat_le unit.inputs path.root) (nat_lt path.root (unit.inputs + unit.outputs)) test);
            below = ltb-true path.root (unit.inputs + unit.outputs)
                (and_second (nat_le unit.inputs path.root) (nat_lt path.root (unit.inputs + unit.outputs)) test);
            fields = path.fields;
            leads = lead_on W j path;
          })

  -- a home that is that of another path
  passed_on : (j : ℕ) (unit : UnitDef) (k i : ℕ) (path other : Static) → home_of k path ≡ home_of i other → There j unit i other →
      There j unit k path
  passed_on j unit k i path other same (inl within) = inl (subst (λ at. Inside W j at.instance) (sym same) within)
  passed_on j unit k i path other same (inr from) = inr (subst (FromOutput W j unit) (sym same) from)

  there : (j : ℕ) (unit : UnitDef) (k : ℕ) (path : Static) → unit_at W j ≡ Some unit → Inside W j k → There j unit k path
  there j unit k path is itself = own_there j unit path is
  there j unit k path is (deeper i place inner runs) =
      by_home (λ path. there j unit i path is inner) (nest.homes i k k place path runs itself)
    where
      by_home : ((path : Static) → There j unit i path) → Inside W k (home_of k path).instance
          ⊎ IsOutput W i k (record { instance = k; path = path }) →
          There j unit k path
      by_home again (inl within) = inl (through W j k (home_of k path).instance (deeper i place inner runs) within)
      by_home again (inr o) =
          let other : Static = record { root = o.output.root; fields = o.output.fields ++ o.fields } in
          passed_on j unit k i path other o.leads (again other)

  -- no home of what is inside an instance overlaps a location that isn't inside it, but for homes of its outputs
  pub apart_from : (j : ℕ) (unit : UnitDef) (k : ℕ) (path : Static) (at : Location) → unit_at W j ≡ Some unit → Inside W j k →
      (Inside W j at.instance → ⊥) → NoOutput W j unit at → overlap (home_of k path) at ≡ false
  apart_from j unit k path at is inner outside none = by_part (there j unit k path is inner)
    where
      and_false : (a b : Bool) → a ≡ false → (a && b) ≡ false
      and_false true b e = absurd cc
      and_false false b e = refl

      by_part : There j unit k path → overlap (home_of k path) at ≡ false
      by_part (inl within) =
          and_false (nat_eq (home_of k path).instance at.instance) (overlaps (home_of k path).path at.path)
          (numbers_differ (home_of k path).instance at.instance (λ same. outside (subst (Inside W j) same within)))
      by_part (inr from) =
          subst (λ h. overlap h at ≡ false) (sym from.leads)
          (apart_onward at (home W (whole_of j from.number)) from.fields (none from.number from.least from.below))
