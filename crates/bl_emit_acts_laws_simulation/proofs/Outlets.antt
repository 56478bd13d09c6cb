-- Paths by fields alone lead to something in every value, and where paths keep apart, so do their places.
use Rattle.std.proofs.Common.{◌≡◌, ℕ, Bool, true, false, ◌&&◌, ◌||◌, List, [], ◌∷◌, ◌++◌, map, Option, Some, None, refl}
use Rattle.std.proofs.Common.{sym, ap, ap₂}
use Rattle.std.proofs.Common.{◌∙◌, subst}
use Rattle.std.proofs.lemmas.Bool.{eqb-true}
use Rattle.std.proofs.lemmas.Option.{same_Some}
use Rattle.std.specs.Prelude.{nat_eq, not, option_and_then, option_map}
use Rattle.bl_tree.proofs.Basics.{and_first, and_second, number_itself}
use Rattle.bl_tree.specs.declared.static_path.Static.{Static}
use Rattle.bl_tree.specs.declared.tree.Expr.{Expr}
use Rattle.bl_tree.specs.declared.tree.ExprKind.{ExprKind}
use Rattle.bl_tree.specs.declared.tree.ExprKind.TheOpen.{Part-F}
use Rattle.bl_tree.specs.declared.tree.Part.{Part, fold-Part, fold-roll-Part, out-Part, roll-Part, roll-out-Part}
use Rattle.bl_tree.specs.declared.tree.Path.{Path, fold_out-Path, out-Path}
use Rattle.bl_tree.specs.declared.tree.StructDef.{StructDef}
use Rattle.bl_tree.specs.declared.tree.Ty.{Ty, out-Ty}
use Rattle.bl_tree.specs.declared.tree.Ty.TheOpen.{Ty-F}
use Rattle.bl_tree.specs.declared.tree.Var.{Var}
use Rattle.bl_tree.specs.declared.value.Value.{Value}
use Rattle.bl_tree.specs.Program.{structs_stand_from}
use Rattle.bl_tree.specs.Reduce.{all_of}
use Rattle.bl_tree.specs.Static.{Reach, StaticStep, before_index, expr_mentions, is_front, kind_mentions, leading_fields, part_step, path_reach, static_of, step_of}
use Rattle.bl_tree.specs.Types.{same_type}
use Rattle.bl_tree.specs.Typing.{TypingContext, after_parts, expr_ignored, field_in, is_plain, kind_ignored, part_is_field, path_is_plain}
use Rattle.bl_tree.specs.Typing.{expr_type, kind_type, part_type as type_part, path_type, type_of_path, var_at, where_same}
use Rattle.bl_eval.specs.Changes.{part_of_path}
use Rattle.bl_eval.specs.Meaning.{PathMeaning, Scope as Sees, View, path_meaning_of, positions_of}
use Rattle.bl_eval.specs.Values.{part_of, value_at}
use Rattle.bl_eval.proofs.MeaningLemmas.{spot_out}
use Rattle.bl_eval.proofs.OperatorFits.{some_found, where_holds}
use Rattle.bl_eval.proofs.PartFits.{Fits, type_of_part}
use Rattle.bl_ctext_semantics.specs.Memory.{Projection as CPart}
use Rattle.bl_ctext_semantics.specs.Memory as memory
use Rattle.bl_emit_acts_laws_simulation.specs.Encodes.{lead_to, part_level, part_type, type_after, way_to, ways_part}
use Rattle.bl_emit_acts_laws_simulation.proofs.Cells.{ways_flip, ways_further}
use Rattle.bl_emit_acts_laws_simulation.proofs.Forks.{forked, parts_fit}
use Rattle.bl_emit_acts_laws_simulation.proofs.Steps.{Has, Stepped, field_steps}
use Rattle.bl_emit_acts_laws_simulation.proofs.Written.{same_part_itself}

-- ---- ways to what lies apart

pub behind_front : (front first second : List CPart) → ways_part (front ++ first) (front ++ second) ≡ ways_part first second
behind_front [] first second = refl
behind_front (p ∷ front) first second = by (sym (same_part_itself p)) (behind_front front first second)
  where
    by : true ≡ memory.same_part p p → ways_part (front ++ first) (front ++ second) ≡ ways_part first second →
        (not (memory.same_part p p) || ways_part (front ++ first) (front ++ second)) ≡ ways_part first second
    by same again = ap (λ b. not b || ways_part (front ++ first) (front ++ second)) (sym same) ∙ again

pub further_both : (ps qs first second : List CPart) → ways_part ps qs ≡ true → ways_part (ps ++ first) (qs ++ second) ≡ true
further_both ps qs first second h =
    ways_further ps (qs ++ second) first
    (ways_flip ps (qs ++ second) ∙ ways_further qs ps second (ways_flip qs ps ∙ h))

module _ (structs : List StructDef) (stand : structs_stand_from 0 structs ≡ true) where
  no_type : (ks : List ℕ) (b : Ty) → type_after structs ks None ≡ Some b → ⊥
  no_type [] b h = cc
  no_type (k ∷ ks) b h = cc

  type_there : (o : Option Ty) (ks : List ℕ) (b : Ty) → type_after structs ks o ≡ Some b → (c : Ty) × (o ≡ Some c)
  type_there None ks b h = absurd (no_type ks b h)
  type_there (Some c) ks b h = (c, refl)

  -- two ways that go on from parts of a value part where the parts differ, or where they part behind them
  heads_part : (k j : ℕ) (ks js : List ℕ) (a d : Ty) (value u : Value) → Fits structs a value
      → part_type structs k a ≡ Some d → part_of j value ≡ Some u →
      (j ≡ k → ways_part (way_to structs ks (Some d)) (way_to structs js (Some d)) ≡ true) →
      ways_part (way_to structs (k ∷ ks) (Some a)) (way_to structs (j ∷ js) (Some a)) ≡ true
  heads_part k j ks js a d value u fit typed there again = by (nat_eq j k) refl
    where
      by : (same : Bool) → nat_eq j k ≡ same → ways_part (way_to structs (k ∷ ks) (Some a)) (way_to structs (j ∷ js) (Some a)) ≡ true
      by true is =
          let same : j ≡ k = eqb-true j k is in
          ap₂ (λ o p. ways_part (lead_to structs k a ++ way_to structs ks o) (lead_to structs j a ++ way_to structs js p)) typed
          (ap (λ j. part_type structs j a) same ∙ typed)
          ∙ (ap (λ j. ways_part (lead_to structs k a ++ way_to structs ks (Some d)) (lead_to structs j a ++ way_to structs js (Some d))) same
          ∙ (behind_front (lead_to structs k a) (way_to structs ks (Some d)) (way_to structs js (Some d)) ∙ again same))
      by false is =
          further_both (lead_to structs k a) (lead_to structs j a) (way_to structs ks (part_type structs k a)) (way_to structs js (part_type structs j a))
          (forked structs stand a d value u j k fit there typed is)

  -- two ways into a value of which neither is a front of the other part
  pub fronts_part : (ks js : List ℕ) (a b c : Ty) (value u v : Value) → Fits structs a value → type_after structs ks (Some a) ≡ Some b →
      type_after structs js (Some a) ≡ Some c → value_at ks value ≡ Some u → value_at js value ≡ Some v → is_front ks js ≡ false →
      is_front js ks ≡ false → ways_part (way_to structs ks (Some a)) (way_to structs js (Some a)) ≡ true
  fronts_part [] js a b c value u v fit typed other there found h i = absurd (cc)
  fronts_part (k ∷ ks) [] a b c value u v fit typed other there found h i = absurd (cc)
  fronts_part (k ∷ ks) (j ∷ js) a b c value u v fit typed other there found h i =
      let inner = type_there (part_type structs k a) ks b typed in
      let first = some_found (value_at ks) (part_of k value) u there in
      let second = some_found (value_at js) (part_of j value) v found in
      heads_part k j ks js a inner.0 value second.0 fit inner.1 second.1
      (λ is.
      let other' : type_after structs js (Some inner.0) ≡ Some c =
      sym (ap (type_after structs js) (ap (λ j. part_type structs j a) is ∙ inner.1)) ∙ other in
      let found' : value_at js first.0 ≡ Some v = sym (ap (option_and_then (value_at js)) (ap (λ j. part_of j value) is ∙ first.1)) ∙ found in
      let left : is_front ks js ≡ false = sym (ap (λ b. b && is_front ks js) (ap (nat_eq k) is ∙ number_itself k)) ∙ h in
      let right : is_front js ks ≡ false = sym (ap (λ b. b && is_front js ks) (ap (λ j. nat_eq j k) is ∙ number_itself k)) ∙ i in
      fronts_part ks js inner.0 b c first.0 u v (parts_fit structs stand a inner.0 k value first.0 fit inner.1 first.1)
      (sym (ap (type_after structs ks) inner.1) ∙ typed) other' first.2 found' left right)

-- ---- fronts

-- of two fronts of one list one is a front of the other
pub fronts_meet : (xs ys zs : List ℕ) → is_front xs zs ≡ true → is_front ys zs ≡ true → is_front xs ys ≡ false → is_front ys xs ≡ true
fronts_meet [] ys zs h i other = absurd (cc)
fronts_meet (x ∷ xs) [] zs h i other = refl
fronts_meet (x ∷ xs) (y ∷ ys) [] h i other = absurd (cc)
fronts_meet (x ∷ xs) (y ∷ ys) (z ∷ zs) h i other =
    let x_is : x ≡ z = eqb-true x z (and_first (nat_eq x z) (is_front xs zs) h) in
    let y_is : y ≡ z = eqb-true y z (and_first (nat_eq y z) (is_front ys zs) i) in
    let same : nat_eq x y ≡ true = ap₂ nat_eq x_is y_is ∙ number_itself z in
    let back : nat_eq y x ≡ true = ap₂ nat_eq y_is x_is ∙ number_itself z in
    ap₂ (λ a b. a && b) back
    (fronts_meet xs ys zs (and_second (nat_eq x z) (is_front xs zs) h) (and_second (nat_eq y z) (is_front ys zs) i)
    (sym (ap (λ b. b && is_front xs ys) same) ∙ other))

-- a front of a front is a front
pub front_of_front : (xs ys zs : List ℕ) → is_front xs ys ≡ true → is_front ys zs ≡ true → is_front xs zs ≡ true
front_of_front [] ys zs h i = refl
front_of_front (x ∷ xs) [] zs h i = absurd (cc)
front_of_front (x ∷ xs) (y ∷ ys) [] h i = absurd (cc)
front_of_front (x ∷ xs) (y ∷ ys) (z ∷ zs) h i =
    let x_is : x ≡ y = eqb-true x y (and_first (nat_eq x y) (is_front xs ys) h) in
    ap₂ (λ a b. a && b) (ap (λ x. nat_eq x z) x_is ∙ and_first (nat_eq y z) (is_front ys zs) i)
    (front_of_front xs ys zs (and_second (nat_eq x y) (is_front xs ys) h) (and_second (nat_eq y z) (is_front ys zs) i))

-- what is no front of a list, and has no front that is the list, has none after more of the list
pub front_apart : (front ks js : List ℕ) → is_front front ks ≡ true → is_front front js ≡ false → is_front js front ≡ false →
    (is_front ks js ≡ false) × (is_front js ks ≡ false)
front_apart front ks js h left right = (by_left (is_front ks js) refl, by_right (is_front js ks) refl)
  where
    no_such : true ≡ false → ⊥
    no_such h = cc

    by_left : (b : Bool) → is_front ks js ≡ b → b ≡ false
    by_left false is = refl
    by_left true is = absurd (no_such (sym (front_of_front front ks js h is) ∙ left))

    by_right : (b : Bool) → is_front js ks ≡ b → b ≡ false
    by_right false is = refl
    by_right true is = absurd (no_such (sym (fronts_meet front js ks h is left) ∙ right))

module _ (site : TypingContext) (stand : structs_stand_from 0 site.structs ≡ true) (sees : Sees) (view : View) where
  -- ---- parts that are fields

  abbrev is_field : Part → Bool
  is_field = fold-Part (Unit {0}) Bool (Unit {0}) Bool kind_ignored part_is_field expr_ignored path_is_plain

  -- a part that is a field
  record FieldOne (part : Part) (a c : Ty) : Type 0 where
    k : ℕ
    position : part_of_path sees part view ≡ Some k
    field : (step_of part).field ≡ Some k
    typed : part_type site.structs k a ≡ Some c
    lies : (value : Value) → Fits site.structs a value → Has site.structs c k value

  level_typed : (k : ℕ) (c : Ty) (layer : Ty-F Ty) → field_in site.structs k layer ≡ Some c → part_level site.structs k layer ≡ Some c
  level_typed k c (Ty-F.Scalar s) h = absurd (cc)
  level_typed k c (Ty-F.Struct s) h = h
  level_typed k c (Ty-F.Array n inner) h = absurd (cc)

  has_at : (a c : Ty) (k : ℕ) (value : Value) (way : List CPart) → Stepped site.structs a c value way (Some k) → Has site.structs c k value
  has_at a c k value way s = subst (λ k. Has site.structs c k value) (sym (same_Some k s.k s.is)) s.has

  field_one_by : (layer : Part-F ExprKind Part Expr Path) (a c : Ty) → is_field (roll-Part layer) ≡ true → type_of_part site (roll-Part layer) a
      ≡ Some c → FieldOne (roll-Part layer) a c
  field_one_by (Part-F.Index e) a c h typed = absurd (let no : false ≡ true = rw fold-roll-Part at h in cc)
  field_one_by (Part-F.Field k) a c h typed =
      let is : field_in site.structs k (out-Ty a) ≡ Some c = rw fold-roll-Part at typed in
      record {
        k = k;
        position = rw fold-roll-Part refl;
        field = rw fold-roll-Part refl;
        typed = level_typed k c (out-Ty a) is;
        lies = λ value fit. has_at a c k value _ ((field_steps site.structs stand a c k is).0 value fit);
      }

  field_one : (part : Part) (a c : Ty) → is_field part ≡ true → type_of_part site part a ≡ Some c → FieldOne part a c
  field_one part a c =
      subst (λ part. is_field part ≡ true → type_of_part site part a ≡ Some c → FieldOne part a c)
      (roll-out-Part part) (field_one_by (out-Part part) a c)

  -- parts that are fields
  record Fielded (parts : List Part) (a b : Ty) : Type 0 where
    ks : List ℕ
    positions : positions_of (map (part_of_path sees) parts) view ≡ Some ks
    fields : leading_fields (map step_of parts) ≡ ks
    typed : type_after site.structs ks (Some a) ≡ Some b
    lies : (value : Value) → Fits site.structs a value → (found : Value) × (value_at ks value ≡ Some found)

  more_fields : (part : Part) (rest : List Part) (a c b : Ty) → FieldOne part a c → Fielded rest c b → Fielded (part ∷ rest) a b
  more_fields part rest a c b one more = record {
    ks = one.k ∷ more.ks;
    positions = ap (option_and_then (λ k. option_map (λ ks. k ∷ ks) (positions_of (map (part_of_path sees) rest) view))) one.position
        ∙ ap (option_map (λ ks. one.k ∷ ks)) more.positions;
    fields = ap₂ before_index one.field more.fields;
    typed = ap (type_after site.structs more.ks) one.typed ∙ more.typed;
    lies = λ value fit.
        let has = one.lies value fit in
        let found = more.lies has.part has.fits in
        (found.0, ap (option_and_then (value_at more.ks)) has.is_there ∙ found.1);
  }

  fielded : (parts : List Part) (a b : Ty) → all_of (map is_field parts) ≡ true → after_parts
      (map (type_of_part site) parts) a ≡ Some b → Fielded parts a b
  fielded [] a b all typed = record {
    ks = [];
    positions = refl;
    fields = refl;
    typed = typed;
    lies = λ value fit. (value, refl);
  }
  fielded (part ∷ rest) a b all typed =
      let found = some_found (after_parts (map (type_of_part site) rest)) (type_of_part site part a) b typed in
      more_fields part rest a found.0 b (field_one part a found.0 (and_first (is_field part) (all_of (map is_field rest)) all) found.1)
      (fielded rest found.0 b (and_second (is_field part) (all_of (map is_field rest)) all) found.2)

  -- ---- outlets

  -- a path that may be an output argument: it leads by fields to a part of a variable that may be written
  pub record Outlet (path : Path) (ty : Ty) : Type 0 where
    pub var : Var
    pub is_there : var_at site (path_meaning_of sees path).root ≡ Some var
    pub ks : List ℕ
    pub positions : (path_meaning_of sees path).positions view ≡ Some ks
    pub static : static_of path ≡ record { root = (path_meaning_of sees path).root; fields = ks }
    pub typed : type_after site.structs ks (Some var.ty) ≡ Some ty
    pub lies : (value : Value) → Fits site.structs var.ty value → (found : Value) × (value_at ks value ≡ Some found)

  -- the static path of a path in its parts
  static_out : (path : Path) → static_of path ≡ record { root = (out-Path path).root; fields = leading_fields (map step_of (out-Path path).parts) }
  static_out path = ap (λ (reach : Reach). reach.static) (fold_out-Path (List Static) StaticStep
      (List Static) Reach kind_mentions part_step expr_mentions path_reach path)

  root_out : (path : Path) → (path_meaning_of sees path).root ≡ (out-Path path).root
  root_out path = ap (λ (spot : PathMeaning). spot.root) (spot_out sees path)

  pub outlet : (path : Path) (ty : Ty) → is_plain path ≡ true → type_of_path site path ≡ Some ty → Outlet path ty
  outlet path ty plain typed =
      let parts = (out-Path path).parts in
      let root : ℕ = (out-Path path).root in
      let whole = some_found (where_same (out-Path path).ty) (option_and_then (λ (var : Var). after_parts (map (type_of_part site) parts) var.ty)
      (var_at site root)) ty
      (sym (fold_out-Path (Option Ty) (Ty → Option Ty) (Option Ty) (Option Ty) (kind_type site)
      (type_part site) expr_type (path_type site) path) ∙ typed) in
      let found = some_found (λ (var : Var). after_parts (map (type_of_part site) parts) var.ty) (var_at site root) whole.0 whole.1 in
      let var : Var = found.0 in
      let is = where_holds (same_type (out-Path path).ty whole.0) (Some whole.0) ty whole.2 in
      let all : all_of (map is_field parts) ≡ true =
      sym (fold_out-Path (Unit {0}) Bool (Unit {0}) Bool kind_ignored part_is_field expr_ignored path_is_plain path) ∙ plain in
      let f = fielded parts var.ty ty all (found.2 ∙ is.1) in
      record {
        var = var;
        is_there = ap (var_at site) (root_out path) ∙ found.1;
        ks = f.ks;
        positions = ap (λ (spot : PathMeaning). spot.positions view) (spot_out sees path) ∙ f.positions;
        static = static_out path
            ∙ ap₂ (λ (root : ℕ) (fields : List ℕ). record { root = root; fields = fields }) (sym (root_out path)) f.fields;
        typed = f.typed;
        lies = f.lies;
      }

  -- ---- the fields up to the first index

  abbrev FrontAt : Part → Type 0
  FrontAt part = (fields : List ℕ) (rest : Option (List ℕ)) (ks : List ℕ) →
      ((js : List ℕ) → rest ≡ Some js → is_front fields js ≡ true) →
      option_and_then (λ k. option_map (λ ks. k ∷ ks) rest) (part_of_path sees part view) ≡ Some ks →
      is_front (before_index (step_of part).field fields) ks ≡ true

  field_front : (k : ℕ) (fields : List ℕ) (rest : Option (List ℕ)) (ks : List ℕ)
      → ((js : List ℕ) → rest ≡ Some js → is_front fields js ≡ true) →
      option_map (λ ks. k ∷ ks) rest ≡ Some ks → is_front (k ∷ fields) ks ≡ true
  field_front k fields None ks again is = absurd (cc)
  field_front k fields (Some js) ks again is =
      subst (λ ks. is_front (k ∷ fields) ks ≡ true) (same_Some (k ∷ js) ks is) (ap₂ (λ a b. a && b) (number_itself k) (again js refl))

  front_by : (layer : Part-F ExprKind Part Expr Path) → FrontAt (roll-Part layer)
  front_by (Part-F.Field k) = rw (fold-roll-Part, fold-roll-Part) (λ fields rest ks again is. field_front k fields rest ks again is)
  front_by (Part-F.Index e) = rw (fold-roll-Part, fold-roll-Part) (λ fields rest ks again is. refl)

  front_at : (part : Part) → FrontAt part
  front_at part = subst FrontAt (roll-out-Part part) (front_by (out-Part part))

  fields_front : (parts : List Part) (ks : List ℕ) → positions_of (map (part_of_path sees) parts) view ≡ Some ks →
      is_front (leading_fields (map step_of parts)) ks ≡ true
  fields_front [] ks is = refl
  fields_front (part ∷ rest) ks is =
      front_at part (leading_fields (map step_of rest)) (positions_of (map (part_of_path sees) rest) view) ks (fields_front rest) is

  -- the static path of a path leads to where the path leads or around it
  pub static_front : (path : Path) (ks : List ℕ) → (path_meaning_of sees path).positions view ≡ Some ks →
      ((static_of path).root ≡ (path_meaning_of sees path).root) × (is_front (static_of path).fields ks ≡ true)
  static_front path ks is = (
    ap (λ (s : Static). s.root) (static_out path) ∙ sym (root_out path),
    ap (λ (s : Static). is_front s.fields ks) (static_out path)
        ∙ fields_front (out-Path path).parts ks (sym (ap (λ (spot : PathMeaning). spot.positions view) (spot_out sees path)) ∙ is),
  )
