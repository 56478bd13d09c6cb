-- The C structs of types and of variables have no more scalars than those.
use Rattle.std.proofs.Common.{◌≡◌, ℕ, zero, suc, ◌*◌, ◌<◌, ◌≤◌, Bool, true}
use Rattle.std.proofs.Common.{false, ◌&&◌, List, [], ◌∷◌, map, take, drop, length}
use Rattle.std.proofs.Common.{Option, Some, None, refl, sym, ap, ◌∙◌, subst, arith}
use Rattle.std.proofs.lemmas.List.{get_or-take}
use Rattle.std.proofs.lemmas.Nat.{mul-le}
use Rattle.std.proofs.lemmas.Option.{same_Some, slice_get_within}
use Rattle.std.proofs.lemmas.Slice.Eq.{bytes_eq-Decides}
use Rattle.std.specs.List.{list_all}
use Rattle.std.specs.Prelude.{Contains, bytes_eq, get_or, nat_le, nat_lt, slice_get, slice_index, if◌then◌else◌}
use Rattle.bl_tree.proofs.Basics.{and_first, and_second, less_from}
use Rattle.bl_tree.specs.declared.text.Text.{Text}
use Rattle.bl_tree.specs.declared.c.CMember.{CMember}
use Rattle.bl_tree.specs.declared.c.CStruct.{CStruct}
use Rattle.bl_tree.specs.declared.scalar.Scalar.{Scalar as ScalarType}
use Rattle.bl_tree.specs.declared.scalar.Scalar.TheVariants.{Bool as OfBool, Int, Nat, Bits}
use Rattle.bl_tree.specs.declared.scalar.Width.TheVariants.{W8, W16, W32, W64}
use Rattle.bl_tree.specs.declared.tree.Field.{Field}
use Rattle.bl_tree.specs.declared.tree.StructDef.{StructDef}
use Rattle.bl_tree.specs.declared.tree.Ty.{Ty, fold_out-Ty, ind-Ty, map-Ty, out-Ty, out-roll-Ty, roll-Ty}
use Rattle.bl_tree.specs.declared.tree.Ty.TheOpen.{Ty-F}
use Rattle.bl_tree.specs.declared.tree.Unit.{Unit as UnitDef}
use Rattle.bl_tree.specs.declared.tree.Var.{Var}
use Rattle.bl_tree.specs.Program.{IsWellTyped}
use Rattle.bl_tree.specs.Reduce.{total}
use Rattle.bl_tree.specs.Types.{type_stands}
use Rattle.bl_tree.specs.Typing.{TypingContext, is_function, site_of}
use Rattle.bl_eval.proofs.FitLemmas.{structs_at}
use Rattle.bl_eval.proofs.PassLemmas.{all_at}
use Rattle.bl_limits_measures.specs.Types.{fields_size, level_size, nesting, size, size_by, struct_nestings, struct_sizes}
use Rattle.bl_limits_measures.specs.Units.{variables_of}
use Rattle.bl_limits_measures.proofs.TableLemmas.{answer_at}
use Rattle.bl_ctext_semantics.specs.Sizes.{Sizes, size_of_member, size_of_struct, size_of_type}
use Rattle.bl_ctext_semantics.specs.Tables.{entry_or, no_entries, with_entry}
use Rattle.bl_emit_acts.specs.Structs.{c_field}
use Rattle.bl_emit_acts.specs.Types.{array_name, c_type, definition_name, struct_name, type_level, type_name, type_word}
use Rattle.bl_emit_acts_laws_wellformed.proofs.OnFormed.Parts.{name_at}
use Rattle.bl_emit_acts_laws_wellformed.proofs.OnFormed.Units.{vars_stand}
use Rattle.bl_emit_structs.specs.Structs.{structs_for}
use Rattle.bl_emit_structs_laws_wellformed.specs.Names.{TypesApart}
use Rattle.bl_emit_structs_laws_wellformed.specs.Formed.{NestsAtMost}
use Rattle.bl_emit_structs_laws_wellformed.proofs.OnFormed.Levels.{nesting_at, stands_at, stands_more}
use Rattle.bl_emit_structs_laws_wellformed.proofs.OnFormed.Types.{StructOf, all_are, defined, struct_level}
use Rattle.bl_emit_functions.specs.Functions.{held_member, members_of, memory_name, memory_struct, struct_of}
use Rattle.bl_emit_functions_laws_wellformed.proofs.OnCells.Totals.{total-made}
use Rattle.bl_emit_functions_laws_wellformed.proofs.OnFiles.Growing.{distinct_behind, names, one_place}
use Rattle.bl_emit_functions_laws_wellformed.proofs.OnFormed.Kept.{is_held_in, members_made}
use Rattle.bl_emit_functions_laws_wellformed.specs.Cells.{NamesNone, SizesGrow, SizesKnown, SizesStand}
use Rattle.bl_emit_functions_laws_wellformed.proofs.OnFiles.Growing.{at_most}

-- ---- sizes, level by level

size_at : (known : List ℕ) (ty : Ty) (layer : Ty-F Ty) → out-Ty ty ≡ layer →
    size_by known ty ≡ level_size known (map-Ty Ty ℕ (size_by known) layer)
size_at known ty layer is = fold_out-Ty ℕ (level_size known) ty ∙ ap (λ l. level_size known (map-Ty Ty ℕ (size_by known) l)) is

-- a type is as large where the sizes of the first structs alone are known
module _ (known : List ℕ) (k : ℕ) where
  abbrev SameBefore : Ty → Type 0
  SameBefore ty = type_stands k ty ≡ true → size_by (take k known) ty ≡ size_by known ty

  same_by : (layer : Ty-F ((ty : Ty) × SameBefore ty)) → SameBefore (roll-Ty (map-Ty ((ty : Ty) × SameBefore ty) Ty (λ e. e.0) layer))
  same_by (Ty-F.Scalar s) h =
      size_at (take k known) (roll-Ty (Ty-F.Scalar s)) (Ty-F.Scalar s) (out-roll-Ty (Ty-F.Scalar s))
      ∙ sym (size_at known (roll-Ty (Ty-F.Scalar s)) (Ty-F.Scalar s) (out-roll-Ty (Ty-F.Scalar s)))
  same_by (Ty-F.Struct j) h =
      let less : j < k = less_from j k (sym (stands_at k (roll-Ty (Ty-F.Struct j)) (Ty-F.Struct j) (out-roll-Ty (Ty-F.Struct j))) ∙ h) in
      size_at (take k known) (roll-Ty (Ty-F.Struct j)) (Ty-F.Struct j) (out-roll-Ty (Ty-F.Struct j))
      ∙ get_or-take k known j 0 less
      ∙ sym (size_at known (roll-Ty (Ty-F.Struct j)) (Ty-F.Struct j) (out-roll-Ty (Ty-F.Struct j)))
  same_by (Ty-F.Array m e) h =
      let long : Bool = nat_le 1 m && nat_le m 65536 in
      let level : (long && type_stands k e.0) ≡ true =
      sym (stands_at k (roll-Ty (Ty-F.Array m e.0)) (Ty-F.Array m e.0) (out-roll-Ty (Ty-F.Array m e.0))) ∙ h in
      size_at (take k known) (roll-Ty (Ty-F.Array m e.0)) (Ty-F.Array m e.0) (out-roll-Ty (Ty-F.Array m e.0))
      ∙ ap (λ n. m * n) (e.1 (and_second long (type_stands k e.0) level))
      ∙ sym (size_at known (roll-Ty (Ty-F.Array m e.0)) (Ty-F.Array m e.0) (out-roll-Ty (Ty-F.Array m e.0)))

  same_before : (ty : Ty) → SameBefore ty
  same_before = ind-Ty SameBefore (λ x y is. subst (λ layer. SameBefore (roll-Ty layer)) is (same_by y))

-- ---- tables

-- the byte with which a name begins
first_byte : Text → ℕ
first_byte [] = 0
first_byte (c ∷ rest) = c

memory_byte : (name : Text) → first_byte (memory_name name) ≡ 109
unfolding first_byte
memory_byte name = refl

struct_byte : (name : Text) → first_byte (struct_name name) ≡ 115
unfolding first_byte
struct_byte name = refl

array_byte : (n : ℕ) (element : Text) → first_byte (array_name n element) ≡ 114
unfolding first_byte
array_byte n element = refl

unlike : (a b : Text) (j k : ℕ) → first_byte a ≡ j → first_byte b ≡ k → nat_lt j k ≡ true → a ≡ b → ⊥
unlike a b j k one other less same =
    let lt : j < k = less_from j k less in let equal : j ≡ k = sym one ∙ ap first_byte same ∙ other in omega (arith, lt, equal)

module _ (structs : List StructDef) (units : List UnitDef) (entry most : ℕ) (keeps : IsWellTyped structs units entry)
    (apart : TypesApart structs units entry)
    (nests : NestsAtMost most structs units) where
  abbrev Bounded : Sizes → Type 0
  Bounded known = (ty : Ty) → type_stands (length structs) ty ≡ true → size_of_type known (c_type structs ty) ≤ size structs ty

  -- ---- the struct of a type

  fields_less : (known : Sizes) → Bounded known → (k : ℕ) → k ≤ length structs → (fields : List Field) →
      list_all (λ (f : Field). type_stands k f.ty) fields ≡ true →
      total (map (size_of_member known) (map (c_field structs) fields))
      ≤ total (map (λ (f : Field). size_by (take k (struct_sizes structs)) f.ty) fields)
  fields_less known bounded k le [] stand = omega arith
  fields_less known bounded k le (f ∷ fields) stand =
      let own : type_stands k f.ty ≡ true = and_first (type_stands k f.ty) (list_all (λ (f : Field). type_stands k f.ty) fields) stand in
      let one : size_of_type known (c_type structs f.ty) ≤ size structs f.ty = bounded f.ty (stands_more k (length structs) le f.ty own) in
      let same : size_by (take k (struct_sizes structs)) f.ty ≡ size structs f.ty = same_before (struct_sizes structs) k f.ty own in
      let rest = fields_less known bounded k le fields
      (and_second (type_stands k f.ty) (list_all (λ (f : Field). type_stands k f.ty) fields) stand) in
      omega (arith, one, same, rest)

  defined_less : (known : Sizes) → Bounded known → (k : ℕ) (o : Option StructDef) → slice_get structs k ≡ o →
      size_of_struct known (defined structs o) ≤ slice_index (struct_sizes structs) k
  defined_less known bounded k None is = omega arith
  defined_less known bounded k (Some def) is =
      let less : k < length structs = slice_get_within structs k def is in
      let le : k ≤ length structs = omega (arith, less) in
      let own : list_all (λ (f : Field). type_stands k f.ty) def.fields ≡ true =
      structs_at structs 0 k k def keeps.structs_stand is (omega arith) in
      let fields = fields_less known bounded k le def.fields own in
      let whole : slice_index (struct_sizes structs) k ≡ fields_size (take k (struct_sizes structs)) def =
      answer_at fields_size structs k def 0 is in
      omega (arith, fields, whole)

  level_less : (known : Sizes) → Bounded known → (ty : Ty) (layer : Ty-F Ty) → out-Ty ty ≡ layer →
      type_stands (length structs) ty ≡ true →
      size_of_struct known (struct_level structs layer) ≤ size structs ty
  level_less known bounded ty (Ty-F.Scalar s) is stands = omega arith
  level_less known bounded ty (Ty-F.Struct k) is stands =
      subst (λ n. size_of_struct known (struct_level structs (Ty-F.Struct k)) ≤ n) (sym (size_at (struct_sizes structs) ty (Ty-F.Struct k) is))
      (defined_less known bounded k (slice_get structs k) refl)
  level_less known bounded ty (Ty-F.Array n e) is stands =
      let level : ((nat_le 1 n && nat_le n 65536) && type_stands (length structs) e) ≡ true =
      sym (stands_at (length structs) ty (Ty-F.Array n e) is) ∙ stands in
      let inner : size_of_type known (c_type structs e) ≤ size structs e = bounded e (and_second (nat_le 1 n && nat_le n 65536) _ level) in
      let times : n * size_of_type known (c_type structs e) ≤ n * size structs e =
      mul-le n (size_of_type known (c_type structs e)) n (size structs e) (omega arith) inner in
      let whole : size structs ty ≡ n * size structs e = size_at (struct_sizes structs) ty (Ty-F.Array n e) is in
      omega (arith, times, whole)

  struct_less : (known : Sizes) → Bounded known → (s : CStruct) → (o : StructOf structs most s) → size_of_struct known s ≤ size structs o.ty
  struct_less known bounded s o =
      subst (λ s. size_of_struct known s ≤ size structs o.ty) (sym o.made) (level_less known bounded o.ty (out-Ty o.ty) refl o.stands)

  -- ---- tables that grow

  -- a struct joins that has no more scalars than the types of its name
  joins_by : (known : Sizes) (name : Text) (n : ℕ) → Bounded known → (ty : Ty) → type_stands (length structs) ty ≡ true →
      (bytes_eq name (type_name structs ty) ≡ true → n ≤ size structs ty) → (layer : Ty-F Ty) → out-Ty ty ≡ layer →
      size_of_type (with_entry known name n) (type_level (type_name structs ty) layer) ≤ size structs ty
  joins_by known name n bounded ty stands new (Ty-F.Scalar s) is =
      let one : size structs ty ≡ 1 = size_at (struct_sizes structs) ty (Ty-F.Scalar s) is in omega (arith, one)
  joins_by known name n bounded ty stands new (Ty-F.Struct k) is =
      let old : entry_or 0 known (type_name structs ty) ≤ size structs ty =
      subst (λ layer. size_of_type known (type_level (type_name structs ty) layer) ≤ size structs ty) is (bounded ty stands) in
      at_most (known (type_name structs ty)) (bytes_eq name (type_name structs ty)) n (size structs ty) old new
  joins_by known name n bounded ty stands new (Ty-F.Array m e) is =
      let old : entry_or 0 known (type_name structs ty) ≤ size structs ty =
      subst (λ layer. size_of_type known (type_level (type_name structs ty) layer) ≤ size structs ty) is (bounded ty stands) in
      at_most (known (type_name structs ty)) (bytes_eq name (type_name structs ty)) n (size structs ty) old new

  joins : (known : Sizes) (name : Text) (n : ℕ) → Bounded known →
      ((ty : Ty) → type_stands (length structs) ty ≡ true → bytes_eq name (type_name structs ty) ≡ true → n ≤ size structs ty) →
      Bounded (with_entry known name n)
  joins known name n bounded new ty stands = joins_by known name n bounded ty stands (new ty stands) (out-Ty ty) refl

  abbrev Held : Sizes → Type 0
  Held known = (k : ℕ) (unit : UnitDef) → slice_get units k ≡ Some unit → is_function unit.kind ≡ true →
      entry_or 0 known (memory_name unit.name) ≤ variables_of structs unit

  holds : (known : Sizes) (name : Text) (n : ℕ) → Held known →
      ((k : ℕ) (unit : UnitDef) → slice_get units k ≡ Some unit → is_function unit.kind ≡ true →
      bytes_eq name (memory_name unit.name) ≡ true → n ≤ variables_of structs unit) → Held (with_entry known name n)
  holds known name n held new k unit there function =
      at_most (known (memory_name unit.name)) (bytes_eq name (memory_name unit.name)) n (variables_of structs unit) (held k unit there function)
      (new k unit there function)

  -- ---- a type's struct

  type_of : (s : CStruct) → Contains (structs_for structs units) s → StructOf structs most s
  type_of = all_are structs most keeps.structs_stand nests.definitions units entry keeps nests

  no_memory : (name other : Text) (ty : Ty) (layer : Ty-F Ty) → out-Ty ty ≡ layer → 1 ≤ nesting structs ty →
      name ≡ type_name structs ty →
      name ≡ memory_name other → ⊥
  no_memory name other ty (Ty-F.Scalar s) is some named memory =
      let none : nesting structs ty ≡ 0 = nesting_at (struct_nestings structs) ty (Ty-F.Scalar s) is in omega (arith, some, none)
  no_memory name other ty (Ty-F.Struct k) is some named memory =
      unlike (memory_name other) (struct_name (definition_name structs k)) 109 115 (memory_byte other) (struct_byte (definition_name structs k)) refl
      (sym memory ∙ named ∙ name_at structs ty (Ty-F.Struct k) is)
  no_memory name other ty (Ty-F.Array n e) is some named memory =
      unlike (memory_name other) (array_name n (type_name structs e)) 109 114 (memory_byte other) (array_byte n (type_name structs e)) refl
      (sym memory ∙ named ∙ name_at structs ty (Ty-F.Array n e) is)

  type_joins : (known : Sizes) (s : CStruct) → SizesKnown structs units known → Contains (structs_for structs units) s →
      SizesKnown structs units (with_entry known s.name (size_of_struct known s))
  type_joins known s all has =
      let o = type_of s has in record {
        types = joins known s.name (size_of_struct known s) all.types (λ ty stands named.
            let text : s.name ≡ type_name structs ty = (bytes_eq-Decides s.name (type_name structs ty)).0 named in
            let same : o.ty ≡ ty = apart o.ty ty keeps o.stands stands (sym o.named ∙ text) in
            subst (λ ty. size_of_struct known s ≤ size structs ty) same (struct_less known all.types s o));
        memories = holds known s.name (size_of_struct known s) all.memories (λ k unit there function named.
            absurd (no_memory s.name unit.name o.ty (out-Ty o.ty) refl o.some o.named ((bytes_eq-Decides s.name (memory_name unit.name)).0 named)));
      }

  -- ---- the struct of variables

  members_less : (known : Sizes) → Bounded known → (earlier : List UnitDef) (unit : UnitDef) →
      list_all (λ (var : Var). type_stands (length structs) var.ty) unit.vars ≡ true →
      total (map (size_of_member known) (members_of structs earlier unit)) ≤ variables_of structs unit
  members_less known bounded earlier unit stand =
      let site : TypingContext = site_of structs earlier unit in
      subst (λ members. total (map (size_of_member known) members) ≤ variables_of structs unit) (sym (members_made site 0 unit.vars))
      (total-made (size_of_member known) (λ (var : Var). size_by (struct_sizes structs) var.ty) (is_held_in site) (held_member structs unit.vars) 0 unit.vars
      (λ k j var found.
      let one : size_of_type known (c_type structs var.ty) ≤ size structs var.ty =
      bounded var.ty (all_at (λ (var : Var). type_stands (length structs) var.ty) unit.vars j var stand found) in
      omega (arith, one)))

  alone : {X : Type 0} (x y : X) → Contains (x ∷ []) y → x ≡ y
  alone x y has = by has.0 has.1 has.2
    where
      by : (k : ℕ) → k < 1 → get_or (x ∷ []) k y ≡ y → x ≡ y
      by zero lt is = is
      by (suc k) lt is = absurd (omega arith)

  -- the struct of these members
  members_in : (name : Text) (members : List CMember) (s : CStruct) → Contains (struct_of name members) s →
      (s.name ≡ memory_name name) × (s.members ≡ members)
  members_in name [] s has = absurd (let lt = has.1 in omega arith)
  members_in name (m ∷ rest) s has =
      let is = alone _ s has in (ap (λ (s : CStruct). s.name) (sym is), ap (λ (s : CStruct). s.members) (sym is))

  type_memory : (ty : Ty) (layer : Ty-F Ty) → out-Ty ty ≡ layer → (name : Text) → memory_name name ≡ type_name structs ty → ⊥
  unfolding first_byte
  type_memory ty (Ty-F.Scalar s) is name named = scalar_memory s (named ∙ name_at structs ty (Ty-F.Scalar s) is)
    where
      other : (b : ℕ) → nat_lt b 109 ≡ true → (s : ScalarType) → first_byte (type_word s) ≡ b → memory_name name ≡ type_word s → ⊥
      other b less s byte same = unlike (type_word s) (memory_name name) b 109 byte (memory_byte name) less (sym same)

      later : (s : ScalarType) → first_byte (type_word s) ≡ 110 → memory_name name ≡ type_word s → ⊥
      later s byte same = unlike (memory_name name) (type_word s) 109 110 (memory_byte name) byte refl same

      scalar_memory : (s : ScalarType) → memory_name name ≡ type_word s → ⊥
      scalar_memory OfBool same = other 98 refl OfBool refl same
      scalar_memory (Int W8) same = other 105 refl (Int W8) refl same
      scalar_memory (Int W16) same = other 105 refl (Int W16) refl same
      scalar_memory (Int W32) same = other 105 refl (Int W32) refl same
      scalar_memory (Int W64) same = other 105 refl (Int W64) refl same
      scalar_memory (Nat W8) same = later (Nat W8) refl same
      scalar_memory (Nat W16) same = later (Nat W16) refl same
      scalar_memory (Nat W32) same = later (Nat W32) refl same
      scalar_memory (Nat W64) same = later (Nat W64) refl same
      scalar_memory (Bits W8) same = other 98 refl (Bits W8) refl same
      scalar_memory (Bits W16) same = other 98 refl (Bits W16) refl same
      scalar_memory (Bits W32) same = other 98 refl (Bits W32) refl same
      scalar_memory (Bits W64) same = other 98 refl (Bits W64) refl same
  type_memory ty (Ty-F.Struct k) is name named =
      unlike (memory_name name) (struct_name (definition_name structs k)) 109 115 (memory_byte name) (struct_byte (definition_name structs k)) refl
      (named ∙ name_at structs ty (Ty-F.Struct k) is)
  type_memory ty (Ty-F.Array n e) is name named =
      unlike (memory_name name) (array_name n (type_name structs e)) 109 114 (memory_byte name) (array_byte n (type_name structs e)) refl
      (named ∙ name_at structs ty (Ty-F.Array n e) is)

  memory_joins : (known : Sizes) (k : ℕ) (unit : UnitDef) (s : CStruct) → SizesKnown structs units known → slice_get units k ≡ Some unit →
      Contains (memory_struct structs (take k units) unit) s → SizesKnown structs units (with_entry known s.name (size_of_struct known s))
  memory_joins known k unit s all there has =
      let parts = members_in unit.name (members_of structs (take k units) unit) s has in
      let few : size_of_struct known s ≤ variables_of structs unit =
      subst (λ members. total (map (size_of_member known) members) ≤ variables_of structs unit) (sym parts.1)
      (members_less known all.types (take k units) unit (vars_stand structs units entry keeps k unit there)) in
      record {
        types = joins known s.name (size_of_struct known s) all.types (λ ty stands named.
            absurd (type_memory ty (out-Ty ty) refl unit.name (sym parts.0 ∙ (bytes_eq-Decides s.name (type_name structs ty)).0 named)));
        memories = holds known s.name (size_of_struct known s) all.memories (λ j other found function named.
            let text : unit.name ≡ other.name = ap (drop 2) (sym parts.0 ∙ (bytes_eq-Decides s.name (memory_name other.name)).0 named) in
            let place : k ≡ j = one_place units k j unit other
            (distinct_behind (map (λ (def : StructDef). def.name) structs) (names units) keeps.distinct) there found text in
            let same : unit ≡ other = same_Some unit other (sym there ∙ ap (slice_get units) place ∙ found) in
            subst (λ unit. size_of_struct known s ≤ variables_of structs unit) same few);
      }

  other_joins : (known : Sizes) (name : Text) (n : ℕ) → SizesKnown structs units known → NamesNone structs units name →
      SizesKnown structs units (with_entry known name n)
  other_joins known name n all none = record {
    types = joins known name n all.types (λ ty stands named. absurd (let no : false ≡ true = sym (none.types ty) ∙ named in cc));
    memories = holds known name n all.memories (λ k unit there function named.
        absurd (let no : false ≡ true = sym (none.memories k unit there function) ∙ named in cc));
  }

  nothing_known : SizesKnown structs units no_entries
  nothing_known = record {
    types = λ ty stands. by ty (out-Ty ty) refl;
    memories = λ k unit there function. omega arith;
  }
    where
      by : (ty : Ty) (layer : Ty-F Ty) → out-Ty ty ≡ layer →
          size_of_type no_entries (type_level (type_name structs ty) layer) ≤ size structs ty
      by ty (Ty-F.Scalar s) is = let one : size structs ty ≡ 1 = size_at (struct_sizes structs) ty (Ty-F.Scalar s) is in omega (arith, one)
      by ty (Ty-F.Struct k) is = omega arith
      by ty (Ty-F.Array n e) is = omega arith

  pub all-grow : SizesGrow structs units
  all-grow = record { nothing = nothing_known; type = type_joins; memory = memory_joins; other = other_joins }

pub stand : (structs : List StructDef) (units : List UnitDef) (entry : ℕ) → TypesApart structs units entry → SizesStand structs units entry
stand structs units entry apart most keeps nests = all-grow structs units entry most keeps apart nests
