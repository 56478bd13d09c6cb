-- The structs of the whole file: nothing fails in them, and each is declared.
use Rattle.std.proofs.Common.{◌≡◌, ◌⊎◌, inl, inr, ⊎_elim, ℕ, zero, suc, ◌+◌, ◌<◌, ◌≤◌, arith, Bool, true, false, not, ◌||◌, List, [], ◌∷◌, ◌++◌, Contains, map}
use Rattle.std.proofs.Common.{length, Option, Some, None, refl, sym, ap, ◌∙◌, subst, codes}
use Rattle.std.proofs.lemmas.Bool.{cases_lt, and_from}
use Rattle.std.proofs.lemmas.List.{get_or_past, map-append}
use Rattle.std.proofs.lemmas.List.Elements.{Contains-append_cases, Contains-append_left, Contains-append_right}
use Rattle.std.proofs.lemmas.List.Folds.{list_all-append, list_any-append}
use Rattle.std.proofs.lemmas.Option.{get_or_from_slice_get, slice_get_cases, slice_get_within}
use Rattle.std.proofs.lemmas.Slice.Eq.{bytes_eq-Decides}
use Rattle.std.specs.List.{list_all}
use Rattle.std.specs.Prelude.{bytes_eq, get_or, is_none, slice_get, slice_index, unwrap_or, if◌then◌else◌, is_some}
use Rattle.bl_tree.proofs.Basics.{and_first, and_second, both_empty, contains_none, first_or_further, none_from}
use Rattle.bl_tree.specs.declared.c.CMember.{CMember}
use Rattle.bl_tree.specs.declared.c.CStruct.{CStruct}
use Rattle.bl_tree.specs.declared.c.CType.TheVariants.{Struct as OfStruct}
use Rattle.bl_tree.specs.declared.program.Program.{Program}
use Rattle.bl_tree.specs.declared.rule.Rule.TheVariants as rule
use Rattle.bl_tree.specs.declared.text.Text.{Text}
use Rattle.bl_tree.specs.declared.tree.StructDef.{StructDef}
use Rattle.bl_tree.specs.declared.tree.Unit.{Unit as UnitDef}
use Rattle.bl_tree.specs.declared.tree.Var.{Var}
use Rattle.bl_tree.specs.Program.{IsWellTyped, is_entry, parameters_of}
use Rattle.bl_tree.specs.Program as tree
use Rattle.bl_tree.specs.Typing.{inputs_of, outputs_of}
use Rattle.bl_tree.specs.Words.{are_distinct, is_among, is_name}
use Rattle.bl_limits.specs.Rules.{Passes}
use Rattle.bl_limits_measures.specs.InOrder.{answers}
use Rattle.bl_limits_measures.specs.Types.{fields_nesting, nesting, struct_nestings}
use Rattle.bl_limits_measures.specs.Units.{chain_at}
use Rattle.bl_limits_measures.proofs.TableLemmas.{length_answers}
use Rattle.bl_ctext_semantics.specs.Faults.{depth_of_struct, distinct_names, faults_in_struct, interface_fits, member_table, struct_faults_after, unless}
use Rattle.bl_ctext_semantics.specs.Tables.{Table, found, no_entries, with_entry}
use Rattle.bl_emit_structs.specs.Structs.{each_once, structs_for}
use Rattle.bl_emit_structs_laws_wellformed.specs.Names.{MembersDiffer, NamesDiffer, TypesApart, UsesEarlier, are_known, is_known, member_names, names_of}
use Rattle.bl_emit_acts_laws_wellformed.proofs.OnFormed.Units.{unit_at}
use Rattle.bl_emit_structs_laws_wellformed.specs.Formed.{NestsAtMost, StructsThere}
use Rattle.bl_emit_structs_laws_wellformed.proofs.OnFormed.Faultless.{has_nothing, has}
use Rattle.bl_emit_structs_laws_wellformed.proofs.OnFormed.Types.{StructOf, all_are}
use Rattle.bl_emit_functions.specs.Functions.{memory_name}
use Rattle.bl_emit_functions_laws_wellformed.proofs.OnFiles.Growing.{distinct_behind}
use Rattle.bl_emit_spec.specs.Names.{frame_name}
use Rattle.bl_emit_spec.specs.Programs.{ProgramParts, port_struct, state_struct}
use Rattle.bl_emit_spec_laws_wellformed_bodies.specs.Structs.Laws.{FileStructs, FilesDeclare, PartsAreSound, PartsStand, program_parts}
use Rattle.bl_emit_spec_laws_wellformed_bodies.specs.Structs.Parts.{IsPart}
use Rattle.bl_emit_spec_laws_wellformed_bodies.proofs.OnStructs.Heights.{Height, as_file, class, class_file, class_frame, class_memory, fine_frame, fine_memory}
use Rattle.bl_emit_spec_laws_wellformed_bodies.proofs.OnStructs.Heights.{fine_type, type_class}
use Rattle.bl_emit_spec_laws_wellformed_bodies.proofs.OnStructs.Interface.{Ports, inputs_differ, inputs_fit, inputs_ports, outputs_differ, outputs_fit}
use Rattle.bl_emit_spec_laws_wellformed_bodies.proofs.OnStructs.Interface.{outputs_ports, port_scalar, state_differs, state_members}
use Rattle.bl_emit_spec_laws_wellformed_bodies.proofs.OnStructs.Lists.{list_known}
use Rattle.bl_emit_spec_laws_wellformed_bodies.proofs.OnStructs.Sound.{Fine, Lower, deep_nothing, structs_sound}
use Rattle.bl_ctext_semantics.proofs.EndLemmas.{unless-nil}
use Rattle.bl_emit_structs_laws_wellformed.proofs.OnFormed.Whole.{once_has, known_both, others_new}
use Rattle.bl_emit_functions_laws_wellformed.proofs.OnFiles.Structs.{both_free, later_found, entry as entry_of}
use Rattle.bl_tree.specs.Types.{scalar_in}
use Rattle.bl_emit_spec.proofs.LentLemmas.{lent_names, lent_parameter_names, lent_parameters_all}
use Rattle.bl_emit_spec.specs.Lent.{lent_unit}

-- ---- lists

all_of_each : {A : Type 0} (test : A → Bool) (xs : List A) → ((x : A) → Contains xs x → test x ≡ true) → list_all test xs ≡ true
all_of_each test [] each = refl
all_of_each test (x ∷ xs) each =
    and_from (test x) (list_all test xs) (each x (0, omega arith, refl))
    (all_of_each test xs (λ y at. each y (suc at.0, (let lt = at.1 in omega arith), at.2)))

-- ---- names that differ

not_among : (x : Text) (ys : List CStruct) → ((y : CStruct) → Contains ys y → x ≡ y.name → ⊥) → is_among x (names_of ys) ≡ false
not_among x [] apart = refl
not_among x (y ∷ ys) apart =
    by (bytes_eq x y.name) refl (not_among x ys (λ z at. apart z (suc at.0, (let lt = at.1 in omega arith), at.2)))
  where
    by : (b : Bool) → bytes_eq x y.name ≡ b → is_among x (names_of ys) ≡ false → (b || is_among x (names_of ys)) ≡ false
    by true is rest = absurd (apart y (0, omega arith, refl) ((bytes_eq-Decides x y.name).0 is))
    by false is rest = rest

differ_both : (xs ys : List CStruct) → are_distinct (names_of xs) ≡ true → are_distinct (names_of ys) ≡ true →
    ((x y : CStruct) → Contains xs x → Contains ys y → x.name ≡ y.name → ⊥) → are_distinct (names_of (xs ++ ys)) ≡ true
differ_both [] ys one two apart = two
differ_both (x ∷ xs) ys one two apart =
    and_from (not (is_among x.name (names_of (xs ++ ys)))) (are_distinct (names_of (xs ++ ys)))
    (ap not (ap (is_among x.name) (map-append (λ (s : CStruct). s.name) xs ys) ∙ list_any-append (bytes_eq x.name) (names_of xs) (names_of ys)
    ∙ ap (λ b. is_among x.name (names_of xs) || b) (not_among x.name ys (λ y at is. apart x y (0, omega arith, refl) at is)))
    ∙ none (is_among x.name (names_of xs)) (and_first (not (is_among x.name (names_of xs))) (are_distinct (names_of xs)) one))
    (differ_both xs ys (and_second (not (is_among x.name (names_of xs))) (are_distinct (names_of xs)) one) two
    (λ z y at there. apart z y (suc at.0, (let lt = at.1 in omega arith), at.2) there))
  where
    none : (b : Bool) → not b ≡ true → not (b || false) ≡ true
    none true h = h
    none false h = refl

-- ---- a list of structs in which nothing fails

first_found : (value : Table CMember) (b : Bool) (o : Option (Table CMember)) → b ≡ true → (if b then Some value else o) ≡ Some value
first_found value true o is = refl
first_found value false o is = absurd (cc)

-- each struct of the list is declared under its name
declared : (list : List CStruct) (table : Table (Table CMember)) (depths : Table ℕ) → struct_faults_after table depths list ≡ [] →
    (s : CStruct) → Contains list s → (table s.name ≡ None) × (found s.name (map entry_of list) ≡ Some (member_table s))
declared [] table depths none s (k, within, is) = absurd (omega (arith, within))
declared (y ∷ list) table depths none s (zero, within, is) =
    let faults = both_empty (faults_in_struct table depths y) _ none in
    let front = both_empty (unless (is_none (table y.name)) distinct_names y.place) _ faults.0 in
    let free : table y.name ≡ None = none_from (table y.name) (unless-nil (is_none (table y.name)) distinct_names y.place front.0) in
    subst (λ (s : CStruct). (table s.name ≡ None) × (found s.name (map entry_of (y ∷ list)) ≡ Some (member_table s))) is
    (free, first_found (member_table y) (bytes_eq y.name y.name) (found y.name (map entry_of list)) ((bytes_eq-Decides y.name y.name).1 refl))
declared (y ∷ list) table depths none s (suc k, within, is) =
    let faults = both_empty (faults_in_struct table depths y) _ none in
    let rest = declared list (with_entry table y.name (member_table y)) (with_entry depths y.name (depth_of_struct depths y)) faults.1 s
    (k, omega (arith, within), is) in
    let free = both_free (table s.name) (bytes_eq y.name s.name) (member_table y) rest.0 in
    (free.0, later_found (member_table y) (bytes_eq y.name s.name) (found s.name (map entry_of list)) free.1 ∙ rest.1)

-- ---- what the rules Cells and Frames say

module _ (structs : List StructDef) (units : List UnitDef) (start : ℕ) (passes : Passes structs units start) where
  definition_nests : (k : ℕ) → slice_index (struct_nestings structs) k ≤ 100
  definition_nests k =
      ⊎_elim
      (λ (deep : 100 < slice_index (struct_nestings structs) k). ⊎_elim
      (λ (there : (def : StructDef) × (k < length structs) × (slice_get structs k ≡ Some def) × (get_or structs k def ≡ def)). absurd
      (passes rule.Cells there.0.place [] (inr (inl (record { position = k; later = omega arith; def = there.0; is_there = there.2; deep = deep; at_name = refl })), refl)))
      (λ (past : (length structs ≤ k) × (slice_get structs k ≡ None)). let long = length_answers fields_nesting [] structs in
      let few : length structs ≤ k = past.0 in
      let none : slice_index (struct_nestings structs) k ≡ 0 = get_or_past (answers fields_nesting structs) k 0 (omega (arith, long, few)) in
      omega (arith, none))
      (slice_get_cases structs k).1)
      (λ (few : slice_index (struct_nestings structs) k ≤ 100). few)
      (cases_lt 100 (slice_index (struct_nestings structs) k))

  variable_nests : (k j : ℕ) (unit : UnitDef) (var : Var) → slice_get units k ≡ Some unit
      → slice_get unit.vars j ≡ Some var → nesting structs var.ty ≤ 100
  variable_nests k j unit var there has =
      ⊎_elim
      (λ (deep : 100 < nesting structs var.ty). absurd (passes rule.Cells var.place [] (
        inr (inr (record {
          unit = unit;
          of_program = (k, slice_get_within units k unit there, get_or_from_slice_get units k unit unit there);
          var = var;
          of_unit = (j, slice_get_within unit.vars j var has, get_or_from_slice_get unit.vars j var var has);
          deep = deep;
          at_name = refl;
        })),
        refl,
      )))
      (λ (few : nesting structs var.ty ≤ 100). few)
      (cases_lt 100 (nesting structs var.ty))

  pub nests : NestsAtMost 100 structs units
  nests = record { definitions = definition_nests; variables = variable_nests }

  short : (k : ℕ) (unit : UnitDef) → slice_get units k ≡ Some unit → chain_at units k ≤ 100
  short k unit there =
      ⊎_elim
      (λ (long : 100 < chain_at units k). absurd (passes rule.Frames unit.place [] (
        inr (record { position = k; unit = unit; heads = there; long = long; at_name = refl }),
        refl,
      )))
      (λ (few : chain_at units k ≤ 100). few) (cases_lt 100 (chain_at units k))

more_nests : (structs : List StructDef) (units : List UnitDef) → NestsAtMost 100 structs units → NestsAtMost 299 structs units
more_nests structs units nests = record {
  definitions = λ k. let low : slice_index (struct_nestings structs) k ≤ 100 = nests.definitions k in omega (arith, low);
  variables = λ k j unit var there has. let low : nesting structs var.ty ≤ 100 = nests.variables k j unit var there has in omega (arith, low);
}

-- ---- the file

module _ (structs : List StructDef) (units : List UnitDef) (entry : ℕ) (keeps : IsWellTyped structs units entry) (apart : TypesApart structs units entry)
    (low : NestsAtMost 100 structs units) (few : (k : ℕ) (unit : UnitDef) → slice_get units k ≡ Some unit → chain_at units k ≤ 100)
    (parts : ProgramParts) (stand : PartsStand structs units entry parts) (unit : UnitDef) (there : slice_get units entry ≡ Some (lent_unit unit))
    (ins : Ports (inputs_of unit)) (outs : Ports (outputs_of unit))
  where
    abbrev remembers : Bool
    remembers = unwrap_or (slice_get parts.remember entry) false

    abbrev types : List CStruct
    types = each_once [] (structs_for structs units)

    abbrev state : CStruct
    state = state_struct unit.name remembers

    abbrev in_ports : CStruct
    in_ports = port_struct structs (codes "bl_in") (codes "i_") (inputs_of unit)

    abbrev out_ports : CStruct
    out_ports = port_struct structs (codes "bl_out") (codes "o_") (outputs_of unit)

    abbrev last : List CStruct
    last = state ∷ in_ports ∷ out_ports ∷ []

    distinct : are_distinct (map (λ (u : UnitDef). u.name) units) ≡ true
    distinct = distinct_behind (map (λ (def : StructDef). def.name) structs) (map (λ (u : UnitDef). u.name) units) keeps.distinct

    abbrev H : Text → ℕ → Type 0
    H = Height structs units

    -- ---- what each is

    type_at : (s : CStruct) → Contains types s → StructOf structs 299 s
    type_at s at =
        all_are structs 299 keeps.structs_stand (more_nests structs units low).definitions units entry keeps (more_nests structs units low) s
        (once_has [] (structs_for structs units) s at)

    -- the class of each name
    type_named : (s : CStruct) → Contains types s → class s.name ≡ 0
    type_named s at =
        let o = type_at s at in ap class o.named ∙ type_class structs units entry keeps apart low few distinct o.ty o.some

    part_named : (s : CStruct) → Contains parts.structs s → (class s.name ≡ 109) ⊎ (class s.name ≡ 102)
    part_named s at =
        ⊎_elim (λ (p : IsPart structs units memory_name s). inl (ap class p.named ∙ class_memory p.unit.name))
        (λ (p : IsPart structs units frame_name s). inr (ap class p.named ∙ class_frame p.unit.name)) (stand.each s at)

    -- one of the three
    last_cases : (s : CStruct) → Contains last s → (s ≡ state) ⊎ ((s ≡ in_ports) ⊎ (s ≡ out_ports))
    last_cases s at =
        ⊎_elim (λ is. inl (sym is))
        (λ more. ⊎_elim (λ is. inr (inl (sym is)))
        (λ more. ⊎_elim (λ is. inr (inr (sym is))) (λ none. absurd (contains_none s none)) (first_or_further out_ports [] s more))
        (first_or_further in_ports (out_ports ∷ []) s more)) (first_or_further state (in_ports ∷ out_ports ∷ []) s at)

    last_named : (s : CStruct) → Contains last s → class s.name ≡ 98
    last_named s at =
        ⊎_elim (λ is. ap (λ (s : CStruct). class s.name) is)
        (λ more. ⊎_elim (λ is. ap (λ (s : CStruct). class s.name) is) (λ is. ap (λ (s : CStruct). class s.name) is) more) (last_cases s at)

    -- ---- names

    clash : (x y : Text) (a b : ℕ) → class x ≡ a → class y ≡ b → x ≡ y → (a ≡ b → ⊥) → ⊥
    clash x y a b one two same other = other (sym one ∙ ap class same ∙ two)

    parts_last_differ : are_distinct (names_of (parts.structs ++ last)) ≡ true
    parts_last_differ =
        differ_both parts.structs last stand.differ refl
        (λ x y at there same.
        ⊎_elim (λ own. clash x.name y.name 109 98 own (last_named y there) same (λ e. absurd (omega (arith, e))))
        (λ own. clash x.name y.name 102 98 own (last_named y there) same (λ e. absurd (omega (arith, e)))) (part_named x at))

    all_differ : NamesDiffer structs units → are_distinct (names_of (types ++ (parts.structs ++ last))) ≡ true
    all_differ types_differ =
        differ_both types (parts.structs ++ last) types_differ parts_last_differ
        (λ x y at there same.
        ⊎_elim
        (λ own. ⊎_elim (λ is. clash x.name y.name 0 109 (type_named x at) is same (λ e. absurd (omega (arith, e))))
        (λ is. clash x.name y.name 0 102 (type_named x at) is same (λ e. absurd (omega (arith, e)))) (part_named y own))
        (λ end. clash x.name y.name 0 98 (type_named x at) (last_named y end) same (λ e. absurd (omega (arith, e))))
        (Contains-append_cases parts.structs last y there))

    -- ---- members are known

    abbrev front : List Text
    front = names_of types ++ names_of parts.structs

    told_so : (o : Option Bool) → unwrap_or o false ≡ true → o ≡ Some true
    told_so (Some true) is = refl
    told_so (Some false) is = absurd (cc)
    told_so None is = absurd (cc)

    state_known : list_all (λ (m : CMember). is_known front m.ty) state.members ≡ true
    state_known =
        list_known front state.members
        (λ m at. let o = state_members unit.name remembers m at in
        subst (λ ty. is_known front ty ≡ true) (sym o.is) (by o.frame refl o.tells))
      where
        by : (b : Bool) → b ≡ b → (b ≡ false → remembers ≡ true) →
            is_known front (OfStruct (if b then frame_name unit.name else memory_name unit.name)) ≡ true
        by true is tells = stand.frame (lent_unit unit) there
        by false is tells = stand.memory (lent_unit unit) there (told_so (slice_get parts.remember entry) (tells refl))

    ports_known : (names : List Text) (name prefix : Text) (vars : List Var) → Ports vars →
        list_all (λ (m : CMember). is_known names m.ty) (port_struct structs name prefix vars).members ≡ true
    ports_known names name prefix vars ports =
        list_known names (port_struct structs name prefix vars).members
        (λ m at. let t = port_scalar structs name prefix vars ports m at in subst (λ ty. is_known names ty ≡ true) (sym t.1) refl)

    last_known : are_known front last ≡ true
    last_known =
        and_from (list_all (λ (m : CMember). is_known front m.ty) state.members) (are_known (front ++ state.name ∷ []) (in_ports ∷ out_ports ∷ []))
        state_known
        (and_from (list_all (λ (m : CMember). is_known (front ++ state.name ∷ []) m.ty) in_ports.members)
        (are_known ((front ++ state.name ∷ []) ++ in_ports.name ∷ []) (out_ports ∷ []))
        (ports_known (front ++ state.name ∷ []) (codes "bl_in") (codes "i_") (inputs_of unit) ins)
        (and_from (list_all (λ (m : CMember). is_known ((front ++ state.name ∷ []) ++ in_ports.name ∷ []) m.ty) out_ports.members) true
        (ports_known ((front ++ state.name ∷ []) ++ in_ports.name ∷ []) (codes "bl_out") (codes "o_") (outputs_of unit) outs) refl))

    all_known : UsesEarlier structs units entry → are_known [] (types ++ (parts.structs ++ last)) ≡ true
    all_known earlier =
        known_both [] types (parts.structs ++ last) (earlier keeps) (known_both (names_of types) parts.structs last stand.known last_known)

    -- ---- names of members

    part_members : (s : CStruct) → Contains parts.structs s → are_distinct (member_names s) ≡ true
    part_members s at =
        ⊎_elim (λ (p : IsPart structs units memory_name s). p.distinct) (λ (p : IsPart structs units frame_name s). p.distinct) (stand.each s at)

    last_members : (s : CStruct) → Contains last s → are_distinct (member_names s) ≡ true
    last_members s at =
        ⊎_elim (λ is. subst (λ (s : CStruct). are_distinct (member_names s) ≡ true) (sym is) (state_differs unit.name remembers))
        (λ more. ⊎_elim
        (λ is. subst (λ (s : CStruct). are_distinct (member_names s) ≡ true) (sym is) (inputs_differ structs (inputs_of unit) ins))
        (λ is. subst (λ (s : CStruct). are_distinct (member_names s) ≡ true) (sym is) (outputs_differ structs (outputs_of unit) outs)) more)
        (last_cases s at)

    abbrev differs : CStruct → Bool
    differs s = are_distinct (member_names s)

    all_members : MembersDiffer structs units entry → list_all differs (types ++ (parts.structs ++ last)) ≡ true
    all_members members =
        list_all-append differs types (parts.structs ++ last)
        ∙ and_from (list_all differs types) (list_all differs (parts.structs ++ last)) (members keeps)
        (list_all-append differs parts.structs last
        ∙ and_from (list_all differs parts.structs) (list_all differs last) (all_of_each differs parts.structs part_members)
        (all_of_each differs last last_members))

    -- ---- depth

    state_fine : Fine H state
    state_fine = record {
      plain = refl;
      most = 300;
      stands = inr (inr (inr (record { rest = codes "state"; named = refl; is = refl })));
      few = omega arith;
      some = λ n h. let is = as_file structs units entry keeps apart low few distinct state.name n refl h in omega (arith, is);
      parts = λ n h m at.
          let is : n ≡ 300 = as_file structs units entry keeps apart low few distinct state.name n refl h in
          let o = state_members unit.name remembers m at in
          subst (Lower H n) (sym o.is) (by n is o.frame);
    }
      where
        short_chain : chain_at units entry ≤ 100
        short_chain = few entry (lent_unit unit) there

        by : (n : ℕ) → n ≡ 300 → (b : Bool) → Lower H n (OfStruct (if b then frame_name unit.name else memory_name unit.name))
        by n is true = (
          100 + chain_at units entry,
          inr (inr (inl (record { position = entry; unit = lent_unit unit; is_there = there; named = refl; is = refl }))),
          (let less = short_chain in omega (arith, is, less)),
        )
        by n is false = (
          100 + chain_at units entry,
          inr (inl (record { position = entry; unit = lent_unit unit; is_there = there; named = refl; is = refl })),
          (let less = short_chain in omega (arith, is, less)),
        )

    port_fine : (name rest prefix : Text) (vars : List Var) → name ≡ codes "bl_" ++ rest → Ports vars →
        interface_fits (port_struct structs name prefix vars) ≡ true → Fine H (port_struct structs name prefix vars)
    port_fine name rest prefix vars named ports fits = record {
      plain = fits;
      most = 300;
      stands = inr (inr (inr (record { rest = rest; named = named; is = refl })));
      few = omega arith;
      some = λ n h.
          let is = as_file structs units entry keeps apart low few distinct name n (ap class named ∙ class_file rest) h in omega (arith, is);
      parts = λ n h m at. let t = port_scalar structs name prefix vars ports m at in subst (Lower H n) (sym t.1) tt;
    }

    last_fine : (s : CStruct) → Contains last s → Fine H s
    last_fine s at =
        ⊎_elim (λ is. subst (Fine H) (sym is) state_fine)
        (λ more. ⊎_elim
        (λ is. subst (Fine H) (sym is)
        (port_fine (codes "bl_in") (codes "in") (codes "i_") (inputs_of unit) refl ins (inputs_fit structs (inputs_of unit) ins)))
        (λ is. subst (Fine H) (sym is)
        (port_fine (codes "bl_out") (codes "out") (codes "o_") (outputs_of unit) refl outs (outputs_fit structs (outputs_of unit) outs)))
        more) (last_cases s at)

    all_fine : (s : CStruct) → Contains (types ++ (parts.structs ++ last)) s → Fine H s
    all_fine s at =
        ⊎_elim (λ own. fine_type structs units entry keeps apart low few distinct s (type_at s own))
        (λ more. ⊎_elim
        (λ part. ⊎_elim (λ (p : IsPart structs units memory_name s). fine_memory structs units entry keeps apart low few distinct s p)
        (λ (p : IsPart structs units frame_name s). fine_frame structs units entry keeps apart low few distinct s p) (stand.each s part))
        (λ end. last_fine s end) (Contains-append_cases parts.structs last s more)) (Contains-append_cases types (parts.structs ++ last) s at)

    -- ---- together

    none_fails : NamesDiffer structs units → MembersDiffer structs units entry → UsesEarlier structs units entry →
        struct_faults_after no_entries no_entries (types ++ (parts.structs ++ last)) ≡ []
    none_fails names members earlier =
        structs_sound H (types ++ (parts.structs ++ last)) [] no_entries no_entries (has_nothing (Table CMember)) (deep_nothing H)
        (others_new [] (types ++ (parts.structs ++ last)) (all_differ names) (λ name is. refl)) (all_known earlier) (all_members members) all_fine

    pub file_structs : NamesDiffer structs units → MembersDiffer structs units entry → UsesEarlier structs units entry →
        StructsThere structs units entry → FileStructs structs units (types ++ (parts.structs ++ last)) parts.structs last
    file_structs names members earlier at =
        let all : List CStruct = types ++ (parts.structs ++ last) in
        let none = none_fails names members earlier in
        record {
          sound = none;
          types = at 100 (parts.structs ++ last) keeps low;
          parts = λ s has. (declared all no_entries no_entries none s
              (Contains-append_right types (parts.structs ++ last) s (Contains-append_left parts.structs last s has))).1;
          interface = λ s has. (declared all no_entries no_entries none s
              (Contains-append_right types (parts.structs ++ last) s (Contains-append_right parts.structs last s has))).1;
        }

pub files_declare : (program : Program) → NamesDiffer program.structs program.units → MembersDiffer program.structs program.units program.entry →
    UsesEarlier program.structs program.units program.entry → TypesApart program.structs program.units program.entry →
    StructsThere program.structs program.units program.entry → PartsAreSound program.structs program.units program.entry → FilesDeclare program
files_declare program names members earlier apart at sound machine unit keeps limits agrees there =
    let structs : List StructDef = program.structs in
    let units : List UnitDef = program.units in
    let parts : ProgramParts = program_parts structs units program.entry machine in
    let stands = unit_at structs units program.entry keeps program.entry (lent_unit unit) there in
    let named : list_all is_name (tree.names_of unit.vars) ≡ true =
    ap (list_all is_name) (sym (lent_names unit.vars)) ∙ and_first _ _ (and_second _ _ (and_first _ _ stands)) in
    let distinct : are_distinct (tree.names_of (parameters_of unit)) ≡ true =
    ap are_distinct (sym (lent_parameter_names unit)) ∙ and_second _ _ (and_second _ _ (and_first _ _ stands)) in
    let entry_so : is_entry (Some (lent_unit unit)) ≡ true = ap is_entry (sym there) ∙ keeps.entry_stands in
    let scalars = sym (lent_parameters_all (λ (var : Var). is_some (scalar_in var.ty)) (λ var. refl) unit) ∙ and_second _ _ (and_second _ _ entry_so) in
    file_structs structs units program.entry keeps apart (nests structs units program.entry limits) (short structs units program.entry limits) parts
    (sound machine keeps limits agrees) unit there (inputs_ports unit scalars named distinct) (outputs_ports unit scalars named distinct)
    names members earlier at
