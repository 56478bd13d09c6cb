-- The C functions of needed units, one after another: none heads a chain of more cells than the number of its unit.
use Rattle.std.proofs.Common.{◌≡◌, ◌⊎◌, inl, inr, ⊎_elim, ℕ, suc, ◌+◌, ◌<◌, ◌≤◌, arith}
use Rattle.std.proofs.Common.{Bool, true, false, not, ◌||◌, nat_eq, List, [], ◌∷◌, ◌++◌, Contains, map}
use Rattle.std.proofs.Common.{take, drop, length, Some, None, cond, refl, sym, ap, ◌∙◌, subst, append_assoc}
use Rattle.std.proofs.lemmas.List.{append-nil, length-append, map-append}
use Rattle.std.proofs.lemmas.List.Elements.{Contains-append_cases}
use Rattle.std.proofs.lemmas.Slice.Eq.{bytes_eq-Decides}
use Rattle.std.specs.List.{list_any}
use Rattle.std.specs.Prelude.{bytes_eq, slice_get, slice_index, unwrap_or, if◌then◌else◌}
use Rattle.std.proofs.lemmas.Bool.{or_left, or_right}
use Rattle.bl_tree.proofs.Basics.{and_first, contains_none, first_or_further, get_seam, take_front}
use Rattle.bl_tree.specs.declared.c.CFunc.{CFunc}
use Rattle.bl_tree.specs.declared.c.CMember.{CMember}
use Rattle.bl_tree.specs.declared.c.CStruct.{CStruct}
use Rattle.bl_tree.specs.declared.text.Text.{Text}
use Rattle.bl_tree.specs.declared.tree.StructDef.{StructDef}
use Rattle.bl_tree.specs.declared.tree.Unit.{Unit as UnitDef}
use Rattle.bl_tree.specs.Program.{IsWellTyped}
use Rattle.bl_tree.specs.Reduce.{greatest, total}
use Rattle.bl_tree.specs.Typing.{is_activity}
use Rattle.bl_tree.specs.Words.{are_distinct, is_among}
use Rattle.bl_cause.specs.Activities.{EachTwo, activities}
use Rattle.bl_limits_measures.specs.Runs.{activities_by_place}
use Rattle.bl_limits_measures.specs.Units.{cells_at}
use Rattle.bl_machine.specs.declared.machine.Activity.{Activity as InMachine}
use Rattle.bl_machine.specs.Layout.{width_in}
use Rattle.bl_machine.specs.Machines.{IsActivityOf}
use Rattle.bl_graph_nodes.specs.Plain.{plain_body}
use Rattle.bl_machine_pass.specs.Numbered.{sizes_of}
use Rattle.bl_ctext_semantics.specs.Sizes.{Sizes, chain_cells, chains_after, size_of_member, size_of_struct, sizes_after}
use Rattle.bl_ctext_semantics.specs.Tables.{Table, entry_or, with_entry}
use Rattle.bl_emit_structs_laws_wellformed.specs.Names.{names_of}
use Rattle.bl_emit_functions.specs.Functions.{memory_name, memory_struct, members_of, struct_of}
use Rattle.bl_emit_functions_laws_wellformed.specs.Cells.{CellsFollow, CellsGrow, SizesKnown}
use Rattle.bl_emit_functions_laws_wellformed.proofs.OnFiles.Growing.{distinct_behind, names, one_place}
use Rattle.bl_emit_spec.specs.Activities.{Activity, frame_struct, remembered, remembered_struct, remembers_any}
use Rattle.bl_emit_spec.specs.Names.{frame_name}
use Rattle.bl_emit_spec.specs.Programs.{ProgramParts, activity_of, needed_units, needs_of, parts_from, parts_of_function, parts_of_next, parts_then}
use Rattle.bl_emit_spec.specs.Programs.{where_needed}
use Rattle.bl_emit_spec_laws_wellformed.specs.Chains.{ActivitiesCallFew}
use Rattle.bl_emit_spec_laws_wellformed_bodies.specs.Cells.{ActivityCells}
use Rattle.bl_emit_spec_laws_wellformed_bodies.proofs.OnStructs.Names.{Other, none_among}
use Rattle.bl_emit_laws.proofs.OnCells.Numbers.{greatest_both, index_last, index_more}
use Rattle.bl_emit_laws.proofs.OnCells.Reaching.{Reached, activity_step, chain_less, function_less, function_step, none_step, reached}
use Rattle.bl_emit_laws.proofs.OnCells.Sizing.{struct_named}
use Rattle.bl_emit_laws.proofs.OnCells.Tables.{sizes_append, sizes_none, sizes_under}

-- ---- names

-- the byte with which a name begins
abbrev pub first_byte : Text → ℕ
first_byte [] = 0
first_byte (c ∷ rest) = c

pub unlike : (x y : Text) (a b : ℕ) → first_byte x ≡ a → first_byte y ≡ b → (a ≡ b → ⊥) → x ≡ y → ⊥
unlike x y a b one two other same = other (sym one ∙ ap first_byte same ∙ two)

pub frame_byte : (name : Text) → first_byte (frame_name name) ≡ 102
frame_byte name = refl

pub memory_byte : (name : Text) → first_byte (memory_name name) ≡ 109
memory_byte name = refl

among_of : (list : List CStruct) (s : CStruct) (name : Text) → Contains list s → s.name ≡ name → is_among name (names_of list) ≡ true
among_of [] s name has same = absurd (contains_none s has)
among_of (t ∷ list) s name has same =
    ⊎_elim
    (λ is. or_left (bytes_eq name t.name) (is_among name (names_of list))
    ((bytes_eq-Decides name t.name).1 (sym same ∙ ap (λ (s : CStruct). s.name) (sym is))))
    (λ more. or_right (bytes_eq name t.name) (is_among name (names_of list)) (among_of list s name more same)) (first_or_further t list s has)

none_of : (list : List CStruct) (s : CStruct) (name : Text) → is_among name (names_of list) ≡ false → Contains list s → s.name ≡ name → ⊥
none_of list s name none has same = let no : false ≡ true = sym none ∙ among_of list s name has same in absurd (cc)

struct_members : (name : Text) (members : List CMember) (s : CStruct) → Contains (struct_of name members) s → s.members ≡ members
struct_members name [] s has = absurd (contains_none s has)
struct_members name (m ∷ rest) s has =
    ⊎_elim (λ is. ap (λ (s : CStruct). s.members) (sym is)) (λ none. absurd (contains_none s none)) (first_or_further _ [] s has)

-- ---- tables of chains

-- the functions join, each with its chain
abbrev pub after : Sizes → Table ℕ → List CFunc → Table ℕ
after known chains [] = chains
after known chains (f ∷ rest) = after known (with_entry chains f.name (chain_cells known chains f)) rest

pub chains_append : (known : Sizes) (xs ys : List CFunc) (chains : Table ℕ) →
    chains_after known chains (xs ++ ys) ≡ chains_after known chains xs ++ chains_after known (after known chains xs) ys
chains_append known [] ys chains = refl
chains_append known (f ∷ xs) ys chains =
    ap (λ rest. chain_cells known chains f ∷ rest) (chains_append known xs ys (with_entry chains f.name (chain_cells known chains f)))

module _ (structs : List StructDef) (units : List UnitDef) (entry : ℕ) (keeps : IsWellTyped structs units entry) (differ : are_distinct (names units) ≡ true)
    (K : Sizes) (sizes : SizesKnown structs units K) (cells : ActivityCells structs units entry) (follow : CellsFollow structs units entry)
    (grow : CellsGrow structs units entry) (few : ActivitiesCallFew)
    (before : (k j : ℕ) (unit : UnitDef) → slice_get units k ≡ Some unit → list_any (nat_eq j) (needs_of unit) ≡ true → j < k)
    (down : (k j : ℕ) (unit : UnitDef) → slice_get units k ≡ Some unit → list_any (nat_eq j) (needs_of unit) ≡ true →
    cells_at structs units j ≤ cells_at structs units k)
    (last : List CStruct) (last_named : (s : CStruct) → Contains last s → first_byte s.name ≡ 98)
    (counters : (unit : UnitDef) (one : InMachine) → IsActivityOf unit one → length (sizes_of one.slots) ≤ width_in (plain_body unit.body))
    (callees : (k : ℕ) (unit : UnitDef) (one : InMachine) (remember : List Bool) → slice_get units k ≡ Some unit → is_activity unit.kind ≡ true →
    slice_get (needed_units units entry) k ≡ Some true → IsActivityOf unit one → (u : ℕ) (callee : UnitDef) →
    Contains (activities_by_place unit) u → slice_get units u ≡ Some callee →
    (u < k) × (is_activity callee.kind ≡ true) × (slice_get (needed_units units entry) u ≡ Some true))
  where
    abbrev pub Needs : ℕ → Type 0
    Needs k = slice_get (needed_units units entry) k ≡ Some true

    abbrev pub Knows : List ℕ → Table ℕ → ℕ → Type 0
    Knows list chains k = Reached structs units entry keeps differ K sizes cells follow grow few before down list chains k

    -- no struct of the units from this position on has an entry
    abbrev pub Fresh : Sizes → ℕ → Type 0
    Fresh T k = (j : ℕ) (unit : UnitDef) → k ≤ j → slice_get units j ≡ Some unit →
        (T (frame_name unit.name) ≡ None) × (T (memory_name unit.name) ≡ None)

    -- what these functions come to
    pub record Walked (list : List ℕ) (chains : Table ℕ) (funcs : List CFunc) : Type 0 where
      pub final : List ℕ
      pub knows : Knows final (after K chains funcs) (length units)
      pub more : (j : ℕ) → slice_index list j ≤ slice_index final j
      pub under : (m : ℕ) → ((j : ℕ) → Needs j → slice_index final j ≤ m) → greatest (chains_after K chains funcs) ≤ m

    abbrev Goal : List ℕ → Table ℕ → Sizes → ProgramParts → Type 0
    Goal list chains T parts = sizes_after T (parts.structs ++ last) ≡ K → Walked list chains parts.funcs

    -- one more function
    then_walked : (list : List ℕ) (chains : Table ℕ) (k r : ℕ) (f : CFunc) (funcs : List CFunc) → Needs k → length list ≡ k →
        chain_cells K chains f ≤ r → Walked (list ++ r ∷ []) (with_entry chains f.name (chain_cells K chains f)) funcs →
        Walked list chains (f ∷ funcs)
    then_walked list chains k r f funcs need long le later = record {
      final = later.final;
      knows = later.knows;
      more = λ j. let one = index_more list r j in let two = later.more j in omega (arith, one, two);
      under = λ m all.
          let is : slice_index (list ++ r ∷ []) k ≡ r = ap (slice_index (list ++ r ∷ [])) (sym long) ∙ index_last list r in
          let up : slice_index (list ++ r ∷ []) k ≤ slice_index later.final k = later.more k in
          let top : slice_index later.final k ≤ m = all k need in
          greatest_both (chain_cells K chains f) (chains_after K (with_entry chains f.name (chain_cells K chains f)) funcs) m
          (omega (arith, le, is, up, top)) (later.under m all);
    }

    skip_walked : (list : List ℕ) (chains : Table ℕ) (r : ℕ) (funcs : List CFunc) → Walked (list ++ r ∷ []) chains funcs → Walked list chains funcs
    skip_walked list chains r funcs later = record {
      final = later.final;
      knows = later.knows;
      more = λ j. let one = index_more list r j in let two = later.more j in omega (arith, one, two);
      under = later.under;
    }

    -- ---- tables of sizes

    regrouped : (T : Sizes) (own rest : List CStruct) → sizes_after T ((own ++ rest) ++ last) ≡ K → sizes_after (sizes_after T own) (rest ++ last) ≡ K
    regrouped T own rest is = sym (sizes_append own (rest ++ last) T) ∙ sym (ap (sizes_after T) (append_assoc own rest last)) ∙ is

    bound_by : (T : Sizes) (list : List CStruct) (name : Text) (members : List CMember) → T name ≡ None → sizes_after T list ≡ K →
        ((s : CStruct) → Contains list s → s.name ≡ name → s.members ≡ members) →
        entry_or 0 K name ≤ total (map (size_of_member K) members)
    bound_by T list name members none is each =
        subst (λ known. entry_or 0 known name ≤ total (map (size_of_member K) members)) is
        (sizes_under list T name (total (map (size_of_member K) members))
        (let nothing : entry_or 0 T name ≡ 0 = ap (λ o. unwrap_or o 0) none in omega (arith, nothing))
        (λ s has same.
        subst (λ known. size_of_struct known s ≤ total (map (size_of_member K) members)) (sym is)
        (subst (λ list. total (map (size_of_member K) list) ≤ total (map (size_of_member K) members)) (sym (each s has same)) (omega arith))))

    -- the structs of an activity stand in front of those of others
    own_frame : (T : Sizes) (a : Activity) (rest : List CStruct) → T (frame_name a.unit.name) ≡ None → Other a.unit.name (names_of rest) →
        sizes_after T (((frame_struct a ∷ remembered_struct a) ++ rest) ++ last) ≡ K →
        entry_or 0 K (frame_name a.unit.name) ≤ total (map (size_of_member K) (frame_struct a).members)
    own_frame T a rest none other is =
        bound_by T (((frame_struct a ∷ remembered_struct a) ++ rest) ++ last) (frame_name a.unit.name) (frame_struct a).members none is
        (λ s has same.
        ⊎_elim
        (λ front. ⊎_elim
        (λ own. ⊎_elim (λ first. ap (λ (s : CStruct). s.members) (sym first))
        (λ held. absurd (unlike (memory_name a.unit.name) (frame_name a.unit.name) 109 102 (memory_byte a.unit.name) (frame_byte a.unit.name)
        (λ e. absurd (omega (arith, e))) (sym (struct_named a.unit.name (remembered a) s held) ∙ same)))
        (first_or_further (frame_struct a) (remembered_struct a) s own))
        (λ later. absurd (none_of rest s (frame_name a.unit.name) other.frame later same))
        (Contains-append_cases (frame_struct a ∷ remembered_struct a) rest s front))
        (λ end. absurd (unlike s.name (frame_name a.unit.name) 98 102 (last_named s end) (frame_byte a.unit.name) (λ e. absurd (omega (arith, e))) same))
        (Contains-append_cases ((frame_struct a ∷ remembered_struct a) ++ rest) last s has))

    own_memory : (T : Sizes) (a : Activity) (rest : List CStruct) → T (memory_name a.unit.name) ≡ None → Other a.unit.name (names_of rest) →
        sizes_after T (((frame_struct a ∷ remembered_struct a) ++ rest) ++ last) ≡ K →
        entry_or 0 K (memory_name a.unit.name) ≤ total (map (size_of_member K) (remembered a))
    own_memory T a rest none other is =
        bound_by T (((frame_struct a ∷ remembered_struct a) ++ rest) ++ last) (memory_name a.unit.name) (remembered a) none is
        (λ s has same.
        ⊎_elim
        (λ front. ⊎_elim
        (λ own. ⊎_elim
        (λ first. absurd (unlike (frame_name a.unit.name) (memory_name a.unit.name) 102 109 (frame_byte a.unit.name) (memory_byte a.unit.name)
        (λ e. absurd (omega (arith, e))) (ap (λ (s : CStruct). s.name) first ∙ same)))
        (λ held. struct_members a.unit.name (remembered a) s held) (first_or_further (frame_struct a) (remembered_struct a) s own))
        (λ later. absurd (none_of rest s (memory_name a.unit.name) other.memory later same))
        (Contains-append_cases (frame_struct a ∷ remembered_struct a) rest s front))
        (λ end. absurd (unlike s.name (memory_name a.unit.name) 98 109 (last_named s end) (memory_byte a.unit.name) (λ e. absurd (omega (arith, e))) same))
        (Contains-append_cases ((frame_struct a ∷ remembered_struct a) ++ rest) last s has))

    -- structs of one unit join: those of later units have no entry still
    still_fresh : (T : Sizes) (k : ℕ) (unit : UnitDef) (own : List CStruct) → slice_get units k ≡ Some unit →
        ((s : CStruct) → Contains own s → (s.name ≡ frame_name unit.name) ⊎ (s.name ≡ memory_name unit.name)) → Fresh T k →
        Fresh (sizes_after T own) (suc k)
    still_fresh T k unit own there named fresh j other above found =
        let old = fresh j other (omega (arith, above)) found in (
          sizes_none own T (frame_name other.name) old.0 (λ s has same.
              ⊎_elim (λ is. apart (ap (drop 2) (sym is ∙ same)))
              (λ is. unlike (memory_name unit.name) (frame_name other.name) 109 102 (memory_byte unit.name) (frame_byte other.name)
              (λ e. absurd (omega (arith, e))) (sym is ∙ same)) (named s has)),
          sizes_none own T (memory_name other.name) old.1 (λ s has same.
              ⊎_elim
              (λ is. unlike (frame_name unit.name) (memory_name other.name) 102 109 (frame_byte unit.name) (memory_byte other.name)
              (λ e. absurd (omega (arith, e))) (sym is ∙ same))
              (λ is. apart (ap (drop 2) (sym is ∙ same))) (named s has)),
        )
      where
        apart : unit.name ≡ other.name → ⊥
        apart text = let place : k ≡ j = one_place units k j unit other differ there found text in omega (arith, place, above)

    -- ---- one unit

    module _ (k : ℕ) (earlier : List UnitDef) (unit : UnitDef) (rest : List UnitDef) (needed : List Bool) (list : List ℕ) (chains : Table ℕ) (T : Sizes)
        (remember : List Bool) (there : slice_get units k ≡ Some unit) (front : take k units ≡ earlier)
        (alone : not (is_among unit.name (names rest)) ≡ true) where
      abbrev here : Bool → List UnitDef → List InMachine → ProgramParts
      here active earlier' machine = if active then parts_of_next structs earlier' remember unit machine else parts_of_function structs earlier' unit

      -- what is written of the unit and of those behind it
      abbrev All : Bool → Bool → List UnitDef → List InMachine → ProgramParts
      All active test earlier' machine =
          parts_then (where_needed test (here active earlier' machine))
          (parts_from structs (earlier ++ unit ∷ []) (remember ++ (here active earlier' machine).remember) rest needed
          (if active then drop 1 machine else machine))

      abbrev Behind : Type 0
      Behind = (remember' : List Bool) (machine : List InMachine) (list' : List ℕ) (chains' : Table ℕ) (T' : Sizes) →
          EachTwo IsActivityOf (activities rest) machine → Knows list' chains' (suc k) →
          Fresh T' (suc k) → Goal list' chains' T' (parts_from structs (earlier ++ unit ∷ []) remember' rest needed machine)

      step_by : (active test : Bool) (machine : List InMachine) → is_activity unit.kind ≡ active →
          slice_get (needed_units units entry) k ≡ Some test →
          EachTwo IsActivityOf (cond active (unit ∷ activities rest) (activities rest)) machine →
          Knows list chains k → Fresh T k → Behind →
          Goal list chains T (All active test (take k units) machine)
      step_by true test [] act need own st fresh behind is = absurd own
      step_by true true (one ∷ machine) act need own st fresh behind is =
          let a : Activity = activity_of structs (take k units) remember unit one in
          let remember' : List Bool = remember ++ remembers_any a ∷ [] in
          let later : ProgramParts = parts_from structs (earlier ++ unit ∷ []) remember' rest needed machine in
          let other = none_among structs unit.name (earlier ++ unit ∷ []) remember' rest needed machine alone in
          let at = fresh k unit (omega arith) there in
          let frame = own_frame T a later.structs at.0 other is in
          let memory = own_memory T a later.structs at.1 other is in
          let runs = callees k unit one remember there act need own.0 in
          let r : ℕ = reached structs units entry keeps differ K sizes cells follow grow few before down list chains k unit remember one there act st
          (counters unit one own.0) own.0.order.all runs frame memory in
          let less = chain_less structs units entry keeps differ K sizes cells follow grow few before down list chains k unit remember one there act st
          (counters unit one own.0) own.0.order.all runs frame memory in
          let next = activity_step structs units entry keeps differ K sizes cells follow grow few before down list chains k unit remember one there act
          st (counters unit one own.0) own.0.order.all runs frame memory in
          then_walked list chains k r _ later.funcs need st.long less
          (behind remember' machine (list ++ r ∷ []) _ (sizes_after T (frame_struct a ∷ remembered_struct a)) own.1 next
          (still_fresh T k unit (frame_struct a ∷ remembered_struct a) there
          (λ s has. ⊎_elim (λ first. inl (ap (λ (s : CStruct). s.name) (sym first))) (λ held. inr (struct_named unit.name (remembered a) s held))
          (first_or_further (frame_struct a) (remembered_struct a) s has)) fresh)
          (regrouped T (frame_struct a ∷ remembered_struct a) later.structs is))
      step_by true false (one ∷ machine) act need own st fresh behind is =
          skip_walked list chains (cells_at structs units k) _
          (behind _ machine (list ++ cells_at structs units k ∷ []) chains T own.1
          (none_step structs units entry keeps differ K sizes cells follow grow few before down list chains k unit there need st)
          (λ j other above. fresh j other (omega (arith, above))) is)
      step_by false true machine act need own st fresh behind is =
          let members : List CMember = members_of structs (take k units) unit in
          let less = function_less structs units entry keeps differ K sizes cells follow grow few before down list chains k unit there act st in
          let next = function_step structs units entry keeps differ K sizes cells follow grow few before down list chains k unit there act st in
          then_walked list chains k (cells_at structs units k) _ _ need st.long less
          (behind _ machine (list ++ cells_at structs units k ∷ []) _ (sizes_after T (memory_struct structs (take k units) unit)) own next
          (still_fresh T k unit (memory_struct structs (take k units) unit) there (λ s has. inr (struct_named unit.name members s has)) fresh)
          (regrouped T (memory_struct structs (take k units) unit) _ is))
      step_by false false machine act need own st fresh behind is =
          skip_walked list chains (cells_at structs units k) _
          (behind _ machine (list ++ cells_at structs units k ∷ []) chains T own
          (none_step structs units entry keeps differ K sizes cells follow grow few before down list chains k unit there need st)
          (λ j other above. fresh j other (omega (arith, above))) is)

      step : (test : Bool) (machine : List InMachine) → slice_get (needed_units units entry) k ≡ Some test →
          EachTwo IsActivityOf (activities (unit ∷ rest)) machine →
          Knows list chains k → Fresh T k → Behind → Goal list chains T (All (is_activity unit.kind) test earlier machine)
      step test machine need own st fresh behind =
          subst (λ earlier'. Goal list chains T (All (is_activity unit.kind) test earlier' machine)) front
          (step_by (is_activity unit.kind) test machine refl need own st fresh behind)

    length_one : (earlier : List UnitDef) (unit : UnitDef) → length (earlier ++ unit ∷ []) ≡ suc (length earlier)
    length_one earlier unit = let all = length-append earlier (unit ∷ []) in omega arith

    -- these tests tell of the units behind so many which are needed
    abbrev pub Told : ℕ → List Bool → List UnitDef → Type 0
    Told n needed rest = ((i : ℕ) → slice_get needed i ≡ slice_get (needed_units units entry) (n + i)) × (length needed ≡ length rest)

    pub walk : (earlier : List UnitDef) (remember : List Bool) (rest : List UnitDef) (needed : List Bool) (machine : List InMachine)
        (list : List ℕ) (chains : Table ℕ) (T : Sizes) → earlier ++ rest ≡ units → Told (length earlier) needed rest →
        EachTwo IsActivityOf (activities rest) machine →
        Knows list chains (length earlier) → Fresh T (length earlier) →
        Goal list chains T (parts_from structs earlier remember rest needed machine)
    walk earlier remember [] needed machine list chains T whole told own st fresh is = record {
      final = list;
      knows = subst (λ units'. Knows list chains (length units')) (sym (append-nil earlier) ∙ whole) st;
      more = λ j. omega arith;
      under = λ m all. omega arith;
    }
    walk earlier remember (unit ∷ rest) [] machine list chains T whole told own st fresh is =
        absurd (let no : 0 ≡ suc (length rest) = told.1 in omega (arith, no))
    walk earlier remember (unit ∷ rest) (test ∷ needed) machine list chains T whole told own st fresh is =
        let k : ℕ = length earlier in
        let there : slice_get units k ≡ Some unit = ap (λ units. slice_get units (length earlier)) (sym whole) ∙ get_seam earlier unit rest in
        let front : take k units ≡ earlier = ap (take (length earlier)) (sym whole) ∙ take_front earlier (unit ∷ rest) in
        let none : k + 0 ≡ k = omega arith in
        let alone : not (is_among unit.name (names rest)) ≡ true =
        and_first (not (is_among unit.name (names rest))) (are_distinct (names rest))
        (distinct_behind (names earlier) (names (unit ∷ rest)) (ap are_distinct (sym (map-append (λ (u : UnitDef). u.name) earlier (unit ∷ rest)))
        ∙ ap (λ units. are_distinct (names units)) whole ∙ differ)) in
        step k earlier unit rest needed list chains T remember there front alone test machine
        (sym (told.0 0 ∙ ap (slice_get (needed_units units entry)) none)) own st fresh
        (λ remember' machine list' chains' T' own st fresh.
        walk (earlier ++ unit ∷ []) remember' rest needed machine list' chains' T' (append_assoc earlier (unit ∷ []) rest ∙ whole) (
          (λ i. told.0 (suc i) ∙ ap (slice_get (needed_units units entry)) (shifted earlier unit i)),
          (let all : suc (length needed) ≡ suc (length rest) = told.1 in omega (arith, all)),
        ) own
        (subst (λ n. Knows list' chains' n) (sym (length_one earlier unit)) st)
        (subst (λ n. Fresh T' n) (sym (length_one earlier unit)) fresh)) is
      where
        shifted : (earlier : List UnitDef) (unit : UnitDef) (i : ℕ) → length earlier + suc i ≡ length (earlier ++ unit ∷ []) + i
        shifted earlier unit i = let one = length_one earlier unit in omega (arith, one)
