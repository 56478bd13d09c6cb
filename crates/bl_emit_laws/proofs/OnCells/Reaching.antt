-- A number for each unit: enough for the chain of calls that its C function heads, no less than those of what it calls and runs, and no more than
-- rule Cells counts.
use Rattle.std.proofs.Common.{◌≡◌, ⊎_elim, ℕ, suc, ◌+◌, ◌<◌, ◌≤◌, arith, Bool, true, false, nat_eq, List, [], ◌∷◌, ◌++◌, Contains, map, take}
use Rattle.std.proofs.Common.{length, Option, Some, None, refl, sym, ap, ◌∙◌, subst}
use Rattle.std.proofs.lemmas.List.{length-append}
use Rattle.std.proofs.lemmas.Option.{same_Some}
use Rattle.std.proofs.lemmas.Slice.Eq.{bytes_eq-Decides}
use Rattle.std.specs.List.{list_any}
use Rattle.std.specs.Prelude.{bytes_eq, is_some, slice_get, slice_index, unwrap_or}
use Rattle.bl_tree.proofs.Basics.{below_or_last}
use Rattle.bl_tree.specs.declared.tree.StructDef.{StructDef}
use Rattle.bl_tree.specs.declared.tree.Unit.{Unit as UnitDef}
use Rattle.bl_tree.specs.Program.{IsWellTyped}
use Rattle.bl_tree.specs.Reduce.{greatest, total}
use Rattle.bl_tree.specs.Typing.{is_activity}
use Rattle.bl_tree.specs.Words.{are_distinct}
use Rattle.bl_limits_measures.specs.Runs.{activities_by_place}
use Rattle.bl_limits_measures.specs.Units.{cells_at}
use Rattle.bl_machine.specs.declared.machine.Activity.{Activity as InMachine}
use Rattle.bl_machine.specs.Layout.{width_in}
use Rattle.bl_graph_nodes.specs.Plain.{plain_body}
use Rattle.bl_ctext_semantics.specs.Calls.{calls_in_block, most}
use Rattle.bl_ctext_semantics.specs.Sizes.{Sizes, chain_cells, size_of_member}
use Rattle.bl_ctext_semantics.specs.Tables.{Table, entry_or, with_entry}
use Rattle.bl_emit_acts.specs.Acts.{name_of_callee}
use Rattle.bl_emit_acts.specs.Types.{unit_name}
use Rattle.bl_emit_functions.specs.Functions.{function_code, memory_name}
use Rattle.bl_emit_functions_laws_wellformed.specs.Cells.{CellsFollow, CellsGrow, CellsKnown, SizesKnown}
use Rattle.bl_emit_functions_laws_wellformed.proofs.OnFiles.Growing.{names, one_place}
use Rattle.bl_emit_spec.specs.Activities.{Activity, activity_function, frame_struct, remembered}
use Rattle.bl_emit_spec.specs.Names.{frame_name}
use Rattle.bl_emit_spec.specs.Programs.{activity_of, needed_units, needs_of}
use Rattle.bl_emit_spec_laws_wellformed.specs.Chains.{ActivitiesCallFew}
use Rattle.bl_emit_spec_laws_wellformed.specs.Numbers.{EachStandsOnce}
use Rattle.bl_emit_spec_laws_wellformed_bodies.specs.Cells.{ActivityCells, Sized, cells_reached, ports_of}
use Rattle.bl_emit_spec_laws_wellformed_bodies.proofs.OnStructs.Lists.{get_taken}
use Rattle.bl_emit_laws.proofs.OnCells.Numbers.{index_front, index_last, index_more, index_under}
use Rattle.bl_emit_functions_laws_wellformed.proofs.OnFiles.Growing.{at_most}
use Rattle.bl_emit_spec_laws_wellformed.proofs.OnNeeded.Whole.{among_greatest}

-- ---- sums

-- what holds of an activity's cells in place of those of its structs
less_by : (f m r rest frame memory most : ℕ) → f ≤ frame → m ≤ memory → frame + memory + r + rest ≤ most → f + m + r + rest ≤ most
less_by f m r rest frame memory most one two all = omega (arith, one, two, all)

outer_by : (f m r ports rest frame memory most : ℕ) → f ≤ frame → m ≤ memory → frame + memory + r + ports + rest ≤ most →
    f + m + r + ports + rest ≤ most
outer_by f m r ports rest frame memory most one two all = omega (arith, one, two, all)

reach_less : (f m r n most : ℕ) → f + m + r + n ≤ most → r ≤ most
reach_less f m r n most all = omega (arith, all)

module _ (structs : List StructDef) (units : List UnitDef) (entry : ℕ) (keeps : IsWellTyped structs units entry) (differ : are_distinct (names units) ≡ true)
    (K : Sizes) (sizes : SizesKnown structs units K) (cells : ActivityCells structs units entry) (follow : CellsFollow structs units entry)
    (grow : CellsGrow structs units entry) (few : ActivitiesCallFew)
    (before : (k j : ℕ) (unit : UnitDef) → slice_get units k ≡ Some unit → list_any (nat_eq j) (needs_of unit) ≡ true → j < k)
    (down : (k j : ℕ) (unit : UnitDef) → slice_get units k ≡ Some unit → list_any (nat_eq j) (needs_of unit) ≡ true →
    cells_at structs units j ≤ cells_at structs units k)
  where
    abbrev pub Needed : ℕ → Type 0
    Needed k = slice_get (needed_units units entry) k ≡ Some true

    -- what an activity rests at and remembers, and so many cells more, are less than it has
    abbrev pub Fits : ℕ → ℕ → UnitDef → Type 0
    Fits r u unit =
        (entry_or 0 K (frame_name unit.name) + entry_or 0 K (memory_name unit.name) + r + 4 ≤ cells_at structs units u)
        × (is_some unit.result ≡ false →
        entry_or 0 K (frame_name unit.name) + entry_or 0 K (memory_name unit.name) + r + ports_of structs unit + 6 ≤ cells_at structs units u)

    -- the numbers of the first units, and the chains of their C functions
    pub record Reached (list : List ℕ) (chains : Table ℕ) (k : ℕ) : Type 0 where
      pub long : length list ≡ k
      pub known : CellsKnown structs units chains
      pub low : (j : ℕ) → slice_index list j ≤ cells_at structs units j
      pub bound : (f : ℕ) (unit : UnitDef) → slice_get units f ≡ Some unit → entry_or 0 chains (unit_name unit.name) ≤ slice_index list f
      pub fits : (u : ℕ) (unit : UnitDef) → u < k → slice_get units u ≡ Some unit → Needed u → is_activity unit.kind ≡ true →
          Fits (slice_index list u) u unit
      pub over : (j i : ℕ) (unit : UnitDef) → j < k → slice_get units j ≡ Some unit → list_any (nat_eq i) (needs_of unit) ≡ true →
          slice_index list i ≤ slice_index list j

    at_end : (list : List ℕ) (r k u : ℕ) → length list ≡ k → u ≡ k → slice_index (list ++ r ∷ []) u ≡ r
    at_end list r k u long same = ap (slice_index (list ++ r ∷ [])) (same ∙ sym long) ∙ index_last list r

    in_front : (list : List ℕ) (r k u : ℕ) → length list ≡ k → u < k → slice_index (list ++ r ∷ []) u ≡ slice_index list u
    in_front list r k u long less = index_front list r u (omega (arith, long, less))

    -- one more
    add : (list : List ℕ) (chains : Table ℕ) (k : ℕ) (unit : UnitDef) (r : ℕ) (chains' : Table ℕ) → slice_get units k ≡ Some unit →
        Reached list chains k → CellsKnown structs units chains' →
        ((f : ℕ) (other : UnitDef) → slice_get units f ≡ Some other →
        entry_or 0 chains' (unit_name other.name) ≤ slice_index (list ++ r ∷ []) f) →
        r ≤ cells_at structs units k → (Needed k → is_activity unit.kind ≡ true → Fits r k unit) →
        ((i : ℕ) → list_any (nat_eq i) (needs_of unit) ≡ true → slice_index list i ≤ r) → Reached (list ++ r ∷ []) chains' (suc k)
    add list chains k unit r chains' there st known bound le new above = record {
      long = (let all = length-append list (r ∷ []) in let own : length list ≡ k = st.long in omega (arith, all, own));
      known = known;
      low = λ j. index_under list r j (cells_at structs units j) (st.low j)
          (λ is. subst (λ j. r ≤ cells_at structs units j) (sym (is ∙ st.long)) le);
      bound = bound;
      fits = λ u other below at need active.
          ⊎_elim (λ less. subst (λ r. Fits r u other) (sym (in_front list r k u st.long less)) (st.fits u other less at need active))
          (λ same. let is : unit ≡ other = same_Some unit other (sym there ∙ ap (slice_get units) (sym same) ∙ at) in
          let own : Fits r k unit =
          new (ap (slice_get (needed_units units entry)) (sym same) ∙ need) (ap (λ (u : UnitDef). is_activity u.kind) is ∙ active) in
          subst (λ n. Fits n u other) (sym (at_end list r k u st.long same))
          (subst (λ v. Fits r v other) (sym same) (subst (Fits r k) is own)))
          (below_or_last u k below);
      over = λ j i other below at among.
          let lower : i < j = before j i other at among in
          ⊎_elim
          (λ less. let first : slice_index (list ++ r ∷ []) i ≡ slice_index list i = in_front list r k i st.long (omega (arith, lower, less)) in
          let second : slice_index (list ++ r ∷ []) j ≡ slice_index list j = in_front list r k j st.long less in
          let old : slice_index list i ≤ slice_index list j = st.over j i other less at among in omega (arith, first, second, old))
          (λ same. let is : unit ≡ other = same_Some unit other (sym there ∙ ap (slice_get units) (sym same) ∙ at) in
          let first : slice_index (list ++ r ∷ []) i ≡ slice_index list i = in_front list r k i st.long (omega (arith, lower, same)) in
          let second : slice_index (list ++ r ∷ []) j ≡ r = at_end list r k j st.long same in
          let own : slice_index list i ≤ r = above i (ap (λ (u : UnitDef). list_any (nat_eq i) (needs_of u)) is ∙ among) in
          omega (arith, first, second, own))
          (below_or_last j k below);
    }

    -- a C function joins
    joined_bound : (list : List ℕ) (chains : Table ℕ) (k : ℕ) (unit : UnitDef) (r n : ℕ) → slice_get units k ≡ Some unit →
        Reached list chains k → n ≤ r → (f : ℕ) (other : UnitDef) → slice_get units f ≡ Some other →
        entry_or 0 (with_entry chains (unit_name unit.name) n) (unit_name other.name) ≤ slice_index (list ++ r ∷ []) f
    joined_bound list chains k unit r n there st le f other found =
        let old : entry_or 0 chains (unit_name other.name) ≤ slice_index list f = st.bound f other found in
        let more : slice_index list f ≤ slice_index (list ++ r ∷ []) f = index_more list r f in
        at_most (chains (unit_name other.name)) (bytes_eq (unit_name unit.name) (unit_name other.name)) n (slice_index (list ++ r ∷ []) f)
        (omega (arith, old, more))
        (λ same. let text : unit.name ≡ other.name = (bytes_eq-Decides unit.name other.name).0 same in
        let place : k ≡ f = one_place units k f unit other differ there found text in
        let is : slice_index (list ++ r ∷ []) f ≡ r = at_end list r k f st.long (sym place) in omega (arith, le, is))

    -- a unit that isn't needed
    pub none_step : (list : List ℕ) (chains : Table ℕ) (k : ℕ) (unit : UnitDef) → slice_get units k ≡ Some unit →
        slice_get (needed_units units entry) k ≡ Some false → Reached list chains k → Reached (list ++ cells_at structs units k ∷ []) chains (suc k)
    none_step list chains k unit there not_needed st =
        add list chains k unit (cells_at structs units k) chains there st st.known
        (λ f other found. let old : entry_or 0 chains (unit_name other.name) ≤ slice_index list f = st.bound f other found in
        let more : slice_index list f ≤ slice_index (list ++ cells_at structs units k ∷ []) f = index_more list (cells_at structs units k) f in
        omega (arith, old, more))
        (omega arith) (λ need active. absurd (never need))
        (λ i among. let one : slice_index list i ≤ cells_at structs units i = st.low i in
        let two : cells_at structs units i ≤ cells_at structs units k = down k i unit there among in omega (arith, one, two))
      where
        never : Needed k → ⊥
        never need = let no : false ≡ true = same_Some false true (sym not_needed ∙ need) in absurd (cc)

    abbrev pub function_chain : Table ℕ → ℕ → UnitDef → ℕ
    function_chain chains k unit = chain_cells K chains (function_code structs (take k units) unit)

    pub function_less : (list : List ℕ) (chains : Table ℕ) (k : ℕ) (unit : UnitDef) → slice_get units k ≡ Some unit →
        is_activity unit.kind ≡ false → Reached list chains k → function_chain chains k unit ≤ cells_at structs units k
    function_less list chains k unit there function st = follow k unit K chains keeps there function sizes st.known

    pub function_step : (list : List ℕ) (chains : Table ℕ) (k : ℕ) (unit : UnitDef) → slice_get units k ≡ Some unit →
        is_activity unit.kind ≡ false → Reached list chains k →
        Reached (list ++ cells_at structs units k ∷ []) (with_entry chains (unit_name unit.name) (function_chain chains k unit)) (suc k)
    function_step list chains k unit there function st =
        let n : ℕ = function_chain chains k unit in
        let le : n ≤ cells_at structs units k = function_less list chains k unit there function st in
        add list chains k unit (cells_at structs units k) (with_entry chains (unit_name unit.name) n) there st
        (grow k unit n chains keeps there st.known le) (joined_bound list chains k unit (cells_at structs units k) n there st le)
        (omega arith) (λ need active. absurd (no_both (sym function ∙ active)))
        (λ i among. let one : slice_index list i ≤ cells_at structs units i = st.low i in
        let two : cells_at structs units i ≤ cells_at structs units k = down k i unit there among in omega (arith, one, two))
      where
        no_both : false ≡ true → ⊥
        no_both h = absurd (cc)

    -- ---- an activity

    module _ (list : List ℕ) (chains : Table ℕ) (k : ℕ) (unit : UnitDef) (remember : List Bool) (one : InMachine)
        (there : slice_get units k ≡ Some unit) (active : is_activity unit.kind ≡ true) (st : Reached list chains k)
        (counters : length (activity_of structs (take k units) remember unit one).sizes ≤ width_in (plain_body unit.body))
        (once : EachStandsOnce (activity_of structs (take k units) remember unit one))
        (callees : (u : ℕ) (callee : UnitDef) → Contains (activities_by_place unit) u → slice_get units u ≡ Some callee →
        (u < k) × (is_activity callee.kind ≡ true) × Needed u)
        (frame : entry_or 0 K (frame_name unit.name)
        ≤ total (map (size_of_member K) (frame_struct (activity_of structs (take k units) remember unit one)).members))
        (memory : entry_or 0 K (memory_name unit.name)
        ≤ total (map (size_of_member K) (remembered (activity_of structs (take k units) remember unit one))))
      where
        abbrev a : Activity
        a = activity_of structs (take k units) remember unit one

        sized : Sized structs units k unit a K (slice_index list)
        sized = record {
          of_unit = record { there = there; is = refl; before = refl };
          structures = refl;
          active = active;
          counters = counters;
          once = once;
          sizes = sizes;
          calls = λ f has. st.low f;
          runs = λ u callee has at. let c = callees u callee has at in (st.fits u callee c.0 at c.2 c.1).0;
        }

        abbrev pub reached : ℕ
        reached = cells_reached K (slice_index list) a

        abbrev pub activity_chain : ℕ
        activity_chain = chain_cells K chains (activity_function a)

        own_fits : Fits reached k unit
        own_fits = (
          less_by (entry_or 0 K (frame_name unit.name)) (entry_or 0 K (memory_name unit.name)) reached 4
              (total (map (size_of_member K) (frame_struct a).members)) (total (map (size_of_member K) (remembered a))) (cells_at structs units k)
              frame memory (cells.less k unit a K (slice_index list) keeps sized),
          λ none. outer_by (entry_or 0 K (frame_name unit.name)) (entry_or 0 K (memory_name unit.name)) reached (ports_of structs unit) 6
              (total (map (size_of_member K) (frame_struct a).members)) (total (map (size_of_member K) (remembered a))) (cells_at structs units k)
              frame memory (cells.outermost k unit a K (slice_index list) keeps sized none),
        )

        callee_low : (f : ℕ) (o : Option UnitDef) → slice_get (take k units) f ≡ o → entry_or 0 chains (name_of_callee o) ≤ slice_index list f
        callee_low f None is = let none : entry_or 0 chains (unit_name []) ≡ 0 = ap (λ o. unwrap_or o 0) st.known.unnamed in omega (arith, none)
        callee_low f (Some callee) is = st.bound f callee (get_taken k units f callee is).0

        pub chain_less : activity_chain ≤ reached
        chain_less =
            let called : most chains (calls_in_block (activity_function a).body) ≤ greatest (map (slice_index list) (needs_of unit)) =
            few a (entry_or 0 chains) (slice_index list) (greatest (map (slice_index list) (needs_of unit)))
            (λ word s. ap (λ o. unwrap_or o 0) (st.known.prelude word s)) (λ f. callee_low f (slice_get (take k units) f) refl) (omega arith) in
            omega (arith, called)

        reached_low : reached ≤ cells_at structs units k
        reached_low =
            reach_less (entry_or 0 K (frame_name unit.name)) (entry_or 0 K (memory_name unit.name)) reached 4 (cells_at structs units k) own_fits.0

        pub activity_step : Reached (list ++ reached ∷ []) (with_entry chains (unit_name unit.name) activity_chain) (suc k)
        activity_step =
            let low : activity_chain ≤ cells_at structs units k = (let one = chain_less in let two = reached_low in omega (arith, one, two)) in
            add list chains k unit reached (with_entry chains (unit_name unit.name) activity_chain) there st
            (grow k unit activity_chain chains keeps there st.known low)
            (joined_bound list chains k unit reached activity_chain there st chain_less) reached_low (λ need active. own_fits)
            (λ i among. let needs : slice_index list i ≤ greatest (map (slice_index list) (needs_of unit)) =
            among_greatest (slice_index list) (needs_of unit) i among in omega (arith, needs))
