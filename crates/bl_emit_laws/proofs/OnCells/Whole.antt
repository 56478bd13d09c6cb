-- The cells of the whole file.
use Rattle.std.proofs.Common.{◌≡◌, ◌⊎◌, inl, inr, ⊎_elim, ℕ, suc, ◌+◌, ◌<◌, ◌≤◌, arith, Bool, true, false, ◌&&◌, ◌||◌, nat_eq, List, [], ◌∷◌}
use Rattle.std.proofs.Common.{◌++◌, Contains, map, take, length, Option, Some, None, refl, sym, ap, ◌∙◌, subst, codes}
use Rattle.std.proofs.lemmas.Bool.{eqb-true}
use Rattle.std.proofs.lemmas.List.Elements.{All-contains, Contains-append_cases}
use Rattle.std.proofs.lemmas.Option.{same_Some}
use Rattle.std.specs.List.{list_all, list_any}
use Rattle.std.specs.Prelude.{bytes_eq, is_none, is_some, slice_get, slice_index, unwrap_or}
use Rattle.bl_tree.proofs.Basics.{and_first, and_second, contains_none, first_or_further, within_at}
use Rattle.bl_tree.specs.declared.c.CFunc.{CFunc}
use Rattle.bl_tree.specs.declared.c.CStruct.{CStruct}
use Rattle.bl_tree.specs.declared.program.Program.{Program}
use Rattle.bl_tree.specs.declared.text.Text.{Text}
use Rattle.bl_tree.specs.declared.tree.StructDef.{StructDef}
use Rattle.bl_tree.specs.declared.tree.Unit.{Unit as UnitDef}
use Rattle.bl_tree.specs.declared.tree.Var.{Var}
use Rattle.bl_tree.specs.Program.{IsWellTyped, is_entry, parameters_of}
use Rattle.bl_tree.specs.Reduce.{greatest, total}
use Rattle.bl_tree.specs.Types.{scalar_in, type_stands}
use Rattle.bl_tree.specs.Typing.{inputs_of, is_activity, outputs_of}
use Rattle.bl_tree.specs.Words.{are_distinct}
use Rattle.bl_limits.specs.Rules.{Passes as KeepsLimits}
use Rattle.bl_graph_nodes.specs.Nodes.{nodes_in}
use Rattle.bl_graph_nodes.specs.Plain.{Block, plain_body}
use Rattle.bl_machine.specs.declared.machine.Activity.{Activity as InMachine}
use Rattle.bl_machine.specs.Layout.{width_in}
use Rattle.bl_machine.specs.Machines.{AreActivitiesOf, IsActivityOf}
use Rattle.bl_machine.specs.Uses.{Slots}
use Rattle.bl_limits_measures.specs.Calls.{calls_of}
use Rattle.bl_limits_measures.specs.Laws.{CellsAdd}
use Rattle.bl_limits_measures.specs.Runs.{activities_by_place, activities_run}
use Rattle.bl_limits_measures.specs.Units.{cells_at}
use Rattle.bl_limits_measures_laws.specs.Laws.{UnitsUseEarlierOnes}
use Rattle.bl_limits_measures.specs.Types.{size}
use Rattle.bl_machine_pass.specs.Numbered.{sizes_of}
use Rattle.bl_machine_pass.specs.Transitions.{Transition, rules}
use Rattle.bl_ctext_semantics.specs.Parts.{parts_from as file_from}
use Rattle.bl_ctext_semantics.specs.Sizes.{Sizes, cells_needed, chain_cells, chains_after, deepest_chain, size_of_struct, sizes_after}
use Rattle.bl_ctext_semantics.specs.Tables.{Table, entry_or, no_entries, with_entry}
use Rattle.bl_emit_acts.specs.Types.{type_name, unit_name}
use Rattle.bl_emit_acts_laws_wellformed.proofs.OnFormed.Units.{vars_stand}
use Rattle.bl_emit_structs.specs.Structs.{each_once, structs_for}
use Rattle.bl_emit_structs_laws_wellformed.specs.Formed.{NestsAtMost}
use Rattle.bl_emit_structs_laws_wellformed.proofs.OnFormed.Types.{StructOf, all_are}
use Rattle.bl_emit_functions.specs.Functions.{memory_name}
use Rattle.bl_emit_functions_laws_wellformed.specs.Cells.{CellsFollow, CellsGrow, NamesNone, SizesKnown, SizesStand}
use Rattle.bl_emit_functions_laws_wellformed.proofs.OnFiles.Growing.{distinct_behind, names}
use Rattle.bl_emit_spec.specs.Activities.{Activity, RunAt, runs_in_body}
use Rattle.bl_emit_spec.specs.Names.{frame_name}
use Rattle.bl_emit_spec.proofs.LentLemmas.{lent_all, lent_mapped, lent_parameters}
use Rattle.bl_emit_spec.specs.Lent.{lent_unit}
use Rattle.bl_emit_spec.specs.Programs.{ProgramParts, activity_of, init_function, interface_structs}
use Rattle.bl_emit_spec.specs.Programs.{needed_units, needs_of, port_struct, state_struct, tick_function}
use Rattle.bl_emit_spec_laws_wellformed_bodies.specs.Cells.{ActivityCells, BodiesRun, ports_of}
use Rattle.bl_emit_spec_laws_wellformed.specs.Chains.{ActivitiesCallFew}
use Rattle.bl_emit_spec_laws_wellformed.specs.Closed.{NeededClosed}
use Rattle.bl_emit_spec_laws_wellformed.specs.Machines.{IsModest, MachinesSpell}
use Rattle.bl_emit_spec_laws_wellformed.specs.Needed.{NeededSmall}
use Rattle.bl_emit_spec_laws_wellformed.proofs.OnNeeded.Whole.{less_calls}
use Rattle.bl_emit_spec_laws_wellformed_bodies.specs.Structs.Laws.{PartsAreSound, PartsStand, program_parts}
use Rattle.bl_emit_spec_laws_wellformed_bodies.specs.Structs.Parts.{IsPart}
use Rattle.bl_emit_spec_laws_wellformed_bodies.proofs.OnStructs.Lists.{from_map}
use Rattle.bl_emit_spec_laws_wellformed_bodies.proofs.OnStructs.Runs.{runs_fit}
use Rattle.bl_emit_spec_laws_wellformed_bodies.proofs.OnStructs.Whole.{nests}
use Rattle.bl_emit_laws.specs.Cells.{FilesCount, FilesSmall}
use Rattle.bl_emit_laws.specs.Kept.{shown_file}
use Rattle.bl_emit_laws.proofs.OnCells.Counters.{sizes_few}
use Rattle.bl_emit_laws.proofs.OnCells.Interface.{init_cells, ports_cells, state_cells, tick_cells}
use Rattle.bl_emit_laws.proofs.OnCells.Names.{alike, file_none, no_file, no_frame, no_memory}
use Rattle.bl_emit_laws.proofs.OnCells.Needing.{none_more}
use Rattle.bl_emit_laws.proofs.OnCells.Numbers.{greatest_append}
use Rattle.bl_emit_laws.proofs.OnCells.Sizing as sizing
use Rattle.bl_emit_laws.proofs.OnCells.Tables.{sizes_append, sizes_none, sizes_under}
use Rattle.bl_emit_laws.proofs.OnCells.Walk.{Walked, after, chains_append, first_byte, frame_byte, memory_byte, unlike, walk}
use Rattle.bl_emit_functions_laws_wellformed.proofs.OnFiles.Growing.{at_most}
use Rattle.bl_emit_structs_laws_wellformed.proofs.OnFormed.Whole.{once_has}
use Rattle.bl_emit_spec_laws.proofs.OnTables.Kept.{needed_many}

-- ---- lists

any_at : (xs : List ℕ) (j : ℕ) → list_any (nat_eq j) xs ≡ true → Contains xs j
any_at [] j h = absurd (cc)
any_at (x ∷ xs) j h = by (nat_eq j x) refl h (any_at xs j)
  where
    further : Contains xs j → Contains (x ∷ xs) j
    further at = (suc at.0, (let lt = at.1 in omega arith), at.2)

    by : (b : Bool) → nat_eq j x ≡ b → (b || list_any (nat_eq j) xs) ≡ true → (list_any (nat_eq j) xs ≡ true → Contains xs j) →
        Contains (x ∷ xs) j
    by true is h rest = (0, omega arith, sym (eqb-true j x is))
    by false is h rest = further (rest h)

-- ---- sums

sum_by : (state ins outs deepest f m r ports in_size out_size most : ℕ) → state ≤ f + m → ins ≤ in_size → outs ≤ out_size →
    in_size + out_size ≤ ports + 2 → deepest ≤ r + 4 → f + m + r + ports + 6 ≤ most → state + (ins + (outs + deepest)) ≤ most
sum_by state ins outs deepest f m r ports in_size out_size most one two three four five all = omega (arith, one, two, three, four, five, all)

two_under : (a b m : ℕ) → a ≤ m → b ≤ m → greatest (a ∷ b ∷ []) ≤ m
two_under a b m one other = omega (arith, one, other)

-- ---- the entry

-- the sizes of the entry's parameters, lent or not
lent_sizes : (structs : List StructDef) (unit : UnitDef) → ports_of structs (lent_unit unit) ≡ ports_of structs unit
lent_sizes structs unit =
    ap (λ vars. total (map (λ (var : Var). size structs var.ty) vars)) (lent_parameters unit)
    ∙ ap total (lent_mapped (λ (var : Var). size structs var.ty) (λ var. refl) (parameters_of unit))

entry_parts : (o : Option UnitDef) → is_entry o ≡ true → (unit : UnitDef) → o ≡ Some unit →
    (is_activity unit.kind ≡ true) × (is_some unit.result ≡ false)
entry_parts None entry unit is = absurd (cc)
entry_parts (Some first) entry unit is =
    let scalars : Bool = list_all (λ (var : Var). is_some (scalar_in var.ty)) (parameters_of first) in
    let same : first ≡ unit = same_Some first unit is in
    let active : is_activity first.kind ≡ true = and_first (is_activity first.kind) (is_none first.result && scalars) entry in
    let none : is_none first.result ≡ true = and_first (is_none first.result) scalars
    (and_second (is_activity first.kind) (is_none first.result && scalars) entry) in
    (ap (λ (u : UnitDef). is_activity u.kind) (sym same) ∙ active, ap (λ (u : UnitDef). is_some u.result) (sym same) ∙ nothing first.result none)
  where
    nothing : {A : Type 0} (o : Option A) → is_none o ≡ true → is_some o ≡ false
    nothing None is = refl
    nothing (Some x) is = absurd (cc)

module _ (program : Program)
    (nodes : (slots : Slots) (body : Block) → map (λ (rule : Transition). rule.node) (rules slots body) ≡ nodes_in body)
    (earlier : UnitsUseEarlierOnes) (add : CellsAdd) (stand : SizesStand program.structs program.units program.entry)
    (follow : CellsFollow program.structs program.units program.entry) (grow : CellsGrow program.structs program.units program.entry)
    (few : ActivitiesCallFew) (bodies : BodiesRun program.structs program.units program.entry)
    (small : NeededSmall program.structs program.units program.entry) (closed : NeededClosed program.structs program.units program.entry)
    (spell : MachinesSpell program.structs program.units program.entry) (sound : PartsAreSound program.structs program.units program.entry)
    (cells : ActivityCells program.structs program.units program.entry) (machine : List InMachine) (unit : UnitDef)
    (keeps : IsWellTyped program.structs program.units program.entry) (limits : KeepsLimits program.structs program.units program.entry)
    (agrees : AreActivitiesOf program.units machine)
    (there : slice_get program.units program.entry ≡ Some (lent_unit unit)) where
  abbrev structs : List StructDef
  structs = program.structs

  abbrev units : List UnitDef
  units = program.units

  abbrev entry : ℕ
  entry = program.entry

  abbrev parts : ProgramParts
  parts = program_parts structs units entry machine

  abbrev remembers : Bool
  remembers = unwrap_or (slice_get parts.remember entry) false

  abbrev types : List CStruct
  types = each_once [] (structs_for structs units)

  abbrev state : CStruct
  state = state_struct unit.name remembers

  abbrev in_ports : CStruct
  in_ports = port_struct structs (codes "bl_in") (codes "i_") (inputs_of unit)

  abbrev out_ports : CStruct
  out_ports = port_struct structs (codes "bl_out") (codes "o_") (outputs_of unit)

  abbrev last : List CStruct
  last = interface_structs structs unit remembers

  abbrev file : List CStruct
  file = types ++ (parts.structs ++ last)

  abbrev init : CFunc
  init = init_function

  abbrev tick : CFunc
  tick = tick_function unit remembers

  abbrev K : Sizes
  K = sizes_after no_entries file

  abbrev T : Sizes
  T = sizes_after no_entries types

  differ : are_distinct (names units) ≡ true
  differ = distinct_behind (map (λ (def : StructDef). def.name) structs) (names units) keeps.distinct

  nested : NestsAtMost 100 structs units
  nested = nests structs units entry limits

  stands : PartsStand structs units entry parts
  stands = sound machine keeps limits agrees

  -- ---- names

  type_at : (s : CStruct) → Contains types s → StructOf structs 100 s
  type_at s has = all_are structs 100 keeps.structs_stand nested.definitions units entry keeps nested s (once_has [] (structs_for structs units) s has)

  last_cases : (s : CStruct) → Contains last s → (s ≡ state) ⊎ ((s ≡ in_ports) ⊎ (s ≡ out_ports))
  last_cases s at =
      ⊎_elim (λ is. inl (sym is))
      (λ more. ⊎_elim (λ is. inr (inl (sym is)))
      (λ more. ⊎_elim (λ is. inr (inr (sym is))) (λ none. absurd (contains_none s none)) (first_or_further out_ports [] s more))
      (first_or_further in_ports (out_ports ∷ []) s more)) (first_or_further state (in_ports ∷ out_ports ∷ []) s at)

  last_named : (s : CStruct) → Contains last s → first_byte s.name ≡ 98
  last_named s at =
      ⊎_elim (λ is. ap (λ (s : CStruct). first_byte s.name) is)
      (λ more. ⊎_elim (λ is. ap (λ (s : CStruct). first_byte s.name) is) (λ is. ap (λ (s : CStruct). first_byte s.name) is) more) (last_cases s at)

  -- ---- the tables of sizes

  split : sizes_after T (parts.structs ++ last) ≡ K
  split = sym (sizes_append types (parts.structs ++ last) no_entries)

  sizes : SizesKnown structs units K
  sizes =
      let growing = stand 100 keeps nested in
      let one : SizesKnown structs units T =
      sizing.types_join structs units growing differ types no_entries growing.nothing (λ s has. once_has [] (structs_for structs units) s has) in
      let two : SizesKnown structs units (sizes_after T parts.structs) =
      sizing.walk structs units growing differ [] [] units (needed_units units entry) machine T refl one in
      let three : SizesKnown structs units (sizes_after (sizes_after T parts.structs) last) =
      sizing.others_join structs units growing differ last (sizes_after T parts.structs) two
      (λ s has. ⊎_elim (λ is. subst (λ (s : CStruct). NamesNone structs units s.name) (sym is) (file_none structs units (codes "state")))
      (λ more. ⊎_elim (λ is. subst (λ (s : CStruct). NamesNone structs units s.name) (sym is) (file_none structs units (codes "in")))
      (λ is. subst (λ (s : CStruct). NamesNone structs units s.name) (sym is) (file_none structs units (codes "out"))) more) (last_cases s has)) in
      subst (SizesKnown structs units) (sym (sizes_append parts.structs last T) ∙ split) three

  fresh : (j : ℕ) (other : UnitDef) → 0 ≤ j → slice_get units j ≡ Some other →
      (T (frame_name other.name) ≡ None) × (T (memory_name other.name) ≡ None)
  fresh j other above found = (
    sizes_none types no_entries (frame_name other.name) refl (λ s has same. let o = type_at s has in
        alike (frame_name other.name) (type_name structs o.ty) (no_frame structs other.name o.ty) (sym same ∙ o.named)),
    sizes_none types no_entries (memory_name other.name) refl (λ s has same. let o = type_at s has in
        alike (memory_name other.name) (type_name structs o.ty) (no_memory structs other.name o.ty) (sym same ∙ o.named)),
  )

  -- the interface's structs have what they have in the end
  entry_under : (rest : Text) (n : ℕ) → ((s : CStruct) → Contains last s → s.name ≡ codes "bl_" ++ rest → size_of_struct K s ≤ n) →
      entry_or 0 K (codes "bl_" ++ rest) ≤ n
  entry_under rest n each =
      sizes_under file no_entries (codes "bl_" ++ rest) n (omega arith)
      (λ s has same.
      ⊎_elim
      (λ own. let o = type_at s own in
      absurd (alike (codes "bl_" ++ rest) (type_name structs o.ty) (no_file structs rest o.ty) (sym same ∙ o.named)))
      (λ more. ⊎_elim
      (λ part. absurd (⊎_elim
      (λ (p : IsPart structs units memory_name s). unlike (memory_name p.unit.name) (codes "bl_" ++ rest) 109 98 (memory_byte p.unit.name) refl
      (λ e. absurd (omega (arith, e))) (sym p.named ∙ same))
      (λ (p : IsPart structs units frame_name s). unlike (frame_name p.unit.name) (codes "bl_" ++ rest) 102 98 (frame_byte p.unit.name) refl
      (λ e. absurd (omega (arith, e))) (sym p.named ∙ same)) (stands.each s part)))
      (λ end. each s end same) (Contains-append_cases parts.structs last s more)) (Contains-append_cases types (parts.structs ++ last) s has))

  other_name : (a b : Text) (s t : CStruct) → s ≡ t → t.name ≡ a → bytes_eq a b ≡ false → s.name ≡ b → ⊥
  other_name a b s t is named other same = alike a b other (sym named ∙ ap (λ (s : CStruct). s.name) (sym is) ∙ same)

  size_as : (s t : CStruct) → s ≡ t → size_of_struct K s ≤ size_of_struct K t
  size_as s t is = let same : size_of_struct K s ≡ size_of_struct K t = ap (size_of_struct K) is in omega (arith, same)

  state_entry : entry_or 0 K (codes "bl_state") ≤ size_of_struct K state
  state_entry =
      entry_under (codes "state") (size_of_struct K state)
      (λ s has same. ⊎_elim (λ is. size_as s state is)
      (λ more. absurd (⊎_elim (λ is. other_name (codes "bl_in") (codes "bl_state") s in_ports is refl refl same)
      (λ is. other_name (codes "bl_out") (codes "bl_state") s out_ports is refl refl same) more)) (last_cases s has))

  in_entry : entry_or 0 K (codes "bl_in") ≤ size_of_struct K in_ports
  in_entry =
      entry_under (codes "in") (size_of_struct K in_ports)
      (λ s has same. ⊎_elim (λ is. absurd (other_name (codes "bl_state") (codes "bl_in") s state is refl refl same))
      (λ more. ⊎_elim (λ is. size_as s in_ports is)
      (λ is. absurd (other_name (codes "bl_out") (codes "bl_in") s out_ports is refl refl same)) more) (last_cases s has))

  out_entry : entry_or 0 K (codes "bl_out") ≤ size_of_struct K out_ports
  out_entry =
      entry_under (codes "out") (size_of_struct K out_ports)
      (λ s has same. ⊎_elim (λ is. absurd (other_name (codes "bl_state") (codes "bl_out") s state is refl refl same))
      (λ more. ⊎_elim (λ is. absurd (other_name (codes "bl_in") (codes "bl_out") s in_ports is refl refl same))
      (λ is. size_as s out_ports is) more) (last_cases s has))

  -- ---- the walk

  uses_before : (k j : ℕ) (u : UnitDef) → slice_get units k ≡ Some u → list_any (nat_eq j) (needs_of u) ≡ true → j < k
  uses_before k j u at among =
      let so = earlier structs units keeps.units_stand k u at in
      ⊎_elim (λ call. All-contains (λ j. j < k) (calls_of u) j so.calls call) (λ run. All-contains (λ j. j < k) (activities_run u) j so.runs run)
      (Contains-append_cases (calls_of u) (activities_run u) j (any_at (needs_of u) j among))

  cells_down : (k j : ℕ) (u : UnitDef) → slice_get units k ≡ Some u → list_any (nat_eq j) (needs_of u) ≡ true →
      cells_at structs units j ≤ cells_at structs units k
  cells_down k j u at among = less_calls structs units entry k j u keeps earlier add at among

  few_counters : (u : UnitDef) (one : InMachine) → IsActivityOf u one → length (sizes_of one.slots) ≤ width_in (plain_body u.body)
  few_counters u one own = sizes_few (plain_body u.body) one.slots own.slots

  callees : (k : ℕ) (u : UnitDef) (one : InMachine) (remember : List Bool) → slice_get units k ≡ Some u → is_activity u.kind ≡ true →
      slice_get (needed_units units entry) k ≡ Some true → IsActivityOf u one → (c : ℕ) (callee : UnitDef) →
      Contains (activities_by_place u) c → slice_get units c ≡ Some callee →
      (c < k) × (is_activity callee.kind ≡ true) × (slice_get (needed_units units entry) c ≡ Some true)
  callees k u one remember at active need own c callee has found =
      let a : Activity = activity_of structs (take k units) remember u one in
      let same : map (λ (run : RunAt). run.unit) (runs_in_body a) ≡ activities_by_place u =
      bodies k u a keeps (record { there = at; is = refl; before = refl }) in
      let modest : IsModest structs units k u one = record { there = at; of_unit = own; cells = small k keeps limits need } in
      let run = from_map (λ (run : RunAt). run.unit) (runs_in_body a) c (subst (λ us. Contains us c) (sym same) has) in
      let fits = runs_fit nodes structs units entry k a keeps closed (spell k u one remember keeps modest) run.0 run.1 in
      let is : fits.callee ≡ callee = same_Some fits.callee callee (sym fits.is_there ∙ ap (slice_get units) run.2 ∙ found) in (
        subst (λ c. c < k) run.2 fits.before,
        ap (λ (u : UnitDef). is_activity u.kind) (sym is) ∙ fits.active,
        ap (slice_get (needed_units units entry)) (sym run.2) ∙ fits.needed need,
      )

  none_behind : (i n : ℕ) → n ≡ 0 → i ≡ n + i
  none_behind i n none = omega (arith, none)

  walked : Walked structs units entry keeps differ K sizes cells follow grow few uses_before cells_down last last_named few_counters callees [] no_entries
      parts.funcs
  walked =
      walk structs units entry keeps differ K sizes cells follow grow few uses_before cells_down last last_named few_counters callees [] [] units
      (needed_units units entry) machine [] no_entries T refl
      ((λ i. ap (slice_get (needed_units units entry)) (none_behind i (length {A = UnitDef} []) refl)), needed_many units entry) agrees
      (record {
        long = refl;
        known = record { prelude = λ word s. refl; unnamed = refl; of_units = λ f u at. omega arith };
        low = λ j. omega arith;
        bound = λ f u at. omega arith;
        fits = λ u other below at need active. absurd (omega (arith, below));
        over = λ j i other below at among. absurd (omega (arith, below));
      })
      fresh split

  abbrev reach : ℕ → ℕ
  reach = slice_index walked.final

  needed_less : (k : ℕ) → slice_get (needed_units units entry) k ≡ Some true → reach k ≤ reach entry
  needed_less =
      none_more units entry reach (λ k j u at among. walked.knows.over k j u (within_at units k u at) at among)

  -- ---- the chains

  abbrev chains : Table ℕ
  chains = after K no_entries parts.funcs

  abbrev chains_then : Table ℕ
  chains_then = with_entry chains (codes "bl_init") (chain_cells K chains init)

  deepest : deepest_chain K (parts.funcs ++ (init ∷ tick ∷ [])) ≤ reach entry + 4
  deepest =
      let front : greatest (chains_after K no_entries parts.funcs) ≤ reach entry = walked.under (reach entry) needed_less in
      let first : chain_cells K chains init ≤ 1 = init_cells unit remembers K chains in
      let own : entry_or 0 chains_then (unit_name unit.name) ≤ reach entry =
      at_most (chains (unit_name unit.name)) (bytes_eq (codes "bl_init") (unit_name unit.name)) (chain_cells K chains init) (reach entry)
      (walked.knows.bound entry (lent_unit unit) there) (λ no. absurd (cc)) in
      let second : chain_cells K chains_then tick ≤ entry_or 0 chains_then (unit_name unit.name) + 4 = tick_cells unit remembers K chains_then in
      subst (λ all. greatest all ≤ reach entry + 4) (sym (chains_append K parts.funcs (init ∷ tick ∷ []) no_entries))
      (greatest_append (chains_after K no_entries parts.funcs) (chains_after K chains (init ∷ tick ∷ [])) (reach entry + 4) (omega (arith, front))
      (two_under (chain_cells K chains init) (chain_cells K chains_then tick) (reach entry + 4) (omega (arith, first)) (omega (arith, own, second))))

  -- the ports have the sizes of the entry's parameters
  ports_few : size_of_struct K in_ports + size_of_struct K out_ports ≤ ports_of structs (lent_unit unit) + 2
  ports_few =
      let stands : Var → Bool = λ (var : Var). type_stands (length structs) var.ty in
      let own = ports_cells structs units K sizes unit
      (sym (lent_all stands (λ var. refl) unit.vars) ∙ vars_stand structs units entry keeps entry (lent_unit unit) there) in
      subst (λ n. size_of_struct K in_ports + size_of_struct K out_ports ≤ n + 2) (sym (lent_sizes structs unit)) own

  pub all_cells : cells_needed (file_from file (parts.funcs ++ (init ∷ tick ∷ []))) ≤ cells_at structs units entry
  all_cells =
      let is = entry_parts (slice_get units entry) keeps.entry_stands (lent_unit unit) there in
      let fits = walked.knows.fits entry (lent_unit unit) (within_at units entry (lent_unit unit) there) there (closed.entry_is keeps) is.0 in
      let kept : size_of_struct K state ≤ entry_or 0 K (frame_name unit.name) + entry_or 0 K (memory_name unit.name) = state_cells unit remembers K in
      let state_less : entry_or 0 K (codes "bl_state") ≤ entry_or 0 K (frame_name unit.name) + entry_or 0 K (memory_name unit.name) =
      (let one = state_entry in omega (arith, one, kept)) in
      sum_by (entry_or 0 K (codes "bl_state")) (entry_or 0 K (codes "bl_in")) (entry_or 0 K (codes "bl_out"))
      (deepest_chain K (parts.funcs ++ (init ∷ tick ∷ []))) (entry_or 0 K (frame_name unit.name)) (entry_or 0 K (memory_name unit.name)) (reach entry)
      (ports_of structs (lent_unit unit)) (size_of_struct K in_ports) (size_of_struct K out_ports) (cells_at structs units entry) state_less in_entry out_entry
      ports_few deepest (fits.1 is.1)

pub counted : (program : Program) → ((slots : Slots) (body : Block) → map (λ (rule : Transition). rule.node) (rules slots body) ≡ nodes_in body) →
    UnitsUseEarlierOnes → CellsAdd → SizesStand program.structs program.units program.entry →
    CellsFollow program.structs program.units program.entry → CellsGrow program.structs program.units program.entry → ActivitiesCallFew →
    BodiesRun program.structs program.units program.entry → NeededSmall program.structs program.units program.entry →
    NeededClosed program.structs program.units program.entry → MachinesSpell program.structs program.units program.entry →
    PartsAreSound program.structs program.units program.entry → ActivityCells program.structs program.units program.entry → FilesCount program
counted program nodes earlier add stand follow grow few bodies small closed spell sound cells machine unit keeps limits agrees there =
    all_cells program nodes earlier add stand follow grow few bodies small closed spell sound cells machine unit keeps limits agrees there

pub small : (program : Program) → NeededSmall program.structs program.units program.entry →
    NeededClosed program.structs program.units program.entry → FilesCount program → FilesSmall program
small program few closed count machine keeps passes limits agrees unit there =
    let one : cells_needed (shown_file program unit machine) ≤ cells_at program.structs program.units program.entry =
    count machine unit keeps limits agrees there in
    let two : cells_at program.structs program.units program.entry ≤ 1_000_000 = few program.entry keeps limits (closed.entry_is keeps) in
    omega (arith, one, two)
