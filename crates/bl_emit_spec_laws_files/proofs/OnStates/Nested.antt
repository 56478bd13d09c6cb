-- Where the structs of what is called stand in the state.
use Rattle.std.proofs.Common.{◌≡◌, ℕ, zero, suc, Bool, true, false, ◌&&◌, List, [], ◌∷◌, ◌++◌, map}
use Rattle.std.proofs.Common.{length, nat_lt}
use Rattle.std.proofs.Common.{Option, Some, None, refl, sym, ap, ap₂, ◌∙◌, subst, arith}
use Rattle.std.proofs.lemmas.Bool.{lt-ltb}
use Rattle.std.proofs.lemmas.Option.{same_Some}
use Rattle.std.specs.Prelude.{codes, Contains, slice_get, unwrap_or, if◌then◌else◌}
use Rattle.bl_tree.proofs.Basics.{contains_first as here, contains_further, contains_mapped, get_taken, index_of}
use Rattle.bl_tree.specs.declared.c.CType.TheVariants.{Struct as OfStruct}
use Rattle.bl_tree.specs.declared.place.Place.{Place}
use Rattle.bl_tree.specs.declared.text.Text.{Text}
use Rattle.bl_tree.specs.declared.tree.StructDef.{StructDef}
use Rattle.bl_tree.specs.declared.tree.Unit.{Unit as UnitDef}
use Rattle.bl_tree.specs.Reduce.{joined}
use Rattle.bl_graph_nodes.specs.Nodes.{Arguments, EnterAt, nodes_in}
use Rattle.bl_graph_nodes.specs.Plain.{Label, plain_body}
use Rattle.bl_ctext_semantics.specs.Faults.{WellFormed, struct_table}
use Rattle.bl_ctext_semantics.specs.Memory.{Location, Projection, member, state_object}
use Rattle.bl_ctext_semantics.specs.Parts.{Parts}
use Rattle.bl_ctext_semantics_laws.specs.Fitting.{ValueSpot, step_in, walk, whole}
use Rattle.bl_ctree.specs.Instances.{Setting, callee_of, setting_of, unit_at}
use Rattle.bl_ctree_laws_confluence.specs.Deeds.Orderly.{AcceptedIsOrderly}
use Rattle.bl_emit_functions.specs.Functions.{members_of, memory_name}
use Rattle.bl_emit_spec.specs.Lent.{lent_unit}
use Rattle.bl_emit_spec.specs.Activities.{Activity, RunAt, activity_view, counter_member, frame_member, frame_struct, memory_member, remembered, remembers_any}
use Rattle.bl_emit_spec.specs.Activities.{runs_in_body, struct_member, word_of_run}
use Rattle.bl_emit_spec.specs.Blocks.{name_in}
use Rattle.bl_emit_spec.specs.Names.{NumberedWord, callee_name, frame_name}
use Rattle.bl_emit_spec.specs.Programs.{state_struct}
use Rattle.bl_machine.specs.declared.machine.Activity.{Activity as InMachine}
use Rattle.bl_machine.specs.Blocks.{up_to}
use Rattle.bl_machine_pass_laws.specs.Turns.Laws.{StaysPlaced}
use Rattle.bl_emit_spec_laws.specs.Calls.Built.{Activities, activity_at, run_by, unit_number}
use Rattle.bl_emit_spec_laws.specs.Calls.Laws.{CompilationContext}
use Rattle.bl_emit_spec_laws.specs.Calls.Memories as memories
use Rattle.bl_emit_spec_laws.specs.Calls.Memories.{Nests, inner}
use Rattle.bl_emit_spec_laws.proofs.OnRunPlaces.Sharing.{run_kept}
use Rattle.bl_emit_spec_laws_files.specs.States.States.{FramesDeclared, RunFound, RunsFound, frame_place, memory_of_activity, memory_place}
use Rattle.bl_emit_spec_laws_files.proofs.OnStates.Declared.{member_step}
use Rattle.bl_emit_spec_laws.proofs.OnRunPlaces.Words.{run_word}
use Rattle.bl_emit_spec_laws.proofs.OnActivities.Nested.{unit_by}
use Rattle.bl_cause.proofs.PairLemmas.{contains_left}
use Rattle.bl_machine_pass_laws_turns.proofs.OnWaiting.Lists.{contains_right}

-- ---- members of lists

in_joined_at : {A B : Type 0} (f : A → List B) (xs : List A) (k : ℕ) (x : A) (y : B) → slice_get xs k ≡ Some x → Contains (f x) y →
    Contains (joined (map f xs)) y
in_joined_at f [] k x y e at = absurd (cc)
in_joined_at f (z ∷ xs) zero x y e at =
    contains_left (f z) (joined (map f xs)) y (subst (λ (z : _). Contains (f z) y) (sym (same_Some z x e)) at)
in_joined_at f (z ∷ xs) (suc k) x y e at = contains_right (f z) (joined (map f xs)) y (in_joined_at f xs k x y e at)

pub in_joined : {A B : Type 0} (f : A → List B) (xs : List A) (x : A) (y : B) → Contains xs x → Contains (f x) y → Contains (joined (map f xs)) y
in_joined f xs x y at of = let found = index_of xs x at in in_joined_at f xs found.0 x y found.1 of

pub some_long : {X : Type 0} (xs : List X) (x : X) → Contains xs x → nat_lt 0 (length xs) ≡ true
some_long xs x at = let less = at.1 in lt-ltb 0 (length xs) (omega (arith, less))

-- ---- places

module _ (orderly : AcceptedIsOrderly) (placed : StaysPlaced) (structs : List StructDef) (units : List UnitDef) (entry : ℕ)
    (machine : List InMachine) (activities : Activities) (unit : UnitDef) (file : Parts) (compiled : CompilationContext structs units entry machine activities)
    (runs : RunsFound structs units entry) (formed : WellFormed file) (declared : FramesDeclared structs units entry activities unit file) where
  abbrev pub W : Setting
  W = setting_of structs units entry

  abbrev pub A : ℕ → Activity
  A i = activity_at W activities i

  pub unit_there : (i : ℕ) (other : UnitDef) → unit_at W i ≡ Some other → slice_get units (unit_number W i) ≡ Some other
  unit_there i other is = unit_by W (slice_get W.instances i) other is

  pub own_unit : (i : ℕ) (other : UnitDef) → unit_at W i ≡ Some other → (A i).unit ≡ other
  own_unit i other is = compiled.built.unit (unit_number W i) other (unit_there i other is)

  -- from the state a way leads there
  abbrev pub Leads : List Projection → ValueSpot → Type 0
  Leads way goal = walk (struct_table file.structs) (Some (whole (OfStruct (codes "bl_state")))) way ≡ Some goal

  pub along : (first rest : List Projection) (spot goal : ValueSpot) → Leads first spot → walk (struct_table file.structs) (Some spot) rest ≡ Some goal →
      Leads (first ++ rest) goal
  along first rest spot goal one more =
      by (Some (whole (OfStruct (codes "bl_state")))) first ∙ ap (λ o. walk (struct_table file.structs) o rest) one ∙ more
    where
      none_on : (way : List Projection) → walk (struct_table file.structs) None way ≡ None
      none_on [] = refl
      none_on (p ∷ way) = refl

      by : (o : Option ValueSpot) (first : List Projection) →
          walk (struct_table file.structs) o (first ++ rest) ≡ walk (struct_table file.structs) (walk (struct_table file.structs) o first) rest
      by o [] = refl
      by None (p ∷ first) = sym (none_on rest)
      by (Some spot) (p ∷ first) = by (step_in (struct_table file.structs) spot p) first

  -- what stands at the places of an instance
  pub record StandsAt (k : ℕ) (f m : Location) : Type 0 where
    pub other : UnitDef
    pub is_there : unit_at W k ≡ Some other
    pub frame_root : f.root ≡ state_object
    pub memory_root : m.root ≡ state_object
    pub frame : Leads f.parts (whole (OfStruct (frame_struct (A k)).name))
    pub memory : remembers_any (A k) ≡ true → Leads m.parts (whole (OfStruct (memory_of_activity (A k)).name))

  module _ (i j : ℕ) (u : UnitDef) (l : Label) (at : Place) (arguments : Arguments) (is : unit_at W i ≡ Some u)
      (within : Contains (nodes_in (plain_body u.body)) (EnterAt l at arguments)) (calls : callee_of W i at ≡ Some j) where
    found : RunFound W u l at arguments i j
    found = runs i j u l at arguments is within calls

    abbrev run : RunAt
    run = record { place = at; number = (activity_view (A i)).run at; unit = unit_number W j }

    abbrev word : NumberedWord
    word = word_of_run (A i).earlier run

    word_is : run_by W activities i at ≡ word
    word_is = run_word W activities i j at calls

    run_within : Contains (runs_in_body (A i)) run
    run_within =
        let called = subst (λ (x : UnitDef). Rattle.bl_emit_spec_laws.specs.Calls.Laws.CalledAt (plain_body x.body) (EnterAt l at arguments)
        (unit_number W j)) (sym (own_unit i u is)) found.called in
        run_kept placed.nodes (A i) structs units entry compiled.well_typed (unit_number W i) (unit_there i u is ∙ ap Some (sym (own_unit i u is)))
        called.position (unit_number W j) l at arguments called.node called.unit

    earlier_is : slice_get (A i).earlier (unit_number W j) ≡ Some found.other
    earlier_is =
        ap (λ (us : List UnitDef). slice_get us (unit_number W j)) (compiled.built.earlier (unit_number W i) u (unit_there i u is))
        ∙ get_taken units (unit_number W i) (unit_number W j) found.earlier ∙ unit_there j found.other found.is_there

    named : name_in (slice_get (A i).earlier (unit_number W j)) ≡ (A j).unit.name
    named = ap name_in earlier_is ∙ ap (λ (x : UnitDef). x.name) (sym (own_unit j found.other found.is_there))

    frame_step : step_in (struct_table file.structs) (whole (OfStruct (frame_struct (A i)).name)) (member (callee_name word))
        ≡ Some (whole (OfStruct (frame_struct (A j)).name))
    frame_step =
        member_step file formed (frame_struct (A i))
        (frame_member (A i) run) (declared.frames i u is)
        (contains_right (map (counter_member (A i).sizes) (up_to (length (A i).sizes))) (map (frame_member (A i)) (runs_in_body (A i)))
        (frame_member (A i) run)
        (contains_mapped (frame_member (A i)) (runs_in_body (A i))
        run run_within))
        ∙ ap (λ (name : Text). Some (whole (OfStruct (frame_name name)))) named

    module _ (remembers : remembers_any (A j) ≡ true) where
      told : (activity_view (A i)).remembers (unit_number W j) ≡ true
      told =
          let active = ((orderly structs units entry compiled.well_typed compiled.passes).each j found.other found.is_there).activity in
          ap (λ (o : Option Bool). unwrap_or o false) (compiled.built.remember (unit_number W i) (unit_number W j) u found.other (unit_there i u is)
          (unit_there j found.other found.is_there) found.earlier)
          ∙ ap₂ (λ a b. a && b) active remembers

      member_within : Contains (remembered (A i)) (struct_member (callee_name word)
          (memory_name (name_in (slice_get (A i).earlier (unit_number W j)))))
      member_within =
          contains_right (members_of (A i).structs (A i).earlier (A i).unit) (joined (map (memory_member (A i)) (runs_in_body (A i))))
          (struct_member (callee_name word) (memory_name (name_in (slice_get (A i).earlier (unit_number W j)))))
          (in_joined (memory_member (A i)) (runs_in_body (A i)) run
          (struct_member (callee_name word) (memory_name (name_in (slice_get (A i).earlier (unit_number W j)))))
          run_within
          (subst (λ (b : Bool). Contains (if b then struct_member (callee_name word)
          (memory_name (name_in (slice_get (A i).earlier (unit_number W j)))) ∷ [] else [])
          (struct_member (callee_name word) (memory_name (name_in (slice_get (A i).earlier (unit_number W j))))))
          (sym told) (here (struct_member (callee_name word)
          (memory_name (name_in (slice_get (A i).earlier (unit_number W j))))) [])))

      outer_remembers : remembers_any (A i) ≡ true
      outer_remembers =
          some_long (remembered (A i)) (struct_member (callee_name word)
          (memory_name (name_in (slice_get (A i).earlier (unit_number W j))))) member_within

      memory_step : step_in (struct_table file.structs) (whole (OfStruct (memory_of_activity (A i)).name)) (member (callee_name word))
          ≡ Some (whole (OfStruct (memory_of_activity (A j)).name))
      memory_step =
          member_step file formed (memory_of_activity (A i))
          (struct_member (callee_name word) (memory_name (name_in (slice_get (A i).earlier (unit_number W j)))))
          (declared.memories i u is outer_remembers) member_within
          ∙ ap (λ (name : Text). Some (whole (OfStruct (memory_name name)))) named

    pub inner_stands : (f m : Location) → StandsAt i f m →
        StandsAt j (inner f (run_by W activities i at)) (inner m (run_by W activities i at))
    inner_stands f m stands = subst (λ (n : NumberedWord). StandsAt j (inner f n) (inner m n)) (sym word_is) (record {
      other = found.other;
      is_there = found.is_there;
      frame_root = stands.frame_root;
      memory_root = stands.memory_root;
      frame = along f.parts (member (callee_name word) ∷ []) (whole (OfStruct (frame_struct (A i)).name))
          (whole (OfStruct (frame_struct (A j)).name)) stands.frame frame_step;
      memory = λ remembers.
          along m.parts (member (callee_name word) ∷ []) (whole (OfStruct (memory_of_activity (A i)).name))
          (whole (OfStruct (memory_of_activity (A j)).name)) (stands.memory (outer_remembers remembers)) (memory_step remembers);
    })

  pub nested : {i k : ℕ} {f m f' m' : Location} → Nests W activities i f m k f' m' → StandsAt i f m → StandsAt k f' m'
  nested memories.here stands = stands
  nested {i} {f = f} {m = m} (memories.inside {j = j} {unit = u} {l = l} {at = at} {arguments = arguments} is within calls rest) stands =
      nested rest (inner_stands i j u l at arguments is within calls f m stands)

  -- the entry
  pub entry_stands : (is : unit_at W 0 ≡ Some (lent_unit unit)) → unit_number W 0 ≡ entry → StandsAt 0 frame_place memory_place
  entry_stands is number = record {
    other = lent_unit unit;
    is_there = is;
    frame_root = refl;
    memory_root = refl;
    frame =
        member_step file formed (state_struct unit.name (remembers_any (activities entry))) (struct_member (codes "f") (frame_name unit.name)) declared.state
        (here (struct_member (codes "f") (frame_name unit.name)) _)
        ∙ ap (λ (x : UnitDef). Some (whole (OfStruct (frame_name x.name)))) (sym (own_unit 0 (lent_unit unit) is));
    memory = λ remembers.
        member_step file formed (state_struct unit.name true) (struct_member (codes "m") (memory_name unit.name))
        (subst (λ (b : Bool). Contains file.structs (state_struct unit.name b)) (ap (λ (k : ℕ). remembers_any (activities k)) (sym number) ∙ remembers)
        declared.state)
        (contains_further (struct_member (codes "f") (frame_name unit.name)) (struct_member (codes "m") (memory_name unit.name) ∷ [])
        (struct_member (codes "m") (memory_name unit.name)) (here (struct_member (codes "m") (memory_name unit.name)) []))
        ∙ ap (λ (x : UnitDef). Some (whole (OfStruct (memory_name x.name)))) (sym (own_unit 0 (lent_unit unit) is));
  }
