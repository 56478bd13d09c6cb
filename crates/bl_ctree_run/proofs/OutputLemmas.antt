-- No action takes a variable from an instance, so the store has a value for each output throughout.
use Rattle.std.proofs.Common.{◌≡◌, ℕ, zero, suc, ◌+◌, ◌-◌, ◌≤◌, ℤ, true, List, [], ◌∷◌, ◌++◌, length, min, take, drop, Option, Some, None}
use Rattle.std.proofs.Common.{refl, sym, ap, ◌∙◌, subst, arith, ◌&&◌}
use Rattle.std.specs.Prelude.{Result, Ok, Err, nat_le, option_and_then, option_map, slice_get, slice_set, unwrap_or}
use Rattle.std.proofs.lemmas.Bool.{leb-true}
use Rattle.std.proofs.lemmas.List.{length-append, length-drop, length-map, length-take}
use Rattle.std.proofs.lemmas.Option.{slice_get-map}
use Rattle.bl_tree.proofs.Basics.{and_first, and_second, at_most_itself, at_most_then}
use Rattle.bl_tree.specs.declared.memory.NoMemory.{NoMemory}
use Rattle.bl_tree.specs.declared.tree.Arm.{Arm}
use Rattle.bl_tree.specs.declared.tree.Branch.{Branch}
use Rattle.bl_tree.specs.declared.tree.Stmt.{Stmt}
use Rattle.bl_tree.specs.declared.tree.StmtKind.{StmtKind}
use Rattle.bl_tree.specs.declared.tree.StmtKind.TheOpen.{StmtKind-F}
use Rattle.bl_tree.specs.declared.tree.StructDef.{StructDef}
use Rattle.bl_tree.specs.declared.tree.Unit.{Unit as UnitDef}
use Rattle.bl_tree.specs.declared.value.Value.{Value}
use Rattle.bl_tree.specs.Program.{roles_stand, unit_stands, units_stand_after}
use Rattle.bl_eval.specs.declared.values.Did.{Did}
use Rattle.bl_eval.specs.declared.values.Did.TheVariants.{Done, Trap}
use Rattle.bl_eval.specs.Values.{put_at, with_value_at}
use Rattle.bl_ctree.specs.Actions.{acted_kind, given_to, outcome_there, result_at, value_there, values_there, with_result}
use Rattle.bl_ctree.specs.declared.instance.Instance.{Instance}
use Rattle.bl_ctree.specs.Instances.{Setting, unit_at, unit_of}
use Rattle.bl_ctree.specs.Positions.{stmt_kind}
use Rattle.bl_ctree.specs.Store.{Frame, Location, Store, first_frame, first_store, frame_at_first, home, number_or_zero, outputs_of_frame, put, put_path}
use Rattle.bl_ctree.specs.Store.{put_written, remember, with_frame, with_inputs, with_now, zeros}
use Rattle.bl_tree.specs.declared.static_path.Static.{Static}
use Rattle.bl_tree.specs.Effects.{writes}
use Rattle.bl_ctree_store.specs.declared.perform.Deed.{Deed}
use Rattle.bl_ctree_store.specs.declared.perform.Deed.TheVariants.{Silent, Acts, Copies, Gives}
use Rattle.bl_ctree_store.specs.Deeds.{Carried, deed_on}
use Rattle.bl_ctree_run.specs.Outputs.{HasOutputs, outputs_of_unit}
use Rattle.bl_ctree_store.proofs.AgeLemmas.{many_set}

-- the second frame has no fewer variables
pub data Covers : Option Frame → Option Frame → Type 0 where
  no_frame : Covers None None
  no_fewer : {f g : Frame} → length f.now ≤ length g.now → Covers (Some f) (Some g)

-- and so has each of the second store
pub record Grows (old new : Store) : Type 0 where
  pub at : (i : ℕ) → Covers (slice_get old i) (slice_get new i)

covers_same : (f : Option Frame) → Covers f f
covers_same None = no_frame
covers_same (Some f) = no_fewer (at_most_itself (length f.now))

pub grows_same : (store : Store) → Grows store store
grows_same store = record { at = λ i. covers_same (slice_get store i) }

covers_on : {f g h : Option Frame} → Covers f g → Covers g h → Covers f h
covers_on no_frame no_frame = no_frame
covers_on (no_fewer {f} {g} a) (no_fewer {f = g2} {g = h} b) = no_fewer (at_most_then (length f.now) (length g.now) (length h.now) a b)

grows_on : {old mid new : Store} → Grows old mid → Grows mid new → Grows old new
grows_on a b = record { at = λ i. covers_on (a.at i) (b.at i) }

-- ---- one frame changes

set_covers : (store : Store) (i : ℕ) (f g : Frame) → slice_get store i ≡ Some f → length f.now ≤ length g.now → (j : ℕ) →
    Covers (slice_get store j) (slice_get (slice_set store i g) j)
set_covers [] i f g is more j = absurd cc
set_covers (h ∷ store) zero f g is more zero = let same : h ≡ f = cc in subst (λ (h : Frame). Covers (Some h) (Some g)) (sym same) (no_fewer more)
set_covers (h ∷ store) zero f g is more (suc j) = covers_same (slice_get store j)
set_covers (h ∷ store) (suc i) f g is more zero = covers_same (Some h)
set_covers (h ∷ store) (suc i) f g is more (suc j) = set_covers store i f g is more j

frame_grows : (store : Store) (i : ℕ) (change : Frame → Frame) → ((f : Frame) → length f.now ≤ length (change f).now) →
    (found : Option Frame) → slice_get store i ≡ found
    → Grows store (unwrap_or (option_map (λ frame. slice_set store i (change frame)) found) store)
frame_grows store i change more None is = grows_same store
frame_grows store i change more (Some f) is = record { at = set_covers store i f (change f) is (more f) }

changed_grows : (i : ℕ) (change : Frame → Frame) (store : Store) → ((f : Frame) → length f.now ≤ length (change f).now) →
    Grows store (with_frame i change store)
changed_grows i change store more = frame_grows store i change more (slice_get store i) refl

-- ---- a value is put

value_put : (k : ℕ) (fields : List ℕ) (value : Value) (now made : List Value) (old : Option Value) (part : Option Value)
    → option_map (λ value. slice_set now k value) part ≡ Some made → length made ≡ length now
value_put k fields value now made old None is = absurd cc
value_put k fields value now made old (Some part) is = let same : slice_set now k part ≡ made = cc in sym (ap length same) ∙ many_set now k part

old_put : (k : ℕ) (fields : List ℕ) (value : Value) (now made : List Value) (old : Option Value)
    → option_and_then (λ old. option_map (λ value. slice_set now k value) (with_value_at fields value old)) old ≡ Some made → length made ≡ length now
old_put k fields value now made None is = absurd cc
old_put k fields value now made (Some old) is = value_put k fields value now made (Some old) (with_value_at fields value old) is

put_grows_at : (store : Store) (at : Location) (value : Value) (f : Frame) (made : Option (List Value)) → slice_get store at.instance ≡ Some f
    → ((now : List Value) → made ≡ Some now → length now ≡ length f.now)
    → Grows store (unwrap_or (option_map (λ now. slice_set store at.instance (record f { now = now })) made) store)
put_grows_at store at value f None is same = grows_same store
put_grows_at store at value f (Some now) is same =
    record {
      at = set_covers store at.instance f (record f { now = now }) is
          (subst (λ (n : ℕ). length f.now ≤ n) (sym (same now refl)) (at_most_itself (length f.now)));
    }

put_grows_in : (store : Store) (at : Location) (value : Value) (found : Option Frame) → slice_get store at.instance ≡ found
    → Grows store (unwrap_or (option_and_then (with_now store at value) found) store)
put_grows_in store at value None is = grows_same store
put_grows_in store at value (Some f) is =
    put_grows_at store at value f (put_at at.path.root at.path.fields value f.now) is
    (λ now e. old_put at.path.root at.path.fields value f.now now (slice_get f.now at.path.root) e)

put_grows : (at : Location) (value : Value) (store : Store) → Grows store (put at value store)
put_grows at value store = put_grows_in store at value (slice_get store at.instance) refl

path_grows : (w : Setting) (i : ℕ) (path : Static) (store : Store) (found : Option Value)
    → Grows store (unwrap_or (option_map (λ value. put (home w (record { instance = i; path = path })) value store) found) store)
path_grows w i path store None = grows_same store
path_grows w i path store (Some value) = put_grows (home w (record { instance = i; path = path })) value store

written_grows : (w : Setting) (i : ℕ) (values : List Value) (paths : List Static) (store : Store) → Grows store (put_written w i values paths store)
written_grows w i values [] store = grows_same store
written_grows w i values (path ∷ rest) store =
    grows_on (path_grows w i path store (option_and_then _ (slice_get values path.root))) (written_grows w i values rest (put_path w i values path store))

-- ---- actions

some_grows : {X : Type 0} (store new : Store) (f : X → Store) (found : Option X) → ((x : X) → Grows store (f x)) →
    option_map f found ≡ Some new → Grows store new
some_grows store new f None each is = absurd cc
some_grows store new f (Some x) each is = let same : f x ≡ new = cc in subst (λ (new : Store). Grows store new) same (each x)

given_grows : (w : Setting) (i : ℕ) (target : Option _) (value : Option Value) (store : Store) → Grows store (given_to w i target value store)
given_grows w i None value store = grows_same store
given_grows w i (Some path) None store = grows_same store
given_grows w i (Some path) (Some value) store = put_grows (home w _) value store

inputs_grow : (inputs : List Value) (f : Frame) → length f.now ≤ length (with_inputs inputs f).now
inputs_grow inputs f = omega (arith, length-append inputs (drop (length inputs) f.now), length-drop (length inputs) f.now)

puts_grow : (w : Setting) (i : ℕ) (s : Stmt) (store new : Store) →
    option_map (λ values. put_written w i values (writes s) store) (outcome_there w store i s) ≡ Some new → Grows store new
puts_grow w i s store new is =
    some_grows store new (λ values. put_written w i values (writes s) store) (outcome_there w store i s)
    (λ values. written_grows w i values (writes s) store) is

acted_grows : (w : Setting) (i : ℕ) (s : Stmt) (k : StmtKind-F StmtKind Arm Branch Stmt) (store new : Store) →
    acted_kind w i s k store ≡ Some new → Grows store new
acted_grows w i s (StmtKind-F.Return None) store new is = let same : store ≡ new = cc in subst (λ (new : Store). Grows store new) same (grows_same store)
acted_grows w i s (StmtKind-F.Return (Some e)) store new is =
    some_grows store new (λ value. with_frame i (with_result value) store) (value_there w store i e)
    (λ value. changed_grows i (with_result value) store (λ f. at_most_itself (length f.now))) is
acted_grows w i s (StmtKind-F.Declare k initial) store new is =
    some_grows store new (λ values. with_frame i (remember k) (put_written w i values (writes s) store)) (outcome_there w store i s)
    (λ values. grows_on (written_grows w i values (writes s) store)
    (changed_grows i (remember k) (put_written w i values (writes s) store) (λ f. at_most_itself (length f.now)))) is
acted_grows w i s (StmtKind-F.Assign path e) store new is = puts_grow w i s store new is
acted_grows w i s (StmtKind-F.Call f inputs outputs) store new is = puts_grow w i s store new is
acted_grows w i s (StmtKind-F.Await e) store new is = puts_grow w i s store new is
acted_grows w i s (StmtKind-F.Run target a inputs outputs) store new is = puts_grow w i s store new is
acted_grows w i s (StmtKind-F.If arms other) store new is = puts_grow w i s store new is
acted_grows w i s (StmtKind-F.Cobegin branches) store new is = puts_grow w i s store new is
acted_grows w i s (StmtKind-F.When guard e body) store new is = puts_grow w i s store new is
acted_grows w i s (StmtKind-F.Repeat body) store new is = puts_grow w i s store new is
acted_grows w i s (StmtKind-F.Until body e) store new is = puts_grow w i s store new is
acted_grows w i s (StmtKind-F.While e body) store new is = puts_grow w i s store new is

-- no action that tests nothing takes a variable
pub deed_grows : (w : Setting) (i : ℕ) (deed : Deed) (store new : Store) → deed_on w i deed store ≡ Some new → Grows store new
deed_grows w i Silent store new is = let same : store ≡ new = cc in subst (λ (new : Store). Grows store new) same (grows_same store)
deed_grows w i (Acts s) store new is = acted_grows w i s.now (stmt_kind s.now) store new is
deed_grows w i (Copies callee inputs) store new is =
    some_grows store new (λ values. with_frame callee (with_inputs values) store) (values_there w store i inputs.now)
    (λ values. changed_grows callee (with_inputs values) store (inputs_grow values)) is
deed_grows w i (Gives callee target) store new is =
    let same : given_to w i target.now (result_at store callee) store ≡ new = cc in
    subst (λ (new : Store). Grows store new) same (given_grows w i target.now (result_at store callee) store)

-- ---- the row

abbrev row : Option UnitDef → Option Frame → List ℤ
row unit frame = unwrap_or (option_and_then (λ unit. option_map (outputs_of_frame unit) frame) unit) []

abbrev count : Option UnitDef → ℕ
count = outputs_of_unit

row_length : (unit : UnitDef) (f : Frame) → length (outputs_of_frame unit f) ≡ length (take unit.outputs (drop unit.inputs f.now))
row_length unit f = length-map (take unit.outputs (drop unit.inputs f.now)) number_or_zero

row_keeps : (unit : Option UnitDef) {f g : Option Frame} → Covers f g → length (row unit f) ≡ count unit → length (row unit g) ≡ count unit
row_keeps None c has = has
row_keeps (Some unit) no_frame has = has
row_keeps (Some unit) (no_fewer {f} {g} more) has =
    row_length unit g ∙ length-take unit.outputs (drop unit.inputs g.now)
    ∙ enough unit.outputs unit.inputs (length f.now) (length g.now) (length (drop unit.inputs f.now))
    (length (drop unit.inputs g.now)) more (length-drop unit.inputs f.now) (length-drop unit.inputs g.now)
    (sym (length-take unit.outputs (drop unit.inputs f.now)) ∙ sym (row_length unit f) ∙ has)
  where
    enough : (o i a b m n : ℕ) → a ≤ b → m ≡ a - i → n ≡ b - i → min o m ≡ o → min o n ≡ o
    enough o i a b m n more is_m is_n has = omega arith

-- a store with a value for each output still has one when it has grown
pub outputs_keep : (w : Setting) (old new : Store) → Grows old new → HasOutputs w old → HasOutputs w new
outputs_keep w old new grows has = row_keeps (unit_at w 0) (grows.at 0) has

-- however it went
pub outputs_carried : (w : Setting) (i : ℕ) (deed : Deed) (old new : Store) (r : Result Did NoMemory) → Carried (deed_on w i deed old) old new r →
    HasOutputs w old → HasOutputs w new
outputs_carried w i deed old new (Ok Done) carried has = outputs_keep w old new (deed_grows w i deed old new carried) has
outputs_carried w i deed old new (Ok Trap) carried has = subst (λ (store : Store). HasOutputs w store) (sym carried.1) has
outputs_carried w i deed old new (Err e) carried has = subst (λ (store : Store). HasOutputs w store) (sym carried) has

-- ---- at the start

-- a unit's parameters are among its variables
room_of : (structs : List StructDef) (earlier : List UnitDef) (unit : UnitDef) → unit_stands structs earlier unit ≡ true →
    unit.inputs + unit.outputs ≤ length unit.vars
room_of structs earlier unit stands =
    leb-true (unit.inputs + unit.outputs) (length unit.vars)
    (and_first (nat_le (unit.inputs + unit.outputs) (length unit.vars)) _ (and_first (roles_stand unit) _ (and_first (roles_stand unit && _) _ stands)))

room_at : (structs : List StructDef) (earlier units : List UnitDef) (k : ℕ) (unit : UnitDef) →
    units_stand_after structs earlier units ≡ true → slice_get units k ≡ Some unit
    → unit.inputs + unit.outputs ≤ length unit.vars
room_at structs earlier [] k unit stands is = absurd cc
room_at structs earlier (u ∷ units) zero unit stands is =
    let same : u ≡ unit = cc in
    subst (λ (u : UnitDef). u.inputs + u.outputs ≤ length u.vars) same (room_of structs earlier u (and_first (unit_stands structs earlier u) _ stands))
room_at structs earlier (u ∷ units) (suc k) unit stands is =
    room_at structs (earlier ++ u ∷ []) units k unit (and_second (unit_stands structs earlier u) _ stands) is

module _ (w : Setting) (stands : units_stand_after w.structs [] w.units ≡ true) where
  unit_row : (k : ℕ) (unit : Option UnitDef) → slice_get w.units k ≡ unit
      → length (row unit (Some (unwrap_or (option_map (first_frame w.structs) unit) (record { now = []; before = []; result = None })))) ≡ count unit
  unit_row k None is = refl
  unit_row k (Some unit) is =
      row_length unit (first_frame w.structs unit) ∙ length-take unit.outputs (drop unit.inputs (zeros w.structs unit.vars))
      ∙ enough unit.outputs unit.inputs (length unit.vars) (length (zeros w.structs unit.vars)) (length (drop unit.inputs (zeros w.structs unit.vars)))
      (room_at w.structs [] w.units k unit stands is) (length-map unit.vars _) (length-drop unit.inputs (zeros w.structs unit.vars))
    where
      enough : (o i v n m : ℕ) → i + o ≤ v → n ≡ v → m ≡ n - i → min o m ≡ o
      enough o i v n m room is_n is_m = omega arith

  first_row : (instance : Option Instance) → length (row (option_and_then (unit_of w) instance)
      (option_map (frame_at_first w) instance)) ≡ count (option_and_then (unit_of w) instance)
  first_row None = refl
  first_row (Some instance) = unit_row instance.unit (slice_get w.units instance.unit) refl

  -- the store of a run that has not begun
  pub outputs_start : HasOutputs w (first_store w)
  outputs_start = ap (λ f. length (row (unit_at w 0) f)) (slice_get-map (frame_at_first w) w.instances 0) ∙ first_row (slice_get w.instances 0)
