-- What a deed leaves, and what is seen of an instance's own variables.
use Rattle.std.proofs.Common.{◌≡◌, ◌⊎◌, inl, inr, ℕ, ℤ, zero, suc, ◌+◌, ◌-◌, ◌<◌, ◌≤◌, Bool}
use Rattle.std.proofs.Common.{true, false, ◌&&◌, List, [], ◌∷◌, length}
use Rattle.std.proofs.Common.{map, Option, Some, None, refl, sym, ap, ◌∙◌, subst, arith}
use Rattle.std.proofs.lemmas.Bool.{le-ltb}
use Rattle.std.specs.Prelude.{nat_le, nat_lt, option_and_then, option_map, slice_get, slice_set, unwrap_or, if◌then◌else◌}
use Rattle.std.specs.List.{range_with_len}
use Rattle.bl_tree.proofs.Basics.{map_length, none_within}
use Rattle.bl_tree.specs.declared.place.Place.{Place}
use Rattle.bl_tree.specs.declared.tree.Stmt.{Stmt}
use Rattle.bl_tree.specs.declared.tree.StmtKind.TheOpen.{StmtKind-F}
use Rattle.bl_tree.specs.declared.tree.Unit.{Unit as UnitDef}
use Rattle.bl_tree.specs.declared.value.Value.{Value}
use Rattle.bl_tree.specs.declared.value.Value.TheVariants.{Number, Parts}
use Rattle.bl_tree.specs.Effects.{writes}
use Rattle.bl_tree.specs.Static.{whole}
use Rattle.bl_eval.specs.Values.{value_at}
use Rattle.bl_machine_prevs.specs.Declared.{declared_kind}
use Rattle.bl_ctree.specs.declared.instance.Instance.{Instance}
use Rattle.bl_ctree.specs.declared.instance.Origin.{Origin}
use Rattle.bl_ctree.specs.Actions.{Acts, Asks, Copies, Effect, Gives, Silent, acted_kind, done, outcome_there, values_there}
use Rattle.bl_ctree.specs.Instances.{Setting, unit_at, unit_of}
use Rattle.bl_ctree.specs.Positions.{stmt_kind}
use Rattle.bl_ctree.specs.Store.{Frame, Store, aged, first_frame, first_store, frame_at_first, home, is_output_of, led, led_by, put_written, remember, under}
use Rattle.bl_ctree.specs.Store.{value_among, variable_among, variables_of, vars_at, view_at, whole_of, with_frame, with_inputs, woken_store}
use Rattle.bl_ctree_laws.specs.Pending.{deed}
use Rattle.bl_ctree_laws_confluence.specs.Deeds.Origins.{HomesLeadOut}
use Rattle.bl_ctree_laws_confluence.specs.Stores.{before_of, now_of}
use Rattle.bl_ctree_laws_confluence.proofs.OnStores.Changes.{frame_is}
use Rattle.bl_ctree_laws_confluence.proofs.OnDeeds.Plans.{Kind}
use Rattle.bl_machine_laws.specs.Passes.Follows.{DeedYields}
use Rattle.bl_machine_pass_laws_execution.specs.Fresh.Asks.{InputsFit, IsAmongVariables}
use Rattle.bl_machine_pass_laws_execution.specs.Fresh.Fresh.{Framed, Fresh, arity, locals}
use Rattle.bl_machine_pass_laws_execution.specs.Fresh.Laws.{CopiesFit, CopiesTo, DeedsAreSeen, OwnIsSeen, StoresAreFresh}
use Rattle.bl_machine_pass_laws_execution.proofs.OnFresh.Doing.{before_stays, copied_length, found, framed_stays, got_changed}
use Rattle.bl_machine_pass_laws_execution.proofs.OnFresh.Doing.{got_other, keeps, others_stay, own_stays}
use Rattle.bl_machine_pass_laws_execution.proofs.OnFresh.Doing.{performed_by, step_framed, values_length, was, written}
use Rattle.bl_machine_pass_laws_execution.proofs.OnFresh.Lists.{among_by, behind_front, get_mapped, get_set, none_among, range_at, range_so}

-- ---- own variables

-- a variable of the body is behind the parameters, and is there
local_so : (unit : UnitDef) (x : ℕ) → IsAmongVariables (locals unit) x → (arity unit ≤ x) × (x < length unit.vars)
local_so unit x at =
    let both = range_so (arity unit) (length unit.vars - arity unit) x at in
    let one = both.0 in let two = both.1 in (one, omega (arith, one, two))

-- what a variable of the instance is
abbrev is_now : Store → ℕ → ℕ → Option Value
is_now s i x = value_among now_of s (whole_of i x)

no_output : (unit : UnitDef) (x : ℕ) → arity unit ≤ x → is_output_of unit x ≡ false
no_output unit x behind = by_first (nat_le unit.inputs x) (nat_lt x (unit.inputs + unit.outputs)) (le-ltb x (unit.inputs + unit.outputs) behind)
  where
    by_first : (a b : Bool) → b ≡ false → (a && b) ≡ false
    by_first true b e = e
    by_first false b e = refl

unled : (w : Setting) (i x : ℕ) (unit : UnitDef) → unit_at w i ≡ Some unit → arity unit ≤ x → led w (whole_of i x) ≡ None
unled w i x unit is behind = by_instance (slice_get w.instances i) is
  where
    by_origin : (o : Option Origin) → option_and_then (λ origin. option_and_then (led_by (whole x) origin) (Some unit)) o ≡ None
    by_origin None = refl
    by_origin (Some origin) =
        ap (λ b. if b then option_map (under origin.caller []) (slice_get origin.outputs (x - unit.inputs)) else None) (no_output unit x behind)

    by_instance : (found : Option Instance) → option_and_then (unit_of w) found ≡ Some unit →
        option_and_then (λ instance. option_and_then
        (λ origin. option_and_then (led_by (whole x) origin) (unit_of w instance)) instance.origin) found
        ≡ None
    by_instance None e = refl
    by_instance (Some instance) e =
        ap (λ u. option_and_then (λ origin. option_and_then (led_by (whole x) origin) u) instance.origin) e ∙ by_origin instance.origin

module _ (out : HomesLeadOut) (w : Setting) (i x : ℕ) (unit : UnitDef) (is : unit_at w i ≡ Some unit) (at : IsAmongVariables (locals unit) x) where
  there : x < length unit.vars
  there = (local_so unit x at).1

  own_home : home w (whole_of i x) ≡ whole_of i x
  own_home = out.own w (whole_of i x) (unled w i x unit is (local_so unit x at).0)

  own_view : (values : Frame → List Value) (s : Store) → slice_get (map (variable_among values w s i) (variables_of w i)) x
      ≡ Some (unwrap_or (value_among values s (whole_of i x)) (Parts []))
  own_view values s =
      get_mapped (variable_among values w s i) (variables_of w i) x
      ∙ ap (option_map (variable_among values w s i)) (ap (λ vars. slice_get (range_with_len 0 (length vars)) x) vars_are
      ∙ range_at 0 (length unit.vars) x there ∙ ap Some from_zero)
      ∙ ap (λ at. Some (unwrap_or (value_among values s at) (Parts []))) own_home
    where
      from_zero : 0 + x ≡ x
      from_zero = omega arith

      vars_are : vars_at w i ≡ unit.vars
      vars_are = ap (λ u. unwrap_or (option_map (λ (unit : UnitDef). unit.vars) u) []) is

  before_by : (s t : Store) → was t i x ≡ was s i x → slice_get (view_at w t i).before x ≡ slice_get (view_at w s i).before x
  before_by s t same =
      own_view before_of t ∙ ap (λ v. Some (unwrap_or v (Parts []))) same ∙ sym (own_view before_of s)

  now_by : (s : Store) → was s i x ≡ is_now s i x → slice_get (view_at w s i).before x ≡ slice_get (view_at w s i).now x
  now_by s same = own_view before_of s ∙ ap (λ v. Some (unwrap_or v (Parts []))) same ∙ sym (own_view now_of s)

-- ---- fresh frames

was_fresh : (w : Setting) (i x : ℕ) (unit : UnitDef) (s : Store) → unit_at w i ≡ Some unit → Fresh w s i → arity unit ≤ x →
    was s i x ≡ is_now s i x
was_fresh w i x unit s is fresh behind = by_frame (slice_get s i) refl
  where
    by_frame : (o : Option Frame) → slice_get s i ≡ o →
        option_and_then (λ frame. option_and_then (value_at []) (slice_get (before_of frame) x)) o
        ≡ option_and_then (λ frame. option_and_then (value_at []) (slice_get (now_of frame) x)) o
    by_frame None e = refl
    by_frame (Some frame) e = ap (option_and_then (value_at [])) (fresh.same frame unit x e is behind)

was_of : (s : Store) (i x : ℕ) → was s i x
    ≡ option_and_then (λ (before : List Value). option_and_then (value_at []) (slice_get before x)) (option_map before_of (slice_get s i))
was_of s i x = by_frame (slice_get s i)
  where
    by_frame : (o : Option Frame) → option_and_then (λ frame. option_and_then (value_at []) (slice_get (before_of frame) x)) o
        ≡ option_and_then (λ (before : List Value). option_and_then (value_at []) (slice_get before x)) (option_map before_of o)
    by_frame None = refl
    by_frame (Some frame) = refl

was_kept : (s t : Store) (i x : ℕ) → option_map before_of (slice_get t i) ≡ option_map before_of (slice_get s i) → was t i x ≡ was s i x
was_kept s t i x same =
    was_of t i x
    ∙ ap (option_and_then (λ (before : List Value). option_and_then (value_at []) (slice_get before x))) same
    ∙ sym (was_of s i x)

pub own_is_seen : HomesLeadOut → OwnIsSeen
own_is_seen out = record {
  fresh = λ w i x unit store is fresh at. sym (now_by out w i x unit is at store (was_fresh w i x unit store is fresh (local_so unit x at).0));
  before = λ w i x unit store left is same at. before_by out w i x unit is at store left (was_kept store left i x same);
}

-- ---- declarations

remembered_same : (x : ℕ) (frame : Frame) → x < length frame.now → x < length frame.before →
    slice_get (remember x frame).before x ≡ slice_get frame.now x
remembered_same x frame one two = by_value (slice_get frame.now x) refl
  where
    by_value : (o : Option Value) → slice_get frame.now x ≡ o →
        slice_get (unwrap_or (option_map (slice_set frame.before x) o) frame.before) x ≡ o
    by_value None e = absurd (none_within frame.now x one e)
    by_value (Some v) e = get_set frame.before x v two

was_remembered : (w : Setting) (i x : ℕ) (unit : UnitDef) (s : Store) → unit_at w i ≡ Some unit → Framed w s → x < length unit.vars →
    was (with_frame i (remember x) s) i x ≡ is_now (with_frame i (remember x) s) i x
was_remembered w i x unit s is framed below =
    ap (λ t. was t i x) (frame_is i (remember x) s)
    ∙ ap (option_and_then (λ frame. option_and_then (value_at []) (slice_get (before_of frame) x))) (got_changed i (remember x) s)
    ∙ by_frame (slice_get s i) refl
    ∙ sym (ap (option_and_then (λ frame. option_and_then (value_at []) (slice_get (now_of frame) x))) (got_changed i (remember x) s))
    ∙ sym (ap (λ t. is_now t i x) (frame_is i (remember x) s))
  where
    by_frame : (o : Option Frame) → slice_get s i ≡ o →
        option_and_then (λ frame. option_and_then (value_at []) (slice_get (before_of frame) x)) (option_map (remember x) o)
        ≡ option_and_then (λ frame. option_and_then (value_at []) (slice_get (now_of frame) x)) (option_map (remember x) o)
    by_frame None e = refl
    by_frame (Some frame) e =
        let now = framed.now i frame unit e is in
        let before = framed.before i frame unit e is in
        ap (option_and_then (value_at [])) (remembered_same x frame (omega (arith, below, now)) (omega (arith, below, before)))

declared_so : (w : Setting) (i x : ℕ) (unit : UnitDef) (s : Stmt) (kind : Kind) (store left : Store) → unit_at w i ≡ Some unit →
    Framed w store →
    x < length unit.vars → IsAmongVariables (declared_kind kind) x → acted_kind w i s kind store ≡ Some left → was left i x ≡ is_now left i x
declared_so w i x unit s (StmtKind-F.Declare k initial) store left is framed below at e =
    let v = found (λ values. with_frame i (remember k) (put_written w i values (writes s) store)) (outcome_there w store i s) left e in
    let between = written w i Silent (Framed w) (framed_stays w i Silent tt) v.0 (writes s) store framed in
    by_number v.0 v.2 between (among_by k x [] at)
  where
    by_number : (values : List Value) → with_frame i (remember k) (put_written w i values (writes s) store) ≡ left →
        Framed w (put_written w i values (writes s) store) → (x ≡ k) ⊎ IsAmongVariables [] x → was left i x ≡ is_now left i x
    by_number values made between (inl same) =
        subst (λ t. was t i x ≡ is_now t i x) (ap (λ n. with_frame i (remember n) (put_written w i values (writes s) store)) same ∙ made)
        (was_remembered w i x unit (put_written w i values (writes s) store) is between below)
    by_number values made between (inr none) = absurd (none_among x none)
declared_so w i x unit s (StmtKind-F.Assign path e) store left is framed below at made = absurd (none_among x at)
declared_so w i x unit s (StmtKind-F.Call f inputs outputs) store left is framed below at made = absurd (none_among x at)
declared_so w i x unit s (StmtKind-F.Await e) store left is framed below at made = absurd (none_among x at)
declared_so w i x unit s (StmtKind-F.Run target a inputs outputs) store left is framed below at made = absurd (none_among x at)
declared_so w i x unit s (StmtKind-F.If arms other) store left is framed below at made = absurd (none_among x at)
declared_so w i x unit s (StmtKind-F.Cobegin branches) store left is framed below at made = absurd (none_among x at)
declared_so w i x unit s (StmtKind-F.When guard e body) store left is framed below at made = absurd (none_among x at)
declared_so w i x unit s (StmtKind-F.Repeat body) store left is framed below at made = absurd (none_among x at)
declared_so w i x unit s (StmtKind-F.Until body e) store left is framed below at made = absurd (none_among x at)
declared_so w i x unit s (StmtKind-F.While e body) store left is framed below at made = absurd (none_among x at)
declared_so w i x unit s (StmtKind-F.Return e) store left is framed below at made = absurd (none_among x at)

declared_now : HomesLeadOut → (w : Setting) (i x : ℕ) (unit : UnitDef) (place : Place) (s : Stmt) (store : Store) (d : Bool) (left : Store) →
    unit_at w i ≡ Some unit → Framed w store → DeedYields w (deed i place (Acts s)) store d left → IsAmongVariables (locals unit) x →
    IsAmongVariables (declared_kind (stmt_kind s)) x → slice_get (view_at w left i).before x ≡ slice_get (view_at w left i).now x
declared_now out w i x unit place s store d left is framed e local at =
    let p = found done (acted_kind w i s (stmt_kind s) store) (performed_by d left) e in
    let made : acted_kind w i s (stmt_kind s) store ≡ Some left = p.1 ∙ ap (λ p. Some p.store) p.2 in
    now_by out w i x unit is local left (declared_so w i x unit s (stmt_kind s) store left is framed (local_so unit x local).1 at made)

-- ---- copied inputs

inputs_fresh : (w : Setting) (callee n : ℕ) (values : List Value) (s : Store) → length values ≡ n →
    ((other : UnitDef) → unit_at w callee ≡ Some other → n ≤ arity other) → Fresh w s callee →
    Fresh w (with_frame callee (with_inputs values) s) callee
inputs_fresh w callee n values s long fit fresh = record {
  same = λ frame unit x at is behind.
      let old = found (with_inputs values) (slice_get s callee) frame
      (sym (ap (λ t. slice_get t callee) (frame_is callee (with_inputs values) s) ∙ got_changed callee (with_inputs values) s) ∙ at) in
      let less = fit unit is in
      subst (λ (f : Frame). slice_get f.before x ≡ slice_get f.now x) old.2
      (fresh.same old.0 unit x old.1 is behind ∙ sym (behind_front values old.0.now x (omega (arith, long, less, behind))));
}

copied_fresh : (w : Setting) (i callee : ℕ) (place : Place) (effect : Effect) (store : Store) (d : Bool) (left : Store) →
    DeedYields w (deed i place effect) store d left → CopiesTo effect callee → CopiesFit w effect → Fresh w store callee → Fresh w left callee
copied_fresh w i callee place (Copies other inputs) store d left e to fit fresh =
    let p = found (λ values. done (with_frame other (with_inputs values) store)) (values_there w store i inputs) (performed_by d left) e in
    subst (λ t. Fresh w t callee) (ap (λ p. p.store) p.2)
    (subst (λ k. Fresh w (with_frame k (with_inputs p.0) store) callee) to
    (inputs_fresh w callee (length inputs) p.0 store (values_length w store i inputs p.0 p.1)
    (λ unit is. (fit unit (subst (λ k. unit_at w k ≡ Some unit) to is)).0) fresh))
copied_fresh w i callee place Silent store d left e to fit fresh = absurd to
copied_fresh w i callee place (Acts s) store d left e to fit fresh = absurd to
copied_fresh w i callee place (Asks x) store d left e to fit fresh = absurd to
copied_fresh w i callee place (Gives other target) store d left e to fit fresh = absurd to

pub deeds_are_seen : HomesLeadOut → DeedsAreSeen
deeds_are_seen out = record {
  others = λ w i j place effect store d left e other uncopied unhomed.
      keeps w i effect (λ s. slice_get s j ≡ slice_get store j) (others_stay w i j effect store other uncopied unhomed) place store d left e refl;
  before = λ w i j place effect store d left e other.
      keeps w i effect (λ s. option_map before_of (slice_get s j) ≡ option_map before_of (slice_get store j))
      (before_stays w i j effect store other)
      place store d left e refl;
  own = λ w i x unit place effect store d left is e local undeclared.
      before_by out w i x unit is local store left
      (keeps w i effect (λ s. was s i x ≡ was store i x) (own_stays w i x effect store undeclared) place store d left e refl);
  declared = λ w i x unit place s store d left is framed e local at. declared_now out w i x unit place s store d left is framed e local at;
  copied = copied_fresh;
  framed = λ w i place effect store d left e fit framed. keeps w i effect (Framed w) (framed_stays w i effect fit) place store d left e framed;
}

-- ---- stores between ticks

record BothLong (frame : Frame) (unit : UnitDef) : Type 0 where
  now : length frame.now ≡ length unit.vars
  before : length frame.before ≡ length unit.vars

first_long : (w : Setting) (j : ℕ) (frame : Frame) (unit : UnitDef) → slice_get (first_store w) j ≡ Some frame → unit_at w j ≡ Some unit →
    BothLong frame unit
first_long w j frame unit at is =
    let instance = found (frame_at_first w) (slice_get w.instances j) frame (sym (get_mapped (frame_at_first w) w.instances j) ∙ at) in
    let of : unit_of w instance.0 ≡ Some unit = sym (ap (option_and_then (unit_of w)) instance.1) ∙ is in
    let made : first_frame w.structs unit ≡ frame =
    sym (ap (λ u. unwrap_or (option_map (first_frame w.structs) u) (record { now = []; before = []; result = None })) of) ∙ instance.2 in
    subst (λ f. BothLong f unit) made (record { now = map_length _ unit.vars; before = map_length _ unit.vars })

aged_long : (w : Setting) (store : Store) (j : ℕ) (frame : Frame) (unit : UnitDef) → Framed w store → slice_get (map aged store) j
    ≡ Some frame →
    unit_at w j ≡ Some unit → BothLong frame unit
aged_long w store j frame unit framed at is =
    let old = found aged (slice_get store j) frame (sym (get_mapped aged store j) ∙ at) in
    subst (λ f. BothLong f unit) old.2 (record { now = framed.now j old.0 unit old.1 is; before = framed.now j old.0 unit old.1 is })

aged_fresh : (w : Setting) (store : Store) (j : ℕ) → Fresh w (map aged store) j
aged_fresh w store j = record {
  same = λ frame unit x at is behind.
      let old = found aged (slice_get store j) frame (sym (get_mapped aged store j) ∙ at) in
      subst (λ (f : Frame). slice_get f.before x ≡ slice_get f.now x) old.2 refl;
}

fresh_elsewhere : (w : Setting) (k j : ℕ) (h : Frame → Frame) (s : Store) → (j ≡ k → ⊥) → Fresh w s j → Fresh w (with_frame k h s) j
fresh_elsewhere w k j h s other fresh = record {
  same = λ frame unit x at is behind.
      fresh.same frame unit x (sym (ap (λ t. slice_get t j) (frame_is k h s) ∙ got_other k j h s other) ∙ at) is behind;
}

woken_fresh : (w : Setting) (row : List ℤ) (store : Store) →
    ((unit : UnitDef) → unit_at w 0 ≡ Some unit → length row ≤ arity unit) → (j : ℕ) →
    Fresh w (woken_store row store) j
woken_fresh w row store fit zero =
    inputs_fresh w 0 (length row) (map Number row) (map aged store) (map_length Number row) fit (aged_fresh w store 0)
woken_fresh w row store fit (suc j) =
    fresh_elsewhere w 0 (suc j) (with_inputs (map Number row)) (map aged store) (λ same. omega (arith, same)) (aged_fresh w store (suc j))

woken_framed : (w : Setting) (row : List ℤ) (store : Store) → ((unit : UnitDef) → unit_at w 0 ≡ Some unit → InputsFit (length row) unit) →
    Framed w store → Framed w (woken_store row store)
woken_framed w row store fit framed =
    subst (Framed w) (sym (frame_is 0 (with_inputs (map Number row)) (map aged store)))
    (step_framed w 0 (with_inputs (map Number row)) (map aged store) (record {
      now = λ frame unit is old. copied_length (length row) unit (map Number row) frame.now (fit unit is) (map_length Number row) old;
      before = λ frame unit is old. old;
    })
    (record {
      now = λ j frame unit at is. (aged_long w store j frame unit framed at is).now;
      before = λ j frame unit at is. (aged_long w store j frame unit framed at is).before;
    }))

pub stores_are_fresh : StoresAreFresh
stores_are_fresh = record {
  first = λ w. record {
    now = λ j frame unit at is. (first_long w j frame unit at is).now;
    before = λ j frame unit at is. (first_long w j frame unit at is).before;
  };
  woken = woken_framed;
  fresh = woken_fresh;
}
