-- What a deed does to a store, step by step.
use Rattle.std.proofs.Common.{◌≡◌, ℕ, zero, suc, Bool, true, false, ◌++◌, List, [], ◌∷◌, length, drop, Option, Some, None}
use Rattle.std.proofs.Common.{refl, sym, ap, ◌∙◌, subst, arith, eqb-true, eq-eqb}
use Rattle.std.specs.Prelude.{nat_eq, option_and_then, option_map, slice_get, slice_set, unwrap_or}
use Rattle.bl_tree.proofs.Basics.{same_some}
use Rattle.bl_tree.specs.declared.place.Place.{Place}
use Rattle.bl_tree.specs.declared.static_path.Static.{Static}
use Rattle.bl_tree.specs.declared.tree.Expr.{Expr}
use Rattle.bl_tree.specs.declared.tree.Path.{Path}
use Rattle.bl_tree.specs.declared.tree.Stmt.{Stmt}
use Rattle.bl_tree.specs.declared.tree.StmtKind.TheOpen.{StmtKind-F}
use Rattle.bl_tree.specs.declared.tree.Unit.{Unit as UnitDef}
use Rattle.bl_tree.specs.declared.value.Value.{Value}
use Rattle.bl_tree.specs.Effects.{writes}
use Rattle.bl_tree.specs.Static.{static_of}
use Rattle.bl_eval.specs.Values.{value_at}
use Rattle.bl_machine_prevs.specs.Declared.{declared_kind}
use Rattle.bl_ctree.specs.Actions.{Acts, Asks, Copies, Effect, Gives, Performed, Silent, acted_kind, done, given_to, is_true_value, outcome_there, result_at}
use Rattle.bl_ctree.specs.Actions.{value_there, values_there, with_result}
use Rattle.bl_ctree.specs.Instances.{Setting, unit_at}
use Rattle.bl_ctree.specs.Positions.{stmt_kind}
use Rattle.bl_ctree.specs.Store.{Frame, Store, home, put, put_path, put_written, remember, value_among, whole_of, with_frame, with_inputs}
use Rattle.bl_ctree_laws.specs.Pending.{deed}
use Rattle.bl_ctree_laws_confluence.specs.Stores.{before_of}
use Rattle.bl_ctree_laws_confluence.proofs.OnStores.Changes.{changed, frame_is, frame_put, put_is, seen_changed}
use Rattle.bl_ctree_laws_confluence.proofs.OnDeeds.Plans.{Kind}
use Rattle.bl_machine_laws.specs.Passes.Follows.{DeedYields}
use Rattle.bl_machine_pass_laws_execution.specs.Fresh.Asks.{InputsFit, IsAmongVariables}
use Rattle.bl_machine_pass_laws_execution.specs.Fresh.Fresh.{Framed}
use Rattle.bl_machine_pass_laws_execution.specs.Fresh.Laws.{CopiesFit, CopiesTo, effect_declared}
use Rattle.bl_machine_pass_laws_execution.proofs.OnFresh.Lists.{among_first, front_length, get_other, set_length}

-- ---- what is found

pub found : {A B : Type 0} (f : A → B) (o : Option A) (y : B) → option_map f o ≡ Some y → (x : A) × (o ≡ Some x) × (f x ≡ y)
found f None y e = absurd cc
found f (Some x) y e = (x, refl, same_some (f x) y e)

pub values_length : (w : Setting) (store : Store) (i : ℕ) (inputs : List Expr) (values : List Value) → values_there w store i inputs
    ≡ Some values →
    length values ≡ length inputs
values_length w store i [] values e = ap length (sym (same_some [] values e))
values_length w store i (x ∷ rest) values e = by_first (values_length w store i rest) (value_there w store i x) e
  where
    by_first : ((values : List Value) → values_there w store i rest ≡ Some values → length values ≡ length rest) → (o : Option Value) →
        option_and_then (λ value. option_map (λ values. value ∷ values) (values_there w store i rest)) o ≡ Some values →
        length values ≡ suc (length rest)
    by_first again None f = absurd cc
    by_first again (Some v) f =
        let more = found (λ values. v ∷ values) (values_there w store i rest) values f in
        ap length (sym more.2) ∙ ap suc (again more.0 more.1)

-- ---- what holds through each step

pub record Closed (w : Setting) (i : ℕ) (effect : Effect) (P : Store → Type 0) : Type 0 where
  pub puts : (path : Static) (v : Value) (s : Store) → P s → P (put (home w (record { instance = i; path = path })) v s)
  pub results : (v : Value) (s : Store) → P s → P (with_frame i (with_result v) s)
  pub remembers : (k : ℕ) (s : Store) → IsAmongVariables (effect_declared effect) k → P s → P (with_frame i (remember k) s)
  pub copies : (callee : ℕ) (inputs : List Expr) (values : List Value) (s : Store) → effect ≡ Copies callee inputs →
      length values ≡ length inputs → P s → P (with_frame callee (with_inputs values) s)

module _ (w : Setting) (i : ℕ) (effect : Effect) (P : Store → Type 0) (closed : Closed w i effect P) where
  path_kept : (values : List Value) (path : Static) (s : Store) → P s → P (put_path w i values path s)
  path_kept values path s h = by_value (option_and_then (value_at path.fields) (slice_get values path.root))
    where
      by_value : (o : Option Value) → P (unwrap_or (option_map (λ value. put (home w (record { instance = i; path = path })) value s) o) s)
      by_value None = h
      by_value (Some v) = closed.puts path v s h

  pub written : (values : List Value) (paths : List Static) (s : Store) → P s → P (put_written w i values paths s)
  written values [] s h = h
  written values (path ∷ rest) s h = written values rest (put_path w i values path s) (path_kept values path s h)

  wrote : (s : Stmt) (store left : Store) → P store →
      option_map (λ values. put_written w i values (writes s) store) (outcome_there w store i s) ≡ Some left → P left
  wrote s store left h e =
      let values = found (λ values. put_written w i values (writes s) store) (outcome_there w store i s) left e in
      subst P values.2 (written values.0 (writes s) store h)

  by_kind : (s : Stmt) (kind : Kind) (store left : Store) → ((k : ℕ) → IsAmongVariables (declared_kind kind) k → IsAmongVariables (effect_declared effect) k) →
      P store → acted_kind w i s kind store ≡ Some left → P left
  by_kind s (StmtKind-F.Return None) store left declares h e = subst P (same_some store left e) h
  by_kind s (StmtKind-F.Return (Some x)) store left declares h e =
      let v = found (λ value. with_frame i (with_result value) store) (value_there w store i x) left e in
      subst P v.2 (closed.results v.0 store h)
  by_kind s (StmtKind-F.Declare k initial) store left declares h e =
      let v = found (λ values. with_frame i (remember k) (put_written w i values (writes s) store)) (outcome_there w store i s) left e in
      subst P v.2
      (closed.remembers k (put_written w i v.0 (writes s) store) (declares k (among_first k [])) (written v.0 (writes s) store h))
  by_kind s (StmtKind-F.Assign path x) store left declares h e = wrote s store left h e
  by_kind s (StmtKind-F.Call f inputs outputs) store left declares h e = wrote s store left h e
  by_kind s (StmtKind-F.Await x) store left declares h e = wrote s store left h e
  by_kind s (StmtKind-F.Run target a inputs outputs) store left declares h e = wrote s store left h e
  by_kind s (StmtKind-F.If arms other) store left declares h e = wrote s store left h e
  by_kind s (StmtKind-F.Cobegin branches) store left declares h e = wrote s store left h e
  by_kind s (StmtKind-F.When guard x body) store left declares h e = wrote s store left h e
  by_kind s (StmtKind-F.Repeat body) store left declares h e = wrote s store left h e
  by_kind s (StmtKind-F.Until body x) store left declares h e = wrote s store left h e
  by_kind s (StmtKind-F.While x body) store left declares h e = wrote s store left h e

  given : (target : Option Path) (result : Option Value) (store : Store) → P store → P (given_to w i target result store)
  given (Some path) (Some v) store h = closed.puts (static_of path) v store h
  given (Some path) None store h = h
  given None (Some v) store h = h
  given None None store h = h

abbrev pub performed_by : Bool → Store → Performed
performed_by d left = record { answer = d; store = left }

-- what holds through each step holds after a deed
pub keeps : (w : Setting) (i : ℕ) (effect : Effect) (P : Store → Type 0) → Closed w i effect P →
    (at : Place) (store : Store) (d : Bool) (left : Store) →
    DeedYields w (deed i at effect) store d left → P store → P left
keeps w i Silent P closed at store d left e h = subst P (ap (λ p. p.store) (same_some (done store) (performed_by d left) e)) h
keeps w i (Acts s) P closed at store d left e h =
    let p = found done (acted_kind w i s (stmt_kind s) store) (performed_by d left) e in
    subst P (ap (λ p. p.store) p.2) (by_kind w i (Acts s) P closed s (stmt_kind s) store p.0 (λ k among. among) h p.1)
keeps w i (Asks x) P closed at store d left e h =
    let p = found (λ value. performed_by (is_true_value value) store) (value_there w store i x) (performed_by d left) e in
    subst P (ap (λ p. p.store) p.2) h
keeps w i (Copies callee inputs) P closed at store d left e h =
    let p = found (λ values. done (with_frame callee (with_inputs values) store)) (values_there w store i inputs) (performed_by d left) e in
    subst P (ap (λ p. p.store) p.2)
    (closed.copies callee inputs p.0 store refl (values_length w store i inputs p.0 p.1) h)
keeps w i (Gives callee target) P closed at store d left e h =
    subst P
    (ap (λ p. p.store) (same_some (done (given_to w i target (result_at store callee) store)) (performed_by d left) e))
    (given w i (Gives callee target) P closed target (result_at store callee) store h)

-- ---- frames

pub got_other : {A : Type 0} (k j : ℕ) (h : A → A) (xs : List A) → (j ≡ k → ⊥) → slice_get (changed k h xs) j ≡ slice_get xs j
got_other k j h [] other = refl
got_other zero zero h (x ∷ xs) other = absurd (other refl)
got_other zero (suc j) h (x ∷ xs) other = refl
got_other (suc k) zero h (x ∷ xs) other = refl
got_other (suc k) (suc j) h (x ∷ xs) other = got_other k j h xs (λ is. other (ap suc is))

pub got_changed : {A : Type 0} (k : ℕ) (h : A → A) (xs : List A) → slice_get (changed k h xs) k ≡ option_map h (slice_get xs k)
got_changed k h [] = refl
got_changed zero h (x ∷ xs) = refl
got_changed (suc k) h (x ∷ xs) = got_changed k h xs

changed_length : {A : Type 0} (k : ℕ) (h : A → A) (xs : List A) → length (changed k h xs) ≡ length xs
changed_length k h [] = refl
changed_length zero h (x ∷ xs) = refl
changed_length (suc k) h (x ∷ xs) = ap suc (changed_length k h xs)

seen_through : {A B : Type 0} (q : A → B) (k j : ℕ) (h : A → A) (xs : List A) → (j ≡ k → (x : A) → q (h x) ≡ q x) →
    option_map q (slice_get (changed k h xs) j) ≡ option_map q (slice_get xs j)
seen_through q k j h [] same = refl
seen_through q zero zero h (x ∷ xs) same = ap Some (same refl x)
seen_through q zero (suc j) h (x ∷ xs) same = refl
seen_through q (suc k) zero h (x ∷ xs) same = refl
seen_through q (suc k) (suc j) h (x ∷ xs) same = seen_through q k j h xs (λ e. same (ap suc e))

pub others_stay : (w : Setting) (i j : ℕ) (effect : Effect) (store : Store) → (j ≡ i → ⊥) → (CopiesTo effect j → ⊥) →
    ((path : Static) → (home w (record { instance = i; path = path })).instance ≡ j → ⊥) →
    Closed w i effect (λ s. slice_get s j ≡ slice_get store j)
others_stay w i j effect store other uncopied unhomed = record {
  puts = λ path v s h. ap (λ t. slice_get t j) (put_is (home w (record { instance = i; path = path })) v s)
      ∙ got_other (home w (record { instance = i; path = path })).instance j (frame_put (home w (record { instance = i; path = path })) v) s
      (λ is. unhomed path (sym is)) ∙ h;
  results = λ v s h. ap (λ t. slice_get t j) (frame_is i (with_result v) s) ∙ got_other i j (with_result v) s other ∙ h;
  remembers = λ k s among h. ap (λ t. slice_get t j) (frame_is i (remember k) s) ∙ got_other i j (remember k) s other ∙ h;
  copies = λ callee inputs values s is long h. ap (λ t. slice_get t j) (frame_is callee (with_inputs values) s)
      ∙ got_other callee j (with_inputs values) s (λ e. uncopied (subst (λ effect. CopiesTo effect j) (sym is) e)) ∙ h;
}

pub before_stays : (w : Setting) (i j : ℕ) (effect : Effect) (store : Store) → (j ≡ i → ⊥) →
    Closed w i effect (λ s. option_map before_of (slice_get s j) ≡ option_map before_of (slice_get store j))
before_stays w i j effect store other = record {
  puts = λ path v s h. ap (λ t. option_map before_of (slice_get t j)) (put_is (home w (record { instance = i; path = path })) v s)
      ∙ seen_through before_of (home w (record { instance = i; path = path })).instance j
      (frame_put (home w (record { instance = i; path = path })) v) s (λ same frame. refl) ∙ h;
  results = λ v s h. ap (λ t. option_map before_of (slice_get t j)) (frame_is i (with_result v) s)
      ∙ seen_through before_of i j (with_result v) s (λ same frame. refl) ∙ h;
  remembers = λ k s among h. ap (λ t. option_map before_of (slice_get t j)) (frame_is i (remember k) s)
      ∙ seen_through before_of i j (remember k) s (λ same frame. absurd (other same)) ∙ h;
  copies = λ callee inputs values s is long h. ap (λ t. option_map before_of (slice_get t j)) (frame_is callee (with_inputs values) s)
      ∙ seen_through before_of callee j (with_inputs values) s (λ same frame. refl) ∙ h;
}

remembered_other : (k x : ℕ) (frame : Frame) → (x ≡ k → ⊥) → slice_get (remember k frame).before x ≡ slice_get frame.before x
remembered_other k x frame other = by_value (slice_get frame.now k)
  where
    by_value : (o : Option Value) → slice_get (unwrap_or (option_map (slice_set frame.before k) o) frame.before) x ≡ slice_get frame.before x
    by_value None = refl
    by_value (Some v) = get_other frame.before k x v other

-- what a variable of the instance was
abbrev pub was : Store → ℕ → ℕ → Option Value
was s i x = value_among before_of s (whole_of i x)

abbrev shows : ℕ → Frame → Option Value
shows x frame = option_and_then (value_at []) (slice_get frame.before x)

pub own_stays : (w : Setting) (i x : ℕ) (effect : Effect) (store : Store) → (IsAmongVariables (effect_declared effect) x → ⊥) →
    Closed w i effect (λ s. was s i x ≡ was store i x)
own_stays w i x effect store undeclared = record {
  puts = λ path v s h. ap (λ t. was t i x) (put_is (home w (record { instance = i; path = path })) v s)
      ∙ seen_changed (shows x) (home w (record { instance = i; path = path })).instance i
      (frame_put (home w (record { instance = i; path = path })) v) s (λ same frame. refl) ∙ h;
  results = λ v s h. ap (λ t. was t i x) (frame_is i (with_result v) s)
      ∙ seen_changed (shows x) i i (with_result v) s (λ same frame. refl) ∙ h;
  remembers = λ k s among h. ap (λ t. was t i x) (frame_is i (remember k) s)
      ∙ seen_changed (shows x) i i (remember k) s (λ same frame. ap (option_and_then (value_at []))
      (remembered_other k x frame (λ is. undeclared (subst (IsAmongVariables (effect_declared effect)) (sym is) among)))) ∙ h;
  copies = λ callee inputs values s is long h. ap (λ t. was t i x) (frame_is callee (with_inputs values) s)
      ∙ seen_changed (shows x) callee i (with_inputs values) s (λ same frame. refl) ∙ h;
}

-- ---- lengths

pub record Long (w : Setting) (k : ℕ) (h : Frame → Frame) : Type 0 where
  pub now : (frame : Frame) (unit : UnitDef) → unit_at w k ≡ Some unit → length frame.now ≡ length unit.vars → length (h frame).now
      ≡ length unit.vars
  pub before : (frame : Frame) (unit : UnitDef) → unit_at w k ≡ Some unit → length frame.before ≡ length unit.vars →
      length (h frame).before ≡ length unit.vars

pub step_framed : (w : Setting) (k : ℕ) (h : Frame → Frame) (s : Store) → Long w k h → Framed w s → Framed w (changed k h s)
step_framed w k h s long framed = record {
  now = λ j frame unit at is. (by_test j frame unit at is (nat_eq j k) refl).0;
  before = λ j frame unit at is. (by_test j frame unit at is (nat_eq j k) refl).1;
}
  where
    by_test : (j : ℕ) (frame : Frame) (unit : UnitDef) → slice_get (changed k h s) j ≡ Some frame → unit_at w j ≡ Some unit →
        (b : Bool) → nat_eq j k ≡ b → (length frame.now ≡ length unit.vars) × (length frame.before ≡ length unit.vars)
    by_test j frame unit at is true e =
        let same : j ≡ k = eqb-true j k e in
        let there : slice_get (changed k h s) k ≡ Some frame = subst (λ j. slice_get (changed k h s) j ≡ Some frame) same at in
        let here : unit_at w k ≡ Some unit = subst (λ j. unit_at w j ≡ Some unit) same is in
        let old = found h (slice_get s k) frame (sym (got_changed k h s) ∙ there) in (
          subst (λ (f : Frame). length f.now ≡ length unit.vars) old.2 (long.now old.0 unit here (framed.now k old.0 unit old.1 here)),
          subst (λ (f : Frame). length f.before ≡ length unit.vars) old.2 (long.before old.0 unit here (framed.before k old.0 unit old.1 here)),
        )
    by_test j frame unit at is false e =
        let there : slice_get s j ≡ Some frame = sym (got_other k j h s (λ same. absurd (cc (e, eq-eqb j k same)))) ∙ at in
        (framed.now j frame unit there is, framed.before j frame unit there is)

remembered_length : (k : ℕ) (frame : Frame) → length (remember k frame).before ≡ length frame.before
remembered_length k frame = by_value (slice_get frame.now k)
  where
    by_value : (o : Option Value) → length (unwrap_or (option_map (slice_set frame.before k) o) frame.before) ≡ length frame.before
    by_value None = refl
    by_value (Some v) = set_length frame.before k v

pub copied_length : (n : ℕ) (unit : UnitDef) (values old : List Value) → InputsFit n unit → length values ≡ n → length old
    ≡ length unit.vars →
    length (values ++ drop (length values) old) ≡ length unit.vars
copied_length n unit values old fit long is =
    let one = fit.0 in let two = fit.1 in front_length values old (omega (arith, one, two, long, is)) ∙ is

pub framed_stays : (w : Setting) (i : ℕ) (effect : Effect) → CopiesFit w effect → Closed w i effect (Framed w)
framed_stays w i effect fit = record {
  puts = λ path v s h. subst (Framed w) (sym (put_is (home w (record { instance = i; path = path })) v s))
      (step_framed w (home w (record { instance = i; path = path })).instance (frame_put (home w (record { instance = i; path = path })) v) s
      (record { now = λ frame unit is long. changed_length _ _ frame.now ∙ long; before = λ frame unit is long. long }) h);
  results = λ v s h. subst (Framed w) (sym (frame_is i (with_result v) s))
      (step_framed w i (with_result v) s (record { now = λ frame unit is long. long; before = λ frame unit is long. long }) h);
  remembers = λ k s among h. subst (Framed w) (sym (frame_is i (remember k) s))
      (step_framed w i (remember k) s (record {
        now = λ frame unit is long. long;
        before = λ frame unit is long. remembered_length k frame ∙ long;
      }) h);
  copies = λ callee inputs values s is long h. subst (Framed w) (sym (frame_is callee (with_inputs values) s))
      (step_framed w callee (with_inputs values) s (record {
        now = λ frame unit at old. copied_length (length inputs) unit values frame.now
            (subst (CopiesFit w) is fit unit at) long old;
        before = λ frame unit at old. old;
      }) h);
}
