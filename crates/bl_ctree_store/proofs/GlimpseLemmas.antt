-- What is seen of the variables that an expression or an act names is all that it needs.
use Rattle.std.proofs.Common.{◌≡◌, ℕ, Bool, true, false, List, [], ◌∷◌, ◌++◌, ◌<◌, zero, suc, arith, get_or, length, map, Option, Some, None, refl, sym, ap, ◌∙◌, subst}
use Rattle.std.specs.Prelude.{Result, Ok, Err, IfOk, option_and_then, option_map, slice_get, unwrap_or, if◌then◌else◌}
use Rattle.bl_tree.specs.declared.memory.NoMemory.{NoMemory}
use Rattle.bl_tree.specs.declared.tree.Expr.{Expr}
use Rattle.bl_tree.specs.declared.tree.Path.{Path, fold_out-Path, out-Path}
use Rattle.bl_tree.specs.declared.tree.Arm.{Arm}
use Rattle.bl_tree.specs.declared.tree.Branch.{Branch}
use Rattle.bl_tree.specs.declared.tree.Stmt.{Stmt}
use Rattle.bl_tree.specs.declared.tree.StmtKind.{StmtKind}
use Rattle.bl_tree.specs.declared.tree.StmtKind.TheOpen.{StmtKind-F}
use Rattle.bl_tree.specs.declared.tree.Unit.{Unit as UnitDef}
use Rattle.bl_tree.specs.declared.value.Value.{Value}
use Rattle.bl_tree.specs.Apart.{Roots, argument_roots, expr_layer_roots, kind_roots, part_roots, path_layer_roots, roots_in, roots_in_path}
use Rattle.bl_tree.specs.Reduce.{joined}
use Rattle.bl_tree.specs.Typing.{TypingContext}
use Rattle.bl_eval.specs.Meaning.{View, plain}
use Rattle.bl_eval.specs.Standing.{outcome_in_unit, outcome_of, scope_of, site_at, value_in_unit, value_of}
use Rattle.bl_eval.specs.Values.{value_at}
use Rattle.bl_tree.specs.declared.static_path.Static.{Static}
use Rattle.bl_tree.specs.Static.{Reach, StaticStep, expr_mentions, kind_mentions, part_step, path_reach, placed, precedes, set_of, static_of}
use Rattle.bl_ctree.specs.declared.instance.Instance.{Instance}
use Rattle.bl_ctree.specs.Actions.{outcome_there, value_there}
use Rattle.bl_ctree.specs.Instances.{Setting, unit_of}
use Rattle.bl_ctree.specs.Positions.{stmt_kind}
use Rattle.bl_ctree.specs.Store.{Store, home, put, put_path, put_written, variable_among, vars_at, view_at}
use Rattle.bl_ctree_store.specs.Agree.{Agree, Covers, Same, filled, roots_in_part, roots_of_act}
use Rattle.bl_ctree_store.specs.Deeds.{LeftBy, outcome_by, value_by}
use Rattle.bl_ctree_store.specs.Glimpse.{Glimpses}
use Rattle.bl_ctree_store.specs.Seen.{Sight, count_of, values_in}
use Rattle.bl_ctree_store.specs.declared.view.InstanceView.{InstanceView as ViewNode}
use Rattle.bl_ctree_store.proofs.ActLemmas.{Follows, acted_same}
use Rattle.bl_ctree_store.proofs.AgreeLemmas.{agree_first, agree_second, filled_agree}
use Rattle.bl_ctree_store.proofs.NamedLemmas.{expr_same, same_first, same_second}

-- as many variables as the unit has are those of the instance
count_there : (w : Setting) (i : ℕ) (instance : Instance) → slice_get w.instances i ≡ Some instance → count_of w instance.unit ≡ length (vars_at w i)
count_there w i instance is =
    many (slice_get w.units instance.unit)
    ∙ ap (λ (found : Option Instance). length (unwrap_or (option_map (λ (unit : UnitDef). unit.vars) (option_and_then (unit_of w) found)) [])) (sym is)
  where
    many : (found : Option UnitDef) →
        unwrap_or (option_map (λ (unit : UnitDef). length unit.vars) found) 0 ≡ length (unwrap_or (option_map (λ (unit : UnitDef). unit.vars) found) [])
    many None = refl
    many (Some unit) = refl

-- what is asked for is seen as it is, whatever stood in the view
pub seen_there : (w : Setting) (store : Store) (i : ℕ) (asked : List ℕ) (instance : Instance) (room view : View)
    → slice_get w.instances i ≡ Some instance → length room.now ≡ count_of w instance.unit → length room.before ≡ count_of w instance.unit
    → view.now ≡ filled (variable_among (λ frame. frame.now) w store i) asked room.now
    → view.before ≡ filled (variable_among (λ frame. frame.before) w store i) asked room.before
    → Glimpses asked w store i (Some (record { unit = instance.unit; view = view }))
seen_there w store i asked instance room view is many_now many_before now before = (
  ap (option_map (λ (instance : Instance). instance.unit)) is,
  (
    subst (λ (values : List Value). Agree asked values (view_at w store i).now) (sym now)
        (filled_agree (variable_among (λ frame. frame.now) w store i) (length (vars_at w i)) asked room.now (many_now ∙ count_there w i instance is)),
    subst (λ (values : List Value). Agree asked values (view_at w store i).before) (sym before)
        (filled_agree (variable_among (λ frame. frame.before) w store i) (length (vars_at w i)) asked room.before
        (many_before ∙ count_there w i instance is)),
  ),
)

-- ---- expressions

value_at_site : (e : Expr) (a b : View) (site : Option TypingContext) → Same (roots_in e) a b →
    option_and_then (λ site. value_of site e a) site ≡ option_and_then (λ site. value_of site e b) site
value_at_site e a b None same = refl
value_at_site e a b (Some site) same = ap (option_map plain) (expr_same (scope_of site) a b e same)

module _ (w : Setting) (store : Store) (i : ℕ) where
  value_in_sight : (e : Expr) (sight : Sight) (found : Option Instance) → option_map (λ (instance : Instance). instance.unit) found ≡ Some sight.unit
      → Same (roots_in e) sight.view (view_at w store i) → value_in_unit w.structs w.units sight.unit e sight.view
      ≡ option_and_then (λ (instance : Instance). value_in_unit w.structs w.units instance.unit e (view_at w store i)) found
  value_in_sight e sight None is same = absurd cc
  value_in_sight e sight (Some instance) is same =
      let unit : instance.unit ≡ sight.unit = cc in
      value_at_site e sight.view (view_at w store i) (site_at w.structs w.units sight.unit) same
      ∙ ap (λ (unit : ℕ). value_in_unit w.structs w.units unit e (view_at w store i)) (sym unit)

  -- an expression that names no others than what is asked for
  value_glimpsed : (asked : List ℕ) (e : Expr) → ((a b : View) → Same asked a b → Same (roots_in e) a b) → (sight : Option Sight) →
      Glimpses asked w store i sight → value_by w sight e ≡ value_there w store i e
  value_glimpsed asked e named None none =
      sym (ap (option_and_then (λ (instance : Instance). value_in_unit w.structs w.units instance.unit e (view_at w store i))) none)
  value_glimpsed asked e named (Some sight) seen =
      value_in_sight e sight (slice_get w.instances i) seen.0 (named sight.view (view_at w store i) seen.1)

  pub value_alone : (e : Expr) (sight : Option Sight) → Glimpses (roots_in e) w store i sight → value_by w sight e ≡ value_there w store i e
  value_alone e sight seen = value_glimpsed (roots_in e) e (λ a b same. same) sight seen

  same_at : (inputs : List Expr) (k : ℕ) (e : Expr) (a b : View) → k < length inputs → e ≡ get_or inputs k e →
      Same (joined (map roots_in inputs)) a b → Same (roots_in e) a b
  same_at [] k e a b within is same = absurd (omega arith)
  same_at (first ∷ inputs) zero e a b within is same =
      subst (λ e. Same (roots_in e) a b) (sym is) (same_first (roots_in first) (joined (map roots_in inputs)) a b same)
  same_at (first ∷ inputs) (suc k) e a b within is same =
      same_at inputs k e a b (omega arith) is (same_second (roots_in first) (joined (map roots_in inputs)) a b same)

  -- one of many
  pub value_among_all : (inputs : List Expr) (k : ℕ) (e : Expr) → k < length inputs → e ≡ get_or inputs k e → (sight : Option Sight) →
      Glimpses (joined (map roots_in inputs)) w store i sight → value_by w sight e ≡ value_there w store i e
  value_among_all inputs k e within is sight seen =
      value_glimpsed (joined (map roots_in inputs)) e (λ a b same. same_at inputs k e a b within is same) sight seen

-- ---- acts

agree_follows : (ks : List ℕ) (a b : View) (xs ys : List Value) → Follows a b xs ys → Agree ks a.now b.now → Agree ks xs ys
agree_follows [] a b xs ys follows same = tt
agree_follows (k ∷ ks) a b xs ys follows same = (follows k same.0, agree_follows ks a b xs ys follows same.1)

-- what is put hangs on the variables into which the paths lead
written_same : (w : Setting) (i : ℕ) (paths : List Static) (store : Store) (xs ys : List Value) → Agree (map (λ (path : Static). path.root) paths) xs ys
    → put_written w i xs paths store ≡ put_written w i ys paths store
written_same w i [] store xs ys same = refl
written_same w i (path ∷ rest) store xs ys same =
    ap (λ (found : Option Value). put_written w i xs rest
    (unwrap_or (option_map (λ value. put (home w (record { instance = i; path = path })) value store)
    (option_and_then (value_at path.fields) found)) store)) same.0
    ∙ written_same w i rest (put_path w i ys path store) xs ys same.1

module _ (w : Setting) (i : ℕ) (s : Stmt) (store : Store) (X : Type 0) (shown : List Value → X) where
  abbrev asked : List ℕ
  asked = roots_of_act (stmt_kind s)

  abbrev whole_view : View
  whole_view = view_at w store i

  -- it shows the same of what follows
  abbrev Hangs : View → Type 0
  Hangs part = (xs ys : List Value) → Follows part whole_view xs ys → shown xs ≡ shown ys

  outcome_at_site : (part : View) → Same asked part whole_view → Hangs part → (site : Option TypingContext)
      → option_map shown (option_and_then (λ site. outcome_of site s part) site)
      ≡ option_map shown (option_and_then (λ site. outcome_of site s whole_view) site)
  outcome_at_site part same hangs None = refl
  outcome_at_site part same hangs (Some site) = acted_same (scope_of site) part whole_view X shown hangs (stmt_kind s) same

  outcome_in_sight : (sight : Sight) (found : Option Instance) → option_map (λ (instance : Instance). instance.unit) found ≡ Some sight.unit
      → Same asked sight.view whole_view → Hangs sight.view
      → option_map shown (outcome_in_unit w.structs w.units sight.unit s sight.view)
      ≡ option_map shown (option_and_then (λ (instance : Instance). outcome_in_unit w.structs w.units instance.unit s whole_view) found)
  outcome_in_sight sight None is same hangs = absurd cc
  outcome_in_sight sight (Some instance) is same hangs =
      let unit : instance.unit ≡ sight.unit = cc in
      outcome_at_site sight.view same hangs (site_at w.structs w.units sight.unit)
      ∙ ap (λ (unit : ℕ). option_map shown (outcome_in_unit w.structs w.units unit s whole_view)) (sym unit)

  pub outcome_glimpsed : ((part : View) → Same asked part whole_view → Hangs part) → (sight : Option Sight) → Glimpses asked w store i sight
      → option_map shown (outcome_by w sight s) ≡ option_map shown (outcome_there w store i s)
  outcome_glimpsed hangs None none =
      sym (ap (λ (found : Option Instance). option_map shown
      (option_and_then (λ (instance : Instance). outcome_in_unit w.structs w.units instance.unit s whole_view) found)) none)
  outcome_glimpsed hangs (Some sight) seen =
      outcome_in_sight sight (slice_get w.instances i) seen.0 seen.1 (hangs sight.view seen.1)

-- what is made of the store after an act, from what the act left of the variables that it names
pub written_glimpsed : (w : Setting) (i : ℕ) (s : Stmt) (paths : List Static) (store : Store) (next : Store → Store)
    (left : Option (List Value)) → Covers (roots_of_act (stmt_kind s)) paths → LeftBy w store i s left
    → option_map (λ values. next (put_written w i values paths store)) (outcome_there w store i s)
    ≡ option_map (λ values. next (put_written w i values paths store)) left
written_glimpsed w i s paths store next left covers by =
    let seen = view_at w store i in
    sym (ap (option_map (λ values. next (put_written w i values paths store))) by.left_is
    ∙ outcome_glimpsed w i s store Store (λ values. next (put_written w i values paths store))
    (λ part same xs ys follows. ap next (written_same w i paths store xs ys
    (agree_follows (map (λ (path : Static). path.root) paths) part seen xs ys follows (covers part.now seen.now same.0)))) by.sight by.glimpses)

-- what an act left, where what is seen is as it is to be
pub left_by : (w : Setting) (store : Store) (i : ℕ) (s : Stmt) (named : List ℕ) (sight : Option Sight) (r : Result (Option ViewNode) NoMemory)
    → named ≡ roots_of_act (stmt_kind s) → Glimpses named w store i sight → IfOk r (λ left. option_map values_in left ≡ outcome_by w sight s)
    → IfOk r (λ left. LeftBy w store i s (option_map values_in left))
left_by w store i s named sight (Ok left) is seen by =
    record { sight = sight; glimpses = subst (λ (named : List ℕ). Glimpses named w store i sight) is seen; left_is = by }
left_by w store i s named sight (Err e) is seen by = by

-- ---- the paths that an act writes lead into variables that it names

root_out : (path : Path) → roots_in_path path ≡ (out-Path path).root ∷ joined (map roots_in_part (out-Path path).parts)
root_out path = fold_out-Path Roots Roots Roots Roots kind_roots part_roots expr_layer_roots path_layer_roots path

static_root : (path : Path) → (static_of path).root ≡ (out-Path path).root
static_root path = ap (λ (reach : Reach). reach.static.root)
    (fold_out-Path (List Static) StaticStep (List Static) Reach kind_mentions part_step expr_mentions path_reach path)

root_agrees : (path : Path) (xs ys : List Value) → Agree (roots_in_path path) xs ys →
    slice_get xs (static_of path).root ≡ slice_get ys (static_of path).root
root_agrees path xs ys same =
    subst (λ (k : ℕ). slice_get xs k ≡ slice_get ys k) (sym (static_root path)) (subst (λ (ks : List ℕ). Agree ks xs ys) (root_out path) same).0

outputs_agree : (outputs : List Path) (xs ys : List Value) → Agree (joined (map roots_in_path outputs)) xs ys →
    Agree (map (λ (path : Static). path.root) (map static_of outputs)) xs ys
outputs_agree [] xs ys same = tt
outputs_agree (path ∷ outputs) xs ys same = (
  root_agrees path xs ys (agree_first (roots_in_path path) (joined (map roots_in_path outputs)) xs ys same),
  outputs_agree outputs xs ys (agree_second (roots_in_path path) (joined (map roots_in_path outputs)) xs ys same),
)

by_tests : (path first : Static) (paths behind_first : List Static) (xs ys : List Value) (before behind : Bool) →
    Agree (map (λ (path : Static). path.root) (path ∷ first ∷ paths)) xs ys
    → Agree (map (λ (path : Static). path.root) (first ∷ behind_first)) xs ys
    → Agree (map (λ (path : Static). path.root) (if before then path ∷ first
    ∷ paths else (if behind then first ∷ behind_first else first ∷ paths))) xs ys
by_tests path first paths behind_first xs ys true behind all moved = all
by_tests path first paths behind_first xs ys false true all moved = moved
by_tests path first paths behind_first xs ys false false all moved = all.1

placed_agree : (path : Static) (paths : List Static) (xs ys : List Value) → slice_get xs path.root ≡ slice_get ys path.root →
    Agree (map (λ (path : Static). path.root) paths) xs ys
    → Agree (map (λ (path : Static). path.root) (placed path paths)) xs ys
placed_agree path [] xs ys one same = (one, tt)
placed_agree path (first ∷ paths) xs ys one same =
    by_tests path first paths (placed path paths) xs ys (precedes path first) (precedes first path) (one, same)
    (same.0, placed_agree path paths xs ys one same.1)

set_agrees : (paths : List Static) (xs ys : List Value) → Agree (map (λ (path : Static). path.root) paths) xs ys →
    Agree (map (λ (path : Static). path.root) (set_of paths)) xs ys
set_agrees [] xs ys same = tt
set_agrees (path ∷ paths) xs ys same = placed_agree path (set_of paths) xs ys same.0 (set_agrees paths xs ys same.1)

outputs_covered : (inputs : List Expr) (outputs : List Path) → Covers (argument_roots inputs outputs) (set_of (map static_of outputs))
outputs_covered inputs outputs xs ys same =
    set_agrees (map static_of outputs) xs ys (outputs_agree outputs xs ys
    (agree_second (joined (map roots_in inputs)) (joined (map roots_in_path outputs)) xs ys same))

pub covers_outputs : (kind : StmtKind-F StmtKind Arm Branch Stmt) (f : ℕ) (inputs : List Expr) (outputs : List Path)
    (paths : List Static) → kind ≡ StmtKind-F.Call f inputs outputs
    → paths ≡ set_of (map static_of outputs) → Covers (roots_of_act kind) paths
covers_outputs kind f inputs outputs paths is same xs ys agree =
    subst (λ (paths : List Static). Agree (map (λ (path : Static). path.root) paths) xs ys) (sym same)
    (outputs_covered inputs outputs xs ys (subst (λ (kind : StmtKind-F StmtKind Arm Branch Stmt). Agree (roots_of_act kind) xs ys) is agree))
