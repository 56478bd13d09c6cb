-- What a deed of what is left of a body touches: homes of the instance's paths that the body's statements name, and what is inside its calls.
use Rattle.std.proofs.Common.{◌≡◌, ◌⊎◌, inl, inr, ℕ, Bool, true, false, ◌&&◌, ◌||◌, List, [], ◌∷◌, ◌++◌, map, refl, sym, ap, ◌∙◌, subst, append-nil, eq-eqb}
use Rattle.std.proofs.Common.{eqb-true}
use Rattle.std.specs.Prelude.{nat_eq, ⊤}
use Rattle.std.specs.List.{list_any}
use Rattle.std.proofs.lemmas.Bool.{and_from, or_left, or_right}
use Rattle.bl_tree.proofs.Basics.{and_first, and_second}
use Rattle.bl_tree.specs.declared.place.Place.{Place}
use Rattle.bl_tree.specs.declared.static_path.Static.{Static}
use Rattle.bl_tree.specs.declared.tree.Arm.{Arm}
use Rattle.bl_tree.specs.declared.tree.Branch.{Branch}
use Rattle.bl_tree.specs.declared.tree.Path.{Path}
use Rattle.bl_tree.specs.declared.tree.Stmt.{Stmt, fold_out-Stmt, out-Stmt}
use Rattle.bl_tree.specs.declared.tree.StmtKind.{StmtKind, fold_out-StmtKind}
use Rattle.bl_tree.specs.declared.tree.StmtKind.TheOpen.{StmtKind-F}
use Rattle.bl_tree.specs.declared.tree.StructDef.{StructDef}
use Rattle.bl_tree.specs.declared.tree.Unit.{Unit as UnitDef}
use Rattle.bl_tree.specs.Apart.{Naming, arm_naming, branch_naming, naming_of, roots_in, stmt_kind_naming, stmt_layer_naming}
use Rattle.bl_tree.specs.Effects.{arm_writes, branch_paths, kind_writes, reads, stmt_set, target_static, writes}
use Rattle.bl_tree.specs.Program.{IsWellTyped}
use Rattle.bl_tree.specs.Reduce.{joined}
use Rattle.bl_tree.specs.Static.{is_front, mentions, set_of, static_of, whole}
use Rattle.bl_tree.proofs.FirstLemmas.{In, contains_in, in_contains}
use Rattle.bl_graph_nodes.specs.Plain.{Block, Plain, Act, Again, Await, Cobegin, If, Repeat, Run as RunOf, Until, When, While}
use Rattle.bl_ctree.specs.Actions.{Effect, Silent, Acts, Asks, Copies, Gives, effect_reads}
use Rattle.bl_ctree.specs.Instances.{Setting, setting_of}
use Rattle.bl_ctree.specs.Positions.{stmt_kind}
use Rattle.bl_ctree.specs.Store.{Location, home, homes, whole_of}
use Rattle.bl_ctree_laws.specs.Pending.{Deed}
use Rattle.bl_ctree_laws.specs.Steps.{Anyway, Moves}
use Rattle.bl_ctree_laws.specs.Trees.{Tree}
use Rattle.bl_ctree_laws.proofs.Less.{may_is_could}
use Rattle.bl_ctree_laws_confluence.specs.Stores.{homes_of}
use Rattle.bl_ctree_laws_confluence.specs.Deeds.Deeds.{effect_frames, effect_looks, effect_names, effect_remembers, effect_results, effect_writes}
use Rattle.bl_ctree_laws_confluence.specs.Deeds.Deeds.{kind_remembers}
use Rattle.bl_ctree_laws_confluence.specs.Deeds.Nesting.{Inside, IsOutput}
use Rattle.bl_ctree_laws_confluence.proofs.OnDeeds.Nesting.{programs_nest}
use Rattle.bl_ctree_laws_confluence.specs.Apart.Named.{OneOf, effect_declares, effect_roots}
use Rattle.bl_ctree_laws_confluence.specs.Apart.Outputs.{RunsWith}
use Rattle.bl_ctree_laws_confluence.specs.Apart.Owned.{HasEffect, IsInsideCall, Own, RunsAt, SomeIn}
use Rattle.bl_ctree_laws_confluence.specs.Apart.Parted.{BranchStep}
use Rattle.bl_ctree_laws_confluence.specs.Apart.Returns.{Returns}
use Rattle.bl_ctree_laws_confluence.specs.Apart.Seen.{CallsMatchCallees}
use Rattle.bl_ctree_laws_confluence.specs.Apart.Writing.{StatementWrites}
use Rattle.bl_ctree_laws_confluence.proofs.OnApart.Calls.{inside_both}
use Rattle.bl_ctree_laws_confluence.proofs.OnApart.Frames.{frames_are_of_calls_so, picked, results_are_of_calls_so}
use Rattle.bl_ctree_laws_confluence.proofs.OnApart.Members.{in_left, in_right}
use Rattle.bl_ctree_laws_confluence.proofs.OnApart.Named.{naming_parts}
use Rattle.bl_ctree_laws_confluence.proofs.OnApart.Outputs.{left_calls_stand_so}
use Rattle.bl_ctree_laws_confluence.proofs.OnApart.Owned.{deeds_are_of_bodies_so}
use Rattle.bl_ctree_laws_confluence.specs.Independent.Sides.{Side}
use Rattle.bl_ctree_laws_confluence.proofs.OnIndependent.Homes.{At, at_more, inner, kept, outer}
use Rattle.bl_ctree_laws_confluence.proofs.OnIndependent.Inside.{frames_are_inside_so}
use Rattle.bl_ctree_laws_confluence.proofs.OnApart.Told.{written_parts}

-- ---- members of lists

pub from_map : {A B : Type 0} (f : A → B) (y : B) (xs : List A) → In y (map f xs) → (x : A) × (In x xs × (y ≡ f x))
from_map f y [] there = absurd there
from_map f y (x ∷ xs) (inl is) = (x, (inl refl, is))
from_map f y (x ∷ xs) (inr more) = let one = from_map f y xs more in (one.0, (inr one.1.0, one.1.1))

map_split : {A B : Type 0} (f : A → B) (y : B) (xs ys : List A) → In y (map f (xs ++ ys)) → In y (map f xs) ⊎ In y (map f ys)
map_split f y [] ys there = inr there
map_split f y (x ∷ xs) ys (inl is) = inl (inl is)
map_split f y (x ∷ xs) ys (inr more) = by_part (map_split f y xs ys more)
  where
    by_part : In y (map f xs) ⊎ In y (map f ys) → In y (map f (x ∷ xs)) ⊎ In y (map f ys)
    by_part (inl one) = inl (inr one)
    by_part (inr one) = inr one

one_of : (k : ℕ) (xs : List ℕ) → In k xs → OneOf k xs
one_of k [] there = absurd there
one_of k (x ∷ xs) (inl is) = or_left (nat_eq k x) (list_any (nat_eq k) xs) (eq-eqb k x is)
one_of k (x ∷ xs) (inr more) = or_right (nat_eq k x) (list_any (nat_eq k) xs) (one_of k xs more)

-- what passes a test in a list is one of it
some_of : {A : Type 0} (test : A → Bool) (xs : List A) → list_any test xs ≡ true → (x : A) × (In x xs × (test x ≡ true))
some_of test [] e = absurd cc
some_of test (x ∷ xs) e = by_test (test x) refl e (some_of test xs)
  where
    by_test : (b : Bool) → test x ≡ b → (b || list_any test xs) ≡ true →
        (list_any test xs ≡ true → (y : _) × (In y xs × (test y ≡ true))) → (y : _) × (In y (x ∷ xs) × (test y ≡ true))
    by_test true is e more = (x, (inl refl, is))
    by_test false is e more = let one = more e in (one.0, (inr one.1.0, one.1.1))

pub any_in : {A : Type 0} (test : A → Bool) (xs : List A) (x : A) → In x xs → test x ≡ true → list_any test xs ≡ true
any_in test [] x there is = absurd there
any_in test (y ∷ ys) x (inl same) is = or_left (test y) (list_any test ys) (subst (λ x. test x ≡ true) same is)
any_in test (y ∷ ys) x (inr more) is = or_right (test y) (list_any test ys) (any_in test ys x more is)

-- ---- one path

pub front_itself : (xs : List ℕ) → is_front xs xs ≡ true
front_itself [] = refl
front_itself (x ∷ xs) = and_from (nat_eq x x) (is_front xs xs) (eq-eqb x x refl) (front_itself xs)

front_both : (xs ys : List ℕ) → is_front xs ys ≡ true → is_front ys xs ≡ true → xs ≡ ys
front_both [] [] e f = refl
front_both [] (y ∷ ys) e f = absurd cc
front_both (x ∷ xs) [] e f = absurd cc
front_both (x ∷ xs) (y ∷ ys) e f =
    let heads : x ≡ y = eqb-true x y (and_first (nat_eq x y) (is_front xs ys) e) in
    let tails : xs ≡ ys = front_both xs ys (and_second (nat_eq x y) (is_front xs ys) e) (and_second (nat_eq y x) (is_front ys xs) f) in
    λ j. heads j ∷ tails j

-- whether the two are one
abbrev same_path : Static → Static → Bool
same_path a b = nat_eq a.root b.root && (is_front a.fields b.fields && is_front b.fields a.fields)

path_itself : (a : Static) → same_path a a ≡ true
path_itself a =
    and_from (nat_eq a.root a.root) (is_front a.fields a.fields && is_front a.fields a.fields) (eq-eqb a.root a.root refl)
    (and_from (is_front a.fields a.fields) (is_front a.fields a.fields) (front_itself a.fields) (front_itself a.fields))

same_path_is : (a b : Static) → same_path a b ≡ true → a ≡ b
same_path_is a b e =
    let fronts : Bool = is_front a.fields b.fields && is_front b.fields a.fields in
    let roots : a.root ≡ b.root = eqb-true a.root b.root (and_first (nat_eq a.root b.root) fronts e) in
    let both = and_second (nat_eq a.root b.root) fronts e in
    let fields : a.fields ≡ b.fields =
    front_both a.fields b.fields (and_first (is_front a.fields b.fields) (is_front b.fields a.fields) both)
    (and_second (is_front a.fields b.fields) (is_front b.fields a.fields) both) in
    λ j. record { root = roots j; fields = fields j }

-- ---- what an effect touches, as paths

-- what it looks at it reads or writes
pub looks_split : (w : Setting) (i : ℕ) (e : Effect) (over : Location) → In over (effect_looks w i e) →
    In over (effect_reads w i e) ⊎ In over (effect_writes w i e)
looks_split w i Silent over there = absurd there
looks_split w i (Acts s) over there = map_split (λ path. home w (record { instance = i; path = path })) over (reads s) (writes s) there
looks_split w i (Asks e) over there = inl there
looks_split w i (Copies callee inputs) over there = inl there
looks_split w i (Gives callee target) over there = inr there

-- a home of a path of the instance
abbrev PathHome : Setting → ℕ → Location → Type 0
PathHome w i at = (path : Static) × (at ≡ home w (record { instance = i; path = path }))

of_homes : (w : Setting) (i : ℕ) (paths : List Static) (at : Location) → In at (homes w i paths) → PathHome w i at
of_homes w i paths at there = let one = from_map (λ path. home w (record { instance = i; path = path })) at paths there in (one.0, one.1.1)

looked : (w : Setting) (i : ℕ) (e : Effect) (over : Location) → In over (effect_looks w i e) → PathHome w i over
looked w i Silent over there = absurd there
looked w i (Acts s) over there = of_homes w i (reads s ++ writes s) over there
looked w i (Asks e) over there = of_homes w i (mentions e) over there
looked w i (Copies callee inputs) over there = of_homes w i (joined (map mentions inputs)) over there
looked w i (Gives callee target) over there = of_homes w i (target_static target) over there

written : (w : Setting) (i : ℕ) (e : Effect) (at : Location) → In at (effect_writes w i e) → PathHome w i at
written w i Silent at there = absurd there
written w i (Acts s) at there = of_homes w i (writes s) at there
written w i (Asks e) at there = absurd there
written w i (Copies callee inputs) at there = absurd there
written w i (Gives callee target) at there = of_homes w i (target_static target) at there

-- the home of a variable that the effect names
abbrev NamedHome : Setting → ℕ → Effect → Location → Type 0
NamedHome w i e at = (k : ℕ) × (OneOf k (effect_roots e) × (at ≡ home w (whole_of i k)))

of_variables : (w : Setting) (i : ℕ) (ks : List ℕ) (at : Location) → In at (homes_of w i ks) →
    (k : ℕ) × (OneOf k ks × (at ≡ home w (whole_of i k)))
of_variables w i ks at there = let one = from_map (λ k. home w (whole_of i k)) at ks there in (one.0, (one_of one.0 ks one.1.0, one.1.1))

named : (w : Setting) (i : ℕ) (e : Effect) (over : Location) → In over (effect_names w i e) → NamedHome w i e over
named w i Silent over there = absurd there
named w i (Acts s) over there = of_variables w i (naming_of s).named over there
named w i (Asks e) over there = of_variables w i (roots_in e) over there
named w i (Copies callee inputs) over there = of_variables w i (joined (map roots_in inputs)) over there
named w i (Gives callee target) over there = absurd there

-- ---- declarations

naming_out : (s : Stmt) → naming_of s ≡ stmt_kind_naming (naming_parts (stmt_kind s))
naming_out s =
    fold_out-Stmt Naming Naming Naming Naming stmt_kind_naming arm_naming branch_naming stmt_layer_naming s
    ∙ fold_out-StmtKind Naming Naming Naming Naming stmt_kind_naming arm_naming branch_naming stmt_layer_naming (out-Stmt s).what

writes_out : (s : Stmt) → writes s ≡ set_of (kind_writes (written_parts (stmt_kind s)))
writes_out s =
    fold_out-Stmt (List Static) (List Static) (List Static) (List Static) kind_writes arm_writes branch_paths stmt_set s
    ∙ ap set_of (fold_out-StmtKind (List Static) (List Static) (List Static) (List Static) kind_writes arm_writes branch_paths stmt_set (out-Stmt s).what)

-- a statement of the kind that sets what a variable was before declares it, and writes it as a whole
record Declaring (i : ℕ) (layer : StmtKind-F StmtKind Arm Branch Stmt) (at : Location) : Type 0 where
  variable : ℕ
  is : at ≡ whole_of i variable
  declares : OneOf variable (stmt_kind_naming (naming_parts layer)).declared
  writes_it : In (whole variable) (set_of (kind_writes (written_parts layer)))

declaring : (i : ℕ) (layer : StmtKind-F StmtKind Arm Branch Stmt) (at : Location) → In at (kind_remembers i layer) → Declaring i layer at
declaring i (StmtKind-F.Declare k initial) at (inl is) = record {
  variable = k;
  is = is;
  declares = one_of k (k ∷ []) (inl refl);
  writes_it = inl refl;
}
declaring i (StmtKind-F.Declare k initial) at (inr none) = absurd none
declaring i (StmtKind-F.Assign path e) at there = absurd there
declaring i (StmtKind-F.Call f inputs outputs) at there = absurd there
declaring i (StmtKind-F.Await e) at there = absurd there
declaring i (StmtKind-F.Run target a inputs outputs) at there = absurd there
declaring i (StmtKind-F.If arms other) at there = absurd there
declaring i (StmtKind-F.Cobegin branches) at there = absurd there
declaring i (StmtKind-F.When guard e body) at there = absurd there
declaring i (StmtKind-F.Repeat body) at there = absurd there
declaring i (StmtKind-F.Until body e) at there = absurd there
declaring i (StmtKind-F.While e body) at there = absurd there
declaring i (StmtKind-F.Return e) at there = absurd there

-- the variable that an effect declares
record Remembered (i : ℕ) (e : Effect) (at : Location) : Type 0 where
  variable : ℕ
  is : at ≡ whole_of i variable
  declares : OneOf variable (effect_declares e)

remembered : (i : ℕ) (e : Effect) (at : Location) → In at (effect_remembers i e) → Remembered i e at
remembered i Silent at there = absurd there
remembered i (Acts s) at there =
    let one = declaring i (stmt_kind s) at there in
    record {
      variable = one.variable;
      is = one.is;
      declares = subst (λ n. OneOf one.variable n.declared) (sym (naming_out s)) one.declares;
    }
remembered i (Asks e) at there = absurd there
remembered i (Copies callee inputs) at there = absurd there
remembered i (Gives callee target) at there = absurd there

-- ---- what a statement does

module _ (w : Setting) (i : ℕ) (effect : Effect) (at : Location) where
  -- it writes the path that has this home
  module _ (has : In at (effect_writes w i effect)) where
    has_other : (other : Effect) → effect ≡ other → In at (effect_writes w i other)
    has_other other is = subst (λ effect. In at (effect_writes w i effect)) is has

    writes_path : (s : Plain) → HasEffect w i effect s → (k : PathHome w i at) × StatementWrites k.0 s
    writes_path (Act l s) is =
        let one = from_map (λ path. home w (record { instance = i; path = path })) at (writes s) (has_other (Acts s) is) in
        ((one.0, one.1.1), in_contains one.0 (writes s) one.1.0)
    writes_path (Await l place e) (inl is) = absurd (has_other Silent is)
    writes_path (Await l place e) (inr is) = absurd (has_other (Asks e) is)
    writes_path (RunOf l place target a inputs outputs) (callee, (begins, inl is)) = absurd (has_other (Copies callee inputs) is)
    writes_path (RunOf l place target a inputs outputs) (callee, (begins, inr is)) =
        let one = from_map (λ path. home w (record { instance = i; path = path })) at (target_static target) (has_other (Gives callee target) is) in (
          (one.0, one.1.1),
          in_contains one.0 (target_static target ++ map static_of outputs)
              (in_left one.0 (target_static target) (map static_of outputs) one.1.0),
        )
    writes_path (If l place e body other) is = absurd (has_other (Asks e) is)
    writes_path (Cobegin l place bodies) is = absurd (has_other Silent is)
    writes_path (When l place guard e body) (inl is) = absurd (has_other Silent is)
    writes_path (When l place guard e body) (inr is) = absurd (has_other (Asks e) is)
    writes_path (Repeat l place body) is = absurd (has_other Silent is)
    writes_path (Until l place body e) (inl is) = absurd (has_other Silent is)
    writes_path (Until l place body e) (inr is) = absurd (has_other (Asks e) is)
    writes_path (While l place e body) is = absurd (has_other (Asks e) is)
    writes_path (Again l place body e) (inl is) = absurd (has_other Silent is)
    writes_path (Again l place body e) (inr is) = absurd (has_other (Asks e) is)

  -- it declares the variable that is there
  module _ (has : In at (effect_remembers i effect)) where
    kept_other : (other : Effect) → effect ≡ other → In at (effect_remembers i other)
    kept_other other is = subst (λ effect. In at (effect_remembers i effect)) is has

    declares_there : (s : Plain) → HasEffect w i effect s → (k : (k : ℕ) × (at ≡ whole_of i k)) × StatementWrites (whole k.0) s
    declares_there (Act l s) is =
        let one = declaring i (stmt_kind s) at (kept_other (Acts s) is) in
        ((one.variable, one.is), in_contains (whole one.variable) (writes s) (subst (In (whole one.variable)) (sym (writes_out s)) one.writes_it))
    declares_there (Await l place e) (inl is) = absurd (kept_other Silent is)
    declares_there (Await l place e) (inr is) = absurd (kept_other (Asks e) is)
    declares_there (RunOf l place target a inputs outputs) (callee, (begins, inl is)) = absurd (kept_other (Copies callee inputs) is)
    declares_there (RunOf l place target a inputs outputs) (callee, (begins, inr is)) = absurd (kept_other (Gives callee target) is)
    declares_there (If l place e body other) is = absurd (kept_other (Asks e) is)
    declares_there (Cobegin l place bodies) is = absurd (kept_other Silent is)
    declares_there (When l place guard e body) (inl is) = absurd (kept_other Silent is)
    declares_there (When l place guard e body) (inr is) = absurd (kept_other (Asks e) is)
    declares_there (Repeat l place body) is = absurd (kept_other Silent is)
    declares_there (Until l place body e) (inl is) = absurd (kept_other Silent is)
    declares_there (Until l place body e) (inr is) = absurd (kept_other (Asks e) is)
    declares_there (While l place e body) is = absurd (kept_other (Asks e) is)
    declares_there (Again l place body e) (inl is) = absurd (kept_other Silent is)
    declares_there (Again l place body e) (inr is) = absurd (kept_other (Asks e) is)

-- a `run` at a place has some outputs
has_outs : (place : Place) (s : Plain) → RunsAt place s → (outputs : List Path) × RunsWith place outputs s
has_outs place (RunOf l at target a inputs outputs) is = (outputs, (is, refl))
has_outs place (Act l s) none = absurd none
has_outs place (Await l at e) none = absurd none
has_outs place (If l at e body other) none = absurd none
has_outs place (Cobegin l at bodies) none = absurd none
has_outs place (When l at guard e body) none = absurd none
has_outs place (Repeat l at body) none = absurd none
has_outs place (Until l at body e) none = absurd none
has_outs place (While l at e body) none = absurd none
has_outs place (Again l at body e) none = absurd none

-- and writes them
writes_outs : (place : Place) (outputs : List Path) (path : Static) → In path (map static_of outputs) → (s : Plain) → RunsWith place outputs s →
    ⊤ × StatementWrites path s
writes_outs place outputs path there (RunOf l at target a inputs outs) is = (
  tt,
  in_contains path (target_static target ++ map static_of outs)
      (in_right path (target_static target) (map static_of outs) (subst (λ outs. In path (map static_of outs)) (sym is.1) there)),
)
writes_outs place outputs path there (Act l s) none = absurd none
writes_outs place outputs path there (Await l at e) none = absurd none
writes_outs place outputs path there (If l at e body other) none = absurd none
writes_outs place outputs path there (Cobegin l at bodies) none = absurd none
writes_outs place outputs path there (When l at guard e body) none = absurd none
writes_outs place outputs path there (Repeat l at body) none = absurd none
writes_outs place outputs path there (Until l at body e) none = absurd none
writes_outs place outputs path there (While l at e body) none = absurd none
writes_outs place outputs path there (Again l at body e) none = absurd none

-- the effect of a statement of the body declares the variable of the path, which is written as a whole
pub record DeclaredIn (w : Setting) (i : ℕ) (body : Block) (path : Static) : Type 0 where
  pub effect : Effect
  pub does : SomeIn (HasEffect w i effect) body
  pub declares : OneOf path.root (effect_declares effect)
  pub writes_it : SomeIn (StatementWrites path) body

-- the effect of a statement of the body names the variable of the path
pub record NamedIn (w : Setting) (i : ℕ) (body : Block) (path : Static) : Type 0 where
  pub effect : Effect
  pub does : SomeIn (HasEffect w i effect) body
  pub names : OneOf path.root (effect_roots effect)

module _ (structs : List StructDef) (units : List UnitDef) (entry : ℕ) (keeps : IsWellTyped structs units entry) (i : ℕ) (body : Block)
    (side : Side (setting_of structs units entry) i body) where
  abbrev W : Setting
  W = setting_of structs units entry

  abbrev A : (Static → Type 0) → Location → Type 0
  A = At structs units entry i body

  abbrev WrittenIn : Static → Type 0
  WrittenIn path = SomeIn (StatementWrites path) body

  -- the home of an instance inside a call is inside it, or that of an output, which the `run` writes
  called_home : (k : ℕ) → IsInsideCall W i body k → (path : Static) → A WrittenIn (home W (record { instance = k; path = path }))
  called_home k called path = by_home ((programs_nest structs units entry).homes i called.callee k called.place path called.begins called.inside)
    where
      outputs : (outputs : List Path) × SomeIn (RunsWith called.place outputs) body
      outputs = picked (RunsAt called.place) (λ outputs. RunsWith called.place outputs) (has_outs called.place) body called.stands

      is_written : (out : IsOutput W i called.callee (record { instance = k; path = path })) → WrittenIn out.output
      is_written out =
          let some : list_any (same_path out.output) (map static_of outputs.0) ≡ true =
          side.outputs called.place outputs.0 called.callee outputs.1 called.begins out.instance out.origin (same_path out.output) out.there out.began
          (any_in (same_path out.output) out.origin.outputs out.output (contains_in out.output out.origin.outputs out.is_output) (path_itself out.output)) in
          let one = some_of (same_path out.output) (map static_of outputs.0) some in
          let there : In out.output (map static_of outputs.0) =
          subst (λ path. In path (map static_of outputs.0)) (sym (same_path_is out.output one.0 one.1.1)) one.1.0 in
          (picked (RunsWith called.place outputs.0) (λ k. StatementWrites out.output) (writes_outs called.place outputs.0 out.output there) body outputs.1).1

      by_home : Inside W called.callee (home W (record {
        instance =
            k;
        path = path;
      })).instance ⊎ IsOutput W i called.callee (record { instance = k; path = path })
          → A WrittenIn (home W (record { instance = k; path = path }))
      by_home (inl inside) =
          inner (record { place = called.place; stands = called.stands; callee = called.callee; begins = called.begins; inside = inside })
      by_home (inr out) = outer out.output out.fields out.leads (is_written out)

  -- the home of a path of the instance itself
  own_home : {P : Static → Type 0} (path : Static) → P path → A P (home W (record { instance = i; path = path }))
  own_home path holds =
      outer path []
      (ap (λ fields. home W (record { instance = i; path = record { root = path.root; fields = fields } })) (sym (append-nil path.fields))) holds

  module _ {stood : Bool} {c : Tree} {a : Deed} (step : BranchStep W stood i body c a) where
    pub moving : Moves Anyway W i c step.answer a step.label step.after
    moving = may_is_could W i c step.answer a step.label step.after step.moves

    pub stand : CallsMatchCallees W i c
    stand = left_calls_stand_so structs units entry stood i body c keeps side.outputs step.left

    owned : Own W i body a ⊎ IsInsideCall W i body a.instance
    owned = deeds_are_of_bodies_so W stood i body c step.answer a step.label step.after step.left moving

    -- what is so of the deed's own effect in the instance, or in a called one
    by_owner : (Goal : ℕ → Type 0) → (SomeIn (HasEffect W i a.effect) body → Goal i) → (IsInsideCall W i body a.instance → Goal a.instance) → Goal a.instance
    by_owner Goal own called = by owned
      where
        by : Own W i body a ⊎ IsInsideCall W i body a.instance → Goal a.instance
        by (inl one) = subst Goal (sym one.instance) (own one.does)
        by (inr one) = called one

    pub writes_at : (at : Location) → In at (effect_writes W a.instance a.effect) → A WrittenIn at
    writes_at at = by_owner (λ k. In at (effect_writes W k a.effect) → A WrittenIn at)
        (λ does there.
        let one = picked (HasEffect W i a.effect) (λ k. StatementWrites k.0) (writes_path W i a.effect at there) body does in
        subst (A WrittenIn) (sym one.0.1) (own_home one.0.0 one.1))
        (λ called there.
        let one = written W a.instance a.effect at there in
        subst (A WrittenIn) (sym one.1) (called_home a.instance called one.0))

    pub looks_at : (at : Location) → In at (effect_looks W a.instance a.effect) → A (λ path. ⊤) at
    looks_at at = by_owner (λ k. In at (effect_looks W k a.effect) → A (λ path. ⊤) at)
        (λ does there.
        let one = looked W i a.effect at there in
        subst (A (λ path. ⊤)) (sym one.1) (own_home one.0 tt))
        (λ called there.
        let one = looked W a.instance a.effect at there in
        subst (A (λ path. ⊤)) (sym one.1) (at_more structs units entry (λ path written. tt) (called_home a.instance called one.0)))

    pub names_at : (at : Location) → In at (effect_names W a.instance a.effect) → A (λ path. NamedIn W i body path ⊎ WrittenIn path) at
    names_at at = by_owner (λ k. In at (effect_names W k a.effect) → A (λ path. NamedIn W i body path ⊎ WrittenIn path) at)
        (λ does there.
        let one = named W i a.effect at there in
        subst (A (λ path. NamedIn W i body path ⊎ WrittenIn path)) (sym one.1.1)
        (own_home (whole one.0) (inl (record { effect = a.effect; does = does; names = one.1.0 }))))
        (λ called there.
        let one = named W a.instance a.effect at there in
        subst (A (λ path. NamedIn W i body path ⊎ WrittenIn path)) (sym one.1.1)
        (at_more structs units entry (λ path written. inr written) (called_home a.instance called (whole one.0))))

    pub remembers_at : (at : Location) → In at (effect_remembers a.instance a.effect) → A (DeclaredIn W i body) at
    remembers_at at = by_owner (λ k. In at (effect_remembers k a.effect) → A (DeclaredIn W i body) at)
        (λ does there.
        let one = picked (HasEffect W i a.effect) (λ k. StatementWrites (whole k.0)) (declares_there W i a.effect at there) body does in
        let declared = remembered i a.effect at there in
        kept one.0.0 one.0.1 (record {
          effect = a.effect;
          does = does;
          declares = subst (λ k. OneOf k (effect_declares a.effect)) (ap (λ at. at.path.root) (sym declared.is ∙ one.0.1)) declared.declares;
          writes_it = one.1;
        }))
        (λ called there. inner (subst (IsInsideCall W i body) (sym (ap (λ at. at.instance) (remembered a.instance a.effect at there).is)) called))

    inside : (frame : ℕ) → Inside W a.instance frame → IsInsideCall W i body a.instance → IsInsideCall W i body frame
    inside frame below called =
        record { place = called.place; stands = called.stands; callee = called.callee; begins = called.begins; inside = inside_both called.inside below }

    pub frames_at : (frame : ℕ) → In frame (effect_frames a.instance a.effect) → IsInsideCall W i body frame
    frames_at frame = by_owner (λ k. In frame (effect_frames k a.effect) → IsInsideCall W i body frame)
        (λ does there. by_frame (frames_are_of_calls_so W i body a.effect frame does (in_contains frame (effect_frames i a.effect) there)))
        (λ called there. inside frame (frames_are_inside_so W i c step.answer a step.label step.after frame stand moving
        (inl (in_contains frame (effect_frames a.instance a.effect) there))) called)
      where
        by_frame : ((frame ≡ i) × SomeIn Returns body) ⊎ IsInsideCall W i body frame → IsInsideCall W i body frame
        by_frame (inl one) = absurd (side.returns one.1)
        by_frame (inr one) = one

    pub results_at : (frame : ℕ) → In frame (effect_results a.effect) → IsInsideCall W i body frame
    results_at frame there = by_owner (λ k. IsInsideCall W i body frame)
        (λ does. results_are_of_calls_so W i body a.effect frame does (in_contains frame (effect_results a.effect) there))
        (λ called. inside frame (frames_are_inside_so W i c step.answer a step.label step.after frame stand moving
        (inr (in_contains frame (effect_results a.effect) there))) called)
