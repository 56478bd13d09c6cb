-- Of what a needed unit calls a table of needed units has the same as one of all units.
use Rattle.std.proofs.Common.{◌≡◌, ℕ, zero, suc, ◌≤◌, Bool, true, false, ◌&&◌, ◌||◌, List, [], ◌∷◌, ◌++◌, map, take, Option}
use Rattle.std.proofs.Common.{Some, None, refl, sym, ap, ◌∙◌, subst, arith, codes, nat_eq, eq-eqb, eqb-true}
use Rattle.std.proofs.lemmas.List.Elements.{All-cons, All-nil}
use Rattle.std.proofs.lemmas.Slice.Eq.{bytes_eq-Decides}
use Rattle.std.specs.Prelude.{All, Contains, bytes_eq, is_none, slice_get, if◌then◌else◌}
use Rattle.std.specs.List.{list_any}
use Rattle.std.proofs.lemmas.Bool.{and_from, and_parts, or_left, or_right}
use Rattle.bl_tree.proofs.Basics.{and_first, and_second, any_from, contains_first, contains_further, contains_mapped, either_case, is_none_of, none_from}
use Rattle.bl_tree.specs.declared.c.CFunc.{CFunc}
use Rattle.bl_tree.specs.declared.c.CMember.{CMember}
use Rattle.bl_tree.specs.declared.scalar.Scalar.{Scalar as ScalarType}
use Rattle.bl_tree.specs.declared.text.Text.{Text}
use Rattle.bl_tree.specs.declared.tree.Expr.{Expr}
use Rattle.bl_tree.specs.declared.tree.Path.{Path}
use Rattle.bl_tree.specs.declared.tree.StructDef.{StructDef}
use Rattle.bl_tree.specs.declared.tree.Unit.{Unit as UnitDef}
use Rattle.bl_tree.specs.Typing.{TypingContext, is_activity, run_fits}
use Rattle.bl_tree.specs.Words.{are_distinct}
use Rattle.bl_graph_nodes.specs.Nodes.{ActAt, CheckAt, DepthEndAt, DepthJoinAt, EnterAt, ForkAt, HeadAt, Node, PauseAt}
use Rattle.bl_graph_nodes.specs.Nodes.{ResumeAt, StartAt, SurfaceEndAt, SurfaceJoinAt, TestAt}
use Rattle.bl_machine_pass.specs.Transitions.{Transition, rules}
use Rattle.bl_ctext_semantics.specs.Calls.{calls_in_block}
use Rattle.bl_ctext_semantics.specs.Faults.{Signature, block_faults, context_in, faults_in_function, faults_in_head, faults_in_stmt, names_table, repeated}
use Rattle.bl_ctext_semantics.specs.Faults.{variable_names}
use Rattle.bl_ctext_semantics.specs.Loops.{turns_in_block}
use Rattle.bl_ctext_semantics.specs.Tables.{Table}
use Rattle.bl_ctext_semantics_laws_calls.specs.Called.{FaultsFollow, KnowAlike}
use Rattle.bl_emit_acts.specs.Acts.{name_of_callee}
use Rattle.bl_emit_acts.specs.Expressions.{function_name}
use Rattle.bl_emit_acts.specs.Types.{type_word}
use Rattle.bl_emit_functions_laws_wellformed.proofs.OnFiles.Growing.{names}
use Rattle.bl_emit_functions_laws_wellformed.proofs.OnFiles.Chains.{taken}
use Rattle.bl_emit_functions_laws_wellformed.proofs.OnFiles.Under.{Under, head-under, tail-under}
use Rattle.bl_emit_spec.specs.Activities.{RunAt, run_at, runs_at}
use Rattle.bl_emit_spec.specs.Blocks.{Sizes}
use Rattle.bl_emit_spec.specs.Programs.{needs_of}
use Rattle.bl_emit_spec_laws_wellformed.proofs.OnChains.Nodes.{AllUnder, node_calls}
use Rattle.bl_emit_spec_laws.proofs.OnOwn.Members.{any_found}
use Rattle.bl_emit_spec_laws_wellformed.specs.Spelled.{all_fit, node_fits, rule_fits}
use Rattle.bl_emit_spec_laws_wellformed_bodies.specs.Lists.{NeededKnown}
use Rattle.bl_emit_spec_laws_wellformed_bodies.proofs.OnLists.Entries.{full, full-known, full-prelude}

-- ---- the same fails where the same is known

module _ (follow : FaultsFollow) (table : Table (Table CMember)) (depths : Table ℕ) (f : CFunc) (one other : Table Signature)
    (own : one f.name ≡ other f.name) (alike : All (KnowAlike one other) (calls_in_block f.body)) where
  pub same-faults : faults_in_function table one depths false f ≡ faults_in_function table other depths false f
  same-faults =
      let body : block_faults (map faults_in_stmt f.body) (context_in table one f) false
      ≡ block_faults (map faults_in_stmt f.body) (context_in table other f) false = follow f.body (context_in table one f) one other false alike in
      let head : faults_in_head table one depths false f ≡ faults_in_head table other depths false f =
      ap (λ (o : Option Signature). faults_in_head table (λ name. o) depths false f) own in
      (λ i. head i ++ (repeated (names_table (variable_names f)) (turns_in_block f.body) ++ body i))

-- ---- names of what is needed

-- 0 where a test holds
abbrev none_where : Bool → ℕ
none_where b = if b then 0 else 1

none_is : (b : Bool) → none_where b ≤ 0 → b ≡ true
none_is true less = refl
none_is false less = absurd (omega (arith, less))

none_of : (b : Bool) → b ≡ true → none_where b ≡ 0
none_of true is = refl
none_of false is = absurd (cc)

-- what is made of something in a list
mapped_from : {A B : Type 0} (f : A → B) (xs : List A) (y : B) → Contains (map f xs) y → (x : A) × (Contains xs x × (f x ≡ y))
mapped_from f [] y (k, below, is) = absurd (omega (arith, below))
mapped_from f (x ∷ xs) y (zero, below, is) = (x, (contains_first x xs, is))
mapped_from f (x ∷ xs) y (suc k, below, is) =
    let rest = mapped_from f xs y (k, omega (arith, below), is) in (rest.0, (contains_further x xs rest.0 rest.1.0, rest.1.1))

under_each : {A : Type 0} (f : A → ℕ) (xs : List A) → ((x : A) → Contains xs x → f x ≤ 0) → Under f 0 xs
under_each f [] each = omega arith
under_each f (x ∷ xs) each =
    let first : f x ≤ 0 = each x (contains_first x xs) in
    let rest : Under f 0 xs = under_each f xs (λ y there. each y (contains_further x xs y there)) in omega (arith, first, rest)

each_under : {A : Type 0} (f : A → ℕ) (P : A → Type 0) (xs : List A) → ((x : A) → f x ≤ 0 → P x) → Under f 0 xs → All P xs
each_under f P [] tells all = All-nil P
each_under f P (x ∷ xs) tells all =
    All-cons P x xs (tells x (head-under f 0 x xs all)) (each_under f P xs tells (tail-under f 0 x xs all))

-- the unit there is needed and stands before
pub record IsBefore (units : List UnitDef) (needed : List Bool) (k f : ℕ) : Type 0 where
  pub unit : UnitDef
  pub there : slice_get (take k units) f ≡ Some unit
  pub needed_so : slice_get needed f ≡ Some true

module _ (structs : List StructDef) (units : List UnitDef) (needed remember : List Bool) (differ : are_distinct (names units) ≡ true) (k : ℕ)
    (unit : UnitDef) (functions : Table Signature) (knows : NeededKnown structs units needed remember k functions)
    (before : (f : ℕ) → Contains (needs_of unit) f → IsBefore units needed k f) where
  -- all units before, needed or not
  abbrev pub all_known : Table Signature
  all_known = full structs remember units differ k

  -- the names of those that the unit needs
  abbrev needs_names : List Text
  needs_names = map (λ f. name_of_callee (slice_get (take k units) f)) (needs_of unit)

  -- whether a name is one of these, or stands in neither table
  abbrev is_fine : Text → Bool
  is_fine name = list_any (bytes_eq name) needs_names || (is_none (functions name) && is_none (all_known name))

  abbrev pub weight : Text → ℕ
  weight name = none_where (is_fine name)

  pub prelude-light : (word : Text) (s : ScalarType) → weight (function_name word s) ≡ 0
  prelude-light word s =
      let rest : Text = word ++ (codes "_" ++ type_word s) in
      none_of (is_fine (function_name word s))
      (or_right (list_any (bytes_eq (function_name word s)) needs_names)
      (is_none (functions (function_name word s)) && is_none (all_known (function_name word s)))
      (and_from (is_none (functions (function_name word s))) (is_none (all_known (function_name word s)))
      (is_none_of (functions (function_name word s)) (knows.prelude rest))
      (is_none_of (all_known (function_name word s)) (full-prelude structs remember units differ k rest))))

  -- what is asked of positions
  abbrev pub by : ℕ → ℕ
  by f = weight (name_of_callee (slice_get (take k units) f))

  pub needs-light : Under by 0 (needs_of unit)
  needs-light = under_each by (needs_of unit) each
    where
      each : (f : ℕ) → Contains (needs_of unit) f → by f ≤ 0
      each f has =
          let name : Text = name_of_callee (slice_get (take k units) f) in
          let fine : by f ≡ 0 =
          none_of (is_fine name)
          (or_left (list_any (bytes_eq name) needs_names) (is_none (functions name) && is_none (all_known name))
          (any_from (bytes_eq name) needs_names name (contains_mapped (λ f. name_of_callee (slice_get (take k units) f)) (needs_of unit) f has)
          ((bytes_eq-Decides name name).1 refl))) in
          omega (arith, fine)

  known_alike : (f : ℕ) → Contains (needs_of unit) f → KnowAlike functions all_known (name_of_callee (slice_get (take k units) f))
  known_alike f has =
      let it = before f has in
      let at = taken units k f it.unit it.there in
      subst (λ o. functions (name_of_callee o) ≡ all_known (name_of_callee o)) (sym it.there)
      (knows.known f it.unit at.1 at.0 it.needed_so ∙ sym (full-known structs remember units differ k f it.unit it.there))

  name_alike : (name : Text) → weight name ≤ 0 → KnowAlike functions all_known name
  name_alike name less =
      either_case (list_any (bytes_eq name) needs_names) (is_none (functions name) && is_none (all_known name)) (none_is (is_fine name) less) listed
      (λ none. let parts = and_parts (is_none (functions name)) (is_none (all_known name)) none in
      none_from (functions name) parts.0 ∙ sym (none_from (all_known name) parts.1))
    where
      listed : list_any (bytes_eq name) needs_names ≡ true → KnowAlike functions all_known name
      listed some =
          let found = any_found (bytes_eq name) needs_names some in
          let from = mapped_from (λ f. name_of_callee (slice_get (take k units) f)) (needs_of unit) found.one found.there in
          let same : name_of_callee (slice_get (take k units) from.0) ≡ name =
          from.1.1 ∙ sym ((bytes_eq-Decides name found.one).0 found.on) in
          subst (KnowAlike functions all_known) same (known_alike from.0 from.1.0)

  -- what is light is known alike
  pub light-alike : (called : List Text) → Under weight 0 called → All (KnowAlike functions all_known) called
  light-alike called light = each_under weight (KnowAlike functions all_known) called name_alike light

-- ---- the activities that `run`s call are needed

module _ (unit : UnitDef) where
  abbrev pub is_need : ℕ → ℕ
  is_need f = none_where (list_any (nat_eq f) (needs_of unit))

  pub needs-counted : Under is_need 0 (needs_of unit)
  needs-counted =
      under_each is_need (needs_of unit) (λ f has. let one : is_need f ≡ 0 =
      none_of (list_any (nat_eq f) (needs_of unit)) (any_from (nat_eq f) (needs_of unit) f has (eq-eqb f f refl)) in omega (arith, one))

  pub run_needed : (number : Node → ℕ) (callees : List ℕ) (rules : List Transition) → AllUnder is_need 0 callees (map (λ (rule : Transition). rule.node) rules) →
      (run : RunAt) → Contains (runs_at number callees rules) run → Contains (needs_of unit) run.unit
  run_needed number [] rules all run (j, below, is) = absurd (omega (arith, below))
  run_needed number (c ∷ callees) [] all run (j, below, is) = absurd (omega (arith, below))
  run_needed number (c ∷ callees) (rule ∷ rules) all run has =
      by rule.node all.0 has (λ run has. run_needed number callees rules all.1 run has)
    where
      listed : (f : ℕ) → is_need f ≤ 0 → Contains (needs_of unit) f
      listed f less =
          let found = any_found (nat_eq f) (needs_of unit) (none_is (list_any (nat_eq f) (needs_of unit)) less) in
          subst (Contains (needs_of unit)) (sym (eqb-true f found.one found.on)) found.there

      by : (n : Node) → Under is_need 0 (node_calls c n) → Contains (run_at number c n ++ runs_at number callees rules) run →
          ((run : RunAt) → Contains (runs_at number callees rules) run → Contains (needs_of unit) run.unit) → Contains (needs_of unit) run.unit
      by (EnterAt l at arguments) calls (zero, below, is) later =
          subst (λ (run : RunAt). Contains (needs_of unit) run.unit) is (listed c (head-under is_need 0 c _ calls))
      by (EnterAt l at arguments) calls (suc j, below, is) later = later run (j, omega (arith, below), is)
      by (ActAt l s) calls has later = later run has
      by (TestAt l at e) calls has later = later run has
      by (PauseAt l at) calls has later = later run has
      by (ResumeAt l at arguments) calls has later = later run has
      by (HeadAt l at) calls has later = later run has
      by (StartAt l at) calls has later = later run has
      by (CheckAt l at e) calls has later = later run has
      by (SurfaceEndAt l at) calls has later = later run has
      by (DepthEndAt l at) calls has later = later run has
      by (ForkAt l at) calls has later = later run has
      by (SurfaceJoinAt l at) calls has later = later run has
      by (DepthJoinAt l at) calls has later = later run has

-- ---- they are there

module _ (sizes : Sizes) (site : TypingContext) where
  -- an activity that a `run` calls
  abbrev pub IsCalled : ℕ → Type 0
  IsCalled f = (callee : UnitDef) × ((slice_get site.earlier f ≡ Some callee) × (is_activity callee.kind ≡ true))

  called_by : (target : Option Path) (inputs : List Expr) (outputs : List Path) (f : ℕ) (o : Option UnitDef) → slice_get site.earlier f ≡ o →
      run_fits site target inputs outputs o ≡ true → IsCalled f
  called_by target inputs outputs f None is fits = absurd (cc)
  called_by target inputs outputs f (Some callee) is fits =
      (callee, (is, and_second (is_activity site.kind) (is_activity callee.kind) (and_first (is_activity site.kind && is_activity callee.kind) _ fits)))

  pub run_called : (number : Node → ℕ) (callees : List ℕ) (rules : List Transition) → all_fit sizes site callees rules ≡ true →
      (run : RunAt) → Contains (runs_at number callees rules) run → IsCalled run.unit
  run_called number [] rules all run (j, below, is) = absurd (omega (arith, below))
  run_called number (c ∷ callees) [] all run (j, below, is) = absurd (omega (arith, below))
  run_called number (c ∷ callees) (rule ∷ rules) all run has =
      let own = and_first (rule_fits sizes rule && node_fits site c rule.node) (all_fit sizes site callees rules) all in
      by rule.node (and_second (rule_fits sizes rule) (node_fits site c rule.node) own) has
      (λ run has. run_called number callees rules
      (and_second (rule_fits sizes rule && node_fits site c rule.node) (all_fit sizes site callees rules) all) run has)
    where
      by : (n : Node) → node_fits site c n ≡ true → Contains (run_at number c n ++ runs_at number callees rules) run →
          ((run : RunAt) → Contains (runs_at number callees rules) run → IsCalled run.unit) → IsCalled run.unit
      by (EnterAt l at arguments) fits (zero, below, is) later =
          subst (λ (run : RunAt). IsCalled run.unit) is
          (called_by arguments.target arguments.inputs arguments.outputs c (slice_get site.earlier c) refl
          (and_first (run_fits site arguments.target arguments.inputs arguments.outputs (slice_get site.earlier c)) _ fits))
      by (EnterAt l at arguments) fits (suc j, below, is) later = later run (j, omega (arith, below), is)
      by (ActAt l s) fits has later = later run has
      by (TestAt l at e) fits has later = later run has
      by (PauseAt l at) fits has later = later run has
      by (ResumeAt l at arguments) fits has later = later run has
      by (HeadAt l at) fits has later = later run has
      by (StartAt l at) fits has later = later run has
      by (CheckAt l at e) fits has later = later run has
      by (SurfaceEndAt l at) fits has later = later run has
      by (DepthEndAt l at) fits has later = later run has
      by (ForkAt l at) fits has later = later run has
      by (SurfaceJoinAt l at) fits has later = later run has
      by (DepthJoinAt l at) fits has later = later run has
