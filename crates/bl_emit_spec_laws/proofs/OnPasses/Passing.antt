-- The blocks of a function do what a pass by rules does.
use Rattle.std.proofs.Common.{◌≡◌, ◌⊎◌, inl, inr, ℕ, suc, Bool, true, false, List, [], ◌++◌}
use Rattle.std.proofs.Common.{Some, None, refl, sym, ap, subst}
use Rattle.std.proofs.Common.{◌∙◌, arith, ⊎_elim}
use Rattle.std.proofs.lemmas.Option.{same_Some}
use Rattle.bl_tree.proofs.Basics.{drop_none, true_not_false}
use Rattle.bl_tree.specs.declared.c.CStmt.{CStmt}
use Rattle.bl_tree.specs.declared.tree.StructDef.{StructDef}
use Rattle.bl_tree.specs.declared.tree.Unit.{Unit as UnitDef}
use Rattle.bl_tree.specs.declared.value.Value.{Value}
use Rattle.bl_tree.specs.Reduce.{joined}
use Rattle.bl_graph_nodes.specs.Nodes.{ActAt, CheckAt, DepthEndAt, DepthJoinAt, EnterAt, ForkAt, HeadAt, Node, PauseAt, ResumeAt, StartAt, SurfaceEndAt}
use Rattle.bl_graph_nodes.specs.Nodes.{SurfaceJoinAt, TestAt}
use Rattle.bl_graph_nodes.specs.Plain.{plain_body}
use Rattle.bl_ctext_semantics.specs.Course.{traps}
use Rattle.bl_ctext_semantics.specs.Meaning.{Scope, block_c}
use Rattle.bl_ctext_semantics.specs.Memory.{Memory}
use Rattle.bl_ctree.specs.Instances.{Setting, setting_of, unit_at}
use Rattle.bl_ctree.specs.Store.{Store}
use Rattle.bl_machine.specs.declared.machine.Activity.{Activity as InMachine}
use Rattle.bl_machine.specs.Uses.{Slots}
use Rattle.bl_machine_pass.specs.Registers.{Registers, after_rule, is_due}
use Rattle.bl_machine_pass.specs.Transitions.{Transition}
use Rattle.bl_machine_pass_laws_execution.specs.Executes as executes
use Rattle.bl_machine_pass_laws_execution.specs.Executes.{CopiesMatch, Executes, HasRule, IsPoint, NodeTraps, PassTraps, Performs, recopied}
use Rattle.bl_machine_pass_laws_execution.specs.Frames.{Frames}
use Rattle.bl_emit_spec.specs.Activities.{Activity, activity_view, remembers_any}
use Rattle.bl_emit_spec_laws.specs.Calls.Built.{Activities, activity_at, cleared, rank_by, slots_by}
use Rattle.bl_emit_spec_laws.specs.Calls.Laws.{BlocksSimulate, CalledAt, GuardsChoose, HasShownRule, Midway, PartSimulates, PassKeepsFrame, StartsSimulate}
use Rattle.bl_emit_spec_laws.specs.Calls.Laws.{block_done, shown_rule}
use Rattle.bl_emit_spec_laws.specs.Calls.Invariant.{PassRepresents}
use Rattle.bl_emit_spec_laws.specs.Passes.{BlocksPass, BlocksPlaced, TurnsFit, behind_firsts, turns_in_blocks}
use Rattle.bl_emit_spec_laws.specs.Within.{PassesStayWithin}
use Rattle.bl_emit_spec_laws.proofs.OnPasses.Blocks.{Alike}
use Rattle.bl_emit_spec_laws.proofs.OnPasses.Standing.{Point, Reached, Unflagged, all, later, no_text, none_left, now, text_at, text_of, unflagged_first}
use Rattle.bl_emit_spec_laws.proofs.OnPasses.Standing.{unflagged_next}
use Rattle.bl_emit_spec_laws.proofs.OnPasses.Stepping.{skipped, stopped, turned}

-- a node is one of a `run`, or none
point_or_run : (n : Node) → IsPoint n ⊎ (IsPoint n → ⊥)
point_or_run (ActAt l s) = inl tt
point_or_run (TestAt l at e) = inl tt
point_or_run (PauseAt l at) = inl tt
point_or_run (EnterAt l at arguments) = inr (λ x. x)
point_or_run (ResumeAt l at arguments) = inr (λ x. x)
point_or_run (HeadAt l at) = inl tt
point_or_run (StartAt l at) = inl tt
point_or_run (CheckAt l at e) = inl tt
point_or_run (SurfaceEndAt l at) = inl tt
point_or_run (DepthEndAt l at) = inl tt
point_or_run (ForkAt l at) = inl tt
point_or_run (SurfaceJoinAt l at) = inl tt
point_or_run (DepthJoinAt l at) = inl tt

module _ (structs : List StructDef) (units : List UnitDef) (entry : ℕ) (machine : List InMachine) (activities : Activities)
    (placed : BlocksPlaced structs units entry machine activities) (fit : TurnsFit structs units entry machine activities)
    (stay : PassesStayWithin structs units entry machine activities)
    (points : BlocksSimulate structs units entry machine activities IsPoint)
    (runs : BlocksSimulate structs units entry machine activities (λ n. IsPoint n → ⊥))
    (starts : StartsSimulate structs units entry machine activities) (choose : GuardsChoose structs units entry machine activities) where
  abbrev W : Setting
  W = setting_of structs units entry

  abbrev R : ℕ → Node → ℕ
  R = rank_by W activities

  abbrev S : ℕ → Slots
  S = slots_by W activities

  abbrev C : ℕ → Frames → Frames
  C = cleared W

  abbrev A : ℕ → Activity
  A = activity_at W activities

  abbrev Mid : ℕ → UnitDef → Scope → Frames → Store → List Value → Registers → Memory → Type 0
  Mid = Midway structs units entry machine activities

  abbrev On : ℕ → UnitDef → ℕ → Registers → Type 0
  On = Reached structs units entry activities

  abbrev Quiet : ℕ → ℕ → Registers → Type 0
  Quiet = Unflagged structs units entry activities

  -- the text that is left
  abbrev left_of : (i : ℕ) (unit : UnitDef) (k : ℕ) (r : Registers) → On i unit k r → List CStmt
  left_of = text_of structs units entry activities

  pub record Came (i : ℕ) (unit : UnitDef) (scope : Scope) (code : List CStmt) (frames : Frames) (store : Store) (r : Registers) (here : Memory) : Type 0
    where
      pub copies : List Value
      pub part : PartSimulates W activities i unit scope frames store copies r here (block_c code scope here)

  -- code that does what other code does behind a part of it
  behind : (i : ℕ) (unit : UnitDef) (scope : Scope) (code others : List CStmt) (here middle : Memory) (frames : Frames) (store : Store) (r : Registers) →
      Alike (block_c code scope here) (block_c others scope middle) →
      PassKeepsFrame (activity_view (A i)).site unit (remembers_any (A i)) scope here middle → Came i unit scope others frames store r middle →
      Came i unit scope code frames store r here
  behind i unit scope code others here middle frames store r alike kept rest = record {
    copies = rest.copies;
    part = record {
      ends = alike.0 ∙ rest.part.ends;
      stands = subst (λ (m : Memory). PassRepresents W activities i unit scope frames store rest.copies r m) (sym alike.1) rest.part.stands;
      kept = λ root way older outside.
          ap (λ (m : Memory). m root way) alike.1 ∙ rest.part.kept root way older outside ∙ kept root way older outside;
    };
  }

  -- nothing
  done_already : (i : ℕ) (unit : UnitDef) (scope : Scope) (code : List CStmt) (frames : Frames) (store : Store) (copies : List Value) (r : Registers)
      (here : Memory) → Mid i unit scope frames store copies r here → code ≡ [] → Came i unit scope code frames store r here
  done_already i unit scope code frames store copies r here mid none = record {
    copies = copies;
    part = subst (λ (b : List CStmt). PartSimulates W activities i unit scope frames store copies r here (block_c b scope here)) (sym none)
        (record { ends = refl; stands = mid.stands; kept = λ root way older outside. refl });
  }

  -- what is done at a node, by the rule as its block has it
  acted : (i : ℕ) (unit : UnitDef) (scope : Scope) (frames : Frames) (store : Store) (copies : List Value) (r : Registers) (shown : Transition) (u : ℕ)
      (answer : Bool) (frames' : Frames) (left : Store) (here : Memory) → Mid i unit scope frames store copies r here →
      HasShownRule W activities i unit shown → CalledAt (plain_body unit.body) shown.node u → CopiesMatch W i shown.node store copies →
      Performs W R S C i shown.node frames store answer frames' left →
      PartSimulates W activities i unit scope frames' left (recopied W i shown.node left copies) (after_rule (R i) shown answer r) here
      (block_done W activities i u shown scope here)
  acted i unit scope frames store copies r shown u answer frames' left here mid there called sees performs = ⊎_elim
      (λ point. points.acts i unit scope frames store copies r shown u answer frames' left here mid there point called sees performs)
      (λ run. runs.acts i unit scope frames store copies r shown u answer frames' left here mid there run called sees performs)
      (point_or_run shown.node)

  trapped : (i : ℕ) (unit : UnitDef) (scope : Scope) (frames : Frames) (store : Store) (copies : List Value) (r : Registers) (shown : Transition) (u : ℕ)
      (here : Memory) → Mid i unit scope frames store copies r here → HasShownRule W activities i unit shown →
      CalledAt (plain_body unit.body) shown.node u → CopiesMatch W i shown.node store copies →
      NodeTraps W R S C i shown.node frames store → (block_done W activities i u shown scope here).end ≡ traps
  trapped i unit scope frames store copies r shown u here mid there called sees stops = ⊎_elim
      (λ point. points.stops i unit scope frames store copies r shown u here mid there point called sees stops)
      (λ run. runs.stops i unit scope frames store copies r shown u here mid there run called sees stops) (point_or_run shown.node)

  -- what holds behind it
  next : (i : ℕ) (unit : UnitDef) (scope : Scope) (frames : Frames) (store : Store) (copies : List Value) (r : Registers) (rule : Transition)
      (answer : Bool) (frames' : Frames) (left : Store) (here : Memory) → Mid i unit scope frames store copies r here → HasRule S i unit rule →
      Performs W R S C i rule.node frames store answer frames' left → (middle : Memory) →
      PassRepresents W activities i unit scope frames' left (recopied W i rule.node left copies) (after_rule (R i) rule answer r) middle →
      Mid i unit scope frames' left (recopied W i rule.node left copies) (after_rule (R i) rule answer r) middle
  next i unit scope frames store copies r rule answer frames' left here mid there performs middle stands =
      let now = fit.performs i unit rule frames store answer frames' left mid.compiled mid.is_there there mid.fits performs in record {
        compiled = mid.compiled;
        is_there = mid.is_there;
        function = mid.function;
        stands = stands;
        fits = now;
        copies_fit = fit.copies i unit rule.node left copies mid.compiled mid.is_there now mid.copies_fit;
        frames_within = stay.performs i rule.node frames store answer frames' left mid.compiled mid.frames_within performs;
        within = stay.changes i unit rule answer r mid.compiled mid.is_there there mid.within;
      }

  own_rule : (i : ℕ) (unit other : UnitDef) (rule : Transition) → unit_at W i ≡ Some unit → unit_at W i ≡ Some other → HasRule S i other rule →
      HasRule S i unit rule
  own_rule i unit other rule is there has = subst (λ (x : UnitDef). HasRule S i x rule) (same_Some other unit (sym there ∙ is)) has

  other_rule : (i : ℕ) (unit other : UnitDef) (rule : Transition) → unit_at W i ≡ Some unit → unit_at W i ≡ Some other → HasRule S i unit rule →
      HasRule S i other rule
  other_rule i unit other rule is there has = subst (λ (x : UnitDef). HasRule S i x rule) (same_Some unit other (sym is ∙ there)) has

  -- a node that isn't due has no turn
  turn_not_due : (i : ℕ) (rule : Transition) (r : Registers) → is_due (R i) rule r ≡ true → is_due (R i) rule r ≡ false → ⊥
  turn_not_due i rule r due none = true_not_false (sym due ∙ none)

  pub pass : {i k : ℕ} {frames : Frames} {store : Store} {copies : List Value} {r : Registers} {frames' : Frames} {left : Store} {r' : Registers} →
      Executes W R S C i k frames store copies r frames' left r' → (unit : UnitDef) (scope : Scope) (here : Memory) →
      Mid i unit scope frames store copies r here → Quiet i k r → (p : On i unit k r) → Came i unit scope (left_of i unit k r p) frames' left r' here
  pass {i} {k} {frames} {store} {copies} {r} (executes.ends {unit = other} there below) unit scope here mid quiet (now p) =
      done_already i unit scope (text_at structs units entry activities i unit k r p) frames store copies r here mid
      (no_text structs units entry activities machine placed i unit mid.compiled mid.is_there p.entered p.others p.before p.rest
      (none_left structs units entry activities machine placed i unit mid.compiled mid.is_there k
      (λ rule has. below rule (other_rule i unit other rule mid.is_there there has)) (p.others ++ joined p.rest) p.place.turns))
  pass {i} {k} {frames} {store} {copies} {r} (executes.ends {unit = other} there below) unit scope here mid quiet (later none rule has at p) =
      let less = below rule (other_rule i unit other rule mid.is_there there has) in absurd (omega (arith, less, at))
  pass {i} {k} {frames} {store} {copies} {r} {frames'} {left} {r'} (executes.skips {unit = other} there none more) unit scope here mid quiet (now p) =
      let to = skipped structs units entry machine activities placed choose starts i k unit scope frames store copies r here mid
      (λ rule has at. none rule (other_rule i unit other rule mid.is_there there has) at) quiet p in
      behind i unit scope (text_at structs units entry activities i unit k r p) (left_of i unit (suc k) r to.reached) here here frames' left r' to.alike
      (λ root way older outside. refl) (pass more unit scope here mid (λ p less. quiet p (omega (arith, less))) to.reached)
  pass {i} {k} {frames} {store} {copies} {r} {frames'} {left} {r'} (executes.skips there none more) unit scope here mid quiet
      (later none_due rule has at p) =
      pass more unit scope here mid (λ p less. quiet p (omega (arith, less))) (now p)
  pass {i} {k} {frames} {store} {copies} {r} {frames'} {left} {r'}
      (executes.acts {answer = answer} {inner = inner} {between = between} {unit = other} there rule has at due begins sees performs more) unit scope
      here mid quiet (now p) =
      let own = own_rule i unit other rule mid.is_there there has in
      let block = placed.of_rule i unit rule mid.compiled mid.is_there own in
      let did = turned structs units entry machine activities placed choose starts i k unit scope frames store copies r here mid rule own at due block p
      answer inner between (λ next has'. begins next (other_rule i unit other next mid.is_there there has')) sees performs
      (λ last shown. acted i unit scope frames store copies r (shown_rule last rule) block.u answer inner between here mid shown block.called sees
      performs) in
      let after = next i unit scope frames store copies r rule answer inner between here mid own performs did.middle did.stands in
      behind i unit scope (text_at structs units entry activities i unit k r p)
      (left_of i unit (suc k) (after_rule (R i) rule answer r) did.rest.reached) here did.middle frames' left r' did.rest.alike did.kept
      (pass more unit scope did.middle after
      (unflagged_next structs units entry activities machine placed i unit mid.compiled mid.is_there k rule answer r own at quiet) did.rest.reached)
  pass {i} {k} {frames} {store} {copies} {r} {frames'} {left} {r'} (executes.acts {unit = other} there rule has at due begins sees performs more) unit
      scope here mid quiet (later none_due last last_has last_at p) =
      absurd (turn_not_due i rule r due
      (none_due rule (own_rule i unit other rule mid.is_there there has) (omega (arith, at)) (omega (arith, at))))

  pub cut : {i k : ℕ} {frames : Frames} {store : Store} {copies : List Value} {r : Registers} → PassTraps W R S C i k frames store copies r →
      (unit : UnitDef) (scope : Scope) (here : Memory) → Mid i unit scope frames store copies r here → Quiet i k r → (p : On i unit k r) →
      (block_c (left_of i unit k r p) scope here).end ≡ traps
  cut {i} {k} {frames} {store} {copies} {r} (executes.skips_on {unit = other} there none more) unit scope here mid quiet (now p) =
      let to = skipped structs units entry machine activities placed choose starts i k unit scope frames store copies r here mid
      (λ rule has at. none rule (other_rule i unit other rule mid.is_there there has) at) quiet p in
      to.alike.0 ∙ cut more unit scope here mid (λ p less. quiet p (omega (arith, less))) to.reached
  cut {i} {k} {frames} {store} {copies} {r} (executes.skips_on there none more) unit scope here mid quiet (later none_due rule has at p) =
      cut more unit scope here mid (λ p less. quiet p (omega (arith, less))) (now p)
  cut {i} {k} {frames} {store} {copies} {r}
      (executes.goes_on {answer = answer} {inner = inner} {between = between} {unit = other} there rule has at due begins sees performs more) unit scope
      here mid quiet (now p) =
      let own = own_rule i unit other rule mid.is_there there has in
      let block = placed.of_rule i unit rule mid.compiled mid.is_there own in
      let did = turned structs units entry machine activities placed choose starts i k unit scope frames store copies r here mid rule own at due block p
      answer inner between (λ next has'. begins next (other_rule i unit other next mid.is_there there has')) sees performs
      (λ last shown. acted i unit scope frames store copies r (shown_rule last rule) block.u answer inner between here mid shown block.called sees
      performs) in
      let after = next i unit scope frames store copies r rule answer inner between here mid own performs did.middle did.stands in
      did.rest.alike.0
      ∙ cut more unit scope did.middle after
      (unflagged_next structs units entry activities machine placed i unit mid.compiled mid.is_there k rule answer r own at quiet) did.rest.reached
  cut {i} {k} {frames} {store} {copies} {r} (executes.goes_on {unit = other} there rule has at due begins sees performs more) unit scope here mid quiet
      (later none_due last last_has last_at p) =
      absurd (turn_not_due i rule r due
      (none_due rule (own_rule i unit other rule mid.is_there there has) (omega (arith, at)) (omega (arith, at))))
  cut {i} {k} {frames} {store} {copies} {r} (executes.traps {unit = other} there rule has at due sees stops) unit scope here mid quiet (now p) =
      let own = own_rule i unit other rule mid.is_there there has in
      let block = placed.of_rule i unit rule mid.compiled mid.is_there own in
      stopped structs units entry machine activities placed choose starts i k unit scope frames store copies r here mid rule own at due block p sees stops
      (λ last shown. trapped i unit scope frames store copies r (shown_rule last rule) block.u here mid shown block.called sees stops)
  cut {i} {k} {frames} {store} {copies} {r} (executes.traps {unit = other} there rule has at due sees stops) unit scope here mid quiet
      (later none_due last last_has last_at p) =
      absurd (turn_not_due i rule r due
      (none_due rule (own_rule i unit other rule mid.is_there there has) (omega (arith, at)) (omega (arith, at))))

  -- all blocks
  abbrev first_point : (i : ℕ) (unit : UnitDef) (r : Registers) → Point structs units entry activities i unit 0 r
  first_point i unit r = record {
    entered = true;
    others = [];
    before = None;
    rest = turns_in_blocks (A i);
    place = record {
      turns = drop_none (all structs units entry activities i);
      behind = drop_none (behind_firsts (turns_in_blocks (A i)));
    };
    asleep = λ is. absurd (cc);
    awake = λ t ts is others. absurd (cc);
    leaves = record {
      own = refl;
      told = λ g is. absurd (cc);
      follows = λ g t ts is yes others. absurd (cc);
      none = λ yes others. refl;
    };
  }

pub blocks_pass : BlocksPass
blocks_pass structs units entry machine activities placed fit stay points runs starts choose = record {
  executes = λ i unit scope frames store copies r frames' left r' here mid begins way.
      (let quiet = unflagged_first structs units entry activities machine placed i unit mid.compiled mid.is_there frames r begins in
      let came = pass structs units entry machine activities placed fit stay points runs starts choose way unit scope here mid quiet
      (now (first_point structs units entry machine activities placed fit stay points runs starts choose i unit r)) in
      (came.copies, came.part));
  cut = λ i unit scope frames store copies r here mid begins way.
      (let quiet = unflagged_first structs units entry activities machine placed i unit mid.compiled mid.is_there frames r begins in
      cut structs units entry machine activities placed fit stay points runs starts choose way unit scope here mid quiet
      (now (first_point structs units entry machine activities placed fit stay points runs starts choose i unit r)));
}
