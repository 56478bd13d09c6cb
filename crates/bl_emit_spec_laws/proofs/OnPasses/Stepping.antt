-- One number of a pass: the C of a turn that isn't due does nothing, and that of one that is due does what the rule says.
use Rattle.std.proofs.Common.{◌≡◌, ◌⊎◌, ℕ, suc, Bool, true, false, ◌||◌, List, []}
use Rattle.std.proofs.Common.{◌∷◌, ◌++◌, Contains, length, map, drop, Option, Some, None, refl, sym, ap, subst}
use Rattle.std.proofs.Common.{◌∙◌, append_assoc, append-nil, arith, eq-eqb, if◌then◌else◌}
use Rattle.std.specs.Prelude.{is_some}
use Rattle.std.proofs.lemmas.Bool.{or_left, or_right}
use Rattle.bl_tree.proofs.Basics.{drop_at, true_not_false}
use Rattle.bl_tree.specs.declared.c.CStmt.{CStmt}
use Rattle.bl_tree.specs.declared.tree.StructDef.{StructDef}
use Rattle.bl_tree.specs.declared.tree.Unit.{Unit as UnitDef}
use Rattle.bl_tree.specs.declared.value.Value.{Value}
use Rattle.bl_tree.specs.Reduce.{joined}
use Rattle.bl_graph_nodes.specs.Nodes.{ActAt, CheckAt, DepthEndAt, DepthJoinAt, EnterAt, ForkAt, HeadAt, Node, PauseAt, ResumeAt, StartAt, SurfaceEndAt}
use Rattle.bl_graph_nodes.specs.Nodes.{SurfaceJoinAt, TestAt}
use Rattle.bl_graph_nodes.specs.Plain.{plain_body}
use Rattle.bl_ctext_semantics.specs.Course.{Outcome, goes_on, traps}
use Rattle.bl_ctext_semantics.specs.Meaning.{Scope, block_c}
use Rattle.bl_ctext_semantics.specs.Memory.{Memory}
use Rattle.bl_ctree.specs.Actions.{acted_kind}
use Rattle.bl_ctree.specs.Instances.{Setting, setting_of}
use Rattle.bl_ctree.specs.Positions.{stmt_kind}
use Rattle.bl_ctree.specs.Store.{Store}
use Rattle.bl_ctree_laws.specs.Ends.{done_by}
use Rattle.bl_machine.specs.declared.machine.Activity.{Activity as InMachine}
use Rattle.bl_machine.specs.Blocks.{goes_straight}
use Rattle.bl_machine.specs.Uses.{Slots}
use Rattle.bl_machine_pass.specs.Registers.{Registers, after_rule, all_changed, due_by, is_due, with_flag}
use Rattle.bl_machine_pass.specs.Transitions.{Change, Condition, Transition}
use Rattle.bl_machine_pass_laws_execution.specs.Executes as executes
use Rattle.bl_machine_pass_laws_execution.specs.Executes.{BeginsAlone, CopiesMatch, HasRule, IsSameRun, NodeTraps, Performs, deed_at, recopied}
use Rattle.bl_machine_pass_laws_execution.specs.Frames.{Frames}
use Rattle.bl_emit_spec.specs.Activities.{Activity, activity_view, first_rules, remembers_any}
use Rattle.bl_emit_spec.specs.Blocks.{ActivityView, NodeCode, all_merged, control_unless, fused_code, last_turn, merged_code, next_turn, node_code}
use Rattle.bl_emit_spec.specs.Blocks.{node_turn, own_code, run_part, same_run}
use Rattle.bl_emit_spec_laws.specs.Registers.Laws.{has_left, is_left}
use Rattle.bl_emit_spec_laws.specs.Calls.Built.{Activities, activity_at, cleared, last_rules, rank_by, registered, slots_by}
use Rattle.bl_emit_spec_laws.specs.Calls.Laws.{CallIsLeft, GuardsChoose, HasShownRule, Midway, PartSimulates, PassKeepsFrame, StartsSimulate, block_done}
use Rattle.bl_emit_spec_laws.specs.Calls.Laws.{guarded_by_rule, own_done, shown_rule}
use Rattle.bl_emit_spec_laws.specs.Calls.Invariant.{PassRepresents}
use Rattle.bl_emit_spec_laws.specs.Passes.{BlockAt, BlocksPlaced, GoesStraight, IsBehind, behind_firsts, turns_in_blocks}
use Rattle.bl_emit_spec_laws.proofs.OnPasses.Asking.{begins_quiet, resumes_rested}
use Rattle.bl_emit_spec_laws.proofs.OnPasses.Blocks.{Alike, drop_next, drop_past, first_done, get_behind, get_first}
use Rattle.bl_emit_spec_laws.proofs.OnPasses.Blocks.{more_traps, opened, then_more, then_traps}
use Rattle.bl_emit_spec_laws.proofs.OnPasses.Same.{leaves_none, one_run, same_parts, stays}
use Rattle.bl_emit_spec_laws.proofs.OnPasses.Standing.{Asleep, Awake, Due, Leaves, NoneDue, Place, Point, Reached, Unflagged, all, first_left, goes_to}
use Rattle.bl_emit_spec_laws.proofs.OnPasses.Standing.{later, leaves_own, leaves_told, not_due, now, own_turn, rule_there, stands_first, stands_last, text_at}
use Rattle.bl_emit_spec_laws.proofs.OnPasses.Standing.{text_of, turn_there}
use Rattle.bl_emit_spec_laws.proofs.OnPasses.Straight.{answers_true, is_last, own_alone}
use Rattle.bl_emit_spec_laws.proofs.OnPasses.Turns.{Follows, Head, flags_stay, free_flag, fused, fused_is, head_of, leads, left_follows, left_to, nothing}
use Rattle.bl_emit_spec_laws.proofs.OnPasses.Turns.{part_of, text, text_alone}
use Rattle.bl_emit_spec_laws.proofs.OnPasses.Turns.{nothing_left}

module _ (structs : List StructDef) (units : List UnitDef) (entry : ℕ) (activities : Activities) where
  abbrev W : Setting
  W = setting_of structs units entry

  abbrev R : ℕ → Node → ℕ
  R = rank_by W activities

  abbrev S : ℕ → Slots
  S = slots_by W activities

  abbrev C : ℕ → Frames → Frames
  C = cleared W

  straight_does : (i : ℕ) (n : Node) (store : Store) (answer : Bool) (left : Store) → goes_straight n ≡ true →
      done_by W (deed_at i n) store ≡ Some (record { answer = answer; store = left }) → answer ≡ true
  straight_does i (ActAt l s) store answer left straight did = answers_true (acted_kind W i s (stmt_kind s) store) answer left did
  straight_does i (HeadAt l at) store answer left straight did = answers_true (Some store) answer left did
  straight_does i (TestAt l at e) store answer left straight did = absurd (cc)
  straight_does i (PauseAt l at) store answer left straight did = absurd (cc)
  straight_does i (EnterAt l at arguments) store answer left straight did = absurd (cc)
  straight_does i (ResumeAt l at arguments) store answer left straight did = absurd (cc)
  straight_does i (StartAt l at) store answer left straight did = absurd (cc)
  straight_does i (CheckAt l at e) store answer left straight did = absurd (cc)
  straight_does i (SurfaceEndAt l at) store answer left straight did = absurd (cc)
  straight_does i (DepthEndAt l at) store answer left straight did = absurd (cc)
  straight_does i (ForkAt l at) store answer left straight did = absurd (cc)
  straight_does i (SurfaceJoinAt l at) store answer left straight did = absurd (cc)
  straight_does i (DepthJoinAt l at) store answer left straight did = absurd (cc)

  straight_true : (i : ℕ) (n : Node) (frames : Frames) (store : Store) (answer : Bool) (frames' : Frames) (left : Store) → goes_straight n ≡ true →
      Performs W R S C i n frames store answer frames' left → answer ≡ true
  straight_true i n frames store answer frames' left straight (executes.does point did) = straight_does i n store answer left straight did
  straight_true i n frames store answer frames' left straight (executes.enters called there copied executed over) = refl
  straight_true i n frames store answer frames' left straight (executes.resumes called rested copied executed over) = absurd (cc)
  straight_true i n frames store answer frames' left straight (executes.returns called rested copied executed over gives) = absurd (cc)

module _ (structs : List StructDef) (units : List UnitDef) (entry : ℕ) (machine : List InMachine) (activities : Activities)
    (placed : BlocksPlaced structs units entry machine activities) (choose : GuardsChoose structs units entry machine activities)
    (starts : StartsSimulate structs units entry machine activities) (i k : ℕ) (unit : UnitDef) (scope : Scope) (frames : Frames) (store : Store)
    (copies : List Value) (r : Registers) (here : Memory)
    (mid : Midway structs units entry machine activities i unit scope frames store copies r here) where
  abbrev w : Setting
  w = setting_of structs units entry

  abbrev rank : ℕ → Node → ℕ
  rank = rank_by w activities

  abbrev slots : ℕ → Slots
  slots = slots_by w activities

  abbrev clear : ℕ → Frames → Frames
  clear = cleared w

  abbrev own : Activity
  own = activity_at w activities i

  abbrev view : ActivityView
  view = activity_view own

  abbrev turns_all : List NodeCode
  turns_all = all structs units entry activities i

  abbrev marks_all : List Bool
  marks_all = behind_firsts (turns_in_blocks own)

  abbrev At : ℕ → List NodeCode → List (List NodeCode) → Type 0
  At = Place structs units entry activities i

  abbrev On : ℕ → Registers → Type 0
  On = Point structs units entry activities i unit

  abbrev marks_of : List NodeCode → List Bool
  marks_of ts = map (λ (t : NodeCode). true) ts

  -- what is left to do behind a turn, and the text of it
  pub record Left (code : List CStmt) (middle : Memory) (after : Registers) : Type 0 where
    pub reached : Reached structs units entry activities i unit (suc k) after
    pub alike : Alike (block_c code scope here) (block_c (text_of structs units entry activities i unit (suc k) after reached) scope middle)

  rule_at : (p : ℕ) (t : NodeCode) (ts : List NodeCode) → drop p turns_all ≡ t ∷ ts → Due structs units entry activities i p unit t
  rule_at = rule_there structs units entry activities machine placed i unit mid.compiled mid.is_there

  first_at : (p : ℕ) (rule : Transition) → HasRule slots i unit rule → rank i rule.node ≡ p → (more : List Bool) → drop p marks_all ≡ false ∷ more →
      Contains (first_rules own) rule
  first_at = stands_first structs units entry activities machine placed i unit mid.compiled mid.is_there

  last_at : (p : ℕ) (rule : Transition) → HasRule slots i unit rule → rank i rule.node ≡ p → (rest : List (List NodeCode)) →
      drop (suc p) marks_all ≡ behind_firsts rest → Contains (last_rules own) rule
  last_at = stands_last structs units entry activities machine placed i unit mid.compiled mid.is_there

  straight_at : (p : ℕ) (rule : Transition) → HasRule slots i unit rule → rank i rule.node ≡ p → (more : List Bool) →
      drop (suc p) marks_all ≡ true ∷ more → GoesStraight (rank i) rule
  straight_at = goes_to structs units entry activities machine placed i unit mid.compiled mid.is_there

  -- the node that stands at the number in a block that was entered is due
  due_open : (t : NodeCode) (ts : List NodeCode) (rest : List (List NodeCode)) → At k (t ∷ ts) rest → r.flags k ≡ true → (rule : Transition) →
      HasRule slots i unit rule → rank i rule.node ≡ k → is_due (rank i) rule r ≡ true
  due_open t ts rest place set rule has at =
      let behind = get_first marks_all k true (marks_of ts ++ behind_firsts rest) place.behind in
      ap (λ (condition : Condition). due_by (rank i) r rule.node condition)
      (placed.waits i unit rule mid.compiled mid.is_there has (subst (λ (n : ℕ). IsBehind own n) (sym at) behind))
      ∙ (ap r.flags at ∙ set)

  -- ---- a turn that isn't due

  module _ (none : (rule : Transition) → HasRule slots i unit rule → rank i rule.node ≡ k → is_due (rank i) rule r ≡ false)
      (unflagged : Unflagged structs units entry activities i k r) where
    -- in a block that was entered there is none
    skip_open : (t : NodeCode) (ts : List NodeCode) (before : Option ℕ) (rest : List (List NodeCode)) → At k (t ∷ ts) rest → r.flags k ≡ true →
        Left (text view.word true (t ∷ ts) before rest) here r
    skip_open t ts before rest place set =
        let due = rule_at k t (ts ++ joined rest) place.turns in
        let both : true ≡ false =
        sym (due_open t ts rest place set due.rule due.there due.numbered) ∙ none due.rule due.there due.numbered in absurd (cc)

    -- in one that wasn't
    skip_asleep : (t : NodeCode) (ts : List NodeCode) (before : Option ℕ) (rest : List (List NodeCode)) → At k (t ∷ ts) rest →
        NoneDue structs units entry activities i unit k (suc (length ts)) r →
        Leaves structs units entry activities i false (t ∷ ts) before rest r → Left (text view.word false (t ∷ ts) before rest) here r
    skip_asleep t ts before rest place asleep leaves = record {
      reached = now (record {
        entered = false;
        others = ts;
        before = before;
        rest = rest;
        place = record {
          turns = drop_next turns_all k t (ts ++ joined rest) place.turns;
          behind = drop_next marks_all k true (marks_of ts ++ behind_firsts rest) place.behind;
        };
        asleep = λ is rule has from below. asleep rule has (omega (arith, from)) (omega (arith, below));
        awake = λ t ts is others. absurd (cc);
        leaves = record { own = leaves.own; told = leaves.told; follows = λ g t ts is yes others. absurd (cc); none = λ yes others. absurd (cc) };
      });
      alike = (refl, refl);
    }

    -- the first one of a block
    skip_first : (entered : Bool) (before first : Option ℕ) (t : NodeCode) (ts : List NodeCode) (rest more : List (List NodeCode)) → At k [] rest →
        Leaves structs units entry activities i entered [] before rest r → (first ≡ None) ⊎ (first ≡ before) → joined rest ≡ t ∷ (ts ++ joined more) →
        all_merged view.word before rest ≡ merged_code view.word first (is_some (left_to t ts more)) (t ∷ ts) ++ all_merged view.word (left_to t ts more) more →
        behind_firsts rest ≡ false ∷ (marks_of ts ++ behind_firsts more) → Left (all_merged view.word before rest) here r
    skip_first entered before first t ts rest more place leaves from turns code behind =
        let due = rule_at k t (ts ++ joined more) (place.turns ∙ turns) in
        let first_one = first_at k due.rule due.there due.numbered (marks_of ts ++ behind_firsts more) (place.behind ∙ behind) in
        let leaving = is_some (left_to t ts more) in
        let inside = fused_code leaving (node_turn view due.u due.rule) ts in
        let off = none due.rule due.there due.numbered in
        let before_off = first_left structs units entry activities i entered before first rest r leaves from in
        let done = choose.skips i unit scope frames store copies r first due.rule inside here mid due.there first_one before_off.0
        (ap (λ (b : Bool). b || is_due (rank i) due.rule r) before_off.1 ∙ off) in
        let marks = drop_next marks_all k false (marks_of ts ++ behind_firsts more) (place.behind ∙ behind) in
        record {
          reached = now (record {
            entered = false;
            others = ts;
            before = left_to t ts more;
            rest = more;
            place = record { turns = drop_next turns_all k t (ts ++ joined more) (place.turns ∙ turns); behind = marks };
            asleep = λ is rule has from below.
                (let stands = get_behind marks_all (suc k) (rank i rule.node) ts (behind_firsts more) marks from below in
                not_due structs units entry activities machine placed i unit mid.compiled mid.is_there r rule has stands
                (unflagged (rank i rule.node) from stands));
            awake = λ t ts is others. absurd (cc);
            leaves = record {
              own = leaves_own structs units entry activities i t ts more due.rule due.u due.turn first_one;
              told = λ g is. leaves_told structs units entry activities i t ts more due.rule due.u r due.turn g is ∙ off;
              follows = λ g t ts is yes others. absurd (cc);
              none = λ yes others. absurd (cc);
            };
          });
          alike = subst (λ (b : List CStmt). Alike (block_c b scope here) (block_c (all_merged view.word (left_to t ts more) more) scope here)) (sym code)
              (subst (λ (x : NodeCode).
              Alike (block_c (merged_code view.word first leaving (x ∷ ts) ++ all_merged view.word (left_to t ts more) more) scope here)
              (block_c (all_merged view.word (left_to t ts more) more) scope here)) (sym due.turn)
              (first_done (guarded_by_rule view first due.rule inside) (all_merged view.word (left_to t ts more) more) scope here here done.0 done.1));
        }

    -- behind all
    skip_none : (before : Option ℕ) (rest : List (List NodeCode)) → At k [] rest → joined rest ≡ [] → all_merged view.word before rest ≡ [] →
        behind_firsts rest ≡ [] → Left (all_merged view.word before rest) here r
    skip_none before rest place turns code behind = record {
      reached = now (record {
        entered = false;
        others = [];
        before = None;
        rest = [];
        place = record { turns = drop_past turns_all k (place.turns ∙ turns); behind = drop_past marks_all k (place.behind ∙ behind) };
        asleep = λ is rule has from below. absurd (omega (arith, from, below));
        awake = λ t ts is others. absurd (cc);
        leaves = record {
          own = refl;
          told = λ g is. absurd (nothing_left g is);
          follows = λ g t ts is yes others. absurd (cc);
          none = λ yes others. refl;
        };
      });
      alike = subst (λ (b : List CStmt). Alike (block_c b scope here) (block_c [] scope here)) (sym code) (refl, refl);
    }

    skip_by : (entered : Bool) (others : List NodeCode) (before : Option ℕ) (rest : List (List NodeCode)) → At k others rest →
        Asleep structs units entry activities entered i unit k others r → Awake structs units entry activities entered k others r →
        Leaves structs units entry activities i entered others before rest r → Left (text view.word entered others before rest) here r
    skip_by true (t ∷ ts) before rest place asleep awake leaves = skip_open t ts before rest place (awake t ts refl refl)
    skip_by false (t ∷ ts) before rest place asleep awake leaves = skip_asleep t ts before rest place (asleep refl) leaves
    skip_by entered [] before rest place asleep awake leaves =
        subst (λ (code : List CStmt). Left code here r) (sym (text_alone view.word entered before rest)) (by (head_of view.word before rest))
      where
        by : Head view.word before rest → Left (all_merged view.word before rest) here r
        by (nothing turns code behind) = skip_none before rest place turns code behind
        by (leads first t ts more from turns code behind) = skip_first entered before first t ts rest more place leaves from turns code behind

    pub skipped : (p : On k r) → Left (text_at structs units entry activities i unit k r p) here r
    skipped p = skip_by p.entered p.others p.before p.rest p.place p.asleep p.awake p.leaves

  -- ---- a turn that is due

  -- where the turn stands: in a block that was entered, or first in a block
  pub data Stands (code : List CStmt) : Type 0 where
    inside : (t : NodeCode) (ts : List NodeCode) (before : Option ℕ) (rest : List (List NodeCode)) → At k (t ∷ ts) rest →
        Leaves structs units entry activities i true (t ∷ ts) before rest r →
        code ≡ fused_code (is_some before) t ts ++ all_merged view.word before rest → Stands code
    at_first : (first : Option ℕ) (t : NodeCode) (ts : List NodeCode) (more : List (List NodeCode)) → has_left (registered own) first ≡ true →
        drop k turns_all ≡ t ∷ (ts ++ joined more) → drop k marks_all ≡ false ∷ (marks_of ts ++ behind_firsts more) →
        code ≡ merged_code view.word first (is_some (left_to t ts more)) (t ∷ ts) ++ all_merged view.word (left_to t ts more) more → Stands code

  module _ (rule : Transition) (has : HasRule slots i unit rule) (at : rank i rule.node ≡ k) (due : is_due (rank i) rule r ≡ true)
      (block : BlockAt own unit (rank i rule.node) rule) where
    abbrev turn : NodeCode
    turn = node_turn view block.u rule

    same_turn : (t : NodeCode) (ts : List NodeCode) → drop k turns_all ≡ t ∷ ts → turn ≡ t
    same_turn t ts is = sym (own_turn structs units entry activities machine placed i unit mid.compiled mid.is_there k rule at block t ts is)

    -- a block that wasn't entered has none
    not_asleep : (t : NodeCode) (ts : List NodeCode) → NoneDue structs units entry activities i unit k (suc (length ts)) r → ⊥
    not_asleep t ts asleep =
        let none = asleep rule has (omega (arith, at)) (omega (arith, at)) in let both : true ≡ false = sym due ∙ none in absurd (cc)

    stands_by : (entered : Bool) (others : List NodeCode) (before : Option ℕ) (rest : List (List NodeCode)) → At k others rest →
        Asleep structs units entry activities entered i unit k others r → Leaves structs units entry activities i entered others before rest r →
        Stands (text view.word entered others before rest)
    stands_by true (t ∷ ts) before rest place asleep leaves = inside t ts before rest place leaves refl
    stands_by false (t ∷ ts) before rest place asleep leaves = absurd (not_asleep t ts (asleep refl))
    stands_by entered [] before rest place asleep leaves = by (head_of view.word before rest)
      where
        by : Head view.word before rest → Stands (text view.word entered [] before rest)
        by (nothing turns code behind) =
            let some = drop_at turns_all k turn
            (turn_there structs units entry activities machine placed i unit mid.compiled mid.is_there k rule at block) in
            let none : turn ∷ drop (suc k) turns_all ≡ [] = sym some ∙ place.turns ∙ turns in absurd (cc)
        by (leads first t ts more from turns code behind) =
            at_first first t ts more (first_left structs units entry activities i entered before first rest r leaves from).0 (place.turns ∙ turns)
            (place.behind ∙ behind) (text_alone view.word entered before rest ∙ code)

    -- what the turn does where it has these others behind it in its block
    abbrev done : Bool → List NodeCode → Outcome Memory
    done leaving ts = block_c (part_of leaving turn ts) scope here

    -- the turns behind it in its block, and the blocks behind that, as they stand
    pub record Split (code : List CStmt) : Type 0 where
      ts : List NodeCode
      before : Option ℕ
      more : List (List NodeCode)
      turns : drop k turns_all ≡ turn ∷ (ts ++ joined more)
      marks : drop (suc k) marks_all ≡ marks_of ts ++ behind_firsts more
      its : has_left (registered own) before ≡ true
      told : (g : ℕ) → before ≡ Some g → r.flags g ≡ true
      follows : (g : ℕ) → before ≡ Some g → Follows (last_turn turn ts) more
      alike : (done (is_some before) ts).end ≡ goes_on →
          Alike (block_c code scope here) (block_c (fused (is_some before) ts ++ all_merged view.word before more) scope (done (is_some before) ts).memory)
      cuts : (done (is_some before) ts).end ≡ traps → (block_c code scope here).end ≡ traps

    module _ (leaving : Bool) (ts : List NodeCode) (behind : List CStmt) where
      -- the text behind it
      behind_open : (done leaving ts).end ≡ goes_on →
          Alike (block_c (fused_code leaving turn ts ++ behind) scope here) (block_c (fused leaving ts ++ behind) scope (done leaving ts).memory)
      behind_open ends =
          subst (λ (code : List CStmt). Alike (block_c code scope here) (block_c (fused leaving ts ++ behind) scope (done leaving ts).memory))
          (sym (ap (λ (code : List CStmt). code ++ behind) (fused_is leaving turn ts) ∙ append_assoc (part_of leaving turn ts) (fused leaving ts) behind))
          (then_more (part_of leaving turn ts) (fused leaving ts ++ behind) scope here ends)

      module _ (first : Option ℕ) (its : has_left (registered own) first ≡ true) (stands : Contains (first_rules own) rule) where
        -- what the `if` of its block does
        entered_so : Alike (block_c (guarded_by_rule view first rule (fused_code leaving turn ts) ∷ []) scope here)
            (block_c (part_of leaving turn ts ++ fused leaving ts) scope here)
        entered_so =
            subst (λ (code : List CStmt). Alike (block_c (guarded_by_rule view first rule (fused_code leaving turn ts) ∷ []) scope here)
            (block_c code scope here)) (fused_is leaving turn ts)
            (choose.enters i unit scope frames store copies r first rule (fused_code leaving turn ts) here mid has stands its
            (or_right (is_left r first) (is_due (rank i) rule r) due))

        behind_first_one : (done leaving ts).end ≡ goes_on →
            Alike (block_c (merged_code view.word first leaving (turn ∷ ts) ++ behind) scope here)
            (block_c (fused leaving ts ++ behind) scope (done leaving ts).memory)
        behind_first_one ends =
            opened (guarded_by_rule view first rule (fused_code leaving turn ts)) (part_of leaving turn ts) (fused leaving ts) behind scope here
            entered_so ends

    split_by : (code : List CStmt) → Stands code → Split code
    split_by code (inside t ts before rest place leaves is) =
        let same = same_turn t (ts ++ joined rest) place.turns in
        let leaving = is_some before in
        let behind = all_merged view.word before rest in
        let is_so : code ≡ fused_code leaving turn ts ++ behind = is ∙ ap (λ (x : NodeCode). fused_code leaving x ts ++ behind) (sym same) in
        record {
          ts = ts;
          before = before;
          more = rest;
          turns = place.turns ∙ ap (λ (x : NodeCode). x ∷ (ts ++ joined rest)) (sym same);
          marks = drop_next marks_all k true (marks_of ts ++ behind_firsts rest) place.behind;
          its = leaves.own;
          told = leaves.told;
          follows = λ g some. subst (λ (x : NodeCode). Follows (last_turn x ts) rest) (sym same) (leaves.follows g t ts some refl refl);
          alike = λ ends.
              subst (λ (b : List CStmt). Alike (block_c b scope here) (block_c (fused leaving ts ++ behind) scope (done leaving ts).memory)) (sym is_so)
              (behind_open leaving ts behind ends);
          cuts = λ trapped.
              ap (λ (b : List CStmt). (block_c b scope here).end)
              (is_so ∙ (ap (λ (code : List CStmt). code ++ behind) (fused_is leaving turn ts)
              ∙ append_assoc (part_of leaving turn ts) (fused leaving ts) behind))
              ∙ then_traps (part_of leaving turn ts) (fused leaving ts ++ behind) scope here trapped;
        }
    split_by code (at_first first t ts more its there behind is) =
        let same = same_turn t (ts ++ joined more) there in
        let before = left_to t ts more in
        let leaving = is_some before in
        let blocks = all_merged view.word before more in
        let is_so : code ≡ merged_code view.word first leaving (turn ∷ ts) ++ blocks =
        is ∙ ap (λ (x : NodeCode). merged_code view.word first leaving (x ∷ ts) ++ blocks) (sym same) in
        let stands = first_at k rule has at (marks_of ts ++ behind_firsts more) behind in
        record {
          ts = ts;
          before = before;
          more = more;
          turns = there ∙ ap (λ (x : NodeCode). x ∷ (ts ++ joined more)) (sym same);
          marks = drop_next marks_all k false (marks_of ts ++ behind_firsts more) behind;
          its = leaves_own structs units entry activities i t ts more rule block.u (sym same) stands;
          told = λ g some. leaves_told structs units entry activities i t ts more rule block.u r (sym same) g some ∙ due;
          follows = λ g some. subst (λ (x : NodeCode). Follows (last_turn x ts) more) (sym same) (left_follows t ts more g some);
          alike = λ ends.
              subst (λ (b : List CStmt). Alike (block_c b scope here) (block_c (fused leaving ts ++ blocks) scope (done leaving ts).memory)) (sym is_so)
              (behind_first_one leaving ts blocks first its stands ends);
          cuts = λ trapped.
              ap (λ (b : List CStmt). (block_c b scope here).end) is_so
              ∙ more_traps (guarded_by_rule view first rule (fused_code leaving turn ts)) blocks scope here
              ((entered_so leaving ts blocks first its stands).0 ∙ then_traps (part_of leaving turn ts) (fused leaving ts) scope here trapped);
        }

    pub split : (p : On k r) → Split (text_at structs units entry activities i unit k r p)
    split p = split_by (text_at structs units entry activities i unit k r p) (stands_by p.entered p.others p.before p.rest p.place p.asleep p.leaves)

    -- what a turn has done: memory stands for what it left, and this text is behind it
    pub record Turned (code : List CStmt) (frames' : Frames) (left : Store) (copies' : List Value) (after : Registers) : Type 0 where
      pub middle : Memory
      pub stands : PassRepresents w activities i unit scope frames' left copies' after middle
      pub kept : PassKeepsFrame view.site unit (remembers_any own) scope here middle
      pub rest : Left code middle after

    module _ (code : List CStmt) (f : Split code) where
      -- ---- a turn that is done in its block

      module _ (whole : is_last f.ts ≡ true → f.before ≡ None) where
        -- the rule as the block has it
        abbrev shown : Transition
        shown = shown_rule (is_last f.ts) rule

        has_shown : HasShownRule w activities i unit shown
        has_shown = record { rule = rule; there = has; last = is_last f.ts; is = refl; stands_last = by f.ts f.marks }
          where
            by : (ts : List NodeCode) → drop (suc k) marks_all ≡ marks_of ts ++ behind_firsts f.more → is_last ts ≡ true → Contains (last_rules own) rule
            by [] marks last = last_at k rule has at f.more marks
            by (t ∷ ts) marks last = absurd (cc)

        abbrev did : Outcome Memory
        did = done (is_some f.before) f.ts

        -- what its C is
        shown_code : node_code view block.u shown rule.node ≡ part_of (is_some f.before) turn f.ts
        shown_code = by f.ts f.marks whole
          where
            by : (ts : List NodeCode) → drop (suc k) marks_all ≡ marks_of ts ++ behind_firsts f.more → (is_last ts ≡ true → f.before ≡ None) →
                node_code view block.u (shown_rule (is_last ts) rule) rule.node ≡ part_of (is_some f.before) turn ts
            by [] marks whole = ap (λ (before : Option ℕ). turn.own ++ control_unless (is_some before) turn) (sym (whole refl))
            by (t ∷ ts) marks whole = own_alone view block.u rule rule.node (straight_at k rule has at (marks_of ts ++ behind_firsts f.more) marks).goes

        -- what is left where it is done, with these turns behind it
        abbrev Comes : Frames → Store → Registers → List NodeCode → Type 0
        Comes frames' left after others = PartSimulates w activities i unit scope frames' left (recopied w i rule.node left copies) after here
            (done (is_some f.before) others)

        module _ (answer : Bool) (frames' : Frames) (left : Store) (performs : Performs w rank slots clear i rule.node frames store answer frames' left) where
          abbrev after : Registers
          after = after_rule (rank i) rule answer r

          flagged : (m : ℕ) (o : Outcome Memory) → (registered own).flags m ≡ false →
              PartSimulates w activities i unit scope frames' left (recopied w i rule.node left copies) r here o →
              PartSimulates w activities i unit scope frames' left (recopied w i rule.node left copies) (with_flag m r) here o
          flagged m o free part = record {
            ends = part.ends;
            stands = record {
              registers = free_flag (registered own) scope m r o.memory free part.stands.registers;
              variables = part.stands.variables;
              copied = part.stands.copied;
              callees = part.stands.callees;
              result = part.stands.result;
            };
            kept = part.kept;
          }

          after_part : PartSimulates w activities i unit scope frames' left (recopied w i rule.node left copies) (after_rule (rank i) shown answer r) here
              (block_done w activities i block.u shown scope here) → Comes frames' left after f.ts
          after_part part = by f.ts f.marks
              (subst (λ (code : List CStmt). PartSimulates w activities i unit scope frames' left (recopied w i rule.node left copies)
              (after_rule (rank i) shown answer r) here (block_c code scope here)) shown_code part)
            where
              by : (ts : List NodeCode) → drop (suc k) marks_all ≡ marks_of ts ++ behind_firsts f.more →
                  Comes frames' left (after_rule (rank i) (shown_rule (is_last ts) rule) answer r) ts → Comes frames' left after ts
              by [] marks part = part
              by (t ∷ ts) marks part =
                  let goes = straight_at k rule has at (marks_of ts ++ behind_firsts f.more) marks in
                  let yes = straight_true structs units entry activities i rule.node frames store answer frames' left goes.goes performs in
                  let behind = get_first marks_all (suc k) true (marks_of ts ++ behind_firsts f.more) marks in
                  let free = placed.free i unit (rank i goes.to) mid.compiled mid.is_there
                  (subst (λ (n : ℕ). IsBehind own n) (sym (goes.next ∙ ap suc at)) behind) in
                  subst (λ (b : Bool). Comes frames' left (after_rule (rank i) rule b r) (t ∷ ts)) (sym yes)
                  (subst (λ (changes : List Change). Comes frames' left (all_changed (rank i) changes r) (t ∷ ts)) (sym goes.sets)
                  (flagged (rank i goes.to) (block_c turn.own scope here) free
                  (subst (λ (b : Bool). Comes frames' left (after_rule (rank i) (shown_rule false rule) b r) (t ∷ ts)) yes part)))

          -- the next turn in its block is due
          next_due : (t : NodeCode) (ts : List NodeCode) → f.ts ≡ t ∷ ts → after.flags (suc k) ≡ true
          next_due t ts is =
              let goes = straight_at k rule has at (marks_of ts ++ behind_firsts f.more)
              (f.marks ∙ ap (λ (others : List NodeCode). marks_of others ++ behind_firsts f.more) is) in
              let yes = straight_true structs units entry activities i rule.node frames store answer frames' left goes.goes performs in
              ap (λ (b : Bool). (after_rule (rank i) rule b r).flags (suc k)) yes
              ∙ (ap (λ (changes : List Change). (all_changed (rank i) changes r).flags (suc k)) goes.sets
              ∙ ap (λ (b : Bool). if b then true else r.flags (suc k)) (eq-eqb (suc k) (rank i goes.to) (sym (goes.next ∙ ap suc at))))

          in_block : PartSimulates w activities i unit scope frames' left (recopied w i rule.node left copies) (after_rule (rank i) shown answer r) here
              (block_done w activities i block.u shown scope here) → Turned code frames' left (recopied w i rule.node left copies) after
          in_block part =
              let all_done = after_part part in
              record {
                middle = did.memory;
                stands = all_done.stands;
                kept = all_done.kept;
                rest = record {
                  reached = now (record {
                    entered = true;
                    others = f.ts;
                    before = f.before;
                    rest = f.more;
                    place = record { turns = drop_next turns_all k turn (f.ts ++ joined f.more) f.turns; behind = f.marks };
                    asleep = λ is. absurd (cc);
                    awake = λ t ts yes others. next_due t ts others;
                    leaves = record {
                      own = f.its;
                      told = λ g some. flags_stay (rank i) g (if answer then rule.on_true else rule.on_false) r (f.told g some);
                      follows = λ g t ts some yes others.
                          subst (λ (ts : List NodeCode). Follows (last_turn turn ts) f.more) others (f.follows g some);
                      none = λ yes others. whole (ap is_last others);
                    };
                  });
                  alike = f.alike all_done.ends;
                };
              }

        stops_in_block : (block_done w activities i block.u shown scope here).end ≡ traps → (block_c code scope here).end ≡ traps
        stops_in_block trapped = f.cuts (ap (λ (code : List CStmt). (block_c code scope here).end) (sym shown_code) ∙ trapped)

      -- ---- a start that leaves its call to the next block

      module _ (g : ℕ) (none : f.ts ≡ []) (some : f.before ≡ Some g) where
        abbrev follows : Follows (last_turn turn f.ts) f.more
        follows = f.follows g some

        turns_next : drop (suc k) turns_all ≡ follows.next ∷ (follows.others ++ joined follows.more)
        turns_next =
            drop_next turns_all k turn (f.ts ++ joined f.more) f.turns
            ∙ (ap (λ (ts : List NodeCode). ts ++ joined f.more) none ∙ ap (λ (more : List (List NodeCode)). joined more) follows.is)

        marks_next : drop (suc k) marks_all ≡ false ∷ (marks_of follows.others ++ behind_firsts follows.more)
        marks_next =
            f.marks
            ∙ (ap (λ (ts : List NodeCode). marks_of ts ++ behind_firsts f.more) none ∙ ap (λ (more : List (List NodeCode)). behind_firsts more) follows.is)

        -- the rule of the node that goes on with the `run`
        abbrev other : Due structs units entry activities i (suc k) unit follows.next
        other = rule_at (suc k) follows.next (follows.others ++ joined follows.more) turns_next

        same_by : (m : Node) → follows.next.run ≡ run_part m → IsSameRun rule.node m
        same_by m is =
            same_parts rule.node m
            (ap (λ part. same_run (run_part rule.node) part) (sym is)
            ∙ subst (λ (ts : List NodeCode). same_run (last_turn turn ts).run follows.next.run ≡ true) none follows.same)

        part_is : follows.next.run ≡ run_part other.rule.node
        part_is = ap (λ (t : NodeCode). t.run) other.turn

        same : IsSameRun rule.node other.rule.node
        same = same_by other.rule.node part_is

        -- it stands alone in its block
        alone : follows.others ≡ []
        alone = by follows.others marks_next
          where
            by : (ts : List NodeCode) → drop (suc k) marks_all ≡ false ∷ (marks_of ts ++ behind_firsts follows.more) → ts ≡ []
            by [] marks = refl
            by (t ∷ ts) marks =
                absurd (stays rule.node other.rule.node same
                (straight_at (suc k) other.rule other.there other.numbered (marks_of ts ++ behind_firsts follows.more)
                (drop_next marks_all (suc k) false (marks_of (t ∷ ts) ++ behind_firsts follows.more) marks)).goes)

        turns_behind : drop (suc (suc k)) turns_all ≡ joined follows.more
        turns_behind =
            drop_next turns_all (suc k) follows.next (follows.others ++ joined follows.more) turns_next
            ∙ ap (λ (ts : List NodeCode). ts ++ joined follows.more) alone

        marks_behind : drop (suc (suc k)) marks_all ≡ behind_firsts follows.more
        marks_behind =
            drop_next marks_all (suc k) false (marks_of follows.others ++ behind_firsts follows.more) marks_next
            ∙ ap (λ (ts : List NodeCode). marks_of ts ++ behind_firsts follows.more) alone

        start_shown : HasShownRule w activities i unit (shown_rule true rule)
        start_shown = record {
          rule = rule;
          there = has;
          last = true;
          is = refl;
          stands_last = λ last. last_at k rule has at f.more (f.marks ∙ ap (λ (ts : List NodeCode). marks_of ts ++ behind_firsts f.more) none);
        }

        other_shown : HasShownRule w activities i unit (shown_rule true other.rule)
        other_shown = record {
          rule = other.rule;
          there = other.there;
          last = true;
          is = refl;
          stands_last = λ last. last_at (suc k) other.rule other.there other.numbered follows.more marks_behind;
        }

        -- the `if` of the next block, and what stands behind it
        abbrev called : CStmt
        called = guarded_by_rule view (Some g) other.rule (node_code view other.u other.rule other.rule.node)

        next_code : all_merged view.word f.before f.more ≡ called ∷ all_merged view.word None follows.more
        next_code =
            ap (λ (before : Option ℕ). all_merged view.word before f.more) some
            ∙ (ap (λ (more : List (List NodeCode)). all_merged view.word (Some g) more) follows.is
            ∙ (ap (λ (ts : List NodeCode). all_merged view.word (Some g) ((follows.next ∷ ts) ∷ follows.more)) alone
            ∙ (ap (λ (left : Option ℕ). merged_code view.word (Some g) (is_some left) (follows.next ∷ []) ++ all_merged view.word left follows.more)
            (leaves_none rule.node other.rule.node same follows.next (next_turn follows.more) part_is)
            ∙ ap (λ (t : NodeCode). merged_code view.word (Some g) false (t ∷ []) ++ all_merged view.word None follows.more) other.turn)))

        own_is : part_of (is_some f.before) turn f.ts ≡ own_code view block.u rule rule.node
        own_is =
            ap (λ (before : Option ℕ). part_of (is_some before) turn f.ts) some
            ∙ (ap (λ (ts : List NodeCode). part_of true turn ts) none ∙ append-nil turn.own)

        -- what the start does itself
        abbrev begun : Outcome Memory
        begun = own_done w activities i block.u (shown_rule true rule) scope here

        text_so : begun.end ≡ goes_on → Alike (block_c code scope here) (block_c (called ∷ all_merged view.word None follows.more) scope begun.memory)
        text_so ends =
            let did : Outcome Memory = done (is_some f.before) f.ts in
            let is : did ≡ begun = ap (λ (code : List CStmt). block_c code scope here) own_is in
            let one = f.alike (ap (λ (o : Outcome Memory). o.end) is ∙ ends) in
            let inside : fused (is_some f.before) f.ts ++ all_merged view.word f.before f.more ≡ called ∷ all_merged view.word None follows.more =
            ap (λ (ts : List NodeCode). fused (is_some f.before) ts ++ all_merged view.word f.before f.more) none ∙ next_code in
            let memory : did.memory ≡ begun.memory = ap (λ (o : Outcome Memory). o.memory) is in (
              one.0 ∙ (ap (λ (code : List CStmt). (block_c code scope did.memory).end) inside
                  ∙ ap (λ (m : Memory). (block_c (called ∷ all_merged view.word None follows.more) scope m).end) memory),
              one.1 ∙ (ap (λ (code : List CStmt). (block_c code scope did.memory).memory) inside
                  ∙ ap (λ (m : Memory). (block_c (called ∷ all_merged view.word None follows.more) scope m).memory) memory),
            )

        -- the `if` of the next block is entered
        entered_left : (answer : Bool) → CallIsLeft structs units entry machine activities i unit scope store copies (after_rule (rank i) rule answer r)
            here begun →
            Alike (block_c (called ∷ []) scope begun.memory) (block_done w activities i other.u (shown_rule true other.rule) scope begun.memory)
        entered_left answer left =
            let after = after_rule (rank i) rule answer r in
            choose.enters i unit scope left.frames store copies after (Some g) other.rule (node_code view other.u other.rule other.rule.node) begun.memory
            left.stands other.there
            (first_at (suc k) other.rule other.there other.numbered (marks_of follows.others ++ behind_firsts follows.more) marks_next)
            (subst (λ (before : Option ℕ). has_left (registered own) before ≡ true) some f.its)
            (or_left (after.flags g) (is_due (rank i) other.rule after)
            (flags_stay (rank i) g (if answer then rule.on_true else rule.on_false) r (f.told g some)))

        -- the `run` isn't gone on with otherwise
        none_due : (answer : Bool) → BeginsAlone rank slots i unit rule r →
            NoneDue structs units entry activities i unit (suc k) 1 (after_rule (rank i) rule answer r)
        none_due answer begins other has' from below =
            let number : rank i other.node ≡ suc k = omega (arith, from, below) in
            let there = placed.of_rule i unit other mid.compiled mid.is_there has' in
            let turn_is = own_turn structs units entry activities machine placed i unit mid.compiled mid.is_there (suc k) other number there follows.next
            (follows.others ++ joined follows.more) turns_next in
            let both = same_by other.node (ap (λ (t : NodeCode). t.run) turn_is) in
            let run = one_run rule.node other.node both in
            resumes_rested (slots i) (plain_body unit.body) other has' run.second run.place run.given (rank i) (after_rule (rank i) rule answer r) r
            run.goes_on
            (begins_quiet (slots i) (plain_body unit.body) rule has run.first run.at run.arguments (rank i) answer r run.begins)
            ∙ begins other has' both (omega (arith, number, at))

        leaves_call : (answer : Bool) (frames' : Frames) (left : Store) → BeginsAlone rank slots i unit rule r → CopiesMatch w i rule.node store copies →
            Performs w rank slots clear i rule.node frames store answer frames' left →
            Turned code frames' left (recopied w i rule.node left copies) (after_rule (rank i) rule answer r)
        leaves_call answer frames' left begins sees performs =
            let did = starts.acts i unit scope frames store copies r (shown_rule true rule) (shown_rule true other.rule) block.u other.u answer frames' left
            here mid start_shown other_shown same block.called other.called sees performs in
            let entered = entered_left answer did.0 in
            let last = block_done w activities i other.u (shown_rule true other.rule) scope begun.memory in
            let text_is = text_so did.0.ends in
            let behind = first_done called (all_merged view.word None follows.more) scope begun.memory last.memory (entered.0 ∙ did.1.ends) entered.1 in
            record {
              middle = last.memory;
              stands = did.1.stands;
              kept = λ root way older outside. did.1.kept root way older outside ∙ did.0.kept root way older outside;
              rest = record {
                reached = later (none_due answer begins) other.rule other.there other.numbered (record {
                  entered = true;
                  others = [];
                  before = None;
                  rest = follows.more;
                  place = record { turns = turns_behind; behind = marks_behind };
                  asleep = λ is. absurd (cc);
                  awake = λ t ts yes others. absurd (cc);
                  leaves = record {
                    own = refl;
                    told = λ g is. absurd (nothing_left g is);
                    follows = λ g t ts is yes others. absurd (nothing_left g is);
                    none = λ yes others. refl;
                  };
                });
                alike = (text_is.0 ∙ behind.0, text_is.1 ∙ behind.1);
              };
            }

        stops_left : CopiesMatch w i rule.node store copies → NodeTraps w rank slots clear i rule.node frames store → (block_c code scope here).end ≡ traps
        stops_left sees stops =
            let did = starts.stops i unit scope frames store copies r (shown_rule true rule) (shown_rule true other.rule) block.u other.u here mid
            start_shown other_shown same block.called other.called sees stops in
            (text_so did.0.ends).0
            ∙ more_traps called (all_merged view.word None follows.more) scope begun.memory ((entered_left true did.0).0 ∙ did.1)

    -- ---- all turns

    module _ (p : On k r) where
      abbrev code : List CStmt
      code = text_at structs units entry activities i unit k r p

      abbrev found : Split code
      found = split p

      several : (t : NodeCode) (ts : List NodeCode) → found.ts ≡ t ∷ ts → is_last found.ts ≡ true → found.before ≡ None
      several t ts is last = absurd (true_not_false (sym last ∙ ap is_last is))

      pub turned : (answer : Bool) (frames' : Frames) (left : Store) → BeginsAlone rank slots i unit rule r → CopiesMatch w i rule.node store copies →
          Performs w rank slots clear i rule.node frames store answer frames' left →
          ((last : Bool) → HasShownRule w activities i unit (shown_rule last rule) →
          PartSimulates w activities i unit scope frames' left (recopied w i rule.node left copies) (after_rule (rank i) (shown_rule last rule) answer r)
          here (block_done w activities i block.u (shown_rule last rule) scope here)) →
          Turned code frames' left (recopied w i rule.node left copies) (after_rule (rank i) rule answer r)
      turned answer frames' left begins sees performs does = by found.ts found.before refl refl
        where
          whole : (is_last found.ts ≡ true → found.before ≡ None) →
              Turned code frames' left (recopied w i rule.node left copies) (after_rule (rank i) rule answer r)
          whole so = in_block code found so answer frames' left performs (does (is_last found.ts) (has_shown code found so))

          by : (ts : List NodeCode) (before : Option ℕ) → found.ts ≡ ts → found.before ≡ before →
              Turned code frames' left (recopied w i rule.node left copies) (after_rule (rank i) rule answer r)
          by [] None none is = whole (λ last. is)
          by [] (Some g) none is = leaves_call code found g none is answer frames' left begins sees performs
          by (t ∷ ts) before is such = whole (several t ts is)

      pub stopped : CopiesMatch w i rule.node store copies → NodeTraps w rank slots clear i rule.node frames store →
          ((last : Bool) → HasShownRule w activities i unit (shown_rule last rule) →
          (block_done w activities i block.u (shown_rule last rule) scope here).end ≡ traps) → (block_c code scope here).end ≡ traps
      stopped sees stops does = by found.ts found.before refl refl
        where
          whole : (is_last found.ts ≡ true → found.before ≡ None) → (block_c code scope here).end ≡ traps
          whole so = stops_in_block code found so (does (is_last found.ts) (has_shown code found so))

          by : (ts : List NodeCode) (before : Option ℕ) → found.ts ≡ ts → found.before ≡ before → (block_c code scope here).end ≡ traps
          by [] None none is = whole (λ last. is)
          by [] (Some g) none is = stops_left code found g none is sees stops
          by (t ∷ ts) before is such = whole (several t ts is)
