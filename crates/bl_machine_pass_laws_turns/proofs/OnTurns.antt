-- What the laws of a pass come to together.
use Rattle.std.proofs.Common.{◌≡◌, ℕ, suc, ◌≤◌, Bool, true, false, List, None, refl, sym, ◌∙◌, subst, arith}
use Rattle.bl_tree.specs.declared.tree.Unit.{Unit as UnitDef}
use Rattle.bl_graph_nodes.specs.Nodes.{Node}
use Rattle.bl_graph_nodes.specs.Plain.{Block, plain_body}
use Rattle.bl_ctree.specs.Instances.{Setting}
use Rattle.bl_ctree_laws.specs.Trees.{Tree, Nil, Wait, Test, Idle, Do, Seq, Par, Guard, Run, is_nil, woken}
use Rattle.bl_ctree_laws_traces.specs.Progress.FitsGraph.{FitsGraph}
use Rattle.bl_ctree_laws_traces.specs.Progress.Places.{whole}
use Rattle.bl_machine.specs.Uses.{Slots}
use Rattle.bl_machine_laws.specs.Numbers.Waiting.{Waits}
use Rattle.bl_machine_laws.specs.Waiting.Waking.{WakingKeepsNumbers}
use Rattle.bl_machine_pass.specs.Registers.{Registers, due_by, is_due, started}
use Rattle.bl_machine_pass.specs.Transitions.{Condition, Ended, Flagged, Rested, RestedIn, Transition, rules}
use Rattle.bl_machine_pass_laws.specs.Turns.Dozes.{StaysDozing}
use Rattle.bl_machine_pass_laws.specs.Turns.Holds.{CountersLinger}
use Rattle.bl_machine_pass_laws.specs.Turns.Invariant.{Exactly, IsFlagged, IsJoin, IsResume, PassInvariant}
use Rattle.bl_machine_pass_laws.specs.Turns.Laws.{StaysPlaced, Turning, TurnsChangeNumbers}
use Rattle.bl_machine_pass_laws.specs.Turns.Rooted.{StaysRooted}
use Rattle.bl_machine_pass_laws_turns.specs.Joins.Laws.{JoinsWait, MarksBegin, StaysStemmed, TurnsKeepMarks}
use Rattle.bl_machine_pass_laws.specs.Rooted.{OnlyResumesBegin, ResumesBegin}
use Rattle.bl_machine_pass_laws_turns.specs.Waiting.{BodiesBegin, TurnsKeepFlags, TurnsKeepResumes, TurnsLeaveMore}
use Rattle.bl_machine_pass_laws_turns.specs.Turns.{DueWaits, FitsBody, NumbersPass, PassesBegin, TreesFitBodies, TurnContext, TurnsKeepInvariant}

pub trees_stand : StaysPlaced → StaysDozing → StaysRooted → StaysStemmed → TreesFitBodies
trees_stand placed dozing rooted stemmed = record {
  begins = λ slots unit laid. record {
    placed = placed.begins slots (plain_body unit.body) laid;
    dozes = dozing.begins (plain_body unit.body);
    rooted = rooted.begins slots unit laid;
    stemmed = stemmed.begins unit;
  };
  wakes = λ w i stood slots unit c live settled stands. record {
    placed = placed.wakes slots (plain_body unit.body) c stands.placed;
    dozes = dozing.wakes w i stood (plain_body unit.body) c live settled;
    rooted = rooted.wakes slots (plain_body unit.body) c stands.rooted;
    stemmed = stemmed.wakes (plain_body unit.body) c stands.stemmed;
  };
  turns = λ w rank i slots unit c done n c' laid turn stands. record {
    placed = placed.turns w rank i slots (plain_body unit.body) c done n c' laid turn stands.placed;
    dozes = dozing.turns w rank i c done n c' turn stands.dozes;
    rooted = rooted.turns w rank i slots (plain_body unit.body) c done n c' turn stands.rooted;
    stemmed = stemmed.turns w rank i (plain_body unit.body) c done n c' turn stands.stemmed;
  };
}

-- ---- the start

woken_open : (w : Setting) (i : ℕ) (c : Tree) (stood : Bool) (body : Block) → FitsGraph w i c (whole stood body) → is_nil c ≡ false →
    is_nil (woken c) ≡ false
woken_open w i Nil stood body live unended = unended
woken_open w i (Wait s) stood body live unended = refl
woken_open w i (Test s) stood body live unended = refl
woken_open w i (Idle block) stood body live unended = absurd live
woken_open w i (Do s) stood body live unended = refl
woken_open w i (Seq c rest) stood body live unended = refl
woken_open w i (Par s old branches) stood body live unended = refl
woken_open w i (Guard s phase old c) stood body live unended = refl
woken_open w i (Run s callee phase old c) stood body live unended = refl

-- no flag is set yet, and no node that asks for one waits
unflagged : (number : Node → ℕ) (counters : ℕ → ℕ) (rule : Transition) (There : Type 0) → (There → IsResume rule.condition) → (condition : Condition) →
    rule.condition ≡ condition →
    IsFlagged condition → Exactly (due_by number (started counters (λ k. false)) rule.node condition) There
unflagged number counters rule There resumes Flagged is flagged = (λ set. absurd cc, λ there. absurd (subst IsResume is (resumes there)))
unflagged number counters rule There resumes (Rested slot) is flagged = absurd flagged
unflagged number counters rule There resumes (RestedIn slots) is flagged = absurd flagged
unflagged number counters rule There resumes (Ended age needed) is flagged = absurd flagged

pub passes_begin : CountersLinger → StaysPlaced → BodiesBegin → MarksBegin → ResumesBegin → OnlyResumesBegin → WakingKeepsNumbers → PassesBegin
passes_begin linger placed bodies marks resumed only keep = record {
  begins = λ w rank i slots unit counters given unended zero.
      bodies placed w rank i slots unit counters given.orders given.is given.laid unended zero;
  resumes = λ w rank i slots unit stood c counters given live stands settled unended holds. record {
    counters = linger.exact slots (plain_body unit.body) counters (woken c)
        (λ j. holds j ∙ sym (keep w i stood (plain_body unit.body) slots c j live));
    ahead = λ n waits. omega arith;
    flags = λ rule there flagged le.
        unflagged (rank i) counters rule (Waits (woken c) None rule.node)
        (only w (rank i) i slots unit stood c counters (λ k. false) live given.laid stands.placed stands.rooted settled unended holds rule there)
        rule.condition refl flagged;
    resumes = λ rule there resume le.
        resumed w (rank i) i slots unit stood c counters (λ k. false) live given.laid stands.placed stands.rooted settled unended holds rule there resume;
    marks = marks.resumes (rank i) c counters (λ k. false);
    over = sym (woken_open w i c stood (plain_body unit.body) live unended);
  };
}

-- ---- turns

pub turns_keep : StaysPlaced → TurnsChangeNumbers → TurnsLeaveMore → TurnsKeepFlags → TurnsKeepResumes → TurnsKeepMarks → TurnsKeepInvariant
turns_keep placed changes more flags resumes marks w rank i slots unit stood c done n c' rule r turn given live stands there of_node keeps =
    let t : Turning w rank i slots unit stood c n rule = record {
      paces = given.paces;
      orders = given.orders;
      is = given.is;
      live = live;
      laid = given.laid;
      placed = stands.placed;
      dozes = stands.dozes;
      there = there;
      of_node = of_node;
    } in
    let numbers = changes w rank i slots unit stood c done n c' rule r turn t keeps.counters keeps.over in record {
      counters = numbers.0;
      ahead = more w rank i slots unit stood c done n c' rule r turn t keeps;
      flags = flags placed w rank i slots unit stood c done n c' rule r turn t keeps;
      resumes = resumes placed w rank i slots unit stood c done n c' rule r turn t keeps;
      marks = marks w rank i slots unit stood c done n c' rule r turn placed t stands.stemmed keeps.marks;
      over = numbers.1;
    }

pub numbers_pass : NumbersPass
numbers_pass rank i slots body k c n r least first keeps = record {
  counters = keeps.counters;
  ahead = first;
  flags = λ rule there asks le. keeps.flags rule there asks (omega (arith, least, le));
  resumes = λ rule there asks le. keeps.resumes rule there asks (omega (arith, least, le));
  marks = keeps.marks;
  over = keeps.over;
}

pub due_waits : StaysPlaced → JoinsWait → DueWaits
due_waits placed joins w rank i slots unit stood k c rule r given live stands there keeps le = by_asked rule.condition refl
  where
    t : Turning w rank i slots unit stood c rule.node rule
    t = record {
      paces = given.paces;
      orders = given.orders;
      is = given.is;
      live = live;
      laid = given.laid;
      placed = stands.placed;
      dozes = stands.dozes;
      there = there;
      of_node = refl;
    }

    by_asked : (condition : Condition) → rule.condition ≡ condition → Exactly (is_due (rank i) rule r) (Waits c None rule.node)
    by_asked Flagged is = keeps.flags rule there (subst IsFlagged (sym is) tt) le
    by_asked (Rested slot) is = keeps.resumes rule there (subst IsResume (sym is) tt) le
    by_asked (RestedIn list) is = keeps.resumes rule there (subst IsResume (sym is) tt) le
    by_asked (Ended age needed) is =
        joins w rank i slots unit stood c rule r placed t stands.stemmed keeps.counters keeps.marks (subst IsJoin (sym is) tt)
