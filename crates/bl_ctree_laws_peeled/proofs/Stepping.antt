-- A step of a tree is one of each related tree, or a head that falls away after which fewer may fall away there.
use Rattle.std.proofs.Common.{◌≡◌, ◌⊎◌, inl, inr, ℕ, ◌<◌, Bool, true, false, not, Option, Some, None, refl, sym, ap, ◌∙◌, subst, arith}
use Rattle.std.specs.Prelude.{position}
use Rattle.bl_tree.proofs.Basics.{and_first, and_second}
use Rattle.bl_tree.specs.declared.place.Place.{Place}
use Rattle.bl_tree.specs.declared.tree.Expr.{Expr}
use Rattle.bl_tree.specs.declared.tree.Unit.{Unit as UnitDef}
use Rattle.bl_graph_nodes.specs.Nodes.{Node, entry}
use Rattle.bl_graph_nodes.specs.Plain.{Again, Block, Bodies, Label, Plain, Done, Repeat, Then, Until, is_empty, plain_body}
use Rattle.bl_graph_nodes.specs.Steps.{StepLabel, Gives as EndOf, Here, Inside, end_node, run_node}
use Rattle.bl_ctree.specs.Actions.{Asks, Copies, Gives, Silent}
use Rattle.bl_ctree.specs.Control.{Body}
use Rattle.bl_ctree.specs.Instances.{Setting, begins_at as begins_at_place, callee_of}
use Rattle.bl_ctree_laws.specs.Pending.{Deed, any_meets, deed, meets}
use Rattle.bl_ctree_laws.specs.Steps.{Moves, OneMoves, acts, takes, passes, pauses, runs, repeats, repeats_until, leaves, turns, enters, skips, forks, guards}
use Rattle.bl_ctree_laws.specs.Steps.{goes_on, waits, lets, aborts, resets, guard_ends, copies, run_ends, joins, in_seq, in_par, in_guard, in_run, first, later}
use Rattle.bl_ctree_laws.specs.Steps.{turn}
use Rattle.bl_ctree_laws.specs.Trees.{Call, Fork, Tree, Trees, Watch, Nil, Do, Guard, Par, Run, are_done, are_settled, before, beside, do_block, is_nil}
use Rattle.bl_ctree_laws.specs.Trees.{is_settled, trees_begun}
use Rattle.bl_ctree_laws_peeled.specs.Answers.{SameDeed}
use Rattle.bl_ctree_laws_peeled.proofs.Heads.{FallsAt, FallsEach, FewAt, FewEach, FewInTree, HasTurn, HeadFalls, HeadsStay, falls_begins, falls_fork}
use Rattle.bl_ctree_laws_peeled.proofs.Heads.{falls_guard, falls_here, falls_in, falls_run, falls_there, few_begins, few_fork, few_guard, few_here, few_in}
use Rattle.bl_ctree_laws_peeled.proofs.Heads.{few_run, few_there, leading, leading_in}
use Rattle.bl_ctree_laws_peeled.specs.Lines.{Line, Lined, Related, RelatedEach, Standing, At, both_begin, both_fork, both_guard, both_idle, both_over, both_run}
use Rattle.bl_ctree_laws_peeled.specs.Lines.{both_stand, both_test, both_wait, is_chain, line, no_branches, one_branch, related}
use Rattle.bl_ctree_laws_peeled.specs.Settings.{SameProgram, UnitUnrolls, no_unit, one_unit}
use Rattle.bl_ctree_laws_peeled.specs.Steps.{FallsAway, StepsAlong, StepsAreRelated}
use Rattle.bl_ctree_laws_peeled.specs.Unrolls.{PlainUnrolls, EachUnrolls, Unrolls, acts_alike, again_if, agains_alike, awaits_alike, cobegins_alike}
use Rattle.bl_ctree_laws_peeled.specs.Unrolls.{first_alike, first_repeat, first_until, ifs_alike, no_body, no_more, one_body, repeats_alike, runs_alike}
use Rattle.bl_ctree_laws_peeled.specs.Unrolls.{untils_alike, whens_alike, while_if, whiles_alike}
use Rattle.bl_ctree_laws_peeled.proofs.Blocks.{unrolls_before}
use Rattle.bl_ctree_laws_peeled.proofs.Lining.{begun_block, line_begins, line_seq, line_settled, lined_begins, lined_block, relined, settled_of}
use Rattle.bl_ctree_laws_peeled.proofs.Moving.{begun, head_in, rest_in, whole_moves}
use Rattle.bl_ctree_laws_peeled.proofs.Relating.{any_meets_same, each_answers, meets_same, related_answers, same_done}

pub same_deed : {a b : Deed} → a.instance ≡ b.instance → a.effect ≡ b.effect → SameDeed a b
same_deed instance effect = record { instance = instance; effect = effect }

-- ---- units of instances

pub record Counterpart (H : Node → Plain → Type 0) (unit : UnitDef) (other : Option UnitDef) : Type 0 where
  pub other_unit : UnitDef
  pub is : other ≡ Some other_unit
  pub unrolls : Unrolls H (plain_body unit.body) (plain_body other_unit.body)

some_unit : (one other : UnitDef) → Some one ≡ Some other → one ≡ other
some_unit one other e = cc

pub no_some : {A : Type 0} (unit : UnitDef) → None ≡ Some unit → A
no_some unit e = absurd cc

pub counterpart : {H : Node → Plain → Type 0} {one other : Option UnitDef} {unit : UnitDef} → UnitUnrolls H one other → one ≡ Some unit →
    Counterpart H unit other
counterpart {unit = unit} no_unit e = no_some unit e
counterpart {H} {unit = unit} (one_unit {unit = one} {unit' = other} unrolls) e =
    record {
      other_unit = other;
      is = refl;
      unrolls = subst (λ unit. Unrolls H (plain_body unit.body) (plain_body other.body)) (some_unit one unit e) unrolls;
    }

-- ---- trees that have ended, and blocks that begin

pub nil_is : (c : Tree) → is_nil c ≡ true → c ≡ Nil
nil_is Nil e = refl
nil_is c e = absurd cc

module _ {H : ℕ → Node → Plain → Type 0} where
  pub related_nil : {i : ℕ} {t : Tree} → Related H i Nil t → t ≡ Nil
  related_nil {t = t} inner = nil_is t (sym (related_answers inner).ended)

  pub related_block : {i : ℕ} {body body' : Block} → Unrolls (H i) body body' → Related H i (do_block body) (do_block body')
  related_block {body = body} {body'} unrolls = related (begun_block body).chain (begun_block body').chain (lined_begins unrolls no_more)

  related_begun : {i : ℕ} {bodies bodies' : Bodies} → EachUnrolls (H i) bodies bodies' → RelatedEach H i (trees_begun bodies) (trees_begun bodies')
  related_begun no_body = no_branches
  related_begun (one_body body rest) = one_branch (related_block body) (related_begun rest)

-- ---- where heads may fall away

few_out : {k : ℕ} {c t : Tree} {m : StepLabel} → FewInTree k c t m → FewAt k (line c Done) (line t Done) m
few_out (few_in few) = few

few_label : {k : ℕ} {s t : Plain} {rest rest' : Block} {m : StepLabel} → FewAt k (At (Do s) rest) (At (Do t) rest') m → m ≡ Here (entry t)
few_label (few_begins is less) = is

few_nil : {A : Type 0} {k : ℕ} {t : Tree} {m : StepLabel} → FewInTree k Nil t m → A
few_nil (few_in few) = elim few [ ]

-- where something stands in a turn it begins, and what follows the turn otherwise
turned_few : {t : Plain} {rest' : Block} (body : Block) (next : Plain) (rest : Block) (k : ℕ) (m : StepLabel) → m ≡ Here (entry t) →
    (is_empty body ≡ true → leading next < k) → leading_in body < k → FewAt k (line (do_block (turn body next)) rest) (At (Do t) rest') m
turned_few {t} {rest'} Done next rest k m is last less =
    subst (λ L. FewAt k L (At (Do t) rest') m) (sym (line_begins (Then next Done) rest)) (few_begins is (last refl))
turned_few {t} {rest'} (Then s body) next rest k m is last less =
    subst (λ L. FewAt k L (At (Do t) rest') m) (sym (line_begins (Then s (turn body next)) rest)) (few_begins is less)

full_begins : {A : Type 0} (body : Block) → is_empty body ≡ false → is_empty body ≡ true → A
full_begins body full empty = absurd (cc (full, empty))

begun_leading : {k : ℕ} {s t : Plain} {rest rest' : Block} {m : StepLabel} → FewAt k (At (Do s) rest) (At (Do t) rest') m → leading s < k
begun_leading (few_begins is less) = less

-- what has settled has nothing that begins
module _ {H : ℕ → Node → Plain → Type 0} where
  mutual
    settled_line : {A : Type 0} {i k : ℕ} {L L' : Line} {m : StepLabel} → Lined H i L L' → FewAt k L L' m → line_settled L ≡ true → A
    settled_line both_over few still = elim few [ ]
    settled_line (both_begin unrolls) few still = absurd cc
    settled_line (both_stand stands rest) few still = settled_standing stands few still

    settled_standing : {A : Type 0} {i k : ℕ} {c t : Tree} {rest rest' : Block} {m : StepLabel} → Standing H i c t → FewAt k (At c rest) (At t rest') m →
        is_settled c ≡ true → A
    settled_standing (both_wait is) few still = elim few [ ]
    settled_standing (both_test is) few still = elim few [ ]
    settled_standing (both_idle unrolls) few still = elim few [ ]
    settled_standing (both_fork {branches = branches} each) (few_fork few) still =
        settled_each each few (and_first (are_settled branches) (not (are_done branches)) still)
    settled_standing (both_guard {c = c} kind is body inner) (few_guard few) still =
        settled_few inner few (and_first (is_settled c) (not (is_nil c)) still)
    settled_standing (both_run {c = c} is inner) (few_run at few) still = settled_few inner few (and_first (is_settled c) (not (is_nil c)) still)

    settled_few : {A : Type 0} {i k : ℕ} {c t : Tree} {m : StepLabel} → Related H i c t → FewInTree k c t m → is_settled c ≡ true → A
    settled_few (related {c} chain chain' lined) (few_in few) still = settled_line lined few (sym (settled_of c chain) ∙ still)

    settled_each : {A : Type 0} {i k : ℕ} {branches branches' : Trees} {m : StepLabel} → RelatedEach H i branches branches' →
        FewEach k branches branches' m → are_settled branches ≡ true → A
    settled_each no_branches few still = elim few [ ]
    settled_each (one_branch {c = c} {rest = rest} inner others) (few_here few) still =
        settled_few inner few (and_first (is_settled c) (are_settled rest) still)
    settled_each (one_branch {c = c} {rest = rest} inner others) (few_there few) still =
        settled_each others few (and_second (is_settled c) (are_settled rest) still)

-- ---- steps of lines

-- the head of the first line falls away, which leaves another line
pub record HeadGone (H : ℕ → Node → Plain → Type 0) (i : ℕ) (L after L' : Line) : Type 0 where
  pub label : StepLabel
  pub loop : Plain
  pub falls : FallsAt H i L L' label loop
  pub fewer : HasTurn loop → FewAt (leading loop) after L' label
  pub keeps : (k : ℕ) (m : StepLabel) → FewAt k L L' m → FewAt k after L' m

-- a head of the branches falls away
pub record EachHeadGone (H : ℕ → Node → Plain → Type 0) (i : ℕ) (branches after others : Trees) : Type 0 where
  pub label : StepLabel
  pub loop : Plain
  pub falls : FallsEach H i branches others label loop
  pub fewer : HasTurn loop → FewEach (leading loop) after others label
  pub keeps : (k : ℕ) (m : StepLabel) → FewEach k branches others m → FewEach k after others m

-- where few heads may fall away it stays so after a step with the label
abbrev pub LineKeeps : StepLabel → Line → Line → Line → Line → Type 0
LineKeeps n L L' after after' = (k : ℕ) (m : StepLabel) → FewAt k L L' m → (m ≡ n → ⊥) → FewAt k after after' m

abbrev pub EachKeeps : StepLabel → Trees → Trees → Trees → Trees → Type 0
EachKeeps n branches others after after' = (k : ℕ) (m : StepLabel) → FewEach k branches others m → (m ≡ n → ⊥) → FewEach k after after' m

-- what a step of a line's head is of a related line: a head that falls away, or a step of its head
pub data LineSteps (T : Bool → Type 0) (H : ℕ → Node → Plain → Type 0) (w' : Setting) (i : ℕ) (L after L' : Line) (d : Bool) (a : Deed) : Type 0 where
  falls : d ≡ true → a.effect ≡ Silent → Lined H i after L' → HeadGone H i L after L' → LineSteps T H w' i L after L' d a
  along : {b : Deed} {m : StepLabel} {h : Tree} → Moves T w' i (head_in L') d b m h → SameDeed a b → Lined H i after (line h (rest_in L')) →
      LineKeeps m L L' after (line h (rest_in L')) → LineSteps T H w' i L after L' d a

-- what a step of a branch is of related branches
pub data TreesStep (T : Bool → Type 0) (H : ℕ → Node → Plain → Type 0) (w' : Setting) (i : ℕ) (branches after others : Trees) (d : Bool) (a : Deed) :
    Type 0 where
  one_falls : d ≡ true → a.effect ≡ Silent → RelatedEach H i after others → EachHeadGone H i branches after others →
      TreesStep T H w' i branches after others d a
  one_along : {b : Deed} {m : StepLabel} {others' : Trees} → OneMoves T w' i others d b m others' → SameDeed a b → RelatedEach H i after others' →
      EachKeeps m branches others after others' → TreesStep T H w' i branches after others d a

-- a statement that begins acts at its first node
begins_at : {T : Bool → Type 0} {w : Setting} {i : ℕ} {s : Plain} {d : Bool} {a : Deed} {n : StepLabel} {c' : Tree} → Moves T w i (Do s) d a n c' →
    n ≡ Here (entry s)
begins_at acts = refl
begins_at takes = refl
begins_at passes = refl
begins_at pauses = refl
begins_at (runs at there) = refl
begins_at repeats = refl
begins_at repeats_until = refl
begins_at leaves = refl
begins_at turns = refl
begins_at enters = refl
begins_at skips = refl
begins_at forks = refl
begins_at guards = refl

-- ---- steps inside others keep where few heads may fall away

guard_keeps : {p q : Watch} {stood stood' : Bool} {c c' t t' : Tree} {rest rest' : Block} {k : ℕ} {m : StepLabel} →
    FewAt k (At (Guard p Body stood c) rest) (At (Guard q Body stood' t) rest') m → (FewInTree k c t m → FewInTree k c' t' m) →
    FewAt k (At (Guard p Body stood c') rest) (At (Guard q Body stood' t') rest') m
guard_keeps (few_guard few) keeps = few_guard (keeps few)

run_keeps : {p q : Call} {callee : ℕ} {stood stood' : Bool} {c c' t t' : Tree} {rest rest' : Block} {k : ℕ} {m : StepLabel} →
    FewAt k (At (Run p callee Body stood c) rest) (At (Run q callee Body stood' t) rest') m →
    ((inner : StepLabel) → m ≡ Inside (run_node stood' q.label q.place q.arguments) q.unit inner → FewInTree k c t inner → FewInTree k c' t' inner) →
    FewAt k (At (Run p callee Body stood c') rest) (At (Run q callee Body stood' t') rest') m
run_keeps (few_run {inner = inner} is few) keeps = few_run is (keeps inner is few)

fork_keeps : {p q : Fork} {stood stood' : Bool} {branches after others others' : Trees} {rest rest' : Block} {k : ℕ} {m : StepLabel} →
    FewAt k (At (Par p stood branches) rest) (At (Par q stood' others) rest') m → (FewEach k branches others m → FewEach k after others' m) →
    FewAt k (At (Par p stood after) rest) (At (Par q stood' others') rest') m
fork_keeps (few_fork few) keeps = few_fork (keeps few)

beside_keeps : {weak weak' : Bool} {c c' t t' : Tree} {branches after others others' : Trees} {k : ℕ} {m : StepLabel} →
    FewEach k (beside weak c branches) (beside weak' t others) m → (FewInTree k c t m → FewInTree k c' t' m) →
    (FewEach k branches others m → FewEach k after others' m) → FewEach k (beside weak c' after) (beside weak' t' others') m
beside_keeps (few_here few) one more = few_here (one few)
beside_keeps (few_there few) one more = few_there (more few)

guard_nil : {A : Type 0} {p q : Watch} {stood stood' : Bool} {t : Tree} {rest rest' : Block} {k : ℕ} {m : StepLabel} →
    FewAt k (At (Guard p Body stood Nil) rest) (At (Guard q Body stood' t) rest') m → A
guard_nil (few_guard few) = few_nil few

run_nil : {A : Type 0} {p q : Call} {callee callee' : ℕ} {stood stood' : Bool} {t : Tree} {rest rest' : Block} {k : ℕ} {m : StepLabel} →
    FewAt k (At (Run p callee Body stood Nil) rest) (At (Run q callee' Body stood' t) rest') m → A
run_nil (few_run is few) = few_nil few

module _ {H : ℕ → Node → Plain → Type 0} where
  fork_settled : {A : Type 0} {i : ℕ} {p q : Fork} {stood stood' : Bool} {branches others : Trees} {rest rest' : Block} {k : ℕ} {m : StepLabel} →
      FewAt k (At (Par p stood branches) rest) (At (Par q stood' others) rest') m → RelatedEach H i branches others → are_settled branches ≡ true → A
  fork_settled (few_fork few) each still = settled_each each few still

  -- the head of a loop falls away
  repeat_gone : {i : ℕ} {l : Label} {at : Place} {body k : Block} {t : Plain} {k' : Block} → H i (entry t) (Repeat l at body) →
      HeadGone H i (At (Do (Repeat l at body)) k) (line (do_block (turn body (Repeat l at body))) k) (At (Do t) k')
  repeat_gone {l = l} {at} {body} {k} {t} away = record {
    label = Here (entry t);
    loop = Repeat l at body;
    falls = falls_begins refl away;
    fewer = λ full. turned_few body (Repeat l at body) k (leading (Repeat l at body)) (Here (entry t)) refl (full_begins body full) (omega arith);
    keeps = λ j m few. let less = begun_leading few in
        turned_few body (Repeat l at body) k j m (few_label few) (λ empty. less) (omega arith);
  }

  until_gone : {i : ℕ} {l : Label} {at : Place} {body : Block} {e : Expr} {k : Block} {t : Plain} {k' : Block} → H i (entry t) (Until l at body e) →
      HeadGone H i (At (Do (Until l at body e)) k) (line (do_block (turn body (Again l at body e))) k) (At (Do t) k')
  until_gone {l = l} {at} {body} {e} {k} {t} away = record {
    label = Here (entry t);
    loop = Until l at body e;
    falls = falls_begins refl away;
    fewer = λ full. turned_few body (Again l at body e) k (leading (Until l at body e)) (Here (entry t)) refl (λ empty. omega arith) (omega arith);
    keeps = λ j m few. let less = begun_leading few in
        turned_few body (Again l at body e) k j m (few_label few) (λ empty. omega arith) (omega arith);
  }

module _ {H : ℕ → Node → Plain → Type 0} {w w' : Setting} (same : SameProgram H w w') where
  called : (i : ℕ) (at : Place) {callee : ℕ} → callee_of w i at ≡ Some callee → callee_of w' i at ≡ Some callee
  called i at at_callee = ap (λ all. position (λ instance. begins_at_place i at instance.origin) all) (sym same.instances) ∙ at_callee

module _ {T : Bool → Type 0} {H : ℕ → Node → Plain → Type 0} {w w' : Setting} (same : SameProgram H w w') where
  -- both statements begin, and nothing else stands there
  goes : {i : ℕ} {s t : Plain} {d : Bool} {a b : Deed} {n : StepLabel} {h : Tree} {k k' : Block} {after : Line} → Moves T w' i (Do t) d b n h →
      SameDeed a b → Lined H i after (line h k') → LineSteps T H w' i (At (Do s) k) after (At (Do t) k') d a
  goes move deed lined = along move deed lined (λ k m few differ. absurd (differ (few_label few ∙ sym (begins_at move))))

  -- a step of a statement that begins, where its counterpart is alike
  step_alike : {i : ℕ} {s t : Plain} {d : Bool} {a : Deed} {n : StepLabel} {c' : Tree} {k k' : Block} → Moves T w i (Do s) d a n c' →
      PlainUnrolls (H i) s t → Unrolls (H i) k k' → LineSteps T H w' i (At (Do s) k) (line c' k) (At (Do t) k') d a
  step_alike acts acts_alike rest = goes acts (same_deed refl refl) (lined_block rest)
  step_alike takes (ifs_alike body other) rest = goes takes (same_deed refl refl) (lined_begins body rest)
  step_alike passes (ifs_alike body other) rest = goes passes (same_deed refl refl) (lined_begins other rest)
  step_alike pauses awaits_alike rest = goes pauses (same_deed refl refl) (both_stand (both_wait refl) rest)
  step_alike (runs {i} {at = place} {callee = callee} at there) runs_alike rest =
      let unit = counterpart (same.bodies callee) there in
      goes (runs (called same i place at) unit.is) (same_deed refl refl) (both_stand (both_run refl (related_block unit.unrolls)) rest)
  step_alike repeats (repeats_alike body) rest =
      goes repeats (same_deed refl refl) (lined_begins (unrolls_before body (first_alike (repeats_alike body) no_more)) rest)
  step_alike repeats_until (untils_alike body) rest =
      goes repeats_until (same_deed refl refl) (lined_begins (unrolls_before body (first_alike (agains_alike body) no_more)) rest)
  step_alike leaves (agains_alike body) rest = goes leaves (same_deed refl refl) (lined_block rest)
  step_alike leaves (again_if other) rest = goes takes (same_deed refl refl) (lined_block rest)
  step_alike turns (agains_alike body) rest = goes turns (same_deed refl refl) (both_begin (first_alike (untils_alike body) rest))
  step_alike turns (again_if other) rest = goes passes (same_deed refl refl) (lined_begins other rest)
  step_alike enters (whiles_alike body) rest =
      goes enters (same_deed refl refl) (lined_begins (unrolls_before body (first_alike (whiles_alike body) no_more)) rest)
  step_alike enters (while_if body) rest = goes takes (same_deed refl refl) (lined_begins body rest)
  step_alike skips (whiles_alike body) rest = goes skips (same_deed refl refl) (lined_block rest)
  step_alike skips (while_if body) rest = goes passes (same_deed refl refl) (lined_block rest)
  step_alike forks (cobegins_alike bodies) rest = goes forks (same_deed refl refl) (both_stand (both_fork (related_begun bodies)) rest)
  step_alike guards (whens_alike body) rest = goes guards (same_deed refl refl) (both_stand (both_guard refl refl body (related_block body)) rest)

  -- a step of a statement that begins
  step_begun : {i : ℕ} {s : Plain} {d : Bool} {a : Deed} {n : StepLabel} {c' : Tree} {k : Block} {L' : Line} → Moves T w i (Do s) d a n c' →
      Lined H i (At (Do s) k) L' → LineSteps T H w' i (At (Do s) k) (line c' k) L' d a
  step_begun move (both_begin (first_alike alike rest)) = step_alike move alike rest
  step_begun {k = k} repeats (both_begin (first_repeat away turned)) =
      falls refl refl (relined (line_begins _ k) refl (lined_block turned)) (repeat_gone away)
  step_begun {k = k} repeats_until (both_begin (first_until away turned)) =
      falls refl refl (relined (line_begins _ k) refl (lined_block turned)) (until_gone away)
  step_begun move (both_stand stands rest) = elim stands [ ]

  -- a step of a line is one of whole trees
  whole : {i : ℕ} {c c' t : Tree} {d : Bool} {a : Deed} {n : StepLabel} → is_chain c ≡ true → is_chain t ≡ true → Moves T w i c d a n c' →
      LineSteps T H w' i (line c Done) (line c' Done) (line t Done) d a → HeadFalls H i c c' t d a ⊎ HeadsStay T H w' i c c' t d a
  whole chain chain' move (falls answer silent lined gone) = inl (record {
    away = record { answer = answer; silent = silent; stays = related (begun move chain).chain chain' lined };
    label = gone.label;
    loop = gone.loop;
    falls = falls_in gone.falls;
    fewer = λ full. few_in (gone.fewer full);
    keeps = λ k m few. few_in (gone.keeps k m (few_out few));
  })
  whole {i} {c' = c'} {t} chain chain' move (along other deed lined keeps) =
      let one = whole_moves t chain' other in
      inr (record {
        along = record {
          deed = _;
          label = _;
          after = one.after;
          moves = one.moves;
          same = deed;
          stays = related (begun move chain).chain (begun one.moves chain').chain (subst (Lined H i (line c' Done)) (sym one.leads) lined);
        };
        keeps = λ k m few differ. few_in (subst (λ L. FewAt k (line c' Done) L m) (sym one.leads) (keeps k m (few_out few) differ));
      })

  guard_ends_too : {i : ℕ} {q : Watch} {stood : Bool} {t : Tree} → Related H i Nil t →
      Moves T w' i (Guard q Body stood t) true (deed i q.place Silent) (Here (end_node stood q.label q.place)) Nil
  guard_ends_too {i} {q} {stood} inner =
      subst (λ t. Moves T w' i (Guard q Body stood t) true (deed i q.place Silent) (Here (end_node stood q.label q.place)) Nil)
      (sym (related_nil inner)) guard_ends

  run_ends_too : {i : ℕ} {q : Call} {callee : ℕ} {stood : Bool} {t : Tree} → Related H callee Nil t →
      Moves T w' i (Run q callee Body stood t) true (deed i q.place (Gives callee q.arguments.target))
      (EndOf (run_node stood q.label q.place q.arguments)) Nil
  run_ends_too {i} {q} {callee} {stood} inner =
      subst (λ t. Moves T w' i (Run q callee Body stood t) true (deed i q.place (Gives callee q.arguments.target))
      (EndOf (run_node stood q.label q.place q.arguments)) Nil)
      (sym (related_nil inner)) run_ends

  guarding : {i : ℕ} {p q : Watch} {stood stood' : Bool} {c c' t : Tree} {d : Bool} {a : Deed} {k k' : Block} →
      HeadFalls H i c c' t d a ⊎ HeadsStay T H w' i c c' t d a → p.guard ≡ q.guard → p.test ≡ q.test → Unrolls (H i) p.body q.body →
      Unrolls (H i) k k' → LineSteps T H w' i (At (Guard p Body stood c) k) (At (Guard p Body stood c') k) (At (Guard q Body stood' t) k') d a
  guarding (inl gone) kind is body rest =
      falls gone.away.answer gone.away.silent (both_stand (both_guard kind is body gone.away.stays) rest)
      (record {
        label = gone.label;
        loop = gone.loop;
        falls = falls_guard gone.falls;
        fewer = λ full. few_guard (gone.fewer full);
        keeps = λ k m few. guard_keeps few (gone.keeps k m);
      })
  guarding (inr one) kind is body rest =
      along (in_guard one.along.moves) one.along.same (both_stand (both_guard kind is body one.along.stays) rest)
      (λ k m few differ. guard_keeps few (λ inner. one.keeps k m inner differ))

  running : {i : ℕ} {p q : Call} {callee : ℕ} {stood stood' : Bool} {c c' t : Tree} {d : Bool} {a : Deed} {k k' : Block} →
      HeadFalls H callee c c' t d a ⊎ HeadsStay T H w' callee c c' t d a → p.arguments ≡ q.arguments →
      Unrolls (H i) k k' → LineSteps T H w' i (At (Run p callee Body stood c) k) (At (Run p callee Body stood c') k) (At (Run q callee Body stood' t) k') d a
  running (inl gone) is rest =
      falls gone.away.answer gone.away.silent (both_stand (both_run is gone.away.stays) rest)
      (record {
        label = _;
        loop = gone.loop;
        falls = falls_run refl gone.falls;
        fewer = λ full. few_run refl (gone.fewer full);
        keeps = λ k m few. run_keeps few (λ inner at. gone.keeps k inner);
      })
  running {q = q} {stood' = stood'} (inr one) is rest =
      along (in_run one.along.moves) one.along.same (both_stand (both_run is one.along.stays) rest)
      (λ k m few differ. run_keeps few (λ inner at there. one.keeps k inner there
      (λ e. differ (at ∙ ap (Inside (run_node stood' q.label q.place q.arguments) q.unit) e))))

  branching : {i : ℕ} {p q : Fork} {stood stood' : Bool} {branches after others : Trees} {d : Bool} {a : Deed} {k k' : Block} →
      TreesStep T H w' i branches after others d a → Unrolls (H i) k k' →
      LineSteps T H w' i (At (Par p stood branches) k) (At (Par p stood after) k) (At (Par q stood' others) k') d a
  branching (one_falls answer silent each gone) rest =
      falls answer silent (both_stand (both_fork each) rest)
      (record {
        label = gone.label;
        loop = gone.loop;
        falls = falls_fork gone.falls;
        fewer = λ full. few_fork (gone.fewer full);
        keeps = λ k m few. fork_keeps few (gone.keeps k m);
      })
  branching (one_along move deed each keeps) rest =
      along (in_par move) deed (both_stand (both_fork each) rest) (λ k m few differ. fork_keeps few (λ inner. keeps k m inner differ))

  one_of : {i : ℕ} {weak : Bool} {c c' t : Tree} {others others' : Trees} {d : Bool} {a : Deed} →
      HeadFalls H i c c' t d a ⊎ HeadsStay T H w' i c c' t d a → T (any_meets w i others a) → RelatedEach H i others others' →
      TreesStep T H w' i (beside weak c others) (beside weak c' others) (beside weak t others') d a
  one_of (inl gone) free rest =
      one_falls gone.away.answer gone.away.silent (one_branch gone.away.stays rest)
      (record {
        label = gone.label;
        loop = gone.loop;
        falls = falls_here gone.falls;
        fewer = λ full. few_here (gone.fewer full);
        keeps = λ k m few. beside_keeps few (gone.keeps k m) (λ more. more);
      })
  one_of {i} (inr one) free rest =
      one_along (first one.along.moves (subst T (any_meets_same same i (each_answers rest) one.along.same) free)) one.along.same
      (one_branch one.along.stays rest) (λ k m few differ. beside_keeps few (λ inner. one.keeps k m inner differ) (λ more. more))

  others_of : {i : ℕ} {weak : Bool} {c t : Tree} {branches after others : Trees} {d : Bool} {a : Deed} → TreesStep T H w' i branches after others d a →
      T (meets w i c a) → Related H i c t → TreesStep T H w' i (beside weak c branches) (beside weak c after) (beside weak t others) d a
  others_of (one_falls answer silent each gone) free inner =
      one_falls answer silent (one_branch inner each)
      (record {
        label = gone.label;
        loop = gone.loop;
        falls = falls_there gone.falls;
        fewer = λ full. few_there (gone.fewer full);
        keeps = λ k m few. beside_keeps few (λ one. one) (gone.keeps k m);
      })
  others_of {i} (one_along move deed each keeps) free inner =
      one_along (later move (subst T (meets_same same i (related_answers inner) deed) free)) deed (one_branch inner each)
      (λ k m few differ. beside_keeps few (λ one. one) (λ more. keeps k m more differ))

  mutual
    pub step_at : {i : ℕ} {c : Tree} {d : Bool} {a : Deed} {n : StepLabel} {c' : Tree} → Moves T w i c d a n c' → (k : Block) → {L' : Line} →
        Lined H i (line c k) L' → LineSteps T H w' i (line c k) (line c' k) L' d a
    step_at acts k lined = step_begun acts lined
    step_at takes k lined = step_begun takes lined
    step_at passes k lined = step_begun passes lined
    step_at pauses k lined = step_begun pauses lined
    step_at (runs at there) k lined = step_begun (runs at there) lined
    step_at repeats k lined = step_begun repeats lined
    step_at repeats_until k lined = step_begun repeats_until lined
    step_at leaves k lined = step_begun leaves lined
    step_at turns k lined = step_begun turns lined
    step_at enters k lined = step_begun enters lined
    step_at skips k lined = step_begun skips lined
    step_at forks k lined = step_begun forks lined
    step_at guards k lined = step_begun guards lined
    step_at goes_on k (both_stand (both_test is) rest) =
        along goes_on (same_deed refl (ap Asks is)) (lined_block rest) (λ k m few differ. elim few [ ])
    step_at waits k (both_stand (both_test is) rest) =
        along waits (same_deed refl (ap Asks is)) (both_stand (both_wait is) rest) (λ k m few differ. elim few [ ])
    step_at lets k (both_stand (both_guard kind is body inner) rest) =
        along lets (same_deed refl (ap Asks is)) (both_stand (both_guard kind is body inner) rest) (λ k m few differ. elim few [ ])
    step_at (aborts guard) k (both_stand (both_guard kind is body inner) rest) =
        along (aborts (sym kind ∙ guard)) (same_deed refl (ap Asks is)) (lined_block rest) (λ k m few differ. elim few [ ])
    step_at (resets guard) k (both_stand (both_guard kind is body inner) rest) =
        along (resets (sym kind ∙ guard)) (same_deed refl (ap Asks is)) (both_stand (both_guard kind is body (related_block body)) rest)
        (λ k m few differ. elim few [ ])
    step_at guard_ends k (both_stand (both_guard kind is body inner) rest) =
        along (guard_ends_too inner) (same_deed refl refl) (lined_block rest) (λ k m few differ. guard_nil few)
    step_at (copies {callee = callee}) k (both_stand (both_run is inner) rest) =
        along copies (same_deed refl (ap (λ x. Copies callee x.inputs) is)) (both_stand (both_run is inner) rest) (λ k m few differ. elim few [ ])
    step_at (run_ends {callee = callee}) k (both_stand (both_run is inner) rest) =
        along (run_ends_too inner) (same_deed refl (ap (λ x. Gives callee x.target) is)) (lined_block rest) (λ k m few differ. run_nil few)
    step_at (joins still done) k (both_stand (both_fork each) rest) =
        along (joins (sym (each_answers each).settled ∙ still) (sym (same_done (each_answers each)) ∙ done)) (same_deed refl refl) (lined_block rest)
        (λ k m few differ. fork_settled few each still)
    step_at {i} {d = d} {a} (in_seq {c} {rest} {c' = c'} move) k {L'} lined =
        subst (λ after. LineSteps T H w' i (line c (before rest k)) after L' d a) (sym (line_seq c' rest k)) (step_at move (before rest k) lined)
    step_at (in_par move) k (both_stand (both_fork each) rest) = branching (trees_step move each) rest
    step_at (in_guard move) k (both_stand (both_guard kind is body (related chain chain' lined)) rest) =
        guarding (whole chain chain' move (step_at move Done lined)) kind is body rest
    step_at (in_run move) k (both_stand (both_run is (related chain chain' lined)) rest) =
        running (whole chain chain' move (step_at move Done lined)) is rest

    trees_step : {i : ℕ} {branches : Trees} {d : Bool} {a : Deed} {n : StepLabel} {branches' others : Trees} → OneMoves T w i branches d a n branches' →
        RelatedEach H i branches others → TreesStep T H w' i branches branches' others d a
    trees_step (first move free) (one_branch (related chain chain' lined) rest) =
        one_of (whole chain chain' move (step_at move Done lined)) free rest
    trees_step (later move free) (one_branch inner rest) = others_of (trees_step move rest) free inner

-- each step of a tree is one of each related tree, or a head that falls away, by which heads may fall away
pub steps_keep_heads : {T : Bool → Type 0} {H : ℕ → Node → Plain → Type 0} {w w' : Setting} {i : ℕ} {c t : Tree} {d : Bool} {a : Deed} {n : StepLabel}
    {c' : Tree} → SameProgram H w w' → Related H i c t → Moves T w i c d a n c' → HeadFalls H i c c' t d a ⊎ HeadsStay T H w' i c c' t d a
steps_keep_heads same (related chain chain' lined) move = whole same chain chain' move (step_at same move Done lined)

pub related_steps : {T : Bool → Type 0} {H : ℕ → Node → Plain → Type 0} {w w' : Setting} {i : ℕ} {c t : Tree} {d : Bool} {a : Deed} {n : StepLabel}
    {c' : Tree} → SameProgram H w w' → Related H i c t → Moves T w i c d a n c' → FallsAway H i c' t d a ⊎ StepsAlong T H w' i c' t d a
related_steps same inner move = elim (steps_keep_heads same inner move) [
  | inl gone ↦ inl gone.away
  | inr one ↦ inr one.along
]

pub steps_are_related : StepsAreRelated
steps_are_related w w' i c t d a n c' same inner move = related_steps same inner move
