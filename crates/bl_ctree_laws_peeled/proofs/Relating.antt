-- Related trees have the same answers.
use Rattle.std.proofs.Common.{◌≡◌, ℕ, Bool, true, false, not, ◌&&◌, ◌||◌, cond, List, map, refl, sym, ap, ◌∙◌}
use Rattle.std.specs.List.{list_any}
use Rattle.bl_tree.specs.declared.static_path.Static.{Static}
use Rattle.bl_tree.specs.Effects.{reads, target_static}
use Rattle.bl_tree.specs.Reduce.{joined}
use Rattle.bl_tree.specs.Static.{mentions, static_of}
use Rattle.bl_graph_nodes.specs.Nodes.{Node}
use Rattle.bl_graph_nodes.specs.Plain.{Plain}
use Rattle.bl_ctree.specs.Actions.{Effect, Acts, Asks, Copies, Gives, Silent, effect_reads}
use Rattle.bl_ctree.specs.Control.{Phase, Body, Check}
use Rattle.bl_ctree.specs.Instances.{Setting}
use Rattle.bl_ctree.specs.Pending.{is_reset_kind}
use Rattle.bl_ctree.specs.Store.{Location, homes, overlap}
use Rattle.bl_ctree_laws.specs.Pending.{Deed, any_meets, any_writes, any_writes_path, anew, deed_reads, guard_may_end, leads_over, may_end, may_join, may_write}
use Rattle.bl_ctree_laws.specs.Pending.{may_write_path, meets, run_may_end}
use Rattle.bl_ctree_laws.specs.Trees.{Tree, Trees, Watch, are_done, are_settled, beside, has_strong, in_body, some_ended, strong_ended}
use Rattle.bl_ctree_laws_peeled.specs.Answers.{RelatedAnswers, RelatedMeet, SameBlockAnswers, SameDeed, SameTreeAnswers}
use Rattle.bl_ctree_laws_peeled.specs.Lines.{Line, Lined, Related, RelatedEach, Standing, both_begin, both_fork, both_guard, both_idle, both_over, both_run}
use Rattle.bl_ctree_laws_peeled.specs.Lines.{both_stand, both_test, both_wait, is_chain, line, no_branches, one_branch, related}
use Rattle.bl_ctree_laws_peeled.specs.Settings.{SameProgram}
use Rattle.bl_ctree_laws_peeled.proofs.Answering.{block_answers}
use Rattle.bl_ctree_laws_peeled.proofs.Lining.{ended_of, ends_of, is_over, line_ends, line_settled, line_writes, settled_of, writes_of}
use Rattle.bl_graph_nodes.specs.Plain.{Done}

pub record SameLineAnswers (L L' : Line) : Type 0 where
  pub ended : is_over L ≡ is_over L'
  pub settled : line_settled L ≡ line_settled L'
  pub ends : line_ends L ≡ line_ends L'
  pub writes : (test : Static → Bool) → line_writes test L ≡ line_writes test L'

-- two lists of branches are settled and done, may end and may write alike
pub record SameTreesAnswers (branches branches' : Trees) : Type 0 where
  pub strong : has_strong branches ≡ has_strong branches'
  pub all : strong_ended branches ≡ strong_ended branches'
  pub some : some_ended branches ≡ some_ended branches'
  pub settled : are_settled branches ≡ are_settled branches'
  pub ends : (strong : Bool) → may_join strong branches ≡ may_join strong branches'
  pub writes : (test : Static → Bool) → any_writes_path test branches ≡ any_writes_path test branches'

pub same_done : {branches branches' : Trees} → SameTreesAnswers branches branches' → are_done branches ≡ are_done branches'
same_done same = λ j. cond (same.strong j) (same.all j) (same.some j)

of_lines : (c t : Tree) → is_chain c ≡ true → is_chain t ≡ true → SameLineAnswers (line c Done) (line t Done) → SameTreeAnswers c t
of_lines c t chain chain' same = record {
  ended = ended_of c chain ∙ same.ended ∙ sym (ended_of t chain');
  settled = settled_of c chain ∙ same.settled ∙ sym (settled_of t chain');
  ends = ends_of c ∙ same.ends ∙ sym (ends_of t);
  writes = λ test. writes_of test c ∙ same.writes test ∙ sym (writes_of test t);
}

guard_ends_same : (phase : Phase) (p q : Watch) {one other : Bool} → p.guard ≡ q.guard → SameBlockAnswers p.body q.body → one ≡ other →
    guard_may_end phase p one ≡ guard_may_end phase q other
guard_ends_same Check p q kind body inner = λ j. cond (is_reset_kind (kind j)) (inner j || body.instant j) true
guard_ends_same Body p q kind body inner = inner

anew_same : (test : Static → Bool) (phase : Phase) (p q : Watch) → p.guard ≡ q.guard → SameBlockAnswers p.body q.body →
    anew test p phase ≡ anew test q phase
anew_same test Check p q kind body = λ j. is_reset_kind (kind j) && body.soon test j
anew_same test Body p q kind body = refl

joins_same : (weak : Bool) (c t : Tree) (rest rest' : Trees) → may_end c ≡ may_end t →
    ((strong : Bool) → may_join strong rest ≡ may_join strong rest') → (strong : Bool) →
    may_join strong (beside weak c rest) ≡ may_join strong (beside weak t rest')
joins_same weak c t rest rest' one more true = λ j. (weak || one j) && more true j
joins_same weak c t rest rest' one more false = λ j. one j || more false j

module _ {H : ℕ → Node → Plain → Type 0} where
  mutual
    pub line_answers : {i : ℕ} {L L' : Line} → Lined H i L L' → SameLineAnswers L L'
    line_answers both_over = record { ended = refl; settled = refl; ends = refl; writes = λ test. refl }
    line_answers (both_begin unrolls) =
        let same = block_answers unrolls in record { ended = refl; settled = refl; ends = same.instant; writes = same.soon }
    line_answers (both_stand stands rest) =
        let head = standing_answers stands in
        let same = block_answers rest in
        record {
          ended = refl;
          settled = head.settled;
          ends = λ j. head.ends j && same.instant j;
          writes = λ test j. head.writes test j || (head.ends j && same.soon test j);
        }

    pub standing_answers : {i : ℕ} {c t : Tree} → Standing H i c t → SameTreeAnswers c t
    standing_answers (both_wait is) = record { ended = refl; settled = refl; ends = refl; writes = λ test. refl }
    standing_answers (both_test is) = record { ended = refl; settled = refl; ends = refl; writes = λ test. refl }
    standing_answers (both_idle body) = record { ended = refl; settled = refl; ends = refl; writes = λ test. refl }
    standing_answers (both_fork {branches} {branches'} each) =
        let same = each_answers each in
        record {
          ended = refl;
          settled = λ j. same.settled j && not (same_done same j);
          ends = ap (λ strong. may_join strong branches) same.strong ∙ same.ends (has_strong branches');
          writes = same.writes;
        }
    standing_answers (both_guard {p} {q} {phase} kind is body inner) =
        let same = related_answers inner in
        let begins = block_answers body in
        record {
          ended = refl;
          settled = λ j. in_body phase && (same.settled j && not (same.ended j));
          ends = guard_ends_same phase p q kind begins same.ends;
          writes = λ test j. same.writes test j || anew_same test phase p q kind begins j;
        }
    standing_answers (both_run {phase} is inner) =
        let same = related_answers inner in
        record {
          ended = refl;
          settled = λ j. in_body phase && (same.settled j && not (same.ended j));
          ends = ap (run_may_end phase) same.ends;
          writes = λ test j.
              not (in_body phase && (same.settled j && not (same.ended j)))
              && (list_any test (map static_of (is j).outputs) || (run_may_end phase (same.ends j) && list_any test (target_static (is j).target)));
        }

    pub related_answers : {i : ℕ} {c t : Tree} → Related H i c t → SameTreeAnswers c t
    related_answers (related {c} {t} chain chain' lined) = of_lines c t chain chain' (line_answers lined)

    pub each_answers : {i : ℕ} {branches branches' : Trees} → RelatedEach H i branches branches' → SameTreesAnswers branches branches'
    each_answers no_branches =
        record { strong = refl; all = refl; some = refl; settled = refl; ends = λ strong. refl; writes = λ test. refl }
    each_answers (one_branch {weak} {c} {t} {rest} {rest'} inner others) =
        let same = related_answers inner in
        let more = each_answers others in
        record {
          strong = ap (λ b. not weak || b) more.strong;
          all = λ j. (weak || same.ended j) && more.all j;
          some = λ j. same.ended j || more.some j;
          settled = λ j. same.settled j && more.settled j;
          ends = joins_same weak c t rest rest' same.ends more.ends;
          writes = λ test j. same.writes test j || more.writes test j;
        }

-- ---- what a step reads, and what meets it

module _ {H : ℕ → Node → Plain → Type 0} {w w' : Setting} (same : SameProgram H w w') where
  leads_same : (i : ℕ) (at : Location) → leads_over w i at ≡ leads_over w' i at
  leads_same i at = λ j path. overlap at (same.homes (record { instance = i; path = path }) j)

  homes_same : (i : ℕ) (paths : List Static) → homes w i paths ≡ homes w' i paths
  homes_same i paths = λ j. map (λ path. same.homes (record { instance = i; path = path }) j) paths

  effect_reads_same : (i : ℕ) (effect : Effect) → effect_reads w i effect ≡ effect_reads w' i effect
  effect_reads_same i Silent = refl
  effect_reads_same i (Acts s) = homes_same i (reads s)
  effect_reads_same i (Asks e) = homes_same i (mentions e)
  effect_reads_same i (Copies callee inputs) = homes_same i (joined (map mentions inputs))
  effect_reads_same i (Gives callee target) = refl

  deed_reads_same : {a b : Deed} → SameDeed a b → deed_reads w a ≡ deed_reads w' b
  deed_reads_same {a} deed = effect_reads_same a.instance a.effect ∙ (λ j. effect_reads w' (deed.instance j) (deed.effect j))

  may_write_same : (i : ℕ) {c t : Tree} → SameTreeAnswers c t → (at : Location) → may_write w i c at ≡ may_write w' i t at
  may_write_same i {c} answers at = ap (λ test. may_write_path test c) (leads_same i at) ∙ answers.writes (leads_over w' i at)

  any_writes_same : (i : ℕ) {branches branches' : Trees} → SameTreesAnswers branches branches' → (at : Location) →
      any_writes w i branches at ≡ any_writes w' i branches' at
  any_writes_same i {branches} answers at = ap (λ test. any_writes_path test branches) (leads_same i at) ∙ answers.writes (leads_over w' i at)

  pub meets_same : (i : ℕ) {c t : Tree} {a b : Deed} → SameTreeAnswers c t → SameDeed a b → meets w i c a ≡ meets w' i t b
  meets_same i answers deed = λ j. list_any (λ at. may_write_same i answers at j) (deed_reads_same deed j)

  pub any_meets_same : (i : ℕ) {branches branches' : Trees} {a b : Deed} → SameTreesAnswers branches branches' → SameDeed a b →
      any_meets w i branches a ≡ any_meets w' i branches' b
  any_meets_same i answers deed = λ j. list_any (λ at. any_writes_same i answers at j) (deed_reads_same deed j)

-- what a silent step reads nothing meets
pub silent_meets : (w : Setting) (i : ℕ) (c : Tree) (a : Deed) → a.effect ≡ Silent → meets w i c a ≡ false
silent_meets w i c a silent = ap (λ effect. list_any (may_write w i c) (effect_reads w a.instance effect)) silent

pub any_silent_meets : (w : Setting) (i : ℕ) (branches : Trees) (a : Deed) → a.effect ≡ Silent → any_meets w i branches a ≡ false
any_silent_meets w i branches a silent = ap (λ effect. list_any (any_writes w i branches) (effect_reads w a.instance effect)) silent

pub related_answer : RelatedAnswers
related_answer i c t inner = related_answers inner

pub related_meet : RelatedMeet
related_meet w w' i c t a b same inner deed = meets_same same i (related_answers inner) deed
