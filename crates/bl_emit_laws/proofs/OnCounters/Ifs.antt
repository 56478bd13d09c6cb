-- The body of an activity's C function is assignments, and then one `if` for each block.
use Rattle.std.proofs.Common.{◌≡◌, ℕ, suc, ◌<◌, Bool, true, false, ◌&&◌, cond, List, [], ◌∷◌, ◌++◌, Contains, map, length}
use Rattle.std.proofs.Common.{Option, None, refl, sym, ap, subst, ◌∙◌, arith}
use Rattle.std.proofs.lemmas.List.{append_assoc}
use Rattle.std.proofs.lemmas.List.Elements.{Contains-append_right, filter-append}
use Rattle.std.specs.List.{list_all}
use Rattle.std.specs.Prelude.{is_some, option_to_list}
use Rattle.bl_tree.proofs.Basics.{contains_first, contains_further, some_within}
use Rattle.bl_tree.specs.declared.text.Text.{Text}
use Rattle.bl_tree.specs.declared.c.CExpr.{CExpr}
use Rattle.bl_tree.specs.declared.c.CPlace.{CPlace}
use Rattle.bl_tree.specs.declared.c.CStmt.{CStmt, fold-roll-CStmt}
use Rattle.bl_tree.specs.declared.c.CStmtKind.{CStmtKind, CStmtKind-F, fold-roll-CStmtKind, roll-CStmtKind}
use Rattle.bl_tree.specs.declared.c.CStmtKind.TheVariants as statement
use Rattle.bl_tree.specs.declared.scalar.Op.TheVariants.{Eq}
use Rattle.bl_tree.specs.Reduce.{joined}
use Rattle.bl_tree.specs.Typing.{TypingContext}
use Rattle.bl_graph_nodes.specs.Nodes.{entry}
use Rattle.bl_graph_nodes.specs.Plain.{Block, Done, Then}
use Rattle.bl_emit_acts.specs.Acts.{c_copied, c_set, c_stmt}
use Rattle.bl_emit_acts.specs.Places.{place_in}
use Rattle.bl_emit_acts.specs.Trees.{c_place, c_read, c_two}
use Rattle.bl_emit_acts.specs.Types.{copy_name}
use Rattle.bl_emit_functions.specs.Trees.{c_if}
use Rattle.bl_emit_spec.specs.Activities.{Activity, activity_code, blocks_code, blocks_in_order, body_of, copied_in, counters_read, entry_code, entry_place}
use Rattle.bl_emit_spec.specs.Activities.{picked}
use Rattle.bl_emit_spec.specs.Activities.{activity_view, rested_code, turns_in_source}
use Rattle.bl_emit_spec.specs.Blocks.{ActivityView, NodeCode, all_merged, counter_value, entered_by, fused_code, leaving_flag, merged_code, next_turn}
use Rattle.bl_emit_spec.specs.Blocks.{node_word}
use Rattle.bl_emit_spec.specs.Names.{counter_place, flag_place, rested_place}
use Rattle.bl_emit_laws.specs.Counters.Ifs.{HasIfForEach, ifs_in, is_if, is_setting}

-- ---- forms

-- the answer for a statement of a form
by_form : (is : CStmt → Bool) (k made : CStmtKind) (answer : Bool) → made ≡ k → is (c_stmt made) ≡ answer → is (c_stmt k) ≡ answer
by_form is k made answer same shape = subst (λ (k : CStmtKind). is (c_stmt k) ≡ answer) same shape

set_sets : (place : CPlace) (value : CExpr) → is_setting (c_set place value) ≡ true
set_sets place value =
    by_form is_setting (statement.Set place value) (roll-CStmtKind (CStmtKind-F.Set place value)) true (statement.rolls-Set place value)
    (rw (fold-roll-CStmt, fold-roll-CStmtKind) refl)

set_asks : (place : CPlace) (value : CExpr) → is_if (c_set place value) ≡ false
set_asks place value =
    by_form is_if (statement.Set place value) (roll-CStmtKind (CStmtKind-F.Set place value)) false (statement.rolls-Set place value)
    (rw (fold-roll-CStmt, fold-roll-CStmtKind) refl)

if_asks : (test : CExpr) (block : List CStmt) → is_if (c_if test block None) ≡ true
if_asks test block =
    by_form is_if (statement.If test block None) (roll-CStmtKind (CStmtKind-F.If test block None)) true (statement.rolls-If test block None)
    (rw (fold-roll-CStmt, fold-roll-CStmtKind) refl)

-- ---- assignments

-- code that is assignments alone
record AreSettings (code : List CStmt) : Type 0 where
  pub all : list_all is_setting code ≡ true
  pub none : ifs_in code ≡ []

no_settings : AreSettings []
no_settings = record { all = refl; none = refl }

first_setting : (place : CPlace) (value : CExpr) (code : List CStmt) → AreSettings code → AreSettings (c_set place value ∷ code)
first_setting place value code more = record {
  all = ap (λ (b : Bool). b && list_all is_setting code) (set_sets place value) ∙ more.all;
  none = ap (λ (b : Bool). cond b (c_set place value ∷ ifs_in code) (ifs_in code)) (set_asks place value) ∙ more.none;
}

all_both : (xs ys : List CStmt) → list_all is_setting xs ≡ true → list_all is_setting ys ≡ true → list_all is_setting (xs ++ ys) ≡ true
all_both [] ys one two = two
all_both (x ∷ xs) ys one two = by (is_setting x) (list_all is_setting xs) one (λ rest. all_both xs ys rest two)
  where
    by : (first rest : Bool) → (first && rest) ≡ true → (rest ≡ true → list_all is_setting (xs ++ ys) ≡ true) →
        (first && list_all is_setting (xs ++ ys)) ≡ true
    by true rest both more = more both
    by false rest both more = both

both_settings : (first second : List CStmt) → AreSettings first → AreSettings second → AreSettings (first ++ second)
both_settings first second one two = record {
  all = all_both first second one.all two.all;
  none = filter-append is_if first second ∙ ap (λ (ifs : List CStmt). ifs ++ ifs_in second) one.none ∙ two.none;
}

resteds : (counters : List ℕ) → AreSettings (map rested_code counters)
resteds [] = no_settings
resteds (k ∷ rest) = first_setting (rested_place k) (c_read (counter_place k)) (map rested_code rest) (resteds rest)

entries : (view : ActivityView) (body : Block) → AreSettings (entry_code view body)
entries view Done = no_settings
entries view (Then s rest) =
    first_setting (flag_place (node_word view (entry s))) (c_two Eq (c_read (entry_place (view.is_read 0))) (counter_value view.sizes 0 0)) [] no_settings

copies : (site : TypingContext) (ks : List ℕ) → AreSettings (map (c_copied site) ks)
copies site [] = no_settings
copies site (k ∷ rest) =
    first_setting (c_place false (copy_name site.vars k) []) (c_read (place_in site k [])) (map (c_copied site) rest) (copies site rest)

-- what stands before the blocks
abbrev before : Activity → List CStmt
before a = map rested_code (counters_read a) ++ (entry_code (activity_view a) (body_of a) ++ map (c_copied (activity_view a).site) (copied_in a))

before_sets : (a : Activity) → AreSettings (before a)
before_sets a =
    both_settings (map rested_code (counters_read a)) (entry_code (activity_view a) (body_of a) ++ map (c_copied (activity_view a).site) (copied_in a))
    (resteds (counters_read a))
    (both_settings (entry_code (activity_view a) (body_of a)) (map (c_copied (activity_view a).site) (copied_in a)) (entries (activity_view a) (body_of a))
    (copies (activity_view a).site (copied_in a)))

-- ---- blocks

first_if : (test : CExpr) (block code : List CStmt) → ifs_in code ≡ code → ifs_in (c_if test block None ∷ code) ≡ c_if test block None ∷ code
first_if test block code more =
    ap (λ (b : Bool). cond b (c_if test block None ∷ ifs_in code) (ifs_in code)) (if_asks test block)
    ∙ ap (λ (later : List CStmt). c_if test block None ∷ later) more

-- nothing but `if`s stands there
blocks_alone : (word : ℕ → Text) (flag : Option ℕ) (blocks : List (List NodeCode)) → ifs_in (all_merged word flag blocks) ≡ all_merged word flag blocks
blocks_alone word flag [] = refl
blocks_alone word flag (block ∷ rest) =
    let left : Option ℕ = leaving_flag block (next_turn rest) in by block (is_some left) (all_merged word left rest) (blocks_alone word left rest)
  where
    by : (list : List NodeCode) (leaves : Bool) (later : List CStmt) → ifs_in later ≡ later →
        ifs_in (merged_code word flag leaves list ++ later) ≡ merged_code word flag leaves list ++ later
    by [] leaves later more = more
    by (first ∷ others) leaves later more = first_if (entered_by word flag first.test) (fused_code leaves first others) later more

-- one for each block, where none is empty and each number is that of a turn
merged_many : (word : ℕ → Text) (turns : List NodeCode) (flag : Option ℕ) (blocks : List (List ℕ)) →
    ((block : List ℕ) → Contains blocks block → 0 < length block) →
    ((k : ℕ) → Contains (joined blocks) k → k < length turns) → length (all_merged word flag (map (picked turns) blocks)) ≡ length blocks
merged_many word turns flag [] filled within = refl
merged_many word turns flag ([] ∷ rest) filled within = absurd (let none : 0 < 0 = filled [] (contains_first [] rest) in omega (arith, none))
merged_many word turns flag ((k ∷ more) ∷ rest) filled within =
    let found = some_within turns k (within k (contains_first k (more ++ joined rest))) in
    ap (λ (o : Option NodeCode). length (all_merged word flag ((option_to_list o ++ picked turns more) ∷ map (picked turns) rest))) found.1
    ∙ ap suc
    (merged_many word turns (leaving_flag (found.0 ∷ picked turns more) (next_turn (map (picked turns) rest))) rest
    (λ block at. filled block (contains_further (k ∷ more) rest block at))
    (λ j at. within j (Contains-append_right (k ∷ more) (joined rest) j at)))

pub blocks_many : (word : ℕ → Text) (turns : List NodeCode) (blocks : List (List ℕ)) → ((block : List ℕ) → Contains blocks block → 0 < length block) →
    ((k : ℕ) → Contains (joined blocks) k → k < length turns) → length (blocks_code word turns blocks) ≡ length blocks
blocks_many word turns = merged_many word turns None

-- ---- bodies

body_stands : (a : Activity) → activity_code a ≡ before a ++ blocks_in_order a
body_stands a =
    let rested : List CStmt = map rested_code (counters_read a) in
    let begun : List CStmt = entry_code (activity_view a) (body_of a) in
    let copied : List CStmt = map (c_copied (activity_view a).site) (copied_in a) in
    ap (λ (rest : List CStmt). rested ++ rest) (sym (append_assoc begun copied (blocks_in_order a)))
    ∙ sym (append_assoc rested (begun ++ copied) (blocks_in_order a))

pub ifs_are : (a : Activity) → ifs_in (activity_code a) ≡ blocks_in_order a
ifs_are a =
    ap ifs_in (body_stands a) ∙ filter-append is_if (before a) (blocks_in_order a)
    ∙ ap (λ (ifs : List CStmt). ifs ++ ifs_in (blocks_in_order a)) (before_sets a).none
    ∙ blocks_alone (activity_view a).word None (map (picked (turns_in_source a)) a.blocks)

-- a body whose blocks have one `if` each
pub body_has : (a : Activity) (blocks : List (List ℕ)) → length (blocks_in_order a) ≡ length blocks → HasIfForEach blocks (activity_code a)
body_has a blocks many = record {
  before = before a;
  settings = (before_sets a).all;
  is = body_stands a ∙ ap (λ (ifs : List CStmt). before a ++ ifs) (sym (ifs_are a));
  many = ap length (ifs_are a) ∙ many;
}
