-- The text of turns, block by block, and the flags that rules set.
use Rattle.std.proofs.Common.{◌≡◌, ◌∙◌, ◌⊎◌, inl, inr, ℕ, Bool, true, false, ◌&&◌, List, [], ◌∷◌, ◌++◌, map, Option, Some, None}
use Rattle.std.proofs.Common.{Contains, append-nil, refl, sym, ap, arith, nat_eq, eqb-true, eq-eqb, if◌then◌else◌}
use Rattle.std.proofs.lemmas.Option.{same_Some}
use Rattle.std.specs.Prelude.{is_some}
use Rattle.bl_tree.proofs.Basics.{any_from, contains_first, contains_further}
use Rattle.bl_tree.specs.declared.c.CStmt.{CStmt}
use Rattle.bl_tree.specs.declared.text.Text.{Text}
use Rattle.bl_tree.specs.Reduce.{joined}
use Rattle.bl_graph_nodes.specs.Nodes.{Node}
use Rattle.bl_machine_pass.specs.Registers.{Registers, all_changed, changed, with_flag}
use Rattle.bl_machine_pass.specs.Transitions.{Change, ClearsBoth, ClearsCounter, Condition, Ended, EndsWhen, Finishes, Flagged, Rested, RestedIn}
use Rattle.bl_machine_pass.specs.Transitions.{SetsCounter, SetsFlag, SetsMark, Transition}
use Rattle.bl_machine_pass_laws.specs.Flags.{MayFlag}
use Rattle.bl_ctext_semantics.specs.Meaning.{Scope}
use Rattle.bl_ctext_semantics.specs.Memory.{Memory}
use Rattle.bl_tree.specs.Numbers.{number_of}
use Rattle.bl_emit_spec_laws.specs.Registers.Registers.{Before, Counter, Flag, Mark, Over, Register, Registered, RegistersEncoded, has_register, held_in}
use Rattle.bl_emit_spec.specs.Activities.{Activity, activity_view, first_rules, is_flagged}
use Rattle.bl_emit_spec.specs.Blocks.{ActivityView, NodeCode, all_merged, control_unless, flag_asked, fused_code, last_turn, leaving_flag}
use Rattle.bl_emit_spec.specs.Blocks.{merged_code, next_turn, same_run}
use Rattle.bl_emit_spec_laws.specs.Calls.Built.{asks_flag, registered}
use Rattle.bl_emit_spec_laws.specs.Passes.{behind_firsts}

-- ---- the text

-- what is left of a block
abbrev pub fused : Bool → List NodeCode → List CStmt
fused leaves [] = []
fused leaves (t ∷ ts) = fused_code leaves t ts

-- What is left to do of a pass: the turns that are left of a block that has begun, and the blocks behind it, to which it may leave its call. The first are in
-- the text where that block was entered. Numbers of nodes have these words
abbrev pub text : (ℕ → Text) → Bool → List NodeCode → Option ℕ → List (List NodeCode) → List CStmt
text word true others before rest = fused (is_some before) others ++ all_merged word before rest
text word false others before rest = all_merged word before rest

pub text_alone : (word : ℕ → Text) (entered : Bool) (before : Option ℕ) (rest : List (List NodeCode)) →
    text word entered [] before rest ≡ all_merged word before rest
text_alone word true before rest = refl
text_alone word false before rest = refl

-- what a node does in its block, before what is left of that
abbrev pub part_of : Bool → NodeCode → List NodeCode → List CStmt
part_of leaves t [] = t.own ++ control_unless leaves t
part_of leaves t (next ∷ ts) = t.own

pub fused_is : (leaves : Bool) (t : NodeCode) (ts : List NodeCode) → fused_code leaves t ts ≡ part_of leaves t ts ++ fused leaves ts
fused_is leaves t [] = sym (append-nil (t.own ++ control_unless leaves t))
fused_is leaves t (next ∷ ts) = refl

-- the number of the flag of a block that leaves its call to the blocks behind it
abbrev pub left_to : NodeCode → List NodeCode → List (List NodeCode) → Option ℕ
left_to t ts more = leaving_flag (t ∷ ts) (next_turn more)

-- the first turn of blocks, with the others of its block, and what is left to that block: where an empty block stands before it, nothing is
pub data Head (word : ℕ → Text) (before : Option ℕ) (rest : List (List NodeCode)) : Type 0 where
  nothing : joined rest ≡ [] → all_merged word before rest ≡ [] → behind_firsts rest ≡ [] → Head word before rest
  leads : (first : Option ℕ) (t : NodeCode) (ts : List NodeCode) (more : List (List NodeCode)) → (first ≡ None) ⊎ (first ≡ before) →
      joined rest ≡ t ∷ (ts ++ joined more) →
      all_merged word before rest ≡ merged_code word first (is_some (left_to t ts more)) (t ∷ ts) ++ all_merged word (left_to t ts more) more →
      behind_firsts rest ≡ false ∷ (map (λ (t : NodeCode). true) ts ++ behind_firsts more) → Head word before rest

pub head_of : (word : ℕ → Text) (before : Option ℕ) (rest : List (List NodeCode)) → Head word before rest
head_of word before [] = nothing refl refl refl
head_of word before ([] ∷ rest) = by (head_of word None rest)
  where
    by : Head word None rest → Head word before ([] ∷ rest)
    by (nothing turns code behind) = nothing turns code behind
    by (leads first t ts more (inl none) turns code behind) = leads first t ts more (inl none) turns code behind
    by (leads first t ts more (inr none) turns code behind) = leads first t ts more (inl none) turns code behind
head_of word before ((t ∷ ts) ∷ rest) = leads before t ts rest (inr refl) refl refl refl

-- ---- blocks that leave their call

-- the blocks begin with the turn of a node that goes on with the `run` that this one begins
pub record Follows (last : NodeCode) (rest : List (List NodeCode)) : Type 0 where
  pub next : NodeCode
  pub others : List NodeCode
  pub more : List (List NodeCode)
  pub is : rest ≡ (next ∷ others) ∷ more
  pub same : same_run last.run next.run ≡ true

pub nothing_left : (g : ℕ) → None ≡ Some g → ⊥
nothing_left g is = cc

-- the flag is that of the block's first node
pub left_flag : (t : NodeCode) (ts : List NodeCode) (next : Option NodeCode) (g : ℕ) → leaving_flag (t ∷ ts) next ≡ Some g → t.flag ≡ Some g
left_flag t ts None g is = absurd (nothing_left g is)
left_flag t ts (Some next) g is = by (same_run (last_turn t ts).run next.run) is
  where
    by : (b : Bool) → (if b then t.flag else None) ≡ Some g → t.flag ≡ Some g
    by true is = is
    by false is = absurd (nothing_left g is)

-- the next block goes on with the `run` of the block's last node
pub left_follows : (t : NodeCode) (ts : List NodeCode) (more : List (List NodeCode)) (g : ℕ) → left_to t ts more ≡ Some g → Follows (last_turn t ts) more
left_follows t ts [] g is = absurd (nothing_left g is)
left_follows t ts ([] ∷ more) g is = absurd (nothing_left g is)
left_follows t ts ((next ∷ others) ∷ more) g is = by (same_run (last_turn t ts).run next.run) refl is
  where
    by : (b : Bool) → same_run (last_turn t ts).run next.run ≡ b → (if b then t.flag else None) ≡ Some g →
        Follows (last_turn t ts) ((next ∷ others) ∷ more)
    by true same is = record { next = next; others = others; more = more; is = refl; same = same }
    by false same is = absurd (nothing_left g is)

-- a node whose flag is asked for waits by it
pub asked_flag : (view : ActivityView) (n : Node) (condition : Condition) (g : ℕ) → flag_asked view n condition ≡ Some g →
    (condition ≡ Flagged) × (view.number n ≡ g)
asked_flag view n Flagged g is = (refl, same_Some (view.number n) g is)
asked_flag view n (Rested slot) g is = absurd (nothing_left g is)
asked_flag view n (RestedIn slots) g is = absurd (nothing_left g is)
asked_flag view n (Ended age needed) g is = absurd (nothing_left g is)

-- the flag of a block's first node is a register
pub first_own : (a : Activity) (rule : Transition) → Contains (first_rules a) rule → rule.condition ≡ Flagged →
    (registered a).flags ((activity_view a).number rule.node) ≡ true
first_own a rule there waits =
    let number = (activity_view a).number in
    any_from (asks_flag number (number rule.node)) (first_rules a) rule there
    (ap (λ condition. is_flagged condition && nat_eq (number rule.node) (number rule.node)) waits ∙ eq-eqb (number rule.node) (number rule.node) refl)

-- ---- flags

module _ (number : Node → ℕ) (p : ℕ) where
  -- another flag is set
  other_flag : (n : Node) (r : Registers) → (number n ≡ p → ⊥) → r.flags p ≡ false → (with_flag (number n) r).flags p ≡ false
  other_flag n r other unset = by (nat_eq p (number n)) refl
    where
      by : (b : Bool) → nat_eq p (number n) ≡ b → (if b then true else r.flags p) ≡ false
      by true is = absurd (other (sym (eqb-true p (number n) is)))
      by false is = unset

  -- one that is set isn't cleared
  still : (n : Node) (r : Registers) → r.flags p ≡ true → (with_flag (number n) r).flags p ≡ true
  still n r set = by (nat_eq p (number n))
    where
      by : (b : Bool) → (if b then true else r.flags p) ≡ true
      by true = refl
      by false = set

  flag_kept : (change : Change) (r : Registers) → ((m : Node) → MayFlag change m → number m ≡ p → ⊥) → r.flags p ≡ false →
      (changed number change r).flags p ≡ false
  flag_kept (SetsFlag n) r none unset = other_flag n r (none n refl) unset
  flag_kept (SetsCounter slot) r none unset = unset
  flag_kept (ClearsCounter k) r none unset = unset
  flag_kept (ClearsBoth k) r none unset = unset
  flag_kept (SetsMark n) r none unset = unset
  flag_kept (EndsWhen start surface depth) r none unset = by (r.marks (number start))
    where
      by : (b : Bool) → (if b then with_flag (number surface) r else with_flag (number depth) r).flags p ≡ false
      by true = other_flag surface r (none surface (inl refl)) unset
      by false = other_flag depth r (none depth (inr refl)) unset
  flag_kept Finishes r none unset = unset

  -- a flag that none of the changes may set stays as it is
  pub flags_kept : (changes : List Change) (r : Registers) →
      ((change : Change) (m : Node) → Contains changes change → MayFlag change m → number m ≡ p → ⊥) → r.flags p ≡ false →
      (all_changed number changes r).flags p ≡ false
  flags_kept [] r none unset = unset
  flags_kept (change ∷ rest) r none unset =
      flags_kept rest (changed number change r) (λ other m there. none other m (contains_further change rest other there))
      (flag_kept change r (λ m. none change m (contains_first change rest)) unset)

  -- a flag that is set stays so
  set_still : (change : Change) (r : Registers) → r.flags p ≡ true → (changed number change r).flags p ≡ true
  set_still (SetsFlag n) r set = still n r set
  set_still (SetsCounter slot) r set = set
  set_still (ClearsCounter k) r set = set
  set_still (ClearsBoth k) r set = set
  set_still (SetsMark n) r set = set
  set_still (EndsWhen start surface depth) r set = by (r.marks (number start))
    where
      by : (b : Bool) → (if b then with_flag (number surface) r else with_flag (number depth) r).flags p ≡ true
      by true = still surface r set
      by false = still depth r set
  set_still Finishes r set = set

  pub flags_stay : (changes : List Change) (r : Registers) → r.flags p ≡ true → (all_changed number changes r).flags p ≡ true
  flags_stay [] r set = set
  flags_stay (change ∷ rest) r set = flags_stay rest (changed number change r) (set_still change r set)

-- ---- flags that C doesn't have

-- a flag that is no register may be set
pub free_flag : (has : Registered) (scope : Scope) (k : ℕ) (r : Registers) (here : Memory) → has.flags k ≡ false → RegistersEncoded has scope r here →
    RegistersEncoded has scope (with_flag k r) here
free_flag has scope k r here free encoded = record { each = λ x on. encoded.each x on ∙ same x on }
  where
    other : (j : ℕ) → has.flags j ≡ true → (b : Bool) → nat_eq j k ≡ b → r.flags j ≡ (if b then true else r.flags j)
    other j on true is =
        let both : true ≡ false = sym on ∙ ap has.flags (eqb-true j k is) ∙ free in absurd (cc)
    other j on false is = refl

    same : (x : Register) → has_register has x ≡ true → held_in r x ≡ held_in (with_flag k r) x
    same (Counter j) on = refl
    same (Before j) on = refl
    same (Flag j) on = ap number_of (other j on (nat_eq j k) refl)
    same (Mark j) on = refl
    same Over on = refl
