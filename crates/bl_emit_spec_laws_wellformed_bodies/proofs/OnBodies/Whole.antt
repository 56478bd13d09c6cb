-- Nothing fails in the statements of the C function of an activity.
use Rattle.std.proofs.Common.{◌≡◌, ℕ, zero, suc, ◌<◌, Bool, true, false, List, [], ◌∷◌, ◌++◌, map, length, refl, sym}
use Rattle.std.proofs.Common.{subst, arith, ⊎_elim, ◌∙◌}
use Rattle.std.proofs.lemmas.Bool.Decides.{nat_tests}
use Rattle.std.proofs.lemmas.List.Elements.{Contains-push_cases}
use Rattle.std.specs.Prelude.{Contains, filter, nat_lt, if◌then◌else◌}
use Rattle.bl_tree.proofs.Basics.{contains_first, contains_further, index_of, some_within}
use Rattle.bl_tree.specs.declared.c.CMember.{CMember}
use Rattle.bl_tree.specs.declared.c.CExpr.{CExpr}
use Rattle.bl_tree.specs.declared.c.CStmt.{CStmt}
use Rattle.bl_tree.specs.declared.c.CType.TheVariants.{Scalar as OfScalar}
use Rattle.bl_tree.specs.declared.scalar.Op.TheVariants.{Eq}
use Rattle.bl_tree.specs.declared.tree.Stmt.{Stmt, out-Stmt}
use Rattle.bl_tree.specs.declared.tree.StmtKind.{out-StmtKind}
use Rattle.bl_tree.specs.declared.tree.StructDef.{StructDef}
use Rattle.bl_tree.specs.declared.tree.Unit.{Unit as UnitDef}
use Rattle.bl_tree.specs.declared.tree.Var.{Var}
use Rattle.bl_tree.specs.Program.{IsWellTyped}
use Rattle.bl_tree.specs.Reduce.{joined}
use Rattle.bl_tree.specs.Typing.{fits, site_of}
use Rattle.bl_ctext_semantics.specs.Faults.{Context, Signature, bool_type}
use Rattle.bl_ctext_semantics.specs.Tables.{Table}
use Rattle.bl_machine.specs.Blocks.{up_to}
use Rattle.bl_graph_nodes.specs.Nodes.{entry as entry_of, nodes_in}
use Rattle.bl_graph_nodes.specs.Plain.{Block, Done, Then}
use Rattle.bl_machine_pass.specs.Transitions.{Finishes}
use Rattle.bl_emit_acts.specs.Acts.{act_code, c_copied, c_set}
use Rattle.bl_emit_acts.specs.Places.{place_in}
use Rattle.bl_emit_acts.specs.Trees.{c_place, c_read, c_two}
use Rattle.bl_emit_acts.specs.Types.{c_type, copy_name}
use Rattle.bl_emit_acts_laws_simulation.specs.Acts.{copied_in_layer, is_act}
use Rattle.bl_emit_acts_laws_wellformed.specs.Formed.Declared.{ChangesNone, Declared, InActivity, leads_through}
use Rattle.bl_emit_acts_laws_wellformed.specs.Formed.Formed.{BlockIs, StmtIs}
use Rattle.bl_emit_acts_laws_wellformed.specs.Formed.Laws.{ActsWellFormed}
use Rattle.bl_emit_acts_laws_wellformed.proofs.OnFormed.Acts.{block_append, block_cons, block_nil, block_one}
use Rattle.bl_emit_acts_laws_wellformed.proofs.OnFormed.Judged.{read-is}
use Rattle.bl_emit_acts_laws_wellformed.proofs.OnFormed.SiteActs.{own_place}
use Rattle.bl_emit_acts_laws_wellformed.proofs.OnFormed.Typed.{variable_place}
use Rattle.bl_emit_spec.specs.Activities.{Activity, activity_code, activity_view, blocks_in_order, body_of, callees_in, copied_in, copies_of, counters_read}
use Rattle.bl_emit_spec.specs.Activities.{entry_code, entry_place, rested_code, rules_at, runs_in_body, turns_in_source}
use Rattle.bl_emit_spec.specs.Blocks.{ActivityView, counter_type, counter_value, node_word}
use Rattle.bl_emit_spec.specs.Names.{counter_place, flag_place, rested_place}
use Rattle.bl_emit_spec_laws.specs.Calls.Built.{registered}
use Rattle.bl_emit_spec_laws_wellformed.specs.Names.{FrameDiffers, LocalsDiffer, MemoryDiffers}
use Rattle.bl_emit_spec_laws.proofs.OnPlaced.Lists.{number_below}
use Rattle.bl_emit_spec_laws.proofs.OnRemember.Entering.{callees_in_many}
use Rattle.bl_emit_spec_laws_wellformed_bodies.specs.Bodies.{ActivityBodiesWellFormed}
use Rattle.bl_emit_spec_laws_wellformed_bodies.proofs.OnBodies.Guards.{begins-is, put-is}
use Rattle.bl_emit_spec_laws_wellformed_bodies.proofs.OnBodies.Nodes.{asked-are, blocks-are, controls-are, owns-are}
use Rattle.bl_emit_spec_laws_wellformed.proofs.OnNodes.Rules.{of_block}
use Rattle.bl_emit_spec_laws_wellformed.proofs.OnNumbers.Whole.{many-rules}
use Rattle.bl_emit_spec_laws_wellformed_bodies.proofs.OnBodies.Running.{Pairs, RuleRuns, body-runs}
use Rattle.bl_emit_spec_laws_wellformed_bodies.proofs.OnBodies.Variables.{Here, context, copied, counter-is, declared_here, earlier_here, flag-is}
use Rattle.bl_emit_spec_laws_wellformed_bodies.proofs.OnBodies.Variables.{plain_here, rested-is}
use Rattle.bl_emit_spec_laws_wellformed_bodies.proofs.OnBodies.Variables.{typed_here}
use Rattle.bl_emit_spec_laws.proofs.OnPlaced.Placing.{turns_many}

-- what stands among the numbers below another is below it
below : (n j : ℕ) → Contains (up_to n) j → j < n
below zero j (i, less, is) = absurd (omega (arith, less))
below (suc n) j has =
    ⊎_elim (λ inside. let less : j < n = below n j inside in omega (arith, less)) (λ (same : n ≡ j). omega (arith, same))
    (Contains-push_cases (up_to n) n j has)

filtered : (here : Context) (test : ℕ → Bool) (make : ℕ → CStmt) (xs : List ℕ) → ((j : ℕ) → Contains xs j → test j ≡ true →
    StmtIs here (make j)) →
    BlockIs here (map make (filter test xs))
filtered here test make [] each = block_nil here
filtered here test make (x ∷ xs) each =
    by (test x) refl (filtered here test make xs (λ j there on. each j (contains_further x xs j there) on))
  where
    by : (b : Bool) → test x ≡ b → BlockIs here (map make (filter test xs)) → BlockIs here (map make (if b then x ∷ filter test xs else
        filter test xs))
    by true on rest = block_cons here (make x) (map make (filter test xs)) (each x (contains_first x xs) on) rest
    by false on rest = rest

module _ (units : List UnitDef) (entry k : ℕ) (a : Activity) (table : Table (Table CMember)) (known : Table Signature)
    (h : Here units entry k a table known)
    (acts : (s : Stmt) → is_act (out-StmtKind (out-Stmt s).what) ≡ true → fits (activity_view a).site s ≡ true →
    InActivity (activity_view a).site (copied_in_layer (copied units entry k a table known h) (out-StmtKind (out-Stmt s).what)) →
    BlockIs (context units entry k a table known h) (act_code (activity_view a).site (copies_of a.unit) s)) where
  abbrev here : Context
  here = context units entry k a table known h

  abbrev view : ActivityView
  view = activity_view a

  abbrev mine : ℕ → Bool
  mine = copied units entry k a table known h

  is_below : (c n : ℕ) → c < n → nat_lt c n ≡ true
  is_below c n less = grind (arith, nat_tests)

  rested-code-is : (c : ℕ) → view.is_read c ≡ true → StmtIs here (rested_code c)
  rested-code-is c on =
      put-is units entry k a table known h false (OfScalar (counter_type a.sizes c)) (rested_place c) (c_read (counter_place c))
      (rested-is units entry k a table known h c on)
      (read-is here true (OfScalar (counter_type a.sizes c)) (counter_place c)
      (counter-is units entry k a table known h c (is_below c (length a.sizes) (h.owns.read c on))))

  copied-code-is : (j : ℕ) → j < length a.unit.vars → mine j ≡ true → StmtIs here (c_copied view.site j)
  copied-code-is j less on =
      let found = some_within a.unit.vars j less in
      let var : Var = found.0 in
      let declared = declared_here units entry k a table known h in
      put-is units entry k a table known h false (c_type a.structs var.ty) (c_place false (copy_name view.site.vars j) []) (c_read (place_in view.site j []))
      (variable_place here (copy_name view.site.vars j) (c_type a.structs var.ty) (declared.copies j var on found.1))
      (read-is here (leads_through view.site j) (c_type a.structs var.ty) (place_in view.site j [])
      (own_place view.site mine here declared h.well_typed.structs_stand (earlier_here units entry k a table known h) (typed_here units entry k a table known h)
      (plain_here units entry k a table known h) j var found.1))

  entry-is : (body : Block) → body_of a ≡ body → BlockIs here (entry_code view body)
  entry-is Done is = block_nil here
  entry-is (Then s rest) is =
      let flag : (registered a).flags (view.number (entry_of s)) ≡ true = h.owns.begins s rest is in
      let first : CExpr = c_two Eq (c_read (entry_place (view.is_read 0))) (counter_value a.sizes 0 0) in
      block_one here (c_set (flag_place (node_word view (entry_of s))) first)
      (put-is units entry k a table known h false bool_type (flag_place (node_word view (entry_of s))) first
      (flag-is units entry k a table known h (view.number (entry_of s)) flag)
      (begins-is units entry k a table known h (is_below 0 (length a.sizes) h.owns.some)))

  runs : Pairs (RuleRuns view.run (runs_in_body a)) (callees_in (body_of a)) (rules_at a)
  runs = body-runs (λ slots body. of_block slots body Finishes) a a.structs units entry h.well_typed k h.there

  many_turns : length (turns_in_source a) ≡ length (nodes_in (body_of a))
  many_turns =
      turns_many view (callees_in (body_of a)) (rules_at a) (callees_in_many (body_of a) ∙ sym (many-rules a)) ∙ many-rules a

  -- each position in a block is that of a turn
  inside : (p : ℕ) → Contains (joined a.blocks) p → p < length (turns_in_source a)
  inside p has =
      let at = index_of (joined a.blocks) p has in
      subst (λ n. p < n) (sym many_turns) (number_below (length (nodes_in (body_of a))) (joined a.blocks) h.owns.once p at.0 at.1)

  -- nothing fails in the statements
  pub code-is : BlockIs here (activity_code a)
  code-is =
      let copies : List CStmt = map (c_copied view.site) (copied_in a) in
      let last : List CStmt = blocks_in_order a in
      block_append here (map rested_code (counters_read a)) (entry_code view (body_of a) ++ (copies ++ last))
      (filtered here view.is_read rested_code (up_to (length a.sizes)) (λ c there on. rested-code-is c on))
      (block_append here (entry_code view (body_of a)) (copies ++ last) (entry-is (body_of a) refl)
      (block_append here copies last
      (filtered here mine (c_copied view.site) (up_to (length a.unit.vars)) (λ j there on. copied-code-is j (below (length a.unit.vars) j there) on))
      (blocks-are here (activity_view a).word (turns_in_source a) (owns-are units entry k a table known h acts runs) a.blocks inside
      (asked-are units entry k a table known h acts runs) (controls-are units entry k a table known h acts runs))))

module _ (units : List UnitDef) (entry k : ℕ) (a : Activity) (table : Table (Table CMember)) (known : Table Signature)
    (h : Here units entry k a table known) (acts : ActsWellFormed a.structs units entry) where
  abbrev around : Context
  around = context units entry k a table known h

  abbrev own : ℕ → Bool
  own = copied units entry k a table known h

  -- what holds of acts where these units stand before
  abbrev ActsAfter : List UnitDef → Type 0
  ActsAfter earlier =
      Declared (site_of a.structs earlier a.unit) own around → ChangesNone (site_of a.structs earlier a.unit) around →
      (s : Stmt) → is_act (out-StmtKind (out-Stmt s).what) ≡ true → fits (site_of a.structs earlier a.unit) s ≡ true →
      InActivity (site_of a.structs earlier a.unit) (copied_in_layer own (out-StmtKind (out-Stmt s).what)) →
      BlockIs around (act_code (site_of a.structs earlier a.unit) (copies_of a.unit) s)

  after : ActsAfter a.earlier
  after =
      subst ActsAfter (sym h.earlier)
      (λ declared plain s act fitted named. acts k a.unit s (copies_of a.unit) around h.well_typed h.there declared plain act fitted named)

  pub whole : BlockIs around (activity_code a)
  whole = code-is units entry k a table known h (after (declared_here units entry k a table known h) (plain_here units entry k a table known h))

pub bodies : (structs : List StructDef) (units : List UnitDef) (entry : ℕ) → ActsWellFormed structs units entry → LocalsDiffer → FrameDiffers →
    MemoryDiffers → ActivityBodiesWellFormed structs units entry
bodies structs units entry acts locals members memories k a table known keeps can active differ stands owns copies =
    whole units entry k a table known
    (record {
      well_typed = subst (λ structs. IsWellTyped structs units entry) (sym can.structures) keeps;
      there = can.there;
      earlier = can.earlier;
      active = active;
      few = can.variables;
      fitted = can.rules;
      differ = differ;
      locals = locals;
      members = members;
      memories = memories;
      stands = stands;
      owns = owns;
      copies = copies;
    })
    (subst (λ structs. ActsWellFormed structs units entry) (sym can.structures) acts)
