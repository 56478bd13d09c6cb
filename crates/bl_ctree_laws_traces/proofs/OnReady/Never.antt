-- Where numbers rise no tree is stuck.
use Rattle.std.proofs.Common.{◌≡◌, inl, inr, ℕ, suc, ◌≤◌, Bool, true, false, List, [], Option, Some, None, length, refl, sym, ◌∙◌, subst, arith}
use Rattle.std.specs.Prelude.{option_map, unwrap_or}
use Rattle.bl_tree.specs.declared.tree.StructDef.{StructDef}
use Rattle.bl_tree.specs.declared.tree.Unit.{Unit as UnitDef}
use Rattle.bl_graph_nodes.specs.Nodes.{Node}
use Rattle.bl_graph_nodes.specs.Plain.{Block, Done, plain_body}
use Rattle.bl_graph_nodes.specs.Steps.{StepLabel, head_of}
use Rattle.bl_graph.specs.Edges.{In}
use Rattle.bl_ctree.specs.Control as control
use Rattle.bl_ctree.specs.Instances.{Setting, setting_of, unit_at}
use Rattle.bl_ctree.specs.Laws as laws
use Rattle.bl_ctree.specs.Means.{entry_items}
use Rattle.bl_ctree.specs.Positions.{body_items}
use Rattle.bl_ctree_laws.specs.Bridge.{plain_items, plain_tree}
use Rattle.bl_ctree_laws.specs.Fitted.{ReachedIsArmed}
use Rattle.bl_ctree_laws.specs.Laws.{AnswersArePlain, StatementsArePlain}
use Rattle.bl_ctree_laws.specs.Pending.{Deed}
use Rattle.bl_ctree_laws.specs.Runs.{ReachedInsideIsPlainResidual, StillIsPlain, entry_block}
use Rattle.bl_ctree_laws.specs.Steps.{Anyway, Moves}
use Rattle.bl_ctree_laws.specs.Trees.{Tree, is_settled}
use Rattle.bl_ctree_laws_confluence.specs.Deeds.Homes.{OutputsAreApart}
use Rattle.bl_ctree_laws_confluence.specs.Deeds.Orderly.{AcceptedIsOrderly}
use Rattle.bl_ctree_laws_confluence.specs.Apart.Outputs.{ResidualCallsMatch, RunsHaveOutputs, TypedRunsHaveOutputs}
use Rattle.bl_ctree_laws_confluence.specs.Apart.Seen.{CallsMatchCallees}
use Rattle.bl_ctree_laws_traces.specs.Progress.Accepted.{AcceptedTreesFitGraphs}
use Rattle.bl_ctree_laws_traces.specs.Progress.Laws.{Could, NodesAreInPart, UnsettledCould}
use Rattle.bl_ctree_laws_traces.specs.Progress.FitsGraph.{FitsGraph}
use Rattle.bl_ctree_laws_traces.specs.Progress.Places.{whole}
use Rattle.bl_ctree_laws_traces.specs.Ready.Never.{AcceptedNeverStuck, May, ReachedLowestMayAct, TypedCallsMatch, UnsettledMay}
use Rattle.bl_ctree_laws_traces.specs.Ready.Ranks.{LowestMayAct, Lower, Rising, ranks_in}
use Rattle.bl_ctree_laws_traces.proofs.OnReady.Deepening.{calls_around, calls_in, no_deeper, ranks_long}
use Rattle.bl_ctree_laws_traces.proofs.OnReady.Descending.{descend}

-- ---- trees

module _ (structs : List StructDef) (units : List UnitDef) (entry : ℕ) (rank : ℕ → Node → ℕ) (i : ℕ) (unit : UnitDef) (stood : Bool) (c : Tree)
    (lowest : LowestMayAct) (rising : Rising (setting_of structs units entry) rank) (outputs : OutputsAreApart (setting_of structs units entry))
    (is : unit_at (setting_of structs units entry) i ≡ Some unit)
    (live : FitsGraph (setting_of structs units entry) i c (whole stood (plain_body unit.body))) (stand : CallsMatchCallees (setting_of structs units entry) i c) where
  abbrev W : Setting
  W = setting_of structs units entry

  -- a step may be taken where one with these numbers could be
  abbrev Led : List ℕ → Type 0
  Led xs = (d : Bool) (a : Deed) (n : StepLabel) (c' : Tree) → Moves Anyway W i c d a n c' → ranks_in W rank i n ≡ xs → May W i c

  short : {d : Bool} {a : Deed} {n : StepLabel} {c' : Tree} → Moves Anyway W i c d a n c' → length (ranks_in W rank i n) ≤ suc (calls_in c)
  short {n = n} move =
      let long : length (ranks_in W rank i n) ≡ suc (calls_around n) = ranks_long W rank i n in let few = no_deeper move in omega arith

  led : (xs : List ℕ) → length xs ≤ suc (calls_in c) → ((ys : List ℕ) → length ys ≤ suc (calls_in c) → Lower ys xs → Led ys) → Led xs
  led xs within more d a n c' move same =
      elim (lowest structs units entry rank i unit stood c d a n c' rising outputs is live stand move) [
        | inl able ↦ record { answer = d; deed = a; label = n; after = c'; moves = able }
        | inr low ↦ more (ranks_in W rank i low.could.label) (short low.could.moves)
            (subst (Lower (ranks_in W rank i low.could.label)) same low.lower) low.could.answer low.could.deed low.could.label low.could.after
            low.could.moves refl
      ]

  pub may : {d : Bool} {a : Deed} {n : StepLabel} {c' : Tree} → Moves Anyway W i c d a n c' → May W i c
  may {d = d} {a = a} {n = n} {c' = c'} move =
      descend (suc (calls_in c)) Led led (ranks_in W rank i n) (short move) d a n c' move refl

pub unsettled_may : LowestMayAct → UnsettledCould → UnsettledMay
unsettled_may lowest could structs units entry rank i unit stood c rising outputs is live stand moving =
    may structs units entry rank i unit stood c lowest rising outputs is live stand
    (could (setting_of structs units entry) i stood (plain_body unit.body) c live moving).moves

-- ---- reached trees

-- the body of the entry's unit, where there is one
abbrev pub body_of : Option UnitDef → Block
body_of found = plain_items (unwrap_or (option_map (λ unit. body_items unit.body) found) [])

pub no_node : (stood : Bool) (n : Node) → In stood Done n → ⊥
no_node true n inside = elim inside.begins [ ]
no_node false n inside = elim inside.begins [ ]

-- an instance's tree at its place in the body of its unit
pub record Standing (w : Setting) (c : Tree) : Type 0 where
  pub unit : UnitDef
  pub is : unit_at w 0 ≡ Some unit
  pub stood : Bool
  pub lives : FitsGraph w 0 c (whole stood (plain_body unit.body))

-- where something could act in the whole tree there is a unit
pub in_unit : NodesAreInPart → StatementsArePlain → (w : Setting) (stood : Bool) (c : Tree) (found : Option UnitDef) → unit_at w 0 ≡ found →
    FitsGraph w 0 c (whole stood (body_of found)) → Could w 0 c → Standing w c
in_unit part plain w stood c None is lives one =
    absurd (no_node stood (head_of one.label) (part w 0 stood Done c one.answer one.deed one.label one.after lives one.moves))
in_unit part plain w stood c (Some unit) is lives one = record {
  unit = unit;
  is = is;
  stood = stood;
  lives = subst (λ body. FitsGraph w 0 c (whole stood body)) (sym (plain.blocks unit.body [])) lives;
}

-- calls in what is left of the entry's body
pub typed_calls_stand : ReachedInsideIsPlainResidual → StatementsArePlain → TypedRunsHaveOutputs → ResidualCallsMatch → TypedCallsMatch
typed_calls_stand left plain typed stand structs units entry keeps rows row actions c store reaches =
    let w : Setting = setting_of structs units entry in
    stand structs units entry true 0 (entry_block w) (plain_tree c) keeps (by_unit (unit_at w 0) refl) (left w rows row actions c store reaches)
  where
    by_unit : (found : Option UnitDef) → unit_at (setting_of structs units entry) 0 ≡ found →
        RunsHaveOutputs (setting_of structs units entry) 0 (body_of found)
    by_unit None is = λ place outputs callee runs begins. elim runs [ ]
    by_unit (Some unit) is =
        subst (RunsHaveOutputs (setting_of structs units entry) 0) (plain.blocks unit.body []) (typed structs units entry 0 unit keeps is)

module _ (part : NodesAreInPart) (live : AcceptedTreesFitGraphs) (orderly : AcceptedIsOrderly) (plain : StatementsArePlain) (calls : TypedCallsMatch) where
  pub reached_lowest : LowestMayAct → ReachedLowestMayAct
  reached_lowest lowest structs units entry rank keeps passes rising rows row actions c store reaches d a n c' move =
      let w : Setting = setting_of structs units entry in
      let now = (live structs units entry keeps passes).inside rows row actions c store reaches in
      let at = in_unit part plain w now.stood (plain_tree c) (unit_at w 0) refl now.lives
      (record { answer = d; deed = a; label = n; after = c'; moves = move }) in
      lowest structs units entry rank 0 at.unit at.stood (plain_tree c) d a n c' rising (orderly structs units entry keeps passes).outputs at.is at.lives
      (calls structs units entry keeps rows row actions c store reaches) move

  pub accepted_never_stuck : UnsettledMay → UnsettledCould → laws.ReachedInsideIsResidual → ReachedIsArmed → AnswersArePlain → StillIsPlain →
      AcceptedNeverStuck
  accepted_never_stuck may could left armed answers still structs units entry rank keeps passes rising rows row actions c store reaches is_still =
      by_settled (control.is_settled c) refl
    where
      W : Setting
      W = setting_of structs units entry

      moving : is_settled (plain_tree c) ≡ false → ⊥
      moving e =
          let ordered = orderly structs units entry keeps passes in
          let now = (live structs units entry keeps passes).inside rows row actions c store reaches in
          let at = in_unit part plain W now.stood (plain_tree c) (unit_at W 0) refl now.lives
          (could W 0 now.stood (entry_block W) (plain_tree c) now.lives e) in
          let one = may structs units entry rank 0 at.unit at.stood (plain_tree c) rising ordered.outputs at.is at.lives
          (calls structs units entry keeps rows row actions c store reaches) e in
          still W true (entry_items W) c (left W rows row actions c store reaches) (armed W rows row actions c store ordered.fitted reaches) is_still
          one.answer one.deed one.label one.after one.moves

      by_settled : (b : Bool) → control.is_settled c ≡ b → control.is_settled c ≡ true
      by_settled true is = is
      by_settled false is = absurd (moving (answers.settled W true 0 (entry_items W) c (left W rows row actions c store reaches) ∙ is))
