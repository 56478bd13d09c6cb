-- The statements of a typed program and the conditions of its loops begin one after another.
use Rattle.std.proofs.Common.{◌≡◌, ℕ, true, false, map, refl, sym, ◌∙◌}
use Rattle.std.specs.Prelude.{List, IsTrue}
use Rattle.bl_tree.proofs.Basics.{first_empty}
use Rattle.bl_tree.specs.declared.tree.Stmt.{fold-Stmt}
use Rattle.bl_tree.specs.declared.tree.StmtKind.TheOpen.{StmtKind-F}
use Rattle.bl_tree.specs.declared.tree.Unit.{Unit as UnitDef}
use Rattle.bl_tree.specs.Reduce.{joined}
use Rattle.bl_parse_tree.specs.declared.item.RawItem.{RawItem}
use Rattle.bl_parse_tree.specs.WellFormed.{RawIsWellFormed}
use Rattle.bl_parse_tree.specs.Starts.{ascends}
use Rattle.bl_names_scopes.specs.Rules.{Passes as NamesPass}
use Rattle.bl_names.specs.Named.{named_program}
use Rattle.bl_names_laws.specs.WellFormed.{NamedIsWellFormed}
use Rattle.bl_names_scopes.specs.Scopes.{file_scope}
use Rattle.bl_types.specs.Programs.{after_program, fresh, text_end, typed_program}
use Rattle.bl_types.specs.Rules.{Passes as TypesPass}
use Rattle.bl_types.specs.Units.{entries}
use Rattle.bl_types_laws.specs.Starts.{StatementOffsets, all_starts, arm_layer_starts, branch_layer_starts, starts_of, stmt_kind_starts, stmt_layer_starts}
use Rattle.bl_types_laws.proofs.Occurrences as standing
use Rattle.bl_types_laws.proofs.Premises.{ApartStays, ConstantsSuit, ShallowStays, Shapes, Suits, UnitsSuit}
use Rattle.bl_types_laws.proofs.Reached.{Made}
use Rattle.bl_types_laws.proofs.Starts.{picked_ascends}
use Rattle.bl_types_laws.proofs.ItemTurns.{at_start, no_failure, turns}

-- where statements begin, as their occurrences are told apart
same_kind : (layer : StmtKind-F StatementOffsets StatementOffsets StatementOffsets StatementOffsets) → standing.kind_starts layer ≡ stmt_kind_starts layer
same_kind (StmtKind-F.Declare k value) = refl
same_kind (StmtKind-F.Assign path e) = refl
same_kind (StmtKind-F.Call f inputs outputs) = refl
same_kind (StmtKind-F.Await e) = refl
same_kind (StmtKind-F.Run target a inputs outputs) = refl
same_kind (StmtKind-F.If arms other) = refl
same_kind (StmtKind-F.Cobegin branches) = refl
same_kind (StmtKind-F.When guard e body) = refl
same_kind (StmtKind-F.Repeat body) = refl
same_kind (StmtKind-F.Until body e) = refl
same_kind (StmtKind-F.While e body) = refl
same_kind (StmtKind-F.Return e) = refl

same_starts : standing.starts_of ≡ starts_of
same_starts = λ i. fold-Stmt StatementOffsets StatementOffsets StatementOffsets StatementOffsets (λ layer. same_kind layer i) arm_layer_starts branch_layer_starts stmt_layer_starts

in_order : (items : List RawItem) (bytes : ℕ) → Suits (named_program items bytes) → Shapes → NamedIsWellFormed (named_program items bytes) →
    NamesPass items → TypesPass (named_program items bytes) → ascends (all_starts (typed_program (named_program items bytes)).units) ≡ true
in_order items bytes suits shapes keeps passes types =
    let named = named_program items bytes in
    let made : Made file_scope items fresh (after_program named).env = turns named suits shapes items file_scope fresh (at_start items bytes passes)
    keeps.structs keeps.units (first_empty (after_program named).failures (entries false (text_end named) named.units) (no_failure named types)) in
    (λ i. ascends (joined (map (λ (unit : UnitDef). joined (map (sym same_starts i) unit.body)) (made.units i))))
    ∙ picked_ascends made.starts keeps.in_order

-- the same, of what the laws of the crates below say
pub begin_in_order : ((items : List RawItem) (bytes : ℕ) → RawIsWellFormed items → NamesPass items → NamedIsWellFormed (named_program items bytes)) →
    ((items : List RawItem) (bytes : ℕ) → RawIsWellFormed items → NamesPass items → UnitsSuit (named_program items bytes)) →
    ((items : List RawItem) (bytes : ℕ) → RawIsWellFormed items → NamesPass items → ConstantsSuit (named_program items bytes)) →
    ShallowStays → ApartStays →
    (items : List RawItem) (bytes : ℕ) → RawIsWellFormed items → NamesPass items → TypesPass (named_program items bytes) →
    IsTrue (ascends (all_starts (typed_program (named_program items bytes)).units))
begin_in_order keeps units constants shallow apart items bytes raw names types =
    in_order items bytes (record { units = units items bytes raw names; constants = constants items bytes raw names })
    (record { shallow = shallow; apart = apart }) (keeps items bytes raw names) names types
