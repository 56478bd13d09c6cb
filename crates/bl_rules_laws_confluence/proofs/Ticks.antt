-- Ticks of accepted programs end alike.
use Rattle.std.proofs.Common.{◌≡◌, ◌∙◌, ℕ, List, ap, refl, sym, subst, true}
use Rattle.std.specs.Prelude.{ℤ}
use Rattle.bl_ctree.specs.Control.{Control}
use Rattle.bl_ctree.specs.Instances.{Setting, setting_of}
use Rattle.bl_ctree.specs.Laws.{ReachedInsideIsResidual}
use Rattle.bl_ctree.specs.Reaches.{Reaches}
use Rattle.bl_ctree.specs.Residual.{ResidualTree, has_begun}
use Rattle.bl_ctree.specs.Store.{Store}
use Rattle.bl_ctree.specs.Ticks.{End, Rests, Tick, Trapped}
use Rattle.bl_ctree_laws.specs.Bridge.{plain_tree}
use Rattle.bl_ctree_laws.specs.Ends as ends
use Rattle.bl_ctree_laws.specs.Runs.{TicksEndAlikeByPlain, plain_end}
use Rattle.bl_ctree_laws.specs.Trees.{Tree}
use Rattle.bl_ctree_laws.proofs.Ticking.{tree_same, store_same}
use Rattle.bl_ctree_laws_confluence.specs.Deeds.Orderly.{AcceptedIsOrderly, Orderly}
use Rattle.bl_ctree_laws_confluence.specs.Independent.Accepted.{AcceptedIsIndependent}
use Rattle.bl_ctree_laws_plain.specs.Plain.{PlainTreesTell}
use Rattle.bl_effects.specs.Rules.{Passes as UnitsPass}
use Rattle.bl_names.specs.Named.{named_program}
use Rattle.bl_names_scopes.specs.Rules.{Passes as NamesPass}
use Rattle.bl_parse_tree.specs.WellFormed.{RawIsWellFormed}
use Rattle.bl_parse_tree.specs.declared.item.RawItem.{RawItem}
use Rattle.bl_parse_tree.specs.declared.raw.Raw.{Raw}
use Rattle.bl_rules.specs.Accepted.{HasProgram, IsOfTree}
use Rattle.bl_rules.specs.Rules.{in_names, in_program, in_types, in_units}
use Rattle.bl_rules_laws_confluence.specs.Confluent.{ProgramsAreConfluent, TextsAreConfluent, TicksEndAlike}
use Rattle.bl_tree.specs.Program.{IsWellTyped}
use Rattle.bl_tree.specs.declared.program.Program.{Program}
use Rattle.bl_tree.specs.declared.tree.StructDef.{StructDef}
use Rattle.bl_tree.specs.declared.tree.Unit.{Unit as UnitDef}
use Rattle.bl_types.specs.Programs.{typed_program}
use Rattle.bl_types.specs.Rules.{Passes as TypesPass}
use Rattle.bl_types_program.specs.Programs.{named_of, typed_of}

-- what is typed of a raw tree that passes is well-typed
abbrev pub TypedKeeps : Type 0
TypedKeeps =
    (items : List RawItem) (bytes : ℕ) → RawIsWellFormed items → NamesPass items → TypesPass (named_program items bytes) →
    let typed = typed_program (named_program items bytes) in IsWellTyped typed.structs typed.units typed.entry

-- ---- ends

untrapped : {A : Type 0} (c : Tree) (store : Store) → ends.Trapped ≡ ends.Rests c store → A
untrapped c store e = absurd (cc)

-- ends with one plain tree and one store are one
module _ (inside : ReachedInsideIsResidual) (tells : PlainTreesTell) (w : Setting) (rows : List (List ℤ)) (row : List ℤ) (c : Control) (store : Store)
    (reached : Reaches w rows c store) where
  left_there : (d : Control) (left : Store) → Tick w row c store (Rests d left) → ResidualTree w d
  left_there d left tick =
      has_begun (inside w rows row tick.actions d left (record { tree = c; store = store; before = reached; steps = tick.maximal.steps }))

  one_end : (end other : End) → Tick w row c store end → Tick w row c store other → plain_end end ≡ plain_end other → end ≡ other
  one_end Trapped Trapped one two same = refl
  one_end Trapped (Rests d left) one two same = untrapped (plain_tree d) left same
  one_end (Rests d left) Trapped one two same = untrapped (plain_tree d) left (sym same)
  one_end (Rests d left) (Rests e kept) one two same =
      let trees : d ≡ e =
      tells w d e (left_there d left one) (left_there e kept two) (tree_same (plain_tree d) (plain_tree e) left kept same) in
      let stores : left ≡ kept = store_same (plain_tree d) (plain_tree e) left kept same in
      ap (λ (t : Control). Rests t left) trees ∙ ap (λ (s : Store). Rests e s) stores

-- ---- programs

-- a program ends ticks alike that is well-typed and passes the rules on effects
typed_alike : ReachedInsideIsResidual → PlainTreesTell → AcceptedIsOrderly → AcceptedIsIndependent → TicksEndAlikeByPlain →
    (structs : List StructDef) (units : List UnitDef) (entry : ℕ) → IsWellTyped structs units entry → UnitsPass units → TicksEndAlike structs units entry
typed_alike inside tells orderly independent alike structs units entry keeps passes rows row c store end other reached one two =
    let is : Orderly structs units (setting_of structs units entry) = orderly structs units entry keeps passes in
    one_end inside tells (setting_of structs units entry) rows row c store reached end other one two
    (alike (setting_of structs units entry) rows rows row c c store end other is.fitted is.paces
    (independent structs units entry true keeps passes) reached reached refl one two).plain

pub programs_confluent : ReachedInsideIsResidual → PlainTreesTell → TypedKeeps → AcceptedIsOrderly → AcceptedIsIndependent →
    TicksEndAlikeByPlain → ProgramsAreConfluent
programs_confluent inside tells typed_keeps orderly independent alike program of =
    let raw : Raw = of.raw in
    let names : NamesPass raw.items = λ r p a f. of.passes r p a (in_names f) in
    let types : TypesPass (named_of raw) = λ r p a f. of.passes r p a (in_types names f) in
    let units : UnitsPass (typed_of raw).units = λ r p a f. of.passes r p a (in_program names types (in_units f)) in
    let kept = typed_keeps raw.items raw.bytes of.well_formed names types in
    let one : TicksEndAlike (typed_of raw).structs (typed_of raw).units (typed_of raw).entry =
    typed_alike inside tells orderly independent alike (typed_of raw).structs (typed_of raw).units (typed_of raw).entry kept units in
    subst (λ structs. TicksEndAlike structs program.units program.entry) (sym of.is.structs)
    (subst (λ units. TicksEndAlike (typed_of raw).structs units program.entry) (sym of.is.units)
    (subst (λ entry. TicksEndAlike (typed_of raw).structs (typed_of raw).units entry) (sym of.is.entry) one))

pub texts_confluent : ProgramsAreConfluent → ((text : List ℕ) (program : Program) → HasProgram text program → IsOfTree program) → TextsAreConfluent
texts_confluent confluent of_trees text program has = confluent program (of_trees text program has)
