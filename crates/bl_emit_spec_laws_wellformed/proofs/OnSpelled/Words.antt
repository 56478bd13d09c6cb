-- The words of nodes have letters, digits and `_` alone.
use Rattle.std.proofs.Common.{◌≡◌, ℕ, Bool, true, false, List, [], ◌∷◌, map, Option, Some, None, refl, ap, ◌∙◌}
use Rattle.std.proofs.lemmas.Option.{slice_get-map}
use Rattle.std.specs.List.{list_all}
use Rattle.std.specs.Prelude.{nat_eq, option_map, slice_get, if◌then◌else◌}
use Rattle.bl_tree.specs.declared.text.Text.{Text}
use Rattle.bl_tree.specs.declared.tree.Stmt.{out-Stmt}
use Rattle.bl_tree.specs.declared.tree.StmtKind.{out-StmtKind}
use Rattle.bl_tree.specs.declared.tree.StmtKind.TheOpen.{StmtKind-F}
use Rattle.bl_tree.specs.declared.tree.Unit.{Unit as UnitDef}
use Rattle.bl_tree.specs.declared.tree.Var.{Var}
use Rattle.bl_tree.specs.Program.{names_of}
use Rattle.bl_tree.specs.Reduce.{all_of}
use Rattle.bl_tree.specs.Typing.{TypingContext}
use Rattle.bl_tree.specs.Words as words
use Rattle.bl_eval.proofs.PassLemmas.{all_at}
use Rattle.bl_ctext.specs.Token.{is_word_byte}
use Rattle.bl_graph_nodes.specs.Nodes.{ActAt, EnterAt, Node, ResumeAt}
use Rattle.bl_machine_pass.specs.Transitions.{Transition}
use Rattle.bl_emit_acts.specs.Types.{source_name}
use Rattle.bl_emit_acts_laws_wellformed.proofs.OnSpelled.Names.{name_bytes}
use Rattle.bl_emit_spec.specs.Blocks.{name_in}
use Rattle.bl_emit_spec.specs.Words.{layer_word, word_in, word_of_node}

module _ (site : TypingContext) (named : (f : ℕ) (callee : UnitDef) → slice_get site.earlier f ≡ Some callee → words.is_name callee.name ≡ true)
    (vars_named : list_all words.is_name (names_of site.vars) ≡ true) where
  -- a text has letters, digits and `_` alone
  abbrev IsWord : Text → Type 0
  IsWord text = all_of (map is_word_byte text) ≡ true

  unit_is : (o : Option UnitDef) (f : ℕ) → slice_get site.earlier f ≡ o → IsWord (name_in o)
  unit_is None f is = refl
  unit_is (Some callee) f is = name_bytes callee.name (named f callee is)

  var_is : (o : Option Var) (k : ℕ) → slice_get site.vars k ≡ o → IsWord (source_name o)
  var_is None k is = refl
  var_is (Some var) k is =
      name_bytes var.name
      (all_at words.is_name (names_of site.vars) k var.name vars_named
      (slice_get-map (λ (v : Var). v.name) site.vars k ∙ ap (option_map (λ (v : Var). v.name)) is))

  layer_is : {A B C D : Type 0} (kind : StmtKind-F A B C D) → IsWord (layer_word site kind)
  layer_is (StmtKind-F.Declare k initial) = var_is (slice_get site.vars k) k refl
  layer_is (StmtKind-F.Assign path e) = var_is (slice_get site.vars path.root) path.root refl
  layer_is (StmtKind-F.Call f inputs outputs) = unit_is (slice_get site.earlier f) f refl
  layer_is (StmtKind-F.Return e) = refl
  layer_is _ = refl

  node_is : (a : ℕ) (n : Node) → IsWord (word_of_node site a n)
  node_is a (ActAt l s) = layer_is (out-StmtKind (out-Stmt s).what)
  node_is a (EnterAt l at arguments) = unit_is (slice_get site.earlier a) a refl
  node_is a (ResumeAt l at arguments) = unit_is (slice_get site.earlier a) a refl
  node_is a _ = refl

  pub number-word : (number : Node → ℕ) (callees : List ℕ) (rules : List Transition) (k : ℕ) → IsWord (word_in site number callees rules k)
  number-word number [] rules k = refl
  number-word number (a ∷ callees) [] k = refl
  number-word number (a ∷ callees) (rule ∷ rules) k = by (nat_eq (number rule.node) k) (number-word number callees rules k)
    where
      by : (b : Bool) → IsWord (word_in site number callees rules k) →
          IsWord (if b then word_of_node site a rule.node else word_in site number callees rules k)
      by true rest = node_is a rule.node
      by false rest = rest
