-- The laws of a whole program.
use Rattle.std.proofs.Common.{◌≡◌, ℕ, zero, suc, ◌<◌, arith, true, not, ◌&&◌, List}
use Rattle.std.proofs.Common.{[], ◌∷◌, ◌++◌, Contains, map, take}
use Rattle.std.proofs.Common.{Some, refl, sym, subst}
use Rattle.std.proofs.lemmas.Option.{same_Some}
use Rattle.std.specs.List.{list_all}
use Rattle.std.specs.Prelude.{slice_get}
use Rattle.bl_tree.proofs.Basics.{and_first, and_second, contains_at}
use Rattle.bl_tree.specs.declared.tree.Stmt.{out-Stmt}
use Rattle.bl_tree.specs.declared.tree.StmtKind.{out-StmtKind}
use Rattle.bl_tree.specs.declared.tree.StructDef.{StructDef}
use Rattle.bl_tree.specs.declared.tree.Unit.{Unit as UnitDef}
use Rattle.bl_tree.specs.Program.{IsWellTyped}
use Rattle.bl_tree.specs.Reduce.{joined}
use Rattle.bl_tree.specs.Typing.{TypingContext, is_inhabited, site_of}
use Rattle.bl_tree.specs.declared.rule.Rule.TheVariants as rule
use Rattle.bl_effects.specs.Rules.{Aliased, Passes, aliases_in}
use Rattle.bl_graph_nodes.specs.Nodes.{ActAt, Node, nodes_in}
use Rattle.bl_graph_nodes.specs.Plain.{plain_body}
use Rattle.bl_emit_acts_laws_simulation.specs.Laws.{overlaps_in}
use Rattle.bl_emit_spec_laws_nodes.specs.Points.Nodes.{fits_there}
use Rattle.bl_emit_spec_laws_nodes.specs.Fitting.{CallsApart, NodesFit}
use Rattle.bl_emit_spec_laws_nodes.proofs.OnFitting.Fitting.{apart_there, body_fine, is_fine}
use Rattle.bl_eval.proofs.UnitFits.{unit_at}
use Rattle.bl_machine_laws.proofs.OnRests.Whole.{body_fits}

-- ---- units

-- ---- rule Alias

pub none_overlap : (units : List UnitDef) (k : ℕ) (unit : UnitDef) → Passes units → slice_get units k ≡ Some unit →
    joined (map aliases_in unit.body) ≡ []
none_overlap units k unit passes there = by (joined (map aliases_in unit.body)) refl
  where
    by : (all : List Aliased) → joined (map aliases_in unit.body) ≡ all → all ≡ []
    by [] is = refl
    by (one ∷ rest) is =
        absurd (passes rule.Alias one.at (one.also ∷ [])
        (record {
          unit = unit;
          is_there = contains_at units k unit there;
          aliased = one;
          fails = subst (λ (all : List Aliased). Contains all one) (sym is) (0, omega arith, refl);
          at_one = refl;
          at_other = refl;
        }))

-- ---- nodes

all_at : (site : TypingContext) (nodes : List Node) (position : ℕ) (n : Node) → list_all (is_fine site) nodes ≡ true → slice_get nodes position ≡ Some n →
    is_fine site n ≡ true
all_at site [] position n all there = absurd (cc)
all_at site (first ∷ nodes) zero n all there =
    subst (λ n. is_fine site n ≡ true) (same_Some first n there) (and_first (is_fine site first) (list_all (is_fine site) nodes) all)
all_at site (first ∷ nodes) (suc position) n all there =
    all_at site nodes position n (and_second (is_fine site first) (list_all (is_fine site) nodes) all) there

node_fine : (structs : List StructDef) (units : List UnitDef) (entry k position : ℕ) (unit : UnitDef) (n : Node) → IsWellTyped structs units entry →
    Passes units → slice_get units k ≡ Some unit → slice_get (nodes_in (plain_body unit.body)) position ≡ Some n →
    is_fine (site_of structs (take k units) unit) n ≡ true
node_fine structs units entry k position unit n keeps passes there node =
    let site = site_of structs (take k units) unit in
    all_at site (nodes_in (plain_body unit.body)) position n
    (body_fine site unit.body (body_fits structs (take k units) unit (unit_at structs [] units k unit keeps.units_stand there))
    (none_overlap units k unit passes there)) node

pub nodes_fit : (structs : List StructDef) (units : List UnitDef) (entry : ℕ) → NodesFit structs units entry
nodes_fit structs units entry k position unit n keeps passes there node =
    let site = site_of structs (take k units) unit in
    and_first (fits_there site n) (apart_there n) (node_fine structs units entry k position unit n keeps passes there node)

nothing_there : {A : Type 0} (xs : List A) → not (is_inhabited xs) ≡ true → xs ≡ []
nothing_there [] h = refl
nothing_there (x ∷ xs) h = absurd (cc)

pub nodes_apart : (structs : List StructDef) (units : List UnitDef) (entry : ℕ) → CallsApart structs units entry
nodes_apart structs units entry keeps passes k position unit l s there node =
    let site = site_of structs (take k units) unit in
    nothing_there (overlaps_in (out-StmtKind (out-Stmt s).what))
    (and_second (fits_there site (ActAt l s)) (apart_there (ActAt l s))
    (node_fine structs units entry k position unit (ActAt l s) keeps passes there node))
