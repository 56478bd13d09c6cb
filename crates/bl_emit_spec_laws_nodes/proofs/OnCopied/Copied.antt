-- The laws of a whole program.
use Rattle.std.proofs.Common.{◌≡◌, ◌⊎◌, ⊎_elim, ℕ, zero, suc, ◌<◌, arith, Bool, true, false, ◌&&◌, ◌||◌}
use Rattle.std.proofs.Common.{List, [], ◌∷◌, ◌++◌, Contains, map, take, length, Some, refl, ap, ◌∙◌, subst}
use Rattle.std.proofs.lemmas.Bool.{eq-eqb}
use Rattle.std.proofs.lemmas.Option.{same_Some}
use Rattle.std.specs.List.{list_all, list_any}
use Rattle.std.specs.Prelude.{is_some, nat_eq, slice_get, slice_index_or, unwrap_or}
use Rattle.std.proofs.lemmas.Bool.{and_from, or_left, or_right}
use Rattle.bl_tree.proofs.Basics.{and_first, and_second}
use Rattle.bl_tree.specs.declared.place.Place.{Place}
use Rattle.bl_tree.specs.declared.tree.StructDef.{StructDef}
use Rattle.bl_tree.specs.declared.tree.Unit.{Unit as UnitDef}
use Rattle.bl_tree.specs.Program.{IsWellTyped}
use Rattle.bl_tree.specs.Reduce.{all_of}
use Rattle.bl_tree.specs.Typing.{TypingContext, site_of}
use Rattle.bl_machine.specs.Blocks.{up_to}
use Rattle.bl_graph_nodes.specs.Nodes.{Arguments, EnterAt, Node, nodes_in}
use Rattle.bl_graph_nodes.specs.Plain.{Label, plain_body}
use Rattle.bl_machine_prevs.specs.Prevs.{prevs_of}
use Rattle.bl_emit_acts.specs.Acts.{is_copied}
use Rattle.bl_emit_acts_laws_simulation.specs.Encodes.{copied_in, copied_in_path}
use Rattle.bl_emit_spec.specs.Activities.{copies_of}
use Rattle.bl_emit_spec_laws_nodes.specs.Points.Nodes.{copied_there}
use Rattle.bl_emit_spec_laws_nodes.specs.Copied.{NodesCopied, RunsCopied}
use Rattle.bl_emit_spec_laws_nodes.proofs.OnCopied.Expressions.{Related}
use Rattle.bl_emit_spec_laws_nodes.proofs.OnCopied.Statements.{body_copied, is_fine, run_copied, run_there}
use Rattle.bl_eval.proofs.UnitFits.{unit_at}
use Rattle.bl_emit_spec_laws.proofs.OnOwn.Counting.{get_up_to}
use Rattle.bl_machine_laws.proofs.OnRests.Whole.{body_fits}

-- ---- units

-- ---- copies

-- whether the number is one of these
abbrev among : List ℕ → ℕ → Bool
among ks k = list_any (nat_eq k) ks

more_among : (ks before : List ℕ) → ((k : ℕ) → among ks k ≡ true → among before k ≡ true) → list_all (among before) ks ≡ true
more_among [] before all = refl
more_among (k ∷ ks) before all =
    and_from (among before k) (list_all (among before) ks) (all k (or_left (nat_eq k k) (among ks k) (eq-eqb k k refl)))
    (more_among ks before (λ j is. all j (or_right (nat_eq j k) (among ks j) is)))

all_among : (ks : List ℕ) → list_all (among ks) ks ≡ true
all_among ks = more_among ks ks (λ k is. is)

pub get_mapped : (f : ℕ → Bool) (xs : List ℕ) (k x : ℕ) → slice_get xs k ≡ Some x → slice_get (map f xs) k ≡ Some (f x)
get_mapped f [] k x is = absurd (cc)
get_mapped f (y ∷ xs) zero x is = ap (λ z. Some (f z)) (same_Some y x is)
get_mapped f (y ∷ xs) (suc k) x is = get_mapped f xs k x is

there_below : {A : Type 0} (xs : List A) (k : ℕ) → is_some (slice_get xs k) ≡ true → k < length xs
there_below [] k is = absurd (cc)
there_below (x ∷ xs) zero is = omega arith
there_below (x ∷ xs) (suc k) is = let less : k < length xs = there_below xs k is in omega (arith, less)

-- each variable that its unit's body names under a `prev` is copied
named_copied : (site : TypingContext) (unit : UnitDef) → site.vars ≡ unit.vars → Related site (among (prevs_of unit)) (is_copied (copies_of unit))
named_copied site unit same k there named =
    let below = there_below unit.vars k (subst (λ vars. is_some (slice_get vars k) ≡ true) same there) in
    let at = get_mapped (λ k. among (prevs_of unit) k) (up_to (length unit.vars)) k k (get_up_to (length unit.vars) k below) in
    ap (λ found. unwrap_or found false) at ∙ named

-- ---- nodes

all_at : (test : Node → Bool) (nodes : List Node) (position : ℕ) (n : Node) → list_all test nodes ≡ true → slice_get nodes position ≡ Some n →
    test n ≡ true
all_at test [] position n all there = absurd (cc)
all_at test (first ∷ nodes) zero n all there =
    subst (λ n. test n ≡ true) (same_Some first n there) (and_first (test first) (list_all test nodes) all)
all_at test (first ∷ nodes) (suc position) n all there =
    all_at test nodes position n (and_second (test first) (list_all test nodes) all) there

get_there : {A : Type 0} (xs : List A) (k : ℕ) (x : A) → k < length xs → slice_index_or xs k x ≡ x → slice_get xs k ≡ Some x
get_there [] k x below is = absurd (omega (arith, below))
get_there (y ∷ xs) zero x below is = ap Some is
get_there (y ∷ xs) (suc k) x below is = get_there xs k x (omega (arith, below)) is

all_fine : (structs : List StructDef) (units : List UnitDef) (entry k : ℕ) (unit : UnitDef) → IsWellTyped structs units entry →
    slice_get units k ≡ Some unit → list_all (is_fine (is_copied (copies_of unit))) (nodes_in (plain_body unit.body)) ≡ true
all_fine structs units entry k unit keeps there =
    let site : TypingContext = site_of structs (take k units) unit in
    body_copied site (among (prevs_of unit)) (is_copied (copies_of unit)) (named_copied site unit refl) unit.body
    (body_fits structs (take k units) unit (unit_at structs [] units k unit keeps.units_stand there)) (all_among (prevs_of unit))

pub nodes_copied : NodesCopied
nodes_copied structs units entry k position unit n keeps there node =
    let copied = is_copied (copies_of unit) in
    and_first (copied_there copied n) (run_there copied n)
    (all_at (is_fine copied) (nodes_in (plain_body unit.body)) position n (all_fine structs units entry k unit keeps there) node)

-- ---- runs

runs_there : (structs : List StructDef) (units : List UnitDef) (entry k : ℕ) (unit : UnitDef) (l : Label) (at : Place) (arguments : Arguments) →
    IsWellTyped structs units entry → slice_get units k ≡ Some unit → Contains (nodes_in (plain_body unit.body)) (EnterAt l at arguments) →
    run_copied (is_copied (copies_of unit)) arguments ≡ true
runs_there structs units entry k unit l at arguments keeps there node =
    let copied = is_copied (copies_of unit) in
    and_second (copied_there copied (EnterAt l at arguments)) (run_there copied (EnterAt l at arguments))
    (all_at (is_fine copied) (nodes_in (plain_body unit.body)) node.0 (EnterAt l at arguments)
    (all_fine structs units entry k unit keeps there)
    (get_there (nodes_in (plain_body unit.body)) node.0 (EnterAt l at arguments) node.1 node.2))

pub runs_copied : RunsCopied
runs_copied structs units entry keeps = record {
  inputs = λ k unit l at arguments there node.
      let copied = is_copied (copies_of unit) in
      and_first (all_of (map (copied_in copied) arguments.inputs)) (all_of (map (copied_in_path copied) arguments.outputs))
      (runs_there structs units entry k unit l at arguments keeps there node);
  outputs = λ k unit l at arguments there node.
      let copied = is_copied (copies_of unit) in
      and_second (all_of (map (copied_in copied) arguments.inputs)) (all_of (map (copied_in_path copied) arguments.outputs))
      (runs_there structs units entry k unit l at arguments keeps there node);
}
