-- Ways that control edges alone make.
use Rattle.std.proofs.Common.{◌≡◌, ℕ, Bool, true, false, not, ◌&&◌, List, [], ◌∷◌, ◌++◌, cond, length, refl, sym, ap, subst, ◌∙◌}
use Rattle.std.specs.Prelude.{Contains, nat_lt, replicate}
use Rattle.std.specs.List.{list_all}
use Rattle.std.proofs.lemmas.Bool.{and_from, and_parts}
use Rattle.bl_tree.proofs.Basics.{contains_first, contains_further}
use Rattle.bl_tree.specs.declared.graph.Edge.{Edge}
use Rattle.bl_tree.specs.declared.graph.Node.{Node}
use Rattle.bl_tree.specs.Graph.{JoinsNodes}
use Rattle.bl_graph.specs.declared.accesses.Access.{Access}
use Rattle.bl_graph.specs.Accesses.{flows}
use Rattle.bl_graph.proofs.AccessLemmas.{flows_by_data}
use Rattle.bl_block.specs.declared.ways.Way.{Way}
use Rattle.bl_block.specs.declared.ways.Way.TheVariants.{Nowhere}
use Rattle.bl_block.specs.declared.ways.Ways.{Ways}
use Rattle.bl_block.specs.inner.Ways.{goes_straight, is_join, leads_on, noted, noted_all, noted_back, noted_on, ways_of}

module _ (test : Edge → Bool) (at other : Edge → ℕ) where
  noted-append : (xs ys : List Edge) (ways : List Way) →
      noted_all test at other (xs ++ ys) ways ≡ noted_all test at other ys (noted_all test at other xs ways)
  noted-append [] ys ways = refl
  noted-append (x ∷ xs) ys ways = noted-append xs ys (cond (test x) (noted ways (at x) (other x)) ways)

  none_noted : (ys : List Edge) (ways : List Way) → ((edge : Edge) → Contains ys edge → test edge ≡ false) → noted_all test at other ys ways ≡ ways
  none_noted [] ways none = refl
  none_noted (y ∷ ys) ways none =
      ap (λ t. noted_all test at other ys (cond t (noted ways (at y) (other y)) ways)) (none y (contains_first y ys))
      ∙ none_noted ys ways (λ edge there. none edge (contains_further y ys edge there))

-- data edges make no ways
pub control_ways : (nodes : List Node) (control edges : List Edge) (accesses : List Access) → control ++ flows accesses ≡ edges → (on from : List Way) →
    on ≡ noted_on nodes control (replicate (length nodes) Nowhere) → from ≡ noted_back control (replicate (length nodes) Nowhere) →
    (ways : Ways) → ways ≡ record { on = on; from = from } → ways ≡ ways_of nodes edges
control_ways nodes control edges accesses is on from on_is from_is ways made =
    let start = replicate (length nodes) Nowhere in
    let kinds : (edge : Edge) → Contains (flows accesses) edge → edge.by_data ≡ true = flows_by_data accesses in
    let on_all : noted_on nodes edges start ≡ on =
    ap (λ es. noted_on nodes es start) (sym is)
    ∙ noted-append (leads_on nodes) (λ edge. edge.from) (λ edge. edge.to) control (flows accesses) start
    ∙ none_noted (leads_on nodes) (λ edge. edge.from) (λ edge. edge.to) (flows accesses) (noted_on nodes control start)
    (λ edge there. ap (λ t. not t && goes_straight nodes edge.from && not (is_join nodes edge.to)) (kinds edge there)) ∙ sym on_is in
    let from_all : noted_back edges start ≡ from =
    ap (λ es. noted_back es start) (sym is)
    ∙ noted-append (λ edge. not edge.by_data) (λ edge. edge.to) (λ edge. edge.from) control (flows accesses) start
    ∙ none_noted (λ edge. not edge.by_data) (λ edge. edge.to) (λ edge. edge.from) (flows accesses) (noted_back control start)
    (λ edge there. ap not (kinds edge there)) ∙ sym from_is in
    made ∙ (λ i. record { on = sym on_all i; from = sym from_all i })

front_all : {A : Type 0} (test : A → Bool) (xs ys : List A) → list_all test (xs ++ ys) ≡ true → list_all test xs ≡ true
front_all test [] ys all = refl
front_all test (x ∷ xs) ys all =
    let both = and_parts (test x) (list_all test (xs ++ ys)) all in and_from (test x) (list_all test xs) both.0 (front_all test xs ys both.1)

-- the control edges join nodes too
pub control_joins : (nodes view : List Node) (control edges : List Edge) (accesses : List Access) → control ++ flows accesses ≡ edges → view ≡ nodes →
    JoinsNodes nodes edges → JoinsNodes view control
control_joins nodes view control edges accesses is same joins =
    subst (λ ns. JoinsNodes ns control) (sym same) (record {
      ends = front_all (λ edge. nat_lt edge.from (length nodes) && nat_lt edge.to (length nodes)) control (flows accesses)
          (subst (λ es. list_all (λ edge. nat_lt edge.from (length nodes) && nat_lt edge.to (length nodes)) es ≡ true) (sym is) joins.ends);
    })
