-- Lists by numbers are as lists of nodes where the numbers name the nodes.
use Rattle.std.proofs.Common.{◌≡◌, ℕ, ◌+◌, Bool, true, false, cond, ◌&&◌, ◌||◌, ⊎_elim, List, [], ◌∷◌, ◌++◌, map, length, Some, refl, ap, sym}
use Rattle.std.proofs.Common.{◌∙◌, subst, arith, append_assoc, append-nil}
use Rattle.std.specs.Prelude.{Contains}
use Rattle.std.proofs.lemmas.List.Elements.{Contains-append_left, Contains-append_right, Contains-append_cases}
use Rattle.bl_tree.proofs.Basics.{and_false, contains_first, contains_further, contains_none, first_or_further}
use Rattle.bl_tree.specs.declared.graph.Edge.{Edge}
use Rattle.bl_graph_nodes.specs.Nodes.{Node, where_so}
use Rattle.bl_graph_nodes.specs.Plain.{Block, Done, Then, is_empty}
use Rattle.bl_graph.specs.declared.part.Out.{Out}
use Rattle.bl_graph.specs.Graph.{edge_between}
use Rattle.bl_graph.specs.Listed.{Pair, depth_to, each_to, each_to_all, entry_of, from_to, pair, surface_to}
use Rattle.bl_graph.specs.Marks.{Mark, Marked, either, inner, leaves, leaving, marked, moved, some_of, unreached, where_marked}
use Rattle.bl_graph.specs.inner.Made.{Adds, HasEdge, HasPair, IsEdge, IsNode, IsOut, Names, NamesEntry, Naming, Pairwise, flow_of}
use Rattle.bl_graph.specs.inner.Parts.{depth_links, into_block, leave_mark, link_if, links_all, links_each, links_from, moved_flow, moved_out, number_if}
use Rattle.bl_graph.specs.inner.Parts.{numbered, out_if, some_mark, surface_links}
use Rattle.bl_graph.proofs.Marking.{names}

-- ---- what a list has

-- ---- pairs

pub pairs_append : {A B : Type 0} (R : A → B → Type 0) (xs : List A) (ys : List B) (us : List A) (vs : List B) → Pairwise R xs ys → Pairwise R us vs
    → Pairwise R (xs ++ us) (ys ++ vs)
pairs_append R [] [] us vs one other = other
pairs_append R [] (y ∷ ys) us vs one other = absurd one
pairs_append R (x ∷ xs) [] us vs one other = absurd one
pairs_append R (x ∷ xs) (y ∷ ys) us vs one other = (one.0, pairs_append R xs ys us vs one.1 other)

pub record Right {A B : Type 0} (R : A → B → Type 0) (ys : List B) (x : A) : Type 0 where
  pub element : B
  pub is_there : Contains ys element
  pub related : R x element

pub record Left {A B : Type 0} (R : A → B → Type 0) (xs : List A) (y : B) : Type 0 where
  pub element : A
  pub is_there : Contains xs element
  pub related : R element y

pub right_of : {A B : Type 0} (R : A → B → Type 0) (xs : List A) (ys : List B) (z : A) → Pairwise R xs ys → Contains xs z → Right R ys z
right_of R [] ys z all there = absurd (contains_none z there)
right_of R (x ∷ xs) [] z all there = absurd all
right_of R (x ∷ xs) (y ∷ ys) z all there =
    ⊎_elim
    (λ is. subst (Right R (y ∷ ys)) is (record { element = y; is_there = contains_first y ys; related = all.0 }))
    (λ later. let more = right_of R xs ys z all.1 later in record {
      element = more.element;
      is_there = contains_further y ys more.element more.is_there;
      related = more.related;
    })
    (first_or_further x xs z there)

pub left_of : {A B : Type 0} (R : A → B → Type 0) (xs : List A) (ys : List B) (z : B) → Pairwise R xs ys → Contains ys z → Left R xs z
left_of R [] [] z all there = absurd (contains_none z there)
left_of R (x ∷ xs) [] z all there = absurd all
left_of R [] (y ∷ ys) z all there = absurd all
left_of R (x ∷ xs) (y ∷ ys) z all there =
    ⊎_elim
    (λ is. subst (Left R (x ∷ xs)) is (record { element = x; is_there = contains_first x xs; related = all.0 }))
    (λ later. let more = left_of R xs ys z all.1 later in record {
      element = more.element;
      is_there = contains_further x xs more.element more.is_there;
      related = more.related;
    })
    (first_or_further y ys z there)

-- ---- names

pub names_front : (naming : Naming) (n : ℕ) (xs ys : List Node) → Names naming n (xs ++ ys) → Names naming n xs
names_front naming n [] ys all = tt
names_front naming n (x ∷ xs) ys all = (all.0, names_front naming (n + 1) xs ys all.1)

pub names_back : (naming : Naming) (n k : ℕ) (xs ys : List Node) → k ≡ n + length xs → Names naming n (xs ++ ys) → Names naming k ys
names_back naming n k [] ys is all = let same : n ≡ k = omega arith in subst (λ k. Names naming k ys) same all
names_back naming n k (x ∷ xs) ys is all = names_back naming (n + 1) k xs ys (omega arith) all.1

-- ---- edges that were added

module _ (kind : Bool) (naming : Naming) where
  pub adds_none : (es : List Edge) → Adds kind naming [] es es
  adds_none es = record {
    added = [];
    grows = sym (append-nil es);
    there = λ edge there. absurd (contains_none edge there);
    back = λ p there. absurd (contains_none p there);
  }

  pair_left : (ps qs : List Pair) (edge : Edge) → HasPair kind naming ps edge → HasPair kind naming (ps ++ qs) edge
  pair_left ps qs edge has = record { pair = has.pair; is_there = Contains-append_left ps qs has.pair has.is_there; leads = has.leads }

  pair_right : (ps qs : List Pair) (edge : Edge) → HasPair kind naming qs edge → HasPair kind naming (ps ++ qs) edge
  pair_right ps qs edge has = record { pair = has.pair; is_there = Contains-append_right ps qs has.pair has.is_there; leads = has.leads }

  edge_left : (es fs : List Edge) (p : Pair) → HasEdge kind naming es p → HasEdge kind naming (es ++ fs) p
  edge_left es fs p has = record { edge = has.edge; is_there = Contains-append_left es fs has.edge has.is_there; leads = has.leads }

  edge_right : (es fs : List Edge) (p : Pair) → HasEdge kind naming fs p → HasEdge kind naming (es ++ fs) p
  edge_right es fs p has = record { edge = has.edge; is_there = Contains-append_right es fs has.edge has.is_there; leads = has.leads }

  pub adds_then : (ps qs : List Pair) (a b c : List Edge) → Adds kind naming ps a b → Adds kind naming qs b c → Adds kind naming (ps ++ qs) a c
  adds_then ps qs a b c one other = record {
    added = one.added ++ other.added;
    grows = other.grows ∙ ap (λ es. es ++ other.added) one.grows ∙ append_assoc a one.added other.added;
    there = λ edge there. ⊎_elim
        (λ t. pair_left ps qs edge (one.there edge t))
        (λ t. pair_right ps qs edge (other.there edge t))
        (Contains-append_cases one.added other.added edge there);
    back = λ p there. ⊎_elim
        (λ t. edge_left one.added other.added p (one.back p t))
        (λ t. edge_right one.added other.added p (other.back p t))
        (Contains-append_cases ps qs p there);
  }

  -- the same pairs in another order
  pub adds_same : (ps qs : List Pair) (a b : List Edge) → ((p : Pair) → Contains ps p → Contains qs p) → ((p : Pair) → Contains qs p
      → Contains ps p)
      → Adds kind naming ps a b → Adds kind naming qs a b
  adds_same ps qs a b into from adds = record {
    added = adds.added;
    grows = adds.grows;
    there = λ edge there. let has = adds.there edge there in record { pair = has.pair; is_there = into has.pair has.is_there; leads = has.leads };
    back = λ p there. adds.back p (from p there);
  }

  pub adds_listed : (ps : List Pair) (es a b : List Edge) → Pairwise (IsEdge kind naming) es ps → b ≡ a ++ es → Adds kind naming ps a b
  adds_listed ps es a b all grows = record {
    added = es;
    grows = grows;
    there = λ edge there. let found = right_of (IsEdge kind naming) es ps edge all there in record {
      pair = found.element;
      is_there = found.is_there;
      leads = found.related;
    };
    back = λ p there. let found = left_of (IsEdge kind naming) es ps p all there in record {
      edge = found.element;
      is_there = found.is_there;
      leads = found.related;
    };
  }

-- ---- control edges

module _ (naming : Naming) where
  pub one_edge : (i j : ℕ) (n m : Node) → naming i ≡ Some n → naming j ≡ Some m → IsEdge false naming (edge_between i j false) (pair n m)
  one_edge i j n m first second = record { first = first; second = second; of_kind = refl }

  pub from_pairs : (i : ℕ) (n : Node) (ks : List ℕ) (ms : List Node) → naming i ≡ Some n → Pairwise (IsNode naming) ks ms
      → Pairwise (IsEdge false naming) (links_from i ks) (from_to n ms)
  from_pairs i n [] [] is all = tt
  from_pairs i n [] (m ∷ ms) is all = absurd all
  from_pairs i n (k ∷ ks) [] is all = absurd all
  from_pairs i n (k ∷ ks) (m ∷ ms) is all = (one_edge i k n m is all.0, from_pairs i n ks ms is all.1)

  pub each_pairs : (outs : List Out) (ms : List Marked) (j : ℕ) (m : Node) → Pairwise (IsOut naming) outs ms → naming j ≡ Some m
      → Pairwise (IsEdge false naming) (links_each outs j) (each_to ms m)
  each_pairs [] [] j m all is = tt
  each_pairs [] (x ∷ ms) j m all is = absurd all
  each_pairs (o ∷ outs) [] j m all is = absurd all
  each_pairs (o ∷ outs) (x ∷ ms) j m all is = (one_edge o.node j x.node m all.0.names is, each_pairs outs ms j m all.1 is)

  pub all_pairs : (outs : List Out) (ms : List Marked) (ks : List ℕ) (ns : List Node) → Pairwise (IsOut naming) outs ms → Pairwise (IsNode naming) ks ns
      → Pairwise (IsEdge false naming) (links_all outs ks) (each_to_all ms ns)
  all_pairs outs ms [] [] all to = tt
  all_pairs outs ms [] (n ∷ ns) all to = absurd to
  all_pairs outs ms (k ∷ ks) [] all to = absurd to
  all_pairs outs ms (k ∷ ks) (n ∷ ns) all to =
      pairs_append (IsEdge false naming) _ _ _ _ (each_pairs outs ms k n all to.0) (all_pairs outs ms ks ns all to.1)

  if_pair : (a b : Bool) (i j : ℕ) (n m : Node) → a ≡ b → naming i ≡ Some n → naming j ≡ Some m
      → Pairwise (IsEdge false naming) (link_if a i j) (cond b (pair n m ∷ []) [])
  if_pair true true i j n m is first second = (one_edge i j n m first second, tt)
  if_pair false false i j n m is first second = tt
  if_pair true false i j n m is first second = cc
  if_pair false true i j n m is first second = cc

  pub surface_pairs : (outs : List Out) (ms : List Marked) (j : ℕ) (m : Node) → Pairwise (IsOut naming) outs ms → naming j ≡ Some m
      → Pairwise (IsEdge false naming) (surface_links outs j) (surface_to ms m)
  surface_pairs [] [] j m all is = tt
  surface_pairs [] (x ∷ ms) j m all is = absurd all
  surface_pairs (o ∷ outs) [] j m all is = absurd all
  surface_pairs (o ∷ outs) (x ∷ ms) j m all is =
      pairs_append (IsEdge false naming) _ _ _ _
      (if_pair o.mark.surface x.mark.surface o.node j x.node m (ap (λ mark. mark.surface) all.0.mark) all.0.names is)
      (surface_pairs outs ms j m all.1 is)

  pub depth_pairs : (outs : List Out) (ms : List Marked) (j : ℕ) (m : Node) → Pairwise (IsOut naming) outs ms → naming j ≡ Some m
      → Pairwise (IsEdge false naming) (depth_links outs j) (depth_to ms m)
  depth_pairs [] [] j m all is = tt
  depth_pairs [] (x ∷ ms) j m all is = absurd all
  depth_pairs (o ∷ outs) [] j m all is = absurd all
  depth_pairs (o ∷ outs) (x ∷ ms) j m all is =
      pairs_append (IsEdge false naming) _ _ _ _
      (if_pair o.mark.depth x.mark.depth o.node j x.node m (ap (λ mark. mark.depth) all.0.mark) all.0.names is)
      (depth_pairs outs ms j m all.1 is)

  -- ---- nodes

  pub number_pairs : (test : Bool) (k : ℕ) (n : Node) → (test ≡ true → naming k ≡ Some n)
      → Pairwise (IsNode naming) (number_if test k) (where_so test n)
  number_pairs true k n is = (is refl, tt)
  number_pairs false k n is = tt

  pub out_pairs : (test : Bool) (k : ℕ) (mark : Mark) (n : Node) → (test ≡ true → naming k ≡ Some n)
      → Pairwise (IsOut naming) (out_if test k mark) (where_marked test (marked mark n))
  out_pairs true k mark n is = (record { names = is refl; mark = refl }, tt)
  out_pairs false k mark n is = tt

  pub into_pairs : (body : Block) (empty : Bool) (n : ℕ) (ks : List ℕ) (ns : List Node) → empty ≡ is_empty body → NamesEntry naming n body
      → Pairwise (IsNode naming) ks ns
      → Pairwise (IsNode naming) (into_block empty n ks) (entry_of body ns)
  into_pairs Done true n ks ns is leads all = all
  into_pairs Done false n ks ns is leads all = cc
  into_pairs (Then s rest) false n ks ns is leads all = (leads, tt)
  into_pairs (Then s rest) true n ks ns is leads all = cc

  -- ---- marks

  pub some_same : (outs : List Out) (ms : List Marked) → Pairwise (IsOut naming) outs ms → some_mark outs ≡ some_of ms
  some_same [] [] all = refl
  some_same [] (m ∷ ms) all = absurd all
  some_same (o ∷ outs) [] all = absurd all
  some_same (o ∷ outs) (m ∷ ms) all = λ i. either (all.0.mark i) (some_same outs ms all.1 i)

  pub leave_same : (outs : List Out) (ms : List Marked) → Pairwise (IsOut naming) outs ms → leave_mark outs ≡ leaves ms
  leave_same [] [] all = refl
  leave_same [] (m ∷ ms) all = absurd all
  leave_same (o ∷ outs) [] all = absurd all
  leave_same (o ∷ outs) (m ∷ ms) all = λ i. either (leaving (all.0.mark i)) (leave_same outs ms all.1 i)

  pub moved_pairs : (e : Mark) (outs : List Out) (ms : List Marked) → Pairwise (IsOut naming) outs ms
      → Pairwise (IsOut naming) (map (moved_out e) outs) (moved e ms)
  moved_pairs e [] [] all = tt
  moved_pairs e [] (m ∷ ms) all = absurd all
  moved_pairs e (o ∷ outs) [] all = absurd all
  moved_pairs e (o ∷ outs) (m ∷ ms) all =
      (record { names = all.0.names; mark = ap (inner e) all.0.mark }, moved_pairs e outs ms all.1)

  pub numbered_pairs : (n : ℕ) (ms : List Marked) → Names naming n (names ms) → Pairwise (IsOut naming) (numbered n (map flow_of ms)) ms
  numbered_pairs n [] all = tt
  numbered_pairs n (m ∷ ms) all = (record { names = all.0; mark = refl }, numbered_pairs (n + 1) ms all.1)

pub moved_flows : (e : Mark) (ms : List Marked) → map (moved_flow e) (map flow_of ms) ≡ map flow_of (moved e ms)
moved_flows e [] = refl
moved_flows e (m ∷ ms) = λ i. moved_flow e (flow_of m) ∷ moved_flows e ms i

-- ---- moving marks

bools : (e a b : Bool) → (e && (a || b)) ≡ ((e && a) || (e && b))
bools true a b = refl
bools false a b = refl

depths : (e a b c d : Bool) → ((c || d) || (e && (a || b))) ≡ ((c || (e && a)) || (d || (e && b)))
depths true true b true d = refl
depths true true b false true = refl
depths true true true false false = refl
depths true true false false false = refl
depths true false true true d = refl
depths true false true false true = refl
depths true false true false false = refl
depths true false false true d = refl
depths true false false false true = refl
depths true false false false false = refl
depths false a b true d = refl
depths false a b false true = refl
depths false a b false false = refl

pub inner_either : (e a b : Mark) → inner e (either a b) ≡ either (inner e a) (inner e b)
inner_either e a b = λ i. record { surface = bools e.surface a.surface b.surface i; depth = depths e.depth a.surface b.surface a.depth b.depth i }

pub inner_unreached : (e : Mark) → inner e unreached ≡ unreached
inner_unreached e = λ i. record { surface = and_false e.surface i; depth = and_false e.depth i }

pub some_moved : (e : Mark) (ms : List Marked) → some_of (moved e ms) ≡ inner e (some_of ms)
some_moved e [] = sym (inner_unreached e)
some_moved e (m ∷ ms) = ap (either (inner e m.mark)) (some_moved e ms) ∙ sym (inner_either e m.mark (some_of ms))
