-- Numbers that are above those of all writers of each access rise along all data edges.
use Rattle.std.proofs.Common.{◌≡◌, ℕ, zero, suc, ◌+◌, ◌<◌, ◌≤◌, Bool, true, ◌&&◌, List, [], ◌∷◌, ◌++◌, ⊎_elim, max, length, take, get_or, Option, Some, None, sym, ap, subst, ◌∙◌, arith}
use Rattle.std.specs.Prelude.{slice_index}
use Rattle.std.proofs.lemmas.Bool.{and_parts}
use Rattle.std.proofs.lemmas.List.{take_more}
use Rattle.std.proofs.lemmas.List.Elements.{Contains-append_cases}
use Rattle.bl_tree.proofs.Basics.{at_most_from, contains_none, first_or_further}
use Rattle.bl_tree.specs.declared.graph.Edge.{Edge}
use Rattle.bl_graph.specs.declared.accesses.Access.{Access}
use Rattle.bl_graph.specs.declared.accesses.Access.TheVariants.{Read, Write}
use Rattle.bl_graph.specs.Accesses.{WritersAndEdges, flows, links, told, told_with, writers_at, writers_of}
use Rattle.bl_graph.specs.Graph.{edge_between}
use Rattle.bl_graph.proofs.AccessLemmas.{told-push}
use Rattle.bl_cause.specs.inner.Limits.{AreLimits, Below, IsLimit, Rise, is_above, limit_at, limit_with}
use Rattle.bl_cause.proofs.PairLemmas.{each_push}

-- ---- two lists of edges

pub rise_both : (xs ys : List Edge) (lows highs : List ℕ) → Rise xs lows highs → Rise ys lows highs → Rise (xs ++ ys) lows highs
rise_both xs ys lows highs one two edge there =
    ⊎_elim (λ left. one edge left) (λ right. two edge right) (Contains-append_cases xs ys edge there)

-- ---- nodes below

below_more : (lows xs : List ℕ) (node n : ℕ) → Below lows xs n → slice_index lows node < n → Below lows (xs ++ node ∷ []) n
below_more lows [] node n all last = (last, tt)
below_more lows (x ∷ xs) node n all last = (all.0, below_more lows xs node n all.1 last)

links_below : (lows highs nodes : List ℕ) (to : ℕ) → Below lows nodes (slice_index highs to) → Rise (links to nodes) lows highs
links_below lows highs [] to all edge there = absurd (contains_none edge there)
links_below lows highs (node ∷ nodes) to all edge there =
    ⊎_elim (λ (is : edge_between node to true ≡ edge). subst (λ (e : Edge). slice_index lows e.from < slice_index highs e.to) is all.0)
    (λ later. links_below lows highs nodes to all.1 edge later) (first_or_further (edge_between node to true) (links to nodes) edge there)

-- ---- limits

no_limit : (lows : List ℕ) → IsLimit lows [] 0
no_limit lows n le = tt

one_limit : (lows nodes : List ℕ) (limit node : ℕ) → IsLimit lows nodes limit → IsLimit lows (nodes ++ node ∷ []) (max limit (slice_index lows node + 1))
one_limit lows nodes limit node is n le =
    let both = parts limit (slice_index lows node) n le in below_more lows nodes node n (is n both.0) both.1
  where
    parts : (a b n : ℕ) → max a (b + 1) ≤ n → (a ≤ n) × (b < n)
    parts a b n le = (omega (arith, le), omega (arith, le))

limit_found : (lows : List ℕ) (writers : List (List ℕ)) (limits : List ℕ) → AreLimits lows writers limits → (position : Option ℕ) →
    IsLimit lows (writers_at writers position) (limit_at limits position)
limit_found lows writers limits are None = no_limit lows
limit_found lows [] [] are (Some k) = no_limit lows
limit_found lows [] (l ∷ limits) are (Some k) = absurd are
limit_found lows (w ∷ writers) [] are (Some k) = absurd are
limit_found lows (w ∷ writers) (l ∷ limits) are (Some zero) = are.0
limit_found lows (w ∷ writers) (l ∷ limits) are (Some (suc k)) = limit_found lows writers limits are.1 (Some k)

limits_with : (lows : List ℕ) (t : WritersAndEdges) (limits : List ℕ) (access : Access) → AreLimits lows t.writers limits →
    AreLimits lows (told_with t access).writers (limits ++ limit_with lows limits access ∷ [])
limits_with lows t limits (Write node before) are =
    each_push (IsLimit lows) t.writers limits (writers_at t.writers before ++ node ∷ []) (max (limit_at limits before) (slice_index lows node + 1)) are
    (one_limit lows (writers_at t.writers before) (limit_at limits before) node (limit_found lows t.writers limits are before))
limits_with lows t limits (Read node from) are = each_push (IsLimit lows) t.writers limits [] 0 are (no_limit lows)

-- the limits so far, and whether the numbers rise so far
pub record Rising (accesses : List Access) (lows highs limits : List ℕ) (so_far : Bool) : Type 0 where
  pub are_limits : AreLimits lows (writers_of accesses) limits
  pub rise : so_far ≡ true → Rise (flows accesses) lows highs

pub rising_none : (lows highs : List ℕ) → Rising [] lows highs [] true
rising_none lows highs = record { are_limits = tt; rise = λ is edge there. absurd (contains_none edge there) }

one_rises : (lows highs : List ℕ) (t : WritersAndEdges) (limits : List ℕ) (access : Access) → AreLimits lows t.writers limits → Rise t.edges lows highs →
    is_above highs limits access ≡ true → Rise (told_with t access).edges lows highs
one_rises lows highs t limits (Write node before) are rise is = rise
one_rises lows highs t limits (Read node from) are rise is =
    let nodes = writers_at t.writers (Some from) in
    rise_both t.edges (links node nodes) lows highs rise
    (links_below lows highs nodes node (limit_found lows t.writers limits are (Some from) (slice_index highs node)
    (at_most_from (limit_at limits (Some from)) (slice_index highs node) is)))

pub rising_more : (accesses : List Access) (lows highs limits : List ℕ) (so_far : Bool) (access : Access) → Rising accesses lows highs limits so_far →
    Rising (accesses ++ access ∷ []) lows highs (limits ++ limit_with lows limits access ∷ []) (so_far && is_above highs limits access)
rising_more accesses lows highs limits so_far access r = record {
  are_limits = subst (λ (t : WritersAndEdges). AreLimits lows t.writers (limits ++ limit_with lows limits access ∷ [])) (sym (told-push accesses access))
      (limits_with lows (told accesses) limits access r.are_limits);
  rise = λ is.
      let both = and_parts so_far (is_above highs limits access) is in
      subst (λ (t : WritersAndEdges). Rise t.edges lows highs) (sym (told-push accesses access))
      (one_rises lows highs (told accesses) limits access r.are_limits (r.rise both.0) both.1);
}

-- the same of a list so far, where the limits so far are seen twice
pub rising_step : (accesses : List Access) (lows highs limits view again more : List ℕ) (so_far above : Bool) (i limit : ℕ) (d : Access) →
    i < length accesses → view ≡ limits → again ≡ limits → limit ≡ limit_with lows view (get_or accesses i d) →
    above ≡ is_above highs again (get_or accesses i d) → more ≡ limits ++ limit ∷ [] → Rising (take i accesses) lows highs limits so_far →
    Rising (take (i + 1) accesses) lows highs more (so_far && above)
rising_step accesses lows highs limits view again more so_far above i limit d lt seen seen_again limit_is above_is more_is r =
    let access = get_or accesses i d in
    subst (λ xs. Rising xs lows highs more (so_far && above)) (sym (take_more accesses i d lt))
    (subst (λ ls. Rising (take i accesses ++ access ∷ []) lows highs ls (so_far && above))
    (ap (λ l. limits ++ l ∷ []) (sym (limit_is ∙ ap (λ ls. limit_with lows ls access) seen)) ∙ sym more_is)
    (subst (λ t. Rising (take i accesses ++ access ∷ []) lows highs (limits ++ limit_with lows limits access ∷ []) (so_far && t))
    (sym (above_is ∙ ap (λ ls. is_above highs ls access) seen_again))
    (rising_more (take i accesses) lows highs limits so_far access r)))
