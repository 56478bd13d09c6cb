-- The edges of a graph in rows.
use Rattle.std.proofs.Common.{◌≡◌, ℕ, ◌+◌, ◌<◌, ◌≤◌, Bool, List, [], length, get_or, take, sym, ap, subst}
use Rattle.std.proofs.Common.{◌∙◌, arith}
use Rattle.std.specs.Prelude.{filter, nat_eq}
use Rattle.std.proofs.lemmas.List.{get_or_default}
use Rattle.std.proofs.lemmas.List.Elements.{All-filter, All-from_get_or, All-more, All-weaker}
use Rattle.bl_tree.specs.declared.graph.Edge.{Edge}
use Rattle.bl_cause.specs.inner.Lists.{Rows, RowsWithin, Within, edges_from}

module _ (end : Edge → ℕ) where
  -- all edges of the rows have their ends where those of the graph have them
  pub rows_within : (edges : List Edge) (count : ℕ) (rows : List (List Edge)) → Within count edges →
      Rows (λ node. filter (λ it. nat_eq (end it) node) edges) count rows → RowsWithin count rows
  rows_within edges count rows within h = (
    h.one_each,
    All-from_get_or (Within count) rows [] (λ k lt.
        let below : k < count = (let e = h.one_each in omega (arith, e, lt)) in
        subst (Within count) (sym (h.row k below))
        (All-filter (λ it. nat_eq (end it) k) (λ edge. (edge.from < count) × (edge.to < count)) edges within)),
  )

-- one more edge within more nodes
pub within_more : (edges : List Edge) (count wider : ℕ) (k : ℕ) (d : Edge) → k < length edges → Within count (take k edges) → count ≤ wider →
    (get_or edges k d).from < wider → (get_or edges k d).to < wider → Within wider (take (k + 1) edges)
within_more edges count wider k d lt h le from to =
    All-more (λ edge. (edge.from < wider) × (edge.to < wider)) edges k d lt
    (All-weaker (λ edge. (edge.from < count) × (edge.to < count)) (λ edge. (edge.from < wider) × (edge.to < wider))
    (λ edge both. let one = both.0 in let two = both.1 in (omega (arith, one, le), omega (arith, two, le))) (take k edges) h)
    (from, to)

pub row_within : (count : ℕ) (rows : List (List Edge)) (node : ℕ) → RowsWithin count rows → node < count → Within count (get_or rows node [])
row_within count rows node h lt = h.1 node [] (let e = h.0 in omega (arith, e, lt))

-- what was read of the rows
pub row_read : (rows : List (List Edge)) (node : ℕ) (row found : List Edge) → found ≡ get_or rows node found → row ≡ found → node < length rows →
    row ≡ get_or rows node []
row_read rows node row found is same lt = same ∙ is ∙ get_or_default rows node found [] lt

-- rows that were lent
pub rows_view : (row_of : ℕ → List Edge) (count : ℕ) (rows view : List (List Edge)) → Rows row_of count rows → view ≡ rows →
    Rows row_of (length view) view
rows_view row_of count rows view h same =
    subst (λ n. Rows row_of n view) (sym (ap length same ∙ h.one_each)) (subst (Rows row_of count) (sym same) h)

pub lent_within : (edges : List Edge) (count : ℕ) (rows view : List (List Edge)) → Within count edges → Rows (edges_from edges) count rows →
    view ≡ rows →
    RowsWithin (length view) view
lent_within edges count rows view within h same =
    rows_within (λ edge. edge.from) edges (length view) view (subst (λ n. Within n edges) (sym (ap length same ∙ h.one_each)) within)
    (rows_view (edges_from edges) count rows view h same)

pub filter_within : (p : Edge → Bool) (count : ℕ) (edges : List Edge) → Within count edges → Within count (filter p edges)
filter_within p count edges within = All-filter p (λ edge. (edge.from < count) × (edge.to < count)) edges within
