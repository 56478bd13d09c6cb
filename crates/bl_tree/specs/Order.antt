-- The order of static paths, as comparisons of values answer it.
use Rattle.std.specs.declared.cmp.Ordering.{Ordering}
use Rattle.std.specs.Ordering.{nat_cmp, on, then_cmp}
use Rattle.std.specs.Cmp.{IsTotalOrder, nat_cmp_total, on_total, then_total}
use Rattle.std.specs.Cmp.Lexicographic.{slice_cmp, nat_list_cmp_total}
use Rattle.bl_tree.specs.declared.static_path.Static.{Static}

-- the lexicographic order of static paths by their roots, and then by their fields
abbrev pub static_cmp : Static → Static → Ordering
static_cmp = then_cmp (on (λ s. s.root) nat_cmp) (on (λ s. s.fields) (slice_cmp nat_cmp))

-- `static_cmp` is a total order
pub static_cmp_total : IsTotalOrder static_cmp
static_cmp_total = then_total (on_total (λ s. s.root) nat_cmp_total) (on_total (λ s. s.fields) nat_list_cmp_total)
