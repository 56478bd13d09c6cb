-- The set of the calls that fail, read from the set that keeps them.
use Rattle.std.proofs.Common.{◌≡◌, ℕ, Bool, true, false, cond, ◌||◌, refl, sym, ◌∙◌, ap}
use Rattle.std.specs.BTreeSet as tree
use Rattle.std.specs.Cmp.{nat_cmp_total, eq_by_cmp_equiv}
use Rattle.std.specs.FinSet as set
use Rattle.std.specs.Ordering.{nat_cmp, eq_by_cmp}

pub contains-keys : (s : tree.BTreeSet ℕ) (q : ℕ) → set.contains (set.from_list {R = nat_cmp} s.keys) q ≡ tree.contains nat_cmp s q
contains-keys s q = set.contains-from_list nat_cmp_total s.keys q

cond_or : (b a : Bool) → cond b true a ≡ (b || a)
cond_or true a = refl
cond_or false a = refl

pub from_list-update : (s n : tree.BTreeSet ℕ) (k : ℕ) → tree.Updates nat_cmp s n k true →
    set.from_list {R = nat_cmp} n.keys ≡ set.insert (set.from_list s.keys) k
from_list-update s n k updates =
    set.same_set nat_cmp_total set.nat_cmp-IsAntisymmetric _ _ (λ q.
    contains-keys n q ∙ updates.0 q ∙ cond_or (eq_by_cmp nat_cmp k q) (tree.contains nat_cmp s q)
    ∙ ap (λ b. b || tree.contains nat_cmp s q) ((eq_by_cmp_equiv nat_cmp_total).symm k q)
    ∙ ap (λ b. eq_by_cmp nat_cmp q k || b) (sym (contains-keys s q))
    ∙ sym (set.contains-insert nat_cmp_total (set.from_list s.keys) k q))
