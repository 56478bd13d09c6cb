use Rattle.std.proofs.Common.{◌≡◌, ◌+◌, ◌*◌, ◌/◌, ◌<◌, ◌≤◌, take, ap, subst, sym, ◌∙◌, arith, length}
use Rattle.std.specs.Prelude.{IfSome, slice_set}
use Rattle.std.specs.List.{sum}
use Rattle.bl_ctree_counts.specs.Counts.{HasSums, HasTotal}
use Rattle.bl_ctree_counts.proofs.Sums.{sums_past, sums_set}
use Rattle.bl_ctree_counts.proofs.Counts.set.Goals as goal

pub invariant_of-self : goal.invariant_of-self
invariant_of-self c =
    let blocks = c.self.inside.blocks in
    let counts = c.self.inside.each in
    let k = c.args.k in
    let b = k / 64 in
    let low : 64 * b ≤ k = omega arith in
    let high : k < 64 * b + 64 = omega arith in
    let within : k < length counts = omega (arith, c.requires, ap length c.self.view_is) in
    let counts' = slice_set counts k c.args.n in
    let total = c.sum_between.result in
    let read = c.deref.ensures ∙ c.set.ensures in
    let known : IfSome total (λ m. sum (take (64 * b + 64) counts') ≡ sum (take (64 * b) counts') + m) =
    subst (λ xs. IfSome total (λ m. sum (take (64 * b + 64) xs) ≡ sum (take (64 * b) xs) + m)) read c.sum_between.ensures in (
      subst (λ xs. HasSums c.set-then-b-len.new.self xs) (sym c.set.ensures)
          (subst (λ sums. HasSums sums counts') (sym c.set-then-b-len.ensures)
          (sums_set blocks counts c.self.invariant.0 k c.args.n b low high within total known)),
      subst (HasTotal c.total_with-self-inside.result) (sym c.set.ensures)
          (subst (λ xs. HasTotal c.total_with-self-inside.result (slice_set xs k c.args.n)) (sym c.self.view_is) c.total_with-self-inside.ensures),
    )

pub invariant_of-self-else-b-len : goal.invariant_of-self-else-b-len
invariant_of-self-else-b-len c =
    let blocks = c.self.inside.blocks in
    let counts = c.self.inside.each in
    let k = c.args.k in
    let b = k / 64 in
    let low : 64 * b ≤ k = omega arith in
    let high : k < 64 * b + 64 = omega arith in
    let within : k < length counts = omega (arith, c.requires, ap length c.self.view_is) in (
      subst (HasSums blocks) (sym c.set.ensures) (sums_past blocks counts c.self.invariant.0 k c.args.n b low high within
          (omega (arith, c.if-b-len.false, c.len.ensures))),
      subst (HasTotal c.total_with-self-inside.result) (sym c.set.ensures)
          (subst (λ xs. HasTotal c.total_with-self-inside.result (slice_set xs k c.args.n)) (sym c.self.view_is) c.total_with-self-inside.ensures),
    )
