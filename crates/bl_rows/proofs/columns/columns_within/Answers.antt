use Rattle.std.proofs.Common.{◌≡◌, ℕ, ◌+◌, ◌-◌, ◌≤◌, List, length, drop, take, min, Bool, true, false, refl, arith, ap, ◌∙◌, sym}
use Rattle.std.proofs.Math.Seq.{take-nil}
use Rattle.std.proofs.lemmas.List.{drop_all, length-drop, take_min}
use Rattle.std.proofs.lemmas.Result.{IfOk-weaker}
use Rattle.std.specs.Prelude.{nat_le}
use Rattle.std.proofs.lemmas.Bool.Decides.{nat_tests}
use Rattle.bl_tree.specs.declared.tree.Var.{Var}
use Rattle.bl_tree.specs.Ports.{columns_of}
use Rattle.bl_rows.proofs.columns.columns_within.Goals as goal

-- as many elements as there are
window : (vars : List Var) (first count begin end : ℕ) → begin ≡ min first (length vars) → end ≡ begin + min count (length vars - begin) →
    take (end - begin) (drop begin vars) ≡ take count (drop first vars)
window vars first count begin end b e = go (nat_le first (length vars)) refl
  where
    go : (t : Bool) → nat_le first (length vars) ≡ t → take (end - begin) (drop begin vars) ≡ take count (drop first vars)
    go true t =
        let low : first ≤ length vars = grind (arith, nat_tests) in
        let same : begin ≡ first = omega arith in
        let size : length (drop first vars) ≡ length vars - first = length-drop first vars in
        let many : end - begin ≡ min count (length (drop first vars)) = omega arith in
        ap (λ n. take n (drop begin vars)) many ∙
        ap (λ n. take (min count (length (drop first vars))) (drop n vars)) same ∙ take_min count (drop first vars)
    go false t =
        let high : length vars ≤ first = grind (arith, nat_tests) in
        let same : begin ≡ length vars = omega arith in
        ap (λ n. take (end - begin) (drop n vars)) same ∙ ap (take (end - begin)) (drop_all (length vars) vars (omega arith)) ∙ take-nil (end - begin)
        ∙ sym (ap (take count) (drop_all first vars high) ∙ take-nil count)

pub returns : goal.returns
returns c =
    IfOk-weaker c.columns_of.result _ _ (λ m h. h ∙ ap columns_of (window c.args.vars.now c.args.first c.args.count c.min-begin.result
    (c.min-begin.result + c.min.result) c.min-begin.ensures (ap (λ n. c.min-begin.result + n) c.min.ensures))) c.columns_of.ensures
