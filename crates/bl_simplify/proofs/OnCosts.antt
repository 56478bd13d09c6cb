-- Costs that haven't grown, one after the other, and cells that are told as far as 64 bits tell.
use Rattle.std.proofs.Common.{◌≡◌, ℕ, ◌+◌, ◌<◌, ◌≤◌, ◌^◌, ◌-◌, Bool, true, ◌&&◌, List, [], ◌∷◌, ◌++◌, length, get_or, take, sym, subst, ap, ◌∙◌, arith}
use Rattle.std.proofs.lemmas.List.{take_all, take_more}
use Rattle.bl_tree.proofs.Basics.{and_first, and_second}
use Rattle.bl_ctext_semantics.specs.Saturated.{saturated}
use Rattle.bl_bound.specs.declared.cost.Cost.{Cost}
use Rattle.bl_simplify.specs.Simplified.{NoDearer, NoneDearer}

-- cells told as no more are no more, where the number that is told is below the greatest
pub cells_kept : (before after : ℕ) → saturated after ≤ saturated before → saturated after < 2 ^ 64 - 1 → after ≤ before
cells_kept before after le small = omega arith

none_append : (news olds : List Cost) (new old : Cost) → NoneDearer news olds → NoDearer new old → NoneDearer (news ++ new ∷ []) (olds ++ old ∷ [])
none_append [] [] new old none is = (is, tt)
none_append [] (d ∷ olds) new old none is = absurd none
none_append (c ∷ news) [] new old none is = absurd none
none_append (c ∷ news) (d ∷ olds) new old none is = (none.0, none_append news olds new old none.1 is)

-- one more cost of two lists
pub none_next : (news olds : List Cost) (k : ℕ) (d : Cost) (so_far here : Bool) → k < length news → length news ≡ length olds →
    (so_far ≡ true → NoneDearer (take k news) (take k olds)) → (here ≡ true → NoDearer (get_or news k d) (get_or olds k d)) →
    (so_far && here) ≡ true → NoneDearer (take (k + 1) news) (take (k + 1) olds)
none_next news olds k d so_far here small same none kept both =
    subst (λ l. NoneDearer l (take (k + 1) olds)) (sym (take_more news k d small))
    (subst (NoneDearer (take k news ++ get_or news k d ∷ [])) (sym (take_more olds k d (omega (arith, small, same))))
    (none_append (take k news) (take k olds) (get_or news k d) (get_or olds k d) (none (and_first so_far here both)) (kept (and_second so_far here both))))

-- two lists of one length
pub none_done : (news olds : List Cost) (k : ℕ) (kept : Bool) → length news ≤ k → length news ≡ length olds →
    (kept ≡ true → NoneDearer (take k news) (take k olds)) → kept ≡ true → NoneDearer news olds
none_done news olds k kept past same none h =
    subst (λ l. NoneDearer l olds) (take_all k news past) (subst (NoneDearer (take k news)) (take_all k olds (omega arith)) (none h))
