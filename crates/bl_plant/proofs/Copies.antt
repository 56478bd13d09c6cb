-- Rows that are copied number by number.
use Rattle.std.proofs.Common.{◌≡◌, ℕ, suc, ◌+◌, ◌<◌, ℤ, Some, List, [], ◌∷◌, ◌++◌, length}
use Rattle.std.proofs.Common.{take, set, ap, sym, ◌∙◌, add-one, subst}
use Rattle.std.specs.List.{slice_get}
use Rattle.std.proofs.lemmas.List.{length-set}
use Rattle.std.proofs.lemmas.Option.{get_or_from_slice_get, slice_get_within}
use Rattle.std.proofs.Math.Seq.{take-suc, take-suc-set}

-- one more number is the same
pub copy-step : (from into now : List ℤ) (k : ℕ) (x y : ℤ) → now ≡ set into k y → y ≡ x → slice_get from k ≡ Some x →
    take k into ≡ take k from → length into ≡ length from → (length now ≡ length from) × (take (k + 1) now ≡ take (k + 1) from)
copy-step from into now k x y is same got front long =
    let low : k < length from = slice_get_within from k x got in
    let low_into : k < length into = subst (λ n. k < n) (sym long) low in
    let set_is : now ≡ set into k x = is ∙ ap (set into k) same in (
      ap length set_is ∙ length-set into k x ∙ long,
      ap (λ n. take n now) (add-one k) ∙ ap (take (suc k)) set_is ∙ take-suc-set into k x low_into
          ∙ ap (λ z. z ++ x ∷ []) front ∙ ap (λ z. take k from ++ z ∷ []) (sym (get_or_from_slice_get from k x x got))
          ∙ sym (take-suc from k x low) ∙ ap (λ n. take n from) (sym (add-one k)),
    )
