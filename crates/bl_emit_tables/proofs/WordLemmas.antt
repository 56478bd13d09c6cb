-- Tables of words grow as far as they are written.
use Rattle.std.proofs.Common.{◌≡◌, ◌<◌, ℕ, zero, suc, List, [], ◌∷◌, length, refl, sym, ap, ◌∙◌, arith, slice_set, cond}
use Rattle.std.specs.Prelude.{nat_eq}
use Rattle.bl_tree.proofs.Basics.{numbers_differ}
use Rattle.bl_tree.specs.declared.text.Text.{Text}
use Rattle.bl_emit_tables.specs.Sizes.{grown}
use Rattle.bl_emit_tables.specs.Words.{kept_word}
use Rattle.bl_emit_tables.proofs.GrowLemmas.{grown_same, nat_eq_suc, room}

word_set : (words : List Text) (at k : ℕ) (word : Text) → at < length words →
    kept_word (slice_set words at word) k ≡ cond (nat_eq at k) word (kept_word words k)
word_set [] at k word within = absurd (omega (arith, within))
word_set (x ∷ words) zero zero word within = refl
word_set (x ∷ words) zero (suc k) word within = ap (λ b. cond b word (kept_word words k)) (sym (numbers_differ 0 (suc k) (λ same. omega (arith, same))))
word_set (x ∷ words) (suc at) zero word within = ap (λ b. cond b word x) (sym (numbers_differ (suc at) 0 (λ same. omega (arith, same))))
word_set (x ∷ words) (suc at) (suc k) word within =
    word_set words at k word (omega (arith, within)) ∙ ap (λ b. cond b word (kept_word words k)) (sym (nat_eq_suc at k))

pub word_put : (words more : List Text) (at k : ℕ) (word : Text) → more ≡ grown [] (suc at) words →
    kept_word (slice_set more at word) k ≡ cond (nat_eq at k) word (kept_word words k)
word_put words more at k word is =
    word_set more at k word (room [] words more at is)
    ∙ ap (cond (nat_eq at k) word) (ap (λ (table : List Text). kept_word table k) is ∙ grown_same [] (suc at) words k)
