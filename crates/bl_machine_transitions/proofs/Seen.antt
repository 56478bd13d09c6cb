-- A table of the counters that were found.
use Rattle.std.proofs.Common.{◌≡◌, ℕ, ◌+◌, ◌<◌, Bool, true, false, ◌||◌, List, [], ◌∷◌, ◌++◌, length, get_or, nat_eq}
use Rattle.std.proofs.Common.{ap, sym, ◌∙◌, arith, inl, inr, subst, get_or-set_other, get_or-set_same}
use Rattle.std.proofs.Math.ListN.{replicate, set}
use Rattle.std.proofs.lemmas.Bool.{eq-eqb, ne_eqb}
use Rattle.std.proofs.lemmas.Bool.Decides.{eqb_tells}
use Rattle.std.proofs.lemmas.List.{get_or-replicate, length-replicate, length-set}
use Rattle.std.specs.List.{list_any}
use Rattle.std.specs.Prelude.{if◌then◌else◌}
use Rattle.bl_machine_transitions.specs.inner.Joined.{Seen}
use Rattle.bl_machine_transitions.proofs.Once.{any_last}

-- in the first table nothing was found
pub seen_first : (low width : ℕ) (seen : List Bool) → seen ≡ replicate width false → Seen low seen []
seen_first low width seen is j below =
    let inside : j < width = subst (λ n. j < n) (ap length is ∙ length-replicate width false) below in
    ap (λ seen. get_or seen j false) is ∙ get_or-replicate width j false false inside

-- a counter that is found at its place
seen_more : (low counter at : ℕ) (seen : List Bool) (found : List ℕ) → counter ≡ low + at → at < length seen → Seen low seen found →
    Seen low (set seen at true) (found ++ counter ∷ [])
seen_more low counter at seen found is within tells j below =
    let inside : j < length seen = subst (λ n. j < n) (length-set seen at true) below in
    elim (eqb_tells j at) [
      | inl (hit, same) ↦
          ap (λ j. get_or (set seen at true) j false) same ∙ get_or-set_same seen at true false within
          ∙ sym (ap (λ b. b || list_any (nat_eq (low + j)) found) (eq-eqb (low + j) counter (ap (λ k. low + k) same ∙ sym is)))
          ∙ sym (any_last found counter (low + j))
      | inr (not_so, other) ↦
          get_or-set_other seen at j true false other ∙ tells j inside
          ∙ sym (ap (λ b. b || list_any (nat_eq (low + j)) found) (ne_eqb (low + j) counter (λ e. other (omega (arith, e, is)))))
          ∙ sym (any_last found counter (low + j))
    ]

by_table : (b : Bool) (low counter at : ℕ) (seen : List Bool) (found : List ℕ) → counter ≡ low + at → at < length seen →
    Seen low seen found →
    Seen low (if b then seen else set seen at true) (if b then found else found ++ counter ∷ [])
by_table true low counter at seen found is within tells = tells
by_table false low counter at seen found is within tells = seen_more low counter at seen found is within tells

pub seen_next : (low counter at : ℕ) (seen after : List Bool) (found more : List ℕ) → counter ≡ low + at → at < length seen →
    after ≡ (if get_or seen at false then seen else set seen at true) →
    more ≡ (if get_or seen at false then found else found ++ counter ∷ []) →
    Seen low seen found → Seen low after more × (more ≡ (if list_any (nat_eq counter) found then found else found ++ counter ∷ []))
seen_next low counter at seen after found more is within marks adds tells =
    let same : get_or seen at false ≡ list_any (nat_eq counter) found = tells at within ∙ ap (λ k. list_any (nat_eq k) found) (sym is) in (
      subst (λ after. Seen low after more) (sym marks)
          (subst (λ more. Seen low (if get_or seen at false then seen else set seen at true) more) (sym adds)
          (by_table (get_or seen at false) low counter at seen found is within tells)),
      adds ∙ ap (λ b. if b then found else found ++ counter ∷ []) same,
    )
