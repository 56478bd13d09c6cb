-- Tables that grow by an entry.
use Rattle.std.proofs.Common.{◌≡◌, ◌⊎◌, inl, inr, ℕ, ◌+◌, ◌*◌, ◌<◌, ◌≤◌, List, [], ◌∷◌, ◌++◌, length, get_or, min, take, refl, sym, ap, ◌∙◌, arith}
use Rattle.std.proofs.Math.Seq.{get_or-append_seam}
use Rattle.std.proofs.lemmas.List.{get_or_append_left, get_or_default, length_push, take_all}
use Rattle.bl_lsp_text.specs.declared.stand.Stand.{Stand}
use Rattle.bl_lsp_text.specs.Positions.{at_start, passed_all, position_at, position_by}
use Rattle.bl_lsp_text.specs.Tables.{AreStands, IsTable}

below-or-last : (k n : ℕ) → k < n + 1 → (k < n) ⊎ (k ≡ n)
below-or-last k n few = grind arith

pushed-at : (text : List ℕ) (stands : List Stand) (stand : Stand) (k : ℕ) → AreStands text stands →
    stand ≡ passed_all at_start (take (length stands * 64) text) → (k < length stands) ⊎ (k ≡ length stands) →
    get_or (stands ++ stand ∷ []) k at_start ≡ passed_all at_start (take (k * 64) text)
pushed-at text stands stand k are is (inl below) = get_or_append_left stands (stand ∷ []) at_start k below ∙ are k below
pushed-at text stands stand k are is (inr last) = rw last (get_or-append_seam stands stand [] at_start ∙ is)

pub pushed : (text : List ℕ) (stands : List Stand) (stand : Stand) → AreStands text stands →
    stand ≡ passed_all at_start (take (length stands * 64) text) → AreStands text (stands ++ stand ∷ [])
pushed text stands stand are is = λ k within.
    pushed-at text stands stand k are is (below-or-last k (length stands) (omega (arith, length_push stands stand)))

-- a reader at the text's end is before each offset behind that
pub at-end : (text : List ℕ) (stand : Stand) (at n : ℕ) → length text ≤ at → length text ≤ n → stand ≡ passed_all at_start (take at text) →
    stand ≡ passed_all at_start (take n text)
at-end text stand at n here there is =
    is ∙ ap (passed_all at_start) (take_all at text here ∙ sym (take_all n text there))

pub finished : (text : List ℕ) (stands : List Stand) (stand : Stand) (at : ℕ) → AreStands text stands →
    stand ≡ passed_all at_start (take at text) → length text ≤ at → at ≤ length stands * 64 → IsTable text (stands ++ stand ∷ [])
finished text stands stand at are is end behind = record {
  stand = pushed text stands stand are (at-end text stand at (length stands * 64) end (omega arith) is);
  enough = omega (arith, length_push stands stand);
}

within-or-behind : (n m : ℕ) → (n ≤ m) ⊎ (m ≤ n)
within-or-behind n m = grind arith

taken-by : (text : List ℕ) (offset : ℕ) → (offset ≤ length text) ⊎ (length text ≤ offset) → take (min offset (length text)) text ≡ take offset text
taken-by text offset (inl within) =
    let is : min offset (length text) ≡ offset = omega arith in
    rw is
taken-by text offset (inr behind) = take_all (min offset (length text)) text (omega arith) ∙ sym (take_all offset text behind)

taken-least : (text : List ℕ) (offset : ℕ) → take (min offset (length text)) text ≡ take offset text
taken-least text offset = taken-by text offset (within-or-behind offset (length text))

-- what a look-up in a table of a text finds
pub entry : (text : List ℕ) (stands : List Stand) (found : Stand) (k : ℕ) → IsTable text stands → k * 64 ≤ length text →
    found ≡ get_or stands k found → found ≡ passed_all at_start (take (k * 64) text)
entry text stands found k table within is =
    let few : k < length stands = omega (arith, table.enough) in
    is ∙ get_or_default stands k found at_start few ∙ table.stand k few

-- an offset behind the text has the position of the text's end
pub position-behind : (text : List ℕ) (offset least : ℕ) → least ≡ min offset (length text) →
    position_by (passed_all at_start (take least text)) ≡ position_at text offset
position-behind text offset least is = ap (λ front. position_by (passed_all at_start front)) (ap (λ n. take n text) is ∙ taken-least text offset)
