-- The writer's text: the prelude, and tokens behind it.
use Rattle.std.proofs.Common.{◌≡◌, ℕ, ◌≤◌, Bool, true, false, cond, List, [], ◌∷◌, ◌++◌, length, drop, refl, append-nil, append_assoc, length-append}
use Rattle.std.proofs.Common.{sym, ◌∙◌, ap, subst, arith}
use Rattle.std.proofs.lemmas.List.{drop-append-le}
use Rattle.std.proofs.lemmas.Bool.{and_from}
use Rattle.bl_tree.proofs.Basics.{and_first, and_second}
use Rattle.bl_ctext.specs.Prelude.{prelude}
use Rattle.bl_ctext.specs.declared.prelude.TheConstants.{PRELUDE}
use Rattle.bl_ctext.specs.Token.{Token, SpacedC}
use Rattle.bl_ctext.specs.inner.Cut.{tokens_in, may_merge, are_tokens, begins_apart, is_piece, parted, behind_prelude, IsText}
use Rattle.bl_ctext.proofs.Cutting.{meets-apart, meets-space, before_a_space, meets-drop, tokens_in-append}
use Rattle.bl_ctext.proofs.Longest.{spaced}

pub are_tokens-append : (xs ys : List Token) → are_tokens xs ≡ true → are_tokens ys ≡ true → are_tokens (xs ++ ys) ≡ true
are_tokens-append [] ys h k = k
are_tokens-append (x ∷ xs) ys h k = and_from _ _ (and_first _ _ h) (are_tokens-append xs ys (and_second _ _ h) k)

long_enough : (bytes : List ℕ) → IsText bytes → length prelude ≤ length bytes
long_enough bytes text = omega (arith, simp length-append at (ap length text.begins))

-- what is written behind a text is behind its prelude
behind-append : (bytes next : List ℕ) → IsText bytes → behind_prelude (bytes ++ next) ≡ behind_prelude bytes ++ next
unfolding behind_prelude
behind-append bytes next text = drop-append-le (length prelude) bytes next (long_enough bytes text)

apart_behind : (bytes next : List ℕ) → may_merge bytes next ≡ false → may_merge (behind_prelude bytes) next ≡ false
unfolding behind_prelude
apart_behind bytes next h = meets-drop (length prelude) bytes next h

grows_by : (bytes next : List ℕ) → IsText bytes → may_merge bytes next ≡ false → are_tokens (tokens_in next) ≡ true →
    (tokens_in (behind_prelude (bytes ++ next)) ≡ tokens_in (behind_prelude bytes) ++ tokens_in next) × IsText (bytes ++ next)
grows_by bytes next text apart tokens =
    let behind : behind_prelude (bytes ++ next) ≡ behind_prelude bytes ++ next = behind-append bytes next text in
    let sum : tokens_in (behind_prelude (bytes ++ next)) ≡ tokens_in (behind_prelude bytes) ++ tokens_in next =
    ap tokens_in behind ∙ tokens_in-append (behind_prelude bytes) next (apart_behind bytes next apart) in
    let P : List Token → Type 0 = λ ts. are_tokens ts ≡ true in (
      sum,
      record {
        begins = ap (λ (xs : List ℕ). xs ++ next) text.begins
            ∙ (append_assoc prelude (behind_prelude bytes) next ∙ ap (λ (xs : List ℕ). prelude ++ xs) (sym behind));
        tokens = subst P (sym sum) (are_tokens-append (tokens_in (behind_prelude bytes)) (tokens_in next) text.tokens tokens);
      },
    )

-- after a space, where it is wanted, the text is one still, has the same tokens, and the next bytes go on none of them
pub record Parted (bytes next front : List ℕ) : Type 0 where
  pub text : IsText front
  pub tokens : tokens_in (behind_prelude front) ≡ tokens_in (behind_prelude bytes)
  pub apart : may_merge front next ≡ false

parts_at : (m : Bool) (bytes next : List ℕ) → may_merge bytes next ≡ m → IsText bytes → Parted bytes next (cond m (bytes ++ 32 ∷ []) bytes)
parts_at false bytes next h text = record { text = text; tokens = refl; apart = h }
parts_at true bytes next h text =
    let (space, whole) = grows_by bytes (32 ∷ []) text (before_a_space bytes) refl in
    record { text = whole; tokens = space ∙ append-nil (tokens_in (behind_prelude bytes)); apart = meets-space bytes next }

pub parts : (bytes next : List ℕ) → IsText bytes → Parted bytes next (parted bytes next)
unfolding parted
parts bytes next text = parts_at (may_merge bytes next) bytes next refl text

pub parted_met : (bytes next front : List ℕ) → may_merge bytes next ≡ true → front ≡ bytes ++ 32 ∷ [] → front ≡ parted bytes next
unfolding parted
parted_met bytes next front h e = rw h e

pub parted_kept : (bytes next : List ℕ) → may_merge bytes next ≡ false → bytes ≡ parted bytes next
unfolding parted
parted_kept bytes next h = rw h refl

pub record Grown (bytes next after : List ℕ) : Type 0 where
  pub text : IsText after
  pub tokens : tokens_in (behind_prelude after) ≡ tokens_in (behind_prelude bytes) ++ tokens_in next

pub grown : (bytes next front after : List ℕ) → IsText bytes → are_tokens (tokens_in next) ≡ true → front ≡ parted bytes next →
    after ≡ front ++ next →
    Grown bytes next after
grown bytes next front after text tokens e f =
    let step : Parted bytes next (parted bytes next) = parts bytes next text in
    let (sum, whole) = grows_by (parted bytes next) next step.text step.apart tokens in
    let same : after ≡ parted bytes next ++ next = rw e at f in
    rw same (record { text = whole; tokens = sum ∙ ap (λ (ts : List Token). ts ++ tokens_in next) step.tokens })

-- a piece is written as it is
pub piece_grown : (bytes piece after : List ℕ) → IsText bytes → is_piece piece ≡ true → after ≡ bytes ++ piece → Grown bytes piece after
piece_grown bytes piece after text h e =
    let apart : may_merge bytes piece ≡ false = meets-apart bytes piece (and_first (begins_apart piece) _ h) in
    grown bytes piece bytes after text (and_second (begins_apart piece) _ h) (parted_kept bytes piece apart) e

pub parted_text : (bytes next front : List ℕ) → IsText bytes → front ≡ parted bytes next → IsText front
parted_text bytes next front text e = let P : List ℕ → Type 0 = λ xs. IsText xs in subst P (sym e) (parts bytes next text).text

pub same_text : (bytes front : List ℕ) → IsText bytes → front ≡ bytes → IsText front
same_text bytes front text e = let P : List ℕ → Type 0 = λ xs. IsText xs in subst P (sym e) text

pub text_spells : (bytes : List ℕ) → IsText bytes → (text : List ℕ) × ((bytes ≡ prelude ++ text) × SpacedC (tokens_in (behind_prelude bytes)) text)
text_spells bytes text = (behind_prelude bytes, (text.begins, spaced (behind_prelude bytes) text.tokens))

nothing_behind : (xs : List ℕ) → drop (length xs) xs ≡ []
nothing_behind [] = refl
nothing_behind (x ∷ xs) = nothing_behind xs

behind_itself : behind_prelude prelude ≡ []
unfolding behind_prelude
behind_itself = nothing_behind prelude

no_tokens : (bytes : List ℕ) → bytes ≡ prelude → tokens_in (behind_prelude bytes) ≡ []
no_tokens bytes e = ap (λ (xs : List ℕ). tokens_in (behind_prelude xs)) e ∙ ap tokens_in behind_itself

-- the prelude alone is a text without tokens
pub record Fresh (bytes : List ℕ) : Type 0 where
  pub text : IsText bytes
  pub tokens : tokens_in (behind_prelude bytes) ≡ []

pub fresh : (bytes : List ℕ) → bytes ≡ prelude → Fresh bytes
fresh bytes e =
    let P : List Token → Type 0 = λ ts. are_tokens ts ≡ true in
    record {
      text = record {
        begins = e ∙ (sym (append-nil prelude) ∙ ap (λ (xs : List ℕ). prelude ++ xs) (sym (ap behind_prelude e ∙ behind_itself)));
        tokens = subst P (sym (no_tokens bytes e)) refl;
      };
      tokens = no_tokens bytes e;
    }

pub prelude_bytes : PRELUDE.now ≡ prelude
unfolding prelude
prelude_bytes = refl
