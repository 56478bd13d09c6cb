-- How deep tokens are with one more, and where none is too deep.
use Rattle.std.proofs.Common.{◌≡◌, ℕ, ◌+◌, ◌<◌, ◌≤◌, List, [], ◌∷◌, ◌++◌, length, take, refl, ap, sym, ◌∙◌, subst, arith, ◌⊎◌, inl, inr, ⊎_elim, length-append}
use Rattle.std.proofs.Common.{take_all, suc, drop, get_or, add-one, drop-cons}
use Rattle.std.proofs.lemmas.List.{take-append-le, take-append-drop}
use Rattle.std.proofs.Math.Seq.{take-suc}
use Rattle.std.specs.Prelude.{Option, Some, None}
use Rattle.bl_tree.specs.declared.token.Token.{Token}
use Rattle.bl_tree.specs.declared.token.TokenKind.{TokenKind}
use Rattle.bl_parse_syntax.specs.Depth.{blocks_after, run_with, open_after, run_after, IsTooDeep}
use Rattle.bl_parse_syntax.specs.inner.Depth.{last_kind}
use Rattle.bl_parse_syntax.specs.Rules.{PassesDepth, FailsDepth}

pub open_next : (blocks : ℕ) (front : List Token) (t : Token) → open_after blocks (front ++ t ∷ []) ≡ blocks_after (open_after blocks front) t.kind
open_next blocks [] t = refl
open_next blocks (x ∷ front) t = open_next (blocks_after blocks x.kind) front t

pub last_next : (before : Option TokenKind) (front : List Token) (t : Token) → last_kind before (front ++ t ∷ []) ≡ Some t.kind
last_next before [] t = refl
last_next before (x ∷ front) t = last_next (Some x.kind) front t

pub run_next : (run : ℕ) (before : Option TokenKind) (front : List Token) (t : Token) →
    run_after run before (front ++ t ∷ []) ≡ run_with (run_after run before front) (last_kind before front) t.kind
run_next run before [] t = refl
run_next run before (x ∷ front) t = run_next (run_with run before x.kind) (Some x.kind) front t

pub passes_next : (front : List Token) (t : Token) → PassesDepth front → ¬ IsTooDeep (front ++ t ∷ []) → PassesDepth (front ++ t ∷ [])
passes_next front t passes not_here n = by_length (compare n)
  where
    compare : (n : ℕ) → (n ≤ length front) ⊎ (length front + 1 ≤ n)
    compare n = grind arith

    by_length : (n ≤ length front) ⊎ (length front + 1 ≤ n) → ¬ IsTooDeep (take n (front ++ t ∷ []))
    by_length (inl short) = rw (take-append-le n front (t ∷ []) short) (passes n)
    by_length (inr long) = rw (take_all n (front ++ t ∷ []) (omega (arith, length-append front (t ∷ []), long))) not_here

-- within the limits a front is not too deep
pub not_too_deep : (tokens : List Token) → open_after 0 tokens ≤ 100 → run_after 0 None tokens ≤ 200 → ¬ IsTooDeep tokens
not_too_deep tokens few short deep = ⊎_elim (λ blocks. absurd (omega (arith, few, blocks))) (λ run. absurd (omega (arith, short, run))) deep

take_none : (n : ℕ) → ◌≡◌ {A = List Token} (take n []) []
take_none n = take_all n [] (omega arith)

pub passes_none : PassesDepth []
passes_none n deep = not_too_deep [] (omega arith) (omega arith) (subst IsTooDeep (take_none n) deep)

module _ (tokens : List Token) (i : ℕ) (d : Token) (inside : i < length tokens) (blocks run blocks_now run_now : ℕ) (before : Option TokenKind)
    (is_blocks : blocks ≡ open_after 0 (take i tokens)) (is_run : run ≡ run_after 0 None (take i tokens))
    (is_before : before ≡ last_kind None (take i tokens))
    (now : blocks_now ≡ blocks_after blocks (get_or tokens i d).kind)
    (run_is : run_now ≡ run_with run before (get_or tokens i d).kind) (passes : PassesDepth (take i tokens)) where
  one_more : take i tokens ++ get_or tokens i d ∷ [] ≡ take (i + 1) tokens
  one_more = sym (take-suc tokens i d inside) ∙ ap (λ n. take n tokens) (sym (add-one i))

  blocks_with : blocks_now ≡ open_after 0 (take i tokens ++ get_or tokens i d ∷ [])
  blocks_with = now ∙ ap (λ n. blocks_after n (get_or tokens i d).kind) is_blocks ∙ sym (open_next 0 (take i tokens) (get_or tokens i d))

  run_more : run_now ≡ run_after 0 None (take i tokens ++ get_or tokens i d ∷ [])
  run_more = run_is ∙ ap (λ n. run_with n before (get_or tokens i d).kind) is_run
      ∙ ap (λ b. run_with (run_after 0 None (take i tokens)) b (get_or tokens i d).kind) is_before
      ∙ sym (run_next 0 None (take i tokens) (get_or tokens i d))

  pub blocks_next : blocks_now ≡ open_after 0 (take (i + 1) tokens)
  blocks_next = blocks_with ∙ ap (open_after 0) one_more

  pub run_then : run_now ≡ run_after 0 None (take (i + 1) tokens)
  run_then = run_more ∙ ap (run_after 0 None) one_more

  pub kind_next : Some (get_or tokens i d).kind ≡ last_kind None (take (i + 1) tokens)
  kind_next = sym (last_next None (take i tokens) (get_or tokens i d)) ∙ ap (last_kind None) one_more

  pub passes_then : blocks_now ≤ 100 → run_now ≤ 200 → PassesDepth (take (i + 1) tokens)
  passes_then few short = subst PassesDepth one_more
      (passes_next (take i tokens) (get_or tokens i d) passes
      (not_too_deep (take i tokens ++ get_or tokens i d ∷ []) (subst (λ n. n ≤ 100) blocks_with few) (subst (λ n. n ≤ 200) run_more short)))

  pub fails_here : (100 < blocks_now) ⊎ (200 < run_now) → FailsDepth tokens (get_or tokens i d).place
  fails_here deep = record {
    before = take i tokens;
    token = get_or tokens i d;
    after = drop (suc i) tokens;
    stands = sym (take-append-drop i tokens) ∙ ap (λ ys. take i tokens ++ ys) (drop-cons tokens i d inside);
    first = passes;
    too_deep = ⊎_elim (λ h. inl (subst (λ n. 100 < n) blocks_with h)) (λ h. inr (subst (λ n. 200 < n) run_more h)) deep;
    at = refl;
  }
