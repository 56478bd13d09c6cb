-- Where tokens begin that stand one after another.
use Rattle.std.proofs.Common.{◌≡◌, ℕ, zero, suc, ◌+◌, ◌<◌, ◌≤◌, true, List, [], ◌∷◌, ◌++◌, map, length, get_or, ◌-◌, refl, ap, sym, ◌∙◌, subst, arith}
use Rattle.std.proofs.Common.{append_assoc, append-nil}
use Rattle.std.specs.Prelude.{nat_lt}
use Rattle.std.specs.List.{list_all}
use Rattle.std.proofs.lemmas.Bool.{lt-ltb}
use Rattle.bl_tree.proofs.Basics.{map_push}
use Rattle.bl_tree.specs.declared.token.Token.{Token}
use Rattle.bl_tree.specs.Reduce.{joined}
use Rattle.bl_lex.specs.Tokens.{Lexes}
use Rattle.bl_lex.proofs.RuleLaws.{tokens_inside, tokens_in_order}
use Rattle.bl_parse_tree.specs.Starts.{ascends}
use Rattle.bl_parse.specs.At.{start_at}
use Rattle.bl_parse_laws.proofs.Tests.{both}

-- numbers at which tokens begin that stand one after another, from a position on and before another
pub data Rising (tokens : List Token) : List ℕ → ℕ → ℕ → Type 0 where
  over : {from to : ℕ} → from ≤ to → Rising tokens [] from to
  next : {rest : List ℕ} {n from at to : ℕ} → from ≤ at → n ≡ start_at tokens at → Rising tokens rest (at + 1) to →
      Rising tokens (n ∷ rest) from to

pub earlier : {tokens : List Token} {starts : List ℕ} {from at to : ℕ} → from ≤ at → Rising tokens starts at to → Rising tokens starts from to
earlier le (Rising.over end) = Rising.over (omega arith)
earlier le (Rising.next front is rest) = Rising.next (omega arith) is rest

ends : {tokens : List Token} {starts : List ℕ} {from to : ℕ} → Rising tokens starts from to → from ≤ to
ends (Rising.over end) = end
ends (Rising.next front is rest) = omega (arith, ends rest)

pub later : {tokens : List Token} {starts : List ℕ} {from at to : ℕ} → at ≤ to → Rising tokens starts from at → Rising tokens starts from to
later le (Rising.over end) = Rising.over (omega arith)
later le (Rising.next front is rest) = Rising.next front is (later le rest)

pub join : {tokens : List Token} {xs ys : List ℕ} {from at to : ℕ} → Rising tokens xs from at → Rising tokens ys at to →
    Rising tokens (xs ++ ys) from to
join (Rising.over end) h = earlier end h
join (Rising.next front is rest) h = Rising.next front is (join rest h)

-- ---- lists of lists

joined_more : (xss : List (List ℕ)) (xs : List ℕ) → joined (xss ++ xs ∷ []) ≡ joined xss ++ xs
joined_more [] xs = append-nil xs
joined_more (ys ∷ xss) xs = ap (λ zs. ys ++ zs) (joined_more xss xs) ∙ sym (append_assoc ys (joined xss) xs)

-- what the members have, one after another
pub record Rise {A : Type 0} (f : A → List ℕ) (tokens : List Token) (xs : List A) (from to : ℕ) : Type 0 where
  pub rising : Rising tokens (joined (map f xs)) from to

pub none_rise : {A : Type 0} (f : A → List ℕ) {tokens : List Token} {all : List A} {from to : ℕ} → all ≡ [] → from ≤ to →
    Rise f tokens all from to
none_rise f {tokens} {from = from} {to = to} is le = record { rising = subst (λ xs. Rising tokens (joined (map f xs)) from to) (sym is) (Rising.over le) }

pub more_rise : {A : Type 0} (f : A → List ℕ) {tokens : List Token} {all xs : List A} (x : A) {from at to : ℕ} →
    Rise f tokens xs from at → Rising tokens (f x) at to → all ≡ xs ++ x ∷ [] → Rise f tokens all from to
more_rise f {tokens} {xs = xs} x {from = from} {to = to} h k is = record {
  rising = subst (λ ys. Rising tokens ys from to) (sym
      (ap (λ ys. joined (map f ys)) is ∙ (ap joined (map_push f xs x) ∙ joined_more (map f xs) (f x)))) (join h.rising k);
}

pub one_rises : {A : Type 0} (f : A → List ℕ) {tokens : List Token} {all : List A} (x : A) {from to : ℕ} →
    Rising tokens (f x) from to → all ≡ x ∷ [] → Rise f tokens all from to
one_rises f {tokens} x h is = more_rise f {xs = []} x (none_rise f refl (omega arith)) h is

-- ---- tokens of a text

start_is : (tokens : List Token) (k : ℕ) (d : Token) → k < length tokens → start_at tokens k ≡ (get_or tokens k d).place.start
start_is [] k d inside = absurd (omega arith)
start_is (x ∷ xs) zero d inside = refl
start_is (x ∷ xs) (suc k) d inside = start_is xs k d (omega arith)

module _ (text : List ℕ) (tokens : List Token) (lexes : Lexes text tokens) where
  -- a token begins before the next one
  climbs_once : (d : Token) (k : ℕ) → k + 1 < length tokens → start_at tokens k < start_at tokens (k + 1)
  climbs_once d k inside =
      let first = tokens_inside text tokens lexes k d (omega arith) in
      let order = tokens_in_order text tokens lexes k d inside in
      let a = start_is tokens k d (omega arith) in
      let b = start_is tokens (k + 1) d inside in
      omega (arith, first.0)

  climbs_on : (d : Token) (k n : ℕ) → k + n + 1 < length tokens → start_at tokens k < start_at tokens (k + n + 1)
  climbs_on d k zero inside =
      let same : k + 1 ≡ k + zero + 1 = omega arith in
      subst (λ at. start_at tokens k < start_at tokens at) same (climbs_once d k (omega arith))
  climbs_on d k (suc n) inside =
      let before = climbs_on d k n (omega arith) in
      let step = climbs_once d (k + n + 1) (omega arith) in
      let same : k + n + 1 + 1 ≡ k + suc n + 1 = omega arith in
      let both_steps : start_at tokens k < start_at tokens (k + n + 1 + 1) = omega (arith, before, step) in
      subst (λ at. start_at tokens k < start_at tokens at) same both_steps

  pub climbs : (k at : ℕ) → k < at → at < length tokens → start_at tokens k < start_at tokens at
  climbs k at le inside = by_first tokens refl
    where
      by_first : (ts : List Token) → tokens ≡ ts → start_at tokens k < start_at tokens at
      by_first [] is = absurd (omega (arith, inside, ap length is))
      by_first (d ∷ rest) is = by_distance (at - k - 1) (omega arith)
        where
          by_distance : (n : ℕ) → at ≡ k + n + 1 → start_at tokens k < start_at tokens at
          by_distance n far = subst (λ m. start_at tokens k < start_at tokens m) (sym far) (climbs_on d k n (omega arith))

  above : (n k : ℕ) {starts : List ℕ} {from to : ℕ} → n ≡ start_at tokens k → k < from → Rising tokens starts from to →
      to ≤ length tokens → list_all (nat_lt n) starts ≡ true
  above n k is le (Rising.over end) inside = refl
  above n k is le (Rising.next {n = m} {at = at} front start rest) inside =
      let later_one = climbs k at (omega arith) (omega (arith, ends rest)) in
      both (lt-ltb n m (omega (arith, later_one, is, start))) (above n k is (omega arith) rest inside)

  -- such numbers are each less than all later ones
  pub rising_ascends : {starts : List ℕ} {from to : ℕ} → Rising tokens starts from to → to ≤ length tokens → ascends starts ≡ true
  rising_ascends (Rising.over end) inside = refl
  rising_ascends (Rising.next {n = n} {at = at} front start rest) inside = both (above n at start (omega arith) rest inside) (rising_ascends rest inside)
