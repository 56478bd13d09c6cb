-- Bytes cut at line feeds, and their parts.
use Rattle.std.proofs.Common.{◌≡◌, ℕ, suc, ◌+◌, ◌<◌, ◌≤◌, List, [], ◌∷◌, ◌++◌, length, refl, ap, sym, subst, ◌∙◌, Bool, true, false, ◌||◌, ◌==◌, append_assoc}
use Rattle.std.proofs.Common.{arith, rules, Option, Some, None, get_or, take, drop, position, add-one, not, cond, nat_lt, length-take, eqb-true}
use Rattle.std.proofs.lemmas.List.Quantifiers.{position-Some}
use Rattle.std.proofs.lemmas.List.{get_or-take}
use Rattle.std.proofs.lemmas.Bool.Decides.{nat_tests}
use Rattle.std.proofs.Math.Seq.{split_at}
use Rattle.std.specs.List.{prefix_len, position_or_len}
use Rattle.bl_rows.specs.Lines.{Cut, cut, led_by_byte, whole_lines, unfinished, last_line, lines_of, has_feed}

pub or_false : (a b : Bool) → (a || b) ≡ false → (a ≡ false) × (b ≡ false)
or_false true b h = cc
or_false false b h = (refl, h)

pub feedless_append : (a b : List ℕ) → has_feed a ≡ false → has_feed b ≡ false → has_feed (a ++ b) ≡ false
feedless_append [] b h g = g
feedless_append (x ∷ a) b h g = let p = or_false (x == 10) (has_feed a) h in rw (p.0, feedless_append a b p.1 g) refl

-- a line and its line feed come first
pub cut_line : (l rest : List ℕ) → has_feed l ≡ false → cut (l ++ 10 ∷ rest) ≡ record { whole = l ∷ whole_lines rest; rest = unfinished rest }
cut_line [] rest h = refl
cut_line (b ∷ l) rest h = let p = or_false (b == 10) (has_feed l) h in rw (p.0, cut_line l rest p.1) refl

-- no line is whole without a line feed
pub cut_none : (l : List ℕ) → has_feed l ≡ false → cut l ≡ record { whole = []; rest = l }
cut_none [] h = refl
cut_none (b ∷ l) h = let p = or_false (b == 10) (has_feed l) h in rw (p.0, cut_none l p.1) refl

cut_feed : (b : ℕ) (bytes : List ℕ) → (b == 10) ≡ true → cut (b ∷ bytes) ≡ record { whole = [] ∷ (cut bytes).whole; rest = (cut bytes).rest }
cut_feed b bytes h = rw h refl

pub cut_other : (b : ℕ) (bytes : List ℕ) → (b == 10) ≡ false → cut (b ∷ bytes) ≡ led_by_byte b (cut bytes).whole (cut bytes).rest
cut_other b bytes h = rw h refl

-- the lines of bytes in two pieces, by the lines of the first
abbrev pub after_piece : Cut → List ℕ → Cut
after_piece c rest = record { whole = c.whole ++ whole_lines (c.rest ++ rest); rest = unfinished (c.rest ++ rest) }

led_append : (b : ℕ) (w : List (List ℕ)) (u rest : List ℕ) → (b == 10) ≡ false
    → led_by_byte b (w ++ whole_lines (u ++ rest)) (unfinished (u ++ rest)) ≡ after_piece (led_by_byte b w u) rest
led_append b [] u rest h = sym (cut_other b (u ++ rest) h)
led_append b (l ∷ w) u rest h = refl

pub cut_append : (x rest : List ℕ) → cut (x ++ rest) ≡ after_piece (cut x) rest
cut_append [] rest = refl
cut_append (b ∷ x) rest = by_byte (b == 10) refl (cut_append x rest)
  where
    by_byte : (t : Bool) → (b == 10) ≡ t → cut (x ++ rest) ≡ after_piece (cut x) rest → cut (b ∷ (x ++ rest)) ≡ after_piece (cut (b ∷ x)) rest
    by_byte true h e = cut_feed b (x ++ rest) h ∙ (ap (λ (c : Cut). let r : Cut = record { whole = [] ∷ c.whole; rest = c.rest } in
        r) e ∙ ap (λ (c : Cut). after_piece c rest) (sym (cut_feed b x h)))
    by_byte false h e = cut_other b (x ++ rest) h ∙ (ap (λ (c : Cut). led_by_byte b c.whole c.rest) e
        ∙ (led_append b (whole_lines x) (unfinished x) rest h ∙ ap (λ (c : Cut). after_piece c rest) (sym (cut_other b x h))))

pub lines_append : (x rest : List ℕ) → lines_of (x ++ rest) ≡ whole_lines x ++ lines_of (unfinished x ++ rest)
lines_append x rest = ap (λ (c : Cut). c.whole ++ last_line c.rest) (cut_append x rest) ∙ append_assoc (whole_lines x) _ _

-- what follows the last line feed has none
led_feedless : (b : ℕ) (w : List (List ℕ)) (u : List ℕ) → (b == 10) ≡ false → has_feed u ≡ false → has_feed (led_by_byte b w u).rest ≡ false
led_feedless b [] u h e = rw (h, e) refl
led_feedless b (l ∷ w) u h e = e

pub unfinished_feedless : (x : List ℕ) → has_feed (unfinished x) ≡ false
unfinished_feedless [] = refl
unfinished_feedless (b ∷ x) = by_byte (b == 10) refl (unfinished_feedless x)
  where
    by_byte : (t : Bool) → (b == 10) ≡ t → has_feed (unfinished x) ≡ false → has_feed (unfinished (b ∷ x)) ≡ false
    by_byte true h e = subst (λ (c : Cut). has_feed c.rest ≡ false) (sym (cut_feed b x h)) e
    by_byte false h e = subst (λ (c : Cut). has_feed c.rest ≡ false) (sym (cut_other b x h)) (led_feedless b (whole_lines x) (unfinished x) h e)

-- bytes of which none is a line feed
none_is_feed : (bytes : List ℕ) → ((k : ℕ) → k < length bytes → (get_or bytes k 0 == 10) ≡ false) → has_feed bytes ≡ false
none_is_feed [] h = refl
none_is_feed (b ∷ bytes) h = rw (h 0 (search rules), none_is_feed bytes (λ k g. h (suc k) (search rules))) refl

one_more : (t rest : Bool) (n m : ℕ) → suc n ≤ cond (not t) (1 + m) 0 → (n ≤ m → rest ≡ false) → (t || rest) ≡ false
one_more true rest n m h f = absurd (omega arith)
one_more false rest n m h f = f (omega arith)

prefix_feedless : (bytes : List ℕ) → length bytes ≤ prefix_len (λ x. not (x == 10)) bytes → has_feed bytes ≡ false
prefix_feedless [] h = refl
prefix_feedless (b ∷ bytes) h = one_more (b == 10) (has_feed bytes) (length bytes) (prefix_len (λ x. not (x == 10)) bytes) h (prefix_feedless bytes)

not_found : (m n : ℕ) → cond (nat_lt m n) (Some m) None ≡ None → n ≤ m
not_found m n e = grind (arith, nat_tests)

pub nowhere_feedless : (bytes : List ℕ) (r : Option ℕ) → r ≡ position (λ b. b == 10) bytes → r ≡ None → has_feed bytes ≡ false
nowhere_feedless bytes r e g = prefix_feedless bytes (not_found (position_or_len (λ b. b == 10) bytes) (length bytes) (sym e ∙ g))

before_feed : (bytes : List ℕ) (k j : ℕ) → j < k → (get_or bytes j 0 == 10) ≡ false → (get_or (take k bytes) j 0 == 10) ≡ false
before_feed bytes k j h e = rw (get_or-take k bytes j 0 h) e

-- the first line and the bytes after its line feed
pub first_line_feedless : (bytes : List ℕ) (k : ℕ) → Some k ≡ position (λ b. b == 10) bytes → has_feed (take k bytes) ≡ false
first_line_feedless bytes k e =
    let p = position-Some (λ b. b == 10) bytes k 0 (sym e) in
    none_is_feed (take k bytes) (λ j g. before_feed bytes k j (omega (arith, length-take k bytes)) (p.2 j (omega (arith, length-take k bytes))))

pub first_line_splits : (bytes : List ℕ) (k : ℕ) → Some k ≡ position (λ b. b == 10) bytes → bytes ≡ take k bytes ++ (10 ∷ drop (k + 1) bytes)
first_line_splits bytes k e =
    let p = position-Some (λ b. b == 10) bytes k 0 (sym e) in
    let is : get_or bytes k 0 ≡ 10 = eqb-true (get_or bytes k 0) 10 p.1 in
    split_at bytes k 0 p.0 ∙ rw (is, add-one) refl
