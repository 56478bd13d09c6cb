-- Blocks that follow: one more at the end comes first.
use Rattle.std.proofs.Common.{◌≡◌, ◌+◌, ◌<◌, ◌≤◌, ℕ, List, [], ◌∷◌, ◌++◌, Option, Some, None, true, false, length, get_or, take, drop, refl, sym, ap, ◌∙◌}
use Rattle.std.proofs.Common.{append_assoc, arith}
use Rattle.std.proofs.lemmas.List.{drop_more, nil_from_length, take_more}
use Rattle.bl_tree.specs.declared.c.CStmt.{CStmt}
use Rattle.bl_simplify_walk.specs.Blocks.{in_turn}
use Rattle.bl_simplify_walk.specs.Forms.{else_of}

pub append-nil : {A : Type 0} → (xs : List A) → xs ++ [] ≡ xs
append-nil [] = refl
append-nil (x ∷ xs) = ap (λ l. x ∷ l) (append-nil xs)

pub in_turn_last : {B : Type 0} → (now : B → List CStmt) (blocks : List B) (last : B) → in_turn now (blocks ++ last ∷ []) ≡ now last ++ in_turn now blocks
in_turn_last now [] last = sym (append-nil (now last))
in_turn_last now (b ∷ bs) last = ap (λ l. l ++ now b) (in_turn_last now bs last) ∙ append_assoc (now last) (in_turn now bs) (now b)

-- behind an empty block the last one comes next
pub next_first : {B : Type 0} → (now : B → List CStmt) (block : List CStmt) (rest others : List B) (next : B) → length block ≡ 0 →
    rest ≡ others ++ next ∷ [] → now next ++ in_turn now others ≡ block ++ in_turn now rest
next_first now block rest others next none is =
    sym (in_turn_last now others next) ∙ (ap (in_turn now) (sym is) ∙ ap (λ b. b ++ in_turn now rest) (sym (nil_from_length block none)))

-- one block more
pub in_turn_more : {B : Type 0} → (now : B → List CStmt) (blocks : List B) (k : ℕ) (block : B) (made all : List CStmt) → k < length blocks →
    block ≡ get_or blocks k block → made ≡ in_turn now (take k blocks) → all ≡ now block ++ made → all ≡ in_turn now (take (k + 1) blocks)
in_turn_more now blocks k block made all short is so whole =
    whole ∙ (ap (λ l. now block ++ l) so ∙ (sym (in_turn_last now (take k blocks) block)
    ∙ (ap (λ b. in_turn now (take k blocks ++ b ∷ [])) is ∙ sym (ap (in_turn now) (take_more blocks k block short)))))

-- the last of some statements goes before others
pub popped : (left after made more whole : List CStmt) (stmt : CStmt) → left ≡ after ++ stmt ∷ [] → left ++ made ≡ whole → more ≡ stmt ∷ made →
    after ++ more ≡ whole
popped left after made more whole stmt is all so =
    ap (λ m. after ++ m) so ∙ (sym (append_assoc after (stmt ∷ []) made) ∙ (ap (λ l. l ++ made) (sym is) ∙ all))

-- blocks that end with the same statements do so with one more
pub one_end_more : (a b : List CStmt) (p q : ℕ) (x y : CStmt) → p + 1 ≤ length a → q + 1 ≤ length b → x ≡ get_or a p x → y ≡ get_or b q y → x ≡ y →
    drop (p + 1) a ≡ drop (q + 1) b → drop p a ≡ drop q b
one_end_more a b p q x y small little first second same rest =
    drop_more a p x (omega arith) ∙ (ap (λ s. s ∷ drop (p + 1) a) (sym first ∙ same) ∙ (ap (λ l. y ∷ l) rest
    ∙ (ap (λ s. s ∷ drop (q + 1) b) second ∙ sym (drop_more b q y (omega arith)))))

-- what follows, where a part of the next block is taken off
pub part_of : {B : Type 0} → (now : B → List CStmt) (rest others : List B) (next : B) (near far left : List CStmt) → rest ≡ others ++ next ∷ [] →
    now next ≡ near ++ far → left ≡ far ++ in_turn now others → in_turn now rest ≡ near ++ left
part_of now rest others next near far left is parts so =
    ap (in_turn now) is ∙ (in_turn_last now others next ∙ (ap (λ b. b ++ in_turn now others) parts ∙ (append_assoc near far (in_turn now others)
    ∙ ap (λ l. near ++ l) (sym so))))

pub else_some : (block : List CStmt) → (block ≡ [] → false ≡ true) → Some block ≡ else_of block
else_some [] some = absurd (no (some refl))
  where
    no : false ≡ true → ⊥
    no h = cc
else_some (s ∷ rest) some = refl
