-- What is made behind one part and then another.
use Rattle.std.proofs.Common.{◌≡◌, ℕ, ◌+◌, ◌<◌, List, [], ◌∷◌, ◌++◌, map, drop, length, get_or, sym, ap, ◌∙◌, append_assoc, append-nil, arith}
use Rattle.std.proofs.lemmas.List.{length-append}
use Rattle.std.specs.Prelude.{Result, Ok, Err, OnOk}
use Rattle.bl_tree.proofs.Basics.{drop_next}
use Rattle.bl_names_tree.specs.declared.stmt.NamedStmt.{NamedStmt}
use Rattle.bl_names_scopes.specs.declared.kind.Kind.{Kind}
use Rattle.bl_names_scopes.specs.Marks.{Marks, closes, declared_after, declares, in_scope, opens}
use Rattle.bl_names_scopes.specs.Scopes.{Scopes, after, enter}
use Rattle.bl_parse_tree.specs.declared.name.Name.{Name}
use Rattle.bl_names.specs.declared.state.State.{State}
use Rattle.bl_names.specs.Named.{Piece, all, constants_of_all, followed, marks_of_all, none, opened, own_scope, scoped, vars_of_all}
use Rattle.bl_names.specs.inner.Past.{past}
use Rattle.bl_names.proofs.StillLemmas.{Still, after-append}

-- counts behind one part and then another
pub sums : (a b c x y : ℕ) → b ≡ a + x → c ≡ b + y → c ≡ a + (x + y)
sums a b c x y one two = omega arith

pub more : {A : Type 0} (xs ys : List A) (a b c : ℕ) → b ≡ a + length xs → c ≡ b + length ys → c ≡ a + length (xs ++ ys)
more xs ys a b c one two = sums a b c (length xs) (length ys) one two ∙ ap (λ n. a + n) (sym (length-append xs ys))

-- what holds anyway
pub sure : {A E : Type 0} (P : Type 0) (r : Result A E) → P → OnOk r P
sure P (Ok x) h = h
sure P (Err e) h = tt

-- one part and then another
pub past-followed : {A B : Type 0} (state : State) (first : Piece A) (second : Piece B) →
    past (past state first) second ≡ past state (followed first second)
past-followed state first second = λ i. record state {
  scopes = sym (after-append state.scopes first.marks second.marks) i;
  constants = append_assoc state.constants (first.constants state.scopes) (second.constants (after state.scopes first.marks)) i;
  vars = append_assoc state.vars (first.vars state.scopes) (second.vars (after state.scopes first.marks)) i;
}

-- one more of several
pub past-next : {X A : Type 0} (piece : X → Piece A) (xs rest : List X) (x : X) (state found : State) → xs ≡ x ∷ rest →
    past state (all (map piece xs)) ≡ found → past (past state (piece x)) (all (map piece rest)) ≡ found
past-next piece xs rest x state found is h =
    past-followed state (piece x) (all (map piece rest)) ∙ ap (λ l. past state (all (map piece l))) (sym is) ∙ h

pub made-next : {X A : Type 0} (piece : X → Piece A) (xs rest : List X) (x : X) (scopes : Scopes) (made found : List A) → xs ≡ x ∷ rest →
    made ++ (all (map piece xs)).made scopes ≡ found
    → (made ++ ((piece x).made scopes ∷ [])) ++ (all (map piece rest)).made (after scopes (piece x).marks) ≡ found
made-next piece xs rest x scopes made found is h =
    append_assoc made ((piece x).made scopes ∷ []) ((all (map piece rest)).made (after scopes (piece x).marks))
    ∙ ap (λ l. made ++ (all (map piece l)).made scopes) (sym is) ∙ h

-- a part that declares nothing
pub past-plain : {A : Type 0} (state : State) (piece : Piece A) → Still piece.marks → piece.constants ≡ none → piece.vars ≡ none →
    state ≡ past state piece
past-plain state piece still no_constants no_vars = λ i. record state {
  scopes = sym (still state.scopes) i;
  constants = (sym (append-nil state.constants) ∙ ap (λ gives. state.constants ++ gives state.scopes) (sym no_constants)) i;
  vars = (sym (append-nil state.vars) ∙ ap (λ gives. state.vars ++ gives state.scopes) (sym no_vars)) i;
}

-- a part in a scope of its own
pub past-own : {A : Type 0} (state : State) (piece : Piece A) →
    record (past (record state { scopes = enter state.scopes opens }) piece)
    { scopes = enter (past (record state { scopes = enter state.scopes opens }) piece).scopes closes }
    ≡ past state (own_scope piece)
past-own state piece = λ i. record (past (record state { scopes = enter state.scopes opens }) piece) {
  scopes = sym (after-append (enter state.scopes opens) piece.marks (closes ∷ [])) i;
}

-- statements in a scope of their own, behind uses
pub past-behind : {A : Type 0} (state : State) (before : Marks) (body : List (Piece NamedStmt)) (made : Scopes → List NamedStmt → A) → Still before →
    past state (own_scope (all body)) ≡ past state (scoped before (before ++ in_scope (marks_of_all body)) body made)
past-behind state before body made still = λ i. record state {
  scopes =
      sym (after-append state.scopes before (in_scope (marks_of_all body))
      ∙ ap (λ scopes. after scopes (in_scope (marks_of_all body))) (still state.scopes)) i;
  constants = state.constants ++ constants_of_all body (opened (sym (still state.scopes) i));
  vars = state.vars ++ vars_of_all body (opened (sym (still state.scopes) i));
}

-- and before uses
pub past-before : {A : Type 0} (state : State) (behind : Marks) (body : List (Piece NamedStmt)) (made : Scopes → List NamedStmt → A) → Still behind →
    past state (own_scope (all body)) ≡ past state (scoped [] (in_scope (marks_of_all body) ++ behind) body made)
past-before state behind body made still = λ i. record state {
  scopes = sym (after-append state.scopes (in_scope (marks_of_all body)) behind ∙ still (after state.scopes (in_scope (marks_of_all body)))) i;
  constants = state.constants ++ constants_of_all body (opened state.scopes);
  vars = state.vars ++ vars_of_all body (opened state.scopes);
}

-- a declaration, behind the uses in it
pub enter-behind : (scopes : Scopes) (marks : Marks) (name : Name) (kind : Kind) → Still marks → enter scopes (declares name kind)
    ≡ after scopes (declared_after marks name kind)
enter-behind scopes marks name kind still =
    ap (λ s. enter s (declares name kind)) (sym (still scopes)) ∙ sym (after-append scopes marks (declares name kind ∷ []))

-- ---- steps of a walk

pub loop_past : {X A : Type 0} (piece : X → Piece A) (xs : List X) (k : ℕ) (x : X) (state new found : State) → k < length xs → x ≡ get_or xs k x →
    new ≡ past state (piece x) → past state (all (map piece (drop k xs))) ≡ found → past new (all (map piece (drop (k + 1) xs))) ≡ found
loop_past piece xs k x state new found within is step h =
    ap (λ s. past s (all (map piece (drop (k + 1) xs)))) step
    ∙ past-next piece (drop k xs) (drop (k + 1) xs) x state found (drop_next xs k x within is) h

pub loop_made : {X A : Type 0} (piece : X → Piece A) (xs : List X) (k : ℕ) (x : X) (state new : State) (one : A)
    (made pushed found : List A) → k < length xs
    → x ≡ get_or xs k x →
    new ≡ past state (piece x) → one ≡ (piece x).made state.scopes → pushed ≡ made ++ (one ∷ []) →
    made ++ (all (map piece (drop k xs))).made state.scopes
    ≡ found →
    pushed ++ (all (map piece (drop (k + 1) xs))).made new.scopes ≡ found
loop_made piece xs k x state new one made pushed found within is step one_is pushed_is h =
    (λ i. (pushed_is ∙ (λ j. made ++ (one_is j ∷ []))) i ++ (all (map piece (drop (k + 1) xs))).made (step i).scopes)
    ∙ made-next piece (drop k xs) (drop (k + 1) xs) x state.scopes made found (drop_next xs k x within is) h

pub closed_past : {A : Type 0} (state new : State) (begun ended : Scopes) (piece : Piece A) → begun ≡ enter state.scopes opens →
    new ≡ past (record state { scopes = begun }) piece → ended ≡ enter new.scopes closes →
    record new { scopes = ended } ≡ past state (own_scope piece)
closed_past state new begun ended piece one two three =
    (λ i. record new { scopes = three i })
    ∙ (λ i. record (two i) { scopes = enter (two i).scopes closes })
    ∙ (λ i. record (past (record state { scopes = one i }) piece) { scopes = enter (past (record state { scopes = one i }) piece).scopes closes })
    ∙ past-own state piece
