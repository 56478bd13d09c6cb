-- Lists that blocks are made of, where each member that is made is covered by one of the source.
use Rattle.std.proofs.Common.{◌≡◌, Bool, List, [], ◌∷◌, ◌++◌, map, refl, ap, sym, subst, ◌∙◌, inl, inr, ⊎_elim}
use Rattle.std.specs.Prelude.{⊤}
use Rattle.std.proofs.lemmas.List.{append-nil, map-append}
use Rattle.bl_tree.specs.declared.place.Place.{Place}
use Rattle.bl_tree.specs.declared.tree.Arm.{Arm, out-Arm, out-roll-Arm}
use Rattle.bl_tree.specs.declared.tree.Branch.{Branch, out-Branch}
use Rattle.bl_tree.specs.declared.tree.Expr.{Expr}
use Rattle.bl_tree.specs.declared.tree.Guard.{Guard}
use Rattle.bl_tree.specs.declared.tree.Stmt.{Stmt}
use Rattle.bl_tree.specs.declared.tree.StmtKind.TheOpen.{StmtKind-F}
use Rattle.bl_tree.specs.Instant.{is_instant_block}
use Rattle.bl_tree.specs.Reduce.{joined}
use Rattle.bl_tree.proofs.FirstLemmas.{In}
use Rattle.bl_tree.proofs.ReduceLemmas.{joined-append}
use Rattle.bl_peel.specs.Peeled.{made_arm, made_if, made_stmt, place_of_expr}
use Rattle.bl_peel_laws.proofs.Inheriting.{ArmsBelow, BranchesBelow, Inherits, more_arms, more_branches, no_arms, no_branches}
use Rattle.bl_types_laws.proofs.Starts.{in_left, in_right}

-- ---- covered lists

-- a member of a list stands in the relation to the member of another
pub record CoveredBy {A : Type 0} (R : A → A → Type 0) (ys : List A) (x : A) : Type 0 where
  pub other : A
  pub is_there : In other ys
  pub covers : R x other

-- each member of the second list is covered by one of the first
abbrev pub Covers : {A : Type 0} → (A → A → Type 0) → List A → List A → Type 0
Covers {A} R ys xs = (x : A) → In x xs → CoveredBy R ys x

-- each member of the second list is one of the first
abbrev pub Has : {A : Type 0} → List A → List A → Type 0
Has {A} ys xs = Covers (λ (x y : A). x ≡ y) ys xs

pub has_in : {A : Type 0} (ys xs : List A) → Has ys xs → (x : A) → In x xs → In x ys
has_in ys xs has x h = let it = has x h in subst (λ y. In y ys) (sym it.covers) it.is_there

module _ {A : Type 0} (R : A → A → Type 0) where
  pub covers_none : (ys : List A) → Covers R ys []
  covers_none ys x h = absurd h

  pub covers_both : (zs xs ys : List A) → Covers R zs xs → Covers R zs ys → Covers R zs (xs ++ ys)
  covers_both zs [] ys first second x h = second x h
  covers_both zs (a ∷ xs) ys first second x h =
      ⊎_elim (λ is. first x (inl is)) (λ later. covers_both zs xs ys (λ y there. first y (inr there)) second x later) h

  pub covers_left : (ys zs xs : List A) → Covers R ys xs → Covers R (ys ++ zs) xs
  covers_left ys zs xs covers x h =
      let it = covers x h in record { other = it.other; is_there = in_left it.other ys zs it.is_there; covers = it.covers }

  pub covers_right : (ys zs xs : List A) → Covers R zs xs → Covers R (ys ++ zs) xs
  covers_right ys zs xs covers x h =
      let it = covers x h in record { other = it.other; is_there = in_right it.other ys zs it.is_there; covers = it.covers }

  pub covers_beside : (a b c d : List A) → Covers R a b → Covers R c d → Covers R (a ++ c) (b ++ d)
  covers_beside a b c d one other = covers_both (a ++ c) b d (covers_left a c b one) (covers_right a c d other)

  pub covers_one : (y x : A) → R x y → Covers R (y ∷ []) (x ∷ [])
  covers_one y x relates z h =
      ⊎_elim (λ is. record { other = y; is_there = inl refl; covers = subst (λ z. R z y) (sym is) relates }) (λ later. absurd later) h

  pub covers_itself : ((x : A) → R x x) → (xs : List A) → Covers R xs xs
  covers_itself same xs x h = record { other = x; is_there = h; covers = same x }

  pub covers_by : (ys ys' xs xs' : List A) → ys ≡ ys' → xs ≡ xs' → Covers R ys' xs' → Covers R ys xs
  covers_by ys ys' xs xs' one other covers = subst (λ l. Covers R l xs) (sym one) (subst (λ l. Covers R ys' l) (sym other) covers)

pub fuse : {A B C : Type 0} (g : B → C) (f : A → B) (xs : List A) → map g (map f xs) ≡ map (λ x. g (f x)) xs
fuse g f [] = refl
fuse g f (x ∷ xs) = ap (λ rest. g (f x) ∷ rest) (fuse g f xs)

-- ---- what is listed for blocks

-- what is listed for a block is covered by what is listed for its source
abbrev pub Below : {A : Type 0} → (A → A → Type 0) → (Stmt → List A) → List Stmt → List Stmt → Type 0
Below R f body made = Covers R (joined (map f body)) (joined (map f made))

-- a relation of blocks, and what is listed for them
abbrev pub Both : {A : Type 0} → (List Stmt → List Stmt → Type 0) → (A → A → Type 0) → (Stmt → List A) → List Stmt → List Stmt → Type 0
Both Le R f body made = Le body made × Below R f body made

-- what is listed for the blocks in a statement is listed for the statement, and for a loop something of its own
pub record Listed {A : Type 0} (f : Stmt → List A) (own : Place → Bool → List A) : Type 0 where
  pub if_is : (place : Place) (arms : List Arm) (other : List Stmt) →
      f (made_stmt place (StmtKind-F.If arms other)) ≡ joined (map (λ arm. joined (map f (out-Arm arm).body)) arms) ++ joined (map f other)
  pub when_is : (place : Place) (guard : Guard) (e : Expr) (body : List Stmt) → f (made_stmt place (StmtKind-F.When guard e body)) ≡ joined (map f body)
  pub repeat_is : (place : Place) (body : List Stmt) →
      f (made_stmt place (StmtKind-F.Repeat body)) ≡ joined (map f body) ++ own place (is_instant_block body)
  pub until_is : (place : Place) (body : List Stmt) (e : Expr) →
      f (made_stmt place (StmtKind-F.Until body e)) ≡ joined (map f body) ++ own place (is_instant_block body)
  pub while_is : (place : Place) (e : Expr) (body : List Stmt) →
      f (made_stmt place (StmtKind-F.While e body)) ≡ joined (map f body) ++ own place (is_instant_block body)

pub body_is : (e : Expr) (body : List Stmt) → (out-Arm (made_arm e body)).body ≡ body
body_is e body = ap (λ arm. arm.body) (out-roll-Arm (record { test = e; body = body }))

-- nothing has to be kept
pub anything : Inherits (λ body made. ⊤)
anything = record {
  nothing = tt;
  alone = λ place layer none. tt;
  next = λ s body xs ys one more. tt;
  twice = λ body xs ys one more. tt;
  branching = λ place arms others a b in_arms in_other effect. tt;
  cobegin = λ place branches others each effect. tt;
  guarded = λ place guard e a b inner effect. tt;
  repeat = λ place a b inner effects effect. tt;
  until = λ place a b e inner effects effect. tt;
  while = λ place e a b inner effects effect. tt;
  in_repeat = λ place a b inner. tt;
  in_until = λ place a b e inner. tt;
  in_while = λ place e a b inner. tt;
  until_test = λ place a b e inner test. tt;
  while_test = λ place e a b inner test. tt;
}

module _ {A : Type 0} (Le : List Stmt → List Stmt → Type 0) (R : A → A → Type 0) (f : Stmt → List A) where
  arms_of : {arms others : List Arm} → ArmsBelow (Both Le R f) arms others → ArmsBelow Le arms others
  arms_of no_arms = no_arms
  arms_of (more_arms test inner rest) = more_arms test inner.0 (arms_of rest)

  branches_of : {branches others : List Branch} → BranchesBelow (Both Le R f) branches others → BranchesBelow Le branches others
  branches_of no_branches = no_branches
  branches_of (more_branches weak inner rest) = more_branches weak inner.0 (branches_of rest)

  abbrev arm_lists : List Arm → List A
  arm_lists arms = joined (map (λ arm. joined (map f (out-Arm arm).body)) arms)

  abbrev branch_lists : List Branch → List A
  branch_lists branches = joined (map (λ branch. joined (map f (out-Branch branch).body)) branches)

  arms_covered : {arms others : List Arm} → ArmsBelow (Both Le R f) arms others → Covers R (arm_lists arms) (arm_lists others)
  arms_covered no_arms = covers_none R []
  arms_covered (more_arms {arm} {made} {arms} {others} test inner rest) =
      covers_beside R (joined (map f (out-Arm arm).body)) (joined (map f (out-Arm made).body)) (arm_lists arms) (arm_lists others) inner.1 (arms_covered rest)

  branches_covered : {branches others : List Branch} → BranchesBelow (Both Le R f) branches others → Covers R (branch_lists branches) (branch_lists others)
  branches_covered no_branches = covers_none R []
  branches_covered (more_branches {branch} {made} {branches} {others} weak inner rest) =
      covers_beside R (joined (map f (out-Branch branch).body)) (joined (map f (out-Branch made).body)) (branch_lists branches) (branch_lists others)
      inner.1 (branches_covered rest)

  -- what is listed for the branches of a `cobegin`, where nothing else is listed for it
  pub cobegin_covered : ((place : Place) (branches : List Branch) → f (made_stmt place (StmtKind-F.Cobegin branches)) ≡ branch_lists branches) →
      (place : Place) (branches others : List Branch) → BranchesBelow (Both Le R f) branches others →
      Covers R (f (made_stmt place (StmtKind-F.Cobegin branches))) (f (made_stmt place (StmtKind-F.Cobegin others)))
  cobegin_covered is place branches others each =
      covers_by R (f (made_stmt place (StmtKind-F.Cobegin branches))) (branch_lists branches) (f (made_stmt place (StmtKind-F.Cobegin others)))
      (branch_lists others) (is place branches) (is place others) (branches_covered each)

  -- one statement of another
  single : (s t : Stmt) → Covers R (f s) (f t) → Below R f (s ∷ []) (t ∷ [])
  single s t covers = covers_beside R (f s) (f t) [] [] covers (covers_none R [])

  -- a list instead of a statement of which it is a part
  part : (s : Stmt) (inner own : List A) (xs : List A) → f s ≡ inner ++ own → Covers R inner xs → Covers R (f s ++ []) xs
  part s inner own xs is covers =
      covers_left R (f s) [] xs (subst (λ l. Covers R l xs) (sym is) (covers_left R inner own xs covers))

  one_after : (s : Stmt) (body xs ys : List Stmt) → Below R f (s ∷ []) xs → Below R f body ys → Below R f (s ∷ body) (xs ++ ys)
  one_after s body xs ys one more =
      subst (λ l. Covers R (f s ++ joined (map f body)) l) (sym (ap joined (map-append f xs ys) ∙ joined-append (map f xs) (map f ys)))
      (covers_beside R (f s) (joined (map f xs)) (joined (map f body)) (joined (map f ys))
      (subst (λ l. Covers R l (joined (map f xs))) (append-nil (f s)) one) more)

  one_beside : (body xs ys : List Stmt) → Below R f body xs → Below R f body ys → Below R f body (xs ++ ys)
  one_beside body xs ys one more =
      subst (λ l. Covers R (joined (map f body)) l) (sym (ap joined (map-append f xs ys) ∙ joined-append (map f xs) (map f ys)))
      (covers_both R (joined (map f body)) (joined (map f xs)) (joined (map f ys)) one more)

  module _ (same : (x : A) → R x x) (own : Place → Bool → List A) (listed : Listed f own) where
    loop_covered : (place : Place) (a b : List Stmt) (s t : Stmt) → f s ≡ joined (map f a) ++ own place (is_instant_block a) →
        f t ≡ joined (map f b) ++ own place (is_instant_block b) → is_instant_block b ≡ is_instant_block a → Below R f a b → Below R f (s ∷ []) (t ∷ [])
    loop_covered place a b s t one other ends inner =
        single s t
        (covers_by R (f s) (joined (map f a) ++ own place (is_instant_block a)) (f t) (joined (map f b) ++ own place (is_instant_block a))
        one (other ∙ ap (λ c. joined (map f b) ++ own place c) ends)
        (covers_beside R (joined (map f a)) (joined (map f b)) (own place (is_instant_block a)) (own place (is_instant_block a)) inner
        (covers_itself R same (own place (is_instant_block a)))))

    -- a made `if` around what stands in the place of a loop
    test_covered : (e : Expr) (a c : List Stmt) (loop : Stmt) → Below R f (loop ∷ []) a → Below R f (loop ∷ []) c →
        Below R f (loop ∷ []) (made_if e a c ∷ [])
    test_covered e a c loop first second =
        let arm = made_arm e a in
        covers_both R (f loop ++ []) (f (made_if e a c)) []
        (subst (λ l. Covers R (f loop ++ []) l) (sym (listed.if_is (place_of_expr e) (arm ∷ []) c))
        (covers_both R (f loop ++ []) (joined (map f (out-Arm arm).body) ++ []) (joined (map f c))
        (covers_both R (f loop ++ []) (joined (map f (out-Arm arm).body)) []
        (subst (λ body. Covers R (f loop ++ []) (joined (map f body))) (sym (body_is e a)) first) (covers_none R (f loop ++ []))) second))
        (covers_none R (f loop ++ []))

    -- what is listed is kept beside what is kept already, where that of a `cobegin` is
    pub with_listed : Inherits Le → ((place : Place) (branches others : List Branch) → BranchesBelow (Both Le R f) branches others →
        Covers R (f (made_stmt place (StmtKind-F.Cobegin branches))) (f (made_stmt place (StmtKind-F.Cobegin others)))) → Inherits (Both Le R f)
    with_listed rules of_branches = record {
      nothing = (rules.nothing, covers_none R []);
      alone = λ place layer none. (rules.alone place layer none, covers_itself R same (f (made_stmt place layer) ++ []));
      next = λ s body xs ys one more. (rules.next s body xs ys one.0 more.0, one_after s body xs ys one.1 more.1);
      twice = λ body xs ys one more. (rules.twice body xs ys one.0 more.0, one_beside body xs ys one.1 more.1);
      branching = λ place arms others a b in_arms in_other effect. (
        rules.branching place arms others a b (arms_of in_arms) in_other.0 effect,
        single (made_stmt place (StmtKind-F.If arms a)) (made_stmt place (StmtKind-F.If others b))
            (covers_by R (f (made_stmt place (StmtKind-F.If arms a))) (arm_lists arms ++ joined (map f a)) (f (made_stmt place (StmtKind-F.If others b)))
            (arm_lists others ++ joined (map f b)) (listed.if_is place arms a) (listed.if_is place others b)
            (covers_beside R (arm_lists arms) (arm_lists others) (joined (map f a)) (joined (map f b)) (arms_covered in_arms) in_other.1)),
      );
      cobegin = λ place branches others each effect. (
        rules.cobegin place branches others (branches_of each) effect,
        single (made_stmt place (StmtKind-F.Cobegin branches)) (made_stmt place (StmtKind-F.Cobegin others)) (of_branches place branches others each),
      );
      guarded = λ place guard e a b inner effect. (
        rules.guarded place guard e a b inner.0 effect,
        single (made_stmt place (StmtKind-F.When guard e a)) (made_stmt place (StmtKind-F.When guard e b))
            (covers_by R (f (made_stmt place (StmtKind-F.When guard e a))) (joined (map f a)) (f (made_stmt place (StmtKind-F.When guard e b)))
            (joined (map f b)) (listed.when_is place guard e a) (listed.when_is place guard e b) inner.1),
      );
      repeat = λ place a b inner effects effect. (
        rules.repeat place a b inner.0 effects effect,
        loop_covered place a b (made_stmt place (StmtKind-F.Repeat a)) (made_stmt place (StmtKind-F.Repeat b)) (listed.repeat_is place a)
            (listed.repeat_is place b) effects.instant inner.1,
      );
      until = λ place a b e inner effects effect. (
        rules.until place a b e inner.0 effects effect,
        loop_covered place a b (made_stmt place (StmtKind-F.Until a e)) (made_stmt place (StmtKind-F.Until b e)) (listed.until_is place a e)
            (listed.until_is place b e) effects.instant inner.1,
      );
      while = λ place e a b inner effects effect. (
        rules.while place e a b inner.0 effects effect,
        loop_covered place a b (made_stmt place (StmtKind-F.While e a)) (made_stmt place (StmtKind-F.While e b)) (listed.while_is place e a)
            (listed.while_is place e b) effects.instant inner.1,
      );
      in_repeat = λ place a b inner. (
        rules.in_repeat place a b inner.0,
        part (made_stmt place (StmtKind-F.Repeat a)) (joined (map f a)) (own place (is_instant_block a)) (joined (map f b))
            (listed.repeat_is place a) inner.1,
      );
      in_until = λ place a b e inner. (
        rules.in_until place a b e inner.0,
        part (made_stmt place (StmtKind-F.Until a e)) (joined (map f a)) (own place (is_instant_block a)) (joined (map f b))
            (listed.until_is place a e) inner.1,
      );
      in_while = λ place e a b inner. (
        rules.in_while place e a b inner.0,
        part (made_stmt place (StmtKind-F.While e a)) (joined (map f a)) (own place (is_instant_block a)) (joined (map f b))
            (listed.while_is place e a) inner.1,
      );
      until_test = λ place a b e inner test. (
        rules.until_test place a b e inner.0 test,
        test_covered e [] b (made_stmt place (StmtKind-F.Until a e)) (covers_none R (f (made_stmt place (StmtKind-F.Until a e)) ++ [])) inner.1,
      );
      while_test = λ place e a b inner test. (
        rules.while_test place e a b inner.0 test,
        test_covered e b [] (made_stmt place (StmtKind-F.While e a)) inner.1 (covers_none R (f (made_stmt place (StmtKind-F.While e a)) ++ [])),
      );
    }
