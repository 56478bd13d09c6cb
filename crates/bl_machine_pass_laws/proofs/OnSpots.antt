-- The resting places of a body differ: those of different statements have labels at different positions.
use Rattle.std.proofs.Common.{◌≡◌, ◌⊎◌, inl, inr, ℕ, suc, ◌≤◌, List, [], ◌∷◌, ◌++◌, map, refl, sym, ◌∙◌, subst, arith}
use Rattle.std.proofs.lemmas.List.Elements.{All-head, All-tail}
use Rattle.bl_tree.specs.declared.place.Place.{Place}
use Rattle.bl_tree.specs.declared.tree.Arm.{Arm, out-Arm}
use Rattle.bl_tree.specs.declared.tree.Branch.{Branch, out-Branch}
use Rattle.bl_tree.specs.declared.tree.Stmt.{Stmt, fold-roll-Stmt}
use Rattle.bl_tree.specs.declared.tree.StmtKind.{fold-roll-StmtKind}
use Rattle.bl_tree.specs.declared.tree.StmtKind.TheOpen.{StmtKind-F}
use Rattle.bl_tree.proofs.StmtInduction.{Cases, Each, EachArm, EachBranch, induct, stmt}
use Rattle.bl_graph_nodes.specs.Plain.{Label, Plain, Position, block_from, bodies_from, else_at, inside, label_at, passed_one, plain_block, plain_stmt}
use Rattle.bl_graph_nodes.specs.Laws.{Begins, plain_arm, plain_branch}
use Rattle.bl_graph_nodes.proofs.Equations.{plain_statements}
use Rattle.bl_graph_nodes.proofs.Labels.{itself, one_on, positions_part, through}
use Rattle.bl_machine_pass.specs.SlotLayout.{EndOf, RestOf, Spot, spots_in, spots_in_each, spots_of}
use Rattle.bl_machine_pass_laws.specs.Spots.{Has, SpotsAreDistinct, SpotsDiffer, spot_position}
use Rattle.bl_graph_nodes.proofs.Differing.{is_no_further}

-- ---- lists

abbrev Disjoint : List Spot → List Spot → Type 0
Disjoint xs ys = (p : Spot) → Has xs p → Has ys p → ⊥

pub has_cases : (xs ys : List Spot) (p : Spot) → Has (xs ++ ys) p → Has xs p ⊎ Has ys p
has_cases [] ys p h = inr h
has_cases (x ∷ xs) ys p (inl e) = inl (inl e)
has_cases (x ∷ xs) ys p (inr h) = elim (has_cases xs ys p h) [ inl a ↦ inl (inr a) | inr b ↦ inr b ]

differ_append : (xs ys : List Spot) → SpotsAreDistinct xs → SpotsAreDistinct ys → Disjoint xs ys → SpotsAreDistinct (xs ++ ys)
differ_append [] ys one two apart = two
differ_append (x ∷ xs) ys one two apart = (
  λ h. elim (has_cases xs ys x h) [ inl a ↦ one.0 a | inr b ↦ apart x (inl refl) b ],
  differ_append xs ys one.1 two (λ p a b. apart p (inr a) b),
)

-- ---- positions

-- the place of a statement in one of the blocks from the one with number k on
record Past (block : Position) (k : ℕ) (p : Spot) : Type 0 where
  number : ℕ
  past : k ≤ number
  begins : Begins (block ++ number ∷ []) (spot_position p)

past_more : (block : Position) (j k : ℕ) (p : Spot) → j ≤ k → Past block k p → Past block j p
past_more block j k p le past =
    let more = past.past in record { number = past.number; past = omega arith; begins = past.begins }

past_apart : (block : Position) (k : ℕ) (p : Spot) → Begins (block ++ k ∷ []) (spot_position p) → Past block (suc k) p → ⊥
past_apart block k p begins past =
    let same = positions_part block (spot_position p) k past.number begins past.begins in let more = past.past in omega arith

past_begins : (block : Position) (k : ℕ) (p : Spot) → Past block k p → Begins block (spot_position p)
past_begins block k p past = through block (block ++ past.number ∷ []) (spot_position p) (one_on block past.number) past.begins

-- ---- blocks

-- the places of a statement differ, and belong to statements below its position
abbrev Alone : Stmt → Type 0
Alone s = (at : Position) → SpotsAreDistinct (spots_of (plain_stmt s at)) × ((p : Spot) → Has (spots_of (plain_stmt s at)) p → Begins at (spot_position p))

block_past : (body : List Stmt) (k : ℕ) (block : Position) → Each Alone body → (p : Spot) →
    Has (spots_in (block_from (map plain_stmt body) k block)) p → Past block k p
block_past [] k block each p h = elim h [ ]
block_past (s ∷ rest) k block each p h =
    elim (has_cases (spots_of (plain_stmt s (block ++ k ∷ []))) (spots_in (block_from (map plain_stmt rest) (suc k) block)) p h) [
      | inl a ↦ record { number = k; past = omega arith; begins = (All-head Alone s rest each (block ++ k ∷ [])).1 p a }
      | inr b ↦ past_more block k (suc k) p (omega arith) (block_past rest (suc k) block (All-tail Alone s rest each) p b)
    ]

block_differs : (body : List Stmt) (k : ℕ) (block : Position) → Each Alone body → SpotsAreDistinct (spots_in (block_from (map plain_stmt body) k block))
block_differs [] k block each = tt
block_differs (s ∷ rest) k block each =
    differ_append _ _ (All-head Alone s rest each (block ++ k ∷ [])).0 (block_differs rest (suc k) block (All-tail Alone s rest each))
    (λ p a b. past_apart block k p ((All-head Alone s rest each (block ++ k ∷ [])).1 p a)
    (block_past rest (suc k) block (All-tail Alone s rest each) p b))

-- a block in a statement
inner_begins : (body : List Stmt) (l : Label) (k : ℕ) → Each Alone body → (p : Spot) → Has (spots_in (plain_block body (inside l k))) p →
    Begins (inside l k) (spot_position p)
inner_begins body l k each p h = past_begins (inside l k) 0 p (block_past body 0 (inside l k) each p h)

inner_differs : (body : List Stmt) (l : Label) (k : ℕ) → Each Alone body → SpotsAreDistinct (spots_in (plain_block body (inside l k)))
inner_differs body l k each = block_differs body 0 (inside l k) each

inner_past : (body : List Stmt) (l : Label) (k : ℕ) → Each Alone body → (p : Spot) → Has (spots_in (plain_block body (inside l k))) p →
    Past l.position k p
inner_past body l k each p h = record { number = k; past = omega arith; begins = inner_begins body l k each p h }

-- ---- arms

drop_nil : (xs : List Spot) (p : Spot) → Has (xs ++ []) p → Has xs p
drop_nil xs p h = elim (has_cases xs [] p h) [ inl one ↦ one | inr none ↦ elim none [ ] ]

arms_past : (l : Label) (arms : List Arm) (other : List Stmt) → EachArm Alone arms → Each Alone other → (p : Spot) →
    Has (spots_in (else_at l (map plain_arm arms) (plain_block other))) p → Past l.position l.passed p
arms_past l [] other each others p h = inner_past other l l.passed others p h
arms_past l (arm ∷ rest) other each others p h =
    let body : List Spot = spots_in (plain_block (out-Arm arm).body (inside l l.passed)) in
    let further : List Spot = spots_in (else_at (passed_one l) (map plain_arm rest) (plain_block other)) in
    let here = All-head (λ arm. Each Alone (out-Arm arm).body) arm rest each in
    let more = All-tail (λ arm. Each Alone (out-Arm arm).body) arm rest each in
    elim (has_cases body further p (drop_nil (body ++ further) p h)) [
      | inl one ↦ inner_past (out-Arm arm).body l l.passed here p one
      | inr b ↦ past_more l.position l.passed (suc l.passed) p (omega arith) (arms_past (passed_one l) rest other more others p b)
    ]

arms_differ : (l : Label) (arms : List Arm) (other : List Stmt) → EachArm Alone arms → Each Alone other →
    SpotsAreDistinct (spots_in (else_at l (map plain_arm arms) (plain_block other)))
arms_differ l [] other each others = inner_differs other l l.passed others
arms_differ l (arm ∷ rest) other each others =
    let here = All-head (λ arm. Each Alone (out-Arm arm).body) arm rest each in
    let more = All-tail (λ arm. Each Alone (out-Arm arm).body) arm rest each in
    differ_append (spots_in (plain_block (out-Arm arm).body (inside l l.passed)) ++ spots_in (else_at (passed_one l) (map plain_arm rest) (plain_block other)))
    [] (differ_append (spots_in (plain_block (out-Arm arm).body (inside l l.passed)))
    (spots_in (else_at (passed_one l) (map plain_arm rest) (plain_block other))) (inner_differs (out-Arm arm).body l l.passed here)
    (arms_differ (passed_one l) rest other more others)
    (λ p a b. past_apart l.position l.passed p (inner_begins (out-Arm arm).body l l.passed here p a) (arms_past (passed_one l) rest other more others p b)))
    tt (λ p a b. elim b [ ])

-- ---- branches

bodies_differ : (branches : List Branch) (k : ℕ) (at : Position) → EachBranch Alone branches →
    SpotsAreDistinct (spots_in_each (label_at at) k (bodies_from (map plain_branch branches) k (label_at at)))
    × ((p : Spot) → Has (spots_in_each (label_at at) k (bodies_from (map plain_branch branches) k (label_at at))) p →
    Past at k p ⊎ ((j : ℕ) × (k ≤ j) × (p ≡ EndOf (label_at at) j)))
bodies_differ [] k at each = (tt, λ p h. elim h [ ])
bodies_differ (b ∷ rest) k at each =
    let l : Label = label_at at in
    let here = All-head (λ b. Each Alone (out-Branch b).body) b rest each in
    let more = All-tail (λ b. Each Alone (out-Branch b).body) b rest each in
    let body : List Spot = spots_in (plain_block (out-Branch b).body (inside l k)) in
    let further : List Spot = spots_in_each l (suc k) (bodies_from (map plain_branch rest) (suc k) l) in
    let inner = bodies_differ rest (suc k) at more in (
      (
        λ h. elim (has_cases body further (EndOf l k) h) [
          | inl a ↦ let begins = inner_begins (out-Branch b).body l k here (EndOf l k) a in is_no_further at k begins.rest begins.is
          | inr c ↦ elim (inner.1 (EndOf l k) c) [
            | inl past ↦ is_no_further at past.number past.begins.rest past.begins.is
            | inr end ↦ let le = end.1 in let same : k ≡ end.0 = end_number (label_at at) k end.0 end.2 in omega arith
          ]
        ],
        differ_append body further (inner_differs (out-Branch b).body l k here) inner.0 (λ p one two. elim (inner.1 p two) [
          | inl past ↦ past_apart at k p (inner_begins (out-Branch b).body l k here p one) past
          | inr end ↦ let begins = subst (λ x. Begins (at ++ k ∷ []) (spot_position x)) end.2 (inner_begins (out-Branch b).body l k here p one) in
              is_no_further at k begins.rest begins.is
        ]),
      ),
      λ p h. elim h [
        | inl is ↦ inr (k, omega arith, is)
        | inr h ↦ elim (has_cases body further p h) [
          | inl a ↦ inl (record { number = k; past = omega arith; begins = inner_begins (out-Branch b).body l k here p a })
          | inr c ↦ elim (inner.1 p c) [
            | inl past ↦ inl (past_more at k (suc k) p (omega arith) past)
            | inr end ↦ let le = end.1 in inr (end.0, omega arith, end.2)
          ]
        ]
      ],
    )
  where
    end_number : (l : Label) (j k : ℕ) → EndOf l j ≡ EndOf l k → j ≡ k
    end_number l j k is = cc

-- ---- statements

of_plain : (one other : Plain) (at : Position) → one ≡ other →
    SpotsAreDistinct (spots_of other) × ((p : Spot) → Has (spots_of other) p → Begins at (spot_position p)) →
    SpotsAreDistinct (spots_of one) × ((p : Spot) → Has (spots_of one) p → Begins at (spot_position p))
of_plain one other at is shown = subst (λ s. SpotsAreDistinct (spots_of s) × ((p : Spot) → Has (spots_of s) p → Begins at (spot_position p))) (sym is) shown

-- without places
none : (at : Position) → SpotsAreDistinct [] × ((p : Spot) → Has [] p → Begins at (spot_position p))
none at = (tt, λ p h. elim h [ ])

-- with one place, of the statement itself
single : (at : Position) → SpotsAreDistinct (RestOf (label_at at) ∷ []) × ((p : Spot) → Has (RestOf (label_at at) ∷ []) p → Begins at (spot_position p))
single at = (
  (λ h. elim h [ ], tt),
  λ p h. elim h [ inl is ↦ subst (λ x. Begins at (spot_position x)) (sym is) (itself at) | inr other ↦ elim other [ ] ],
)

-- with the places of one block
one_block : (body : List Stmt) (at : Position) → Each Alone body → SpotsAreDistinct (spots_in (plain_block body (inside (label_at at) 0)))
    × ((p : Spot) → Has (spots_in (plain_block body (inside (label_at at) 0))) p → Begins at (spot_position p))
one_block body at each = (
  inner_differs body (label_at at) 0 each,
  λ p h. through at (at ++ 0 ∷ []) (spot_position p) (one_on at 0) (inner_begins body (label_at at) 0 each p h),
)

branching_differs : (place : Place) (arms : List Arm) (other : List Stmt) → EachArm Alone arms → Each Alone other →
    Alone (stmt place (StmtKind-F.If arms other))
branching_differs place [] other each others at = rw (fold-roll-Stmt, fold-roll-StmtKind) (
  differ_append (spots_in (plain_block other (inside (label_at at) 0))) (spots_in (plain_block other (inside (label_at at) 1)))
      (inner_differs other (label_at at) 0 others) (inner_differs other (label_at at) 1 others)
      (λ p a b. past_apart at 0 p (inner_begins other (label_at at) 0 others p a)
      (record { number = 1; past = omega arith; begins = inner_begins other (label_at at) 1 others p b })),
  λ p h. elim (has_cases (spots_in (plain_block other (inside (label_at at) 0))) (spots_in (plain_block other (inside (label_at at) 1))) p h) [
    | inl a ↦ through at (at ++ 0 ∷ []) (spot_position p) (one_on at 0) (inner_begins other (label_at at) 0 others p a)
    | inr b ↦ through at (at ++ 1 ∷ []) (spot_position p) (one_on at 1) (inner_begins other (label_at at) 1 others p b)
  ],
)
branching_differs place (arm ∷ rest) other each others at =
    let l : Label = label_at at in
    let here = All-head (λ arm. Each Alone (out-Arm arm).body) arm rest each in
    let more = All-tail (λ arm. Each Alone (out-Arm arm).body) arm rest each in
    let body : List Spot = spots_in (plain_block (out-Arm arm).body (inside l 0)) in
    let further : List Spot = spots_in (else_at (passed_one l) (map plain_arm rest) (plain_block other)) in
    of_plain _ _ at (plain_statements.branching place at arm rest other) (
      differ_append body further (inner_differs (out-Arm arm).body l 0 here) (arms_differ (passed_one l) rest other more others)
          (λ p a b. past_apart at 0 p (inner_begins (out-Arm arm).body l 0 here p a) (arms_past (passed_one l) rest other more others p b)),
      λ p h. elim (has_cases body further p h) [
        | inl a ↦ past_begins at 0 p (inner_past (out-Arm arm).body l 0 here p a)
        | inr b ↦ past_begins at 1 p (arms_past (passed_one l) rest other more others p b)
      ],
    )

cobegin_differs : (place : Place) (branches : List Branch) → EachBranch Alone branches → Alone (stmt place (StmtKind-F.Cobegin branches))
cobegin_differs place branches each at =
    let inner = bodies_differ branches 0 at each in
    of_plain _ _ at (plain_statements.parallel place at branches) (
      inner.0,
      λ p h. elim (inner.1 p h) [
        | inl past ↦ past_begins at 0 p past
        | inr end ↦ subst (λ x. Begins at (spot_position x)) (sym end.2) (itself at)
      ],
    )

cases : Cases Alone
cases = record {
  declare = λ place k initial at. of_plain _ _ at (plain_statements.declaration place at k initial) (none at);
  assign = λ place path e at. of_plain _ _ at (plain_statements.assignment place at path e) (none at);
  call = λ place f inputs outputs at. of_plain _ _ at (plain_statements.call place at f inputs outputs) (none at);
  await = λ place e at. of_plain _ _ at (plain_statements.pause place at e) (single at);
  run = λ place target a inputs outputs at. of_plain _ _ at (plain_statements.run place at target a inputs outputs) (single at);
  branching = branching_differs;
  cobegin = cobegin_differs;
  guarded = λ place guard e body each at. of_plain _ _ at (plain_statements.guarded place at guard e body) (one_block body at each);
  repeat = λ place body each at. of_plain _ _ at (plain_statements.endless place at body) (one_block body at each);
  until = λ place body e each at. of_plain _ _ at (plain_statements.until place at body e) (one_block body at each);
  while = λ place e body each at. of_plain _ _ at (plain_statements.while place at e body) (one_block body at each);
  returns = λ place e at. of_plain _ _ at (plain_statements.returns place at e) (none at);
}

alone : (s : Stmt) → Alone s
alone = induct Alone cases

each_alone : (body : List Stmt) → Each Alone body
each_alone body k s lt = alone _

pub spots_differ : SpotsDiffer
spots_differ body at = block_differs body 0 at (each_alone body)
