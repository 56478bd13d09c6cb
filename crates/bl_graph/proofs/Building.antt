-- What the code makes of statements at positions.
use Rattle.std.proofs.Common.{◌≡◌, ℕ, suc, ◌+◌, ◌-◌, ◌<◌, ◌≤◌, Bool, true, false, not, nat_eq, ◌||◌, List, [], ◌∷◌, ◌++◌, map, take, drop, drop-cons}
use Rattle.std.proofs.Common.{drop_of_length-le, length-drop, add-one, nat_lt, length, get_or, Some, refl, rules, ap, sym, ◌∙◌, subst, arith, append_assoc}
use Rattle.std.proofs.Common.{append-nil}
use Rattle.std.proofs.lemmas.List.{length-append, map-append, take_all, take_more, take_rest}
use Rattle.bl_tree.specs.declared.graph.Edge.{Edge}
use Rattle.bl_tree.specs.declared.place.Place.{Place}
use Rattle.bl_tree.specs.declared.static_path.Static.{Static}
use Rattle.bl_tree.specs.declared.tree.Arm.{Arm, out-Arm}
use Rattle.bl_tree.specs.declared.tree.Expr.{Expr, fold-roll-Expr, out-Expr}
use Rattle.bl_tree.specs.declared.tree.ExprKind.{fold-roll-ExprKind}
use Rattle.bl_tree.specs.declared.tree.Guard.{Guard}
use Rattle.bl_tree.specs.declared.tree.Stmt.{Stmt, fold-roll-Stmt, out-Stmt, roll-out-Stmt}
use Rattle.bl_tree.specs.declared.tree.StmtKind.{fold-roll-StmtKind}
use Rattle.bl_tree.specs.declared.tree.StmtKind.TheOpen.{StmtKind-F}
use Rattle.bl_tree.specs.Effects.{reads}
use Rattle.bl_tree.specs.Instant.{is_instant_block}
use Rattle.bl_tree.specs.Static.{mentions, set_of}
use Rattle.bl_tree.proofs.StmtInduction.{Cases, induct}
use Rattle.bl_graph_nodes.specs.Laws.{plain_arm, stmt}
use Rattle.bl_graph_nodes.specs.Nodes.{CheckAt, DepthEndAt, HeadAt, Node, StartAt, SurfaceEndAt, TestAt, are_instant, entry, nodes_in, nodes_of, where_so}
use Rattle.bl_graph_nodes.specs.Plain.{Block, Done, If, Label, Plain, Position, Repeat, Then, Until, When, While, block_from, else_at, inside as inside_at}
use Rattle.bl_graph_nodes.specs.Plain.{is_empty, label_at, never, passed_one, plain_block, plain_stmt}
use Rattle.bl_graph_nodes.proofs.Equations.{plain_statements}
use Rattle.bl_graph_nodes.proofs.Instants.{blocks_are_instant}
use Rattle.bl_graph.specs.declared.flow.Flow.{Flow}
use Rattle.bl_graph.specs.declared.part.Links.{Links}
use Rattle.bl_graph.specs.declared.part.Part.{Part as Made}
use Rattle.bl_graph.specs.Listed.{edges_of, flows_of, resumes_of}
use Rattle.bl_graph.specs.Marks.{Marked, part_in, part_of}
use Rattle.bl_graph.specs.inner.Made.{Adds, BlockMade, ChainMade, ChoiceMade, Closing, IsNode, Makes, Names, NamesEntry, Naming, Open, Pairwise, StatementMade}
use Rattle.bl_graph.specs.inner.Made.{TurnMade, Whole, flow_of, kinded, whole_in, whole_of}
use Rattle.bl_graph.specs.inner.Parts.{choice_part, endless_part, followed, guarded_links, guarded_part, into_block, link_if, links_each, links_from}
use Rattle.bl_graph.specs.inner.Parts.{past, side_by_side, until_part, while_part}
use Rattle.bl_graph.proofs.Following.{after, block_after, names_after}
use Rattle.bl_graph.proofs.Making.{choice_opens, endless_makes, follow_makes, guarded_makes, turn_makes, until_makes, while_makes}
use Rattle.bl_graph.proofs.Marking.{names, names_in}
use Rattle.bl_graph.proofs.Numbering.{names_back, names_front}

-- ---- the first node of a statement

-- the first of its nodes is its entry
pub record First (s : Plain) : Type 0 where
  pub further : List Node
  pub is : nodes_of s ≡ entry s ∷ further

abbrev FirstAt : Stmt → Type 0
FirstAt s = (at : Position) → First (plain_stmt s at)

by : (s p : Plain) → s ≡ p → First p → First s
by s p is first = subst First (sym is) first

if_bare : (place : Place) (other : List Stmt) (at : Position) → plain_stmt (stmt place (StmtKind-F.If [] other)) at
    ≡ If (label_at at) place (never place) (plain_block other (inside_at (label_at at) 0)) (plain_block other (inside_at (label_at at) 1))
if_bare place other at = rw (fold-roll-Stmt, fold-roll-StmtKind) refl

if_first : (place : Place) (arms : List Arm) (other : List Stmt) (at : Position) → First (plain_stmt (stmt place (StmtKind-F.If arms other)) at)
if_first place [] other at = by _ _ (if_bare place other at) (record { further = _; is = refl })
if_first place (arm ∷ arms) other at = by _ _ (plain_statements.branching place at arm arms other) (record { further = _; is = refl })

firsts : Cases FirstAt
firsts = record {
  declare = λ place k initial at. by _ _ (plain_statements.declaration place at k initial) (record { further = []; is = refl });
  assign = λ place path e at. by _ _ (plain_statements.assignment place at path e) (record { further = []; is = refl });
  call = λ place f inputs outputs at. by _ _ (plain_statements.call place at f inputs outputs) (record { further = []; is = refl });
  await = λ place e at. by _ _ (plain_statements.pause place at e) (record { further = _; is = refl });
  run = λ place target a inputs outputs at. by _ _ (plain_statements.run place at target a inputs outputs) (record { further = _; is = refl });
  branching = λ place arms other each every at. if_first place arms other at;
  cobegin = λ place branches each at. by _ _ (plain_statements.parallel place at branches) (record { further = _; is = refl });
  guarded = λ place guard e body each at. by _ _ (plain_statements.guarded place at guard e body) (record { further = _; is = refl });
  repeat = λ place body each at. by _ _ (plain_statements.endless place at body) (record { further = _; is = refl });
  until = λ place body e each at. by _ _ (plain_statements.until place at body e) (record { further = _; is = refl });
  while = λ place e body each at. by _ _ (plain_statements.while place at e body) (record { further = _; is = refl });
  returns = λ place e at. by _ _ (plain_statements.returns place at e) (record { further = []; is = refl });
}

pub first_at : (s : Stmt) (at : Position) → First (plain_stmt s at)
first_at = induct FirstAt firsts

-- ---- lists

lengths : (ms : List Marked) → length (map flow_of ms) ≡ length (names ms)
lengths [] = refl
lengths (m ∷ ms) = ap suc (lengths ms)

pub counted : (fs : List Flow) (ms : List Marked) (ns : List Node) → fs ≡ map flow_of ms → names ms ≡ ns → length fs ≡ length ns
counted fs ms ns is same = ap length is ∙ lengths ms ∙ ap length same

none_of : (n : ℕ) → nat_eq (suc n) 0 ≡ false
none_of n = first_of (search rules, grind arith)

some_of_them : (n : ℕ) → nat_lt 0 (suc n) ≡ true
some_of_them n = first_of (search rules, grind arith)

twice : (b : Bool) → b ≡ not (not b)
twice true = refl
twice false = refl

-- whether nothing stands in a block
pub empty_at : (body : List Stmt) (at : Position) (empty : Bool) → empty ≡ nat_eq (length body) 0 → empty ≡ is_empty (plain_block body at)
empty_at [] at empty is = is
empty_at (s ∷ body) at empty is = is ∙ none_of (length body)

pub block_with : (body : List Stmt) (s : Stmt) (at : Position) →
    plain_block (body ++ s ∷ []) at ≡ after (plain_block body at) (plain_stmt s (at ++ (0 + length (map plain_stmt body)) ∷ []))
block_with body s at = ap (λ ps. block_from ps 0 at) (map-append plain_stmt body (s ∷ [])) ∙ block_after (map plain_stmt body) (plain_stmt s) 0 at

module _ (naming : Naming) where
  pub leads_at : (s : Stmt) (at : Position) (n : ℕ) (more : List Node) → Names naming n (nodes_of (plain_stmt s at) ++ more)
      → naming n ≡ Some (entry (plain_stmt s at))
  leads_at s at n more names =
      let first : First (plain_stmt s at) = first_at s at in
      let named : Names naming n ((entry (plain_stmt s at) ∷ first.further) ++ more) = subst (λ ns. Names naming n (ns ++ more)) first.is names in
      named.0

  pub leads_in : (body : List Stmt) (at : Position) (n : ℕ) → Names naming n (nodes_in (plain_block body at)) → NamesEntry naming n (plain_block body at)
  leads_in [] at n names = tt
  leads_in (s ∷ body) at n names = leads_at s (at ++ 0 ∷ []) n _ names

-- ---- a block

pub block_more : (body : List Stmt) (s : Stmt) (first next : ℕ) (made more result : Made) (l0 l1 l2 : Links) (control : List Edge)
    → next ≡ first + length made.flows → BlockMade body first made l0 l1 → StatementMade s next more l1 l2
    → control ≡ l2.control ++ links_each made.outs next
    → result ≡ followed made more → BlockMade (body ++ s ∷ []) first result l0 (record { control = control; by_data = l2.by_data })
block_more body s first next made more result l0 l1 l2 control is one other grows same at naming named =
    let b : Block = plain_block body at in
    let p : Plain = plain_stmt s (at ++ (0 + length (map plain_stmt body)) ∷ []) in
    let last : Links = record { control = control; by_data = l2.by_data } in
    let both : Names naming first (nodes_in b ++ nodes_of p) =
    subst (Names naming first) (names_after b p) (subst (λ b. Names naming first (nodes_in b)) (block_with body s at) named) in
    let makes : Makes naming (whole_in b) made l0 l1 = one at naming (names_front naming first (nodes_in b) (nodes_of p) both) in
    let here : next ≡ first + length (nodes_in b) = is ∙ ap (λ n. first + n) (counted made.flows (part_in b).nodes (nodes_in b) makes.flows
    (names_in b)) in
    let named_more : Names naming next (nodes_of p) = names_back naming first next (nodes_in b) (nodes_of p) here both in
    let leads : naming next ≡ Some (entry p) =
    leads_at naming s (at ++ (0 + length (map plain_stmt body)) ∷ []) next [] (subst (Names naming next) (sym (append-nil (nodes_of p))) named_more) in
    subst (λ b. Makes naming (whole_in b) result l0 last) (sym (block_with body s at))
    (subst (λ made. Makes naming (whole_in (after b p)) made l0 last) (sym same)
    (follow_makes naming b p next made more l0 l1 l2 last makes (other (at ++ (0 + length (map plain_stmt body)) ∷ []) naming named_more) leads grows refl))

pub stmt_is : (s : Stmt) → kinded (out-Stmt s).place (out-Stmt s).what ≡ s
stmt_is s = roll-out-Stmt s

-- the next element of a block
pub block_next : (body : List Stmt) (k : ℕ) (s : Stmt) (first next : ℕ) (made more result : Made) (l0 l1 l2 : Links) (control : List Edge)
    → k < length body → s ≡ get_or body k s → next ≡ first + length made.flows → BlockMade (take k body) first made l0 l1
    → StatementMade (kinded (out-Stmt s).place (out-Stmt s).what) next more l1 l2 → control ≡ l2.control ++ links_each made.outs next
    → result ≡ followed made more → BlockMade (take (k + 1) body) first result l0 (record { control = control; by_data = l2.by_data })
block_next body k s first next made more result l0 l1 l2 control within is here one other grows same =
    subst (λ b. BlockMade b first result l0 (record { control = control; by_data = l2.by_data }))
    (ap (λ x. take k body ++ x ∷ []) is ∙ sym (take_more body k s within))
    (block_more (take k body) s first next made more result l0 l1 l2 control here one
    (subst (λ s. StatementMade s next more l1 l2) (stmt_is s) other) grows same)

pub block_all : (body : List Stmt) (k first : ℕ) (made : Made) (l0 l1 : Links) → length body ≤ k → BlockMade (take k body) first made l0 l1
    → BlockMade body first made l0 l1
block_all body k first made l0 l1 over made_so = subst (λ b. BlockMade b first made l0 l1) (take_all k body over) made_so

-- ---- loops

pub turn_made : (body : List Stmt) (start first last : ℕ) (empty : Bool) (inside : Made) (l0 l1 : Links) (one two : List Edge)
    → empty ≡ nat_eq (length body) 0 → BlockMade body start inside l0 l1 → one ≡ l1.control ++ links_from first (into_block empty start (last ∷ []))
    → two ≡ one ++ links_each inside.outs last → TurnMade body start first last inside l0 (record { control = two; by_data = l1.by_data })
turn_made body start first last empty inside l0 l1 one two is made grows more at naming n m named from to =
    turn_makes naming (plain_block body at) start first last n m empty inside l0 l1 two (empty_at body at empty is) (leads_in naming body at start named)
    from to (made at naming named) (more ∙ ap (λ es. es ++ links_each inside.outs last) grows)

pub endless_made : (place : Place) (body : List Stmt) (first start : ℕ) (inside result : Made) (l0 l1 : Links) → start ≡ first + 1
    → TurnMade body start first first inside l0 l1 → result ≡ endless_part place inside
    → StatementMade (stmt place (StmtKind-F.Repeat body)) first result l0 l1
endless_made place body first start inside result l0 l1 is made same at naming named =
    let p : plain_stmt (stmt place (StmtKind-F.Repeat body)) at ≡ Repeat (label_at at) place (plain_block body (inside_at (label_at at) 0)) =
    plain_statements.endless place at body in
    let all : Names naming first (HeadAt (label_at at) place ∷ nodes_in (plain_block body (inside_at (label_at at) 0))) =
    subst (λ p. Names naming first (nodes_of p)) p named in
    subst (λ p. Makes naming (whole_of p) result l0 l1) (sym p)
    (subst (λ made. Makes naming (whole_of (Repeat (label_at at) place (plain_block body (inside_at (label_at at) 0)))) made l0 l1) (sym same)
    (endless_makes naming (label_at at) place (plain_block body (inside_at (label_at at) 0)) inside l0 l1
    (made (inside_at (label_at at) 0) naming _ _ (subst (λ n. Names naming n (nodes_in (plain_block body (inside_at (label_at at) 0)))) (sym is) all.1)
    all.0 all.0)))

pub while_made : (place : Place) (e : Expr) (body : List Stmt) (first start : ℕ) (reads : List Static) (inside result : Made) (l0 l1 : Links)
    → start ≡ first + 1 → reads ≡ set_of (mentions e) → TurnMade body start first first inside l0 l1
    → result ≡ while_part place reads first inside
    → StatementMade (stmt place (StmtKind-F.While e body)) first result l0 l1
while_made place e body first start reads inside result l0 l1 is read made same at naming named =
    let b : Block = plain_block body (inside_at (label_at at) 0) in
    let p : plain_stmt (stmt place (StmtKind-F.While e body)) at ≡ While (label_at at) place e b = plain_statements.while place at e body in
    let all : Names naming first (TestAt (label_at at) place e ∷ nodes_in b) = subst (λ p. Names naming first (nodes_of p)) p named in
    subst (λ p. Makes naming (whole_of p) result l0 l1) (sym p)
    (subst (λ made. Makes naming (whole_of (While (label_at at) place e b)) made l0 l1)
    (sym (same ∙ ap (λ reads. while_part place reads first inside) read))
    (while_makes naming (label_at at) place e b first inside l0 l1 all.0
    (made (inside_at (label_at at) 0) naming _ _ (subst (λ n. Names naming n (nodes_in b)) (sym is) all.1) all.0 all.0)))

pub until_made : (place : Place) (body : List Stmt) (e : Expr) (first test start : ℕ) (empty : Bool) (reads : List Static) (inside result : Made)
    (l0 l1 : Links) (control : List Edge) → test ≡ first + 1 → start ≡ test + 1 → empty ≡ nat_eq (length body) 0 → reads ≡ set_of (mentions e)
    → TurnMade body start first test inside l0 l1 → control ≡ l1.control ++ link_if true test first
    → result ≡ until_part place reads empty test inside
    → StatementMade (stmt place (StmtKind-F.Until body e)) first result l0 (record { control = control; by_data = l1.by_data })
until_made place body e first test start empty reads inside result l0 l1 control tested is bare read made grows same at naming named =
    let last : Links = record { control = control; by_data = l1.by_data } in
    let b : Block = plain_block body (inside_at (label_at at) 0) in
    let p : plain_stmt (stmt place (StmtKind-F.Until body e)) at ≡ Until (label_at at) place b e = plain_statements.until place at body e in
    let all : Names naming first (HeadAt (label_at at) place ∷ TestAt (label_at at) place e ∷ nodes_in b) =
    subst (λ p. Names naming first (nodes_of p)) p named in
    let test_named : naming test ≡ Some (TestAt (label_at at) place e) = subst (λ n. naming n ≡ Some (TestAt (label_at at) place e))
    (sym tested) all.1.0 in
    let start_is : first + 1 + 1 ≡ start = ap (λ n. n + 1) (sym tested) ∙ sym is in
    subst (λ p. Makes naming (whole_of p) result l0 last) (sym p)
    (subst (λ made. Makes naming (whole_of (Until (label_at at) place b e)) made l0 last)
    (sym (same ∙ ap (λ reads. until_part place reads empty test inside) read))
    (until_makes naming (label_at at) place e b first test empty inside l0 l1 control (empty_at body (inside_at (label_at at) 0) empty bare)
    all.0 test_named
    (made (inside_at (label_at at) 0) naming _ _ (subst (λ n. Names naming n (nodes_in b)) start_is all.1.1) all.0 test_named) grows))

-- ---- conditions of an `if`

pub choice_made : (place : Place) (reads : List Static) (body : List Stmt) (more empty : Bool) (first start next : ℕ) (inside result : Made) (l0 l1 : Links)
    (one two : List Edge) → start ≡ first + 1 → next ≡ start + length inside.flows → empty ≡ nat_eq (length body) 0
    → BlockMade body start inside l0 l1
    → one ≡ l1.control ++ link_if (not empty) first start → two ≡ one ++ link_if more first next
    → result ≡ choice_part place reads (empty || not more) first inside
    → ChoiceMade place reads body more first result l0 (record { control = two; by_data = l1.by_data })
choice_made place reads body more empty first start next inside result l0 l1 one two is here bare made grows more_grows same l at e rest naming read
    empty_rest leads_rest named =
    let b : Block = plain_block body at in
    let last : Links = record { control = two; by_data = l1.by_data } in
    let whole : Plain = If l place e b rest in
    let both : Names naming start (nodes_in b ++ nodes_in rest) = subst (λ n. Names naming n (nodes_in b ++ nodes_in rest)) (sym is) named.1 in
    let front : Names naming start (nodes_in b) = names_front naming start (nodes_in b) (nodes_in rest) both in
    let makes : Makes naming (whole_in b) inside l0 l1 = made at naming front in
    let after_b : next ≡ start + length (nodes_in b) =
    here ∙ ap (λ n. start + n) (counted inside.flows (part_in b).nodes (nodes_in b) makes.flows (names_in b)) in
    let back : Names naming next (nodes_in rest) = names_back naming start next (nodes_in b) (nodes_in rest) after_b both in
    let opens : Open naming (whole_of whole) rest next (choice_part place (set_of (mentions e)) (empty || not more) first inside) l0 last =
    choice_opens naming l place e b rest first next more empty inside l0 l1 two (empty_at body at empty bare) empty_rest named.0
    (subst (λ n. NamesEntry naming n b) is (leads_in naming body at start front)) (leads_rest next back) back makes
    (more_grows ∙ ap (λ es. es ++ link_if more first next) (grows ∙ ap (λ n. l1.control ++ link_if (not empty) first n) is)) in
    let results : result ≡ choice_part place (set_of (mentions e)) (empty || not more) first inside =
    same ∙ ap (λ reads. choice_part place reads (empty || not more) first inside) read in
    let grown : length result.flows ≡ suc (length inside.flows) = ap (λ made. length made.flows) results in
    let ends : next ≡ first + length result.flows = omega (arith, grown) in
    subst (λ n. Open naming (whole_of whole) rest n result l0 last) ends
    (subst (λ made. Open naming (whole_of whole) rest next made l0 last) (sym results) opens)

-- ---- a whole that is made part by part

beside_apart : (a b c : Made) → side_by_side a (side_by_side b c) ≡ side_by_side (side_by_side a b) c
beside_apart a b c = λ i. record {
  flows = sym (append_assoc a.flows b.flows c.flows) i;
  outs = sym (append_assoc a.outs b.outs c.outs) i;
  resumes = sym (append_assoc a.resumes b.resumes c.resumes) i;
}

module _ (naming : Naming) where
  -- a statement alone is a block
  then_done : (p : Plain) (made : Made) (l0 l1 : Links) → Makes naming (whole_of p) made l0 l1 → Makes naming (whole_in (Then p Done)) made l0 l1
  then_done p made l0 l1 makes = record {
    flows = makes.flows ∙ ap (map flow_of) (sym (append-nil (part_of p).nodes));
    outs = makes.outs;
    resumes = subst (Pairwise (IsNode naming) made.resumes) (sym (append-nil (resumes_of p))) makes.resumes;
    control = subst (λ ps. Adds false naming ps l0.control l1.control) (sym (append-nil (edges_of p))) makes.control;
    by_data = subst (λ ps. Adds true naming ps l0.by_data l1.by_data) (sym (append-nil (flows_of p))) makes.by_data;
  }

  pub open_then : (whole : Whole) (p : Plain) (rest : Block) (n m : ℕ) (made part : Made) (l0 l1 l2 : Links) → Open naming whole (Then p Done) n made l0 l1
      → Open naming (whole_of p) rest m part l1 l2 → Open naming whole rest m (side_by_side made part) l0 l2
  open_then whole p rest n m made part l0 l1 l2 one other = record {
    names = other.names;
    closes = λ more last closed.
        subst (λ all. Makes naming whole all l0 last) (beside_apart made part more)
        (one.closes (side_by_side part more) last (then_done p (side_by_side part more) l1 last (other.closes more last closed)));
  }

  leads_else : (l : Label) (arms : List Arm) (other : List Stmt) (n : ℕ) → Names naming n (nodes_in (else_at l (map plain_arm arms) (plain_block other)))
      → NamesEntry naming n (else_at l (map plain_arm arms) (plain_block other))
  leads_else l [] other n names = leads_in naming other (inside_at l l.passed) n names
  leads_else l (arm ∷ arms) other n names = names.0

rest_empty : (l : Label) (arms : List Arm) (other : List Stmt) (more : Bool) → more ≡ (nat_lt 0 (length arms) || not (nat_eq (length other) 0))
    → is_empty (else_at l (map plain_arm arms) (plain_block other)) ≡ not more
rest_empty l [] other more is =
    let none : more ≡ not (nat_eq (length other) 0) = is in
    sym (empty_at other (inside_at l l.passed) (nat_eq (length other) 0) refl) ∙ twice (nat_eq (length other) 0) ∙ ap not (sym none)
rest_empty l (arm ∷ arms) other more is = ap not (sym (is ∙ ap (λ t. t || not (nat_eq (length other) 0)) (some_of_them (length arms))))

pub arms_next : (arms : List Arm) (k : ℕ) (arm : Arm) → k < length arms → arm ≡ get_or arms k arm → drop k arms ≡ arm ∷ drop (k + 1) arms
arms_next arms k arm within is = drop-cons arms k arm within ∙ ap (λ a. a ∷ drop (suc k) arms) (sym is) ∙ ap (λ n. arm ∷ drop n arms) (sym
    (add-one k))

-- one more condition
pub chain_more : (arms : List Arm) (other : List Stmt) (k : ℕ) (arm : Arm) (body : List Stmt) (more : Bool) (reads : List Static) (first next : ℕ)
    (made part result : Made) (l0 l1 l2 : Links) (naming : Naming) (whole : Whole) (at : Label) → k < length arms → arm ≡ get_or arms k arm
    → more ≡ (nat_lt 0 (length (drop (k + 1) arms)) || not (nat_eq (length other) 0)) → reads ≡ set_of (mentions (out-Arm arm).test)
    → body ≡ (out-Arm arm).body → ChoiceMade (out-Expr (out-Arm arm).test).place reads body more first part l1 l2 → next ≡ first + length part.flows
    → result ≡ side_by_side made part
    → Open naming whole (else_at at (map plain_arm (drop k arms)) (plain_block other)) first made l0 l1
    → Open naming whole (else_at (passed_one at) (map plain_arm (drop (k + 1) arms)) (plain_block other)) next result l0 l2
chain_more arms other k arm body more reads first next made part result l0 l1 l2 naming whole at within is more_is read body_is chosen is_next same opens =
    let choice : ChoiceMade (out-Expr (out-Arm arm).test).place reads (out-Arm arm).body more first part l1 l2 =
    subst (λ body. ChoiceMade (out-Expr (out-Arm arm).test).place reads body more first part l1 l2) body_is chosen in
    let rest : Block = else_at (passed_one at) (map plain_arm (drop (k + 1) arms)) (plain_block other) in
    let p : Plain = If at (out-Expr (out-Arm arm).test).place (out-Arm arm).test (plain_block (out-Arm arm).body (inside_at at at.passed)) rest in
    let here : Open naming whole (Then p Done) first made l0 l1 =
    subst (λ arms. Open naming whole (else_at at (map plain_arm arms) (plain_block other)) first made l0 l1) (arms_next arms k arm within is) opens in
    let named : Names naming first (nodes_of p) = names_front naming first (nodes_of p) [] here.names in
    let inner : Open naming (whole_of p) rest (first + length part.flows) part l1 l2 =
    choice at (inside_at at at.passed) (out-Arm arm).test rest naming read (rest_empty (passed_one at) (drop (k + 1) arms) other more more_is)
    (leads_else naming (passed_one at) (drop (k + 1) arms) other) named in
    subst (λ made. Open naming whole rest next made l0 l2) (sym same)
    (open_then naming whole p rest first next made part l0 l1 l2 here
    (subst (λ n. Open naming (whole_of p) rest n part l1 l2) (sym is_next) inner))

-- the first condition and what follows it
pub branching_made : (place : Place) (e : Expr) (body : List Stmt) (rest : List Arm) (other : List Stmt) (more : Bool) (reads : List Static) (first next : ℕ)
    (head part last result : Made) (l0 l1 l2 l3 : Links) → more ≡ (nat_lt 0 (length rest) || not (nat_eq (length other) 0))
    → reads ≡ set_of (mentions e)
    → ChoiceMade place reads body more first head l0 l1 → ChainMade rest (nat_eq (length other) 0) first head part l1 l2
    → next ≡ first + length part.flows → BlockMade other next last l2 l3 → result ≡ side_by_side part last
    → (at : Position) (naming : Naming)
    → Names naming first (nodes_of (If (label_at at) place e (plain_block body (inside_at (label_at at) 0))
    (else_at (passed_one (label_at at)) (map plain_arm rest) (plain_block other))))
    → Makes naming (whole_of (If (label_at at) place e (plain_block body (inside_at (label_at at) 0))
    (else_at (passed_one (label_at at)) (map plain_arm rest) (plain_block other)))) result l0 l3
branching_made place e body rest other more reads first next head part last result l0 l1 l2 l3 more_is read choice chain is_next block same at naming named =
    let l : Label = label_at at in
    let after_it : Block = else_at (passed_one l) (map plain_arm rest) (plain_block other) in
    let p : Plain = If l place e (plain_block body (inside_at l 0)) after_it in
    let opens : Open naming (whole_of p) after_it (first + length head.flows) head l0 l1 =
    choice l (inside_at l 0) e after_it naming read (rest_empty (passed_one l) rest other more more_is) (leads_else naming (passed_one l) rest other) named in
    let closing : Closing naming (whole_of p) other (first + length part.flows) part l0 l2 = chain (passed_one l) naming (whole_of p) l0 other refl opens in
    let place_of_other : Position = inside_at closing.later closing.later.passed in
    let ready : Open naming (whole_of p) (plain_block other place_of_other) next part l0 l2 =
    subst (λ n. Open naming (whole_of p) (plain_block other place_of_other) n part l0 l2) (sym is_next) closing.opens in
    subst (λ made. Makes naming (whole_of p) made l0 l3) (sym same) (ready.closes last l3 (block place_of_other naming ready.names))

-- no further condition
chain_none : (bare : Bool) (first : ℕ) (made : Made) (links : Links) → ChainMade [] bare first made made links links
chain_none bare first made links l naming whole start other is opens = record { later = l; opens = opens }

never_reads : (place : Place) → [] ≡ set_of (mentions (never place))
never_reads place = rw (fold-roll-Expr, fold-roll-ExprKind) refl

pub if_none : (place : Place) (arms : List Arm) (other : List Stmt) (more : Bool) (reads : List Static) (first next : ℕ) (head last result : Made)
    (l0 l1 l2 : Links) → arms ≡ [] → more ≡ not (nat_eq (length other) 0) → reads ≡ [] → ChoiceMade place reads other more first head l0 l1
    → next ≡ first + length head.flows → BlockMade other next last l1 l2 → result ≡ side_by_side head last
    → StatementMade (stmt place (StmtKind-F.If arms other)) first result l0 l2
if_none place [] other more reads first next head last result l0 l1 l2 is more_is read choice is_next block same at naming named =
    let p = if_bare place other at in
    subst (λ p. Makes naming (whole_of p) result l0 l2) (sym p)
    (branching_made place (never place) other [] other more reads first next head head last result l0 l1 l1 l2 more_is (read ∙ never_reads place) choice
    (chain_none (nat_eq (length other) 0) first head l1) is_next block same at naming (subst (λ p. Names naming first (nodes_of p)) p named))
if_none place (arm ∷ arms) other more reads first next head last result l0 l1 l2 is more_is read choice is_next block same at naming named = cc

pub if_some : (place : Place) (arms rest : List Arm) (arm : Arm) (body other : List Stmt) (more bare : Bool) (reads : List Static) (first next : ℕ)
    (head part last result : Made) (l0 l1 l2 l3 : Links) → arms ≡ arm ∷ rest → more ≡ (nat_lt 0 (length rest) || not (nat_eq (length other) 0))
    → bare ≡ nat_eq (length other) 0 → reads ≡ set_of (mentions (out-Arm arm).test) → body ≡ (out-Arm arm).body
    → ChoiceMade place reads body more first head l0 l1 → ChainMade rest bare first head part l1 l2
    → next ≡ first + length part.flows → BlockMade other next last l2 l3 → result ≡ side_by_side part last
    → StatementMade (stmt place (StmtKind-F.If arms other)) first result l0 l3
if_some place arms rest arm body other more bare reads first next head part last result l0 l1 l2 l3 is more_is bare_is read body_is chosen chain is_next
    block same =
    let choice : ChoiceMade place reads (out-Arm arm).body more first head l0 l1 =
    subst (λ body. ChoiceMade place reads body more first head l0 l1) body_is chosen in
    let further : ChainMade rest (nat_eq (length other) 0) first head part l1 l2 =
    subst (λ bare. ChainMade rest bare first head part l1 l2) bare_is chain in
    subst (λ arms. StatementMade (stmt place (StmtKind-F.If arms other)) first result l0 l3) (sym is)
    (λ at naming named.
    let p = plain_statements.branching place at arm rest other in
    subst (λ p. Makes naming (whole_of p) result l0 l3) (sym p)
    (branching_made place (out-Arm arm).test (out-Arm arm).body rest other more reads first next head part last result l0 l1 l2 l3 more_is read choice
    further is_next block same at naming (subst (λ p. Names naming first (nodes_of p)) p named)))

-- ---- a `when`

-- the numbers of a `when`
record WhenNames (naming : Naming) (l : Label) (place : Place) (e : Expr) (b : Block) (first check : ℕ) (instant : Bool) : Type 0 where
  start : naming first ≡ Some (StartAt l place)
  surface : instant ≡ true → naming (first + 1) ≡ Some (SurfaceEndAt l place)
  tests : naming check ≡ Some (CheckAt l place e)
  last : naming (check + 1) ≡ Some (DepthEndAt l place)
  body : Names naming (check + 2) (nodes_in b)

when_named : (naming : Naming) (l : Label) (place : Place) (e : Expr) (b : Block) (first check : ℕ) (instant : Bool) → check ≡ past first instant
    → Names naming first (StartAt l place ∷ (where_so instant (SurfaceEndAt l place) ++ CheckAt l place e ∷ DepthEndAt l place ∷ nodes_in b))
    → WhenNames naming l place e b first check instant
when_named naming l place e b first check true is named =
    let one : first + 1 + 1 ≡ check = omega arith in
    let two : first + 1 + 1 + 1 ≡ check + 1 = omega arith in
    let three : first + 1 + 1 + 1 + 1 ≡ check + 2 = omega arith in
    record {
      start = named.0;
      surface = λ yes. named.1.0;
      tests = subst (λ n. naming n ≡ Some (CheckAt l place e)) one named.1.1.0;
      last = subst (λ n. naming n ≡ Some (DepthEndAt l place)) two named.1.1.1.0;
      body = subst (λ n. Names naming n (nodes_in b)) three named.1.1.1.1;
    }
when_named naming l place e b first check false is named =
    let one : first + 1 ≡ check = omega arith in
    let two : first + 1 + 1 ≡ check + 1 = omega arith in
    let three : first + 1 + 1 + 1 ≡ check + 2 = omega arith in
    record {
      start = named.0;
      surface = λ yes. cc;
      tests = subst (λ n. naming n ≡ Some (CheckAt l place e)) one named.1.0;
      last = subst (λ n. naming n ≡ Some (DepthEndAt l place)) two named.1.1.0;
      body = subst (λ n. Names naming n (nodes_in b)) three named.1.1.1;
    }

pub guarded_made : (place : Place) (guard : Guard) (e : Expr) (body : List Stmt) (instant empty : Bool) (first check start : ℕ) (reads : List Static)
    (inside result : Made) (l0 l1 : Links) (control : List Edge) → instant ≡ is_instant_block body → check ≡ past first instant → start ≡ check + 2
    → empty ≡ nat_eq (length body) 0 → BlockMade body start inside l0 l1
    → control ≡ l1.control ++ guarded_links guard empty instant first check inside
    → reads ≡ set_of (mentions e) → result ≡ guarded_part place guard reads empty instant first check inside
    → StatementMade (stmt place (StmtKind-F.When guard e body)) first result l0 (record { control = control; by_data = l1.by_data })
guarded_made place guard e body instant empty first check start reads inside result l0 l1 control soon is_check is bare made grows read same at naming named =
    let l : Label = label_at at in
    let last : Links = record { control = control; by_data = l1.by_data } in
    let b : Block = plain_block body (inside_at l 0) in
    let p : plain_stmt (stmt place (StmtKind-F.When guard e body)) at ≡ When l place guard e b = plain_statements.guarded place at guard e body in
    let instant_is : instant ≡ are_instant b = soon ∙ sym (blocks_are_instant body (inside_at l 0)) in
    let frame : WhenNames naming l place e b first check instant =
    when_named naming l place e b first check instant is_check
    (subst (λ t. Names naming first (StartAt l place ∷ (where_so t (SurfaceEndAt l place) ++ CheckAt l place e ∷ DepthEndAt l place ∷ nodes_in b)))
    (sym instant_is) (subst (λ p. Names naming first (nodes_of p)) p named)) in
    let inner : Names naming start (nodes_in b) = subst (λ n. Names naming n (nodes_in b)) (sym is) frame.body in
    subst (λ p. Makes naming (whole_of p) result l0 last) (sym p)
    (subst (λ made. Makes naming (whole_of (When l place guard e b)) made l0 last)
    (sym (same ∙ ap (λ reads. guarded_part place guard reads empty instant first check inside) read))
    (guarded_makes naming l place guard e b first check empty instant inside l0 l1 control (empty_at body (inside_at l 0) empty bare) instant_is
    frame.start frame.surface frame.tests frame.last (subst (λ n. NamesEntry naming n b) is (leads_in naming body (inside_at l 0) start inner))
    (made (inside_at l 0) naming inner) grows))

-- one more condition, by how many nodes there are
pub chain_step : (arms : List Arm) (other : List Stmt) (k : ℕ) (arm : Arm) (body : List Stmt) (more : Bool) (reads : List Static) (first next : ℕ)
    (made part result : Made) (l0 l1 l2 : Links) (naming : Naming) (whole : Whole) (at : Label) → k < length arms → arm ≡ get_or arms k arm
    → more ≡ (nat_lt 0 (length (drop (k + 1) arms)) || not (nat_eq (length other) 0)) → reads ≡ set_of (mentions (out-Arm arm).test)
    → body ≡ (out-Arm arm).body → next ≡ first + length made.flows
    → ChoiceMade (out-Expr (out-Arm arm).test).place reads body more next part l1 l2 → result ≡ side_by_side made part
    → Open naming whole (else_at at (map plain_arm (drop k arms)) (plain_block other)) (first + length made.flows) made l0 l1
    → Open naming whole (else_at (passed_one at) (map plain_arm (drop (k + 1) arms)) (plain_block other)) (first + length result.flows) result l0 l2
chain_step arms other k arm body more reads first next made part result l0 l1 l2 naming whole at within is more_is read body_is is_next chosen same opens =
    let rest : Block = else_at (passed_one at) (map plain_arm (drop (k + 1) arms)) (plain_block other) in
    let size : length result.flows ≡ length made.flows + length part.flows = ap (λ made. length made.flows) same ∙ length-append made.flows part.flows in
    let ends : next + length part.flows ≡ first + length result.flows = omega (arith, size) in
    subst (λ n. Open naming whole rest n result l0 l2) ends
    (chain_more arms other k arm body more reads next (next + length part.flows) made part result l0 l1 l2 naming whole at within is more_is read body_is chosen
    refl same (subst (λ n. Open naming whole (else_at at (map plain_arm (drop k arms)) (plain_block other)) n made l0 l1) (sym is_next) opens))

-- all conditions were made
pub chain_all : (arms : List Arm) (other : List Stmt) (k next : ℕ) (made : Made) (l0 l1 : Links) (naming : Naming) (whole : Whole) (at : Label)
    → length arms ≤ k → Open naming whole (else_at at (map plain_arm (drop k arms)) (plain_block other)) next made l0 l1
    → Closing naming whole other next made l0 l1
chain_all arms other k next made l0 l1 naming whole at over opens = record {
  later = at;
  opens = subst (λ arms. Open naming whole (else_at at (map plain_arm arms) (plain_block other)) next made l0 l1) (drop_of_length-le arms over) opens;
}

-- so many are left
pub left_next : (arms : List Arm) (k left : ℕ) → k < length arms → left ≡ length (drop k arms) → left - 1 ≡ length (drop (k + 1) arms)
left_next arms k left within is = let one = length-drop k arms in let two = length-drop (k + 1) arms in omega (arith, one, two)

pub no_arms : (arms : List Arm) (empty : Bool) → empty ≡ true → empty ≡ nat_eq (length arms) 0 → arms ≡ []
no_arms [] empty so is = refl
no_arms (arm ∷ arms) empty so is = let none = none_of (length arms) in cc

pub some_arms : (arms : List Arm) (empty : Bool) → empty ≡ false → empty ≡ nat_eq (length arms) 0 → 0 < length arms
some_arms [] empty so is = let never_so : false ≡ true = sym so ∙ is in cc
some_arms (arm ∷ arms) empty so is = omega arith

pub first_of_arms : (arms : List Arm) (arm : Arm) → 0 < length arms → arm ≡ get_or arms 0 arm → arms ≡ arm ∷ take (length arms - 1) (drop 1 arms)
first_of_arms [] arm some is = absurd (omega arith)
first_of_arms (a ∷ arms) arm some is = ap (λ x. x ∷ arms) (sym is) ∙ ap (λ rest. arm ∷ rest) (sym (take_rest (a ∷ arms) 1))
