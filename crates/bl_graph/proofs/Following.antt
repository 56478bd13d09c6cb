-- A block and a statement after it.
use Rattle.std.proofs.Common.{◌≡◌, ℕ, suc, ◌+◌, Bool, true, false, cond, ◌&&◌, ◌||◌, ⊎_elim, List, [], ◌∷◌, ◌++◌, map, length, refl, ap, sym, ◌∙◌, subst, arith}
use Rattle.std.proofs.Common.{append_assoc, append-nil}
use Rattle.std.specs.Prelude.{Contains}
use Rattle.std.proofs.lemmas.List.Elements.{Contains-append_left, Contains-append_right, Contains-append_cases}
use Rattle.bl_tree.proofs.Basics.{and_false, and_regroup, and_true, or_false}
use Rattle.bl_graph_nodes.specs.Nodes.{Node, entry, nodes_in, nodes_of}
use Rattle.bl_graph_nodes.specs.Plain.{Act, Again, Await, Block, Cobegin, Done, If, Plain, Position, Repeat, Run, Then, Until, When, While, block_from}
use Rattle.bl_graph_nodes.specs.Plain.{is_empty}
use Rattle.bl_graph.specs.Listed.{Pair, each_to, each_to_all, edges_in, edges_of, flows_in, flows_of, resumes_in, resumes_of}
use Rattle.bl_graph.specs.Marks.{Mark, Marked, entered, inner, moved, part_in, part_of, some_of}
use Rattle.bl_graph.specs.inner.Made.{flow_of}
use Rattle.bl_graph.specs.inner.Parts.{is_nothing}
use Rattle.bl_graph.proofs.Numbering.{some_moved}

-- ---- marks

-- of what is reached in a part that is in another
depth_apart : (e xs xd ms md : Bool) → ((md || (xd && ms)) || (e && (xs && ms))) ≡ (md || ((xd || (e && xs)) && ms))
depth_apart e xs xd ms true = refl
depth_apart e xs true true false = refl
depth_apart e xs false true false = ap (λ b. e && b) (and_true xs) ∙ sym (and_true (e && xs))
depth_apart e xs xd false false =
    ap (λ b. b || (e && (xs && false))) (and_false xd) ∙ ap (λ b. e && b) (and_false xs) ∙ and_false e ∙ sym (and_false (xd || (e && xs)))

inner_apart : (e x m : Mark) → inner e (inner x m) ≡ inner (inner e x) m
inner_apart e x m = λ i. record {
  surface = and_regroup e.surface x.surface m.surface i;
  depth = depth_apart e.depth x.surface x.depth m.surface m.depth i;
}

pub moved_apart : (e x : Mark) (ms : List Marked) → moved e (moved x ms) ≡ moved (inner e x) ms
moved_apart e x [] = refl
moved_apart e x (m ∷ ms) = λ i. record { node = m.node; mark = inner_apart e x m.mark i } ∷ moved_apart e x ms i

pub moved_append : (e : Mark) (xs ys : List Marked) → moved e (xs ++ ys) ≡ moved e xs ++ moved e ys
moved_append e [] ys = refl
moved_append e (x ∷ xs) ys = λ i. record { node = x.node; mark = inner e x.mark } ∷ moved_append e xs ys i

inner_entered : (m : Mark) → inner entered m ≡ m
inner_entered m = λ i. record { surface = m.surface; depth = or_false m.depth i }

entered_inner : (e : Mark) → inner e entered ≡ e
entered_inner e = λ i. record { surface = and_true e.surface i; depth = and_true e.depth i }

pub moved_entered : (ms : List Marked) → moved entered ms ≡ ms
moved_entered [] = refl
moved_entered (m ∷ ms) = λ i. record { node = m.node; mark = inner_entered m.mark i } ∷ moved_entered ms i

-- ---- a statement after a block

abbrev pub after : Block → Plain → Block
after Done s = Then s Done
after (Then t rest) s = Then t (after rest s)

-- how what follows the block is entered
abbrev pub exit : Block → Mark
exit Done = entered
exit (Then t rest) = some_of (part_in (Then t rest)).outs

fills : (body : Block) (s : Plain) → is_empty (after body s) ≡ false
fills Done s = refl
fills (Then t rest) s = refl

exit_then : (t : Plain) (body : Block) → inner (some_of (part_of t).outs) (exit body) ≡ exit (Then t body)
exit_then t Done = entered_inner (some_of (part_of t).outs)
exit_then t (Then u rest) = sym (some_moved (some_of (part_of t).outs) (part_in (Then u rest)).outs)

abbrev outs_of : Bool → List Marked → List Marked → List Marked
outs_of empty own later = cond empty own later

pub nodes_after : (body : Block) (s : Plain) → (part_in (after body s)).nodes ≡ (part_in body).nodes ++ moved (exit body) (part_of s).nodes
nodes_after Done s = append-nil (part_of s).nodes ∙ sym (moved_entered (part_of s).nodes)
nodes_after (Then t rest) s =
    let e : Mark = some_of (part_of t).outs in
    ap (λ ms. (part_of t).nodes ++ moved e ms) (nodes_after rest s)
    ∙ ap (λ ms. (part_of t).nodes ++ ms) (moved_append e (part_in rest).nodes (moved (exit rest) (part_of s).nodes))
    ∙ ap (λ ms. (part_of t).nodes ++ (moved e (part_in rest).nodes ++ ms)) (moved_apart e (exit rest) (part_of s).nodes)
    ∙ ap (λ x. (part_of t).nodes ++ (moved e (part_in rest).nodes ++ moved x (part_of s).nodes)) (exit_then t rest)
    ∙ sym (append_assoc (part_of t).nodes (moved e (part_in rest).nodes) (moved (exit (Then t rest)) (part_of s).nodes))

pub outs_after : (body : Block) (s : Plain) → (part_in (after body s)).outs ≡ moved (exit body) (part_of s).outs
outs_after Done s = sym (moved_entered (part_of s).outs)
outs_after (Then t rest) s =
    let e : Mark = some_of (part_of t).outs in
    ap (λ empty. outs_of empty (part_of t).outs (moved e (part_in (after rest s)).outs)) (fills rest s)
    ∙ ap (moved e) (outs_after rest s) ∙ moved_apart e (exit rest) (part_of s).outs
    ∙ ap (λ x. moved x (part_of s).outs) (exit_then t rest)

pub names_after : (body : Block) (s : Plain) → nodes_in (after body s) ≡ nodes_in body ++ nodes_of s
names_after Done s = append-nil (nodes_of s)
names_after (Then t rest) s = ap (λ ns. nodes_of t ++ ns) (names_after rest s) ∙ sym (append_assoc (nodes_of t) (nodes_in rest) (nodes_of s))

pub resumes_after : (body : Block) (s : Plain) → resumes_in (after body s) ≡ resumes_in body ++ resumes_of s
resumes_after Done s = append-nil (resumes_of s)
resumes_after (Then t rest) s =
    ap (λ ns. resumes_of t ++ ns) (resumes_after rest s) ∙ sym (append_assoc (resumes_of t) (resumes_in rest) (resumes_of s))

pub flows_after : (body : Block) (s : Plain) → flows_in (after body s) ≡ flows_in body ++ flows_of s
flows_after Done s = append-nil (flows_of s)
flows_after (Then t rest) s = ap (λ ps. flows_of t ++ ps) (flows_after rest s) ∙ sym (append_assoc (flows_of t) (flows_in rest) (flows_of s))

-- ---- edges, in any order

pub record Same {A : Type 0} (xs ys : List A) : Type 0 where
  pub into : (x : A) → Contains xs x → Contains ys x
  pub from : (x : A) → Contains ys x → Contains xs x

pub same_is : {A : Type 0} (xs ys : List A) → xs ≡ ys → Same xs ys
same_is xs ys is = record { into = λ x there. subst (λ l. Contains l x) is there; from = λ x there. subst (λ l. Contains l x) (sym is) there }

pub same_then : {A : Type 0} (xs ys zs : List A) → Same xs ys → Same ys zs → Same xs zs
same_then xs ys zs one other = record { into = λ x there. other.into x (one.into x there); from = λ x there. one.from x (other.from x there) }

pub same_back : {A : Type 0} (xs ys : List A) → Same xs ys → Same ys xs
same_back xs ys one = record { into = one.from; from = one.into }

either_list : {A : Type 0} (xs ys us vs : List A) → ((x : A) → Contains xs x → Contains us x) → ((x : A) → Contains ys x → Contains vs x) →
    (x : A) → Contains (xs ++ ys) x → Contains (us ++ vs) x
either_list xs ys us vs one other x there =
    ⊎_elim (λ t. Contains-append_left us vs x (one x t)) (λ t. Contains-append_right us vs x (other x t)) (Contains-append_cases xs ys x there)

pub same_both : {A : Type 0} (xs ys us vs : List A) → Same xs us → Same ys vs → Same (xs ++ ys) (us ++ vs)
same_both xs ys us vs one other = record {
  into = either_list xs ys us vs one.into other.into;
  from = either_list us vs xs ys one.from other.from;
}

swap_into : {A : Type 0} (xs ys : List A) (x : A) → Contains (xs ++ ys) x → Contains (ys ++ xs) x
swap_into xs ys x there = ⊎_elim (λ t. Contains-append_right ys xs x t) (λ t. Contains-append_left ys xs x t) (Contains-append_cases xs ys x there)

pub same_swap : {A : Type 0} (xs ys : List A) → Same (xs ++ ys) (ys ++ xs)
same_swap xs ys = record { into = swap_into xs ys; from = swap_into ys xs }

pub same_itself : {A : Type 0} (xs : List A) → Same xs xs
same_itself xs = record { into = λ x there. there; from = λ x there. there }

-- what stands in the middle comes last
last_moved : {A : Type 0} (t e m x : List A) → Same (t ++ ((e ++ m) ++ x)) ((t ++ (e ++ x)) ++ m)
last_moved t e m x =
    same_then (t ++ ((e ++ m) ++ x)) (t ++ ((e ++ x) ++ m)) ((t ++ (e ++ x)) ++ m)
    (same_both t ((e ++ m) ++ x) t ((e ++ x) ++ m) (same_itself t)
    (same_then ((e ++ m) ++ x) (e ++ (m ++ x)) ((e ++ x) ++ m) (same_is _ _ (append_assoc e m x))
    (same_then (e ++ (m ++ x)) (e ++ (x ++ m)) ((e ++ x) ++ m) (same_both e (m ++ x) e (x ++ m) (same_itself e) (same_swap m x))
    (same_is _ _ (sym (append_assoc e x m))))))
    (same_is _ _ (sym (append_assoc t (e ++ x) m)))

each_moved : (e : Mark) (ms : List Marked) (n : Node) → each_to (moved e ms) n ≡ each_to ms n
each_moved e [] n = refl
each_moved e (m ∷ ms) n = λ i. record { from = m.node; to = n } ∷ each_moved e ms n i

-- the edges of a block with a statement after it, as they are made
abbrev pub edges_with : Block → Plain → List Pair
edges_with body s = edges_in body ++ (edges_of s ++ each_to (part_in body).outs (entry s))

pub edges_after : (body : Block) (s : Plain) → Same (edges_in (after body s)) (edges_with body s)
edges_after Done s = same_itself (edges_of s ++ [])
edges_after (Then t Done) s =
    let leads : List Pair = each_to (part_of t).outs (entry s) in
    same_is (edges_of t ++ ((edges_of s ++ []) ++ (leads ++ []))) ((edges_of t ++ []) ++ (edges_of s ++ leads))
    (ap (λ ps. ps ++ ((edges_of s ++ []) ++ (leads ++ []))) (sym (append-nil (edges_of t)))
    ∙ ap (λ ps. (edges_of t ++ []) ++ (ps ++ (leads ++ []))) (append-nil (edges_of s))
    ∙ ap (λ ps. (edges_of t ++ []) ++ (edges_of s ++ ps)) (append-nil leads))
edges_after (Then t (Then u rest)) s =
    let leads : List Pair = each_to_all (part_of t).outs (entry u ∷ []) in
    let own : List Pair = edges_of s ++ each_to (part_in (Then u rest)).outs (entry s) in
    let e : Mark = some_of (part_of t).outs in
    same_then _ (edges_of t ++ ((edges_in (Then u rest) ++ own) ++ leads)) _
    (same_both (edges_of t) _ (edges_of t) ((edges_in (Then u rest) ++ own) ++ leads) (same_itself (edges_of t))
    (same_both (edges_in (after (Then u rest) s)) leads (edges_in (Then u rest) ++ own) leads (edges_after (Then u rest) s) (same_itself leads)))
    (same_then _ ((edges_of t ++ (edges_in (Then u rest) ++ leads)) ++ own) _
    (last_moved (edges_of t) (edges_in (Then u rest)) own leads)
    (same_is _ _ (ap (λ ps. (edges_of t ++ (edges_in (Then u rest) ++ leads)) ++ (edges_of s ++ ps)) (sym (each_moved e (part_in (Then u rest)).outs
    (entry s))))))

-- ---- whether something was made

made_some : (t : Plain) (ms : List Marked) → is_nothing (map flow_of ((part_of t).nodes ++ ms)) ≡ false
made_some (Act l s) ms = refl
made_some (Await l at e) ms = refl
made_some (Run l at target a inputs outputs) ms = refl
made_some (If l at e body other) ms = refl
made_some (Cobegin l at bodies) ms = refl
made_some (When l at guard e body) ms = refl
made_some (Repeat l at body) ms = refl
made_some (Until l at body e) ms = refl
made_some (While l at e body) ms = refl
made_some (Again l at body e) ms = refl

pub made_empty : (body : Block) → is_nothing (map flow_of (part_in body).nodes) ≡ is_empty body
made_empty Done = refl
made_empty (Then t rest) = made_some t (moved (some_of (part_of t).outs) (part_in rest).nodes)

pub exit_is : (body : Block) (mark : Mark) → mark ≡ some_of (part_in body).outs → cond (is_empty body) entered mark ≡ exit body
exit_is Done mark is = refl
exit_is (Then t rest) mark is = is

-- ---- statements at positions

pub block_after : (ps : List (Position → Plain)) (p : Position → Plain) (k : ℕ) (at : Position) →
    block_from (ps ++ p ∷ []) k at ≡ after (block_from ps k at) (p (at ++ (k + length ps) ∷ []))
block_after [] p k at = let same : k ≡ k + 0 = omega arith in ap (λ n. Then (p (at ++ n ∷ [])) Done) same
block_after (q ∷ ps) p k at =
    let same : suc k + length ps ≡ k + suc (length ps) = omega arith in
    ap (Then (q (at ++ k ∷ []))) (block_after ps p (suc k) at ∙ ap (λ n. after (block_from ps (suc k) at) (p (at ++ n ∷ []))) same)
