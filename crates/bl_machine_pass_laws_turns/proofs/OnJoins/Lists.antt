-- Members of lists, and nodes that differ.
use Rattle.std.proofs.Common.{◌≡◌, ◌⊎◌, inl, inr, zero, suc, List, [], ◌∷◌, ◌++◌, map, refl, sym, ap, subst, ◌∙◌, arith}
use Rattle.std.specs.Prelude.{Contains}
use Rattle.bl_tree.specs.declared.tree.Stmt.{Stmt}
use Rattle.bl_graph_nodes.specs.Nodes.{ActAt, CheckAt, DepthEndAt, DepthJoinAt, EnterAt, ForkAt, HeadAt, Node, PauseAt, ResumeAt, StartAt, SurfaceEndAt}
use Rattle.bl_graph_nodes.specs.Nodes.{SurfaceJoinAt, TestAt, nodes_in}
use Rattle.bl_graph_nodes.specs.Plain.{Position, plain_block}
use Rattle.bl_ctree_laws_traces.proofs.OnReady.Keys as keys
use Rattle.bl_machine_pass.specs.Numbered.{sort}
use Rattle.bl_machine_pass.specs.Transitions.{Transition}
use Rattle.bl_machine_pass_laws_turns.specs.Joins.Stems.{Member, NodesAreDistinct, Same}

-- ---- members

pub left : {X : Type 0} (xs ys : List X) (x : X) → Member xs x → Member (xs ++ ys) x
left [] ys x h = absurd h
left (y ∷ xs) ys x (inl e) = inl e
left (y ∷ xs) ys x (inr h) = inr (left xs ys x h)

pub right : {X : Type 0} (xs ys : List X) (x : X) → Member ys x → Member (xs ++ ys) x
right [] ys x h = h
right (y ∷ xs) ys x h = inr (right xs ys x h)

pub either : {X : Type 0} (xs ys : List X) (x : X) → Member (xs ++ ys) x → Member xs x ⊎ Member ys x
either [] ys x h = inr h
either (y ∷ xs) ys x (inl e) = inl (inl e)
either (y ∷ xs) ys x (inr h) = elim (either xs ys x h) [ inl a ↦ inl (inr a) | inr b ↦ inr b ]

pub contained : {X : Type 0} (xs : List X) (x : X) → Member xs x → Contains xs x
contained [] x h = absurd h
contained (y ∷ xs) x (inl e) = (0, omega arith, sym e)
contained (y ∷ xs) x (inr h) = let rest = contained xs x h in let lt = rest.1 in (suc rest.0, omega arith, rest.2)

pub member : {X : Type 0} (xs : List X) (x : X) → Contains xs x → Member xs x
member [] x h = let lt = h.1 in absurd (omega arith)
member (y ∷ xs) x (zero, lt, is) = inl (sym is)
member (y ∷ xs) x (suc k, lt, is) = inr (member xs x (k, omega arith, is))

-- ---- nodes that differ

pub differ_first : (xs ys : List Node) → NodesAreDistinct (xs ++ ys) → NodesAreDistinct xs
differ_first [] ys d = tt
differ_first (x ∷ xs) ys d = (λ m h same. d.0 m (left xs ys m h) same, differ_first xs ys d.1)

pub differ_second : (xs ys : List Node) → NodesAreDistinct (xs ++ ys) → NodesAreDistinct ys
differ_second [] ys d = d
differ_second (x ∷ xs) ys d = differ_second xs ys d.1

pub differ_apart : (xs ys : List Node) → NodesAreDistinct (xs ++ ys) → (n m : Node) → Member xs n → Member ys m → Same n m → ⊥
differ_apart [] ys d n m one other same = one
differ_apart (x ∷ xs) ys d n m (inl e) other same = d.0 m (right xs ys m other) (subst (λ (k : Node). Same k m) e same)
differ_apart (x ∷ xs) ys d n m (inr one) other same = differ_apart xs ys d.1 n m one other same

pub itself : (n m : Node) → n ≡ m → Same n m
itself n m is = subst (λ (k : Node). Same n k) is (record { label = refl; sorted = refl })

pub turned : (n m : Node) → Same n m → Same m n
turned n m same = record { label = sym same.label; sorted = sym same.sorted }

-- so the nodes of a body do
as_sort : (n : Node) → keys.sort_of n ≡ sort n
as_sort (ActAt l s) = refl
as_sort (TestAt l at e) = refl
as_sort (PauseAt l at) = refl
as_sort (EnterAt l at arguments) = refl
as_sort (ResumeAt l at arguments) = refl
as_sort (HeadAt l at) = refl
as_sort (StartAt l at) = refl
as_sort (CheckAt l at e) = refl
as_sort (SurfaceEndAt l at) = refl
as_sort (DepthEndAt l at) = refl
as_sort (ForkAt l at) = refl
as_sort (SurfaceJoinAt l at) = refl
as_sort (DepthJoinAt l at) = refl

sort_is : (n m : Node) → sort n ≡ sort m → keys.sort_of n ≡ keys.sort_of m
sort_is n m e = as_sort n ∙ e ∙ sym (as_sort m)

has_it : (xs : List Node) (n m : Node) → Member xs m → Same n m → keys.Has xs n
has_it [] n m h same = absurd h
has_it (x ∷ xs) n m (inl e) same =
    inl (subst (keys.Same n) e (record { label = same.label; sort = sort_is n m same.sorted }))
has_it (x ∷ xs) n m (inr h) same = inr (has_it xs n m h same)

differ_so : (xs : List Node) → keys.Differ xs → NodesAreDistinct xs
differ_so [] d = tt
differ_so (x ∷ xs) d = (λ m h same. d.0 (has_it xs x m h same), differ_so xs d.1)

pub bodies_differ : (body : List Stmt) (at : Position) → NodesAreDistinct (nodes_in (plain_block body at))
bodies_differ body at = differ_so (nodes_in (plain_block body at)) (keys.bodies_differ_so body at)

-- ---- rules whose nodes differ

member_node : (rules : List Transition) (a : Transition) → Member rules a → Member (map (λ rule. rule.node) rules) a.node
member_node [] a h = absurd h
member_node (x ∷ rules) a (inl e) = inl (ap (λ rule. rule.node) e)
member_node (x ∷ rules) a (inr h) = inr (member_node rules a h)

one_rule : (rules : List Transition) → NodesAreDistinct (map (λ rule. rule.node) rules) → (a b : Transition) → Member rules a → Member rules b →
    Same a.node b.node → a ≡ b
one_rule [] d a b one other same = absurd one
one_rule (x ∷ rules) d a b (inl e) (inl f) same = e ∙ sym f
one_rule (x ∷ rules) d a b (inl e) (inr other) same =
    absurd (d.0 b.node (member_node rules b other) (subst (λ (rule : Transition). Same rule.node b.node) e same))
one_rule (x ∷ rules) d a b (inr one) (inl f) same =
    absurd (d.0 a.node (member_node rules a one) (subst (λ (rule : Transition). Same rule.node a.node) f (turned a.node b.node same)))
one_rule (x ∷ rules) d a b (inr one) (inr other) same = one_rule rules d.1 a b one other same

-- two rules whose nodes have one label and one sort are one
pub sole_rule : (rules : List Transition) (nodes : List Node) → map (λ rule. rule.node) rules ≡ nodes → NodesAreDistinct nodes → (a b : Transition) →
    Contains rules a → Contains rules b → Same a.node b.node → a ≡ b
sole_rule rules nodes is d a b one other same =
    one_rule rules (subst NodesAreDistinct (sym is) d) a b (member rules a one) (member rules b other) same

-- the node of a rule is one of the nodes
pub rule_there : (rules : List Transition) (nodes : List Node) → map (λ rule. rule.node) rules ≡ nodes → (a : Transition) → Contains rules a →
    Contains nodes a.node
rule_there rules nodes is a there =
    contained nodes a.node (subst (λ (xs : List Node). Member xs a.node) is (member_node rules a (member rules a there)))
