-- Walks one after another, and along more edges.
use Rattle.bl_graph_nodes.specs.Nodes.{Node}
use Rattle.bl_graph.specs.Walks.{Reached, Walk, on, stay}

pub walk_on : {E : Node → Node → Type 0} {a b c : Node} → Walk E a b → Walk E b c → Walk E a c
walk_on (stay n) two = two
walk_on (on n by m edge rest) two = on n by _ edge (walk_on rest two)

pub walk_more : {E G : Node → Node → Type 0} → ((n m : Node) → E n m → G n m) → {a b : Node} → Walk E a b → Walk G a b
walk_more more (stay n) = stay n
walk_more more (on n by m edge rest) = on n by m (more n by edge) (walk_more more rest)

-- what holds where a walk begins and after each edge holds where it ends
pub walk_keeps : {E : Node → Node → Type 0} (H : Node → Type 0) → ((n m : Node) → E n m → H m) → {a b : Node} → Walk E a b → H a → H b
walk_keeps H keeps (stay n) h = h
walk_keeps H keeps (on n by m edge rest) h = walk_keeps H keeps rest (keeps n by edge)

pub reached_keeps : {F : Node → Type 0} {E : Node → Node → Type 0} (H : Node → Type 0) → ((n : Node) → F n → H n) →
    ((n m : Node) → E n m → H m) → (m : Node) → Reached F E m → H m
reached_keeps H begins keeps m reached = walk_keeps H keeps reached.walk (begins reached.from reached.begins)

-- what holds where a walk begins, and goes on along each edge, holds where it ends
pub walk_keeps_both : {E : Node → Node → Type 0} (H : Node → Type 0) → ((n m : Node) → H n → E n m → H m) → {a b : Node} → Walk E a b →
    H a → H b
walk_keeps_both H keeps (stay n) h = h
walk_keeps_both H keeps (on n by m edge rest) h = walk_keeps_both H keeps rest (keeps n by h edge)

pub reached_keeps_both : {F : Node → Type 0} {E : Node → Node → Type 0} (H : Node → Type 0) → ((n : Node) → F n → H n) →
    ((n m : Node) → H n → E n m → H m) → (m : Node) → Reached F E m → H m
reached_keeps_both H begins keeps m reached = walk_keeps_both H keeps reached.walk (begins reached.from reached.begins)
