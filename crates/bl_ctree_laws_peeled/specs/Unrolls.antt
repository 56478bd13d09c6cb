-- A block, and what it is where first turns of its loops are unrolled: any loop may be unrolled or not, any number of times.
use Rattle.std.specs.Prelude.{ℕ, Bool, List, Option, ⊤}
use Rattle.bl_tree.specs.declared.place.Place.{Place}
use Rattle.bl_tree.specs.declared.tree.Expr.{Expr}
use Rattle.bl_tree.specs.declared.tree.Guard.{Guard as GuardKind}
use Rattle.bl_tree.specs.declared.tree.Path.{Path}
use Rattle.bl_tree.specs.declared.tree.Stmt.{Stmt}
use Rattle.bl_graph_nodes.specs.Nodes.{Node, entry}
use Rattle.bl_graph_nodes.specs.Plain.{Block, Bodies, Label, Plain, Act, Again, Await, Body as BodyOf, Cobegin, Done, If, Last, Repeat, Run as RunOf, Then}
use Rattle.bl_graph_nodes.specs.Plain.{Until, When, While}
use Rattle.bl_ctree_laws.specs.Steps.{turn}
use Rattle.bl_ctree_laws.specs.Trees.{before}

-- what a loop that begins with a head opens: its first turn, and what follows that
abbrev pub opened : Plain → Block
opened (Repeat l at body) = turn body (Repeat l at body)
opened (Until l at body e) = turn body (Again l at body e)
opened s = Then s Done

-- each head may fall away, in each instance, whatever stands in its loop's place
abbrev pub AnyHead : ℕ → Node → Plain → Type 0
AnyHead i n s = ⊤

-- H n s says that the head of the loop s may fall away where the node n begins what stands in its place.
mutual
  -- two blocks, where the second has first turns of the first one's loops unrolled; labels are free in it, and places but for a `run`'s
  pub data Unrolls (H : Node → Plain → Type 0) : Block → Block → Type 0 where
    -- nothing is left of either
    no_more : Unrolls H Done Done
    -- the first statements are alike
    first_alike : {s t : Plain} {rest rest' : Block} → PlainUnrolls H s t → Unrolls H rest rest' → Unrolls H (Then s rest) (Then t rest')
    -- the first turn of a `repeat` stands in its place
    first_repeat : {l : Label} {at : Place} {body rest : Block} {t : Plain} {rest' : Block} → H (entry t) (Repeat l at body) →
        Unrolls H (before (opened (Repeat l at body)) rest) (Then t rest') → Unrolls H (Then (Repeat l at body) rest) (Then t rest')
    -- the first turn of a `repeat .. until`, and the test at its end
    first_until : {l : Label} {at : Place} {body : Block} {e : Expr} {rest : Block} {t : Plain} {rest' : Block} → H (entry t) (Until l at body e) →
        Unrolls H (before (opened (Until l at body e)) rest) (Then t rest') → Unrolls H (Then (Until l at body e) rest) (Then t rest')

  -- two statements of one form, with unrolled blocks in the second; or a loop's test and the `if` that does its next turn
  pub data PlainUnrolls (H : Node → Plain → Type 0) : Plain → Plain → Type 0 where
    acts_alike : {l m : Label} {s : Stmt} → PlainUnrolls H (Act l s) (Act m s)
    awaits_alike : {l m : Label} {at at' : Place} {e : Expr} → PlainUnrolls H (Await l at e) (Await m at' e)
    runs_alike : {l m : Label} {at : Place} {target : Option Path} {a : ℕ} {inputs : List Expr} {outputs : List Path} →
        PlainUnrolls H (RunOf l at target a inputs outputs) (RunOf m at target a inputs outputs)
    ifs_alike : {l m : Label} {at at' : Place} {e : Expr} {body body' other other' : Block} → Unrolls H body body' → Unrolls H other other' →
        PlainUnrolls H (If l at e body other) (If m at' e body' other')
    cobegins_alike : {l m : Label} {at at' : Place} {bodies bodies' : Bodies} → EachUnrolls H bodies bodies' →
        PlainUnrolls H (Cobegin l at bodies) (Cobegin m at' bodies')
    whens_alike : {l m : Label} {at at' : Place} {guard : GuardKind} {e : Expr} {body body' : Block} → Unrolls H body body' →
        PlainUnrolls H (When l at guard e body) (When m at' guard e body')
    repeats_alike : {l m : Label} {at at' : Place} {body body' : Block} → Unrolls H body body' → PlainUnrolls H (Repeat l at body) (Repeat m at' body')
    untils_alike : {l m : Label} {at at' : Place} {body body' : Block} {e : Expr} → Unrolls H body body' →
        PlainUnrolls H (Until l at body e) (Until m at' body' e)
    whiles_alike : {l m : Label} {at at' : Place} {e : Expr} {body body' : Block} → Unrolls H body body' →
        PlainUnrolls H (While l at e body) (While m at' e body')
    agains_alike : {l m : Label} {at at' : Place} {body body' : Block} {e : Expr} → Unrolls H body body' →
        PlainUnrolls H (Again l at body e) (Again m at' body' e)
    -- the first turn of a `while`, below its test
    while_if : {l m : Label} {at at' : Place} {e : Expr} {body body' : Block} → Unrolls H (turn body (While l at e body)) body' →
        PlainUnrolls H (While l at e body) (If m at' e body' Done)
    -- the test after the first turn of a `repeat .. until`, and the further ones
    again_if : {l m : Label} {at at' : Place} {e : Expr} {body other : Block} → Unrolls H (Then (Until l at body e) Done) other →
        PlainUnrolls H (Again l at body e) (If m at' e Done other)

  -- two lists of branches, branch by branch, each weak where the other is
  pub data EachUnrolls (H : Node → Plain → Type 0) : Bodies → Bodies → Type 0 where
    no_body : EachUnrolls H Last Last
    one_body : {weak : Bool} {body body' : Block} {rest rest' : Bodies} → Unrolls H body body' → EachUnrolls H rest rest' →
        EachUnrolls H (BodyOf weak body rest) (BodyOf weak body' rest')
