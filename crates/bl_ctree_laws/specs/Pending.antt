-- What can still happen in a tree before its next pause, by syntax alone: whether it may end, and what it may write.
use Rattle.std.specs.Prelude.{ℕ, Bool, true, false, not, ◌&&◌, ◌||◌, List, map, if◌then◌else◌}
use Rattle.std.specs.List.{list_any}
use Rattle.bl_tree.specs.declared.place.Place.{Place}
use Rattle.bl_tree.specs.declared.static_path.Static.{Static}
use Rattle.bl_tree.specs.Effects.{target_static, writes}
use Rattle.bl_tree.specs.Static.{static_of}
use Rattle.bl_graph_nodes.specs.Nodes.{are_instant, is_instant}
use Rattle.bl_graph_nodes.specs.Plain.{Block, Bodies, Plain, Act, Again, Await, Body as BodyOf, Cobegin, Done, If, Last, Repeat, Run as RunOf, Then, Until}
use Rattle.bl_graph_nodes.specs.Plain.{When, While}
use Rattle.bl_ctree.specs.Actions.{Effect, effect_reads}
use Rattle.bl_ctree.specs.Control.{Phase, Check, Body}
use Rattle.bl_ctree.specs.Instances.{Setting}
use Rattle.bl_ctree.specs.Pending.{is_reset_kind}
use Rattle.bl_ctree.specs.Store.{Location, home, overlap}
use Rattle.bl_ctree_laws.specs.Trees.{Call, Tree, Trees, Watch, Nil, Wait, Test, Idle, Do, Seq, Par, Guard, Run, no_tree, beside, has_strong, is_settled}

-- what a step does: the place of its statement, the instance in which that stands, and the effect
pub record Deed : Type 0 where
  pub place : Place
  pub instance : ℕ
  pub effect : Effect

-- a deed by its parts
abbrev pub deed : ℕ → Place → Effect → Deed
deed i at effect = record { place = at; instance = i; effect = effect }

-- the homes that a deed reads
abbrev pub deed_reads : Setting → Deed → List Location
deed_reads w a = effect_reads w a.instance a.effect

-- ---- what begins

abbrev mutual
  -- whether a statement that begins can write a static path that passes the test before it pauses; a `run` writes its target later
  pub soon : (Static → Bool) → Plain → Bool
  soon test (Act l s) = list_any test (writes s)
  soon test (Await l at e) = false
  soon test (RunOf l at target a inputs outputs) = list_any test (map static_of outputs)
  soon test (If l at e body other) = soon_in test body || soon_in test other
  soon test (Cobegin l at bodies) = soon_in_each test bodies
  soon test (When l at guard e body) = soon_in test body
  soon test (Repeat l at body) = soon_in test body
  soon test (Until l at body e) = soon_in test body
  soon test (While l at e body) = soon_in test body
  soon test (Again l at body e) = soon_in test body

  -- a block does what its first does and, where that may end at once, what the rest does
  pub soon_in : (Static → Bool) → Block → Bool
  soon_in test Done = false
  soon_in test (Then s rest) = soon test s || (is_instant s && soon_in test rest)

  -- branches can write what one of them can
  pub soon_in_each : (Static → Bool) → Bodies → Bool
  soon_in_each test Last = false
  soon_in_each test (BodyOf weak body rest) = soon_in test body || soon_in_each test rest

-- ---- ends

-- a guard that is still to be tested: `abort` may end it, `reset` may begin its body anew
abbrev pub guard_may_end : Phase → Watch → Bool → Bool
guard_may_end Check s inner = if is_reset_kind s.guard then inner || are_instant s.body else true
guard_may_end Body s inner = inner

-- a `run` that is still to copy its inputs may end
abbrev pub run_may_end : Phase → Bool → Bool
run_may_end Check inner = true
run_may_end Body inner = inner

abbrev mutual
  -- whether the tree may end in this tick
  pub may_end : Tree → Bool
  may_end Nil = true
  may_end (Wait s) = false
  may_end (Test s) = true
  may_end (Idle body) = false
  may_end (Do s) = is_instant s
  may_end (Seq c rest) = may_end c && are_instant rest
  may_end (Par s stood branches) = may_join (has_strong branches) branches
  may_end (Guard s phase stood c) = guard_may_end phase s (may_end c)
  may_end (Run s callee phase stood c) = run_may_end phase (may_end c)

  -- whether branches let their `cobegin` end: all strong ones may end, or some branch may where none is strong
  pub may_join : Bool → Trees → Bool
  may_join true no_tree = true
  may_join false no_tree = false
  may_join true (beside weak c rest) = (weak || may_end c) && may_join true rest
  may_join false (beside weak c rest) = may_end c || may_join false rest

-- ---- writes

-- whether a static path of the instance has a home that overlaps the location
abbrev pub leads_over : Setting → ℕ → Location → Static → Bool
leads_over w i at path = overlap at (home w (record { instance = i; path = path }))

-- an unsettled `run` may write all its outputs, whatever its body does, and its target where it may end
abbrev pub run_writes : (Static → Bool) → Call → Bool → Bool → Bool
run_writes test s settled ends =
    not settled && (list_any test (map static_of s.arguments.outputs) || (ends && list_any test (target_static s.arguments.target)))

-- a `reset` that is still to be tested may begin its body anew
abbrev pub anew : (Static → Bool) → Watch → Phase → Bool
anew test s Check = is_reset_kind s.guard && soon_in test s.body
anew test s Body = false

abbrev mutual
  -- whether the tree may still write a static path that passes the test in this tick; called instances count by their outputs
  pub may_write_path : (Static → Bool) → Tree → Bool
  may_write_path test Nil = false
  may_write_path test (Wait s) = false
  may_write_path test (Test s) = false
  may_write_path test (Idle body) = false
  may_write_path test (Do s) = soon test s
  may_write_path test (Seq c rest) = may_write_path test c || (may_end c && soon_in test rest)
  may_write_path test (Par s stood branches) = any_writes_path test branches
  may_write_path test (Guard s phase stood c) = may_write_path test c || anew test s phase
  may_write_path test (Run s callee phase stood c) = run_writes test s (is_settled (Run s callee phase stood c)) (run_may_end phase (may_end c))

  -- whether one of the branches may
  pub any_writes_path : (Static → Bool) → Trees → Bool
  any_writes_path test no_tree = false
  any_writes_path test (beside weak c rest) = may_write_path test c || any_writes_path test rest

-- whether the tree, which stands in the instance, may still write something in this tick that overlaps the home
abbrev pub may_write : Setting → ℕ → Tree → Location → Bool
may_write w i c at = may_write_path (leads_over w i at) c

-- whether one of the branches may
abbrev pub any_writes : Setting → ℕ → Trees → Location → Bool
any_writes w i branches at = any_writes_path (leads_over w i at) branches

-- ---- meeting

-- whether a tree beside a step may still write what the step reads
abbrev pub meets : Setting → ℕ → Tree → Deed → Bool
meets w i c a = list_any (may_write w i c) (deed_reads w a)

-- whether one of the branches may
abbrev pub any_meets : Setting → ℕ → Trees → Deed → Bool
any_meets w i branches a = list_any (any_writes w i branches) (deed_reads w a)
