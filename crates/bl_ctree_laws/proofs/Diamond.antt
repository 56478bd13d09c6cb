-- Two steps of one tree.
use Rattle.std.proofs.Common.{◌≡◌, ◌⊎◌, inl, inr, ℕ, Bool, true, false, refl, sym, ap, ◌∙◌, subst, List, Option, Some}
use Rattle.bl_tree.proofs.Basics.{from_false, from_true_false, not_both, same_some}
use Rattle.bl_tree.specs.declared.place.Place.{Place}
use Rattle.bl_tree.specs.declared.tree.Expr.{Expr}
use Rattle.bl_tree.specs.declared.tree.Guard.TheVariants.{Abort, Reset}
use Rattle.bl_tree.specs.declared.tree.Path.{Path}
use Rattle.bl_tree.specs.declared.tree.Unit.{Unit as UnitDef}
use Rattle.bl_graph_nodes.specs.Plain.{Block, Done, Label, Run as RunOf, Then, plain_body}
use Rattle.bl_graph_nodes.specs.Nodes.{entry}
use Rattle.bl_graph_nodes.specs.Steps.{StepLabel, Inside, Here, run_node}
use Rattle.bl_ctree.specs.Actions.{Copies}
use Rattle.bl_ctree.specs.Control.{Body}
use Rattle.bl_ctree.specs.Instances.{Setting, callee_of, unit_at}
use Rattle.bl_ctree_laws.specs.Commutes.{ApartIn, OneStep, StepsCommute, Swapped, in_branches, in_first, in_others, in_sequence, left_right, right_left}
use Rattle.bl_ctree_laws.specs.Commutes.{under_guard, under_run}
use Rattle.bl_ctree_laws.specs.Pending.{Deed, any_meets, any_writes, deed, deed_reads, leads_over, may_write, meets}
use Rattle.bl_ctree_laws.specs.Shrinks.{Paces}
use Rattle.bl_ctree_laws.specs.Steps.{Moves, OneMoves, Unmet, acts, takes, passes, pauses, runs, repeats, repeats_until, leaves, turns, enters, skips, forks}
use Rattle.bl_ctree_laws.specs.Steps.{guards, goes_on, waits, lets, aborts, resets, guard_ends, copies, run_ends, joins, in_seq, in_par, in_guard, in_run}
use Rattle.bl_ctree_laws.specs.Steps.{first, later, call}
use Rattle.bl_ctree_laws.specs.Trees.{Call, Fork, Tree, Trees, Watch, Nil, Wait, Test, Idle, Do, Seq, Par, Guard, Run, beside, do_block, is_nil, seq}
use Rattle.bl_ctree_laws.proofs.Less.{one_unsettled, one_writes_less, writes_less}
use Rattle.bl_ctree_laws.proofs.Tests.{any_less, not_less}
use Rattle.bl_ctree_laws.proofs.Waking.{seq_busy}

-- ---- one point

alike : {d e : Bool} {a : Deed} {n : StepLabel} {after after' : Tree} → (d ≡ e → after ≡ after') → OneStep Tree d e a a n n after after'
alike leads = record { deed = refl; label = refl; leads = leads }

same : {d : Bool} {a : Deed} {n : StepLabel} {after : Tree} → OneStep Tree d d a a n n after after
same = alike (λ e. refl)

kinds_differ : {A : Type 0} → Abort ≡ Reset → A
kinds_differ e = absurd cc

-- a `run` begins one instance, of one activity
one_run : (w : Setting) {i : ℕ} {l : Label} {at : Place} {target : Option Path} {a : ℕ} {inputs : List Expr} {outputs : List Path}
    (callee callee' : ℕ) (unit unit' : UnitDef) → callee_of w i at ≡ Some callee → unit_at w callee ≡ Some unit →
    callee_of w i at ≡ Some callee' → unit_at w callee' ≡ Some unit' →
    OneStep Tree true true (deed i at (Copies callee inputs)) (deed i at (Copies callee' inputs)) (Here (entry (RunOf l at target a inputs outputs)))
    (Here (entry (RunOf l at target a inputs outputs)))
    (Run (call l at target a inputs outputs) callee Body false (do_block (plain_body unit.body)))
    (Run (call l at target a inputs outputs) callee' Body false (do_block (plain_body unit'.body)))
one_run w {i} {l} {at} {target} {a} {inputs} {outputs} callee callee' unit unit' called there called' there' =
    let one : callee ≡ callee' = same_some callee callee' (sym called ∙ called') in
    let body : unit ≡ unit' = same_some unit unit' (sym there ∙ ap (unit_at w) one ∙ there') in
    record {
      deed = ap (λ callee. deed i at (Copies callee inputs)) one;
      label = refl;
      leads = λ e. (λ j. Run (call l at target a inputs outputs) (one j) Body false (do_block (plain_body (body j).body)));
    }

-- ---- sequences

busy : {T : Bool → Type 0} {w : Setting} {i : ℕ} {c : Tree} {d : Bool} {a : Deed} {n : StepLabel} {c' : Tree} → Moves T w i c d a n c' →
    is_nil c ≡ false
busy {c = Nil} move = elim move [ ]
busy {c = Wait s} move = refl
busy {c = Test s} move = refl
busy {c = Idle body} move = refl
busy {c = Do s} move = refl
busy {c = Seq c rest} move = refl
busy {c = Par s stood branches} move = refl
busy {c = Guard s phase stood c} move = refl
busy {c = Run s callee phase stood c} move = refl

pub seq_done : (c : Tree) → seq c Done ≡ c
seq_done Nil = refl
seq_done (Wait s) = refl
seq_done (Test s) = refl
seq_done (Idle body) = refl
seq_done (Do s) = refl
seq_done (Seq c after) = refl
seq_done (Par s stood branches) = refl
seq_done (Guard s phase stood c) = refl
seq_done (Run s callee phase stood c) = refl

-- a step of a tree that something follows
followed_moves : {w : Setting} {i : ℕ} {c : Tree} {d : Bool} {a : Deed} {n : StepLabel} {c' : Tree} (rest : Block) →
    Moves Unmet w i c d a n c' → Moves Unmet w i (seq c rest) d a n (seq c' rest)
followed_moves {w} {i} {c} {d} {a} {n} {c'} Done move =
    subst (λ one. Moves Unmet w i one d a n (seq c' Done)) (sym (seq_done c)) (subst (Moves Unmet w i c d a n) (sym (seq_done c')) move)
followed_moves {w} {i} {c} {d} {a} {n} {c'} (Then s rest) move =
    subst (λ one. Moves Unmet w i one d a n (seq c' (Then s rest))) (sym (seq_busy c (Then s rest) (busy move))) (in_seq move)

-- ---- two steps

abbrev Two : Setting → ℕ → Tree → Bool → Bool → Deed → Deed → StepLabel → StepLabel → Tree → Tree → Type 0
Two w i c d e a b n m after after' = OneStep Tree d e a b n m after after' ⊎ Swapped w i c d e a b n m after after'

-- two steps of different branches
record SwappedIn (w : Setting) (i : ℕ) (branches : Trees) (d e : Bool) (a b : Deed) (n m : StepLabel) (after after' : Trees) : Type 0 where
  both : Trees
  second : OneMoves Unmet w i after e b m both
  first : OneMoves Unmet w i after' d a n both
  apart : ApartIn w i branches a b

abbrev TwoIn : Setting → ℕ → Trees → Bool → Bool → Deed → Deed → StepLabel → StepLabel → Trees → Trees → Type 0
TwoIn w i branches d e a b n m after after' = OneStep Trees d e a b n m after after' ⊎ SwappedIn w i branches d e a b n m after after'

sequence : {w : Setting} {i : ℕ} {c : Tree} {d e : Bool} {a b : Deed} {n m : StepLabel} {c1 c2 : Tree} (rest : Block) → Two w i c d e a b n m c1 c2 →
    Two w i (Seq c rest) d e a b n m (seq c1 rest) (seq c2 rest)
sequence rest (inl one) = inl (record { deed = one.deed; label = one.label; leads = λ h. ap (λ c. seq c rest) (one.leads h) })
sequence rest (inr two) = inr (record {
  both = seq two.both rest;
  second = followed_moves rest two.second;
  first = followed_moves rest two.first;
  apart = in_sequence two.apart;
})

parallel : {w : Setting} {i : ℕ} {branches : Trees} {d e : Bool} {a b : Deed} {n m : StepLabel} {one other : Trees} (s : Fork) (stood : Bool) →
    TwoIn w i branches d e a b n m one other → Two w i (Par s stood branches) d e a b n m (Par s stood one) (Par s stood other)
parallel s stood (inl one) = inl (record { deed = one.deed; label = one.label; leads = λ h. ap (Par s stood) (one.leads h) })
parallel s stood (inr two) =
    inr (record { both = Par s stood two.both; second = in_par two.second; first = in_par two.first; apart = in_branches two.apart })

guarded : {w : Setting} {i : ℕ} {c : Tree} {d e : Bool} {a b : Deed} {n m : StepLabel} {c1 c2 : Tree} (s : Watch) (stood : Bool) →
    Two w i c d e a b n m c1 c2 → Two w i (Guard s Body stood c) d e a b n m (Guard s Body stood c1) (Guard s Body stood c2)
guarded s stood (inl one) = inl (record { deed = one.deed; label = one.label; leads = λ h. ap (Guard s Body stood) (one.leads h) })
guarded s stood (inr two) =
    inr (record { both = Guard s Body stood two.both; second = in_guard two.second; first = in_guard two.first; apart = under_guard two.apart })

-- the label of a step in a call
abbrev within : Call → Bool → StepLabel → StepLabel
within s stood n = Inside (run_node stood s.label s.place s.arguments) s.unit n

called : {w : Setting} {i : ℕ} {c : Tree} {d e : Bool} {a b : Deed} {n m : StepLabel} {c1 c2 : Tree} (s : Call) (callee : ℕ) (stood : Bool) →
    Two w callee c d e a b n m c1 c2 →
    Two w i (Run s callee Body stood c) d e a b (within s stood n) (within s stood m) (Run s callee Body stood c1) (Run s callee Body stood c2)
called s callee stood (inl one) =
    inl (record { deed = one.deed; label = ap (within s stood) one.label; leads = λ h. ap (Run s callee Body stood) (one.leads h) })
called s callee stood (inr two) =
    inr (record { both = Run s callee Body stood two.both; second = in_run two.second; first = in_run two.first; apart = under_run two.apart })

in_one : {w : Setting} {i : ℕ} {c : Tree} {d e : Bool} {a b : Deed} {n m : StepLabel} {c1 c2 : Tree} (weak : Bool) (others : Trees) →
    any_meets w i others a ≡ false → any_meets w i others b ≡ false → Two w i c d e a b n m c1 c2 →
    TwoIn w i (beside weak c others) d e a b n m (beside weak c1 others) (beside weak c2 others)
in_one weak others free free' (inl one) =
    inl (record { deed = one.deed; label = one.label; leads = λ h. ap (λ c. beside weak c others) (one.leads h) })
in_one weak others free free' (inr two) =
    inr (record { both = beside weak two.both others; second = first two.second free'; first = first two.first free; apart = in_first two.apart })

in_rest : {w : Setting} {i : ℕ} {branches : Trees} {d e : Bool} {a b : Deed} {n m : StepLabel} {one other : Trees} (weak : Bool) (c : Tree) →
    meets w i c a ≡ false → meets w i c b ≡ false → TwoIn w i branches d e a b n m one other →
    TwoIn w i (beside weak c branches) d e a b n m (beside weak c one) (beside weak c other)
in_rest weak c free free' (inl one) = inl (record { deed = one.deed; label = one.label; leads = λ h. ap (beside weak c) (one.leads h) })
in_rest weak c free free' (inr two) =
    inr (record { both = beside weak c two.both; second = later two.second free'; first = later two.first free; apart = in_others two.apart })

module _ {w : Setting} (paces : Paces w) where
  -- what branches do not meet before one of them steps they do not meet after it
  any_meets_less : {i : ℕ} {branches : Trees} {d : Bool} {a : Deed} {n : StepLabel} {branches' : Trees} (b : Deed) →
      OneMoves Unmet w i branches d a n branches' → any_meets w i branches b ≡ false → any_meets w i branches' b ≡ false
  any_meets_less {i} {branches} {branches' = branches'} b move free =
      not_less (any_meets w i branches' b) (any_meets w i branches b)
      (any_less (any_writes w i branches') (any_writes w i branches) (λ at. one_writes_less paces (leads_over w i at) move) (deed_reads w b)) free

  meets_less : {i : ℕ} {c : Tree} {d : Bool} {a : Deed} {n : StepLabel} {c' : Tree} (b : Deed) →
      Moves Unmet w i c d a n c' → meets w i c b ≡ false → meets w i c' b ≡ false
  meets_less {i} {c} {c' = c'} b move free =
      not_less (meets w i c' b) (meets w i c b)
      (any_less (may_write w i c') (may_write w i c) (λ at. writes_less paces (leads_over w i at) move) (deed_reads w b)) free

  mutual
    pub two : {i : ℕ} {c : Tree} {d e : Bool} {a b : Deed} {n m : StepLabel} {c1 c2 : Tree} → Moves Unmet w i c d a n c1 → Moves Unmet w i c e b m c2 →
        Two w i c d e a b n m c1 c2
    two acts acts = inl same
    two takes takes = inl same
    two takes passes = inl (alike from_true_false)
    two passes takes = inl (alike from_false)
    two passes passes = inl same
    two pauses pauses = inl same
    two (runs {callee = callee} {unit} at there) (runs {callee = callee'} {unit = unit'} at' there') =
        inl (one_run w callee callee' unit unit' at there at' there')
    two repeats repeats = inl same
    two repeats_until repeats_until = inl same
    two leaves leaves = inl same
    two leaves turns = inl (alike from_true_false)
    two turns leaves = inl (alike from_false)
    two turns turns = inl same
    two enters enters = inl same
    two enters skips = inl (alike from_true_false)
    two skips enters = inl (alike from_false)
    two skips skips = inl same
    two forks forks = inl same
    two guards guards = inl same
    two goes_on goes_on = inl same
    two goes_on waits = inl (alike from_true_false)
    two waits goes_on = inl (alike from_false)
    two waits waits = inl same
    two lets lets = inl same
    two lets (aborts is) = inl (alike from_false)
    two lets (resets is) = inl (alike from_false)
    two (aborts is) lets = inl (alike from_true_false)
    two (aborts is) (aborts is') = inl same
    two (aborts is) (resets is') = inl (kinds_differ (sym is ∙ is'))
    two (resets is) lets = inl (alike from_true_false)
    two (resets is) (aborts is') = inl (kinds_differ (sym is' ∙ is))
    two (resets is) (resets is') = inl same
    two guard_ends guard_ends = inl same
    two guard_ends (in_guard move) = elim move [ ]
    two (in_guard move) guard_ends = elim move [ ]
    two copies copies = inl same
    two run_ends run_ends = inl same
    two run_ends (in_run move) = elim move [ ]
    two (in_run move) run_ends = elim move [ ]
    two (joins still done) (joins still' done') = inl same
    two (joins still done) (in_par move) = not_both _ (one_unsettled move) still
    two (in_par move) (joins still done) = not_both _ (one_unsettled move) still
    two (in_seq {rest = rest} move) (in_seq move') = sequence rest (two move move')
    two (in_par {s = s} {stood} move) (in_par move') = parallel s stood (two_in move move')
    two (in_guard {s = s} {stood} move) (in_guard move') = guarded s stood (two move move')
    two (in_run {s = s} {callee} {stood} move) (in_run move') = called s callee stood (two move move')

    two_in : {i : ℕ} {branches : Trees} {d e : Bool} {a b : Deed} {n m : StepLabel} {one other : Trees} → OneMoves Unmet w i branches d a n one →
        OneMoves Unmet w i branches e b m other → TwoIn w i branches d e a b n m one other
    two_in (first {weak = weak} {others = others} move free) (first move' free') = in_one weak others free free' (two move move')
    two_in (first {weak = weak} {a = a} {c' = c'} move free) (later {a = b} {others' = others'} move' free') = inr (record {
      both = beside weak c' others';
      second = later move' (meets_less b move free');
      first = first move (any_meets_less a move' free);
      apart = left_right move free move' free';
    })
    two_in (later {weak = weak} {a = a} {others' = others'} move free) (first {a = b} {c' = c'} move' free') = inr (record {
      both = beside weak c' others';
      second = first move' (any_meets_less b move free');
      first = later move (meets_less a move' free);
      apart = right_left move free move' free';
    })
    two_in (later {weak = weak} {c = c} move free) (later move' free') = in_rest weak c free free' (two_in move move')

pub steps_commute : StepsCommute
steps_commute w i c d e a b n m after after' paces move move' = two paces move move'
